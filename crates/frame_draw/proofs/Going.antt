-- A frame goes on by one place: the place's key has a buffer, and where the place is copied its cell comes from there.
use Rattle.std.proofs.Common.{◌≡◌, ◌≢◌, ℕ, ◌+◌, ◌*◌, ◌/◌, ◌%◌, ◌<◌, ◌≤◌, ℤ, negsuc, List, [], ◌∷◌, ◌++◌, length, take, Bool, true, false, nat_lt, if◌then◌else◌, refl, sym, ap, subst, ◌∙◌, append_assoc, append-nil, arith, inl, inr}
use Rattle.std.specs.Prelude.{Option, Some}
use Rattle.std.proofs.lemmas.Bool.{cases_eq}
use Rattle.std.proofs.lemmas.Bool.Decides.{nat_tests}
use Rattle.std.proofs.lemmas.List.{length-append, length-set}
use Rattle.std.proofs.lemmas.Nat.{div-add-mod', div_below}
use Rattle.std.proofs.Math.Nat.{mod-lt}
use Rattle.gate_model.specs.declared.instr.Instr.{Instr}
use Rattle.gate_model.specs.declared.key.Key.{Key}
use Rattle.gate_model.specs.picture.KeyGrid.{KeyGrid}
use Rattle.gate_model.specs.picture.Pictures.{key_at, blank_key}
use Rattle.gate_model.specs.picture.Layers.{Layers, draw}
use Rattle.gate_model.specs.session.Steps.{IsScreenSize}
use Rattle.gate_model.specs.picture.Buffers.{Buffers, is_held, new_keys}
use Rattle.gate_model.proofs.Drawing.{draw-append}
use Rattle.gate_model.proofs.Readable.{readable_both}
use Rattle.glyph_cache.specs.declared.slot.SlotKind.{SlotKind}
use Rattle.glyph_cache.specs.declared.slot.SlotKind.TheVariants.{Held, Made, Reused}
use Rattle.glyph_cache.specs.Cache.{Gets}
use Rattle.frame_draw.specs.Strokes.{cell_copy, painting}
use Rattle.frame_draw.specs.Cells.{Places, AreDrawn, mixed}
use Rattle.frame_draw.specs.Along.{Along, Fits, Holds, IsBufferOf, count_below, held_after}
use Rattle.frame_draw.proofs.Buffered.{buffered, has_buffer}
use Rattle.frame_draw.proofs.Copied.{cell_copied}
use Rattle.frame_draw.proofs.NewKeys.{held_there, held_more, if_new, new_one_more}
use Rattle.glyph_strokes.proofs.Allowed.{draws_both}
use Rattle.frame_draw.proofs.Allowed.{copy_draws, copy_readable, held_is_painted, is_buffer, painting_draws, painting_length, painting_readable}
use Rattle.frame_draw.proofs.Left.{count_more}

-- ---- what is known of places
-- to know less
knows : (m : Layers) (cols rows : ℕ) (at next : Places) (keys : Buffers) → ((p : ℕ) (k : Key) → next p ≡ Some k → at p ≡ Some k) → AreDrawn m cols rows at keys → AreDrawn m cols rows next keys
knows m cols rows at next keys less a = record {
  width = a.width;
  height = a.height;
  pixels = λ x y k low high e. a.pixels x y k low high (less ((y / 16) * cols + x / 8) k e);
  buffers = a.buffers;
  others = a.others;
  no_paths = a.no_paths;
}

chosen : (b c : Bool) (k : Key) (o : Option Key) → b ≡ c → (if b then Some k else o) ≡ (if c then Some k else o)
chosen b c k o e = ap (λ (t : Bool). if t then Some k else o) e

mixed_none : (now : KeyGrid) (rest : Places) (p : ℕ) → mixed now rest 0 p ≡ rest p
mixed_none now rest p = chosen (nat_lt p 0) false (key_at now.keys p) (rest p) (grind (arith, nat_tests))

mixed_here : (now : KeyGrid) (rest : Places) (place : ℕ) → mixed now rest (place + 1) place ≡ Some (key_at now.keys place)
mixed_here now rest place = chosen (nat_lt place (place + 1)) true (key_at now.keys place) (rest place) (grind (arith, nat_tests))

mixed_rest : (now : KeyGrid) (rest : Places) (place : ℕ) → mixed now rest place place ≡ rest place
mixed_rest now rest place = chosen (nat_lt place place) false (key_at now.keys place) (rest place) (grind (arith, nat_tests))

mixed_other : (now : KeyGrid) (rest : Places) (place p : ℕ) → p ≢ place → mixed now rest (place + 1) p ≡ mixed now rest place p
mixed_other now rest place p ne = chosen (nat_lt p (place + 1)) (nat_lt p place) (key_at now.keys p) (rest p) (same p place ne)
  where
    same : (p place : ℕ) → p ≢ place → nat_lt p (place + 1) ≡ nat_lt p place
    same p place ne = grind (arith, nat_tests)

pub mixed_all : (now : KeyGrid) (rest : Places) (total p : ℕ) → p < total → mixed now rest total p ≡ Some (key_at now.keys p)
mixed_all now rest total p lt = chosen (nat_lt p total) true (key_at now.keys p) (rest p) (grind (arith, nat_tests))

-- ---- nothing is drawn yet
pub along_none : (now : KeyGrid) (list : List Instr) (before : Buffers) (rest : Places) (copies : ℕ → Bool) → Along now list before rest copies 0 0 list before
along_none now list before rest copies = record {
  more = [];
  added = sym (append-nil list);
  layers = λ m a. knows m now.cols now.rows rest (mixed now rest 0) before (λ p k e. sym (mixed_none now rest p) ∙ e) a;
  draws = refl;
  readable = tt;
  stays = omega arith;
  exact = λ few. sym (append-nil before);
  short = λ few. omega arith;
}

-- ---- a key has a buffer
some_new : (held : Buffers) (key : Key) (b : Bool) → is_held held key ≡ b → held ++ if_new (is_held held key) key ≡ held ++ if_new b key
some_new held key b e = ap (λ (t : Bool). held ++ if_new t key) e

if_held : (held : Buffers) (key : Key) → is_held held key ≡ true → held ++ if_new (is_held held key) key ≡ held
unfolding if_new
if_held held key e = some_new held key true e ∙ append-nil held

if_not : (held : Buffers) (key : Key) → is_held held key ≡ false → held ++ if_new (is_held held key) key ≡ held ++ key ∷ []
unfolding if_new
if_not held key e = some_new held key false e

held_in : (keys held : Buffers) (key : Key) (b : Bool) → keys ≡ held → is_held keys key ≡ b → is_held held key ≡ b
held_in keys held key b e f = sym (ap (λ (ks : Buffers). is_held ks key) e) ∙ f

pub no_longer : (held more next : Buffers) → next ≡ held ++ more → length next ≤ 1024 → length held ≤ 1024
no_longer held more next e few = omega (arith, ap length e, length-append held more, few)

pub exact_more : (kind : SlotKind) (n : ℕ) (key : Key) (keys more held next : Buffers) → Gets keys key kind n more → next ≡ held ++ if_new (is_held held key) key
    → (length held ≤ 1024 → keys ≡ held) → length next ≤ 1024 → more ≡ next
exact_more Held n key keys more held next g e same few =
    let was : keys ≡ held = same (no_longer held (if_new (is_held held key) key) next e few) in
    g.1 ∙ (was ∙ sym (e ∙ if_held held key (held_in keys held key true was (held_there keys n key g.0))))
exact_more Made n key keys more held next g e same few =
    let was : keys ≡ held = same (no_longer held (if_new (is_held held key) key) next e few) in
    g.3 ∙ (ap (λ (ks : Buffers). ks ++ key ∷ []) was ∙ sym (e ∙ if_not held key (held_in keys held key false was g.0)))
exact_more Reused n key keys more held next g e same few =
    let was : keys ≡ held = same (no_longer held (if_new (is_held held key) key) next e few) in
    let full : next ≡ held ++ key ∷ [] = e ∙ if_not held key (held_in keys held key false was g.0) in
    absurd (omega (arith, ap length full, length-append held (key ∷ []), ap length was, g.1, few))

one_new : (held : Buffers) (key : Key) → is_held held key ≡ false → length (if_new (is_held held key) key) ≡ 1
unfolding if_new
one_new held key e = ap (λ (b : Bool). length (if_new b key)) e

pub short_more : (kind : SlotKind) (n : ℕ) (k : ℤ) (key : Key) (keys more held : Buffers) → Gets keys key kind n more → (length held ≤ 1024 → keys ≡ held)
    → length held ≤ 1024 → length (painting kind k key) ≤ 25 * length (if_new (is_held held key) key)
short_more Held n k key keys more held g same few = omega (arith, ap length (held_is_painted k key))
short_more Made n k key keys more held g same few = omega (arith, painting_length Made k key, one_new held key (held_in keys held key false (same few) g.0))
short_more Reused n k key keys more held g same few = omega (arith, painting_length Reused k key, one_new held key (held_in keys held key false (same few) g.0))

pub stays_more : (kind : SlotKind) (n : ℕ) (key : Key) (keys more : Buffers) → Gets keys key kind n more → length keys ≤ length more
stays_more Held n key keys more g = omega (arith, ap length g.1)
stays_more Made n key keys more g = omega (arith, ap length g.3, length-append keys (key ∷ []))
stays_more Reused n key keys more g = omega (arith, ap length g.3, length-set keys n key)

-- a key that is held changes nothing
pub unchanged : (kind : SlotKind) (n : ℕ) (key : Key) (keys more : Buffers) → Gets keys key kind n more → is_held keys key ≡ true → more ≡ keys
unchanged Held n key keys more g e = g.1
unchanged Made n key keys more g e = absurd (let no : is_held keys key ≡ false = g.0 in cc)
unchanged Reused n key keys more g e = absurd (let no : is_held keys key ≡ false = g.0 in cc)

added_length : (xs ys : List Instr) (news more : List Key) (count : ℕ) → length xs ≤ count + 25 * length news → length ys ≤ 25 * length more → length (xs ++ ys) ≤ count + 25 * length (news ++ more)
added_length xs ys news more count p q = omega (arith, length-append xs ys, length-append news more, p, q)

pub along_held : (now : KeyGrid) (first : List Instr) (before : Buffers) (rest : Places) (copies : ℕ → Bool) (place : ℕ) (list longer : List Instr) (keys more : Buffers) (layer : ℤ)
    → place < length now.keys → Holds list keys (key_at now.keys place) layer longer more
    → Along now first before rest copies place place list keys → Along now first before rest copies place (place + 1) longer more
along_held now first before rest copies place list longer keys more layer in_place h a =
    let key : Key = key_at now.keys place in
    let is : List Instr = painting h.kind (negsuc h.n) key in
    let drawn : longer ≡ list ++ is = h.painted ∙ ap (λ (k : ℤ). list ++ painting h.kind k key) h.number in
    let next : held_after now before (place + 1) ≡ held_after now before place ++ if_new (is_held (held_after now before place) key) key = held_more before now.keys place blank_key in_place in
    let news : new_keys before (take (place + 1) now.keys) ≡ new_keys before (take place now.keys) ++ if_new (is_held (held_after now before place) key) key = new_one_more before now.keys place blank_key in_place in
    record {
      more = a.more ++ is;
      added = drawn ∙ (ap (λ (xs : List Instr). xs ++ is) a.added ∙ append_assoc first a.more is);
      layers = λ m d. subst (λ (n : Layers). AreDrawn n now.cols now.rows (mixed now rest place) more) (sym (draw-append m a.more is))
          (buffered (draw m a.more) now.cols now.rows (mixed now rest place) keys more h.kind h.n key h.gets (a.layers m d));
      draws = draws_both now.cols now.rows [] a.more is a.draws (painting_draws now.cols now.rows h.kind h.n key);
      readable = readable_both a.more is a.readable (painting_readable h.kind (negsuc h.n) key (is_buffer h.n h.small));
      stays = omega (arith, a.stays, stays_more h.kind h.n key keys more h.gets);
      exact = λ few. exact_more h.kind h.n key keys more (held_after now before place) (held_after now before (place + 1)) h.gets next a.exact few;
      short = λ few.
          let early : length (held_after now before place) ≤ 1024 = no_longer (held_after now before place) (if_new (is_held (held_after now before place) key) key) (held_after now before (place + 1)) next few in
          subst (λ (ks : List Key). length (a.more ++ is) ≤ count_below copies place + 25 * length ks) (sym news)
          (added_length a.more is (new_keys before (take place now.keys)) (if_new (is_held (held_after now before place) key) key) (count_below copies place) (a.short early)
          (short_more h.kind h.n (negsuc h.n) key keys more (held_after now before place) h.gets a.exact early));
    }

pub buffer_of : (list longer : List Instr) (keys more : Buffers) (key : Key) (layer : ℤ) → Holds list keys key layer longer more → IsBufferOf more key layer
buffer_of list longer keys more key layer h = record { n = h.n; number = h.number; small = h.small; got = has_buffer keys more h.kind h.n key h.gets }

-- ---- the place isn't copied
abbrev as_count : Bool → ℕ
as_count b = if b then 1 else 0

one_if : (b c : Bool) → b ≡ c → as_count b ≡ as_count c
one_if b c e = ap as_count e

pub along_passed : (now : KeyGrid) (first : List Instr) (before : Buffers) (rest : Places) (copies : ℕ → Bool) (place : ℕ) (list : List Instr) (keys : Buffers)
    → Fits now rest copies → copies place ≡ false
    → Along now first before rest copies place (place + 1) list keys → Along now first before rest copies (place + 1) (place + 1) list keys
along_passed now first before rest copies place list keys fits off a = record {
  more = a.more;
  added = a.added;
  layers = λ m d. knows (draw m a.more) now.cols now.rows (mixed now rest place) (mixed now rest (place + 1)) keys less (a.layers m d);
  draws = a.draws;
  readable = a.readable;
  stays = a.stays;
  exact = a.exact;
  short = λ few. omega (arith, a.short few, count_more copies place, one_if (copies place) false off);
}
  where
    less : (p : ℕ) (k : Key) → mixed now rest (place + 1) p ≡ Some k → mixed now rest place p ≡ Some k
    less p k e = elim (cases_eq p place) as (λ _. mixed now rest place p ≡ Some k) [
      | inl same ↦ subst (λ (i : ℕ). mixed now rest place i ≡ Some k) (sym same)
          (mixed_rest now rest place ∙ (fits place off ∙ (sym (mixed_here now rest place) ∙ subst (λ (i : ℕ). mixed now rest (place + 1) i ≡ Some k) same e)))
      | inr ne ↦ sym (mixed_other now rest place p ne) ∙ e
    ]

-- ---- the place is copied
some_is : (k key : Key) → Some k ≡ Some key → k ≡ key
some_is k key e = cc

column : (place cols : ℕ) → 1 ≤ cols → place % cols < cols
column place cols some = mod-lt place some

row : (place cols rows : ℕ) → 1 ≤ cols → place < rows * cols → place / cols < rows
row place cols rows some lt = div_below place cols rows some lt

longer_by_one : (xs : List Instr) (i : Instr) → length (xs ++ i ∷ []) ≡ length xs + 1
longer_by_one xs i = length-append xs (i ∷ [])

pub along_copied : (now : KeyGrid) (first : List Instr) (before : Buffers) (rest : Places) (copies : ℕ → Bool) (place : ℕ) (list longer : List Instr) (keys : Buffers) (layer : ℤ)
    → IsScreenSize now.cols now.rows → length now.keys ≡ now.rows * now.cols → place < length now.keys → copies place ≡ true
    → IsBufferOf keys (key_at now.keys place) layer → longer ≡ list ++ cell_copy layer (place % now.cols) (place / now.cols) ∷ []
    → Along now first before rest copies place (place + 1) list keys → Along now first before rest copies (place + 1) (place + 1) longer keys
along_copied now first before rest copies place list longer keys layer size full in_place on b added a =
    let x : ℕ = place % now.cols in
    let y : ℕ = place / now.cols in
    let i : Instr = cell_copy (negsuc b.n) x y in
    let in_x : x < now.cols = column place now.cols size.some_columns in
    let in_y : y < now.rows = row place now.cols now.rows size.some_columns (omega (arith, in_place, full)) in
    let back : y * now.cols + x ≡ place = div-add-mod' place now.cols in
    let drawn : longer ≡ list ++ i ∷ [] = added ∙ ap (λ (k : ℤ). list ++ cell_copy k x y ∷ []) b.number in
    record {
      more = a.more ++ i ∷ [];
      added = drawn ∙ (ap (λ (xs : List Instr). xs ++ i ∷ []) a.added ∙ append_assoc first a.more (i ∷ []));
      layers = λ m d. subst (λ (n : Layers). AreDrawn n now.cols now.rows (mixed now rest (place + 1)) keys) (sym (draw-append m a.more (i ∷ [])))
          (cell_copied (draw m a.more) now.cols now.rows (mixed now rest place) (mixed now rest (place + 1)) keys b.n x y (key_at now.keys place) in_x in_y b.got
          (λ k e. sym (some_is (key_at now.keys place) k (sym (mixed_here now rest place) ∙ subst (λ (p : ℕ). mixed now rest (place + 1) p ≡ Some k) back e)))
          (λ p k ne e. sym (mixed_other now rest place p (λ same. ne (same ∙ sym back))) ∙ e)
          (a.layers m d));
      draws = draws_both now.cols now.rows [] a.more (i ∷ []) a.draws (copy_draws now.cols now.rows (negsuc b.n) x y);
      readable = readable_both a.more (i ∷ []) a.readable (copy_readable (negsuc b.n) x y (is_buffer b.n b.small) (omega (arith, in_x, size.few_columns)) (omega (arith, in_y, size.few_rows)), tt);
      stays = a.stays;
      exact = a.exact;
      short = λ few. omega (arith, a.short few, longer_by_one a.more i, count_more copies place, one_if (copies place) true on);
    }
