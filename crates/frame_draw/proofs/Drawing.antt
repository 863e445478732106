-- A screen is drawn place by place: each place's key has a buffer, and its cell comes from there, or with a run from where
-- the same keys stand already.
use Rattle.std.proofs.Common.{◌≡◌, ◌≢◌, ℕ, zero, suc, ◌+◌, ◌*◌, ◌/◌, ◌%◌, ◌<◌, ◌≤◌, ℤ, negsuc, List, [], ◌∷◌, ◌++◌, length, take, Bool, true, false, if◌then◌else◌, refl, sym, ap, subst, ◌∙◌, append_assoc, append-nil, arith, inl, inr}
use Rattle.std.specs.Prelude.{Option, Some, None, slice_index_or, slice_set}
use Rattle.std.proofs.lemmas.Bool.{cases_lt}
use Rattle.std.proofs.lemmas.List.{length-append}
use Rattle.std.proofs.lemmas.Nat.{div-add-mod', div_below}
use Rattle.std.proofs.Math.Nat.{mod-lt}
use Rattle.gate_model.specs.declared.instr.Instr.{Instr}
use Rattle.gate_model.specs.declared.key.Key.{Key}
use Rattle.gate_model.specs.picture.KeyGrid.{KeyGrid}
use Rattle.gate_model.specs.picture.Pictures.{key_at, blank_key}
use Rattle.gate_model.specs.picture.Layers.{Layers, draw}
use Rattle.gate_model.specs.session.Steps.{IsScreenSize}
use Rattle.gate_model.specs.picture.Buffers.{Buffers, is_held, new_keys}
use Rattle.gate_model.proofs.Drawing.{draw-append}
use Rattle.gate_model.proofs.Readable.{readable_both}
use Rattle.glyph_strokes.proofs.Allowed.{draws_both}
use Rattle.frame_draw.specs.declared.drawer.Held.{Held}
use Rattle.frame_draw.specs.Strokes.{cell_copy, painting}
use Rattle.frame_draw.specs.Cells.{Places, AreDrawn, mixed}
use Rattle.frame_draw.specs.Along.{Along, Fits, Holds, IsBufferOf, count_below, held_after, is_on}
use Rattle.frame_draw.specs.Leads.{AreFlags, AreStruck, Leads, known}
use Rattle.frame_draw.specs.Goes.{Goes}
use Rattle.frame_draw.specs.Recent.{AreBuffers}
use Rattle.frame_draw.proofs.Buffered.{buffered}
use Rattle.frame_draw.proofs.Copied.{cell_copied}
use Rattle.frame_draw.proofs.NewKeys.{held_more, if_new, new_one_more}
use Rattle.frame_draw.proofs.Allowed.{copy_draws, copy_readable, is_buffer, painting_draws, painting_readable}
use Rattle.frame_draw.proofs.Counts.{count_same, struck, struck_more, struck_none, struck_off}
use Rattle.frame_draw.proofs.Going.{buffer_of, exact_more, mixed_all, no_longer, short_more, stays_more}
use Rattle.frame_draw.proofs.Leading.{known_rest, knows_within}
use Rattle.frame_draw.proofs.Left.{count_more}
use Rattle.frame_draw.proofs.Walking.{IsHeld, still_kept}

-- ---- nothing is drawn yet
pub goes_none : (now : KeyGrid) (list : List Instr) (keys : Buffers) (wanted : List Bool) → Goes now list keys wanted 0 0 list wanted keys
goes_none now list keys wanted = record {
  more = [];
  added = sym (append-nil list);
  layers = λ m a. a;
  draws = refl;
  readable = tt;
  alike = refl;
  done = λ p lt. absurd (omega (arith, lt));
  stays = omega arith;
  exact = λ few. sym (append-nil keys);
  short = λ few. omega arith;
}

-- ---- a key has a buffer
within_bound : (xs ys : List Instr) (news more : List Key) (left count : ℕ) → length xs + left ≤ count + 25 * length news → length ys ≤ 25 * length more → length (xs ++ ys) + left ≤ count + 25 * length (news ++ more)
within_bound xs ys news more left count p q = omega (arith, length-append xs ys, length-append news more, p, q)

pub goes_held : (now : KeyGrid) (first : List Instr) (before : Buffers) (wanted : List Bool) (drawn place : ℕ) (list longer : List Instr) (later : List Bool) (keys more : Buffers) (layer : ℤ)
    → place < length now.keys → Holds list keys (key_at now.keys place) layer longer more
    → Goes now first before wanted drawn place list later keys → Goes now first before wanted drawn (place + 1) longer later more
goes_held now first before wanted drawn place list longer later keys more layer in_place h a =
    let key : Key = key_at now.keys place in
    let is : List Instr = painting h.kind (negsuc h.n) key in
    let painted : longer ≡ list ++ is = h.painted ∙ ap (λ (k : ℤ). list ++ painting h.kind k key) h.number in
    let next : held_after now before (place + 1) ≡ held_after now before place ++ if_new (is_held (held_after now before place) key) key = held_more before now.keys place blank_key in_place in
    let news : new_keys before (take (place + 1) now.keys) ≡ new_keys before (take place now.keys) ++ if_new (is_held (held_after now before place) key) key = new_one_more before now.keys place blank_key in_place in
    record {
      more = a.more ++ is;
      added = painted ∙ (ap (λ (xs : List Instr). xs ++ is) a.added ∙ append_assoc first a.more is);
      layers = λ m d. subst (λ (n : Layers). AreDrawn n now.cols now.rows (known now later) more) (sym (draw-append m a.more is))
          (buffered (draw m a.more) now.cols now.rows (known now later) keys more h.kind h.n key h.gets (a.layers m d));
      draws = draws_both now.cols now.rows [] a.more is a.draws (painting_draws now.cols now.rows h.kind h.n key);
      readable = readable_both a.more is a.readable (painting_readable h.kind (negsuc h.n) key (is_buffer h.n h.small));
      alike = a.alike;
      done = a.done;
      stays = omega (arith, a.stays, stays_more h.kind h.n key keys more h.gets);
      exact = λ few. exact_more h.kind h.n key keys more (held_after now before place) (held_after now before (place + 1)) h.gets next a.exact few;
      short = λ few.
          let early : length (held_after now before place) ≤ 1024 = no_longer (held_after now before place) (if_new (is_held (held_after now before place) key) key) (held_after now before (place + 1)) next few in
          subst (λ (ks : List Key). length (a.more ++ is) + count_below (is_on later) (length now.keys) ≤ count_below (is_on wanted) (length now.keys) + 25 * length ks) (sym news)
          (within_bound a.more is (new_keys before (take place now.keys)) (if_new (is_held (held_after now before place) key) key) (count_below (is_on later) (length now.keys)) (count_below (is_on wanted) (length now.keys)) (a.short early)
          (short_more h.kind h.n (negsuc h.n) key keys more (held_after now before place) h.gets a.exact early));
    }

-- ---- a run is copied, or strips were filled before
pub goes_led : (now : KeyGrid) (first : List Instr) (before : Buffers) (wanted : List Bool) (drawn seen : ℕ) (list longer : List Instr) (flags later : List Bool) (keys : Buffers)
    → Leads now list flags longer later → Goes now first before wanted drawn seen list flags keys → Goes now first before wanted drawn seen longer later keys
goes_led now first before wanted drawn seen list longer flags later keys b a = record {
  more = a.more ++ b.more;
  added = b.added ∙ (ap (λ (xs : List Instr). xs ++ b.more) a.added ∙ append_assoc first a.more b.more);
  layers = λ m d. subst (λ (n : Layers). AreDrawn n now.cols now.rows (known now later) keys) (sym (draw-append m a.more b.more)) (b.layers (draw m a.more) keys (a.layers m d));
  draws = draws_both now.cols now.rows [] a.more b.more a.draws b.draws;
  readable = readable_both a.more b.more a.readable b.readable;
  alike = b.alike ∙ a.alike;
  done = λ p lt. b.off p (a.done p lt);
  stays = a.stays;
  exact = a.exact;
  short = λ few. omega (arith, a.short few, b.short, length-append a.more b.more);
}

pub led_goes : (now : KeyGrid) (first between list : List Instr) (before : Buffers) (wanted flags later : List Bool) (drawn seen : ℕ) (keys : Buffers)
    → Leads now first wanted between flags → Goes now between before flags drawn seen list later keys → Goes now first before wanted drawn seen list later keys
led_goes now first between list before wanted flags later drawn seen keys a b = record {
  more = a.more ++ b.more;
  added = b.added ∙ (ap (λ (xs : List Instr). xs ++ b.more) a.added ∙ append_assoc first a.more b.more);
  layers = λ m d. subst (λ (n : Layers). AreDrawn n now.cols now.rows (known now later) keys) (sym (draw-append m a.more b.more)) (b.layers (draw m a.more) (a.layers m before d));
  draws = draws_both now.cols now.rows [] a.more b.more a.draws b.draws;
  readable = readable_both a.more b.more a.readable b.readable;
  alike = b.alike ∙ a.alike;
  done = b.done;
  stays = b.stays;
  exact = b.exact;
  short = λ few. omega (arith, a.short, b.short few, length-append a.more b.more);
}

-- ---- a place is wanted no more
pub goes_on : (now : KeyGrid) (first : List Instr) (before : Buffers) (wanted : List Bool) (place seen : ℕ) (list : List Instr) (later : List Bool) (keys : Buffers)
    → is_on later place ≡ false → Goes now first before wanted place seen list later keys → Goes now first before wanted (place + 1) seen list later keys
goes_on now first before wanted place seen list later keys off a = record {
  more = a.more;
  added = a.added;
  layers = a.layers;
  draws = a.draws;
  readable = a.readable;
  alike = a.alike;
  done = λ p lt. elim (cases_lt p place) as (λ _. is_on later p ≡ false) [
    | inl low ↦ a.done p low
    | inr le ↦ let same : p ≡ place = omega (arith, lt, le) in ap (is_on later) same ∙ off
  ];
  stays = a.stays;
  exact = a.exact;
  short = a.short;
}

-- ---- a cell comes from its buffer
unless : (b c : Bool) (k : Key) → b ≡ c → (if b then None else Some k) ≡ (if c then None else Some k)
unless b c k e = ap (λ (t : Bool). if t then None else Some k) e

some_is : (k key : Key) → Some k ≡ Some key → k ≡ key
some_is k key e = cc

module _ (now : KeyGrid) (place : ℕ) (flags later : List Bool) (s : AreStruck flags later place (place + 1)) where
  here : (k : Key) → known now later place ≡ Some k → k ≡ key_at now.keys place
  here k e = sym (some_is (key_at now.keys place) k (sym (unless (is_on later place) false (key_at now.keys place) (s.inside place (omega arith) (omega arith))) ∙ e))

  there : (p : ℕ) (k : Key) → p ≢ place → known now later p ≡ Some k → known now flags p ≡ Some k
  there p k ne e = elim (cases_lt p place) as (λ _. known now flags p ≡ Some k) [
    | inl low ↦ sym (unless (is_on later p) (is_on flags p) (key_at now.keys p) (s.before p low)) ∙ e
    | inr le ↦ sym (unless (is_on later p) (is_on flags p) (key_at now.keys p) (s.after p (above le))) ∙ e
  ]
    where
      above : place ≤ p → place + 1 ≤ p
      above le = grind (arith, ne)

pub goes_cell : (now : KeyGrid) (first : List Instr) (before : Buffers) (wanted : List Bool) (drawn seen place : ℕ) (list longer : List Instr) (flags later : List Bool) (keys : Buffers) (layer : ℤ)
    → IsScreenSize now.cols now.rows → length now.keys ≡ now.rows * now.cols → place < length now.keys → is_on flags place ≡ true
    → IsBufferOf keys (key_at now.keys place) layer → longer ≡ list ++ cell_copy layer (place % now.cols) (place / now.cols) ∷ [] → AreStruck flags later place (place + 1)
    → Goes now first before wanted drawn seen list flags keys → Goes now first before wanted drawn seen longer later keys
goes_cell now first before wanted drawn seen place list longer flags later keys layer size full in_place on b added s a =
    let x : ℕ = place % now.cols in
    let y : ℕ = place / now.cols in
    let i : Instr = cell_copy (negsuc b.n) x y in
    let in_x : x < now.cols = mod-lt place size.some_columns in
    let in_y : y < now.rows = div_below place now.cols now.rows size.some_columns (omega (arith, in_place, full)) in
    let back : y * now.cols + x ≡ place = div-add-mod' place now.cols in
    let drawn_is : longer ≡ list ++ i ∷ [] = added ∙ ap (λ (k : ℤ). list ++ cell_copy k x y ∷ []) b.number in
    let one : count_below (is_on flags) (place + 1) ≡ count_below (is_on flags) place + 1 = count_more (is_on flags) place ∙ ap (λ (t : Bool). count_below (is_on flags) place + (if t then 1 else 0)) on in
    record {
      more = a.more ++ i ∷ [];
      added = drawn_is ∙ (ap (λ (xs : List Instr). xs ++ i ∷ []) a.added ∙ append_assoc first a.more (i ∷ []));
      layers = λ m d. subst (λ (n : Layers). AreDrawn n now.cols now.rows (known now later) keys) (sym (draw-append m a.more (i ∷ [])))
          (cell_copied (draw m a.more) now.cols now.rows (known now flags) (known now later) keys b.n x y (key_at now.keys place) in_x in_y b.got
          (λ k e. here now place flags later s k (ap (known now later) (sym back) ∙ e))
          (λ p k ne e. there now place flags later s p k (λ same. ne (same ∙ sym back)) e)
          (a.layers m d));
      draws = draws_both now.cols now.rows [] a.more (i ∷ []) a.draws (copy_draws now.cols now.rows (negsuc b.n) x y);
      readable = readable_both a.more (i ∷ []) a.readable (copy_readable (negsuc b.n) x y (is_buffer b.n b.small) (omega (arith, in_x, size.few_columns)) (omega (arith, in_y, size.few_rows)), tt);
      alike = s.alike ∙ a.alike;
      done = λ p lt. struck_off flags later place (place + 1) s p (a.done p lt);
      stays = a.stays;
      exact = a.exact;
      short = λ few. omega (arith, a.short few, length-append a.more (i ∷ []), one, struck flags later place (place + 1) (omega arith) s (length now.keys) (omega (arith, in_place)));
    }

-- ---- every place was drawn
pub along_gone : (now : KeyGrid) (list longer : List Instr) (before keys : Buffers) (rest : Places) (copies : ℕ → Bool) (flags later : List Bool)
    → length now.keys ≡ now.rows * now.cols → Fits now rest copies → AreFlags flags (length now.keys) copies
    → Goes now list before flags (length now.keys) (length now.keys) longer later keys
    → Along now list before rest copies (length now.keys) (length now.keys) longer keys
along_gone now list longer before keys rest copies flags later full fits f a =
    let total : ℕ = length now.keys in
    record {
      more = a.more;
      added = a.added;
      layers = λ m d. knows_within (draw m a.more) now.cols now.rows (known now later) (mixed now rest total) keys
          (λ p k lt e. let low : p < total = omega (arith, lt, full) in unless (is_on later p) false (key_at now.keys p) (a.done p low) ∙ (sym (mixed_all now rest total p low) ∙ e))
          (a.layers m (knows_within m now.cols now.rows rest (known now flags) before (λ p k lt e. known_rest now flags rest copies fits f p k e) d));
      draws = a.draws;
      readable = a.readable;
      stays = a.stays;
      exact = a.exact;
      short = λ few. omega (arith, a.short few, count_same (is_on flags) copies total f.told);
    }

-- ---- the loop over the places
pub record IsDrawing (now : KeyGrid) (first : List Instr) (before : Buffers) (wanted : List Bool) (place : ℕ) (recent : List (Option Held)) (list : List Instr) (later : List Bool) (keys : Buffers) : Type 0 where
  pub recent_held : AreBuffers keys recent
  pub goes : Goes now first before wanted place place list later keys
  pub kept : new_keys before now.keys ≡ [] → keys ≡ before

-- one place is struck as the code strikes it
pub one_struck : (flags later : List Bool) (place : ℕ) → place < length flags → later ≡ slice_set flags place false → AreStruck flags later place (place + 1)
one_struck flags later place lt e = struck_more flags flags later place place (omega arith) lt e (struck_none flags place)

-- a flag that is read at a place, whatever stands past the end
pub flag_is : (flags : List Bool) (place : ℕ) (d t : Bool) → place < length flags → slice_index_or flags place d ≡ t → is_on flags place ≡ t
flag_is [] place d t lt e = absurd (omega (arith, lt))
flag_is (x ∷ flags) zero d t lt e = e
flag_is (x ∷ flags) (suc place) d t lt e = flag_is flags place d t (omega (arith, lt)) e

pub drawing_none : (now : KeyGrid) (list : List Instr) (keys : Buffers) (wanted : List Bool) (recent : List (Option Held)) → AreBuffers keys recent → IsDrawing now list keys wanted 0 recent list wanted keys
drawing_none now list keys wanted recent r = record { recent_held = r; goes = goes_none now list keys wanted; kept = λ none. refl }

module _ (now : KeyGrid) (first : List Instr) (before : Buffers) (wanted : List Bool) (place : ℕ) (recent : List (Option Held)) (list : List Instr) (flags : List Bool) (keys : Buffers)
    (key : Key) (held : Held) (longer : List Instr) (more : Buffers) (h : IsHeld now place key held list keys longer more) (g : IsDrawing now first before wanted place recent list flags keys)
    (later : List (Option Held)) (r : AreBuffers more later) (between : List Instr) (left : List Bool) (led : Leads now longer flags between left) where
  held_place : Holds list keys (key_at now.keys place) held.layer longer more
  held_place = subst (λ (k : Key). Holds list keys k held.layer longer more) h.read h.holds

  led_place : Goes now first before wanted place (place + 1) between left more
  led_place = goes_led now first before wanted place (place + 1) longer between flags left more led (goes_held now first before wanted place place list longer flags keys more held.layer h.in_place held_place g.goes)

  pub drawing_passed : is_on left place ≡ false → IsDrawing now first before wanted (place + 1) later between left more
  drawing_passed off = record {
    recent_held = r;
    goes = goes_on now first before wanted place (place + 1) between left more off led_place;
    kept = still_kept now before keys more place key h.in_place h.read g.kept h.kept;
  }

  pub drawing_cell : (last : List Instr) (final : List Bool) → IsScreenSize now.cols now.rows → length now.keys ≡ now.rows * now.cols → place < length left → is_on left place ≡ true
      → last ≡ between ++ cell_copy held.layer (place % now.cols) (place / now.cols) ∷ [] → final ≡ slice_set left place false → IsDrawing now first before wanted (place + 1) later last final more
  drawing_cell last final size full lt on added set =
      let s : AreStruck left final place (place + 1) = one_struck left final place lt set in
      record {
        recent_held = r;
        goes = goes_on now first before wanted place (place + 1) last final more (s.inside place (omega arith) (omega arith))
            (goes_cell now first before wanted place (place + 1) place between last left final more held.layer size full h.in_place on
            (buffer_of list longer keys more (key_at now.keys place) held.layer held_place) added s led_place);
        kept = still_kept now before keys more place key h.in_place h.read g.kept h.kept;
      }

pub drawing_ends : (now : KeyGrid) (first : List Instr) (before : Buffers) (wanted : List Bool) (place : ℕ) (recent : List (Option Held)) (list : List Instr) (later : List Bool) (keys : Buffers)
    → place ≡ length now.keys → IsDrawing now first before wanted place recent list later keys → Goes now first before wanted (length now.keys) (length now.keys) list later keys
drawing_ends now first before wanted place recent list later keys e g = subst (λ (n : ℕ). Goes now first before wanted n n list later keys) e g.goes
