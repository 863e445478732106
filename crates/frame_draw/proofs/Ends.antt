-- What the whole list of a frame, and of an opening, does.
use Rattle.std.proofs.Common.{◌≡◌, ℕ, zero, suc, ◌+◌, ◌-◌, ◌*◌, ◌/◌, ◌%◌, ◌^◌, ◌<◌, ◌≤◌, pos, negsuc, List, [], ◌∷◌, ◌++◌, length, take, drop, map, Bool, true, false, not, ◌&&◌, nat_lt, if◌then◌else◌, refl, sym, ap, subst, ◌∙◌, arith, inl, inr}
use Rattle.std.specs.Prelude.{Option, Some, None, IsTrue, filter, slice_get}
use Rattle.std.specs.List.{range_with_len}
use Rattle.std.proofs.lemmas.Bool.Decides.{nat_tests}
use Rattle.std.proofs.lemmas.List.{length-append}
use Rattle.std.proofs.lemmas.Nat.{div-mul-add, mod-mul-add}
use Rattle.gate_model.specs.declared.instr.Instr.{Instr}
use Rattle.gate_model.specs.declared.instr.Instr.TheVariants.{Size, Sync}
use Rattle.gate_model.specs.declared.key.Key.{Key}
use Rattle.gate_model.specs.picture.KeyGrid.{KeyGrid}
use Rattle.gate_model.specs.picture.Pictures.{key_at}
use Rattle.gate_model.specs.picture.Layers.{Layer, Layers, HasNoPaths, IsAlike, draw, empty_layer, is_in, nothing, open_path, play, sized}
use Rattle.gate_model.specs.picture.Shape.{AreReadable, Draws, OpensScreen, Shape, is_size}
use Rattle.gate_model.specs.session.Steps.{IsScreenSize}
use Rattle.gate_model.specs.picture.Buffers.{AreLayers, Buffers, Renews, new_keys}
use Rattle.gate_model.specs.session.Cost.{changes, cost, is_changed, old_key}
use Rattle.gate_model.proofs.Drawing.{draw-append}
use Rattle.gate_model.proofs.Readable.{readable_both}
use Rattle.frame_draw.specs.Strokes.{scroll, scrolling}
use Rattle.frame_draw.specs.Cells.{Places, AreDrawn, mixed}
use Rattle.dirty_region.specs.Places.{place_of}
use Rattle.frame_draw.specs.Along.{Along, Fits, count_below}
use Rattle.frame_draw.specs.Moved.{old_places}
use Rattle.frame_draw.specs.Fresh.{are_same, fresh, is_fresh, kept_key}
use Rattle.frame_draw.proofs.Copied.{from_layers, other_stays, scrolled, still, to_layers}
use Rattle.frame_draw.proofs.NewKeys.{same_is}
use Rattle.glyph_strokes.proofs.Allowed.{draws_both}
use Rattle.frame_draw.proofs.Allowed.{is_visible, scroll_draws, scroll_readable}
use Rattle.frame_draw.proofs.Left.{count_all}
use Rattle.frame_draw.proofs.Going.{mixed_all}

-- ---- the places of the old screen, scrolled
not_false : (b : Bool) → not b ≡ false → b ≡ true
not_false true e = refl
not_false false e = absurd (cc)

-- what didn't change has its key already
pub old_fits : (old now : KeyGrid) (shift : ℕ) → Fits now (old_places old shift) (is_changed old now shift)
old_fits old now shift place e = ap (λ (k : Key). Some k) (sym (same_is (key_at now.keys place) (old_key old shift place) (not_false _ e)))

-- ---- what stands before the places
pub record Begins (cols rows : ℕ) (at rest : Places) (before : Buffers) (first : List Instr) : Type 0 where
  pub layers : (m : Layers) → AreDrawn m cols rows at before → AreDrawn (draw m first) cols rows rest before
  pub draws : Draws cols rows [] first
  pub readable : AreReadable first
  pub short : length first ≤ 1

less : (m : Layers) (cols rows : ℕ) (at next : Places) (keys : Buffers) → ((p : ℕ) → next p ≡ at p) → AreDrawn m cols rows at keys → AreDrawn m cols rows next keys
less m cols rows at next keys same a = record {
  width = a.width;
  height = a.height;
  pixels = λ x y k low high e. a.pixels x y k low high (sym (same ((y / 16) * cols + x / 8)) ∙ e);
  buffers = a.buffers;
  others = a.others;
  no_paths = a.no_paths;
}

pub begins : (old : KeyGrid) (shift : ℕ) (before : Buffers) → IsScreenSize old.cols old.rows
    → Begins old.cols old.rows (λ p. Some (key_at old.keys p)) (old_places old shift) before (scrolling old.cols old.rows shift)
unfolding scrolling
begins old shift before size = cases (nat_lt 0 shift) (nat_lt shift old.rows) refl refl
  where
    cases : (b c : Bool) → nat_lt 0 shift ≡ b → nat_lt shift old.rows ≡ c
        → Begins old.cols old.rows (λ p. Some (key_at old.keys p)) (old_places old shift) before (if b && c then scroll old.cols old.rows shift ∷ [] else [])
    cases true true e f =
        let some : shift < old.rows = grind (arith, nat_tests) in
        record {
          layers = λ m a. scrolled m old before shift some a;
          draws = scroll_draws old.cols old.rows shift;
          readable = (scroll_readable old.cols old.rows shift size.few_columns size.few_rows some, tt);
          short = omega arith;
        }
    cases false c e f =
        let none : shift ≡ 0 = grind (arith, nat_tests) in
        record {
          layers = λ m a. less m old.cols old.rows (λ p. Some (key_at old.keys p)) (old_places old shift) before (λ p. ap (λ (k : Key). Some k) (still old shift p (inl none))) a;
          draws = refl;
          readable = tt;
          short = omega arith;
        }
    cases true false e f =
        let none : old.rows ≤ shift = grind (arith, nat_tests) in
        record {
          layers = λ m a. less m old.cols old.rows (λ p. Some (key_at old.keys p)) (old_places old shift) before (λ p. ap (λ (k : Key). Some k) (still old shift p (inr none))) a;
          draws = refl;
          readable = tt;
          short = omega arith;
        }

-- ---- the list and its sync
take_all : (ks : List Key) → take (length ks) ks ≡ ks
take_all [] = refl
take_all (k ∷ ks) = ap (λ (js : List Key). k ∷ js) (take_all ks)

module _ (now : KeyGrid) (rest : Places) (before : Buffers) (copies : ℕ → Bool) (t : ℕ) (first list is : List Instr) (keys : Buffers)
    (size : IsScreenSize now.cols now.rows) (full : length now.keys ≡ now.rows * now.cols) (small : t < 2 ^ 64) (ends : is ≡ list ++ Sync t ∷ [])
    (begun : Draws now.cols now.rows [] first) (allowed : AreReadable first) (one : length first ≤ 1) (a : Along now first before rest copies (length now.keys) (length now.keys) list keys) where
  pub ended_shape : Shape now.cols now.rows is t
  ended_shape = record {
    body = first ++ a.more;
    ends = ends ∙ ap (λ (xs : List Instr). xs ++ Sync t ∷ []) a.added;
    body_draws = draws_both now.cols now.rows [] first a.more begun a.draws;
    in_range = subst AreReadable (sym (ends ∙ ap (λ (xs : List Instr). xs ++ Sync t ∷ []) a.added)) (readable_both (first ++ a.more) (Sync t ∷ []) (readable_both first a.more allowed a.readable) (small, tt));
  }

  pub ended_layers : (m : Layers) → AreDrawn (draw m first) now.cols now.rows rest before → AreLayers (draw m is) now keys
  ended_layers m d =
      let drawn : draw m is ≡ draw (draw m first) a.more =
      ap (draw m) (ends ∙ ap (λ (xs : List Instr). xs ++ Sync t ∷ []) a.added) ∙ (draw-append m (first ++ a.more) (Sync t ∷ []) ∙ draw-append m first a.more) in
      subst (λ (n : Layers). AreLayers n now keys) (sym drawn)
      (to_layers (draw (draw m first) a.more) now (mixed now rest (length now.keys)) keys (λ p lt. mixed_all now rest (length now.keys) p (omega (arith, lt, full))) (a.layers (draw m first) d))

  pub ended_short : length (before ++ new_keys before now.keys) ≤ 1024 → length is ≤ 2 + count_below copies (length now.keys) + 25 * length (new_keys before now.keys)
  ended_short few =
      omega (
        arith,
        ap length (ends ∙ ap (λ (xs : List Instr). xs ++ Sync t ∷ []) a.added),
        length-append (first ++ a.more) (Sync t ∷ []),
        length-append first a.more,
        one,
        subst (λ (ks : List Key). length (before ++ new_keys before ks) ≤ 1024 → length a.more ≤ count_below copies (length now.keys) + 25 * length (new_keys before ks)) (take_all now.keys) a.short few,
      )

  pub ended_keys : length (before ++ new_keys before now.keys) ≤ 1024 → keys ≡ before ++ new_keys before now.keys
  ended_keys few = subst (λ (ks : List Key). length (before ++ new_keys before ks) ≤ 1024 → keys ≡ before ++ new_keys before ks) (take_all now.keys) a.exact few

-- ---- a frame from an old screen of the same size
begins_same : (old : KeyGrid) (cols rows shift : ℕ) (before : Buffers) (first : List Instr) → old.cols ≡ cols → old.rows ≡ rows → IsScreenSize cols rows → first ≡ scrolling cols rows shift
    → Begins cols rows (λ p. Some (key_at old.keys p)) (old_places old shift) before first
begins_same old cols rows shift before first c r size is =
    subst (λ (xs : List Instr). Begins cols rows (λ p. Some (key_at old.keys p)) (old_places old shift) before xs) (sym is)
    (subst (λ (n : ℕ). Begins n rows (λ p. Some (key_at old.keys p)) (old_places old shift) before (scrolling n rows shift)) c
    (subst (λ (n : ℕ). Begins old.cols n (λ p. Some (key_at old.keys p)) (old_places old shift) before (scrolling old.cols n shift)) r
    (begins old shift before (subst (λ (n : ℕ). IsScreenSize old.cols n) (sym r) (subst (λ (n : ℕ). IsScreenSize n rows) (sym c) size)))))

pub record IsFrame (old now : KeyGrid) (shift : ℕ) (before : Buffers) (t : ℕ) (is : List Instr) (keys : Buffers) : Type 0 where
  pub shape : Shape now.cols now.rows is t
  pub renews : Renews old before is now keys
  pub stays : length before ≤ length keys
  pub keys_are : length (before ++ new_keys before now.keys) ≤ 1024 → keys ≡ before ++ new_keys before now.keys
  pub cheap : length (before ++ new_keys before now.keys) ≤ 1024 → length is ≤ cost (length (changes old now shift)) (length (new_keys before now.keys))

pub frame_of : (old now : KeyGrid) (shift : ℕ) (before : Buffers) (t : ℕ) (first list is : List Instr) (keys : Buffers)
    → IsScreenSize now.cols now.rows → old.cols ≡ now.cols → old.rows ≡ now.rows → length now.keys ≡ now.rows * now.cols → t < 2 ^ 64
    → first ≡ scrolling now.cols now.rows shift → is ≡ list ++ Sync t ∷ []
    → Along now first before (old_places old shift) (is_changed old now shift) (length now.keys) (length now.keys) list keys
    → IsFrame old now shift before t is keys
frame_of old now shift before t first list is keys size c r full small begun ends a =
    let rest : Places = old_places old shift in
    let copies : ℕ → Bool = is_changed old now shift in
    let b = begins_same old now.cols now.rows shift before first c r size begun in
    record {
      shape = ended_shape now rest before copies t first list is keys size full small ends b.draws b.readable b.short a;
      renews = λ m layers. ended_layers now rest before copies t first list is keys size full small ends b.draws b.readable b.short a m
          (b.layers m (subst (λ (n : ℕ). AreDrawn m now.cols n (λ p. Some (key_at old.keys p)) before) r (subst (λ (n : ℕ). AreDrawn m n old.rows (λ p. Some (key_at old.keys p)) before) c (from_layers m old before layers))));
      stays = a.stays;
      keys_are = ended_keys now rest before copies t first list is keys size full small ends b.draws b.readable b.short a;
      cheap = λ few. omega (arith, ended_short now rest before copies t first list is keys size full small ends b.draws b.readable b.short a few, count_all copies (length now.keys));
    }

-- ---- an opening
pub no_places : Places
no_places place = None

blank_screen : (now : KeyGrid) → AreDrawn (play nothing (Size (pos 0) (8 * now.cols) (16 * now.rows))) now.cols now.rows no_places []
unfolding no_places
blank_screen now = record {
  width = refl;
  height = refl;
  pixels = λ x y k low high e. absurd (cc);
  buffers = λ n. record { width = refl; height = refl; pixels = λ x y low high. refl };
  others = λ n. others n;
  no_paths = closed;
}
  where
    others : (n : ℕ) → IsAlike (play nothing (Size (pos 0) (8 * now.cols) (16 * now.rows)) (pos (suc n))) empty_layer
    others n = subst (λ (l : Layer). IsAlike l empty_layer) (other_stays nothing (sized empty_layer (8 * now.cols) (16 * now.rows)) n) (record { width = refl; height = refl; pixels = λ x y low high. refl })

    closed : HasNoPaths (play nothing (Size (pos 0) (8 * now.cols) (16 * now.rows)))
    closed (pos zero) = refl
    closed (pos (suc n)) = subst (λ (l : Layer). open_path l ≡ []) (other_stays nothing (sized empty_layer (8 * now.cols) (16 * now.rows)) n) refl
    closed (negsuc n) = refl

-- over the layers of another screen what both have stays
kept_at : (old : KeyGrid) (cols x y : ℕ) → x < cols → kept_key cols old (y * cols + x) ≡ (if nat_lt x old.cols && nat_lt y old.rows then Some (key_at old.keys (y * old.cols + x)) else None)
kept_at old cols x y lt =
    ap (λ (i : ℕ). if nat_lt ((y * cols + x) % cols) old.cols && nat_lt i old.rows then Some (key_at old.keys (i * old.cols + (y * cols + x) % cols)) else None) (div-mul-add y cols x lt)
    ∙ ap (λ (i : ℕ). if nat_lt i old.cols && nat_lt y old.rows then Some (key_at old.keys (y * old.cols + i)) else None) (mod-mul-add y cols x lt)

record IsKept (old : KeyGrid) (x y : ℕ) (key : Key) : Type 0 where
  column : x < old.cols
  row : y < old.rows
  key_is : key_at old.keys (y * old.cols + x) ≡ key

kept_is : (old : KeyGrid) (cols x y : ℕ) (key : Key) → x < cols → kept_key cols old (y * cols + x) ≡ Some key → IsKept old x y key
kept_is old cols x y key lt e = cases (nat_lt x old.cols) (nat_lt y old.rows) refl refl (sym (kept_at old cols x y lt) ∙ e)
  where
    cases : (b c : Bool) → nat_lt x old.cols ≡ b → nat_lt y old.rows ≡ c → (if b && c then Some (key_at old.keys (y * old.cols + x)) else None) ≡ Some key → IsKept old x y key
    cases true true f g h = record { column = grind (arith, nat_tests); row = grind (arith, nat_tests); key_is = cc }
    cases true false f g h = absurd (cc)
    cases false c f g h = absurd (cc)

both_sizes : (a b c : Bool) → a ≡ true → b ≡ true → c ≡ true → (a && b && c) ≡ true
both_sizes true true true e f g = refl
both_sizes false b c e f g = absurd (cc)
both_sizes true false c e f g = absurd (cc)
both_sizes true true false e f g = absurd (cc)

below_it : (a b : ℕ) → a < b → nat_lt a b ≡ true
below_it a b lt = grind (arith, nat_tests)

inside_it : (l : Layer) (w h x y : ℕ) → l.width ≡ w → l.height ≡ h → x < w → y < h → is_in x y l ≡ true
inside_it l w h x y is_w is_h in_x in_y = grind (arith, nat_tests)

sized_screen : (m : Layers) (old now : KeyGrid) (before : Buffers) → AreLayers m old before → AreDrawn (play m (Size (pos 0) (8 * now.cols) (16 * now.rows))) now.cols now.rows (kept_key now.cols old) before
sized_screen m old now before layers = record {
  width = refl;
  height = refl;
  pixels = λ x y k low high e.
      let t = kept_is old now.cols (x / 8) (y / 16) k (omega (arith, low)) e in
      let in_x : x < 8 * old.cols = omega (arith, t.column) in
      let in_y : y < 16 * old.rows = omega (arith, t.row) in
      ap (λ (b : Bool). if b then (m (pos 0)).pixel x y else None)
      (both_sizes (is_in x y (m (pos 0))) (nat_lt x (8 * now.cols)) (nat_lt y (16 * now.rows)) (inside_it (m (pos 0)) (8 * old.cols) (16 * old.rows) x y a.width a.height in_x in_y) (below_it x (8 * now.cols) low) (below_it y (16 * now.rows) high))
      ∙ a.pixels x y k in_x in_y (ap (λ (q : Key). Some q) t.key_is);
  buffers = λ n. a.buffers n;
  others = λ n. subst (λ (l : Layer). IsAlike l empty_layer) (other_stays m (sized (m (pos 0)) (8 * now.cols) (16 * now.rows)) n) (a.others n);
  no_paths = closed;
}
  where
    a : AreDrawn m old.cols old.rows (λ p. Some (key_at old.keys p)) before
    a = from_layers m old before layers

    closed : HasNoPaths (play m (Size (pos 0) (8 * now.cols) (16 * now.rows)))
    closed (pos zero) = a.no_paths (pos zero)
    closed (pos (suc n)) = subst (λ (l : Layer). open_path l ≡ []) (other_stays m (sized (m (pos 0)) (8 * now.cols) (16 * now.rows)) n) (a.no_paths (pos (suc n)))
    closed (negsuc n) = a.no_paths (negsuc n)

whole_size : (cols rows : ℕ) → IsTrue (is_size cols rows (pos 0) (8 * cols) (16 * rows))
whole_size cols rows = grind (arith, nat_tests)

pub every : ℕ → Bool
every place = true

every_fits : (now : KeyGrid) → Fits now no_places every
unfolding every
every_fits now place e = absurd (let wrong : true ≡ false = e in cc)

read_at : (keys : List Key) (n : ℕ) (k : Key) → slice_get keys n ≡ Some k → key_at keys n ≡ k
read_at [] n k got = absurd (cc)
read_at (q ∷ keys) zero k got = cc
read_at (q ∷ keys) (suc n) k got = read_at keys n k got

-- what isn't fresh has its key already
fresh_fits : (old now : KeyGrid) → Fits now (kept_key now.cols old) (is_fresh now.cols old now.keys)
fresh_fits old now place e = cases (slice_get now.keys place) (kept_key now.cols old place) refl (not_false (are_same (slice_get now.keys place) (kept_key now.cols old place)) e)
  where
    cases : (o was : Option Key) → slice_get now.keys place ≡ o → are_same o was ≡ true → was ≡ Some (key_at now.keys place)
    cases (Some a) (Some b) got f = ap (λ (k : Key). Some k) (sym (same_is a b f)) ∙ ap (λ (k : Key). Some k) (sym (read_at now.keys place a got))
    cases None was got f = absurd (let wrong : false ≡ true = f in cc)
    cases (Some a) None got f = absurd (let wrong : false ≡ true = f in cc)

-- a list that sizes the visible layer, over which some places have a key, and draws the others
pub record IsSized (now : KeyGrid) (rest : Places) (copies : ℕ → Bool) (before : Buffers) (t : ℕ) (is : List Instr) (keys : Buffers) : Type 0 where
  pub shape : Shape now.cols now.rows is t
  pub opens : OpensScreen is
  pub leaves : (m : Layers) → AreDrawn (play m (Size (pos 0) (8 * now.cols) (16 * now.rows))) now.cols now.rows rest before → AreLayers (draw m is) now keys
  pub stays : length before ≤ length keys
  pub keys_are : length (before ++ new_keys before now.keys) ≤ 1024 → keys ≡ before ++ new_keys before now.keys
  pub short : length (before ++ new_keys before now.keys) ≤ 1024 → length is ≤ 2 + count_below copies (length now.keys) + 25 * length (new_keys before now.keys)

sized_list : (now : KeyGrid) (cols rows : ℕ) (none first : List Instr) → cols ≡ now.cols → rows ≡ now.rows → none ≡ [] → first ≡ none ++ Size (pos 0) (8 * cols) (16 * rows) ∷ []
    → first ≡ Size (pos 0) (8 * now.cols) (16 * now.rows) ∷ []
sized_list now cols rows none first c r e f =
    f ∙ (ap (λ (xs : List Instr). xs ++ Size (pos 0) (8 * cols) (16 * rows) ∷ []) e
    ∙ (ap (λ (n : ℕ). Size (pos 0) (8 * n) (16 * rows) ∷ []) c ∙ ap (λ (n : ℕ). Size (pos 0) (8 * now.cols) (16 * n) ∷ []) r))

sized_first : (now : KeyGrid) (rest : Places) (copies : ℕ → Bool) (before : Buffers) (t : ℕ) (first list is : List Instr) (keys : Buffers)
    → IsScreenSize now.cols now.rows → length now.keys ≡ now.rows * now.cols → t < 2 ^ 64
    → first ≡ Size (pos 0) (8 * now.cols) (16 * now.rows) ∷ [] → is ≡ list ++ Sync t ∷ []
    → Along now first before rest copies (length now.keys) (length now.keys) list keys → IsSized now rest copies before t is keys
sized_first now rest copies before t first list is keys size full small sized ends a =
    let begun : Draws now.cols now.rows [] first = subst (λ (xs : List Instr). Draws now.cols now.rows [] xs) (sym sized) (whole_size now.cols now.rows, refl) in
    let allowed : AreReadable first = subst AreReadable (sym sized) ((is_visible, omega (arith, size.few_columns), omega (arith, size.few_rows)), tt) in
    let one : length first ≤ 1 = omega (arith, ap length sized) in
    record {
      shape = ended_shape now rest before copies t first list is keys size full small ends begun allowed one a;
      opens = subst OpensScreen (sym (ends ∙ ap (λ (xs : List Instr). xs ++ Sync t ∷ []) (a.added ∙ ap (λ (xs : List Instr). xs ++ a.more) sized))) refl;
      leaves = λ m drawn. ended_layers now rest before copies t first list is keys size full small ends begun allowed one a m
          (subst (λ (xs : List Instr). AreDrawn (draw m xs) now.cols now.rows rest before) (sym sized) drawn);
      stays = a.stays;
      keys_are = ended_keys now rest before copies t first list is keys size full small ends begun allowed one a;
      short = ended_short now rest before copies t first list is keys size full small ends begun allowed one a;
    }

module _ (now : KeyGrid) (before : Buffers) (t cols rows : ℕ) (none first list is : List Instr) (keys : Buffers)
    (size : IsScreenSize now.cols now.rows) (full : length now.keys ≡ now.rows * now.cols) (small : t < 2 ^ 64)
    (c : cols ≡ now.cols) (r : rows ≡ now.rows) (e : none ≡ []) (f : first ≡ none ++ Size (pos 0) (8 * cols) (16 * rows) ∷ []) (ends : is ≡ list ++ Sync t ∷ []) where
  -- the first frame of all
  pub opening_of : ((rest : Places) (copies : ℕ → Bool) → Fits now rest copies → ((p : ℕ) → copies p ≡ true) → Along now first before rest copies (length now.keys) (length now.keys) list keys)
      → IsSized now no_places every before t is keys
  unfolding every
  opening_of along = sized_first now no_places every before t first list is keys size full small (sized_list now cols rows none first c r e f) ends (along no_places every (every_fits now) (λ p. refl))

  -- one from a screen of another size
  pub resized_of : (old : KeyGrid) → ((rest : Places) (copies : ℕ → Bool) → Fits now rest copies → ((p : ℕ) → copies p ≡ is_fresh now.cols old now.keys p) → Along now first before rest copies (length now.keys) (length now.keys) list keys)
      → IsSized now (kept_key now.cols old) (is_fresh now.cols old now.keys) before t is keys
  resized_of old along =
      sized_first now (kept_key now.cols old) (is_fresh now.cols old now.keys) before t first list is keys size full small (sized_list now cols rows none first c r e f) ends
      (along (kept_key now.cols old) (is_fresh now.cols old now.keys) (fresh_fits old now) (λ p. refl))

pub opening_drawn : (now : KeyGrid) (before : Buffers) (t : ℕ) (is : List Instr) (keys : Buffers) → IsSized now no_places every before t is keys → before ≡ [] → AreLayers (draw nothing is) now keys
opening_drawn now before t is keys s none =
    s.leaves nothing (subst (λ (ks : Buffers). AreDrawn (play nothing (Size (pos 0) (8 * now.cols) (16 * now.rows))) now.cols now.rows no_places ks) (sym none) (blank_screen now))

pub resized_renews : (old now : KeyGrid) (before : Buffers) (t : ℕ) (is : List Instr) (keys : Buffers) → IsSized now (kept_key now.cols old) (is_fresh now.cols old now.keys) before t is keys → Renews old before is now keys
resized_renews old now before t is keys s m layers = s.leaves m (sized_screen m old now before layers)

pub resized_few : (old now : KeyGrid) (before : Buffers) (t : ℕ) (is : List Instr) (keys : Buffers) → IsSized now (kept_key now.cols old) (is_fresh now.cols old now.keys) before t is keys
    → length (before ++ new_keys before now.keys) ≤ 1024 → length is ≤ 2 + length (fresh old now) + 25 * length (new_keys before now.keys)
resized_few old now before t is keys s few = omega (arith, s.short few, count_all (is_fresh now.cols old now.keys) (length now.keys))

-- ---- as the calls leave it
pub scroll_list : (cols rows shift across down : ℕ) (none first : List Instr) → none ≡ [] → first ≡ none ++ scrolling across down shift → across ≡ cols → down ≡ rows → first ≡ scrolling cols rows shift
scroll_list cols rows shift across down none first e f c r =
    f ∙ (ap (λ (xs : List Instr). xs ++ scrolling across down shift) e ∙ (ap (λ (n : ℕ). scrolling n down shift) c ∙ ap (λ (n : ℕ). scrolling cols n shift) r))

pub all_left : (cols total : ℕ) (copies : ℕ → Bool) (places changed : List (ℕ × ℕ)) → places ≡ changed → changed ≡ map (place_of cols) (filter copies (range_with_len 0 total))
    → drop 0 places ≡ map (place_of cols) (filter copies (range_with_len 0 (total - 0)))
all_left cols total copies places changed e f =
    let same : total ≡ total - 0 = omega arith in
    e ∙ (f ∙ ap (λ (n : ℕ). map (place_of cols) (filter copies (range_with_len 0 n))) same)
