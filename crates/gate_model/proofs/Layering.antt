-- Layers of a screen and its buffers; the keys that are new; the places that changed.
use Rattle.std.proofs.Common.{◌≡◌, ℕ, ◌+◌, ◌*◌, ◌≤◌, List, [], ◌∷◌, ◌++◌, Bool, true, false, ◌&&◌, ◌||◌, not, refl, ap, sym, ◌∙◌, subst, arith, pos, negsuc, zero, suc, ℤ}
use Rattle.std.specs.Prelude.{◌↔◌, IsTrue, ◌/◌, ◌%◌, ◌==◌, nat_lt, nat_le, min, length, filter, if◌then◌else◌}
use Rattle.std.specs.List.{list_all, range_with_len}
use Rattle.std.proofs.lemmas.Bool.Decides.{nat_tests}
use Rattle.std.proofs.lemmas.List.Folds.{list_any-append}
use Rattle.gate_model.specs.declared.key.Key.{Key}
use Rattle.gate_model.specs.picture.KeyGrid.{KeyGrid}
use Rattle.gate_model.specs.picture.Pictures.{key_at}
use Rattle.gate_model.specs.picture.Layers.{Layer, Layers, IsAlike, nothing, visible, empty_layer}
use Rattle.gate_model.specs.picture.Frames.{IsDrawn}
use Rattle.gate_model.specs.picture.Buffers.{Buffers, AreLayers, layers, is_same_key, is_held, new_keys}
use Rattle.gate_model.specs.session.Cost.{changes}

pub layers-drawn : (m : Layers) (s : KeyGrid) (keys : Buffers) → AreLayers m s keys → IsDrawn (m visible) s
layers-drawn m s keys a =
    let alike : IsAlike (m visible) (layers s keys visible) = a.same visible in
    record {
      shows = record {
        width = alike.width;
        height = alike.height;
        pixels = λ x y left upper. alike.pixels x y (rw alike.width left) (rw alike.height upper);
      };
      no_path = a.no_paths visible;
    }

empty_alike : (l : Layer) → l.width ≡ 0 → l.height ≡ 0 → IsAlike empty_layer l
empty_alike l w h = record { width = sym w; height = sym h; pixels = λ x y left upper. absurd (omega (arith, left)) }

pub nothing-layers : AreLayers nothing record { cols = 0; rows = 0; keys = [] } []
nothing-layers = record { same = same; no_paths = λ k. refl }
  where
    same : (k : ℤ) → IsAlike empty_layer (layers record { cols = 0; rows = 0; keys = [] } [] k)
    same (pos zero) = empty_alike _ refl refl
    same (pos (suc n)) = empty_alike _ refl refl
    same (negsuc n) = empty_alike _ refl refl

-- ---- keys

both : (b c : Bool) → (b && c) ≡ true → (b ≡ true) × (c ≡ true)
both true c e = (refl, e)
both false c e = absurd (let w : false ≡ true = e in cc)

equal_numbers : (a b : ℕ) → (a == b) ≡ true → a ≡ b
equal_numbers a b e = grind (arith, nat_tests)

equal_flags : (a b : Bool) → (a && b || not a && not b) ≡ true → a ≡ b
equal_flags true true e = refl
equal_flags true false e = absurd (let w : false ≡ true = e in cc)
equal_flags false true e = absurd (let w : false ≡ true = e in cc)
equal_flags false false e = refl

equal_keys : (a b : Key) → is_same_key a b ≡ true → a ≡ b
equal_keys a b e =
    let upper = both (a.face == b.face && a.ink == b.ink && a.paper == b.paper) (a.under && b.under || not a.under && not b.under) e in
    let middle = both (a.face == b.face && a.ink == b.ink) (a.paper == b.paper) upper.0 in
    let lower = both (a.face == b.face) (a.ink == b.ink) middle.0 in
    ap (λ (n : ℕ). record { face = n; under = a.under; ink = a.ink; paper = a.paper }) (equal_numbers a.face b.face lower.0)
    ∙ (ap (λ (f : Bool). record { face = b.face; under = f; ink = a.ink; paper = a.paper }) (equal_flags a.under b.under upper.1)
    ∙ (ap (λ (n : ℕ). record { face = b.face; under = b.under; ink = n; paper = a.paper }) (equal_numbers a.ink b.ink lower.1)
    ∙ ap (λ (n : ℕ). record { face = b.face; under = b.under; ink = b.ink; paper = n }) (equal_numbers a.paper b.paper middle.1)))

same_number : (n : ℕ) → (n == n) ≡ true
same_number n = grind (arith, nat_tests)

same_flag : (b : Bool) → (b && b || not b && not b) ≡ true
same_flag true = refl
same_flag false = refl

same_key : (k : Key) → is_same_key k k ≡ true
same_key k = rw (same_number k.face, same_number k.ink, same_number k.paper, same_flag k.under) refl

pub same_keys : (a b : Key) → IsTrue (is_same_key a b) ↔ (a ≡ b)
same_keys a b = (equal_keys a b, λ e. subst (λ (k : Key). is_same_key a k ≡ true) e (same_key a))

pub held-not_new : (held keys : Buffers) → IsTrue (list_all (is_held held) keys) → new_keys held keys ≡ []
held-not_new held [] e = refl
held-not_new held (k ∷ ks) e =
    let parts = both (is_held held k) (list_all (is_held held) ks) e in
    rw parts.0 (held-not_new held ks parts.1)

pub new-added : (held keys : Buffers) (key : Key) → is_held (held ++ new_keys held keys) key ≡ (is_held held key || is_held keys key)
new-added held [] key = list_any-append (is_same_key key) held []
new-added held (k ∷ ks) key = cases (is_held held k) refl (λ held. new-added held ks key)
  where
    old : (a s r : Bool) → (s ≡ true → a ≡ true) → (a || r) ≡ (a || (s || r))
    old true s r f = refl
    old false true r f = let w : false ≡ true = f refl in cc
    old false false r f = refl

    fresh : (a s n r : Bool) → (s || a || n) ≡ (s || a || r) → (a || (s || n)) ≡ (a || (s || r))
    fresh true s n r e = refl
    fresh false true n r e = refl
    fresh false false n r e = e

    cases : (b : Bool) → is_held held k ≡ b → ((held : Buffers) → is_held (held ++ new_keys held ks) key ≡ (is_held held key || is_held ks key))
        → is_held (held ++ new_keys held (k ∷ ks)) key ≡ (is_held held key || is_held (k ∷ ks) key)
    cases true e rest =
        let is_old : is_same_key key k ≡ true → is_held held key ≡ true = λ f. ap (is_held held) (equal_keys key k f) ∙ e in
        rw e (rest held ∙ old (is_held held key) (is_same_key key k) (is_held ks key) is_old)
    cases false e rest =
        let more = new_keys (k ∷ held) ks in
        let later : (is_same_key key k || is_held held key || is_held more key) ≡ (is_same_key key k || is_held held key || is_held ks key) =
        sym (list_any-append (is_same_key key) (k ∷ held) more) ∙ rest (k ∷ held) in
        rw e (list_any-append (is_same_key key) held (k ∷ more) ∙ fresh (is_held held key) (is_same_key key k) (is_held more key) (is_held ks key) later)

-- ---- places

-- the places that changed, where it is told whether fewer lines were scrolled than there are
abbrev changes_by : Bool → KeyGrid → KeyGrid → ℕ → List ℕ
changes_by b old new shift = filter (λ place. not (is_same_key (key_at new.keys place) (key_at old.keys ((if b && nat_lt (place / old.cols + shift) old.rows then place / old.cols + shift else place / old.cols) * old.cols + place % old.cols)))) (range_with_len 0 (length new.keys))

unmoved : (old new : KeyGrid) (shift : ℕ) → nat_lt shift old.rows ≡ false → changes old new shift ≡ changes_by false old new 0
unmoved old new shift e = ap (λ (b : Bool). changes_by b old new shift) e

pub changes-few_lines : (old new : KeyGrid) (shift most : ℕ) → old.rows ≤ most → changes old new (min shift most) ≡ changes old new shift
changes-few_lines old new shift most few = cases (nat_le shift most) refl
  where
    cases : (b : Bool) → nat_le shift most ≡ b → changes old new (min shift most) ≡ changes old new shift
    cases true e =
        let is : min shift most ≡ shift = grind (arith, nat_tests) in
        ap (changes old new) is
    cases false e =
        let capped : nat_lt (min shift most) old.rows ≡ false = grind (arith, nat_tests) in
        let beyond : nat_lt shift old.rows ≡ false = grind (arith, nat_tests) in
        unmoved old new (min shift most) capped ∙ sym (unmoved old new shift beyond)
