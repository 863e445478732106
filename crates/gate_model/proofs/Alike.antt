-- Layer maps that are the same and have no open path stay so under each list that a frame may hold.
use Rattle.std.proofs.Common.{◌≡◌, ℕ, ◌+◌, ◌-◌, ◌<◌, ℤ, List, [], ◌∷◌, ◌++◌, Bool, true, false, ◌&&◌, ◌||◌, refl, ap, sym, ◌∙◌, subst, arith, append_assoc, inl, inr}
use Rattle.std.specs.Prelude.{if◌then◌else◌, nat_lt, Option, Some, None}
use Rattle.std.specs.List.{list_any}
use Rattle.std.specs.Ordering.{int_eq}
use Rattle.std.proofs.lemmas.Bool.Decides.{nat_tests, Decides-int_eq}
use Rattle.gate_model.specs.declared.colour.Colour.{Colour}
use Rattle.gate_model.specs.declared.instr.Instr.{Instr}
use Rattle.gate_model.specs.declared.instr.Instr.TheVariants.{Size, Rect, Cfill, Copy, Sync, Disconnect, Error}
use Rattle.gate_model.specs.picture.Layers.{Area, HasNoPaths, Layer, Layers, with_layer, is_in, is_covered, open_path, sized, traced, painted, over, source_pixel, copied, draw, nothing, IsAlike, Same}
use Rattle.gate_model.specs.picture.Shape.{Draws, Shape, without_layer}
use Rattle.gate_model.specs.Sequences.{BeginsWith}
use Rattle.gate_model.specs.session.History.{frames_after, instructions}
use Rattle.gate_model.proofs.Drawing.{draw-append}
use Rattle.gate_model.proofs.Fronts.{front_cases}
use Rattle.gate_model.proofs.Syncs.{sync_is_last}

-- one layer in two maps: they look alike
in_alike : (l r : Layer) (x y : ℕ) → IsAlike l r → is_in x y l ≡ is_in x y r
in_alike l r x y a = rw (a.width, a.height) refl

both : (b c : Bool) → (b && c) ≡ true → (b ≡ true) × (c ≡ true)
both true c e = (refl, e)
both false c e = absurd (let w : false ≡ true = e in cc)

pixel_alike : (l r : Layer) (x y : ℕ) → IsAlike l r → is_in x y l ≡ true → l.pixel x y ≡ r.pixel x y
pixel_alike l r x y a e =
    let parts = both (nat_lt x l.width) (nat_lt y l.height) e in
    let first : nat_lt x l.width ≡ true = parts.0 in
    let second : nat_lt y l.height ≡ true = parts.1 in
    let low : x < l.width = grind (arith, nat_tests) in
    let high : y < l.height = grind (arith, nat_tests) in
    a.pixels x y low high

-- a choice between pixels that are equal where the test holds
choose : (b c d : Bool) (p q o : Option Colour) → (b ≡ true → p ≡ q) → (if b && c && d then p else o) ≡ (if b && c && d then q else o)
choose true true true p q o e = e refl
choose true true false p q o e = refl
choose true false d p q o e = refl
choose false c d p q o e = refl

source_alike : (l r : Layer) (x y : ℕ) → IsAlike l r → source_pixel l x y ≡ source_pixel r x y
source_alike l r x y a = cases (is_in x y l) refl
  where
    cases : (b : Bool) → is_in x y l ≡ b → source_pixel l x y ≡ source_pixel r x y
    cases true e = rw (e, sym (in_alike l r x y a) ∙ e) (pixel_alike l r x y a e)
    cases false e = rw (e, sym (in_alike l r x y a) ∙ e) refl

sized_alike : (l r : Layer) (w h : ℕ) → IsAlike l r → IsAlike (sized l w h) (sized r w h)
sized_alike l r w h a = record {
  width = refl;
  height = refl;
  pixels = λ x y low high.
      choose (is_in x y l) (nat_lt x w) (nat_lt y h) (l.pixel x y) (r.pixel x y) None (pixel_alike l r x y a)
      ∙ ap (λ (b : Bool). if b && nat_lt x w && nat_lt y h then r.pixel x y else None) (in_alike l r x y a);
}

traced_alike : (l r : Layer) (b : Area) → IsAlike l r → IsAlike (traced l b) (traced r b)
traced_alike l r b a = record { width = a.width; height = a.height; pixels = a.pixels }

painted_alike : (l r : Layer) (c : Colour) → l.path ≡ r.path → IsAlike l r → IsAlike (painted l c) (painted r c)
painted_alike l r c p a = record {
  width = a.width;
  height = a.height;
  pixels = λ x y low high.
      ap (λ (o : Option Colour). if is_in x y l && list_any (λ b. is_covered b x y) l.path then Some c else o) (a.pixels x y low high)
      ∙ (ap (λ (t : Bool). if t && list_any (λ b. is_covered b x y) l.path then Some c else r.pixel x y) (in_alike l r x y a)
      ∙ ap (λ (bs : List Area). if is_in x y r && list_any (λ b. is_covered b x y) bs then Some c else r.pixel x y) p);
}

copied_alike : (s z l r : Layer) (x y : ℕ) (b : Area) → IsAlike s z → IsAlike l r → IsAlike (copied s x y l b) (copied z x y r b)
copied_alike s z l r x y b from a = record {
  width = a.width;
  height = a.height;
  pixels = λ px py low high.
      ap (λ (o : Option Colour). if is_in px py l && is_covered b px py then over (source_pixel s (x + (px - b.x)) (y + (py - b.y))) o else o) (a.pixels px py low high)
      ∙ (ap (λ (t : Bool). if t && is_covered b px py then over (source_pixel s (x + (px - b.x)) (y + (py - b.y))) (r.pixel px py) else r.pixel px py) (in_alike l r px py a)
      ∙ ap (λ (o : Option Colour). if is_in px py r && is_covered b px py then over o (r.pixel px py) else r.pixel px py) (source_alike s z (x + (px - b.x)) (y + (py - b.y)) from));
}

-- no open path; or, where the layer has a rectangle that isn't filled yet, one and the same path
abbrev Paths : Bool → Layer → Layer → Type 0
Paths false l r = (open_path l ≡ []) × (open_path r ≡ [])
Paths true l r = (l.filled ≡ false) × (r.filled ≡ false) × (l.path ≡ r.path)

record Goes (b : Bool) (l r : Layer) : Type 0 where
  look : IsAlike l r
  paths : Paths b l r

-- a change that leaves path and fill
same_paths : (b : Bool) (l r k s : Layer) → k.path ≡ l.path → k.filled ≡ l.filled → s.path ≡ r.path → s.filled ≡ r.filled → Paths b l r → Paths b k s
same_paths false l r k s p f q g h = (rw (p, f) h.0, rw (q, g) h.1)
same_paths true l r k s p f q g h = (f ∙ h.0, g ∙ h.1, p ∙ (h.2 ∙ sym q))

open_same : (b : Bool) (l r : Layer) → Paths b l r → open_path l ≡ open_path r
open_same false l r h = h.0 ∙ sym h.1
open_same true l r h = rw (h.0, h.1) h.2

-- two maps: the list has the layers with a rectangle that isn't filled yet
abbrev AllGo : List ℤ → Layers → Layers → Type 0
AllGo unfilled m n = (j : ℤ) → Goes (list_any (int_eq j) unfilled) (m j) (n j)

put : (u w : List ℤ) (k : ℤ) (l r : Layer) (m n : Layers) → AllGo u m n
    → ((j : ℤ) → int_eq j k ≡ false → list_any (int_eq j) w ≡ list_any (int_eq j) u)
    → Goes (list_any (int_eq k) w) l r → AllGo w (with_layer m k l) (with_layer n k r)
put u w k l r m n all others new j = cases (int_eq j k) refl
  where
    cases : (b : Bool) → int_eq j k ≡ b → Goes (list_any (int_eq j) w) (with_layer m k l j) (with_layer n k r j)
    cases true e =
        let itself : Goes (list_any (int_eq j) w) l r = subst (λ (i : ℤ). Goes (list_any (int_eq i) w) l r) (sym ((Decides-int_eq j k).0 e)) new in
        rw e itself
    cases false e =
        let old : Goes (list_any (int_eq j) w) (m j) (n j) = subst (λ (b : Bool). Goes b (m j) (n j)) (sym (others j e)) (all j) in
        rw e old

eq_self : (k : ℤ) → int_eq k k ≡ true
eq_self k = (Decides-int_eq k k).1 refl

-- a filled layer is out of the list, and no other
dropped : (k : ℤ) (u : List ℤ) → list_any (int_eq k) (without_layer k u) ≡ false
dropped k [] = refl
dropped k (i ∷ u) = cases (int_eq i k) refl (dropped k u)
  where
    cases : (b : Bool) → int_eq i k ≡ b → list_any (int_eq k) (without_layer k u) ≡ false → list_any (int_eq k) (without_layer k (i ∷ u)) ≡ false
    cases true e more = rw e more
    cases false e more = rw e (ap (λ (b : Bool). b || list_any (int_eq k) (without_layer k u)) (turned (int_eq k i) refl) ∙ more)
      where
        turned : (b : Bool) → int_eq k i ≡ b → int_eq k i ≡ false
        turned false f = f
        turned true f = let back : int_eq i k ≡ true = (Decides-int_eq i k).1 (sym ((Decides-int_eq k i).0 f)) in cc

kept : (j k : ℤ) (u : List ℤ) → int_eq j k ≡ false → list_any (int_eq j) (without_layer k u) ≡ list_any (int_eq j) u
kept j k [] e = refl
kept j k (i ∷ u) e = cases (int_eq i k) refl (kept j k u e)
  where
    cases : (b : Bool) → int_eq i k ≡ b → list_any (int_eq j) (without_layer k u) ≡ list_any (int_eq j) u → list_any (int_eq j) (without_layer k (i ∷ u)) ≡ list_any (int_eq j) (i ∷ u)
    cases true f more =
        let other : int_eq j i ≡ false = subst (λ (x : ℤ). int_eq j x ≡ false) (sym ((Decides-int_eq i k).0 f)) e in
        rw (f, other) more
    cases false f more = rw f (ap (λ (b : Bool). int_eq j i || b) more)

all_go : (cols rows : ℕ) (u : List ℤ) (is : List Instr) (m n : Layers) → Draws cols rows u is → AllGo u m n → AllGo [] (draw m is) (draw n is)
all_go cols rows u [] m n d a = subst (λ (w : List ℤ). AllGo w m n) d a
all_go cols rows u (Size k w h ∷ is) m n d a =
    all_go cols rows u is _ _ d.1 (put u u k (sized (m k) w h) (sized (n k) w h) m n a (λ j e. refl)
    record { look = sized_alike (m k) (n k) w h (a k).look; paths = same_paths (list_any (int_eq k) u) (m k) (n k) (sized (m k) w h) (sized (n k) w h) refl refl refl refl (a k).paths })
all_go cols rows u (Rect k x y w h ∷ is) m n d a =
    let b : Area = record { x = x; y = y; width = w; height = h } in
    all_go cols rows (k ∷ u) is _ _ d (put u (k ∷ u) k (traced (m k) b) (traced (n k) b) m n a (λ j e. rw e refl)
    (let open_now : Goes true (traced (m k) b) (traced (n k) b) = record { look = traced_alike (m k) (n k) b (a k).look; paths = (refl, refl, ap (λ (bs : List Area). b ∷ bs) (open_same (list_any (int_eq k) u) (m k) (n k) (a k).paths)) } in
    rw (eq_self k) open_now))
all_go cols rows u (Cfill k red green blue ∷ is) m n d a =
    let c : Colour = record { red = red; green = green; blue = blue } in
    let was : Goes true (m k) (n k) = subst (λ (b : Bool). Goes b (m k) (n k)) d.0 (a k) in
    all_go cols rows (without_layer k u) is _ _ d.1 (put u (without_layer k u) k (painted (m k) c) (painted (n k) c) m n a (λ j e. kept j k u e)
    (let shut_now : Goes false (painted (m k) c) (painted (n k) c) = record { look = painted_alike (m k) (n k) c was.paths.2 was.look; paths = (refl, refl) } in
    subst (λ (b : Bool). Goes b (painted (m k) c) (painted (n k) c)) (sym (dropped k u)) shut_now))
all_go cols rows u (Copy k x y w h to to_x to_y ∷ is) m n d a =
    let b : Area = record { x = to_x; y = to_y; width = w; height = h } in
    all_go cols rows u is _ _ d (put u u to (copied (m k) x y (m to) b) (copied (n k) x y (n to) b) m n a (λ j e. refl)
    record { look = copied_alike (m k) (n k) (m to) (n to) x y b (a k).look (a to).look; paths = same_paths (list_any (int_eq to) u) (m to) (n to) (copied (m k) x y (m to) b) (copied (n k) x y (n to) b) refl refl refl refl (a to).paths })
all_go cols rows u (Sync t ∷ is) m n d a = absurd d
all_go cols rows u (Disconnect ∷ is) m n d a = absurd d
all_go cols rows u (Error status ∷ is) m n d a = absurd d

-- two maps that are the same, with no open path in either
pub record AreEven (m n : Layers) : Type 0 where
  pub same : Same m n
  pub first_shut : HasNoPaths m
  pub second_shut : HasNoPaths n

-- to draw a frame is to draw its body
drawn_body : (m : Layers) (body : List Instr) (t : ℕ) → draw m (body ++ Sync t ∷ []) ≡ draw m body
drawn_body m body t = draw-append m body (Sync t ∷ [])

pub even-frame : (cols rows t : ℕ) (is : List Instr) (m n : Layers) → Shape cols rows is t → AreEven m n → AreEven (draw m is) (draw n is)
even-frame cols rows t is m n s e =
    let start : AllGo [] m n = λ j. record { look = e.same j; paths = (e.first_shut j, e.second_shut j) } in
    let end : AllGo [] (draw m s.body) (draw n s.body) = all_go cols rows [] s.body m n s.body_draws start in
    let m_is : draw m is ≡ draw m s.body = ap (draw m) s.ends ∙ drawn_body m s.body t in
    let n_is : draw n is ≡ draw n s.body = ap (draw n) s.ends ∙ drawn_body n s.body t in
    rw (m_is, n_is) record { same = λ j. (end j).look; first_shut = λ j. (end j).paths.0; second_shut = λ j. (end j).paths.1 }

-- .. under a list of frames
pub even-nothing : AreEven nothing nothing
even-nothing = record { same = λ k. record { width = refl; height = refl; pixels = λ x y low high. refl }; first_shut = λ k. refl; second_shut = λ k. refl }

-- a frame with its stamp
abbrev pub IsShaped : ℕ × List Instr → Type 0
IsShaped f = (cols : ℕ) × (rows : ℕ) × Shape cols rows f.1 f.0

abbrev pub AreShaped : List (ℕ × List Instr) → Type 0
AreShaped [] = Unit {0}
AreShaped (f ∷ fs) = IsShaped f × AreShaped fs

pub shaped-append : (fs gs : List (ℕ × List Instr)) → AreShaped fs → AreShaped gs → AreShaped (fs ++ gs)
shaped-append [] gs s t = t
shaped-append (f ∷ fs) gs s t = (s.0, shaped-append fs gs s.1 t)

pub shaped-after : (t : ℕ) (fs : List (ℕ × List Instr)) → AreShaped fs → AreShaped (frames_after t fs)
shaped-after t [] s = tt
shaped-after t (f ∷ fs) s = cases (nat_lt t f.0) refl (shaped-after t fs s.1)
  where
    cases : (b : Bool) → nat_lt t f.0 ≡ b → AreShaped (frames_after t fs) → AreShaped (frames_after t (f ∷ fs))
    cases true e more = rw e (s.0, more)
    cases false e more = rw e more

pub even-frames : (fs : List (ℕ × List Instr)) → AreShaped fs → (m n : Layers) → AreEven m n → AreEven (draw m (instructions fs)) (draw n (instructions fs))
even-frames [] s m n e = e
even-frames (f ∷ fs) s m n e =
    let first : AreEven (draw m f.1) (draw n f.1) = even-frame s.0.0 s.0.1 f.0 f.1 m n s.0.2 e in
    rw (draw-append m f.1 (instructions fs), draw-append n f.1 (instructions fs)) (even-frames fs s.1 (draw m f.1) (draw n f.1) first)

nothing_begins : (t : ℕ) (front rest : List Instr) → [] ≡ (front ++ Sync t ∷ []) ++ rest → ⊥
nothing_begins t [] rest e = cc
nothing_begins t (x ∷ front) rest e = cc

-- .. and under each front of them that ends with a sync
pub even-front : (fs : List (ℕ × List Instr)) → AreShaped fs → (m n : Layers) → AreEven m n → (front : List Instr) (t : ℕ)
    → BeginsWith (instructions fs) (front ++ Sync t ∷ []) → AreEven (draw m (front ++ Sync t ∷ [])) (draw n (front ++ Sync t ∷ []))
even-front [] s m n e front t b = absurd (nothing_begins t front b.0 b.1)
even-front (f ∷ fs) s m n e front t b =
    elim (front_cases f.1 (instructions fs) front (Sync t) b) as (λ _. AreEven (draw m (front ++ Sync t ∷ [])) (draw n (front ++ Sync t ∷ []))) [
      | inl p ↦ within p
      | inr p ↦ rw (is_later m p.0 p.1, is_later n p.0 p.1) (even-front fs s.1 (draw m f.1) (draw n f.1) (even-frame s.0.0 s.0.1 f.0 f.1 m n s.0.2 e) p.0 t p.2)
    ]
  where
    within : BeginsWith f.1 (front ++ Sync t ∷ []) → AreEven (draw m (front ++ Sync t ∷ [])) (draw n (front ++ Sync t ∷ []))
    within p =
        let q = sync_is_last s.0.0 s.0.1 [] s.0.2.body front t f.0 s.0.2.body_draws (p.0, sym s.0.2.ends ∙ p.1) in
        let whole : front ++ Sync t ∷ [] ≡ f.1 = ap (λ (xs : List Instr). xs ++ Sync t ∷ []) q.0 ∙ (ap (λ (u : ℕ). s.0.2.body ++ Sync u ∷ []) q.1 ∙ sym s.0.2.ends) in
        rw whole (even-frame s.0.0 s.0.1 f.0 f.1 m n s.0.2 e)

    is_later : (l : Layers) (more : List Instr) → front ≡ f.1 ++ more → draw l (front ++ Sync t ∷ []) ≡ draw (draw l f.1) (more ++ Sync t ∷ [])
    is_later l more e = ap (λ (xs : List Instr). draw l (xs ++ Sync t ∷ [])) e ∙ (ap (draw l) (append_assoc f.1 more (Sync t ∷ [])) ∙ draw-append l f.1 (more ++ Sync t ∷ []))

-- maps that are the same, with no unfilled path, stay the same
pub same-goes_on : (cols rows t : ℕ) (is : List Instr) (m n : Layers) → Shape cols rows is t → Same m n → HasNoPaths m → HasNoPaths n → Same (draw m is) (draw n is)
same-goes_on cols rows t is m n s same first second = (even-frame cols rows t is m n s record { same = same; first_shut = first; second_shut = second }).same
