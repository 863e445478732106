-- A list of the shape of a frame leaves no unfilled path on any layer.
use Rattle.std.proofs.Common.{◌≡◌, ℕ, ℤ, List, [], ◌∷◌, Bool, true, false, ◌||◌, refl, ap, sym, ◌∙◌, subst}
use Rattle.std.specs.List.{list_any}
use Rattle.std.specs.Ordering.{int_eq}
use Rattle.std.proofs.lemmas.Bool.Decides.{Decides-int_eq}
use Rattle.gate_model.specs.declared.instr.Instr.{Instr}
use Rattle.gate_model.specs.declared.instr.Instr.TheVariants.{Size, Rect, Cfill, Copy, Sync, Disconnect, Error}
use Rattle.gate_model.specs.picture.Layers.{Area, Layer, Layers, HasNoPaths, with_layer, open_path, sized, traced, painted, copied, draw}
use Rattle.gate_model.specs.session.Laws.{FramesLeaveNoPath}
use Rattle.gate_model.specs.picture.Shape.{Draws, without_layer}
use Rattle.gate_model.proofs.Drawing.{draw-append}

-- nothing is unfilled, or the layer is among those with a rectangle that isn't filled yet
abbrev Shut : Bool → Layer → Type 0
Shut false l = open_path l ≡ []
Shut true l = Unit {0}

abbrev AllShut : List ℤ → Layers → Type 0
AllShut unfilled m = (j : ℤ) → Shut (list_any (int_eq j) unfilled) (m j)

put : (u w : List ℤ) (k : ℤ) (l : Layer) (m : Layers) → AllShut u m → ((j : ℤ) → int_eq j k ≡ false → list_any (int_eq j) w ≡ list_any (int_eq j) u) → Shut (list_any (int_eq k) w) l → AllShut w (with_layer m k l)
put u w k l m all others new j = cases (int_eq j k) refl
  where
    cases : (b : Bool) → int_eq j k ≡ b → Shut (list_any (int_eq j) w) (with_layer m k l j)
    cases true e = let itself : Shut (list_any (int_eq j) w) l = subst (λ (i : ℤ). Shut (list_any (int_eq i) w) l) (sym ((Decides-int_eq j k).0 e)) new in rw e itself
    cases false e = let old : Shut (list_any (int_eq j) w) (m j) = subst (λ (b : Bool). Shut b (m j)) (sym (others j e)) (all j) in rw e old

-- a change that leaves the path
keeps : (b : Bool) (l k : Layer) → open_path k ≡ open_path l → Shut b l → Shut b k
keeps false l k same shut = same ∙ shut
keeps true l k same shut = tt

shut_whole : (b : Bool) (l : Layer) → open_path l ≡ [] → Shut b l
shut_whole false l e = e
shut_whole true l e = tt

eq_self : (k : ℤ) → int_eq k k ≡ true
eq_self k = (Decides-int_eq k k).1 refl

-- a layer that is filled leaves the list, and no other one
kept : (j k : ℤ) (u : List ℤ) → int_eq j k ≡ false → list_any (int_eq j) (without_layer k u) ≡ list_any (int_eq j) u
kept j k [] e = refl
kept j k (i ∷ u) e = cases (int_eq i k) refl (kept j k u e)
  where
    cases : (b : Bool) → int_eq i k ≡ b → list_any (int_eq j) (without_layer k u) ≡ list_any (int_eq j) u → list_any (int_eq j) (without_layer k (i ∷ u)) ≡ list_any (int_eq j) (i ∷ u)
    cases true f more =
        let other : int_eq j i ≡ false = subst (λ (x : ℤ). int_eq j x ≡ false) (sym ((Decides-int_eq i k).0 f)) e in
        rw (f, other) more
    cases false f more = rw f (ap (λ (b : Bool). int_eq j i || b) more)

drawn_shut : (cols rows : ℕ) (u : List ℤ) (is : List Instr) (m : Layers) → Draws cols rows u is → AllShut u m → AllShut [] (draw m is)
drawn_shut cols rows u [] m d a = subst (λ (w : List ℤ). AllShut w m) d a
drawn_shut cols rows u (Size k w h ∷ is) m d a = drawn_shut cols rows u is _ d.1 (put u u k (sized (m k) w h) m a (λ j e. refl) (keeps (list_any (int_eq k) u) (m k) (sized (m k) w h) refl (a k)))
drawn_shut cols rows u (Rect k x y w h ∷ is) m d a =
    let b : Area = record { x = x; y = y; width = w; height = h } in
    drawn_shut cols rows (k ∷ u) is _ d (put u (k ∷ u) k (traced (m k) b) m a (λ j e. rw e refl) (let among : (int_eq k k || list_any (int_eq k) u) ≡ true = rw (eq_self k) refl in subst (λ (t : Bool). Shut t (traced (m k) b)) (sym among) tt))
drawn_shut cols rows u (Cfill k red green blue ∷ is) m d a =
    let filled : Layer = painted (m k) record { red = red; green = green; blue = blue } in
    drawn_shut cols rows (without_layer k u) is _ d.1 (put u (without_layer k u) k filled m a (λ j e. kept j k u e) (shut_whole (list_any (int_eq k) (without_layer k u)) filled refl))
drawn_shut cols rows u (Copy k x y w h to to_x to_y ∷ is) m d a =
    let b : Area = record { x = to_x; y = to_y; width = w; height = h } in
    drawn_shut cols rows u is _ d (put u u to (copied (m k) x y (m to) b) m a (λ j e. refl) (keeps (list_any (int_eq to) u) (m to) (copied (m k) x y (m to) b) refl (a to)))
drawn_shut cols rows u (Sync t ∷ is) m d a = absurd d
drawn_shut cols rows u (Disconnect ∷ is) m d a = absurd d
drawn_shut cols rows u (Error status ∷ is) m d a = absurd d

pub no-paths : FramesLeaveNoPath
no-paths cols rows t is m s none =
    let body : HasNoPaths (draw m s.body) = drawn_shut cols rows [] s.body m s.body_draws none in
    let same : draw m is ≡ draw m s.body = ap (draw m) s.ends ∙ draw-append m s.body (Sync t ∷ []) in
    rw same body
