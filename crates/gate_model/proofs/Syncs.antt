-- Where the syncs of a frame stand: it has one, at its end.
use Rattle.std.proofs.Common.{◌≡◌, ℤ, ℕ, List, [], ◌∷◌, ◌++◌, refl, subst}
use Rattle.gate_model.specs.declared.instr.Instr.{Instr}
use Rattle.gate_model.specs.declared.instr.Instr.TheVariants.{Size, Rect, Cfill, Copy, Sync, Disconnect, Error}
use Rattle.gate_model.specs.Sequences.{BeginsWith}
use Rattle.gate_model.specs.picture.Shape.{Draws, without_layer}
use Rattle.gate_model.specs.session.Delivered.{last_sync_from}

-- a body holds no sync: the last sync of a frame is its own
pub last_sync-body : (cols rows : ℕ) (unfilled : List ℤ) (body : List Instr) (t s : ℕ) → Draws cols rows unfilled body → last_sync_from s (body ++ Sync t ∷ []) ≡ t
last_sync-body cols rows unfilled [] t s d = refl
last_sync-body cols rows unfilled (Size k w h ∷ is) t s d = last_sync-body cols rows unfilled is t s d.1
last_sync-body cols rows unfilled (Rect k x y w h ∷ is) t s d = last_sync-body cols rows (k ∷ unfilled) is t s d
last_sync-body cols rows unfilled (Cfill k r g b ∷ is) t s d = last_sync-body cols rows (without_layer k unfilled) is t s d.1
last_sync-body cols rows unfilled (Copy k x y w h to to_x to_y ∷ is) t s d = last_sync-body cols rows unfilled is t s d
last_sync-body cols rows unfilled (Sync u ∷ is) t s d = absurd d
last_sync-body cols rows unfilled (Disconnect ∷ is) t s d = absurd d
last_sync-body cols rows unfilled (Error status ∷ is) t s d = absurd d

-- a front of a frame that ends with a sync is the whole frame
pub sync_is_last : (cols rows : ℕ) (unfilled : List ℤ) (body front : List Instr) (t s : ℕ) → Draws cols rows unfilled body
    → BeginsWith (body ++ Sync s ∷ []) (front ++ Sync t ∷ []) → (front ≡ body) × (t ≡ s)
sync_is_last cols rows unfilled [] [] t s d h = (refl, (let e : Sync s ∷ [] ≡ Sync t ∷ h.0 = h.1 in cc))
sync_is_last cols rows unfilled [] (x ∷ []) t s d h = absurd (let e : Sync s ∷ [] ≡ x ∷ Sync t ∷ h.0 = h.1 in cc)
sync_is_last cols rows unfilled [] (x ∷ y ∷ front) t s d h = absurd (let e : Sync s ∷ [] ≡ x ∷ y ∷ ((front ++ Sync t ∷ []) ++ h.0) = h.1 in cc)
sync_is_last cols rows unfilled (i ∷ is) [] t s d h = absurd (first_isnt (let e : i ∷ (is ++ Sync s ∷ []) ≡ Sync t ∷ h.0 = h.1 in cc) d)
  where
    first_isnt : {j : Instr} → j ≡ Sync t → Draws cols rows unfilled (j ∷ is) → ⊥
    first_isnt {j} e d2 = subst (λ (k : Instr). Draws cols rows unfilled (k ∷ is)) e d2
sync_is_last cols rows unfilled (i ∷ is) (f ∷ front) t s d h =
    let e : i ∷ (is ++ Sync s ∷ []) ≡ f ∷ ((front ++ Sync t ∷ []) ++ h.0) = h.1 in
    let tails : is ++ Sync s ∷ [] ≡ (front ++ Sync t ∷ []) ++ h.0 = cc in
    let heads : i ≡ f = cc in
    let rest = later i is d (λ unfilled2 d2. sync_is_last cols rows unfilled2 is front t s d2 (h.0, tails)) in
    ((let same : front ≡ is = rest.0 in cc), rest.1)
  where
    later : (j : Instr) (js : List Instr) → Draws cols rows unfilled (j ∷ js) → ((unfilled2 : List ℤ) → Draws cols rows unfilled2 js → (front ≡ is) × (t ≡ s)) → (front ≡ is) × (t ≡ s)
    later (Size k w h2) js d2 go = go unfilled d2.1
    later (Rect k x y w h2) js d2 go = go (k ∷ unfilled) d2
    later (Cfill k r g b) js d2 go = go (without_layer k unfilled) d2.1
    later (Copy k x y w h2 to to_x to_y) js d2 go = go unfilled d2
    later (Sync u) js d2 go = absurd d2
    later Disconnect js d2 go = absurd d2
    later (Error status) js d2 go = absurd d2

-- the last sync of two lists is the second list's, from the first one's
pub last_sync-append : (s : ℕ) (xs ys : List Instr) → last_sync_from s (xs ++ ys) ≡ last_sync_from (last_sync_from s xs) ys
last_sync-append s [] ys = refl
last_sync-append s (Sync t ∷ xs) ys = last_sync-append t xs ys
last_sync-append s (Size k w h ∷ xs) ys = last_sync-append s xs ys
last_sync-append s (Rect k x y w h ∷ xs) ys = last_sync-append s xs ys
last_sync-append s (Cfill k r g b ∷ xs) ys = last_sync-append s xs ys
last_sync-append s (Copy k x y w h to to_x to_y ∷ xs) ys = last_sync-append s xs ys
last_sync-append s (Disconnect ∷ xs) ys = last_sync-append s xs ys
last_sync-append s (Error status ∷ xs) ys = last_sync-append s xs ys
