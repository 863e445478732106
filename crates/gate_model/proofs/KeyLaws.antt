-- The law about keys: a modifier has no bytes, and no other key changes what is held.
use Rattle.std.proofs.Common.{◌≡◌, ℕ, [], Bool, true, false, ◌==◌, refl, sym, subst, ⊎_elim, eqb-true}
use Rattle.std.proofs.lemmas.Bool.{cases_Bool}
use Rattle.gate_model.specs.declared.mods.Mods.{Mods}
use Rattle.gate_model.specs.keys.Modifiers.{mods_after}
use Rattle.gate_model.specs.keys.Encoding.{encoding}
use Rattle.gate_model.specs.keys.KeyLaws.{ModifiersSendNothing}

left_control : (held : Mods) (m : Bool) → encoding 0xFFE3 held m ≡ []
unfolding encoding
left_control held m = refl

right_control : (held : Mods) (m : Bool) → encoding 0xFFE4 held m ≡ []
unfolding encoding
right_control held m = refl

left_alt : (held : Mods) (m : Bool) → encoding 0xFFE9 held m ≡ []
unfolding encoding
left_alt held m = refl

right_alt : (held : Mods) (m : Bool) → encoding 0xFFEA held m ≡ []
unfolding encoding
right_alt held m = refl

-- as the modifier that the keysym is
at : (keysym k : ℕ) (held : Mods) (m : Bool) → (keysym == k) ≡ true → encoding k held m ≡ [] → encoding keysym held m ≡ []
at keysym k held m is nothing = subst (λ n. encoding n held m ≡ []) (sym (eqb-true _ _ is)) nothing

unchanged : (keysym : ℕ) (before : Mods) (pressed : Bool) → (keysym == 0xFFE3) ≡ false → (keysym == 0xFFE4) ≡ false → (keysym == 0xFFE9) ≡ false
    → (keysym == 0xFFEA) ≡ false → mods_after before keysym pressed ≡ before
unchanged keysym before pressed a b c d = simp (a, b, c, d)

pub modifiers-silent : ModifiersSendNothing
modifiers-silent keysym before held pressed m changes =
    ⊎_elim (λ is. at keysym 0xFFE3 held m is (left_control held m)) (λ a.
    ⊎_elim (λ is. at keysym 0xFFE4 held m is (right_control held m)) (λ b.
    ⊎_elim (λ is. at keysym 0xFFE9 held m is (left_alt held m)) (λ c.
    ⊎_elim (λ is. at keysym 0xFFEA held m is (right_alt held m)) (λ d.
    absurd (changes (unchanged keysym before pressed a b c d)))
    (cases_Bool (keysym == 0xFFEA)))
    (cases_Bool (keysym == 0xFFE9)))
    (cases_Bool (keysym == 0xFFE4)))
    (cases_Bool (keysym == 0xFFE3))
