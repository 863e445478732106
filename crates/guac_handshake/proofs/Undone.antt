-- A session that was begun and then taken back.
use Rattle.std.proofs.Common.{◌≡◌, ◌≢◌, ℕ, List, Bool, true, false, Option, Some, None, refl, ap, sym, ◌∙◌, subst, true≢false, ◌⊎◌, inl, inr, ⊎_elim}
use Rattle.std.specs.Prelude.{bytes_eq}
use Rattle.std.specs.Option.{unwrap_or}
use Rattle.std.proofs.lemmas.Slice.Eq.{bytes_eq-Decides}
use Rattle.id_table.specs.Maps.{Same, Told}
use Rattle.guac_handshake.specs.Doors.{AddedOne, RemovedOne, Sessions}

bool_cases : (b : Bool) → (b ≡ true) ⊎ (b ≡ false)
bool_cases true = inl refl
bool_cases false = inr refl

-- an ID is this one or another
pub by_id : (k id : List ℕ) (P : Type 0) → (k ≡ id → P) → (k ≢ id → P) → P
by_id k id P same other = ⊎_elim
    (λ yes. same ((bytes_eq-Decides k id).0 yes))
    (λ no. other (λ e. true≢false (sym ((bytes_eq-Decides k id).1 e) ∙ no)))
    (bool_cases (bytes_eq k id))

taken_back : (s t u : Sessions) (name : Option (List ℕ)) → AddedOne name s t → RemovedOne name t u → Same s u
taken_back s t u name a r = λ k. by_id k a.0 (u k ≡ s k)
    (λ e. (r k).0 (a.1 ∙ ap (λ (id : List ℕ). Some id) (sym e)) ∙ sym (ap s e ∙ a.2))
    (λ ne. (r k).1 (λ is. ne (ap (λ (o : Option (List ℕ)). unwrap_or o k) (sym is ∙ a.1))) ∙ a.4 k ne)

both : (s t u : Option Sessions) (name : Option (List ℕ)) → Told s t (AddedOne name) → Told t u (RemovedOne name) → Told s u Same
both None None None name a r = tt
both None None (Some u) name a r = absurd r
both None (Some t) u name a r = absurd a
both (Some s) None u name a r = absurd a
both (Some s) (Some t) None name a r = absurd r
both (Some s) (Some t) (Some u) name a r = taken_back s t u name a r

-- the sessions are as they were
pub undone : (s t x u : Option Sessions) (name : Option (List ℕ)) → Told s t (AddedOne name) → x ≡ t → Told x u (RemovedOne name) → Told s u Same
undone s t x u name a same r = both s t u name a (subst (λ (y : Option Sessions). Told y u (RemovedOne name)) same r)
