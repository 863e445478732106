use Rattle.std.proofs.Common.{◌≡◌, ℕ, ◌+◌, List, [], ◌∷◌, true, refl, ap, sym, ◌∙◌, subst}
use Rattle.std.specs.Prelude.{Result, Ok, Err, Option, Some, None, ◌++◌}
use Rattle.std.specs.Option.{option_map}
use Rattle.std.proofs.lemmas.Bool.{eq-eqb}
use Rattle.gate_model.specs.declared.answer.Answer.{Answer}
use Rattle.gate_model.specs.declared.answer.Answer.TheVariants.{Join as joined_as}
use Rattle.gate_model.specs.declared.entry.Entry.{Entry}
use Rattle.gate_model.specs.declared.entry.Entry.TheVariants.{Join}
use Rattle.gate_model.specs.declared.event.Event.TheVariants.{Join as join_in}
use Rattle.gate_model.specs.declared.join_refusal.JoinRefusal.{JoinRefusal}
use Rattle.gate_model.specs.declared.joined.Joined.{Joined}
use Rattle.gate_model.specs.declared.sharing.Asked.{Asked}
use Rattle.gate_model.specs.session.Calls.{Step, stop_of}
use Rattle.gate_model.specs.session.History.{History, newest, joined}
use Rattle.gate_model.specs.session.Refusals.{join_refusal}
use Rattle.gate_model.specs.session.Rights.{is_live}
use Rattle.viewer_book.specs.Book as book
use Rattle.desk_core.specs.Calls.{Answered, Ended, join_answer}
use Rattle.desk_core.specs.Desk.{DeskState}
use Rattle.try_screen.proofs.desks.role_of_joiner.Goals as goal

-- a history with the entry of a join has its viewer
joins : (h : History) (asked : Asked) (given : Joined) (added : List Entry) → Step h (join_in asked) (joined_as (Ok given)) added → is_live (added ++ h) given.viewer ≡ true
joins h asked given [] s = absurd (no_stop (join_refusal h asked) s.1)
  where
    no_stop : (o : Option JoinRefusal) → option_map (λ (r : JoinRefusal). joined_as (Err r)) o ≡ Some (joined_as (Ok given)) → ⊥
    no_stop None e = let w : None ≡ Some (joined_as (Ok given)) = e in cc
    no_stop (Some r) e = let w : Some (joined_as (Err r)) ≡ Some (joined_as (Ok given)) = e in cc
joins h asked given (e ∷ []) s =
    let same : given ≡ record { viewer = joined h + 1; role = s.1.1.0; stamp = newest h } = is_of (record { viewer = joined h + 1; role = s.1.1.0; stamp = newest h }) s.1.1.4 in
    let entry : e ≡ Join given.viewer given.role s.1.1.1 = s.1.1.5 ∙ ap (λ (g : Joined). Join g.viewer g.role s.1.1.1) (sym same) in
    ap (λ (x : Entry). is_live (x ∷ h) given.viewer) entry ∙ rw (eq-eqb given.viewer given.viewer refl) refl
  where
    is_of : (other : Joined) → joined_as (Ok given) ≡ joined_as (Ok other) → given ≡ other
    is_of other e = cc
joins h asked given (e ∷ f ∷ es) s = absurd s.1

-- a viewer that has just joined is there
joiner-is-live : (h : History) (asked : Asked) (given : Joined) (r : Result Joined JoinRefusal) (old d : DeskState) (before after : List ℕ) → r ≡ Ok given → Ended h (join_in asked) (join_answer r) old d before after → book.is_live d.book given.viewer ≡ true
joiner-is-live h asked given r old d before after is ends =
    let g : Answered h (join_in asked) (joined_as (Ok given)) d before after = subst (λ (q : Result Joined JoinRefusal). Ended h (join_in asked) (join_answer q) old d before after) is ends in
    g.stands.book.here given.viewer ∙ joins h asked given g.added g.step

pub role-requires : goal.role-requires
role-requires c =
    let kept = c.entries-entries.ensures.stands in
    joiner-is-live kept.0 c.args.asked c.in_ok-joined.joined c.join.result _ c.join.new.self _ _ c.in_ok-joined.was (c.join.ensures.step kept.0 kept.1)
