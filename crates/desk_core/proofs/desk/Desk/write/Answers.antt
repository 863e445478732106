use Rattle.std.proofs.Common.{◌≡◌, [], ◌++◌, ◌∙◌, ℕ, List, ap, sym, subst, arith}
use Rattle.std.specs.Prelude.{None, if◌then◌else◌}
use Rattle.gate_model.specs.session.Refusals.{write_refusal}
use Rattle.desk_core.specs.Desk.{DeskState, Stands}
use Rattle.desk_core.specs.State.{state}
use Rattle.desk_core.proofs.Results.{is_none}
use Rattle.desk_core.proofs.Telling.{is_open, write_goes, stays_few}
use Rattle.desk_core.proofs.Answering.{write_stops}
use Rattle.desk_core.proofs.Adding.{added_write}
use Rattle.desk_core.proofs.desk.Desk.write.Goals as goal

pub returns-in-Some-clause-step : goal.returns-in-Some-clause-step
returns-in-Some-clause-step c = λ h stood. write_stops c.args.self.now h c.args.viewer c.args.acts.now c.in-Some.refusal [] stood c.requires (sym (c.write_refusal.ensures h stood) ∙ c.in-Some.is)

pub write-requires : goal.write-requires
write-requires c =
    let d = state c.self.inside in
    let h = c.self.invariant.0 in
    let s : Stands d h = c.self.invariant.1 in
    let stood : Stands c.args.self.now h = subst (λ (k : DeskState). Stands k h) c.self.view_is s in
    let allowed : write_refusal h c.args.viewer ≡ None = sym (c.write_refusal.ensures h stood) ∙ is_none c.write_refusal.result c.in_default.not-Some in
    omega (arith, stays_few d h s (write_goes h c.args.viewer allowed).goes)

pub invariant_of-self-2 : goal.invariant_of-self-2
invariant_of-self-2 c =
    let d = state c.self.inside in
    let h = c.self.invariant.0 in
    let s : Stands d h = c.self.invariant.1 in
    let stood : Stands c.args.self.now h = subst (λ (k : DeskState). Stands k h) c.self.view_is s in
    let allowed : write_refusal h c.args.viewer ≡ None = sym (c.write_refusal.ensures h stood) ∙ is_none c.write_refusal.result c.in_default.not-Some in
    let is_may = c.may_type-may_type.ensures h stood (is_open h (write_goes h c.args.viewer allowed).goes) in
    let a = added_write d h c.args.viewer c.args.acts.now c.in_ok-typed.typed c.may_type-may_type.result c.counted.result.keys c.counted.result.denied c.write.new.self c.append.new.self c.note.new.book s c.requires allowed is_may (c.in_ok-typed.ensures h stood is_may)
    (c.counted.ensures.keys ∙ ap (λ (n : ℕ). if c.may_type-may_type.result then n else 0) c.keys_among.ensures) (c.counted.ensures.denied ∙ ap (λ (n : ℕ). if c.may_type-may_type.result then 0 else n) c.keys_among.ensures)
    c.write.ensures (c.in_ok-append.ensures.appended ∙ ap (λ (xs : List ℕ). c.self.inside.outgoing ++ xs) c.deref.ensures.value) c.note.ensures in
    (a.added ++ h, a.stands)

pub returns-clause-step : goal.returns-clause-step
returns-clause-step c = λ h stood.
    let d = state c.self.inside in
    let s : Stands d h = subst (λ (k : DeskState). Stands k h) (sym c.self.view_is) stood in
    let allowed : write_refusal h c.args.viewer ≡ None = sym (c.write_refusal.ensures h stood) ∙ is_none c.write_refusal.result c.in_default.not-Some in
    let is_may = c.may_type-may_type.ensures h stood (is_open h (write_goes h c.args.viewer allowed).goes) in
    added_write d h c.args.viewer c.args.acts.now c.in_ok-typed.typed c.may_type-may_type.result c.counted.result.keys c.counted.result.denied c.write.new.self c.append.new.self c.note.new.book s c.requires allowed is_may (c.in_ok-typed.ensures h stood is_may)
    (c.counted.ensures.keys ∙ ap (λ (n : ℕ). if c.may_type-may_type.result then n else 0) c.keys_among.ensures) (c.counted.ensures.denied ∙ ap (λ (n : ℕ). if c.may_type-may_type.result then 0 else n) c.keys_among.ensures)
    c.write.ensures (c.in_ok-append.ensures.appended ∙ ap (λ (xs : List ℕ). c.self.inside.outgoing ++ xs) c.deref.ensures.value) c.note.ensures

pub returns-clause-few : goal.returns-clause-few
returns-clause-few c =
    let d = state c.self.inside in
    let h = c.self.invariant.0 in
    let s : Stands d h = c.self.invariant.1 in
    let stood : Stands c.args.self.now h = subst (λ (k : DeskState). Stands k h) c.self.view_is s in
    let allowed : write_refusal h c.args.viewer ≡ None = sym (c.write_refusal.ensures h stood) ∙ is_none c.write_refusal.result c.in_default.not-Some in
    omega (arith, ap (λ k. k.entries) c.write.ensures, stays_few d h s (write_goes h c.args.viewer allowed).goes)
