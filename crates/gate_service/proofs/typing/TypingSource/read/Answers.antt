use Rattle.std.proofs.Common.{◌≤◌, length, take, ap, sym, subst, ◌∙◌, arith}
use Rattle.std.specs.Prelude.{IfSome}
use Rattle.clip_stream.specs.Sources.{Went, on_left}
use Rattle.clip_stream.proofs.Goings.{none_given, went_left}
use Rattle.gate_service.specs.Typings.{typed_by}
use Rattle.gate_service.proofs.typing.TypingSource.read.Goals as goal

pub returns-in-Some-2-clause-empty : goal.returns-in-Some-2-clause-empty
returns-in-Some-2-clause-empty g c e =
    let was = g.S.Source.left c.args.self.now.source in
    let now = g.S.Source.left c.read-2.new.source in
    let s = c.in-Some.pastes in
    let t = c.read-2.new.self in
    let w = subst (λ o. IfSome o (λ n. Went was now s t (take n c.read-2.new.into))) c.in-Some-2.is c.in_ok-count.ensures.went in
    let fits = subst (λ o. IfSome o (λ n. n ≤ length c.args.into.now)) c.in-Some-2.is c.in_ok-count.ensures.bound in
    none_given (on_left t now) c.read-2.new.into c.in-Some-2.count (omega (arith, fits)) (sym e ∙ ap (λ o. typed_by o was) c.in-Some.is ∙ went_left was now s t (take c.in-Some-2.count c.read-2.new.into) w)
