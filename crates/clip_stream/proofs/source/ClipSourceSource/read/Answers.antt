use Rattle.std.proofs.Common.{◌≤◌, length, take, sym, subst, ◌∙◌, arith}
use Rattle.std.specs.Prelude.{IfSome}
use Rattle.clip_stream.specs.Sources.{Went, on_left}
use Rattle.clip_stream.proofs.Goings.{none_given, went_left}
use Rattle.clip_stream.proofs.source.ClipSourceSource.read.Goals as goal

pub returns-in-Some-clause-empty : goal.returns-in-Some-clause-empty
returns-in-Some-clause-empty g c e =
    let left = g.S.Source.left in
    let s = c.args.self.now in
    let now = left c.read.new.source in
    let w = subst (λ o. IfSome o (λ n. Went (left s.source) now s.pastes c.read.new.self (take n c.read.new.into))) c.in-Some.is c.in_ok-count.ensures.went in
    let fits = subst (λ o. IfSome o (λ n. n ≤ length c.args.into.now)) c.in-Some.is c.in_ok-count.ensures.bound in
    none_given (on_left c.read.new.self now) c.read.new.into c.in-Some.count (omega (arith, fits)) (sym e ∙ went_left (left s.source) now s.pastes c.read.new.self (take c.in-Some.count c.read.new.into) w)
