use Rattle.std.proofs.Common.{◌++◌, ◌∷◌, [], ◌+◌, ◌≤◌, refl, subst, sym, arith}
use Rattle.std.proofs.lemmas.Bool.Decides.{nat_tests}
use Rattle.ecma_parser.specs.Sequence.{HoldsBut, longer}
use Rattle.ecma_parser.proofs.SequenceLaws.{digit-held-back, separator-held-back}
use Rattle.ecma_parser.proofs.sequence.Sequence.push_plain.Goals as goal

pub returns-clause-holds : goal.returns-clause-holds
returns-clause-holds c =
    let from : 48 ≤ c.args.byte = grind (arith, nat_tests, c.requires.plain, c.if-byte-eq59.false) in
    let to : c.args.byte ≤ 57 = grind (arith, nat_tests, c.requires.plain, c.if-byte-eq59.false) in
    λ text n below h. digit-held-back c.args.value c.next_value.result (longer n c.args.self.now) (longer (n + 1) c.args.self.now) text c.args.byte h below from to refl (omega arith) refl refl refl c.next_value.ensures

pub returns-then-byte-eq59-clause-holds : goal.returns-then-byte-eq59-clause-holds
returns-then-byte-eq59-clause-holds c =
    let k = c.keep.new.self in
    let m = c.next_place.new.self in
    let passed = c.next_place.ensures in
    λ text n below h. subst (λ b. HoldsBut c.value.result (longer (n + 1) m) (text ++ b ∷ [])) (sym c.if-byte-eq59.true)
    (separator-held-back c.args.value c.value.result n c.args.self.now k m text h below c.keep.ensures passed.same.0 passed.same.1 passed.place passed.count passed.same.2 c.value.ensures)
