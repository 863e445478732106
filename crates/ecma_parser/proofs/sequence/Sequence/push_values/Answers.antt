use Rattle.std.proofs.Common.{ℕ, List, [], ◌∷◌, ◌++◌, ◌≡◌, ◌+◌, ◌<◌, length, All, take, get_or, append_assoc, append-nil, ap, sym, subst, refl, ◌∙◌, arith}
use Rattle.std.proofs.lemmas.List.{take_more}
use Rattle.std.proofs.lemmas.List.Elements.{All-more, All-nil}
use Rattle.ecma_parser.specs.declared.sequence.Sequence.{Sequence}
use Rattle.ecma_parser.specs.Sequence.{HoldsBut, IsPlain, longer}
use Rattle.ecma_parser.proofs.SequenceLaws.{held-back, none-longer}
use Rattle.ecma_parser.proofs.sequence.Sequence.push_values.Goals as goal

pub loop-i-init : goal.loop-i-init
loop-i-init c = (
  All-nil IsPlain,
  refl,
  λ text h. subst (HoldsBut c.value-value.result (longer 0 c.args.self.now)) (sym (append-nil text)) (held-back c.value-value.result (longer 0 c.args.self.now) text (none-longer c.args.self.now text h) c.value-value.ensures),
)

-- one more byte of the front
next : (v : ℕ) (s : Sequence) (text front : List ℕ) (i : ℕ) → i < length front → HoldsBut v s ((text ++ take i front) ++ get_or front i 0 ∷ []) → HoldsBut v s (text ++ take (i + 1) front)
next v s text front i lt h = subst (HoldsBut v s) (append_assoc text (take i front) (get_or front i 0 ∷ []) ∙ ap (λ t. text ++ t) (sym (take_more front i 0 lt))) h

pub loop-i-preserved : goal.loop-i-preserved
loop-i-preserved c =
    let front = c.args.front.now in
    let i = c.loop-i.i in
    let same = c.loop-i.invariant.1 in (
      All-more IsPlain front i 0 c.loop-i-test.true (c.loop-i.invariant.0) (sym c.if-not-is_plain.ensures),
      c.push_plain-value.ensures.length ∙ same,
      λ text h. next c.push_plain-value.result (longer (i + 1) c.push_plain-value.new.self) text front i c.loop-i-test.true (c.push_plain-value.ensures.holds (text ++ take i front) i (omega (arith, c.requires.room, same, c.loop-i-test.true)) (c.loop-i.invariant.2 text h)),
    )

pub returns-clause-plain : goal.returns-clause-plain
returns-clause-plain c =
    let all : c.loop-i.i ≡ length c.args.front.now = omega (arith, c.loop-i-test.false, c.loop-i.auto.i-end) in
    subst (λ n. All IsPlain (take n c.args.front.now)) all c.loop-i.invariant.0
