use Rattle.std.proofs.Common.{◌≡◌, ◌+◌, ◌*◌, List, ℕ, drop, arith, subst, sym}
use Rattle.script_grammar.specs.Hexadecimal.{bytes_of}
use Rattle.script_grammar.proofs.HexLaws.{join_bytes, odd_is_none, pair_more, pair_none, pairs_done, none_yet}
use Rattle.script_grammar.proofs.hexadecimal.bytes_of.Goals as goal

pub returns-then-digits-eq1 : goal.returns-then-digits-eq1
returns-then-digits-eq1 c = odd_is_none c.args.digits.now c.if-digits-eq1.true

pub loop-place-init : goal.loop-place-init
loop-place-init c = none_yet c.args.digits.now c.in_ok-bytes.bytes.items c.in_ok-bytes.ensures.items

pub returns-in-None : goal.returns-in-None
returns-in-None c = pair_none c.args.digits.now c.loop-place.bytes.items c.loop-place.place (omega (arith, c.loop-place-test.true)) c.loop-place.invariant (c.in-None.ensures)

pub loop-place-preserved : goal.loop-place-preserved
loop-place-preserved c = subst (λ (l : List ℕ). bytes_of c.args.digits.now ≡ join_bytes l (bytes_of (drop (2 * (c.loop-place.place + 1)) c.args.digits.now))) (sym c.in_ok-push-in-Some.ensures.items)
    (pair_more c.args.digits.now c.loop-place.bytes.items c.loop-place.place c.in-Some.byte (omega (arith, c.loop-place-test.true)) c.loop-place.invariant c.in-Some.ensures)

pub returns : goal.returns
returns c = pairs_done c.args.digits.now c.loop-place.bytes.items c.loop-place.place (omega (arith, c.loop-place-test.false, c.if-digits-eq1.false)) c.loop-place.invariant
