use Rattle.std.proofs.Common.{◌<◌, get_or, ◌⊎◌, inl, inr, sym, subst, arith}
use Rattle.guac_framing.specs.Answers.{IsStopped}
use Rattle.guac_framing.proofs.Steps.{begun_first, begun_more, begun_whole}
use Rattle.guac_framing.proofs.Stops.{in_character, stop_in_character, stop_forbidden}
use Rattle.guac_framing.proofs.character.read_due.Goals as goal
use Rattle.guac_framing.proofs.character.read_due.Goals.{then-bytes-at-via-then-bytes-at, then-bytes-at-via-else-bytes-at+then-due-bytes}

pub loop-due-init : goal.loop-due-init
loop-due-init c = record {
  begun = begun_first c.args.bytes.now c.args.start c.args.due.bytes c.args.due.least c.args.due.most c.requires.within c.requires.begun;
  within = omega (arith, c.requires.within);
  sum = omega arith;
}

pub returns-then-at-bytes-clause-stop : goal.returns-then-at-bytes-clause-stop
returns-then-at-bytes-clause-stop c = λ values chars left i room.
    stop_in_character c.args.bytes.now c.args.start c.loop-due.at _ c.loop-due.due.least c.loop-due.due.most left values chars
    (in_character c.args.bytes.now c.args.start c.loop-due.at c.loop-due.due.bytes _ _ left values chars i c.loop-due.invariant.begun c.loop-due-test.true c.loop-due.invariant.within (omega (arith, c.loop-due.invariant.sum)))
    (omega (arith, c.if-at-bytes.true))

pub returns-then-bytes-at-clause-stop : goal.returns-then-bytes-at-clause-stop
returns-then-bytes-at-clause-stop c = λ values chars left i room.
    let out : (get_or c.args.bytes.now c.loop-due.at 0 < c.loop-due.due.least) ⊎ (c.loop-due.due.most < get_or c.args.bytes.now c.loop-due.at 0) =
    elim c.then-bytes-at.branch [ then-bytes-at-via-then-bytes-at w ↦ inl w.if-bytes-at.true | then-bytes-at-via-else-bytes-at+then-due-bytes w ↦ inr w.if-due-bytes.true ] in
    subst (IsStopped c.args.bytes.now) (sym c.bad.ensures)
    (stop_forbidden c.args.bytes.now c.args.start c.loop-due.at _ c.loop-due.due.least c.loop-due.due.most left values chars
    (in_character c.args.bytes.now c.args.start c.loop-due.at c.loop-due.due.bytes _ _ left values chars i c.loop-due.invariant.begun c.loop-due-test.true c.loop-due.invariant.within (omega (arith, c.loop-due.invariant.sum)))
    (omega (arith, c.loop-due.invariant.within, c.if-at-bytes.false)) out)

pub loop-due-preserved : goal.loop-due-preserved
loop-due-preserved c = record {
  begun = begun_more c.args.bytes.now c.args.start c.loop-due.at c.loop-due.due.bytes c.loop-due.due.least c.loop-due.due.most c.loop-due.invariant.begun c.loop-due-test.true
      (omega (arith, c.loop-due.invariant.within, c.if-at-bytes.false)) c.if-bytes-at.false c.if-due-bytes.false;
  within = omega (arith, c.loop-due.invariant.within, c.if-at-bytes.false);
  sum = omega (arith, c.loop-due.invariant.sum);
}

pub returns-clause-character : goal.returns-clause-character
returns-clause-character c = begun_whole c.args.bytes.now c.args.start c.loop-due.at c.loop-due.due.bytes c.loop-due.due.least c.loop-due.due.most c.loop-due.invariant.begun (omega (arith, c.loop-due-test.false))
