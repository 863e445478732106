use Rattle.std.proofs.Common.{sym, ◌∙◌}
use Rattle.canvas.proofs.Playable.{playable}
use Rattle.gate_model.specs.picture.Layers.{draw, nothing}
use Rattle.record_play.specs.Recorded.{instrs_of}
use Rattle.record_play.proofs.Plays.{next_one, no_bad, no_more, no_none, none_played, played, played_all}
use Rattle.record_play.proofs.player.play.Goals as goal

pub loop-at-init : goal.loop-at-init
loop-at-init c = none_played c.args.bytes.now c.args.end c.args.canvas.now c.requires.front c.requires.canvas

pub play-requires : goal.play-requires
play-requires c = playable c.in-Whole.frame c.in-Some.instr (sym c.read_server.ensures ∙ c.in-Some.is)

pub loop-at-preserved : goal.loop-at-preserved
loop-at-preserved c =
    played c.args.bytes.now c.args.end c.loop-at.at c.loop-at.canvas c.loop-at.invariant (next_one c.args.bytes.now c.args.end c.loop-at.at c.loop-at.canvas c.loop-at.invariant c.loop-at-test.true)
    c.in-Whole.frame c.in-Whole.size c.in-Whole.ensures.whole c.in-Some.instr c.play.new.self (sym c.read_server.ensures ∙ c.in-Some.is) (c.in_ok-play-in-Some.ensures.played (draw nothing (instrs_of c.loop-at.invariant.older)) c.loop-at.invariant.shows)

pub unreachable-requires : goal.unreachable-requires
unreachable-requires c =
    no_none c.args.bytes.now c.args.end c.loop-at.at c.loop-at.canvas c.loop-at.invariant (next_one c.args.bytes.now c.args.end c.loop-at.at c.loop-at.canvas c.loop-at.invariant c.loop-at-test.true)
    c.in-Whole.frame c.in-Whole.size c.in-Whole.ensures.whole (sym c.read_server.ensures ∙ c.in-None.is)

pub unreachable-requires-in-More : goal.unreachable-requires-in-More
unreachable-requires-in-More c = no_more c.args.bytes.now c.args.end c.loop-at.at c.loop-at.canvas c.loop-at.invariant (next_one c.args.bytes.now c.args.end c.loop-at.at c.loop-at.canvas c.loop-at.invariant c.loop-at-test.true) c.in-More.ensures.more

pub unreachable-requires-in-Bad : goal.unreachable-requires-in-Bad
unreachable-requires-in-Bad c = no_bad c.args.bytes.now c.args.end c.loop-at.at c.loop-at.canvas c.loop-at.invariant (next_one c.args.bytes.now c.args.end c.loop-at.at c.loop-at.canvas c.loop-at.invariant c.loop-at-test.true) _ c.in-Bad.ensures.bad

pub returns : goal.returns
returns c = played_all c.args.bytes.now c.args.end c.loop-at.at c.loop-at.canvas c.loop-at.invariant c.loop-at-test.false
