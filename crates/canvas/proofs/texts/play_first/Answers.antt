use Rattle.std.proofs.Common.{arith}
use Rattle.canvas.proofs.TextLaws.{found, none_there}
use Rattle.canvas.proofs.texts.play_first.Goals as goal

pub returns-in_ok-play_frame-in-Whole-clause-count : goal.returns-in_ok-play_frame-in-Whole-clause-count
returns-in_ok-play_frame-in-Whole-clause-count c = λ i rest r e. (found i rest c.args.bytes.now c.in-Whole.frame c.in-Whole.count r e c.in-Whole.ensures.whole).1

pub returns-in_ok-play_frame-in-Whole-clause-played : goal.returns-in_ok-play_frame-in-Whole-clause-played
returns-in_ok-play_frame-in-Whole-clause-played c = λ i rest m r e s. c.in_ok-play_frame-in-Whole.ensures.played i m (found i rest c.args.bytes.now c.in-Whole.frame c.in-Whole.count r e c.in-Whole.ensures.whole).0 s

pub returns-in-More : goal.returns-in-More
returns-in-More c = record {
  within = omega arith;
  count = λ i rest r e. absurd (none_there i rest c.args.bytes.now c.next_instruction.result r e c.next_instruction.ensures.more c.next_instruction.ensures.bad c.in-More.is);
  played = λ i rest m r e s. absurd (none_there i rest c.args.bytes.now c.next_instruction.result r e c.next_instruction.ensures.more c.next_instruction.ensures.bad c.in-More.is);
  unchanged = tt;
}
