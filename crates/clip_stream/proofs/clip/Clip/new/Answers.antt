use Rattle.std.proofs.Common.{List, ℕ, None, ap}
use Rattle.clip_stream.specs.Pasted.{Clipboard}
use Rattle.clip_stream.proofs.Typing.{nothing_waits}
use Rattle.clip_stream.proofs.clip.Clip.new.Goals as goal

pub returns : goal.returns
returns c =
    let empty : List ℕ → Clipboard = λ waiting. record { clip = None; waiting = waiting } in
    ap empty (nothing_waits c.in_ok-pasted.pasted c.in_ok-waiting.waiting c.in_ok-pasted.ensures c.in_ok-waiting.ensures)
