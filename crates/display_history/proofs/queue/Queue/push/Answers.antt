use Rattle.std.proofs.Common.{ap, sym, ◌∙◌, length, ℕ, List}
use Rattle.display_history.proofs.Places.{counted_more}
use Rattle.display_history.proofs.queue.Queue.push.Goals as goal

pub invariant_of-self-2 : goal.invariant_of-self-2
invariant_of-self-2 c =
    counted_more c.self.inside.frames.items c.push.new.self.items c.self.inside.front c.self.inside.bytes c.len-bytes.result c.new.result
    c.in_ok-push.ensures.items
    (c.len-bytes.ensures ∙ (c.args.text.ok.0 ∙ ap (λ (f : ℕ × List ℕ). length f.1) (sym c.new.ensures)))
    c.self.invariant.0
    c.self.invariant.1
