use Rattle.std.proofs.Common.{◌≡◌, ℕ, ◌-◌, List, length, take, drop, None, ap, ◌∙◌}
use Rattle.std.specs.List.{last_or}
use Rattle.display_history.proofs.Places.{last_at, rest_whole}
use Rattle.display_history.proofs.queue.Queue.last.Goals as goal

pub returns : goal.returns
returns c =
    let front = c.self.inside.front in
    let xs : List (ℕ × List ℕ) = take (length c.deref.result.now - front) (drop front c.deref.result.now) in
    let whole : xs ≡ c.args.self.now = rest_whole front c.deref.result.now ∙ (ap (drop front) c.deref.ensures.value ∙ c.self.view_is) in
    c.last.ensures.value ∙ (last_at xs ∙ ap (last_or None) whole)
