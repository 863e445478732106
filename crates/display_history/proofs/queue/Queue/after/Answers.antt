use Rattle.std.proofs.Common.{◌≡◌, ℕ, ◌-◌, List, length, take, drop, rules, of_calls, ap, sym, ◌∙◌, subst}
use Rattle.std.specs.Prelude.{Bool, nat_le}
use Rattle.std.specs.List.Sorted.{IsPartitionedBy}
use Rattle.std.proofs.lemmas.List.Sorted.{IsPartitionPoint-from_clause}
use Rattle.display_history.specs.Keeping.{after_stamp}
use Rattle.display_history.proofs.Places.{partitioned, from_place, rest_whole}
use Rattle.display_history.proofs.queue.Queue.after.Goals as goal

pub returns : goal.returns
returns c =
    let t = c.args.stamp in
    let front = c.self.inside.front in
    let now = c.args.self.now in
    let xs : List (ℕ × List ℕ) = take (length c.deref.result.now - front) (drop front c.deref.result.now) in
    let p : ℕ × List ℕ → Bool = λ f. nat_le f.0 t in
    let whole : xs ≡ now = rest_whole front c.deref.result.now ∙ (ap (drop front) c.deref.ensures.value ∙ c.self.view_is) in
    let parts : IsPartitionedBy p xs = subst (IsPartitionedBy p) (sym whole) (partitioned t now c.requires) in
    let place = IsPartitionPoint-from_clause p xs c.partition_point-first.result c.partition_point-first.ensures.partitioned parts (λ a r f k. search (rules, of_calls)) in
    rest_whole c.partition_point-first.result xs ∙ (from_place t xs c.partition_point-first.result place ∙ ap (after_stamp t) whole)
