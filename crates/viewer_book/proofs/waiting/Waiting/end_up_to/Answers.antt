use Rattle.std.proofs.Common.{rules, ◌≡◌, ℕ, List, ◌∙◌, ap}
use Rattle.std.specs.Prelude.{filter, nat_lt}
use Rattle.std.proofs.lemmas.Fn.{filter_same}
use Rattle.viewer_book.proofs.waiting.Waiting.end_up_to.Goals as goal

pub returns : goal.returns
returns c =
    let left : c.retain.new.self.items ≡ filter (λ (s : ℕ). nat_lt c.args.stamp s) c.self.inside.stamps.items = filter_same _ _ _ (λ x b f' k. search rules) _ _ c.retain.ensures.filtered in
    left ∙ ap (λ (l : List ℕ). filter (λ (s : ℕ). nat_lt c.args.stamp s) l) c.self.view_is
