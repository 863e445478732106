use Rattle.std.proofs.Common.{◌≡◌, ◌∷◌, [], ◌++◌, ℕ, List, length, ◌<◌, rules, of_calls, refl, ap, sym, ◌∙◌, subst, arith}
use Rattle.gate_model.specs.Limits.{most_kept_text}
use Rattle.gate_model.specs.text.Text.{texts}
use Rattle.display_history.specs.Keeping.{HasKept}
use Rattle.desk_core.specs.Frames.{FramesState}
use Rattle.desk_core.proofs.FrameTexts.{last_stamp-more, newest_is}
use Rattle.desk_core.proofs.frames.Frames.append.Goals as goal

pub push-requires : goal.push-requires
push-requires c = omega (arith, c.newest_is_last.ensures c.self.inside.kept c.self.invariant.0 c.self.invariant.1, c.self.invariant.2, ap (λ (f : FramesState). f.stamp) c.self.view_is, c.requires)

pub returns-clause-added : goal.returns-clause-added
returns-clause-added c =
    let all = c.self.invariant.0 in
    let text : List ℕ = c.texts_of.new.into.items in
    let is : text ≡ texts c.args.frame.now = search (rules, of_calls) in
    let copied : most_kept_text < length text → c.in_ok-beside.beside.items ≡ text = search (rules, of_calls) in
    let kept = c.in_ok-push.ensures.pushed all c.self.invariant.1 in
    record {
      kept = λ fs has. subst (λ (bytes : List ℕ). HasKept c.push.new.self (fs ++ (c.args.stamp, bytes) ∷ [])) is (c.in_ok-push.ensures.pushed fs (subst (λ (f : FramesState). HasKept f.kept fs) (sym c.self.view_is) has));
      stamp = refl;
      newest = newest_is c.newest_is_kept.ensures all c.args.stamp text c.push.new.self.kept c.in_ok-beside.beside.items kept.kept copied ∙ is;
    }

pub invariant_of-self-2 : goal.invariant_of-self-2
invariant_of-self-2 c =
    let all = c.self.invariant.0 in
    (all ++ (c.args.stamp, c.texts_of.new.into.items) ∷ [], c.in_ok-push.ensures.pushed all c.self.invariant.1, last_stamp-more 0 all c.args.stamp c.texts_of.new.into.items)
