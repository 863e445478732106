use Rattle.std.proofs.Common.{◌++◌, ℕ, List, Option, take, drop, ap, refl, sym, ◌∙◌, arith}
use Rattle.std.proofs.lemmas.List.{take-append-drop}
use Rattle.gate_outside.specs.Edge.{gained}
use Rattle.gate_outside.proofs.Moved.{gained-gained}
use Rattle.user_serve.proofs.Shown.{shown_first, shown_last, shown_more, shown_part}
use Rattle.user_serve.proofs.showing.show_all.Goals as goal

pub returns-in-Err-clause-ran : goal.returns-in-Err-clause-ran
returns-in-Err-clause-ran g c =
    let part = c.in-Err.ensures.part in
    let text = c.as_slice.result.now in
    (take part.0 text, part.2, shown_part _ _ text (take part.0 text) c.history_is_sound.ensures.sound (c.as_slice.ensures ∙ c.requires.fresh) (drop part.0 text, sym (take-append-drop part.0 text)))

pub loop-init : goal.loop-init
loop-init g c = record { stays = record { session = refl; viewer = refl }; so_far = (c.as_slice.result.now, c.in-Ok.ensures.ok, shown_first _ _ _ (c.as_slice.ensures ∙ c.requires.fresh)); later = c.write_all.ensures.faults.1 }

pub loop-preserved-in-Ok-Gave : goal.loop-preserved-in-Ok-Gave
loop-preserved-in-Ok-Gave g c =
    let p = c.loop.invariant.so_far in
    let s = c.in-Ok-Gave.ensures.step in
    record {
      stays = record { session = c.show_next.ensures.stays.session ∙ c.loop.invariant.stays.session; viewer = c.show_next.ensures.stays.viewer ∙ c.loop.invariant.stays.viewer };
      so_far = (p.0 ++ s.0, s.1 ∙ (ap (λ (o : Option (List ℕ)). gained o s.0) p.1 ∙ gained-gained _ p.0 s.0), shown_more _ _ _ _ p.0 s.0 p.2 _ c.loop.invariant.stays.viewer _ s.2);
      later = omega (arith, c.loop.invariant.later, c.show_next.ensures.faults.1);
    }

pub loop-preserved : goal.loop-preserved
loop-preserved g c =
    let p = c.loop.invariant.so_far in
    let s = c.in-Ok-Waits.ensures.step in
    record {
      stays = record { session = c.show_next.ensures.stays.session ∙ c.loop.invariant.stays.session; viewer = c.show_next.ensures.stays.viewer ∙ c.loop.invariant.stays.viewer };
      so_far = (p.0 ++ s.0, s.1 ∙ (ap (λ (o : Option (List ℕ)). gained o s.0) p.1 ∙ gained-gained _ p.0 s.0), shown_more _ _ _ _ p.0 s.0 p.2 _ c.loop.invariant.stays.viewer _ s.2);
      later = omega (arith, c.loop.invariant.later, c.show_next.ensures.faults.1);
    }

pub returns-in-Err-show_next-clause-ran : goal.returns-in-Err-show_next-clause-ran
returns-in-Err-show_next-clause-ran g c =
    let p = c.loop.invariant.so_far in
    let s = c.in-Err-show_next.ensures.step in
    (p.0 ++ s.0, s.1 ∙ (ap (λ (o : Option (List ℕ)). gained o s.0) p.1 ∙ gained-gained _ p.0 s.0), shown_last _ _ _ _ p.0 s.0 p.2 _ c.loop.invariant.stays.viewer c.in-Err-show_next.end s.2)
