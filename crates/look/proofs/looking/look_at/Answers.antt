use Rattle.std.proofs.Common.{ℕ, List, sym, subst}
use Rattle.guac_framing.specs.Found.{IsBadAt}
use Rattle.look.specs.Shown.{IsLooked}
use Rattle.guac_framing.proofs.Streams.{left_at, within}
use Rattle.look.proofs.Streams.{goes_on}
use Rattle.look.proofs.looking.look_at.Goals as goal

pub loop-at-preserved : goal.loop-at-preserved
loop-at-preserved c = record {
  within = within c.args.text.now c.loop-at.at c.in-Whole.frame c.in-Whole.size c.in-Whole.ensures.whole c.loop-at.invariant.within;
  counted = c.in_ok-read-in-Whole.ensures.room;
  playable = c.in_ok-read-in-Whole.ensures.playable;
  shown = c.in_ok-read-in-Whole.ensures.shown c.args.text.now c.loop-at.at c.loop-at.invariant.shown (goes_on c.args.text.now c.loop-at.at c.in-Whole.frame c.in-Whole.size c.in-Whole.ensures.whole c.loop-at.invariant.within);
}

pub returns-in-Bad : goal.returns-in-Bad
returns-in-Bad c = subst (IsLooked c.args.text.now c.args.until) (sym c.ended-in-Bad.ensures) (record {
  rest = c.loop-at.view.waiting.items;
  shown = c.loop-at.invariant.shown;
  ended = subst (λ (l : List ℕ). IsBadAt l c.in-Bad.bad) (left_at c.args.text.now c.loop-at.at) (record { place = c.in-Bad.ensures.bad; kind = c.in-Bad.ensures.kind; one_kind = c.in-Bad.ensures.one_kind });
})
