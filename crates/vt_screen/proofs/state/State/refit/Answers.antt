use Rattle.std.proofs.Common.{refl, ap, sym, ◌∙◌}
use Rattle.std.specs.Option.{option_map}
use Rattle.gate_model.specs.terminal.Resizing.{saved_within}
use Rattle.gate_model.specs.terminal.Terminal.{Terminal}
use Rattle.vt_screen.proofs.Sound.{sized}
use Rattle.vt_screen.proofs.state.State.refit.Goals as goal

pub invariant_of-self-2 : goal.invariant_of-self-2
invariant_of-self-2 c = sized c.self.inside _ c.args.cols c.args.rows c.requires refl refl c.in_ok-resize.ensures.cells c.in_ok-stops.ensures c.min-self-inside.ensures c.min-self-inside-2.ensures refl refl
    (c.saved_within-saved.ensures ∙ ap (λ (t : Terminal). option_map (saved_within c.args.cols c.args.rows) t.saved) (sym c.self.view_is))
