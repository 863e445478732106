-- What is known of a state that is held, and of one whose cells were mended.
use Rattle.std.proofs.Common.{◌≡◌, sym, subst}
use Rattle.std.specs.Prelude.{IfSome, Option, Some, None}
use Rattle.gate_model.specs.terminal.Terminal.{IsPlaceOf, Saved}
use Rattle.gate_model.specs.terminal.Cells.{CellGrid, mended}
use Rattle.gate_model.proofs.Mending.{mended_full}
use Rattle.vt_screen.specs.Soundness.{IsFit, IsSound, state_of}
use Rattle.vt_screen.specs.declared.state.State.TheInside.{Inside}

pub fit_of : (s : Inside) → IsSound s → IsFit (state_of s)
fit_of s v = record { size = v.size; full = v.full; cursor = v.cursor; order = v.order; margins = v.margins }

saved_kept : (g : CellGrid) (o : Option Saved) → IfSome o (λ p. IsPlaceOf g p.x p.y) → IfSome o (λ p. IsPlaceOf (mended g) p.x p.y)
saved_kept g None k = k
saved_kept g (Some p) k = record { column = k.column; row = k.row }

pub mended_sound : (s : Inside) (g : CellGrid) → g ≡ mended s.grid → IsSound s → IsSound (record s { grid = g })
mended_sound s g is v = subst (λ (k : CellGrid). IsSound (record s { grid = k })) (sym is) record {
  columns = v.columns;
  rows = v.rows;
  size = v.size;
  full = mended_full s.grid;
  cursor = record { column = v.cursor.column; row = v.cursor.row };
  order = v.order;
  margins = v.margins;
  stops = v.stops;
  saved = saved_kept s.grid s.saved v.saved;
}
