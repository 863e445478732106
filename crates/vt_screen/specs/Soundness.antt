-- The state of a screen's fields, and what holds of it at any time.
use Rattle.std.specs.Prelude.{◌≡◌, ◌<◌, ◌≤◌, length, IfSome}
use Rattle.gate_model.specs.terminal.CellLaws.{IsFull}
use Rattle.gate_model.specs.session.Steps.{IsScreenSize}
use Rattle.gate_model.specs.terminal.Terminal.{IsPlaceOf, Terminal}
use Rattle.vt_screen.specs.declared.state.State.TheInside.{Inside}

-- the state
abbrev pub state_of : Inside → Terminal
state_of s = record {
  grid = s.grid;
  x = s.x;
  y = s.y;
  pending = s.pending;
  top = s.top;
  bottom = s.bottom;
  stops = s.stops;
  pen = s.pen;
  saved = s.saved;
  last = s.last;
  modes = s.modes;
  faces = s.faces;
  shift = s.shift;
}

-- the size is allowed and there is a cell for each place; the cursor and what is saved of it are on the
-- grid, and so are the margins; each column has its flag among the tab stops
pub record IsSound (s : Inside) : Type 0 where
  pub columns : s.columns ≡ s.grid.cols
  pub rows : s.rows ≡ s.grid.rows
  pub size : IsScreenSize s.grid.cols s.grid.rows
  pub full : IsFull s.grid
  pub cursor : IsPlaceOf s.grid s.x s.y
  pub order : s.top ≤ s.bottom
  pub margins : s.bottom < s.grid.rows
  pub stops : length s.stops ≡ s.grid.cols
  pub saved : IfSome s.saved (λ p. IsPlaceOf s.grid p.x p.y)

-- what of it is known of a state that is held
pub record IsFit (t : Terminal) : Type 0 where
  pub size : IsScreenSize t.grid.cols t.grid.rows
  pub full : IsFull t.grid
  pub cursor : IsPlaceOf t.grid t.x t.y
  pub order : t.top ≤ t.bottom
  pub margins : t.bottom < t.grid.rows
