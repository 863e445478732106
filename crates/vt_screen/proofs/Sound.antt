-- What holds of a screen at its start, and of one that got another size.
use Rattle.std.proofs.Common.{◌≡◌, ℕ, ◌-◌, ◌*◌, List, Bool, take, drop, ap, sym, ◌∙◌, length, Option, None, Some, arith, length-append, length-take, length-drop}
use Rattle.std.specs.Prelude.{IfSome, min, ◌/◌, ◌%◌}
use Rattle.std.specs.Option.{option_map}
use Rattle.std.proofs.lemmas.List.{length-replicate}
use Rattle.std.proofs.lemmas.List.FromFn.{length-map-range_with_len}
use Rattle.gate_model.specs.terminal.Cells.{CellGrid, blank, blank_grid, kept_at, resized}
use Rattle.gate_model.specs.session.Steps.{IsScreenSize}
use Rattle.gate_model.specs.terminal.Resizing.{saved_within}
use Rattle.gate_model.specs.terminal.TabStops.{stops_resized}
use Rattle.gate_model.specs.terminal.Terminal.{IsPlaceOf, Saved, first_stops, is_first_stop}
use Rattle.vt_screen.specs.Soundness.{IsSound}
use Rattle.vt_screen.specs.declared.state.State.TheInside.{Inside}

pub opened : (s : Inside) (c r : ℕ) → IsScreenSize c r → s.columns ≡ c → s.rows ≡ r → s.grid ≡ blank_grid c r → s.stops ≡ first_stops c → s.x ≡ 0 → s.y ≡ 0 → s.top ≡ 0 → s.bottom ≡ r - 1 → s.saved ≡ None → IsSound s
opened s c r size columns rows grid stops x y top bottom saved =
    let c_is : s.grid.cols ≡ c = ap (λ (g : CellGrid). g.cols) grid in
    let r_is : s.grid.rows ≡ r = ap (λ (g : CellGrid). g.rows) grid in
    let cells_are : length s.grid.cells ≡ r * c = ap (λ (g : CellGrid). length g.cells) grid ∙ length-replicate (r * c) blank in
    let flags : length s.stops ≡ c = ap length stops ∙ length-map-range_with_len is_first_stop 0 c in
    record {
      columns = columns ∙ sym c_is;
      rows = rows ∙ sym r_is;
      size = rw (c_is, r_is) size;
      full = rw (c_is, r_is) cells_are;
      cursor = record { column = omega (arith, size.some_columns); row = omega (arith, size.some_rows) };
      order = omega arith;
      margins = omega (arith, size.some_rows);
      stops = flags ∙ sym c_is;
      saved = rw saved tt;
    }

-- ---- another size

stops_sized : (columns : ℕ) (stops : List Bool) → length (stops_resized columns stops) ≡ columns
stops_sized columns stops = omega (
  arith,
  length-append (take columns stops) (drop (length stops) (first_stops columns)),
  length-take columns stops,
  length-drop (length stops) (first_stops columns),
  length-map-range_with_len is_first_stop 0 columns,
)

saved_sized : (g : CellGrid) (c r : ℕ) (o : Option Saved) → IsScreenSize c r → g.cols ≡ c → g.rows ≡ r → IfSome (option_map (saved_within c r) o) (λ p. IsPlaceOf g p.x p.y)
saved_sized g c r None size cols rows = tt
saved_sized g c r (Some p) size cols rows = record { column = omega (arith, size.some_columns, cols); row = omega (arith, size.some_rows, rows) }

pub sized : (s n : Inside) (c r : ℕ) → IsScreenSize c r → n.columns ≡ c → n.rows ≡ r → n.grid ≡ resized c r s.grid → n.stops ≡ stops_resized c s.stops → n.x ≡ min s.x (c - 1) → n.y ≡ min s.y (r - 1)
    → n.top ≡ 0 → n.bottom ≡ r - 1 → n.saved ≡ option_map (saved_within c r) s.saved → IsSound n
sized s n c r size columns rows grid stops x y top bottom saved =
    let c_is : n.grid.cols ≡ c = ap (λ (g : CellGrid). g.cols) grid in
    let r_is : n.grid.rows ≡ r = ap (λ (g : CellGrid). g.rows) grid in
    record {
      columns = columns ∙ sym c_is;
      rows = rows ∙ sym r_is;
      size = rw (c_is, r_is) size;
      full = rw grid (length-map-range_with_len (λ at. kept_at (at % c) (at / c) s.grid) 0 (r * c));
      cursor = record { column = omega (arith, x, c_is, size.some_columns); row = omega (arith, y, r_is, size.some_rows) };
      order = omega (arith, top);
      margins = omega (arith, bottom, r_is, size.some_rows);
      stops = (ap length stops ∙ stops_sized c s.stops) ∙ sym c_is;
      saved = rw saved (saved_sized n.grid c r s.saved size c_is r_is);
    }
