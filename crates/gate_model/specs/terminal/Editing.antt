-- Erasing, inserting and deleting of cells (ECMA-48, ED, EL, ECH, ICH, DCH; erased cells are blank, this
-- project's own).
use Rattle.std.specs.Prelude.{ℕ, ◌+◌, ◌-◌, ◌*◌, min, replicate, ◌==◌, if◌then◌else◌}
use Rattle.gate_model.specs.terminal.Cells.{CellGrid, blank, with_part, place, erased, inserted, deleted}
use Rattle.gate_model.specs.terminal.Terminal.{Terminal}

-- the places from `from` up to, not including, `to` become blank, counted row by row
abbrev pub blanked : ℕ → ℕ → CellGrid → CellGrid
blanked from to g = record g { cells = with_part from to (replicate (to - from) blank) g.cells }

-- the cursor's place, counted row by row
abbrev pub cursor_place : Terminal → ℕ
cursor_place t = place t.x t.y t.grid

-- the number of places
abbrev pub place_count : Terminal → ℕ
place_count t = t.grid.rows * t.grid.cols

-- ED: from the cursor's cell to the end, from the start through it, or all
abbrev pub display_erased : ℕ → Terminal → Terminal
display_erased which t =
    if which == 0 then record t { grid = blanked (cursor_place t) (place_count t) t.grid } else (
    if which == 1 then record t { grid = blanked 0 (cursor_place t + 1) t.grid } else (
    if which == 2 then record t { grid = blanked 0 (place_count t) t.grid } else t))

-- EL: the same within the line
abbrev pub line_erased : ℕ → Terminal → Terminal
line_erased which t =
    if which == 0 then record t { grid = erased t.y t.x t.grid.cols t.grid } else (
    if which == 1 then record t { grid = erased t.y 0 (t.x + 1) t.grid } else (
    if which == 2 then record t { grid = erased t.y 0 t.grid.cols t.grid } else t))

-- ECH: n cells from the cursor's on, within the line
abbrev pub characters_erased : ℕ → Terminal → Terminal
characters_erased n t = record t { grid = erased t.y t.x (min (t.x + n) t.grid.cols) t.grid }

-- ICH: the cells of the line from the cursor's on move right by n
abbrev pub characters_inserted : ℕ → Terminal → Terminal
characters_inserted n t = record t { grid = inserted t.x t.y n t.grid }

-- DCH: n cells go, and those of the line right of them move left
abbrev pub characters_deleted : ℕ → Terminal → Terminal
characters_deleted n t = record t { grid = deleted t.x t.y n t.grid }
