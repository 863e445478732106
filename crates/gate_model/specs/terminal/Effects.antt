-- What each control function does to a screen: one row for each, named after ECMA-48 (the effects are this
-- project's own). A function without a row has no effect.
use Rattle.std.specs.Prelude.{ℕ, Bool, true, false, ◌&&◌, ◌||◌, ◌==◌, nat_le, if◌then◌else◌}
use Rattle.std.specs.Int.{is_in_range}
use Rattle.gate_model.specs.declared.control.Control.{Control}
use Rattle.gate_model.specs.declared.control.Control.TheVariants.{Print, Code, Esc, Csi}
use Rattle.gate_model.specs.declared.control.Params.{Params}
use Rattle.gate_model.specs.terminal.Arguments.{first_amount, first_choice, listed}
use Rattle.gate_model.specs.terminal.Cells.{mended}
use Rattle.gate_model.specs.terminal.Terminal.{Terminal, opening_screen}
use Rattle.gate_model.specs.terminal.TabStops.{with_stop, stops_cleared}
use Rattle.gate_model.specs.terminal.Cursor.{returned, moved_back, moved_on, moved_up, moved_down, to_column, to_row, to_place, tabbed_on, tabbed_back, saved_cursor, restored_cursor}
use Rattle.gate_model.specs.terminal.Scrolling.{line_feed, reverse_line_feed, scrolled_up, scrolled_down, lines_inserted, lines_deleted, is_within, are_margins, with_margins}
use Rattle.gate_model.specs.terminal.Editing.{display_erased, line_erased, characters_erased, characters_inserted, characters_deleted}
use Rattle.gate_model.specs.terminal.Printing.{printed, repeated}
use Rattle.gate_model.specs.terminal.Pens.{styled}
use Rattle.gate_model.specs.terminal.Modes.{modes_set, names_mode}

-- RIS (ESC c): the state of the start; the lines that were scrolled stay counted
abbrev pub reset : Terminal → Terminal
reset t = record (opening_screen t.faces t.grid.cols t.grid.rows) { shift = t.shift }

-- BS, HT, LF, VT, FF and CR
abbrev pub code_effect : ℕ → Terminal → Terminal
code_effect code t =
    if code == 0x08 then moved_back 1 t else (
    if code == 0x09 then tabbed_on 1 t else (
    if is_in_range 0x0A 0x0C code then line_feed t else (
    if code == 0x0D then returned t else t)))

-- DECSC, DECRC, NEL, HTS, RI and RIS
abbrev pub escape_effect : ℕ → Terminal → Terminal
escape_effect last t =
    if last == 0x37 then saved_cursor t else (
    if last == 0x38 then restored_cursor t else (
    if last == 0x45 then line_feed (returned t) else (
    if last == 0x48 then record t { stops = with_stop t.x t.stops } else (
    if last == 0x4D then reverse_line_feed t else (
    if last == 0x63 then reset t else t)))))

-- CUU, CUD, CUF, CUB, CNL, CPL, CHA, CUP, CHT, CBT, VPA and HVP
abbrev pub cursor_effect : Params → ℕ → Terminal → Terminal
cursor_effect params last t = let n = first_amount params in
    if last == 0x41 then moved_up n t else (
    if last == 0x42 then moved_down n t else (
    if last == 0x43 then moved_on n t else (
    if last == 0x44 then moved_back n t else (
    if last == 0x45 then returned (moved_down n t) else (
    if last == 0x46 then returned (moved_up n t) else (
    if last == 0x47 then to_column n t else (
    if last == 0x48 then to_place params t else (
    if last == 0x49 then tabbed_on n t else (
    if last == 0x5A then tabbed_back n t else (
    if last == 0x64 then to_row n t else (
    if last == 0x66 then to_place params t else t)))))))))))

-- ICH, ED, EL, IL, DL, DCH, SU, SD and ECH
abbrev pub editing_effect : Params → ℕ → Terminal → Terminal
editing_effect params last t = let n = first_amount params in
    if last == 0x40 then characters_inserted n t else (
    if last == 0x4A then display_erased (first_choice params) t else (
    if last == 0x4B then line_erased (first_choice params) t else (
    if last == 0x4C then lines_inserted n t else (
    if last == 0x4D then lines_deleted n t else (
    if last == 0x50 then characters_deleted n t else (
    if last == 0x53 then scrolled_up n t else (
    if last == 0x54 then scrolled_down n t else (
    if last == 0x58 then characters_erased n t else cursor_effect params last t))))))))

-- REP, TBC, SM, RM, SGR and DECSTBM
abbrev pub sequence_effect : Params → ℕ → Terminal → Terminal
sequence_effect params last t =
    if last == 0x62 then repeated (first_amount params) t else (
    if last == 0x67 then record t { stops = stops_cleared (first_choice params) t.x t.stops } else (
    if last == 0x68 then record t { modes = modes_set false true (listed params) t.modes } else (
    if last == 0x6C then record t { modes = modes_set false false (listed params) t.modes } else (
    if last == 0x6D then record t { pen = styled t.pen (listed params) } else (
    if last == 0x72 then with_margins params t else editing_effect params last t)))))

-- the private modes
abbrev pub private_effect : Params → ℕ → Terminal → Terminal
private_effect params last t =
    if last == 0x68 then record t { modes = modes_set true true (listed params) t.modes } else (
    if last == 0x6C then record t { modes = modes_set true false (listed params) t.modes } else t)

-- what the function does, but for a wrap that is pending
abbrev pub act : Control → Terminal → Terminal
act (Print c) t = printed c t
act (Code code) t = code_effect code t
act (Esc last) t = escape_effect last t
act (Csi private params last) t = if private then private_effect params last t else sequence_effect params last t

-- ---- which functions clear a pending wrap: all but Print, REP, SGR, DSR, DA, HTS and TBC, and those that
-- have no effect in their case

-- a cursor movement, or an editing function that always has its effect
abbrev pub always_clears : ℕ → Bool
always_clears last =
    is_in_range 0x40 0x49 last || last == 0x50 || last == 0x53 || last == 0x54 || last == 0x58 || last == 0x5A || last == 0x64 || last == 0x66

abbrev pub sequence_clears : Params → ℕ → Terminal → Bool
sequence_clears params last t =
    if last == 0x4A || last == 0x4B then nat_le (first_choice params) 2 else (
    if last == 0x4C || last == 0x4D then is_within t else (
    if last == 0x68 || last == 0x6C then names_mode false (listed params) else (
    if last == 0x72 then are_margins params t else always_clears last)))

abbrev pub clears_wrap : Control → Terminal → Bool
clears_wrap (Print c) t = false
clears_wrap (Code code) t = is_in_range 0x08 0x0D code
clears_wrap (Esc last) t = last == 0x37 || last == 0x38 || last == 0x45 || last == 0x4D || last == 0x63
clears_wrap (Csi private params last) t =
    if private then (last == 0x68 || last == 0x6C) && names_mode true (listed params) else sequence_clears params last t

-- what the function does, with the wrap that it clears
abbrev pub acted : Control → Terminal → Terminal
acted control t = let after = act control t in record after { pending = if clears_wrap control t then false else after.pending }

-- the effect of a control function: what it does, and then each half without its other half becomes a space
abbrev pub effect : Control → Terminal → Terminal
effect control t = let after = acted control t in record after { grid = mended after.grid }
