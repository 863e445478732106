-- The words of the program (this project's own): `draw COLS ROWS`, `script`, `script ENTRIES`, `load SEED
-- ROUNDS`, `play info`, `play at STAMP`, `play keys`, `clip`.
use Rattle.std.specs.Prelude.{ℕ, ◌*◌, ◌-◌, ◌^◌, ◌<◌, ◌≤◌, List, [], ◌∷◌, Bool, ◌&&◌, nat_le, if◌then◌else◌, Option, Some, None, codes, bytes_eq}
use Rattle.gate_model.specs.Limits.{most_columns, most_rows, most_cells, most_entries}
use Rattle.gate_model.specs.session.Steps.{IsScreenSize}
use Rattle.script_grammar.specs.declared.form.Form.{Form}
use Rattle.script_grammar.specs.declared.form.Form.TheVariants.{Text, Load, Play, Clip}
use Rattle.script_grammar.specs.declared.play_form.PlayForm.TheVariants.{Info, At, Keys}
use Rattle.script_grammar.specs.declared.text_form.TextForm.{TextForm}
use Rattle.script_grammar.specs.declared.text_form.TextForm.TheVariants.{Draw, Script}
use Rattle.script_grammar.specs.declared.size.Size.{Size}
use Rattle.script_grammar.specs.Numbers.{number_of, number_up_to}

-- a screen that the commands open: at most 512 columns, 256 rows and 8,192 cells
abbrev pub is_size : ℕ → ℕ → Bool
is_size cols rows = nat_le 1 cols && nat_le cols most_columns && nat_le 1 rows && nat_le rows most_rows && nat_le (cols * rows) most_cells

abbrev pub sized : Option ℕ → Option ℕ → Option Size
sized (Some cols) (Some rows) = if is_size cols rows then Some record { cols = cols; rows = rows } else None
sized cols rows = None

abbrev pub size_of : List ℕ → List ℕ → Option Size
size_of cols rows = sized (number_of cols) (number_of rows)

abbrev pub drawing : Option Size → Option TextForm
drawing None = None
drawing (Some size) = Some (Draw size)

-- a script's session may have 1 to 2^40 entries
abbrev pub counted : Option ℕ → Option TextForm
counted None = None
counted (Some entries) = if nat_le 1 entries && nat_le entries most_entries then Some (Script entries) else None

abbrev pub of_text : Option TextForm → Option Form
of_text None = None
of_text (Some form) = Some (Text form)

-- a load has at most 1,000,000 rounds
abbrev pub most_rounds : ℕ
most_rounds = 1000000

abbrev pub loading : Option ℕ → Option ℕ → Option Form
loading (Some seed) (Some rounds) = if nat_le rounds most_rounds then Some (Load seed rounds) else None
loading seed rounds = None

-- what is told of a recording, by the words behind `play`
abbrev pub playing : List ℕ → Option Form
playing told = if bytes_eq told (codes "info") then Some (Play Info) else (if bytes_eq told (codes "keys") then Some (Play Keys) else None)

abbrev pub playing_at : List ℕ → Option ℕ → Option Form
playing_at told None = None
playing_at told (Some stamp) = if bytes_eq told (codes "at") then Some (Play (At stamp)) else None

-- the form of the words, if they are of one
abbrev pub form_of : List (List ℕ) → Option Form
form_of (name ∷ []) =
    if bytes_eq name (codes "script") then Some (Text (Script most_entries)) else (
    if bytes_eq name (codes "clip") then Some Clip else None)
form_of (name ∷ word ∷ []) =
    if bytes_eq name (codes "script") then of_text (counted (number_of word)) else (
    if bytes_eq name (codes "play") then playing word else None)
form_of (name ∷ one ∷ other ∷ []) =
    if bytes_eq name (codes "draw") then of_text (drawing (size_of one other)) else (
    if bytes_eq name (codes "load") then loading (number_up_to (2 ^ 64 - 1) one) (number_of other) else (
    if bytes_eq name (codes "play") then playing_at one (number_up_to (2 ^ 64 - 1) other) else None))
form_of words = None

-- what a form holds is in range
abbrev pub IsTextForm : TextForm → Type 0
IsTextForm (Draw size) = IsScreenSize size.cols size.rows
IsTextForm (Script entries) = (1 ≤ entries) × (entries ≤ most_entries)

abbrev pub IsForm : Form → Type 0
IsForm (Text form) = IsTextForm form
IsForm (Load seed rounds) = (seed < 2 ^ 64) × (rounds ≤ most_rounds)
IsForm (Play told) = Unit {0}
IsForm Clip = Unit {0}
