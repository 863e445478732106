-- What a state stands for: what the head of the characters so far finds, whatever follows them.
use Rattle.std.specs.Prelude.{◌≡◌, ◌+◌, ◌-◌, ◌≤◌, ◌<◌, ◌==◌, ℕ, List, [], ◌∷◌, ◌++◌, All, length, take, Some, None, true, false, if◌then◌else◌}
use Rattle.ecma_parser.specs.declared.machine.Machine.{Machine}
use Rattle.ecma_parser.specs.declared.sequence.Sequence.{Sequence}
use Rattle.ecma_parser.specs.declared.state.Completed.{Completed}
use Rattle.ecma_parser.specs.declared.state.Completed.TheVariants.{Nothing, Text, ControlCharacter, EscapeSequence, ControlSequence}
use Rattle.ecma_parser.specs.declared.state.State.{State}
use Rattle.ecma_parser.specs.declared.state.State.TheVariants.{Ground, Escape, EscapeIntermediate, CsiEntry, CsiParam, CsiIntermediate, CsiIgnore, OscEntry, OscPalette, OscPaletteEscape, OscString, SosPmApcString, StringEscape}
use Rattle.ecma_parser.specs.Sequence.{Holds, csi_of}
use Rattle.gate_model.specs.declared.control.Control.{Control}
use Rattle.gate_model.specs.declared.control.Control.TheVariants.{Print, Code, Esc}
use Rattle.gate_model.specs.terminal.Controls.{Found, after_while, ended_by, no_control, is_parameter, is_intermediate, is_csi_final, csi_after, string_escape, head_string, head_palette, head_osc, escape_after, head_control}
use Rattle.gate_model.specs.text.Reading.{read}

-- within a control sequence without effect: from its intermediates on
abbrev pub csi_void_end : List ℕ → Found
csi_void_end cs = ended_by is_csi_final no_control (after_while is_intermediate cs)

-- and from its parameters on
abbrev pub csi_void : List ℕ → Found
csi_void cs = csi_void_end (after_while is_parameter cs)

-- after an ESC in the colour of a palette, of which n characters are left
abbrev pub palette_escape : ℕ → List ℕ → Found
palette_escape n [] = None
palette_escape n (c ∷ cs) = if c == 0x5C then head_palette (n - 1) cs else Some ([], 0x1B ∷ c ∷ cs)

-- with the character c and what comes after it, the rest reads so
abbrev pub Follows : List ℕ → ℕ → (List ℕ → Found) → Type 0
Follows rest c next = (more : List ℕ) → head_control (rest ++ c ∷ more) ≡ next (c ∷ more)

-- with whatever comes after it, the rest reads so
abbrev pub ReadsAs : List ℕ → (List ℕ → Found) → Type 0
ReadsAs rest next = (more : List ℕ) → head_control (rest ++ more) ≡ next more

-- the unfinished characters for which a state stands
abbrev pub StandsFor : State → Sequence → List ℕ → Type 0
StandsFor Ground s rest = rest ≡ []
StandsFor Escape s rest = rest ≡ 0x1B ∷ []
StandsFor EscapeIntermediate s rest = ReadsAs rest escape_after
StandsFor CsiEntry s rest = Holds s [] × ReadsAs rest (csi_after [])
StandsFor CsiParam s rest = (c : ℕ) × (text : List ℕ) × Holds s (c ∷ text) × ReadsAs rest (csi_after (c ∷ text))
StandsFor CsiIntermediate s rest = ReadsAs rest csi_void_end
StandsFor CsiIgnore s rest = ReadsAs rest csi_void
StandsFor OscEntry s rest = ReadsAs rest head_osc
StandsFor (OscPalette left) s rest = (0 < left) × ReadsAs rest (head_palette left)
StandsFor (OscPaletteEscape left) s rest = (0 < left) × ReadsAs rest (palette_escape left)
StandsFor OscString s rest = ReadsAs rest (head_string true)
StandsFor SosPmApcString s rest = ReadsAs rest (head_string false)
StandsFor StringEscape s rest = ReadsAs rest string_escape

-- the unfinished characters for which a machine stands
abbrev pub Stands : Machine → List ℕ → Type 0
Stands m rest = StandsFor m.state m.sequence rest

-- the control functions of what is completed, with the parameters that came before it
abbrev pub control_by : Completed → Sequence → List Control
control_by Nothing s = []
control_by (Text c) s = Print c ∷ []
control_by (ControlCharacter code) s = Code code ∷ []
control_by (EscapeSequence last) s = Esc last ∷ []
control_by (ControlSequence last) s = csi_of s last ∷ []

-- characters give these control functions, and the machine stands for those that are unfinished
pub record Gives (cs : List ℕ) (given : List Control) (m : Machine) : Type 0 where
  pub rest : List ℕ
  pub is : read head_control cs ≡ (given, rest)
  pub stands : Stands m rest

-- `ESC [` and perhaps `?` are so many bytes, and the sequence holds what was read of its parameters
pub record Opened (count : ℕ) (bytes : List ℕ) (s : Sequence) : Type 0 where
  pub within : count ≤ length bytes
  pub text : List ℕ
  pub long : count ≡ length text + 2
  pub holds : Holds s text
  pub reads : ReadsAs (take count bytes) (csi_after text)
  pub ascii : All (λ b. b ≤ 0x7F) (take count bytes)
