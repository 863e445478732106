-- How a session is opened, and the legal histories (this project's own).
use Rattle.std.specs.Prelude.{◌≡◌, ℕ, ◌≤◌, List, [], ◌∷◌, length, Bool, true, ◌&&◌, nat_le}
use Rattle.std.specs.List.{list_all}
use Rattle.gate_model.specs.declared.answer.Answer.{Answer}
use Rattle.gate_model.specs.declared.entry.Entry.{Entry}
use Rattle.gate_model.specs.declared.entry.Entry.TheVariants.{Start}
use Rattle.gate_model.specs.declared.event.Event.{Event}
use Rattle.gate_model.specs.declared.instr.Instr.{Instr}
use Rattle.gate_model.specs.declared.setup.Setup.{Setup}
use Rattle.gate_model.specs.Limits.{most_term, most_entries}
pub use Rattle.gate_model.specs.terminal.Sizes.{IsScreenSize}
use Rattle.gate_model.specs.picture.Shape.{Shape, OpensScreen}
use Rattle.gate_model.specs.session.History.{History, next_stamp}
use Rattle.gate_model.specs.session.Calls.{Step}

-- a terminal type is 1 to 40 characters from ! to ~
abbrev pub is_mark : ℕ → Bool
is_mark b = nat_le 33 b && nat_le b 126

pub record IsTerminalType (term : List ℕ) : Type 0 where
  pub some : 1 ≤ length term
  pub few : length term ≤ most_term
  pub marks : list_all is_mark term ≡ true

-- what a session may be opened with
pub record IsSetup (setup : Setup) : Type 0 where
  pub size : IsScreenSize setup.cols setup.rows
  pub term : IsTerminalType setup.term
  pub some_entries : 1 ≤ setup.entries
  pub few_entries : setup.entries ≤ most_entries

-- start: a Start with the fields of the setup, the first stamp, and a frame that opens the screen
abbrev pub StartStep : Setup → ℕ → Entry → Type 0
StartStep setup now entry = let stamp = next_stamp 0 now in
    IsSetup setup × (frame : List Instr) × Shape setup.cols setup.rows frame stamp × OpensScreen frame
    × (entry ≡ Start setup.cols setup.rows setup.mode setup.term setup.faces setup.entries stamp frame)

-- the first entry is added by some start, and each other one by some call after the entries before it
abbrev pub Legal : History → Type 0
Legal [] = ⊥
Legal (e ∷ []) = (setup : Setup) × (now : ℕ) × StartStep setup now e
Legal (e ∷ f ∷ g) = Legal (f ∷ g) × (event : Event) × (answer : Answer) × Step (f ∷ g) event answer (e ∷ [])
