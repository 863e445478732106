-- What a viewer sees of a visit (this project's own).
use Rattle.std.specs.Prelude.{ℕ, List, [], ◌∷◌, ◌++◌, Option}
use Rattle.gate_model.specs.declared.instr.Instr.{Instr}
use Rattle.gate_model.specs.declared.instr.Instr.TheVariants.{Sync}
use Rattle.gate_model.specs.session.Delivered.{delivered}
use Rattle.gate_model.specs.session.History.{History}
use Rattle.gate_model.specs.session.Truth.{IsFaithfulAt}
use Rattle.gate_model.specs.text.Text.{texts}
use Rattle.gate_model.specs.Sequences.{BeginsWith}
use Rattle.guac_handshake.specs.declared.welcome.Welcome.{Welcome}
use Rattle.shared_desk.specs.declared.place.Place.{Place}
use Rattle.user_serve.specs.Users.{VisitRun}
use Rattle.user_serve.specs.declared.ends.Visit.{Visit}

-- the bytes are a front of the text of all that the viewer was given, and what it was given up to any sync draws the
-- screen that the history up to that sync leaves
pub record ShowsScreen (viewer : ℕ) (seen : History) (shown : List ℕ) : Type 0 where
  pub front : BeginsWith (texts (delivered seen viewer)) shown
  pub faithful : (t : ℕ) (given : List Instr) → BeginsWith (delivered seen viewer) (given ++ Sync t ∷ []) → IsFaithfulAt seen given t

-- so are those that a visit wrote, by what its reader's pass has seen at its end
abbrev pub VisitsShowTheScreen : Type 0
VisitsShowTheScreen = (welcome : Welcome Place) (visit : Visit) (heard shown : List ℕ) (left : Option (List ℕ)) → VisitRun welcome visit heard shown left → ShowsScreen welcome.place.reader.viewer visit.place.reader.view.seen shown
