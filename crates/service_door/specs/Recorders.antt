-- The recorder of a session (this project's own).
use Rattle.std.specs.Prelude.{◌≡◌, ℕ, Bool, true, false, List}
use Rattle.gate_model.specs.session.Delivered.{delivered}
use Rattle.gate_model.specs.session.History.{History}
use Rattle.gate_model.specs.declared.sharing.Role.TheVariants.{Keep}
use Rattle.gate_model.specs.text.Text.{texts}
use Rattle.gate_model.specs.Sequences.{IsLater}
use Rattle.shared_desk.specs.declared.place.Place.{Place}

-- the place of a viewer that keeps the session, and the text of what it was given so far
abbrev pub IsKeeper : Place → List ℕ → Type 0
IsKeeper place first = (place.role ≡ Keep) × (first ≡ texts (delivered place.reader.view.seen place.reader.viewer))

-- the history of a session that begins so: just this, or where a recorder is wanted one that begins with it
abbrev pub HasSeen : Bool → History → History → Type 0
HasSeen false begun seen = seen ≡ begun
HasSeen true begun seen = IsLater begun seen
