-- Laws of screens, which public functions of `laws::screens` prove.
use Rattle.std.specs.Prelude.{◌≡◌, ℕ, ◌+◌, List, [], ◌∷◌, ◌++◌, length}
use Rattle.gate_model.specs.declared.control.Control.{Control}
use Rattle.gate_model.specs.terminal.Printing.{IsPrintable, width_of}
use Rattle.gate_model.specs.terminal.Replies.{reports_from}
use Rattle.gate_model.specs.terminal.Resizing.{resized}
use Rattle.gate_model.specs.terminal.Screens.{after_controls, completed, screen}
use Rattle.gate_model.specs.terminal.Sizes.{ScreenSize, Opening, Cut, AreWithin}
use Rattle.gate_model.specs.terminal.Terminal.{Terminal}

-- the screen, with so many more lines counted as scrolled
abbrev pub scrolled_more : ℕ → Terminal → Terminal
scrolled_more n t = record t { shift = t.shift + n }

-- how many lines were scrolled before is only counted: no function looks at the number
abbrev pub ScrollsAreCounted : Type 0
ScrollsAreCounted = (n : ℕ) (t : Terminal) (cs : List Control) → after_controls (scrolled_more n t) cs ≡ scrolled_more n (after_controls t cs)

-- .. and no report tells it
abbrev pub ScrollsAreNotReported : Type 0
ScrollsAreNotReported = (n : ℕ) (t : Terminal) (cs : List Control) → reports_from (scrolled_more n t) cs ≡ reports_from t cs

-- bytes that come after all changes of size go on from the screen before them
abbrev pub ScreensGoOn : Type 0
ScreensGoOn = (start : Opening) (bytes more : List ℕ) (cuts : List Cut) → AreWithin (length bytes) cuts → screen start (bytes ++ more) cuts ≡ after_controls (screen start bytes cuts) (completed bytes more)

-- a change after all bytes gives that screen its size
abbrev pub ScreensTurn : Type 0
ScreensTurn = (start : Opening) (bytes : List ℕ) (cuts : List Cut) (to : ScreenSize) → screen start bytes (cuts ++ record { after = length bytes; size = to } ∷ []) ≡ resized to.columns to.rows (screen start bytes cuts)

-- printable ASCII takes one column, and so does U+FFFD
abbrev pub AsciiIsNarrow : Type 0
AsciiIsNarrow = (c : ℕ) → IsPrintable c → width_of c ≡ 1

abbrev pub BoxIsNarrow : Type 0
BoxIsNarrow = width_of 0xFFFD ≡ 1
