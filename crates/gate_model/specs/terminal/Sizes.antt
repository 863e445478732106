-- Sizes of a screen, and where they change among the bytes of its host (this project's own).
use Rattle.std.specs.Prelude.{ℕ, ◌≤◌, List, [], ◌∷◌, All, filter, nat_lt}
use Rattle.gate_model.specs.Limits.{most_columns, most_rows}
use Rattle.gate_model.specs.declared.faces.Faces.{Faces}
use Rattle.gate_model.specs.declared.faces.Faces.TheVariants.{Ascii}

-- a size of the screen
pub record ScreenSize : Type 0 where
  pub columns : ℕ
  pub rows : ℕ

abbrev pub sized : ℕ → ℕ → ScreenSize
sized columns rows = record { columns = columns; rows = rows }

-- how a screen begins: its size, which may change, and its faces, which don't
pub record Opening : Type 0 where
  pub size : ScreenSize
  pub faces : Faces

-- with the faces of ASCII alone
abbrev pub in_ascii : ℕ → ℕ → Opening
in_ascii columns rows = record { size = sized columns rows; faces = Ascii }

-- a screen has 1 to 512 columns and 1 to 256 rows
pub record IsScreenSize (cols rows : ℕ) : Type 0 where
  pub some_columns : 1 ≤ cols
  pub few_columns : cols ≤ most_columns
  pub some_rows : 1 ≤ rows
  pub few_rows : rows ≤ most_rows

-- a change of size: after so many bytes of the host
pub record Cut : Type 0 where
  pub after : ℕ
  pub size : ScreenSize

-- the changes stand among the first n bytes
abbrev pub AreWithin : ℕ → List Cut → Type 0
AreWithin n cuts = All (λ cut. cut.after ≤ n) cuts

-- the changes whose numbers are below n
abbrev pub cuts_below : ℕ → List Cut → List Cut
cuts_below n cuts = filter (λ cut. nat_lt cut.after n) cuts

-- the size in force after changes, from a size on
abbrev pub size_after : ScreenSize → List Cut → ScreenSize
size_after size [] = size
size_after size (cut ∷ cuts) = size_after cut.size cuts

-- the size in force at a byte, counted from 1: that of the last change whose number is below it, or the first one
abbrev pub size_at : ScreenSize → List Cut → ℕ → ScreenSize
size_at size cuts n = size_after size (cuts_below n cuts)
