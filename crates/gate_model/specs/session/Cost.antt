-- What a frame may cost: a scroll, the places that changed, and the glyphs that are new (this project's own).
use Rattle.std.specs.Prelude.{ℕ, ◌+◌, ◌-◌, ◌*◌, ◌/◌, ◌%◌, ◌≤◌, List, [], ◌∷◌, ◌++◌, length, filter, Bool, not, ◌&&◌, nat_lt, if◌then◌else◌}
use Rattle.std.specs.List.{range_with_len}
use Rattle.gate_model.specs.declared.key.Key.{Key}
use Rattle.gate_model.specs.declared.entry.Entry.{Entry}
use Rattle.gate_model.specs.declared.entry.Entry.TheVariants.{Start, Feed, Size, Join, Read}
use Rattle.gate_model.specs.declared.how.How.TheVariants.{Fresh}
use Rattle.gate_model.specs.picture.KeyGrid.{KeyGrid}
use Rattle.gate_model.specs.picture.Pictures.{key_at}
use Rattle.gate_model.specs.Limits.{most_buffers}
use Rattle.gate_model.specs.picture.Buffers.{is_same_key, new_keys}
use Rattle.gate_model.specs.terminal.Screens.{shown}
use Rattle.gate_model.specs.session.History.{History, at, size_now}
use Rattle.gate_model.specs.terminal.Sizes.{ScreenSize}

-- ---- the places that changed

-- the row of the old screen that a row of the new one is compared with, where so many lines of the whole
-- screen were scrolled up: where there is none so far below, or nothing is left, the row itself
abbrev pub old_row : ℕ → ℕ → ℕ → ℕ
old_row shift rows y = if nat_lt shift rows && nat_lt (y + shift) rows then y + shift else y

-- the key that stood at a place of the new screen before, counted row by row
abbrev pub old_key : KeyGrid → ℕ → ℕ → Key
old_key old shift place = key_at old.keys (old_row shift old.rows (place / old.cols) * old.cols + place % old.cols)

-- the place differs from the old screen shifted
abbrev pub is_changed : KeyGrid → KeyGrid → ℕ → ℕ → Bool
is_changed old new shift place = not (is_same_key (key_at new.keys place) (old_key old shift place))

-- the places that do, row by row
abbrev pub changes : KeyGrid → KeyGrid → ℕ → List ℕ
changes old new shift = filter (is_changed old new shift) (range_with_len 0 (length new.keys))

-- ---- the bound

-- the most instructions of a frame
abbrev pub cost : ℕ → ℕ → ℕ
cost changed fresh = 3 + 2 * changed + 40 * fresh

-- the most instructions of a picture of the whole screen with every glyph buffer
abbrev pub picture_cost : ScreenSize → ℕ
picture_cost size = 3 + 40 * (size.columns * size.rows + most_buffers)

-- the keys that the screens at Start, the Sizes and the Feeds showed, each once, the oldest first
abbrev pub keys_shown : History → List Key
keys_shown [] = []
keys_shown (Start cols rows mode term faces entries stamp frame ∷ g) = new_keys [] (shown (at (Start cols rows mode term faces entries stamp frame ∷ g))).keys
keys_shown (Feed bytes stamp frame ∷ g) = keys_shown g ++ new_keys (keys_shown g) (shown (at (Feed bytes stamp frame ∷ g))).keys
keys_shown (Size viewer cols rows stamp frame ∷ g) = keys_shown g ++ new_keys (keys_shown g) (shown (at (Size viewer cols rows stamp frame ∷ g))).keys
keys_shown (e ∷ g) = keys_shown g

-- the lines of the whole screen that the last entry's bytes scrolled up
abbrev pub rise : Entry → History → ℕ
rise e g = (at (e ∷ g)).shift - (at g).shift

-- the frame of a Feed has at most so many instructions, while few keys were shown; what a Join gives, and a picture
-- that a Read gives, have at most so many
abbrev pub IsFrugal : History → Entry → Type 0
IsFrugal g (Feed bytes stamp frame) =
    let before = shown (at g) in let after = shown (at (Feed bytes stamp frame ∷ g)) in
    length (keys_shown (Feed bytes stamp frame ∷ g)) ≤ most_buffers
    → length frame ≤ cost (length (changes before after (rise (Feed bytes stamp frame) g))) (length (new_keys (keys_shown g) after.keys))
IsFrugal g (Join viewer role first) = length first ≤ picture_cost (size_now g)
IsFrugal g (Read viewer (Fresh is)) = length is ≤ picture_cost (size_now g)
IsFrugal g e = Unit {0}

-- so has each of the history
abbrev pub AllFrugal : History → Type 0
AllFrugal [] = Unit {0}
AllFrugal (e ∷ g) = AllFrugal g × IsFrugal g e
