-- The screen before a frame, scrolled up, and a band of its rows moved (this project's own).
use Rattle.std.specs.Prelude.{ℕ, Some}
use Rattle.gate_model.specs.picture.KeyGrid.{KeyGrid}
use Rattle.gate_model.specs.session.Cost.{old_key}
use Rattle.dirty_region.specs.declared.band.Band.{Band}
use Rattle.dirty_region.specs.Bands.{moved_key}
use Rattle.frame_draw.specs.Cells.{Places}

-- where so many lines of the whole screen were scrolled up
abbrev pub old_places : KeyGrid → ℕ → Places
old_places old shift place = Some (old_key old shift place)

-- where a band was copied then
abbrev pub moved_places : KeyGrid → ℕ → Band → Places
moved_places old shift b place = Some (moved_key old shift b place)
