-- Where a control sequence can leave halves of characters to mend (this project's own).
use Rattle.std.specs.Prelude.{ℕ, Bool, ◌==◌, if◌then◌else◌}
use Rattle.vt_screen.specs.declared.reach.Reach.{Reach}
use Rattle.vt_screen.specs.declared.reach.Reach.TheVariants.{Nothing, Line, All}

-- ED and REP anywhere, ICH, EL, DCH and ECH in the cursor's line, and no other
abbrev pub reach : Bool → ℕ → Reach
reach private last =
    if private then Nothing else (
    if last == 0x4A then All else (
    if last == 0x62 then All else (
    if last == 0x40 then Line else (
    if last == 0x4B then Line else (
    if last == 0x50 then Line else (
    if last == 0x58 then Line else Nothing))))))
