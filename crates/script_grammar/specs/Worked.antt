-- Lines of a script, worked out.
use Rattle.std.specs.Prelude.{◌≡◌, ℕ, List, true, false, codes, refl}
use Rattle.script_grammar.specs.declared.line.Line.{Line}
use Rattle.script_grammar.specs.declared.line.Line.TheVariants.{Bad, Resize}
use Rattle.script_grammar.specs.Grammar.{in_place, line_of}

abbrev size_line : ℕ → ℕ → ℕ → Line
size_line viewer cols rows = Resize viewer record { cols = cols; rows = rows }

abbrev says : List ℕ → Line
says text = line_of 1 text

-- a size has the ranges of `start`
pub a_size : says (codes "size 1 2 1") ≡ size_line 1 2 1
a_size = refl

pub the_largest : (says (codes "size 4294967295 512 16") ≡ size_line 4294967295 512 16) × (says (codes "size 0 32 256") ≡ size_line 0 32 256)
the_largest = (refl, refl)

pub too_large : (says (codes "size 1 513 1") ≡ Bad) × (says (codes "size 1 1 257") ≡ Bad) × (says (codes "size 1 512 17") ≡ Bad) × (says (codes "size 4294967296 2 1") ≡ Bad)
too_large = (refl, refl, refl, refl)

pub too_small : (says (codes "size 1 0 0") ≡ Bad) × (says (codes "size 1 0 1") ≡ Bad) × (says (codes "size 1 1 0") ≡ Bad)
too_small = (refl, refl, refl)

-- it has three numbers, with one blank before each
pub other_words : (says (codes "size") ≡ Bad) × (says (codes "size 1") ≡ Bad) × (says (codes "size 1 2") ≡ Bad) × (says (codes "size 1 2 1 1") ≡ Bad) × (says (codes "size 1  2 1") ≡ Bad)
other_words = (refl, refl, refl, refl, refl)

-- and stands behind `start`
pub placed : (in_place true (size_line 1 2 1) ≡ size_line 1 2 1) × (in_place false (size_line 1 2 1) ≡ Bad)
placed = (refl, refl)
