-- Worked facts of characters and control functions, computed from the definitions.
use Rattle.std.specs.Prelude.{◌≡◌, ◌++◌, [], ◌∷◌, replicate, true, false, refl, codes}
use Rattle.bstr.proofs.Computing.{computing}
use Rattle.gate_model.specs.declared.control.Control.TheVariants.{Print, Code, Esc, Csi}
use Rattle.gate_model.specs.terminal.Characters.{characters, pending}
use Rattle.gate_model.specs.terminal.Parameters.{params_of, default}
use Rattle.gate_model.specs.terminal.Controls.{controls, unfinished}
use Rattle.gate_model.specs.text.Reading.{read}

-- one U+FFFD stands for each longest front: of F0 9F, of each byte of ED A0 80, and none yet for a cut E2 82
cut_pair : characters (0xF0 ∷ 0x9F ∷ 0x41 ∷ []) ≡ 0xFFFD ∷ 0x41 ∷ []
unfolding computing
cut_pair = refl

surrogate : characters (0xED ∷ 0xA0 ∷ 0x80 ∷ []) ≡ 0xFFFD ∷ 0xFFFD ∷ 0xFFFD ∷ []
unfolding computing
surrogate = refl

waits : characters (0xF0 ∷ 0x9F ∷ 0xE2 ∷ 0x82 ∷ []) ≡ 0xFFFD ∷ []
unfolding computing
waits = refl

held : pending (0xF0 ∷ 0x9F ∷ 0xE2 ∷ 0x82 ∷ []) ≡ 0xE2 ∷ 0x82 ∷ []
held = refl

never_waits : pending (0xE0 ∷ 0x80 ∷ []) ≡ []
never_waits = refl

-- a control sequence with one default, and one that BEL abandons
reset : controls (0x1B ∷ codes "[mA") ≡ Csi false (params_of []) 0x6D ∷ Print 0x41 ∷ []
unfolding read
reset = refl

abandoned : controls (0x1B ∷ codes "[2" ++ 7 ∷ codes "J") ≡ Code 7 ∷ Print 0x4A ∷ []
unfolding read
abandoned = refl

with_intermediate : controls (0x1B ∷ codes "[1 A") ≡ []
unfolding read
with_intermediate = refl

late_mark : controls (0x1B ∷ codes "[1?h") ≡ []
unfolding read
late_mark = refl

-- the empty parameter before `;` is a default
second_place : controls (0x1B ∷ codes "[;5H") ≡ Csi false (record { values = default ∷ 5 ∷ replicate 14 default; count = 2 }) 0x48 ∷ []
unfolding read
second_place = refl

large : controls (0x1B ∷ codes "[?123456789h") ≡ Csi true (record { values = 9999 ∷ replicate 15 default; count = 1 }) 0x68 ∷ []
unfolding read
large = refl

-- 256 characters are read, 257 aren't
longest : controls (0x1B ∷ 0x5B ∷ replicate 256 0x30 ++ 0x41 ∷ []) ≡ Csi false (record { values = 0 ∷ replicate 15 default; count = 1 }) 0x41 ∷ []
unfolding read
longest = refl

too_long : controls (0x1B ∷ 0x5B ∷ replicate 257 0x30 ++ 0x41 ∷ []) ≡ []
unfolding read
too_long = refl

-- strings: what ends an operating system string, its `P` and `R` forms, and an ESC in each
by_bell : controls (0x1B ∷ codes "]0;t" ++ 7 ∷ codes "A") ≡ Print 0x41 ∷ []
unfolding read
by_bell = refl

bell_within : controls (0x1B ∷ codes "Pq" ++ 7 ∷ codes "A") ≡ []
unfolding read
bell_within = refl

reset_palette : controls (0x1B ∷ codes "]RA") ≡ Print 0x41 ∷ []
unfolding read
reset_palette = refl

palette : controls (0x1B ∷ codes "]P1234567X") ≡ Print 0x58 ∷ []
unfolding read
palette = refl

palette_ended : controls (0x1B ∷ codes "]P12" ++ 0x1B ∷ codes "cA") ≡ Esc 0x63 ∷ Print 0x41 ∷ []
unfolding read
palette_ended = refl

palette_seventh : controls (0x1B ∷ codes "]P123456" ++ 0x1B ∷ codes "cA") ≡ Print 0x63 ∷ Print 0x41 ∷ []
unfolding read
palette_seventh = refl

string_cut : controls (0x1B ∷ codes "Px" ++ 0x1B ∷ codes "c") ≡ Esc 0x63 ∷ []
unfolding read
string_cut = refl

two_escapes : controls (0x1B ∷ codes "Px" ++ 0x1B ∷ 0x1B ∷ 0x5C ∷ []) ≡ Esc 0x5C ∷ []
unfolding read
two_escapes = refl

unfinished_string : unfinished (codes "A" ++ 0x1B ∷ codes "]0;t") ≡ 0x1B ∷ codes "]0;t"
unfolding read
unfinished_string = refl
