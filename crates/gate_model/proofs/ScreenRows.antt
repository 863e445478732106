-- The screen after worked bytes, computed from the definitions: text, cursor, pending wrap, lines scrolled and
-- reports.
use Rattle.std.specs.Prelude.{◌≡◌, ℕ, List, [], ◌∷◌, ◌++◌, Bool, true, false, map, refl, codes, decimal}
use Rattle.std.proofs.Common.{append-nil}
use Rattle.bstr.proofs.Computing.{computing}
use Rattle.unicode_width.proofs.Computing.{unicode_width}
use Rattle.gate_model.specs.terminal.Printing.{width_of}
use Rattle.gate_model.specs.text.Reading.{read}
use Rattle.gate_model.specs.terminal.Printing.{printed_often}
use Rattle.gate_model.specs.terminal.TabStops.{stops_above, stops_below}
use Rattle.gate_model.specs.terminal.Sizes.{in_ascii}
use Rattle.gate_model.specs.terminal.Terminal.{Terminal}
use Rattle.gate_model.specs.terminal.Screens.{face_of, screen}
use Rattle.gate_model.specs.terminal.Replies.{reports}

-- what is seen of a screen
pub record Seen : Type 0 where
  pub text : List ℕ
  pub x : ℕ
  pub y : ℕ
  pub pending : Bool
  pub shift : ℕ

abbrev seen : Terminal → Seen
seen t = record { text = map (λ c. face_of t.faces c.half c.ch) t.grid.cells; x = t.x; y = t.y; pending = t.pending; shift = t.shift }

-- BS at 0
bs_at_0 : let bytes : List ℕ = 0x41 ∷ 0x0D ∷ 0x08 ∷ 0x42 ∷ [] in seen (screen (in_ascii 3 1) bytes []) ≡ record { text = codes "B  "; x = 1; y = 0; pending = false; shift = 0 }
unfolding computing read printed_often stops_above stops_below width_of unicode_width
bs_at_0 = refl

-- BS clears pending
bs_clears_pending : let bytes : List ℕ = 0x41 ∷ 0x42 ∷ 0x43 ∷ 0x08 ∷ 0x44 ∷ [] in seen (screen (in_ascii 3 1) bytes []) ≡ record { text = codes "ADC"; x = 2; y = 0; pending = false; shift = 0 }
unfolding computing read printed_often stops_above stops_below width_of unicode_width
bs_clears_pending = refl

-- HT
ht : let bytes : List ℕ = 0x41 ∷ 0x09 ∷ 0x42 ∷ [] in seen (screen (in_ascii 20 1) bytes []) ≡ record { text = codes "A       B           "; x = 9; y = 0; pending = false; shift = 0 }
unfolding computing read printed_often stops_above stops_below width_of unicode_width
ht = refl

-- HT at last column clears pending
ht_at_last_column_clears_pending : let bytes : List ℕ = 0x41 ∷ 0x42 ∷ 0x43 ∷ 0x09 ∷ 0x44 ∷ [] in seen (screen (in_ascii 3 1) bytes []) ≡ record { text = codes "ABD"; x = 2; y = 0; pending = true; shift = 0 }
unfolding computing read printed_often stops_above stops_below width_of unicode_width
ht_at_last_column_clears_pending = refl

-- HT after TBC 3
ht_after_tbc_3 : let bytes : List ℕ = 0x1B ∷ 0x5B ∷ 0x33 ∷ 0x67 ∷ 0x41 ∷ 0x09 ∷ 0x42 ∷ [] in seen (screen (in_ascii 10 1) bytes []) ≡ record { text = codes "A        B"; x = 9; y = 0; pending = true; shift = 0 }
unfolding computing read printed_often stops_above stops_below width_of unicode_width
ht_after_tbc_3 = refl

-- HTS and TBC 0
hts_and_tbc_0 : let bytes : List ℕ = 0x41 ∷ 0x42 ∷ 0x1B ∷ 0x48 ∷ 0x0D ∷ 0x09 ∷ 0x43 ∷ 0x0D ∷ 0x09 ∷ 0x1B ∷ 0x5B ∷ 0x67 ∷ 0x0D ∷ 0x09 ∷ 0x44 ∷ [] in seen (screen (in_ascii 10 1) bytes []) ≡ record { text = codes "ABC     D "; x = 9; y = 0; pending = false; shift = 0 }
unfolding computing read printed_often stops_above stops_below width_of unicode_width
hts_and_tbc_0 = refl

-- VT, FF are line feeds
vt_ff_are_line_feeds : let bytes : List ℕ = 0x41 ∷ 0x0B ∷ 0x0C ∷ [] in seen (screen (in_ascii 2 2) bytes []) ≡ record { text = codes "    "; x = 1; y = 1; pending = false; shift = 1 }
unfolding computing read printed_often stops_above stops_below width_of unicode_width
vt_ff_are_line_feeds = refl

-- LF keeps x
lf_keeps_x : let bytes : List ℕ = 0x41 ∷ 0x0A ∷ 0x42 ∷ [] in seen (screen (in_ascii 3 2) bytes []) ≡ record { text = codes "A   B "; x = 2; y = 1; pending = false; shift = 0 }
unfolding computing read printed_often stops_above stops_below width_of unicode_width
lf_keeps_x = refl

-- LF below bottom margin
lf_below_bottom_margin : let bytes : List ℕ = 0x1B ∷ 0x5B ∷ 0x31 ∷ 0x3B ∷ 0x32 ∷ 0x72 ∷ 0x1B ∷ 0x5B ∷ 0x34 ∷ 0x3B ∷ 0x31 ∷ 0x48 ∷ 0x41 ∷ 0x0A ∷ 0x42 ∷ [] in seen (screen (in_ascii 2 4) bytes []) ≡ record { text = codes "      AB"; x = 1; y = 3; pending = true; shift = 0 }
unfolding computing read printed_often stops_above stops_below width_of unicode_width
lf_below_bottom_margin = refl

-- LF at bottom margin
lf_at_bottom_margin : let bytes : List ℕ = 0x41 ∷ 0x0A ∷ 0x0D ∷ 0x42 ∷ 0x0A ∷ 0x0D ∷ 0x43 ∷ 0x0A ∷ 0x0D ∷ 0x44 ∷ 0x1B ∷ 0x5B ∷ 0x32 ∷ 0x3B ∷ 0x33 ∷ 0x72 ∷ 0x1B ∷ 0x5B ∷ 0x33 ∷ 0x3B ∷ 0x31 ∷ 0x48 ∷ 0x0A ∷ [] in seen (screen (in_ascii 1 4) bytes []) ≡ record { text = codes "AC D"; x = 0; y = 2; pending = false; shift = 0 }
unfolding computing read printed_often stops_above stops_below width_of unicode_width
lf_at_bottom_margin = refl

-- NEL
nel : let bytes : List ℕ = 0x41 ∷ 0x42 ∷ 0x1B ∷ 0x45 ∷ 0x43 ∷ [] in seen (screen (in_ascii 3 2) bytes []) ≡ record { text = codes "AB C  "; x = 1; y = 1; pending = false; shift = 0 }
unfolding computing read printed_often stops_above stops_below width_of unicode_width
nel = refl

-- RI at top
ri_at_top : let bytes : List ℕ = 0x41 ∷ 0x42 ∷ 0x1B ∷ 0x4D ∷ [] in seen (screen (in_ascii 2 2) bytes []) ≡ record { text = codes "  AB"; x = 1; y = 0; pending = false; shift = 0 }
unfolding computing read printed_often stops_above stops_below width_of unicode_width
ri_at_top = refl

-- RI at top margin
ri_at_top_margin : let bytes : List ℕ = 0x41 ∷ 0x0A ∷ 0x0D ∷ 0x42 ∷ 0x0A ∷ 0x0D ∷ 0x43 ∷ 0x1B ∷ 0x5B ∷ 0x32 ∷ 0x3B ∷ 0x33 ∷ 0x72 ∷ 0x1B ∷ 0x5B ∷ 0x32 ∷ 0x3B ∷ 0x31 ∷ 0x48 ∷ 0x1B ∷ 0x4D ∷ [] in seen (screen (in_ascii 1 3) bytes []) ≡ record { text = codes "A B"; x = 0; y = 1; pending = false; shift = 0 }
unfolding computing read printed_often stops_above stops_below width_of unicode_width
ri_at_top_margin = refl

-- RIS keeps shift and reports
ris_keeps_shift_and_reports : let bytes : List ℕ = 0x41 ∷ 0x0A ∷ 0x1B ∷ 0x5B ∷ 0x36 ∷ 0x6E ∷ 0x1B ∷ 0x63 ∷ 0x42 ∷ [] in (seen (screen (in_ascii 2 1) bytes []) ≡ record { text = codes "B "; x = 1; y = 0; pending = false; shift = 1 }) × (reports (in_ascii 2 1) bytes [] ≡ 0x1B ∷ 0x5B ∷ decimal 1 ++ 0x3B ∷ decimal 2 ++ 0x52 ∷ [])
unfolding computing read printed_often stops_above stops_below width_of unicode_width
ris_keeps_shift_and_reports = (refl, append-nil (0x1B ∷ 0x5B ∷ decimal 1 ++ 0x3B ∷ decimal 2 ++ 0x52 ∷ []))

-- DECSC clears pending
decsc_clears_pending : let bytes : List ℕ = 0x41 ∷ 0x42 ∷ 0x1B ∷ 0x37 ∷ 0x43 ∷ [] in seen (screen (in_ascii 2 1) bytes []) ≡ record { text = codes "AC"; x = 1; y = 0; pending = true; shift = 0 }
unfolding computing read printed_often stops_above stops_below width_of unicode_width
decsc_clears_pending = refl

-- DECRC
decrc : let bytes : List ℕ = 0x41 ∷ 0x1B ∷ 0x37 ∷ 0x42 ∷ 0x43 ∷ 0x1B ∷ 0x38 ∷ 0x44 ∷ [] in seen (screen (in_ascii 4 1) bytes []) ≡ record { text = codes "ADC "; x = 2; y = 0; pending = false; shift = 0 }
unfolding computing read printed_often stops_above stops_below width_of unicode_width
decrc = refl

-- DECRC nothing saved
decrc_nothing_saved : let bytes : List ℕ = 0x41 ∷ 0x42 ∷ 0x1B ∷ 0x38 ∷ 0x43 ∷ [] in seen (screen (in_ascii 3 1) bytes []) ≡ record { text = codes "CB "; x = 1; y = 0; pending = false; shift = 0 }
unfolding computing read printed_often stops_above stops_below width_of unicode_width
decrc_nothing_saved = refl

-- ICH
ich : let bytes : List ℕ = 0x41 ∷ 0x42 ∷ 0x43 ∷ 0x44 ∷ 0x0D ∷ 0x1B ∷ 0x5B ∷ 0x32 ∷ 0x40 ∷ [] in seen (screen (in_ascii 4 1) bytes []) ≡ record { text = codes "  AB"; x = 0; y = 0; pending = false; shift = 0 }
unfolding computing read printed_often stops_above stops_below width_of unicode_width
ich = refl

-- ICH at pending wrap
ich_at_pending_wrap : let bytes : List ℕ = 0x41 ∷ 0x42 ∷ 0x43 ∷ 0x1B ∷ 0x5B ∷ 0x40 ∷ 0x44 ∷ [] in seen (screen (in_ascii 3 1) bytes []) ≡ record { text = codes "ABD"; x = 2; y = 0; pending = true; shift = 0 }
unfolding computing read printed_often stops_above stops_below width_of unicode_width
ich_at_pending_wrap = refl

-- CUU to top margin
cuu_to_top_margin : let bytes : List ℕ = 0x1B ∷ 0x5B ∷ 0x32 ∷ 0x3B ∷ 0x33 ∷ 0x72 ∷ 0x1B ∷ 0x5B ∷ 0x33 ∷ 0x3B ∷ 0x31 ∷ 0x48 ∷ 0x1B ∷ 0x5B ∷ 0x39 ∷ 0x41 ∷ 0x58 ∷ [] in seen (screen (in_ascii 1 4) bytes []) ≡ record { text = codes " X  "; x = 0; y = 1; pending = true; shift = 0 }
unfolding computing read printed_often stops_above stops_below width_of unicode_width
cuu_to_top_margin = refl

-- CUU above the margin
cuu_above_the_margin : let bytes : List ℕ = 0x1B ∷ 0x5B ∷ 0x33 ∷ 0x3B ∷ 0x34 ∷ 0x72 ∷ 0x1B ∷ 0x5B ∷ 0x32 ∷ 0x3B ∷ 0x31 ∷ 0x48 ∷ 0x1B ∷ 0x5B ∷ 0x39 ∷ 0x41 ∷ 0x58 ∷ [] in seen (screen (in_ascii 1 4) bytes []) ≡ record { text = codes "X   "; x = 0; y = 0; pending = true; shift = 0 }
unfolding computing read printed_often stops_above stops_below width_of unicode_width
cuu_above_the_margin = refl

-- CUD to bottom margin
cud_to_bottom_margin : let bytes : List ℕ = 0x1B ∷ 0x5B ∷ 0x31 ∷ 0x3B ∷ 0x32 ∷ 0x72 ∷ 0x1B ∷ 0x5B ∷ 0x39 ∷ 0x42 ∷ 0x58 ∷ [] in seen (screen (in_ascii 1 4) bytes []) ≡ record { text = codes " X  "; x = 0; y = 1; pending = true; shift = 0 }
unfolding computing read printed_often stops_above stops_below width_of unicode_width
cud_to_bottom_margin = refl

-- CUD below the margin
cud_below_the_margin : let bytes : List ℕ = 0x1B ∷ 0x5B ∷ 0x31 ∷ 0x3B ∷ 0x32 ∷ 0x72 ∷ 0x1B ∷ 0x5B ∷ 0x33 ∷ 0x3B ∷ 0x31 ∷ 0x48 ∷ 0x1B ∷ 0x5B ∷ 0x39 ∷ 0x42 ∷ 0x58 ∷ [] in seen (screen (in_ascii 1 4) bytes []) ≡ record { text = codes "   X"; x = 0; y = 3; pending = true; shift = 0 }
unfolding computing read printed_often stops_above stops_below width_of unicode_width
cud_below_the_margin = refl

-- CUF, CUB
cuf_cub : let bytes : List ℕ = 0x1B ∷ 0x5B ∷ 0x32 ∷ 0x43 ∷ 0x41 ∷ 0x1B ∷ 0x5B ∷ 0x33 ∷ 0x44 ∷ 0x42 ∷ [] in seen (screen (in_ascii 4 1) bytes []) ≡ record { text = codes "B A "; x = 1; y = 0; pending = false; shift = 0 }
unfolding computing read printed_often stops_above stops_below width_of unicode_width
cuf_cub = refl

-- CNL
cnl : let bytes : List ℕ = 0x41 ∷ 0x42 ∷ 0x1B ∷ 0x5B ∷ 0x45 ∷ 0x43 ∷ [] in seen (screen (in_ascii 3 3) bytes []) ≡ record { text = codes "AB C     "; x = 1; y = 1; pending = false; shift = 0 }
unfolding computing read printed_often stops_above stops_below width_of unicode_width
cnl = refl

-- CPL
cpl : let bytes : List ℕ = 0x1B ∷ 0x5B ∷ 0x33 ∷ 0x3B ∷ 0x33 ∷ 0x48 ∷ 0x1B ∷ 0x5B ∷ 0x32 ∷ 0x46 ∷ 0x43 ∷ [] in seen (screen (in_ascii 3 3) bytes []) ≡ record { text = codes "C        "; x = 1; y = 0; pending = false; shift = 0 }
unfolding computing read printed_often stops_above stops_below width_of unicode_width
cpl = refl

-- CHA
cha : let bytes : List ℕ = 0x41 ∷ 0x1B ∷ 0x5B ∷ 0x39 ∷ 0x47 ∷ 0x42 ∷ [] in seen (screen (in_ascii 4 1) bytes []) ≡ record { text = codes "A  B"; x = 3; y = 0; pending = true; shift = 0 }
unfolding computing read printed_often stops_above stops_below width_of unicode_width
cha = refl

-- VPA
vpa : let bytes : List ℕ = 0x1B ∷ 0x5B ∷ 0x32 ∷ 0x64 ∷ 0x41 ∷ [] in seen (screen (in_ascii 1 3) bytes []) ≡ record { text = codes " A "; x = 0; y = 1; pending = true; shift = 0 }
unfolding computing read printed_often stops_above stops_below width_of unicode_width
vpa = refl

-- CUP defaults
cup_defaults : let bytes : List ℕ = 0x41 ∷ 0x42 ∷ 0x1B ∷ 0x5B ∷ 0x48 ∷ 0x43 ∷ [] in seen (screen (in_ascii 2 2) bytes []) ≡ record { text = codes "CB  "; x = 1; y = 0; pending = false; shift = 0 }
unfolding computing read printed_often stops_above stops_below width_of unicode_width
cup_defaults = refl

-- CUP past the end
cup_past_the_end : let bytes : List ℕ = 0x1B ∷ 0x5B ∷ 0x39 ∷ 0x39 ∷ 0x3B ∷ 0x39 ∷ 0x39 ∷ 0x48 ∷ 0x41 ∷ [] in seen (screen (in_ascii 2 2) bytes []) ≡ record { text = codes "   A"; x = 1; y = 1; pending = true; shift = 0 }
unfolding computing read printed_often stops_above stops_below width_of unicode_width
cup_past_the_end = refl

-- HVP with empty first
hvp_with_empty_first : let bytes : List ℕ = 0x1B ∷ 0x5B ∷ 0x3B ∷ 0x33 ∷ 0x66 ∷ 0x41 ∷ [] in seen (screen (in_ascii 3 2) bytes []) ≡ record { text = codes "  A   "; x = 2; y = 0; pending = true; shift = 0 }
unfolding computing read printed_often stops_above stops_below width_of unicode_width
hvp_with_empty_first = refl

-- CHT 2
cht_2 : let bytes : List ℕ = 0x1B ∷ 0x5B ∷ 0x32 ∷ 0x49 ∷ 0x41 ∷ [] in seen (screen (in_ascii 20 1) bytes []) ≡ record { text = codes "                A   "; x = 17; y = 0; pending = false; shift = 0 }
unfolding computing read printed_often stops_above stops_below width_of unicode_width
cht_2 = refl

-- CBT
cbt : let bytes : List ℕ = 0x1B ∷ 0x5B ∷ 0x32 ∷ 0x30 ∷ 0x47 ∷ 0x1B ∷ 0x5B ∷ 0x32 ∷ 0x5A ∷ 0x41 ∷ [] in seen (screen (in_ascii 20 1) bytes []) ≡ record { text = codes "        A           "; x = 9; y = 0; pending = false; shift = 0 }
unfolding computing read printed_often stops_above stops_below width_of unicode_width
cbt = refl

-- ED 0
ed_0 : let bytes : List ℕ = 0x41 ∷ 0x42 ∷ 0x43 ∷ 0x44 ∷ 0x1B ∷ 0x5B ∷ 0x31 ∷ 0x3B ∷ 0x32 ∷ 0x48 ∷ 0x1B ∷ 0x5B ∷ 0x4A ∷ [] in seen (screen (in_ascii 2 2) bytes []) ≡ record { text = codes "A   "; x = 1; y = 0; pending = false; shift = 0 }
unfolding computing read printed_often stops_above stops_below width_of unicode_width
ed_0 = refl

-- ED 1
ed_1 : let bytes : List ℕ = 0x41 ∷ 0x42 ∷ 0x43 ∷ 0x44 ∷ 0x1B ∷ 0x5B ∷ 0x32 ∷ 0x3B ∷ 0x31 ∷ 0x48 ∷ 0x1B ∷ 0x5B ∷ 0x31 ∷ 0x4A ∷ [] in seen (screen (in_ascii 2 2) bytes []) ≡ record { text = codes "   D"; x = 0; y = 1; pending = false; shift = 0 }
unfolding computing read printed_often stops_above stops_below width_of unicode_width
ed_1 = refl

-- ED 2
ed_2 : let bytes : List ℕ = 0x41 ∷ 0x42 ∷ 0x43 ∷ 0x44 ∷ 0x1B ∷ 0x5B ∷ 0x32 ∷ 0x4A ∷ [] in seen (screen (in_ascii 2 2) bytes []) ≡ record { text = codes "    "; x = 1; y = 1; pending = false; shift = 0 }
unfolding computing read printed_often stops_above stops_below width_of unicode_width
ed_2 = refl

-- ED 3 has no effect
ed_3_has_no_effect : let bytes : List ℕ = 0x41 ∷ 0x42 ∷ 0x1B ∷ 0x5B ∷ 0x33 ∷ 0x4A ∷ 0x43 ∷ [] in seen (screen (in_ascii 2 1) bytes []) ≡ record { text = codes "C "; x = 1; y = 0; pending = false; shift = 1 }
unfolding computing read printed_often stops_above stops_below width_of unicode_width
ed_3_has_no_effect = refl

-- EL 0
el_0 : let bytes : List ℕ = 0x41 ∷ 0x42 ∷ 0x43 ∷ 0x1B ∷ 0x5B ∷ 0x32 ∷ 0x47 ∷ 0x1B ∷ 0x5B ∷ 0x4B ∷ [] in seen (screen (in_ascii 3 1) bytes []) ≡ record { text = codes "A  "; x = 1; y = 0; pending = false; shift = 0 }
unfolding computing read printed_often stops_above stops_below width_of unicode_width
el_0 = refl

-- EL 1
el_1 : let bytes : List ℕ = 0x41 ∷ 0x42 ∷ 0x43 ∷ 0x1B ∷ 0x5B ∷ 0x32 ∷ 0x47 ∷ 0x1B ∷ 0x5B ∷ 0x31 ∷ 0x4B ∷ [] in seen (screen (in_ascii 3 1) bytes []) ≡ record { text = codes "  C"; x = 1; y = 0; pending = false; shift = 0 }
unfolding computing read printed_often stops_above stops_below width_of unicode_width
el_1 = refl

-- IL
il : let bytes : List ℕ = 0x41 ∷ 0x0A ∷ 0x0D ∷ 0x42 ∷ 0x0A ∷ 0x0D ∷ 0x43 ∷ 0x1B ∷ 0x5B ∷ 0x32 ∷ 0x3B ∷ 0x31 ∷ 0x48 ∷ 0x1B ∷ 0x5B ∷ 0x4C ∷ [] in seen (screen (in_ascii 1 3) bytes []) ≡ record { text = codes "A B"; x = 0; y = 1; pending = false; shift = 0 }
unfolding computing read printed_often stops_above stops_below width_of unicode_width
il = refl

-- DL
dl : let bytes : List ℕ = 0x41 ∷ 0x0A ∷ 0x0D ∷ 0x42 ∷ 0x0A ∷ 0x0D ∷ 0x43 ∷ 0x1B ∷ 0x5B ∷ 0x31 ∷ 0x3B ∷ 0x31 ∷ 0x48 ∷ 0x1B ∷ 0x5B ∷ 0x4D ∷ [] in seen (screen (in_ascii 1 3) bytes []) ≡ record { text = codes "BC "; x = 0; y = 0; pending = false; shift = 0 }
unfolding computing read printed_often stops_above stops_below width_of unicode_width
dl = refl

-- IL sets x = 0
il_sets_x_0 : let bytes : List ℕ = 0x41 ∷ 0x42 ∷ 0x1B ∷ 0x5B ∷ 0x4C ∷ 0x58 ∷ [] in seen (screen (in_ascii 3 2) bytes []) ≡ record { text = codes "X  AB "; x = 1; y = 0; pending = false; shift = 0 }
unfolding computing read printed_often stops_above stops_below width_of unicode_width
il_sets_x_0 = refl

-- IL outside the margins
il_outside_the_margins : let bytes : List ℕ = 0x1B ∷ 0x5B ∷ 0x31 ∷ 0x3B ∷ 0x32 ∷ 0x72 ∷ 0x1B ∷ 0x5B ∷ 0x34 ∷ 0x3B ∷ 0x31 ∷ 0x48 ∷ 0x41 ∷ 0x42 ∷ 0x1B ∷ 0x5B ∷ 0x4C ∷ 0x43 ∷ [] in seen (screen (in_ascii 2 4) bytes []) ≡ record { text = codes "      CB"; x = 1; y = 3; pending = false; shift = 0 }
unfolding computing read printed_often stops_above stops_below width_of unicode_width
il_outside_the_margins = refl

-- DCH
dch : let bytes : List ℕ = 0x41 ∷ 0x42 ∷ 0x43 ∷ 0x44 ∷ 0x0D ∷ 0x1B ∷ 0x5B ∷ 0x32 ∷ 0x50 ∷ [] in seen (screen (in_ascii 4 1) bytes []) ≡ record { text = codes "CD  "; x = 0; y = 0; pending = false; shift = 0 }
unfolding computing read printed_often stops_above stops_below width_of unicode_width
dch = refl

-- SU
su : let bytes : List ℕ = 0x41 ∷ 0x0A ∷ 0x0D ∷ 0x42 ∷ 0x0A ∷ 0x0D ∷ 0x43 ∷ 0x1B ∷ 0x5B ∷ 0x53 ∷ [] in seen (screen (in_ascii 1 3) bytes []) ≡ record { text = codes "BC "; x = 0; y = 2; pending = false; shift = 1 }
unfolding computing read printed_often stops_above stops_below width_of unicode_width
su = refl

-- SU over all
su_over_all : let bytes : List ℕ = 0x41 ∷ 0x0A ∷ 0x0D ∷ 0x42 ∷ 0x1B ∷ 0x5B ∷ 0x39 ∷ 0x39 ∷ 0x53 ∷ [] in seen (screen (in_ascii 1 3) bytes []) ≡ record { text = codes "   "; x = 0; y = 1; pending = false; shift = 3 }
unfolding computing read printed_often stops_above stops_below width_of unicode_width
su_over_all = refl

-- SU in margins
su_in_margins : let bytes : List ℕ = 0x41 ∷ 0x0A ∷ 0x0D ∷ 0x42 ∷ 0x0A ∷ 0x0D ∷ 0x43 ∷ 0x1B ∷ 0x5B ∷ 0x32 ∷ 0x3B ∷ 0x33 ∷ 0x72 ∷ 0x1B ∷ 0x5B ∷ 0x53 ∷ [] in seen (screen (in_ascii 1 3) bytes []) ≡ record { text = codes "AC "; x = 0; y = 0; pending = false; shift = 0 }
unfolding computing read printed_often stops_above stops_below width_of unicode_width
su_in_margins = refl

-- SD
sd : let bytes : List ℕ = 0x41 ∷ 0x0A ∷ 0x0D ∷ 0x42 ∷ 0x1B ∷ 0x5B ∷ 0x54 ∷ [] in seen (screen (in_ascii 1 3) bytes []) ≡ record { text = codes " AB"; x = 0; y = 1; pending = false; shift = 0 }
unfolding computing read printed_often stops_above stops_below width_of unicode_width
sd = refl

-- ECH
ech : let bytes : List ℕ = 0x41 ∷ 0x42 ∷ 0x43 ∷ 0x44 ∷ 0x1B ∷ 0x5B ∷ 0x32 ∷ 0x47 ∷ 0x1B ∷ 0x5B ∷ 0x32 ∷ 0x58 ∷ [] in seen (screen (in_ascii 4 1) bytes []) ≡ record { text = codes "A  D"; x = 1; y = 0; pending = false; shift = 0 }
unfolding computing read printed_often stops_above stops_below width_of unicode_width
ech = refl

-- REP
rep : let bytes : List ℕ = 0x41 ∷ 0x1B ∷ 0x5B ∷ 0x32 ∷ 0x62 ∷ [] in seen (screen (in_ascii 4 1) bytes []) ≡ record { text = codes "AAA "; x = 3; y = 0; pending = false; shift = 0 }
unfolding computing read printed_often stops_above stops_below width_of unicode_width
rep = refl

-- REP capped at the columns
rep_capped_at_the_columns : let bytes : List ℕ = 0x41 ∷ 0x1B ∷ 0x5B ∷ 0x39 ∷ 0x62 ∷ [] in seen (screen (in_ascii 3 2) bytes []) ≡ record { text = codes "AAAA  "; x = 1; y = 1; pending = false; shift = 0 }
unfolding computing read printed_often stops_above stops_below width_of unicode_width
rep_capped_at_the_columns = refl

-- REP without a print
rep_without_a_print : let bytes : List ℕ = 0x1B ∷ 0x5B ∷ 0x33 ∷ 0x62 ∷ 0x41 ∷ [] in seen (screen (in_ascii 3 1) bytes []) ≡ record { text = codes "A  "; x = 1; y = 0; pending = false; shift = 0 }
unfolding computing read printed_often stops_above stops_below width_of unicode_width
rep_without_a_print = refl

-- REP over a wrap
rep_over_a_wrap : let bytes : List ℕ = 0x41 ∷ 0x42 ∷ 0x1B ∷ 0x5B ∷ 0x62 ∷ [] in seen (screen (in_ascii 2 2) bytes []) ≡ record { text = codes "ABB "; x = 1; y = 1; pending = false; shift = 0 }
unfolding computing read printed_often stops_above stops_below width_of unicode_width
rep_over_a_wrap = refl

-- SGR leaves pending
sgr_leaves_pending : let bytes : List ℕ = 0x41 ∷ 0x42 ∷ 0x1B ∷ 0x5B ∷ 0x31 ∷ 0x6D ∷ 0x43 ∷ [] in seen (screen (in_ascii 2 2) bytes []) ≡ record { text = codes "ABC "; x = 1; y = 1; pending = false; shift = 0 }
unfolding computing read printed_often stops_above stops_below width_of unicode_width
sgr_leaves_pending = refl

-- BEL leaves pending
bel_leaves_pending : let bytes : List ℕ = 0x41 ∷ 0x42 ∷ 0x07 ∷ 0x43 ∷ [] in seen (screen (in_ascii 2 2) bytes []) ≡ record { text = codes "ABC "; x = 1; y = 1; pending = false; shift = 0 }
unfolding computing read printed_often stops_above stops_below width_of unicode_width
bel_leaves_pending = refl

-- DSR at pending
dsr_at_pending : let bytes : List ℕ = 0x41 ∷ 0x42 ∷ 0x1B ∷ 0x5B ∷ 0x36 ∷ 0x6E ∷ [] in (seen (screen (in_ascii 2 1) bytes []) ≡ record { text = codes "AB"; x = 1; y = 0; pending = true; shift = 0 }) × (reports (in_ascii 2 1) bytes [] ≡ 0x1B ∷ 0x5B ∷ decimal 1 ++ 0x3B ∷ decimal 2 ++ 0x52 ∷ [])
unfolding computing read printed_often stops_above stops_below width_of unicode_width
dsr_at_pending = (refl, append-nil (0x1B ∷ 0x5B ∷ decimal 1 ++ 0x3B ∷ decimal 2 ++ 0x52 ∷ []))

-- DSR 5
dsr_5 : let bytes : List ℕ = 0x1B ∷ 0x5B ∷ 0x35 ∷ 0x6E ∷ [] in seen (screen (in_ascii 2 1) bytes []) ≡ record { text = codes "  "; x = 0; y = 0; pending = false; shift = 0 }
unfolding computing read printed_often stops_above stops_below width_of unicode_width
dsr_5 = refl

-- DA, DA 0, DA 1, private DA
da_da_0_da_1_private_da : let bytes : List ℕ = 0x1B ∷ 0x5B ∷ 0x63 ∷ 0x1B ∷ 0x5B ∷ 0x30 ∷ 0x63 ∷ 0x1B ∷ 0x5B ∷ 0x31 ∷ 0x63 ∷ 0x1B ∷ 0x5B ∷ 0x3F ∷ 0x63 ∷ [] in (seen (screen (in_ascii 2 1) bytes []) ≡ record { text = codes "  "; x = 0; y = 0; pending = false; shift = 0 }) × (reports (in_ascii 2 1) bytes [] ≡ 0x1B ∷ codes "[?6c" ++ 0x1B ∷ codes "[?6c")
unfolding computing read printed_often stops_above stops_below width_of unicode_width
da_da_0_da_1_private_da = (refl, refl)

-- DECSTBM homes
decstbm_homes : let bytes : List ℕ = 0x41 ∷ 0x42 ∷ 0x43 ∷ 0x1B ∷ 0x5B ∷ 0x31 ∷ 0x3B ∷ 0x32 ∷ 0x72 ∷ 0x58 ∷ [] in seen (screen (in_ascii 3 3) bytes []) ≡ record { text = codes "XBC      "; x = 1; y = 0; pending = false; shift = 0 }
unfolding computing read printed_often stops_above stops_below width_of unicode_width
decstbm_homes = refl

-- DECSTBM equal, no effect
decstbm_equal_no_effect : let bytes : List ℕ = 0x41 ∷ 0x42 ∷ 0x1B ∷ 0x5B ∷ 0x32 ∷ 0x3B ∷ 0x32 ∷ 0x72 ∷ 0x58 ∷ [] in seen (screen (in_ascii 2 3) bytes []) ≡ record { text = codes "ABX   "; x = 1; y = 1; pending = false; shift = 0 }
unfolding computing read printed_often stops_above stops_below width_of unicode_width
decstbm_equal_no_effect = refl

-- DECSTBM too large bottom
decstbm_too_large_bottom : let bytes : List ℕ = 0x1B ∷ 0x5B ∷ 0x32 ∷ 0x3B ∷ 0x39 ∷ 0x72 ∷ 0x0A ∷ 0x0A ∷ 0x0A ∷ 0x58 ∷ [] in seen (screen (in_ascii 1 3) bytes []) ≡ record { text = codes "  X"; x = 0; y = 2; pending = true; shift = 0 }
unfolding computing read printed_often stops_above stops_below width_of unicode_width
decstbm_too_large_bottom = refl

-- DECSTBM on one row
decstbm_on_one_row : let bytes : List ℕ = 0x41 ∷ 0x42 ∷ 0x1B ∷ 0x5B ∷ 0x72 ∷ 0x58 ∷ [] in seen (screen (in_ascii 2 1) bytes []) ≡ record { text = codes "X "; x = 1; y = 0; pending = false; shift = 1 }
unfolding computing read printed_often stops_above stops_below width_of unicode_width
decstbm_on_one_row = refl

-- whole-screen margins count
whole_screen_margins_count : let bytes : List ℕ = 0x1B ∷ 0x5B ∷ 0x31 ∷ 0x3B ∷ 0x32 ∷ 0x72 ∷ 0x0A ∷ 0x0A ∷ 0x0A ∷ [] in seen (screen (in_ascii 1 2) bytes []) ≡ record { text = codes "  "; x = 0; y = 1; pending = false; shift = 2 }
unfolding computing read printed_often stops_above stops_below width_of unicode_width
whole_screen_margins_count = refl

-- insert
insert : let bytes : List ℕ = 0x41 ∷ 0x42 ∷ 0x43 ∷ 0x0D ∷ 0x1B ∷ 0x5B ∷ 0x34 ∷ 0x68 ∷ 0x58 ∷ [] in seen (screen (in_ascii 4 1) bytes []) ≡ record { text = codes "XABC"; x = 1; y = 0; pending = false; shift = 0 }
unfolding computing read printed_often stops_above stops_below width_of unicode_width
insert = refl

-- insert with several parameters
insert_with_several_parameters : let bytes : List ℕ = 0x41 ∷ 0x42 ∷ 0x43 ∷ 0x0D ∷ 0x1B ∷ 0x5B ∷ 0x32 ∷ 0x3B ∷ 0x34 ∷ 0x68 ∷ 0x58 ∷ [] in seen (screen (in_ascii 4 1) bytes []) ≡ record { text = codes "XABC"; x = 1; y = 0; pending = false; shift = 0 }
unfolding computing read printed_often stops_above stops_below width_of unicode_width
insert_with_several_parameters = refl

-- no wrap
no_wrap : let bytes : List ℕ = 0x1B ∷ 0x5B ∷ 0x3F ∷ 0x37 ∷ 0x6C ∷ 0x41 ∷ 0x42 ∷ 0x43 ∷ 0x44 ∷ [] in seen (screen (in_ascii 3 2) bytes []) ≡ record { text = codes "ABD   "; x = 2; y = 0; pending = false; shift = 0 }
unfolding computing read printed_often stops_above stops_below width_of unicode_width
no_wrap = refl

-- wrap off clears pending
wrap_off_clears_pending : let bytes : List ℕ = 0x41 ∷ 0x42 ∷ 0x43 ∷ 0x1B ∷ 0x5B ∷ 0x3F ∷ 0x37 ∷ 0x6C ∷ 0x44 ∷ [] in seen (screen (in_ascii 3 2) bytes []) ≡ record { text = codes "ABD   "; x = 2; y = 0; pending = false; shift = 0 }
unfolding computing read printed_often stops_above stops_below width_of unicode_width
wrap_off_clears_pending = refl

-- several private modes
several_private_modes : let bytes : List ℕ = 0x1B ∷ 0x5B ∷ 0x3F ∷ 0x31 ∷ 0x3B ∷ 0x37 ∷ 0x6C ∷ 0x41 ∷ 0x42 ∷ 0x43 ∷ 0x44 ∷ [] in seen (screen (in_ascii 3 2) bytes []) ≡ record { text = codes "ABD   "; x = 2; y = 0; pending = false; shift = 0 }
unfolding computing read printed_often stops_above stops_below width_of unicode_width
several_private_modes = refl

-- C0 inside CSI
c0_inside_csi : let bytes : List ℕ = 0x1B ∷ 0x5B ∷ 0x32 ∷ 0x07 ∷ 0x4A ∷ [] in seen (screen (in_ascii 2 1) bytes []) ≡ record { text = codes "J "; x = 1; y = 0; pending = false; shift = 0 }
unfolding computing read printed_often stops_above stops_below width_of unicode_width
c0_inside_csi = refl

-- DEL inside CSI
del_inside_csi : let bytes : List ℕ = 0x1B ∷ 0x5B ∷ 0x32 ∷ 0x7F ∷ 0x4A ∷ [] in seen (screen (in_ascii 2 1) bytes []) ≡ record { text = codes "J "; x = 1; y = 0; pending = false; shift = 0 }
unfolding computing read printed_often stops_above stops_below width_of unicode_width
del_inside_csi = refl

-- parameter after intermediate
parameter_after_intermediate : let bytes : List ℕ = 0x1B ∷ 0x5B ∷ 0x20 ∷ 0x30 ∷ 0x41 ∷ [] in seen (screen (in_ascii 4 1) bytes []) ≡ record { text = codes "0A  "; x = 2; y = 0; pending = false; shift = 0 }
unfolding computing read printed_often stops_above stops_below width_of unicode_width
parameter_after_intermediate = refl

-- intermediate, no effect
intermediate_no_effect : let bytes : List ℕ = 0x1B ∷ 0x5B ∷ 0x32 ∷ 0x20 ∷ 0x41 ∷ 0x42 ∷ [] in seen (screen (in_ascii 4 1) bytes []) ≡ record { text = codes "B   "; x = 1; y = 0; pending = false; shift = 0 }
unfolding computing read printed_often stops_above stops_below width_of unicode_width
intermediate_no_effect = refl

-- OSC R
osc_r : let bytes : List ℕ = 0x1B ∷ 0x5D ∷ 0x52 ∷ 0x41 ∷ 0x42 ∷ [] in seen (screen (in_ascii 3 1) bytes []) ≡ record { text = codes "AB "; x = 2; y = 0; pending = false; shift = 0 }
unfolding computing read printed_often stops_above stops_below width_of unicode_width
osc_r = refl

-- OSC P
osc_p : let bytes : List ℕ = 0x1B ∷ 0x5D ∷ 0x50 ∷ 0x31 ∷ 0x32 ∷ 0x33 ∷ 0x34 ∷ 0x35 ∷ 0x36 ∷ 0x37 ∷ 0x41 ∷ 0x42 ∷ [] in seen (screen (in_ascii 3 1) bytes []) ≡ record { text = codes "AB "; x = 2; y = 0; pending = false; shift = 0 }
unfolding computing read printed_often stops_above stops_below width_of unicode_width
osc_p = refl

-- OSC to BEL
osc_to_bel : let bytes : List ℕ = 0x1B ∷ 0x5D ∷ 0x30 ∷ 0x3B ∷ 0x74 ∷ 0x07 ∷ 0x41 ∷ [] in seen (screen (in_ascii 3 1) bytes []) ≡ record { text = codes "A  "; x = 1; y = 0; pending = false; shift = 0 }
unfolding computing read printed_often stops_above stops_below width_of unicode_width
osc_to_bel = refl

-- OSC cut by a CSI
osc_cut_by_a_csi : let bytes : List ℕ = 0x1B ∷ 0x5D ∷ 0x30 ∷ 0x3B ∷ 0x74 ∷ 0x1B ∷ 0x5B ∷ 0x32 ∷ 0x3B ∷ 0x32 ∷ 0x48 ∷ 0x41 ∷ [] in seen (screen (in_ascii 3 2) bytes []) ≡ record { text = codes "    A "; x = 2; y = 1; pending = false; shift = 0 }
unfolding computing read printed_often stops_above stops_below width_of unicode_width
osc_cut_by_a_csi = refl

-- DCS: BEL is content
dcs_bel_is_content : let bytes : List ℕ = 0x1B ∷ 0x50 ∷ 0x71 ∷ 0x07 ∷ 0x72 ∷ 0x1B ∷ 0x5C ∷ 0x41 ∷ [] in seen (screen (in_ascii 3 1) bytes []) ≡ record { text = codes "A  "; x = 1; y = 0; pending = false; shift = 0 }
unfolding computing read printed_often stops_above stops_below width_of unicode_width
dcs_bel_is_content = refl

-- string cut by CAN
string_cut_by_can : let bytes : List ℕ = 0x1B ∷ 0x5E ∷ 0x71 ∷ 0x18 ∷ 0x41 ∷ [] in seen (screen (in_ascii 3 1) bytes []) ≡ record { text = codes "A  "; x = 1; y = 0; pending = false; shift = 0 }
unfolding computing read printed_often stops_above stops_below width_of unicode_width
string_cut_by_can = refl

-- charset escape
charset_escape : let bytes : List ℕ = 0x1B ∷ 0x28 ∷ 0x42 ∷ 0x41 ∷ [] in seen (screen (in_ascii 3 1) bytes []) ≡ record { text = codes "A  "; x = 1; y = 0; pending = false; shift = 0 }
unfolding computing read printed_often stops_above stops_below width_of unicode_width
charset_escape = refl

-- escape with [ as final
escape_with_as_final : let bytes : List ℕ = 0x1B ∷ 0x28 ∷ 0x5B ∷ 0x41 ∷ [] in seen (screen (in_ascii 3 1) bytes []) ≡ record { text = codes "A  "; x = 1; y = 0; pending = false; shift = 0 }
unfolding computing read printed_often stops_above stops_below width_of unicode_width
escape_with_as_final = refl

-- ESC abandoned by a print
esc_abandoned_by_a_print : let bytes : List ℕ = 0x1B ∷ 0xC3 ∷ 0xA9 ∷ 0x41 ∷ [] in seen (screen (in_ascii 3 1) bytes []) ≡ record { text = 0xFFFD ∷ 0x41 ∷ 0x20 ∷ []; x = 2; y = 0; pending = false; shift = 0 }
unfolding computing read printed_often stops_above stops_below width_of unicode_width
esc_abandoned_by_a_print = refl

-- ill-formed then ASCII in CSI
ill_formed_then_ascii_in_csi : let bytes : List ℕ = 0x1B ∷ 0x5B ∷ 0xF0 ∷ 0x9F ∷ 0x41 ∷ [] in seen (screen (in_ascii 3 1) bytes []) ≡ record { text = 0xFFFD ∷ 0x41 ∷ 0x20 ∷ []; x = 2; y = 0; pending = false; shift = 0 }
unfolding computing read printed_often stops_above stops_below width_of unicode_width
ill_formed_then_ascii_in_csi = refl

-- E0 80
e0_80 : let bytes : List ℕ = 0xE0 ∷ 0x80 ∷ 0x41 ∷ [] in seen (screen (in_ascii 4 1) bytes []) ≡ record { text = 0xFFFD ∷ 0xFFFD ∷ 0x41 ∷ 0x20 ∷ []; x = 3; y = 0; pending = false; shift = 0 }
unfolding computing read printed_often stops_above stops_below width_of unicode_width
e0_80 = refl

-- surrogate
surrogate : let bytes : List ℕ = 0xED ∷ 0xA0 ∷ 0x80 ∷ 0x41 ∷ [] in seen (screen (in_ascii 4 1) bytes []) ≡ record { text = 0xFFFD ∷ 0xFFFD ∷ 0xFFFD ∷ 0x41 ∷ []; x = 3; y = 0; pending = true; shift = 0 }
unfolding computing read printed_often stops_above stops_below width_of unicode_width
surrogate = refl
