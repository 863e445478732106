-- Characters of one column.
use Rattle.std.proofs.Common.{refl, arith}
use Rattle.std.proofs.lemmas.Bool.{lt-ltb, le-leb}
use Rattle.unicode_width.proofs.Computing.{unicode_width}
use Rattle.unicode_width.specs.Width.{char_width}
use Rattle.gate_model.specs.terminal.Printing.{width_of}
use Rattle.gate_model.specs.terminal.ScreenLaws.{AsciiIsNarrow, BoxIsNarrow}

pub ascii-narrow : AsciiIsNarrow
unfolding width_of char_width
ascii-narrow c is = rw (lt-ltb c 0x7F (omega (arith, is.1)), le-leb 0x20 c is.0) refl

pub box-narrow : BoxIsNarrow
unfolding width_of unicode_width
box-narrow = refl
