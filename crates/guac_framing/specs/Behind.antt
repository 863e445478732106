-- What the reader found behind a value.
use Rattle.std.specs.Prelude.{Result, Ok, Err}
use Rattle.guac_framing.specs.declared.next.Stop.{Stop}
use Rattle.guac_framing.specs.declared.separator.Separator.{Separator}
use Rattle.guac_framing.specs.declared.separator.Separator.TheVariants.{Other, End}

-- if it was a `,`
abbrev pub IfOther : Result Separator Stop → Type 0 → Type 0
IfOther (Ok Other) P = P
IfOther (Ok End) P = Unit {0}
IfOther (Err stop) P = Unit {0}

-- if it was the `;`
abbrev pub IfEnd : Result Separator Stop → Type 0 → Type 0
IfEnd (Ok Other) P = Unit {0}
IfEnd (Ok End) P = P
IfEnd (Err stop) P = Unit {0}
