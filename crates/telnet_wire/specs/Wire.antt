-- What a clause reads of `Wire`.
use Rattle.std.specs.Prelude.{ℕ, List}
use Rattle.telnet_wire.specs.declared.wire.Wire.{Wire}
use Rattle.telnet_wire.specs.Past.{HaveRead}

-- the wire has read these bytes
abbrev pub HasRead : Wire → List ℕ → Type 0
HasRead wire bytes = HaveRead wire.reader bytes
