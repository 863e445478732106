-- Why a run ends without a picture (this project's own).
use Rattle.look.specs.declared.stop.Stop.{Stop}
use Rattle.look.specs.declared.stop.Stop.TheVariants.{ReadFault, WriteFault, NoMemory}

-- a fault has its cause; want of memory needs none
abbrev pub HasCause : Type 0 → Type 0 → Stop → Type 0
HasCause read written ReadFault = read
HasCause read written WriteFault = written
HasCause read written NoMemory = Unit {0}
