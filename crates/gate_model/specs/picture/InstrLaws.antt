-- Laws of instructions, which public functions of `laws::instructions` prove.
use Rattle.std.specs.Prelude.{◌≡◌, ℕ, List, Some, map, encode_utf8_all}
use Rattle.gate_model.specs.declared.instr.Instr.{Instr}
use Rattle.gate_model.specs.text.Text.{elements_of, text}
use Rattle.gate_model.specs.text.Spelling.{Spells}
use Rattle.gate_model.specs.picture.Shape.{IsInRange}
use Rattle.gate_model.specs.text.ClientMeaning.{act_of}
use Rattle.gate_model.specs.text.HelloMeaning.{Greeting, Selects, HasSize, Connects, SaysOther, greeting_of}
use Rattle.gate_model.specs.text.ServerMeaning.{instr_of}

-- what the gateway writes is read back as it was
abbrev pub WrittenIsReadBack : Type 0
WrittenIsReadBack = (instr : Instr) → IsInRange instr → instr_of (elements_of instr) ≡ Some instr

-- its text spells its elements
abbrev pub TextSpells : Type 0
TextSpells = (instr : Instr) → IsInRange instr → Spells (text instr) (elements_of instr)

-- elements in UTF-8 mean what they mean as code points
abbrev pub ActInUtf8 : Type 0
ActInUtf8 = (elements : List (List ℕ)) → act_of (map encode_utf8_all elements) ≡ act_of elements

abbrev pub InstrInUtf8 : Type 0
InstrInUtf8 = (elements : List (List ℕ)) → instr_of (map encode_utf8_all elements) ≡ instr_of elements

-- a greeting with its name in UTF-8
abbrev pub in_utf8 : Greeting → Greeting
in_utf8 (Selects name) = Selects (encode_utf8_all name)
in_utf8 (HasSize width height) = HasSize width height
in_utf8 Connects = Connects
in_utf8 SaysOther = SaysOther

abbrev pub GreetingInUtf8 : Type 0
GreetingInUtf8 = (elements : List (List ℕ)) → greeting_of (map encode_utf8_all elements) ≡ in_utf8 (greeting_of elements)
