-- Worked facts of what instructions mean, computed from the definitions.
use Rattle.std.specs.Prelude.{◌≡◌, [], ◌∷◌, true, false, pos, negsuc, Some, None, refl, codes}
use Rattle.gate_model.specs.declared.act.Act.TheVariants.{Key, Mouse, Sync, Size, Nop, Disconnect}
use Rattle.gate_model.specs.declared.instr.Instr.TheVariants as sent
use Rattle.gate_model.specs.text.ClientMeaning.{act_of}
use Rattle.gate_model.specs.text.HelloMeaning.{greeting_of, Selects, HasSize, Connects, SaysOther}
use Rattle.gate_model.specs.text.ServerMeaning.{instr_of}

-- keys: `pressed` is `1` or `0` as it stands, and keysyms end at 2^32 - 1
key_down : act_of (codes "key" ∷ codes "65" ∷ codes "1" ∷ []) ≡ Some (Key 65 true)
key_down = refl

key_up : act_of (codes "key" ∷ codes "00000000000000000065" ∷ codes "0" ∷ codes "" ∷ []) ≡ Some (Key 65 false)
key_up = refl

last_keysym : act_of (codes "key" ∷ codes "4294967295" ∷ codes "1" ∷ []) ≡ Some (Key 4294967295 true)
last_keysym = refl

no_keys : (act_of (codes "key" ∷ codes "4294967296" ∷ codes "1" ∷ []) ≡ None) × (act_of (codes "key" ∷ codes "65" ∷ codes "2" ∷ []) ≡ None) × (act_of (codes "key" ∷ codes "65" ∷ codes "01" ∷ []) ≡ None) × (act_of (codes "key" ∷ codes "65" ∷ []) ≡ None) × (act_of (codes "keys" ∷ codes "65" ∷ codes "1" ∷ []) ≡ None) × (act_of (codes "ke" ∷ codes "65" ∷ codes "1" ∷ []) ≡ None)
no_keys = (refl, refl, refl, refl, refl, refl)

-- 20 digits may be past 2^64 - 1, and 21 digits are no number
stamps : (act_of (codes "sync" ∷ codes "18446744073709551615" ∷ []) ≡ Some (Sync 18446744073709551615)) × (act_of (codes "sync" ∷ codes "18446744073709551616" ∷ []) ≡ None) × (act_of (codes "sync" ∷ codes "99999999999999999999" ∷ []) ≡ None) × (act_of (codes "sync" ∷ codes "000000000000000000001" ∷ []) ≡ None) × (act_of (codes "sync" ∷ codes "" ∷ []) ≡ None)
stamps = (refl, refl, refl, refl, refl)

-- a place may have a `-`, and -2^31 isn't one
pointer : (act_of (codes "mouse" ∷ codes "-0" ∷ codes "-2147483647" ∷ codes "255" ∷ []) ≡ Some (Mouse (pos 0) (negsuc 2147483646) 255)) × (act_of (codes "mouse" ∷ codes "7" ∷ codes "-2147483648" ∷ codes "0" ∷ []) ≡ None) × (act_of (codes "mouse" ∷ codes "7" ∷ codes "7" ∷ codes "256" ∷ []) ≡ None) × (act_of (codes "mouse" ∷ codes "+7" ∷ codes "7" ∷ codes "0" ∷ []) ≡ None) × (act_of (codes "mouse" ∷ codes "-" ∷ codes "7" ∷ codes "0" ∷ []) ≡ None)
pointer = (refl, refl, refl, refl, refl)

display : (act_of (codes "size" ∷ codes "640" ∷ codes "384" ∷ codes "96" ∷ []) ≡ Some (Size 640 384)) × (act_of (codes "size" ∷ codes "640" ∷ []) ≡ None) × (act_of (codes "size" ∷ codes "640" ∷ codes "2147483648" ∷ []) ≡ None)
display = (refl, refl, refl)

plain : (act_of (codes "nop" ∷ []) ≡ Some Nop) × (act_of (codes "disconnect" ∷ codes "0" ∷ []) ≡ Some Disconnect) × (act_of (codes "name" ∷ codes "é" ∷ []) ≡ None) × (act_of (codes "" ∷ []) ≡ None)
plain = (refl, refl, refl, refl)

-- the handshake
greetings : (greeting_of (codes "select" ∷ codes "telnet" ∷ []) ≡ Selects (codes "telnet")) × (greeting_of (codes "select" ∷ []) ≡ SaysOther) × (greeting_of (codes "select" ∷ codes "" ∷ []) ≡ Selects []) × (greeting_of (codes "size" ∷ codes "640" ∷ codes "384" ∷ codes "96" ∷ []) ≡ HasSize 640 384) × (greeting_of (codes "connect" ∷ []) ≡ Connects) × (greeting_of (codes "connect" ∷ codes "0" ∷ []) ≡ Connects) × (greeting_of (codes "nop" ∷ []) ≡ SaysOther) × (greeting_of (codes "size" ∷ codes "640" ∷ []) ≡ SaysOther)
greetings = (refl, refl, refl, refl, refl, refl, refl, refl)

-- what the gateway sends: layers from -1,024 to 0, and sizes to 4,096
layers : (instr_of (codes "size" ∷ codes "-1024" ∷ codes "4096" ∷ codes "0" ∷ []) ≡ Some (sent.Size (negsuc 1023) 4096 0)) × (instr_of (codes "size" ∷ codes "-1025" ∷ codes "8" ∷ codes "16" ∷ []) ≡ None) × (instr_of (codes "size" ∷ codes "-0" ∷ codes "8" ∷ codes "16" ∷ []) ≡ None) × (instr_of (codes "size" ∷ codes "1" ∷ codes "8" ∷ codes "16" ∷ []) ≡ None) × (instr_of (codes "size" ∷ codes "0" ∷ codes "4097" ∷ codes "16" ∷ []) ≡ None)
layers = (refl, refl, refl, refl, refl)

rectangle : instr_of (codes "rect" ∷ codes "0" ∷ codes "4294967295" ∷ codes "1" ∷ codes "2" ∷ codes "3" ∷ codes "4" ∷ []) ≡ Some (sent.Rect (pos 0) 4294967295 1 2 3)
rectangle = refl

-- the mask and the alpha are compared as numbers
fills : (instr_of (codes "cfill" ∷ codes "014" ∷ codes "-1" ∷ codes "1" ∷ codes "2" ∷ codes "255" ∷ codes "255" ∷ []) ≡ Some (sent.Cfill (negsuc 0) 1 2 255)) × (instr_of (codes "cfill" ∷ codes "14" ∷ codes "-1" ∷ codes "1" ∷ codes "2" ∷ codes "3" ∷ codes "254" ∷ []) ≡ None) × (instr_of (codes "cfill" ∷ codes "12" ∷ codes "-1" ∷ codes "1" ∷ codes "2" ∷ codes "3" ∷ codes "255" ∷ []) ≡ None) × (instr_of (codes "cfill" ∷ codes "14" ∷ codes "-1" ∷ codes "256" ∷ codes "2" ∷ codes "3" ∷ codes "255" ∷ []) ≡ None)
fills = (refl, refl, refl, refl)

-- the source is first
copies : instr_of (codes "copy" ∷ codes "-7" ∷ codes "1" ∷ codes "2" ∷ codes "8" ∷ codes "16" ∷ codes "14" ∷ codes "0" ∷ codes "3" ∷ codes "4" ∷ []) ≡ Some (sent.Copy (negsuc 6) 1 2 8 16 (pos 0) 3 4)
copies = refl

ends : (instr_of (codes "sync" ∷ codes "18446744073709551615" ∷ []) ≡ Some (sent.Sync 18446744073709551615)) × (instr_of (codes "disconnect" ∷ []) ≡ Some sent.Disconnect) × (instr_of (codes "error" ∷ codes "any" ∷ codes "65535" ∷ []) ≡ Some (sent.Error 65535)) × (instr_of (codes "error" ∷ codes "any" ∷ codes "65536" ∷ []) ≡ None) × (instr_of (codes "error" ∷ codes "523" ∷ []) ≡ None) × (instr_of (codes "args" ∷ []) ≡ None)
ends = (refl, refl, refl, refl, refl, refl)
