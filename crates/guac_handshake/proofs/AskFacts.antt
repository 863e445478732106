-- What instructions of a handshake ask, computed from the definitions.
use Rattle.std.proofs.Common.{arith}
use Rattle.std.specs.Prelude.{◌≡◌, ℕ, List, [], ◌∷◌, ◌++◌, replicate, Some, None, true, false, codes, refl}
use Rattle.gate_model.specs.declared.sharing.Share.TheVariants as share
use Rattle.gate_model.specs.declared.sharing.Asked.TheVariants as role
use Rattle.guac_handshake.specs.declared.request.Request.TheVariants.{Begin, Join}
use Rattle.guac_handshake.specs.Asks.{IsAskable, Unfinished, Wants, Refuses, asks, cols_of, is_term, mode_of, port_of, rows_of}

abbrev telnet : List (List ℕ)
telnet = codes "select" ∷ codes "telnet" ∷ []

abbrev named : List (List ℕ)
named = codes "select" ∷ codes "$a" ∷ []

abbrev size : List (List ℕ)
size = codes "size" ∷ codes "640" ∷ codes "384" ∷ codes "96" ∷ []

abbrev nop : List (List ℕ)
nop = codes "nop" ∷ []

abbrev connect : List (List ℕ)
connect = codes "connect" ∷ codes "VERSION_1_1_0" ∷ codes "localhost" ∷ codes "23" ∷ [] ∷ [] ∷ codes "control" ∷ []

abbrev join : List ℕ → List (List ℕ)
join read_only = codes "connect" ∷ codes "VERSION_1_1_0" ∷ read_only ∷ []

begins : asks false (telnet ∷ size ∷ connect ∷ []) ≡ Wants (Begin (record { host = codes "localhost"; port = 23; term = codes "linux"; mode = share.Control; read_only = false; cols = 80; rows = 24 }))
begins = refl

joins : asks true (named ∷ join [] ∷ []) ≡ Wants (Join (codes "$a") role.Control)
joins = refl

looks_on : asks true (named ∷ join (codes "true") ∷ []) ≡ Wants (Join (codes "$a") role.View)
looks_on = refl

unknown : asks false (named ∷ []) ≡ Refuses 516
unknown = refl

no_select : asks true (nop ∷ []) ≡ Refuses 768
no_select = refl

one_value : asks false (telnet ∷ (codes "connect" ∷ [] ∷ []) ∷ []) ≡ Refuses 768
one_value = refl

unfinished : asks false (telnet ∷ size ∷ []) ≡ Unfinished
unfinished = refl

-- 64 instructions may come between, and no 65
most : asks true (named ∷ replicate 64 nop ++ join [] ∷ []) ≡ Wants (Join (codes "$a") role.Control)
most = refl

too_many : asks true (named ∷ replicate 65 nop) ≡ Refuses 768
too_many = refl

smallest : (cols_of (Some (7, 15)) ≡ 1) × (rows_of (Some (7, 15)) ≡ 1)
smallest = (refl, refl)

largest : (cols_of (Some (4104, 4112)) ≡ 512) × (rows_of (Some (4104, 4112)) ≡ 256)
largest = (refl, refl)

ports : (port_of [] ≡ Some 23) × (port_of (codes "65535") ≡ Some 65535) × (port_of (codes "65536") ≡ None) × (port_of (codes "0") ≡ None)
ports = (refl, refl, refl, refl)

terms : (is_term (replicate 40 120) ≡ true) × (is_term (replicate 41 120) ≡ false) × (is_term (codes "a b") ≡ false)
terms = (refl, refl, refl)

modes : (mode_of [] ≡ Some share.Nobody) × (mode_of (codes "view") ≡ Some share.View) × (mode_of (codes "View") ≡ None)
modes = (refl, refl, refl)

-- what is asked by default may be asked, and a terminal type of 41 characters may not
smallest_asked : IsAskable (record { host = []; port = 23; term = codes "a"; mode = share.Nobody; read_only = false; cols = 1; rows = 1 })
smallest_asked = record { size = record { some_columns = omega arith; few_columns = omega arith; some_rows = omega arith; few_rows = omega arith }; term = record { some = omega arith; few = omega arith; marks = refl } }

too_wide : IsAskable (record { host = []; port = 23; term = codes "a"; mode = share.Nobody; read_only = false; cols = 513; rows = 1 }) → ⊥
too_wide is = omega (arith, is.size.few_columns)

too_long : IsAskable (record { host = []; port = 23; term = replicate 41 120; mode = share.Nobody; read_only = false; cols = 80; rows = 24 }) → ⊥
too_long is = omega (arith, is.term.few)
