-- What a control function reads from its parameters (ECMA-48, section 5.4.2).
use Rattle.std.specs.Prelude.{ℕ, List, take, get_or, ◌==◌, ◌||◌, nat_lt, if◌then◌else◌}
use Rattle.gate_model.specs.declared.control.Params.{Params}
use Rattle.gate_model.specs.terminal.Parameters.{default}

-- the parameter of an index; one that isn't there is a default
abbrev pub parameter : ℕ → Params → ℕ
parameter index params = if nat_lt index params.count then get_or params.values index default else default

-- a count, or a place counted from 1: a default and 0 are 1
abbrev pub amount : ℕ → ℕ
amount value = if value == default || value == 0 then 1 else value

-- a choice: a default is 0
abbrev pub choice : ℕ → ℕ
choice value = if value == default then 0 else value

-- the first parameter as a count, and as a choice
abbrev pub first_amount : Params → ℕ
first_amount params = amount (parameter 0 params)

abbrev pub first_choice : Params → ℕ
first_choice params = choice (parameter 0 params)

-- the parameters that are there
abbrev pub listed : Params → List ℕ
listed params = take params.count params.values
