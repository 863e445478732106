-- What a joiner gets, by the session's share mode and by what it asks for (this project's own).
use Rattle.std.specs.Prelude.{Result, Ok, Err}
use Rattle.gate_model.specs.declared.forbidden.Forbidden.{Forbidden}
use Rattle.gate_model.specs.declared.sharing.Share.{Share}
use Rattle.gate_model.specs.declared.sharing.Share.TheVariants.{Nobody, View as may_view, Control as may_control}
use Rattle.gate_model.specs.declared.sharing.Asked.{Asked}
use Rattle.gate_model.specs.declared.sharing.Asked.TheVariants.{Owner, Control as ask_control, View as ask_view, Keep as ask_keep}
use Rattle.gate_model.specs.declared.sharing.Role.{Role}
use Rattle.gate_model.specs.declared.sharing.Role.TheVariants.{Control, View, Keep}

-- the owner types and a recorder records in every mode; any other gets at most what the mode allows
abbrev pub grant_of : Share → Asked → Result Role Forbidden
grant_of mode Owner = Ok Control
grant_of mode ask_keep = Ok Keep
grant_of Nobody ask_control = Err record {}
grant_of Nobody ask_view = Err record {}
grant_of may_view ask_control = Ok View
grant_of may_view ask_view = Ok View
grant_of may_control ask_control = Ok Control
grant_of may_control ask_view = Ok View
