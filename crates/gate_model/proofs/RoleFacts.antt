-- The role table, computed from its definition: what is asked, under each share mode.
use Rattle.std.specs.Prelude.{◌≡◌, List, [], ◌∷◌, map, Ok, Err, refl}
use Rattle.gate_model.specs.declared.sharing.Share.TheVariants.{Nobody, View as may_view, Control as may_control}
use Rattle.gate_model.specs.declared.sharing.Asked.{Asked}
use Rattle.gate_model.specs.declared.sharing.Asked.TheVariants.{Owner, Control as ask_control, View as ask_view, Keep as ask_keep}
use Rattle.gate_model.specs.declared.sharing.Role.TheVariants.{Control, View, Keep}
use Rattle.gate_model.specs.session.Roles.{grant_of}

abbrev all_asked : List Asked
all_asked = Owner ∷ ask_control ∷ ask_view ∷ ask_keep ∷ []

private_session : map (grant_of Nobody) all_asked ≡ Ok Control ∷ Err record {} ∷ Err record {} ∷ Ok Keep ∷ []
private_session = refl

viewed_session : map (grant_of may_view) all_asked ≡ Ok Control ∷ Ok View ∷ Ok View ∷ Ok Keep ∷ []
viewed_session = refl

shared_session : map (grant_of may_control) all_asked ≡ Ok Control ∷ Ok Control ∷ Ok View ∷ Ok Keep ∷ []
shared_session = refl
