use Rattle.gate_model.proofs.Mending.{mended-stay, wholes-are-mended, all-are-mended, places-mend}
use Rattle.gate_model.proofs.laws.mending.mends_by_place.Goals as goal

pub returns-clause-stays : goal.returns-clause-stays
returns-clause-stays c = mended-stay

pub returns-clause-wholes : goal.returns-clause-wholes
returns-clause-wholes c = wholes-are-mended

pub returns-clause-all : goal.returns-clause-all
returns-clause-all c = all-are-mended

pub returns-clause-places : goal.returns-clause-places
returns-clause-places c = places-mend
