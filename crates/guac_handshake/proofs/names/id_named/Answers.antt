use Rattle.std.proofs.Common.{None, lit<}
use Rattle.std.proofs.lemmas.Str.Pattern.{strip_prefix_char}
use Rattle.guac_handshake.proofs.InMemory.{no_name}
use Rattle.guac_handshake.proofs.names.id_named.Goals as goal

pub returns-in-None : goal.returns-in-None
returns-in-None c = no_name c.args.name.now (strip_prefix_char 36 c.args.name.now None c.in-None.ensures.cases (lit< tt))
