use Rattle.std.proofs.Common.{sym}
use Rattle.script_grammar.proofs.grammar.meant.Goals as goal

pub returns-then-is-3-clause-says : goal.returns-then-is-3-clause-says
returns-then-is-3-clause-says c = rw (sym c.if-is.ensures, sym c.if-is-2.ensures, sym c.if-is-3.ensures) c.server.ensures.says

pub returns-then-is-6-clause-says : goal.returns-then-is-6-clause-says
returns-then-is-6-clause-says c = rw (sym c.if-is.ensures, sym c.if-is-2.ensures, sym c.if-is-3.ensures, sym c.if-is-4.ensures, sym c.if-is-5.ensures, sym c.if-is-6.ensures) c.write.ensures.says
