use Rattle.script_grammar.proofs.GrammarLaws.{first-found, behind-found, first-alone, behind-none}
use Rattle.script_grammar.proofs.grammar.split.Goals as goal

pub returns-in-Some-clause-first : goal.returns-in-Some-clause-first
returns-in-Some-clause-first c = first-found c.args.text.now c.in-Some.place c.in-Some.ensures

pub returns-in-Some-clause-behind : goal.returns-in-Some-clause-behind
returns-in-Some-clause-behind c = behind-found c.args.text.now c.in-Some.place c.in-Some.ensures

pub returns-in-None-clause-first : goal.returns-in-None-clause-first
returns-in-None-clause-first c = first-alone c.args.text.now c.in-None.ensures

pub returns-in-None-clause-behind : goal.returns-in-None-clause-behind
returns-in-None-clause-behind c = behind-none c.args.text.now c.in-None.ensures
