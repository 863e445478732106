use Rattle.std.proofs.Common.{◌≡◌, ◌∙◌, List, ℕ, ap, sym, subst}
use Rattle.std.specs.Option.{option_map}
use Rattle.std.specs.Prelude.{IfOk, Some}
use Rattle.script_grammar.specs.Grammar.{meant, behind_word}
use Rattle.script_grammar.specs.declared.line.Line.{Line}
use Rattle.script_grammar.proofs.GrammarLaws.{line_of-words, some_bytes}
use Rattle.script_grammar.proofs.grammar.line_of.Goals as goal

pub returns-in-Some-clause-says : goal.returns-in-Some-clause-says
returns-in-Some-clause-says c =
    let behind : Some c.in-Some.behind.now ≡ behind_word c.args.text.now = ap (λ o. option_map (λ s. s.now) o) (sym c.in-Some.is) ∙ c.split-words.ensures.behind in
    subst (λ (line : Line). IfOk c.meant.result (λ l. l ≡ line)) (line_of-words c.args.entries c.args.text.now c.in-Some.behind.now (some_bytes c.args.text.now c.is_empty.result c.is_empty.ensures c.if-is_empty.false) c.if-text-eq35.false behind)
    (subst (λ (w : List ℕ). IfOk c.meant.result (λ l. l ≡ meant c.args.entries w c.in-Some.behind.now)) c.split-words.ensures.first c.meant.ensures.says)
