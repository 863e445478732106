use Rattle.std.proofs.Common.{◌≡◌, sym, ◌∙◌, subst, IfOk, Option}
use Rattle.guac_handshake.specs.declared.ask.Ask.{Ask}
use Rattle.guac_handshake.proofs.Values.{begin_values}
use Rattle.guac_handshake.proofs.connecting.read_begin.Goals as goal

pub returns : goal.returns
returns c =
    let whole = begin_values c.args.frame.now _ _ _ _ _ c.args.size (sym c.count.ensures ∙ c.if-count-ne7.false) c.element.ensures c.element-2.ensures c.element-3.ensures c.element-4.ensures c.element-5.ensures in
    subst (λ (asked : Option Ask). IfOk c.read_ask.result (λ got. got ≡ asked)) (sym whole) c.read_ask.ensures
