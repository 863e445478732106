use Rattle.std.proofs.Common.{Some, sym, ap, ◌∙◌}
use Rattle.std.specs.Option.{option_map}
use Rattle.guac_handshake.proofs.Values.{ask_is}
use Rattle.guac_handshake.proofs.connecting.read_ask.Goals as goal

pub returns : goal.returns
returns c =
    let made = c.in-Some-Some-Some in
    ask_is c.args.host.now _ _ _ _ _ _ _ _ _ _ _ _ c.in_ok-owned.ensures (sym c.read_port.ensures ∙ made.is-0) (sym c.read_term.ensures ∙ ap (option_map (λ term. term.now)) made.is-1 ∙ ap Some (sym c.in_ok-owned-2.ensures)) (sym c.read_mode.ensures ∙ made.is-2) c.read_flag.ensures c.columns_of.ensures.exact c.rows_of.ensures.exact
