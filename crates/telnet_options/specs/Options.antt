-- What a clause reads of `Options`.
use Rattle.telnet_options.specs.declared.options.Options.{Options}
use Rattle.gate_model.specs.telnet.OptionAnswers.{Switches}

-- which options are on
abbrev pub switches : Options → Switches
switches o = record { own_ahead = o.own_ahead; own_terminal = o.own_terminal; own_size = o.own_size; peer_echo = o.peer_echo; peer_ahead = o.peer_ahead }
