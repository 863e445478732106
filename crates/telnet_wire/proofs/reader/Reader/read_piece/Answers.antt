use Rattle.std.proofs.Common.{◌≡◌, ◌++◌, ◌+◌, [], take, get_or, append-nil, sym, subst, ap, ◌∙◌}
use Rattle.std.proofs.lemmas.List.{take_more}
use Rattle.std.specs.List.{cons_option}
use Rattle.telnet_wire.specs.State.{Gives}
use Rattle.telnet_wire.proofs.StateLaws.{gives-nothing, gives-next}
use Rattle.telnet_wire.proofs.reader.Reader.read_piece.Goals as goal
use Rattle.telnet_wire.proofs.reader.Reader.read_piece.Goals.{in-Some+in_ok-push, in_default}

pub loop-byte-init : goal.loop-byte-init
loop-byte-init c = λ rest stands.
    subst (λ given. Gives (rest ++ []) given c.args.self.now) (sym c.in_ok-tokens.ensures.items) (gives-nothing rest c.args.self.now stands)

pub loop-byte-preserved : goal.loop-byte-preserved
loop-byte-preserved c = λ rest stands.
    let old = c.loop-byte.tokens.items in
    let token = c.in_ok-token.field-0 in
    let items : c.match-branch-3.tokens.items ≡ old ++ cons_option token [] = elim c.match-branch-3.branch [
      | in-Some+in_ok-push w ↦ ap (λ v. v.items) w.tokens-is ∙ w.in_ok-push.ensures.items ∙ ap (λ o. old ++ cons_option o []) (sym w.in-Some.is)
      | in_default w ↦ ap (λ v. v.items) w.tokens-is ∙ sym (append-nil old) ∙ ap (λ o. old ++ cons_option o []) (sym w.in_default.is)
    ] in
    let piece = c.args.piece.now in
    let i = c.loop-byte.byte-index in
    subst (λ given. Gives (rest ++ take (i + 1) piece) given c.read.new.self) (sym items)
    (gives-next rest piece i (get_or piece i 0) old (cons_option token []) c.loop-byte.self c.read.new.self (take_more piece i 0 c.loop-byte-test.true)
    (c.loop-byte.invariant rest stands) c.in_ok-token.ensures.gives)
