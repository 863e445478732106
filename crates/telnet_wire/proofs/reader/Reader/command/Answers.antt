use Rattle.std.proofs.Common.{[], ◌∷◌, refl, sym, subst, arith}
use Rattle.telnet_wire.specs.State.{Gives}
use Rattle.telnet_wire.proofs.StateLaws.{after-iac, after-single, after-none, after-verb, after-sub}
use Rattle.telnet_wire.proofs.reader.Reader.command.Goals as goal
use Rattle.telnet_wire.proofs.reader.Reader.command.Goals.{in-254, in-253, in-252, in-251, in-250, in_default}

pub returns-in-255 : goal.returns-in-255
returns-in-255 c = after-iac c.args.byte _ c.in-255.is refl

pub returns-in-241-to-249 : goal.returns-in-241-to-249
returns-in-241-to-249 c = after-single c.args.byte _ (omega arith) (omega arith) refl

pub returns : goal.returns
returns c = elim c.match-byte.branch [
  | in-254 w ↦ subst (λ reader. Gives (255 ∷ c.args.byte ∷ []) [] reader) (sym w.self-is) (after-verb c.args.byte _ 254 w.in-254.is refl refl)
  | in-253 w ↦ subst (λ reader. Gives (255 ∷ c.args.byte ∷ []) [] reader) (sym w.self-is) (after-verb c.args.byte _ 253 w.in-253.is refl refl)
  | in-252 w ↦ subst (λ reader. Gives (255 ∷ c.args.byte ∷ []) [] reader) (sym w.self-is) (after-verb c.args.byte _ 252 w.in-252.is refl refl)
  | in-251 w ↦ subst (λ reader. Gives (255 ∷ c.args.byte ∷ []) [] reader) (sym w.self-is) (after-verb c.args.byte _ 251 w.in-251.is refl refl)
  | in-250 w ↦ subst (λ reader. Gives (255 ∷ c.args.byte ∷ []) [] reader) (sym w.self-is) (after-sub c.args.byte _ w.in-250.is (λ on. ([], w.clear.ensures, on)))
  | in_default w ↦ subst (λ reader. Gives (255 ∷ c.args.byte ∷ []) [] reader) (sym w.self-is) (after-none c.args.byte _ (omega arith) refl)
]
