use Rattle.std.proofs.Common.{◌≡◌, ◌+◌, ◌-◌, ℕ, List, length, take, drop, sym, ap, ◌∙◌, arith}
use Rattle.std.proofs.lemmas.List.{take_rest, length-drop}
use Rattle.ecma_parser.specs.State.{Opened}
use Rattle.ecma_parser.proofs.FrontLaws.{ended-ascii, ended-gives, opened-gives, opened-on}
use Rattle.ecma_parser.proofs.machine.Machine.read_sequence.Goals as goal
use Rattle.ecma_parser.proofs.machine.Machine.read_sequence.Goals.{then-at-eq2, else-at-eq2}

-- how many bytes are left
left : (bytes : List ℕ) (i : ℕ) → length (take (length bytes - i) (drop i bytes)) ≡ length bytes - i
left bytes i = ap length (take_rest bytes i) ∙ length-drop i bytes

pub returns-then-at-piece-clause-ascii : goal.returns-then-at-piece-clause-ascii
returns-then-at-piece-clause-ascii c =
    let piece = c.args.piece.now in
    let start = c.open-start.result in
    (opened-on start c.push_front.result piece (take (length piece - start) (drop start piece)) c.open-start.new.self.sequence c.push_front.new.self
    c.open-start.ensures (take_rest piece start) (left piece start) c.push_front.ensures.within c.push_front.ensures.plain c.push_front.ensures.holds).ascii

pub returns-then-at-piece-clause-gives : goal.returns-then-at-piece-clause-gives
returns-then-at-piece-clause-gives c =
    let piece = c.args.piece.now in
    let start = c.open-start.result in
    let at = start + c.push_front.result in
    let n = c.push_front.new.self in
    let state = c.if-at-eq2.self in
    let o : Opened at piece n = opened-on start c.push_front.result piece (take (length piece - start) (drop start piece)) c.open-start.new.self.sequence n
    c.open-start.ensures (take_rest piece start) (left piece start) c.push_front.ensures.within c.push_front.ensures.plain c.push_front.ensures.holds in
    elim c.if-at-eq2.branch [
      | then-at-eq2 w ↦ opened-gives at piece n state o (λ two. w.self-is) (λ other. absurd (other w.if-at-eq2.true))
      | else-at-eq2 w ↦ opened-gives at piece n state o (λ two. absurd (w.if-at-eq2.false two)) (λ other. w.self-is)
    ]

pub returns-clause-ascii : goal.returns-clause-ascii
returns-clause-ascii c =
    let piece = c.args.piece.now in
    let start = c.open-start.result in
    let at = start + c.push_front.result in
    let n = c.push_front.new.self in
    let o : Opened at piece n = opened-on start c.push_front.result piece (take (length piece - start) (drop start piece)) c.open-start.new.self.sequence n
    c.open-start.ensures (take_rest piece start) (left piece start) c.push_front.ensures.within c.push_front.ensures.plain c.push_front.ensures.holds in
    ended-ascii at piece n o (omega (arith, o.within, c.if-at-piece.false)) (sym c.if-not-is_csi_final.ensures)

pub returns-clause-gives : goal.returns-clause-gives
returns-clause-gives c =
    let piece = c.args.piece.now in
    let start = c.open-start.result in
    let at = start + c.push_front.result in
    let n = c.push_front.new.self in
    let o : Opened at piece n = opened-on start c.push_front.result piece (take (length piece - start) (drop start piece)) c.open-start.new.self.sequence n
    c.open-start.ensures (take_rest piece start) (left piece start) c.push_front.ensures.within c.push_front.ensures.plain c.push_front.ensures.holds in
    ended-gives at piece n o (omega (arith, o.within, c.if-at-piece.false)) (sym c.if-not-is_csi_final.ensures)
