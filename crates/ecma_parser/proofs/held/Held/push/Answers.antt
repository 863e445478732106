use Rattle.std.proofs.Common.{◌∙◌, sym, arith}
use Rattle.ecma_parser.specs.Held.{held_bytes}
use Rattle.ecma_parser.proofs.HeldLaws.{pushed-waiting, pushed-character, pushed-held, pushed-broken}
use Rattle.ecma_parser.proofs.held.Held.push.Goals as goal

pub invariant_of-self-in-None : goal.invariant_of-self-in-None
invariant_of-self-in-None c = record {
  waiting = pushed-waiting c.args.self.now.bytes c.args.self.now.count c.args.byte c.args.self.now.waiting (omega arith) c.if-self-eq0.false
      (sym c.decode-found.ensures.char ∙ c.in-None.is) (sym c.decode-found.ensures.size ∙ c.if-size-count.true);
}

pub returns-in-Some : goal.returns-in-Some
returns-in-Some c = pushed-character c.args.self.now.bytes c.args.self.now.count c.args.byte c.args.self.now.waiting (omega arith) c.if-self-eq0.false
    c.in-Some.c (sym c.decode-found.ensures.char ∙ c.in-Some.is)

pub returns-in-None : goal.returns-in-None
returns-in-None c = pushed-held c.args.self.now.bytes c.args.self.now.count c.args.byte c.args.self.now.waiting (omega arith) c.if-self-eq0.false
    (sym c.decode-found.ensures.char ∙ c.in-None.is) (sym c.decode-found.ensures.size ∙ c.if-size-count.true)

pub returns-in-None-2 : goal.returns-in-None-2
returns-in-None-2 c = pushed-broken c.args.self.now.bytes c.args.self.now.count c.args.byte c.args.self.now.waiting (omega arith) c.if-self-eq0.false
    (sym c.decode-found.ensures.char ∙ c.in-None.is) (λ e. c.if-size-count.false (c.decode-found.ensures.size ∙ e))
    c.begin-in-None-2.result (held_bytes c.begin-in-None-2.new.self) c.begin-in-None-2.ensures
