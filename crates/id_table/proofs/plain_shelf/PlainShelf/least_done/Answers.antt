use Rattle.std.proofs.Common.{List, ℕ, Option, Some, refl, false, sym, ap, ◌∙◌, subst}
use Rattle.std.specs.Fn.{FnReturnsAt}
use Rattle.id_table.proofs.Sweeping.{AreRead, read_all, read_below, read_has, read_more, read_none, returned}
use Rattle.id_table.proofs.plain_shelf.PlainShelf.least_done.Goals as goal

pub loop-id-init : goal.loop-id-init
loop-id-init g c =
    let h = c.into_iter-id-iterator.ensures.into_iter_gives in
    let P : g.row.V.Denot → Type 0 = λ v. FnReturnsAt g.F.Fn c.args.done.now v false in
    subst (λ (left : List (List ℕ × Option g.row.V.Denot)). AreRead P c.args.self.now.slots.values.entries left) (sym h.0) (read_none P _ h.5)

pub loop-id-preserved : goal.loop-id-preserved
loop-id-preserved g c =
    let P : g.row.V.Denot → Type 0 = λ v. FnReturnsAt g.F.Fn c.args.done.now v false in
    let E = c.args.self.now.slots.values.entries in
    let read = subst (λ (left : List (List ℕ × Option g.row.V.Denot)). AreRead P E left) c.in-Some.ensures.steps c.loop-id.invariant in
    read_more P E _ _ _ read (λ v e. absurd (c.in_default.not-Some v e))

pub loop-id-preserved-else-done : goal.loop-id-preserved-else-done
loop-id-preserved-else-done g c =
    let P : g.row.V.Denot → Type 0 = λ v. FnReturnsAt g.F.Fn c.args.done.now v false in
    let E = c.args.self.now.slots.values.entries in
    let read = subst (λ (left : List (List ℕ × Option g.row.V.Denot)). AreRead P E left) c.in-Some.ensures.steps c.loop-id.invariant in
    read_more P E _ _ _ read (λ v e. returned _ _ _ _ _ v c.done.ensures c.if-done.false (let s = c.in-Some-slot.is in (cc)))

pub returns-then-done-clause-has : goal.returns-then-done-clause-has
returns-then-done-clause-has g c =
    let P : g.row.V.Denot → Type 0 = λ v. FnReturnsAt g.F.Fn c.args.done.now v false in
    let E = c.args.self.now.slots.values.entries in
    let read = subst (λ (left : List (List ℕ × Option g.row.V.Denot)). AreRead P E left) c.in-Some.ensures.steps c.loop-id.invariant in
    (c.in-Some-slot.value, read_has P E _ _ _ read ∙ ap Some c.in-Some-slot.is, returned _ _ _ _ _ _ c.done.ensures c.if-done.true refl)

pub returns-then-done-clause-least : goal.returns-then-done-clause-least
returns-then-done-clause-least g c =
    let P : g.row.V.Denot → Type 0 = λ v. FnReturnsAt g.F.Fn c.args.done.now v false in
    let E = c.args.self.now.slots.values.entries in
    let read = subst (λ (left : List (List ℕ × Option g.row.V.Denot)). AreRead P E left) c.in-Some.ensures.steps c.loop-id.invariant in
    read_below P E _ _ _ read

pub returns : goal.returns
returns g c =
    let P : g.row.V.Denot → Type 0 = λ v. FnReturnsAt g.F.Fn c.args.done.now v false in
    let E = c.args.self.now.slots.values.entries in
    record {
      has = tt;
      least = tt;
      none = read_all P E (subst (λ (left : List (List ℕ × Option g.row.V.Denot)). AreRead P E left) c.in-None.ensures.steps.0 c.loop-id.invariant);
    }
