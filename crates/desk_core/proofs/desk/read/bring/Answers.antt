use Rattle.std.proofs.Common.{◌≡◌, ◌∙◌, ℕ, List, Bool, true, ap, ap₂, sym, subst, arith}
use Rattle.gate_model.specs.declared.how.How.{How}
use Rattle.display_history.specs.Keeping.{AreRising, after_stamp, covers}
use Rattle.viewer_book.specs.declared.viewer.Viewer.{Viewer}
use Rattle.viewer_book.specs.Book.{changed, ended_at, moved_to, viewer_at}
use Rattle.desk_core.specs.Viewers.{brought, given_all}
use Rattle.desk_core.proofs.Results.{some_is}
use Rattle.desk_core.proofs.Seating.{told}
use Rattle.desk_core.proofs.desk.read.bring.Goals as goal

pub end-requires-clause-rises : goal.end-requires-clause-rises
end-requires-clause-rises c = λ w found. omega (arith, (c.requires.behind w found).reached, c.stamp-stamp.ensures)

pub returns-then-closed : goal.returns-then-closed
returns-then-closed c = λ all p has at.
    c.end.ensures ∙ (ap (λ (t : ℕ). changed c.args.book.now c.args.viewer (ended_at t)) c.stamp-stamp.ensures
    ∙ ap (λ (closed : Bool). changed c.args.book.now c.args.viewer (brought all p c.args.frames.now.stamp c.args.how.now closed)) (sym c.if-closed.true))

pub after-requires : goal.after-requires
after-requires c =
    let there = some_is (viewer_at c.args.book.now c.args.viewer) c.requires.live in
    let at : c.position.result ≡ there.0.position = told (λ (w : Viewer). w.position) (viewer_at c.args.book.now c.args.viewer) there.0 c.position.result there.1 c.position.ensures in
    subst (λ (t : ℕ). covers c.args.frames.now.kept t ≡ true) (sym at) ((c.requires.behind there.0 there.1).kept c.if-closed.false c.in-Suffix.is)

pub give_all-requires-clause-rises : goal.give_all-requires-clause-rises
give_all-requires-clause-rises c = λ w found.
    let at : c.position.result ≡ w.position = told (λ (u : Viewer). u.position) (viewer_at c.args.book.now c.args.viewer) w c.position.result found c.position.ensures in
    subst (λ (t : ℕ). AreRising t c.after.result.now) at c.after.ensures.rising

pub give_all-requires-clause-few : goal.give_all-requires-clause-few
give_all-requires-clause-few c = λ w found. omega (arith, (c.requires.behind w found).few c.if-closed.false, c.after.ensures.few)

pub returns-in-Suffix : goal.returns-in-Suffix
returns-in-Suffix c = λ all p has at.
    let there = some_is (viewer_at c.args.book.now c.args.viewer) c.requires.live in
    let here : c.position.result ≡ p = told (λ (w : Viewer). w.position) (viewer_at c.args.book.now c.args.viewer) there.0 c.position.result there.1 c.position.ensures ∙ at there.0 there.1 in
    c.give_all.ensures ∙ (ap (λ (fs : List (ℕ × List ℕ)). changed c.args.book.now c.args.viewer (given_all fs)) (c.after.ensures.frames all has ∙ ap (λ (t : ℕ). after_stamp t all) here)
    ∙ ap₂ (λ (how : How) (closed : Bool). changed c.args.book.now c.args.viewer (brought all p c.args.frames.now.stamp how closed)) (sym c.in-Suffix.is) (sym c.if-closed.false))

pub deliver-requires-clause-rises : goal.deliver-requires-clause-rises
deliver-requires-clause-rises c = λ w found. omega (arith, (c.requires.behind w found).lacks c.if-closed.false, c.stamp-stamp.ensures)

pub deliver-requires-clause-few : goal.deliver-requires-clause-few
deliver-requires-clause-few c = λ w found. omega (arith, (c.requires.behind w found).few c.if-closed.false)

pub returns-in-Fresh : goal.returns-in-Fresh
returns-in-Fresh c = λ all p has at.
    c.deliver.ensures ∙ (ap (λ (t : ℕ). changed c.args.book.now c.args.viewer (moved_to t)) c.stamp-stamp.ensures
    ∙ ap₂ (λ (how : How) (closed : Bool). changed c.args.book.now c.args.viewer (brought all p c.args.frames.now.stamp how closed)) (sym c.in-Fresh.is) (sym c.if-closed.false))
