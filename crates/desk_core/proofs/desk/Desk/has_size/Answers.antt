use Rattle.std.proofs.Common.{◌≡◌, ℕ, true, false, ap, sym, ◌∙◌, subst}
use Rattle.std.specs.Prelude.{◌==◌}
use Rattle.std.proofs.lemmas.Bool.{eq-eqb, ne_eqb}
use Rattle.gate_model.specs.session.History.{size_now}
use Rattle.desk_core.specs.Desk.{DeskState, Stands}
use Rattle.desk_core.specs.State.{state}
use Rattle.desk_core.proofs.Following.{drawn_cols, drawn_rows}
use Rattle.desk_core.proofs.desk.Desk.has_size.Goals as goal

pub returns-then-cols : goal.returns-then-cols
returns-then-cols c = λ h stood.
    let d = state c.self.inside in
    let s : Stands d h = subst (λ (k : DeskState). Stands k h) (sym c.self.view_is) stood in
    let wide : c.cols.result ≡ (size_now h).columns = c.cols.ensures ∙ drawn_cols d.drawing h s.legal s.drawing in
    let high : c.rows.result ≡ (size_now h).rows = c.rows.ensures ∙ drawn_rows d.drawing h s.legal s.drawing in
    let same : ((size_now h).columns == c.args.cols) ≡ true = eq-eqb (size_now h).columns c.args.cols (sym wide ∙ c.if-cols.true) in
    rw same (ap (λ (n : ℕ). n == c.args.rows) high)

pub returns-else-cols : goal.returns-else-cols
returns-else-cols c = λ h stood.
    let d = state c.self.inside in
    let s : Stands d h = subst (λ (k : DeskState). Stands k h) (sym c.self.view_is) stood in
    let wide : c.cols.result ≡ (size_now h).columns = c.cols.ensures ∙ drawn_cols d.drawing h s.legal s.drawing in
    let other : ((size_now h).columns == c.args.cols) ≡ false = ne_eqb (size_now h).columns c.args.cols (λ same. c.if-cols.false (wide ∙ same)) in
    rw other (ap (λ (n : ℕ). n == c.args.cols) wide ∙ other)
