-- The screen of a legal history has the size in force.
use Rattle.std.proofs.Common.{◌≡◌, ℕ, List, [], ◌∷◌, ap, sym, ◌∙◌, subst}
use Rattle.gate_model.specs.declared.entry.Entry.{Entry}
use Rattle.gate_model.specs.declared.entry.Entry.TheVariants.{Start, Feed, Size, Join, Read, Write, Take, Leave, Close}
use Rattle.gate_model.specs.declared.control.Control.{Control}
use Rattle.gate_model.specs.telnet.TelnetTokens.{tokens}
use Rattle.gate_model.specs.terminal.Screens.{completed, functions, screen}
use Rattle.gate_model.specs.terminal.Sizes.{Opening, ScreenSize}
use Rattle.gate_model.specs.terminal.Terminal.{Terminal, opening_screen}
use Rattle.gate_model.specs.session.History.{History, at, bytes, size_now}
use Rattle.gate_model.specs.session.Steps.{Legal}
use Rattle.gate_model.proofs.Added.{IsNext, next}
use Rattle.gate_model.proofs.Cuts.{after_all-does, functions_more}
use Rattle.gate_model.proofs.Histories.{IsPlain, at-feed, at-size, at-plain, plain-join, plain-read, plain-write, plain-take, plain-leave, plain-close}
use Rattle.gate_model.proofs.ScreenLaws.{after_controls-keeps}

-- the screen has the size in force
pub record IsSized (h : History) : Type 0 where
  pub cols : (at h).grid.cols ≡ (size_now h).columns
  pub rows : (at h).grid.rows ≡ (size_now h).rows

plain_sized : (g : History) (e : Entry) → IsPlain e → IsSized g → IsSized (e ∷ g)
plain_sized g e p s = record {
  cols = ap (λ (t : Terminal). t.grid.cols) (at-plain g e p) ∙ (s.cols ∙ sym (ap (λ (z : ScreenSize). z.columns) (p.no_start g).1.1.1.0));
  rows = ap (λ (t : Terminal). t.grid.rows) (at-plain g e p) ∙ (s.rows ∙ sym (ap (λ (z : ScreenSize). z.rows) (p.no_start g).1.1.1.0));
}

next_sized : (g : History) (e : Entry) → IsNext g e → IsSized g → IsSized (e ∷ g)
next_sized g (Feed bs t frame) n s =
    let cs : List Control = completed (bytes g) bs in
    let is = at-feed g bs t frame cs (functions_more (bytes g) bs) in
    let k = after_controls-keeps (at g) cs in
    record { cols = ap (λ (u : Terminal). u.grid.cols) is ∙ (k.columns ∙ s.cols); rows = ap (λ (u : Terminal). u.grid.rows) is ∙ (k.rows ∙ s.rows) }
next_sized g (Size v c r t frame) n s = let is = at-size g v c r t frame in record { cols = ap (λ (u : Terminal). u.grid.cols) is; rows = ap (λ (u : Terminal). u.grid.rows) is }
next_sized g (Join viewer role first) n s = plain_sized g (Join viewer role first) (plain-join viewer role first) s
next_sized g (Read viewer how) n s = plain_sized g (Read viewer how) (plain-read viewer how) s
next_sized g (Write viewer acts) n s = plain_sized g (Write viewer acts) (plain-write viewer acts) s
next_sized g (Take count) n s = plain_sized g (Take count) (plain-take count) s
next_sized g (Leave viewer) n s = plain_sized g (Leave viewer) (plain-leave viewer) s
next_sized g (Close cause) n s = plain_sized g (Close cause) (plain-close cause) s
next_sized g (Start cols lines mode term faces entries stamp frame) n s = absurd n

first_sized : (s : Opening) (bs : List ℕ) → ((screen s bs []).grid.cols ≡ s.size.columns) × ((screen s bs []).grid.rows ≡ s.size.rows)
first_sized s bs =
    let t = opening_screen s.faces s.size.columns s.size.rows in
    let is = after_all-does t (functions (tokens bs)) in
    let k = after_controls-keeps t (functions (tokens bs)) in
    (ap (λ (u : Terminal). u.grid.cols) is ∙ k.columns, ap (λ (u : Terminal). u.grid.rows) is ∙ k.rows)

pub sized_of : (h : History) → Legal h → IsSized h
sized_of [] l = absurd l
sized_of (e ∷ []) l = subst (λ (x : Entry). IsSized (x ∷ [])) (sym l.2.4) (let f = first_sized record { size = record { columns = l.0.cols; rows = l.0.rows }; faces = l.0.faces } [] in record { cols = f.0; rows = f.1 })
sized_of (e ∷ f ∷ g) l = next_sized (f ∷ g) e (next e f g l) (sized_of (f ∷ g) l.0)
