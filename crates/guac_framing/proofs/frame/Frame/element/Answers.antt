use Rattle.std.proofs.Common.{◌<◌, ◌∙◌, length, take, slice_get, List, ℕ, ap, sym, subst, Some}
use Rattle.guac_framing.proofs.Places.{span_of, text_of_span}
use Rattle.guac_framing.proofs.frame.Frame.element.Goals as goal

pub text_in-requires : goal.text_in-requires
text_in-requires c =
    span_of c.self.inside.bytes.now (take c.self.inside.count c.self.inside.spans) c.args.k _ c.self.invariant.1
    (subst (λ (l : List (List ℕ)). c.args.k < length l) (sym c.self.view_is) c.requires)

pub returns : goal.returns
returns c =
    ap (λ (l : List (List ℕ)). slice_get l c.args.k) (sym c.self.view_is)
    ∙ text_of_span c.self.inside.bytes.now (take c.self.inside.count c.self.inside.spans) c.args.k _ (subst (λ (l : List (List ℕ)). c.args.k < length l) (sym c.self.view_is) c.requires)
    ∙ sym (ap Some c.text_in.ensures)
