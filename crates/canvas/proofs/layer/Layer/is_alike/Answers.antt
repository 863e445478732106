use Rattle.std.proofs.Common.{◌≡◌, sym, ◌∙◌}
use Rattle.canvas.proofs.Sizes.{alike_is, is_equal}
use Rattle.canvas.proofs.layer.Layer.is_alike.Goals as goal
use Rattle.canvas.proofs.layer.Layer.is_alike.Goals.{then-self-other, else-self-other}

pub returns-then-self-other-2 : goal.returns-then-self-other-2
returns-then-self-other-2 c =
    let l = c.self.inside in
    let r = c.other.inside in
    let t = c.if-self-other.value in
    let widths : l.width ≡ r.width = elim c.if-self-other.branch [ then-self-other w ↦ w.if-self-other.true | else-self-other w ↦ is_equal t l.width r.width c.if-self-other-2.true w.value-is ] in
    let heights : l.height ≡ r.height = elim c.if-self-other.branch [
      | then-self-other w ↦ is_equal t l.height r.height c.if-self-other-2.true w.value-is
      | else-self-other w ↦ absurd (w.if-self-other.false (is_equal t l.width r.width c.if-self-other-2.true w.value-is))
    ] in
    rw (← c.self.view_is, ← c.other.view_is) (alike_is _ _ c.is_same.result widths heights c.self.invariant.0 c.other.invariant.0 (
      λ is_true. sym c.deref.ensures.value ∙ (c.is_same.ensures.0 is_true ∙ c.deref-then-self-other-2.ensures.value),
      λ same. c.is_same.ensures.1 (c.deref.ensures.value ∙ (same ∙ sym c.deref-then-self-other-2.ensures.value)),
    ))
