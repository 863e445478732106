use Rattle.std.proofs.Common.{◌≡◌, Some, false, true, true≢false, refl, sym, subst, w32, ◌∙◌}
use Rattle.std.proofs.Math.Facts.{to_z-of_z}
use Rattle.std.specs.Prelude.{IsNone, slice_get}
use Rattle.gate_model.specs.picture.Buffers.{is_held}
use Rattle.glyph_cache.specs.Cache.{CacheState, IsCache}
use Rattle.glyph_cache.proofs.Tied.{absent, there, valid}
use Rattle.glyph_cache.proofs.cache.Cache.find.Goals as goal

pub returns-in_err-number-clause-none : goal.returns-in_err-number-clause-none
returns-in_err-number-clause-none c =
    let missing = absent c.self.inside.slots c.self.inside.by_number.items c.self.invariant c.args.key (sym c.in_err-number.ensures) in
    (λ _. subst (λ (s : CacheState). is_held s.keys c.args.key ≡ false) c.self.view_is missing, λ _. subst IsNone (sym c.from_residual.ensures) refl)

pub returns-in_err-number-clause-valid : goal.returns-in_err-number-clause-valid
returns-in_err-number-clause-valid c = subst IsCache c.self.view_is (valid c.self.inside.slots c.self.inside.by_number.items c.self.invariant)

pub returns-clause-none : goal.returns-clause-none
returns-clause-none c =
    let held = there c.self.inside.slots c.self.inside.by_number.items c.self.invariant c.args.key c.in_ok-number.number.now (sym c.in_ok-number.ensures) in
    let is = subst (λ (s : CacheState). is_held s.keys c.args.key ≡ true) c.self.view_is held in
    (λ e. absurd (true≢false e), λ e. sym is ∙ e)

pub returns-clause-layer : goal.returns-clause-layer
returns-clause-layer c = (
  c.in_ok-number.number.now,
  to_z-of_z {w = w32} {z = c.layer_of.result} (record { sfits = c.layer_of.type_inv }) ∙ c.layer_of.ensures,
  subst (λ (s : CacheState). slice_get s.keys c.in_ok-number.number.now ≡ Some c.args.key) c.self.view_is
      (c.self.invariant.back (record { key = c.args.key }) c.in_ok-number.number.now (sym c.in_ok-number.ensures)),
)

pub returns-clause-valid : goal.returns-clause-valid
returns-clause-valid c = subst IsCache c.self.view_is (valid c.self.inside.slots c.self.inside.by_number.items c.self.invariant)
