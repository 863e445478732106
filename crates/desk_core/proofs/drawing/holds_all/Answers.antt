use Rattle.std.proofs.Common.{rules, ◌≡◌, true, length, refl, ap, sym, ◌∙◌, arith}
use Rattle.std.proofs.lemmas.List.{take_all}
use Rattle.std.proofs.lemmas.List.Elements.{All-replicate}
use Rattle.std.specs.List.{list_all}
use Rattle.gate_model.specs.picture.Buffers.{is_held}
use Rattle.gate_model.proofs.Layering.{held-not_new}
use Rattle.desk_core.proofs.drawing.holds_all.Goals as goal

pub loop-key-init : goal.loop-key-init
loop-key-init c = (All-replicate (λ k. is_held c.args.cache.now.keys k ≡ true) 1024 c.in-Some.first.now (search rules), refl)

pub returns-clause-held : goal.returns-clause-held
returns-clause-held c = λ all. held-not_new c.args.cache.now.keys c.args.shown.now.keys
    (ap (list_all (is_held c.args.cache.now.keys)) (sym (take_all c.loop-key.key-index c.args.shown.now.keys (omega (arith, c.loop-key-test.false, ap length c.as_slice-keys.ensures.keys)))) ∙ c.loop-key.invariant.1)
