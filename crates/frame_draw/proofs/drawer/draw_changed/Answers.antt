use Rattle.std.proofs.Common.{[], ◌∷◌, ◌++◌, refl, ap, ◌∙◌}
use Rattle.std.proofs.lemmas.Result.{on_ok_weaker}
use Rattle.gate_model.specs.declared.instr.Instr.{Instr}
use Rattle.gate_model.specs.session.Cost.{is_changed}
use Rattle.dirty_region.specs.Bands.{is_left}
use Rattle.frame_draw.specs.Moved.{moved_places, old_places}
use Rattle.frame_draw.proofs.Banding.{along_banded, fewer, moved_fits}
use Rattle.frame_draw.proofs.Ends.{all_left, old_fits}
use Rattle.frame_draw.proofs.drawer.draw_changed.Goals as goal

pub returns-then-as_slice-places-clause-along : goal.returns-then-as_slice-places-clause-along
returns-then-as_slice-places-clause-along c =
    let old = c.args.old.now in
    let now = c.args.new.now in
    let shift = c.args.shift in
    let band = c.in-Some.band in
    on_ok_weaker c.draw.result
    (along_banded old now shift band c.cols.result c.args.list.now.items c.push.new.self.items c.draw.new.list.items c.args.cache.now.keys c.draw.new.cache.keys
    c.requires.size c.draw.ensures.full c.requires.same_columns c.cols.ensures c.in-Some.ensures
    (c.in_ok-push.ensures.items ∙ ap (λ (i : Instr). c.args.list.now.items ++ i ∷ []) c.copy_band.ensures)
    (fewer old now shift band now.cols c.as_slice.result.now c.args.places.now (c.as_slice.ensures ∙ c.in_ok-rest.ensures) c.requires.listed c.if-as_slice-places.true))
    (c.draw.ensures.along (moved_places old shift band) (is_left old now shift band) (moved_fits old now shift band)
    (all_left now.cols _ (is_left old now shift band) c.as_slice-then-as_slice-places.result.now _ c.as_slice-then-as_slice-places.ensures c.in_ok-rest.ensures))

pub returns-clause-along : goal.returns-clause-along
returns-clause-along c =
    let old = c.args.old.now in
    let now = c.args.new.now in
    let shift = c.args.shift in
    c.draw-2.ensures.along (old_places old shift) (is_changed old now shift) (old_fits old now shift)
    (all_left now.cols _ (is_changed old now shift) c.args.places.now _ refl c.requires.listed)
