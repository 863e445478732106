use Rattle.std.proofs.Common.{◌∙◌, List, false, take, ap, arith}
use Rattle.std.proofs.lemmas.List.{take_all}
use Rattle.gate_model.specs.declared.act.Act.{Act}
use Rattle.gate_model.specs.declared.act.Act.TheVariants.{Key}
use Rattle.viewer_book.specs.Book.{changed}
use Rattle.desk_core.specs.Viewers.{noted}
use Rattle.desk_core.proofs.Bringing.{notes_live, notes_more}
use Rattle.desk_core.proofs.desk.write.note.Goals as goal

pub loop-act-init : goal.loop-act-init
loop-act-init c = c.set_mods.ensures

pub heed-requires : goal.heed-requires
heed-requires c = notes_live c.args.book.now c.loop-act.book c.args.viewer c.args.held (take c.loop-act.act-index c.args.acts.now) c.loop-act.invariant c.requires

pub loop-act-preserved : goal.loop-act-preserved
loop-act-preserved c = notes_more c.args.book.now c.loop-act.book c.heed.new.book c.args.viewer c.args.held c.args.acts.now c.loop-act.act-index (Key 0 false) (omega (arith, c.loop-act-test.true)) c.loop-act.invariant c.heed.ensures

pub returns : goal.returns
returns c = c.loop-act.invariant ∙ ap (λ (acts : List Act). changed c.args.book.now c.args.viewer (noted c.args.held acts)) (take_all c.loop-act.act-index c.args.acts.now c.loop-act-test.false)
