use Rattle.std.proofs.Common.{List, ap, subst, sym}
use Rattle.std.specs.Prelude.{slice_index_or}
use Rattle.std.proofs.lemmas.List.{get_or_default}
use Rattle.canvas.specs.Kept.{KeptLayer}
use Rattle.canvas.specs.Standing.{Stands}
use Rattle.record_play.specs.declared.sync_at.SyncAt.{SyncAt}
use Rattle.gate_script.proofs.PlayTelling.{shown_at}
use Rattle.gate_script.proofs.play_told.shown.Goals as goal

pub returns : goal.returns
returns c =
    let syncs = c.args.recording.now.syncs in
    let k = c.args.k in
    let none : SyncAt = record { stamp = 0; end = 0 } in
    let sync = slice_index_or syncs k none in
    shown_at (λ t. t.items) c.shown_lines.result c.args.recording.now k _ sync c.seek.new.self.canvas c.requires
    (get_or_default syncs k none sync c.requires) (ap (λ (l : List SyncAt). (slice_index_or l k none).stamp) c.syncs-syncs.ensures) c.in_ok-seek.ensures.played
    (λ m s. c.shown_lines.ensures m (subst (λ (kept : List KeptLayer). Stands kept m) (sym c.canvas.ensures) s))
