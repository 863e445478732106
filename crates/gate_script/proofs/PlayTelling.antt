-- What `play` tells of a recording that was read.
use Rattle.std.proofs.Common.{◌≡◌, ℕ, ◌<◌, List, length, ap, sym, ◌∙◌, subst}
use Rattle.std.specs.Prelude.{Bool, Option, Result, Ok, Err, IfOk, get_or, slice_index_or}
use Rattle.std.proofs.lemmas.List.{get_or_default}
use Rattle.gate_model.specs.picture.Layers.{Layers, draw, nothing, visible}
use Rattle.canvas.specs.Kept.{KeptLayer}
use Rattle.canvas.specs.Standing.{Stands}
use Rattle.record_play.specs.Played.{IsPlayedTo}
use Rattle.record_play.specs.Recorded.{instrs_of, syncs_of}
use Rattle.record_play.specs.Syncs.{IsFound, IsOf, Recorded}
use Rattle.record_play.specs.declared.sync_at.SyncAt.{SyncAt}
use Rattle.gate_script.specs.PlayTold.{TellsAt, TellsFound, TellsInfo, TellsSync, info_lines, shown_lines}

-- one sync has a number
same_sync : (xs : List SyncAt) (k : ℕ) (s t : SyncAt) → k < length xs → s ≡ get_or xs k s → t ≡ get_or xs k t → s ≡ t
same_sync xs k s t low is other = is ∙ get_or_default xs k s t low ∙ sym other

-- the picture that a player shows
pub shown_at : {T E : Type 0} (items : T → List ℕ) (answer : Result T E) (r : Recorded) (k stamp : ℕ) (sync : SyncAt) (kept : List KeptLayer) → k < length r.syncs → sync ≡ slice_index_or r.syncs k sync → stamp ≡ sync.stamp → IsPlayedTo r k kept
    → ((m : Layers) → Stands kept m → IfOk answer (λ t. items t ≡ shown_lines stamp (m visible))) → IfOk answer (λ t. (s : SyncAt) × (s ≡ slice_index_or r.syncs k s) × TellsSync r.bytes s (items t))
shown_at items (Err e) r k stamp sync kept low is same p told = tt
shown_at items (Ok t) r k stamp sync kept low is same p told =
    let d = p.shows in
    let one = same_sync r.syncs k p.sync sync low p.is_sync is in
    let layers = draw nothing (instrs_of d.placed) in (
      p.sync,
      p.is_sync,
      record {
        placed = d.placed;
        read = d.read;
        to = d.to;
        told = told layers d.stands ∙ ap (λ (n : ℕ). shown_lines n (layers visible)) (same ∙ ap (λ (s : SyncAt). s.stamp) (sym one));
      },
    )

-- the index of the bytes
pub tells_info : (bytes answers : List ℕ) (r : Recorded) → r.bytes ≡ bytes → IsOf r → answers ≡ info_lines r.syncs r.closed r.cut → TellsInfo bytes answers
tells_info bytes answers r same o told = subst (λ (b : List ℕ). TellsInfo b answers) same (record {
  placed = o.placed;
  cut = r.cut;
  read = o.read;
  told = told ∙ (ap (λ (s : List SyncAt). info_lines s r.closed r.cut) o.syncs ∙ ap (λ (c : Bool). info_lines (syncs_of o.placed) c r.cut) o.closed);
})

-- the picture at the sync that was found, or none
pub tells_at : (bytes answers : List ℕ) (stamp : ℕ) (r : Recorded) (found : Option ℕ) → r.bytes ≡ bytes → IsOf r → IsFound r.syncs stamp found → TellsFound r.bytes r.syncs found answers → TellsAt bytes stamp answers
tells_at bytes answers stamp r found same o is told = subst (λ (b : List ℕ). TellsAt b stamp answers) same (record {
  placed = o.placed;
  cut = r.cut;
  read = o.read;
  found = found;
  is_found = subst (λ (s : List SyncAt). IsFound s stamp found) o.syncs is;
  told = subst (λ (s : List SyncAt). TellsFound r.bytes s found answers) o.syncs told;
})
