-- A recording, played one instruction after the other.
use Rattle.std.proofs.Common.{◌≡◌, ℕ, zero, suc, ◌+◌, ◌-◌, ◌<◌, ◌≤◌, List, [], ◌∷◌, ◌++◌, length, drop, take, refl, ap, sym, ◌∙◌, subst, length-append, length-drop, arith, inl, inr, append_assoc, append-nil}
use Rattle.std.specs.Prelude.{Option, Some, None, get_or}
use Rattle.std.proofs.lemmas.List.{take-append-drop, length-take-le, get_or_append_left, get_or-append_right}
use Rattle.gate_model.specs.declared.instr.Instr.{Instr}
use Rattle.gate_model.specs.text.ServerMeaning.{instr_of}
use Rattle.gate_model.specs.text.Spelling.{Spells}
use Rattle.gate_model.proofs.MeaningLaws.{instr_in_utf8}
use Rattle.gate_model.proofs.Spelt.{prefix_free}
use Rattle.gate_model.specs.picture.Layers.{draw, nothing, play}
use Rattle.gate_model.proofs.Drawing.{draw-append}
use Rattle.canvas.specs.Kept.{KeptLayer}
use Rattle.canvas.specs.Standing.{Stands as Shows}
use Rattle.guac_framing.specs.Answers.{IsWhole}
use Rattle.guac_framing.specs.Found.{IsBadPlace, IsUnfinished, HasNoInstruction}
use Rattle.std.proofs.lemmas.Bool.{cases_lt}
use Rattle.record_play.specs.declared.sync_at.SyncAt.{SyncAt}
use Rattle.record_play.specs.Stamps.{stamp_of}
use Rattle.record_play.specs.Recorded.{HasRead, Placed, instrs_of, sync_list, syncs_of, through}
use Rattle.record_play.specs.Played.{IsDrawn, IsFront}
use Rattle.record_play.specs.Syncs.{IsOf, Recorded}
use Rattle.guac_framing.proofs.Streams.{left_at}

-- the instructions before a place were played, and these are to come, the newest first
pub record Playing (bytes : List ℕ) (end at : ℕ) (kept : List KeptLayer) : Type 0 where
  pub newer : List Placed
  pub older : List Placed
  pub read : HasRead bytes (newer ++ older)
  pub to : through (newer ++ older) ≡ end
  pub here : through older ≡ at
  pub within : at ≤ length bytes
  pub shows : Shows kept (draw nothing (instrs_of older))

-- the oldest of these comes next
pub record Next (newer : List Placed) : Type 0 where
  pub later : List Placed
  pub next : Placed
  pub is : newer ≡ later ++ next ∷ []

pub last_of : (p : Placed) (newer : List Placed) → Next (p ∷ newer)
last_of p [] = record { later = []; next = p; is = refl }
last_of p (q ∷ newer) = let n = last_of q newer in record { later = p ∷ n.later; next = n.next; is = ap (λ (l : List Placed). p ∷ l) n.is }

-- each instruction has some bytes, so what is to come ends further on
pub rises : (bytes : List ℕ) (newer older : List Placed) → HasRead bytes (newer ++ older) → through older ≤ through (newer ++ older)
rises bytes [] older read = omega arith
rises bytes (p ∷ newer) older read = let rest = rises bytes newer older read.2 in let one = read.0.1.forward in omega (arith, rest, one)

-- behind what was read, the older part was read too
pub read_older : (bytes : List ℕ) (newer older : List Placed) → HasRead bytes (newer ++ older) → HasRead bytes older
read_older bytes [] older read = read
read_older bytes (p ∷ newer) older read = read_older bytes newer older read.2

module _ (bytes : List ℕ) (end at : ℕ) (kept : List KeptLayer) (s : Playing bytes end at kept) where
  some_newer : (newer : List Placed) → through (newer ++ s.older) ≡ end → at < end → Next newer
  some_newer [] to low = absurd (omega (arith, to, low, s.here))
  some_newer (p ∷ newer) to low = last_of p newer

  pub next_one : at < end → Next s.newer
  next_one low = some_newer s.newer s.to low

  module _ (n : Next s.newer) where
    pub split : s.newer ++ s.older ≡ n.later ++ n.next ∷ s.older
    split = ap (λ (l : List Placed). l ++ s.older) n.is ∙ append_assoc n.later (n.next ∷ []) s.older

    pub further : HasRead bytes (n.later ++ n.next ∷ s.older)
    further = subst (HasRead bytes) split s.read

    pub one : HasRead bytes (n.next ∷ s.older)
    one = read_older bytes n.later (n.next ∷ s.older) further

    -- the next instruction is spelled at the front of what is left
    pub spelled : Spells (take (n.next.end - at) (take (length bytes - at) (drop at bytes))) one.0.0
    spelled = subst (λ (l : List ℕ). Spells (take (n.next.end - at) l) one.0.0) (sym (left_at bytes at)) (subst (λ (k : ℕ). Spells (take (n.next.end - k) (drop k bytes)) one.0.0) s.here one.0.1.spelled)

    -- nothing else can be there
    pub no_more : IsUnfinished (take (length bytes - at) (drop at bytes)) → ⊥
    no_more more = more.none (n.next.end - at) one.0.0 spelled

    pub no_bad : (place : ℕ) → IsBadPlace (take (length bytes - at) (drop at bytes)) place → ⊥
    no_bad place bad = subst HasNoInstruction (take-append-drop (place + 1) (take (length bytes - at) (drop at bytes))) (bad.through (drop (place + 1) (take (length bytes - at) (drop at bytes)))) (n.next.end - at) one.0.0 spelled

    left_long : length (take (length bytes - at) (drop at bytes)) ≡ length bytes - at
    left_long = ap length (left_at bytes at) ∙ length-drop at bytes

    module _ (values : List (List ℕ)) (size : ℕ) (whole : IsWhole (take (length bytes - at) (drop at bytes)) values size) where
      same : (take size (take (length bytes - at) (drop at bytes)) ≡ take (n.next.end - at) (take (length bytes - at) (drop at bytes))) × (whole.elements ≡ one.0.0)
      same = prefix_free _ _ (drop size (take (length bytes - at) (drop at bytes))) (drop (n.next.end - at) (take (length bytes - at) (drop at bytes))) whole.elements one.0.0 whole.spelled spelled
          (take-append-drop size (take (length bytes - at) (drop at bytes)) ∙ sym (take-append-drop (n.next.end - at) (take (length bytes - at) (drop at bytes))))

      pub goes_to : at + size ≡ n.next.end
      goes_to = omega (arith, sym (length-take-le size (take (length bytes - at) (drop at bytes)) whole.within), ap length same.0, length-take-le (n.next.end - at) (take (length bytes - at) (drop at bytes)) (omega (arith, left_long, one.0.1.within)), one.0.1.forward, s.here)

      pub means : instr_of values ≡ Some n.next.instr
      means = ap instr_of whole.texts ∙ (instr_in_utf8 whole.elements ∙ (ap instr_of same.1 ∙ one.0.2))

      pub no_none : instr_of values ≡ None → ⊥
      no_none is = let w : None ≡ Some n.next.instr = sym is ∙ means in cc

      -- one more was played
      pub played : (i : Instr) (now : List KeptLayer) → instr_of values ≡ Some i → Shows now (play (draw nothing (instrs_of s.older)) i) → Playing bytes end (at + size) now
      played i now is shows = record {
        newer = n.later;
        older = n.next ∷ s.older;
        read = further;
        to = ap through (sym split) ∙ s.to;
        here = sym goes_to;
        within = omega (arith, goes_to, one.0.1.within);
        shows = subst (Shows now) (sym (draw-append nothing (instrs_of s.older) (n.next.instr ∷ []))) (subst (λ (j : Instr). Shows now (play (draw nothing (instrs_of s.older)) j)) (let w : Some i ≡ Some n.next.instr = sym is ∙ means in cc) shows);
      }

  -- all was played
  pub played_all : end ≤ at → IsDrawn bytes end kept
  played_all high = record {
    placed = s.older;
    read = read_older bytes s.newer s.older s.read;
    to = omega (arith, high, s.here, s.to, rises bytes s.newer s.older s.read);
    stands = s.shows;
  }

-- nothing was played
pub none_played : (bytes : List ℕ) (end : ℕ) (kept : List KeptLayer) → IsFront bytes end → Shows kept nothing → Playing bytes end 0 kept
none_played bytes end kept front shows = record {
  newer = front.placed;
  older = [];
  read = subst (HasRead bytes) (sym (append-nil front.placed)) front.read;
  to = ap through (append-nil front.placed) ∙ front.to;
  here = refl;
  within = omega arith;
  shows = shows;
}

-- a recording is whole instructions through each of its syncs
last_front : (bytes : List ℕ) (p : Placed) (older : List Placed) → HasRead bytes (p ∷ older) → (o : Option ℕ) (k : ℕ) (s : SyncAt) → k < length (sync_list o p.end) → s ≡ get_or (sync_list o p.end) k s → IsFront bytes s.end
last_front bytes p older read None k s low is = absurd (omega (arith, low))
last_front bytes p older read (Some stamp) zero s low is = record { placed = p ∷ older; read = read; to = sym (ap (λ (x : SyncAt). x.end) is) }
last_front bytes p older read (Some stamp) (suc k) s low is = absurd (omega (arith, low))

front_at : (bytes : List ℕ) (placed : List Placed) → HasRead bytes placed → (k : ℕ) (s : SyncAt) → k < length (syncs_of placed) → s ≡ get_or (syncs_of placed) k s → IsFront bytes s.end
front_at bytes [] read k s low is = absurd (omega (arith, low))
front_at bytes (p ∷ older) read k s low is = elim (cases_lt k (length (syncs_of older))) [
  | inl below ↦ front_at bytes older read.2 k s below (is ∙ get_or_append_left (syncs_of older) (sync_list (stamp_of p.instr) p.end) s k below)
  | inr above ↦ last_front bytes p older read (stamp_of p.instr) (k - length (syncs_of older)) s (omega (arith, low, above, length-append (syncs_of older) (sync_list (stamp_of p.instr) p.end))) (is ∙ get_or-append_right (syncs_of older) (sync_list (stamp_of p.instr) p.end) (length (syncs_of older)) k s refl above)
]

pub front_in : (r : Recorded) → IsOf r → (k : ℕ) (s : SyncAt) → k < length r.syncs → s ≡ get_or r.syncs k s → IsFront r.bytes s.end
front_in r o k s low is = front_at r.bytes o.placed o.read.read k s (subst (λ (l : List SyncAt). k < length l) o.syncs low) (subst (λ (l : List SyncAt). s ≡ get_or l k s) o.syncs is)
