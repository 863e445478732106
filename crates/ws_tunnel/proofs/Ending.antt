-- A viewer leaves at the end, and its passes meet once more.
use Rattle.std.proofs.Common.{◌≡◌, inl, inr, ⊎_elim, ℕ, ◌≤◌, List, [], ◌∷◌, ◌++◌, length, refl, ap, sym, ◌∙◌, subst, append-nil, append_assoc, length-append, arith}
use Rattle.std.specs.Prelude.{Contains, Option, Some, None, if◌then◌else◌}
use Rattle.gate_model.specs.declared.act.Act.{Act}
use Rattle.gate_model.specs.declared.entry.Entry.{Entry}
use Rattle.gate_model.specs.declared.entry.Entry.TheVariants.{Leave}
use Rattle.gate_model.specs.declared.event.Event.TheVariants.{Leave as leave}
use Rattle.gate_model.specs.declared.instr.Instr.{Instr}
use Rattle.gate_model.specs.session.Delivered.{delivered}
use Rattle.gate_model.specs.session.History.{History}
use Rattle.gate_model.specs.text.Text.{texts}
use Rattle.gate_model.specs.Sequences.{BeginsWith, IsLater}
use Rattle.desk_core.proofs.FrameTexts.{texts-append}
use Rattle.turn_lock.specs.declared.view.View.{View}
use Rattle.turn_lock.proofs.Elements.{later_length, later_trans}
use Rattle.shared_desk.specs.Meetings.{HaveMet, written_by}
use Rattle.shared_desk.specs.Members.{IsSound}
use Rattle.shared_desk.proofs.Lasting.{later_contains, reads_more}
use Rattle.shared_desk.specs.Own.{own_entries}
use Rattle.viewer_acts.specs.Parts.{joined}
use Rattle.viewer_acts.specs.Doing.{Did, GoesOn, IsStoppedByMemory}
use Rattle.viewer_acts.proofs.Doings.{goes_further, goes_nowhere, stopped_on}
use Rattle.ws_tunnel.specs.Answered.{IsReadStopped, WasRead}
use Rattle.ws_tunnel.specs.Runs.{AreCounted, HasRun, IsReadAt, IsSent, IsSentAt, IsWanting, IsWantingAt, IsWantingBehind, Leaves, MayEnd, MessagesRun, WsCause, joined_texts}
use Rattle.ws_tunnel.specs.declared.ends.WsEnd.{WsEnd}
use Rattle.ws_tunnel.specs.declared.ends.WsEnd.TheVariants.{Ended, Disconnected, Refused, Bad, Cut, TooLong, LinkFault, Left, Worn, NoMemory}
use Rattle.ws_tunnel.proofs.Going.{all_acts, all_parts, answered_last, answered_on, answered_placed_on, did_by, heard_all, joined_last, only_both, read_on}
use Rattle.ws_tunnel.proofs.Meeting.{cause_later, close_later, met_goes_on, met_later, met_same}

-- ---- the leave

-- what the writer's pass gained by it
record LeftAs (end : WsEnd) (viewer : ℕ) (v w : View Entry) : Type 0 where
  goes_on : GoesOn v w
  leaves : List Entry
  may : MayEnd end viewer leaves
  own : own_entries w ≡ leaves ++ own_entries v
  gone : Contains w.seen (Leave viewer)

left_as : (end : WsEnd) (viewer : ℕ) (v w : View Entry) → WsCause end viewer v.seen → Leaves end viewer v w → LeftAs end viewer v w
left_as Left viewer v w c k = subst (λ (x : View Entry). LeftAs Left viewer v x) (sym k) record { goes_on = goes_nowhere v; leaves = []; may = refl; own = refl; gone = c }
left_as Ended viewer v w c k = record { goes_on = k.goes_on; leaves = k.leaves; may = k.few; own = k.own; gone = k.gone.left }
left_as Disconnected viewer v w c k = record { goes_on = k.goes_on; leaves = k.leaves; may = k.few; own = k.own; gone = k.gone.left }
left_as (Refused status) viewer v w c k = record { goes_on = k.goes_on; leaves = k.leaves; may = k.few; own = k.own; gone = k.gone.left }
left_as (Bad at) viewer v w c k = record { goes_on = k.goes_on; leaves = k.leaves; may = k.few; own = k.own; gone = k.gone.left }
left_as (Cut place) viewer v w c k = record { goes_on = k.goes_on; leaves = k.leaves; may = k.few; own = k.own; gone = k.gone.left }
left_as TooLong viewer v w c k = record { goes_on = k.goes_on; leaves = k.leaves; may = k.few; own = k.own; gone = k.gone.left }
left_as LinkFault viewer v w c k = record { goes_on = k.goes_on; leaves = k.leaves; may = k.few; own = k.own; gone = k.gone.left }
left_as Worn viewer v w c k = record { goes_on = k.goes_on; leaves = k.leaves; may = k.few; own = k.own; gone = k.gone.left }
left_as NoMemory viewer v w c k = record { goes_on = k.goes_on; leaves = k.leaves; may = k.few; own = k.own; gone = k.gone.left }

-- ---- the texts

none_last : (ts : List (List ℕ)) (last : List (List ℕ)) → last ≡ [] → joined_texts (ts ++ last) ≡ joined_texts ts
none_last ts last none = ap joined_texts (ap (λ (xs : List (List ℕ)). ts ++ xs) none ∙ append-nil ts)

-- what was given last wasn't sent
unsent : (given : List Instr) (first : List ℕ) (ts last : List (List ℕ)) (more : List Instr) → first ++ joined_texts ts ≡ texts given → last ≡ [] → BeginsWith (texts (given ++ more)) (first ++ joined_texts (ts ++ last))
unsent given first ts last more so_far none =
    (texts more, texts-append given more ∙ ap (λ (bs : List ℕ). bs ++ texts more) (sym so_far ∙ ap (λ (bs : List ℕ). first ++ bs) (sym (none_last ts last none))))

sent_at : (end : WsEnd) (given : List Instr) (first : List ℕ) (ts last : List (List ℕ)) (more : List Instr) → first ++ joined_texts ts ≡ texts given → IsSentAt end last (texts more) → IsSent end (first ++ joined_texts (ts ++ last)) (texts (given ++ more))
sent_at Ended given first ts last more so_far is =
    ap (λ (xs : List (List ℕ)). first ++ joined_texts (ts ++ xs)) is
    ∙ (ap (λ (bs : List ℕ). first ++ bs) (joined_last ts (texts more)) ∙ (sym (append_assoc first (joined_texts ts) (texts more)) ∙ (ap (λ (bs : List ℕ). bs ++ texts more) so_far ∙ sym (texts-append given more))))
sent_at Disconnected given first ts last more so_far is = unsent given first ts last more so_far is
sent_at (Refused status) given first ts last more so_far is = unsent given first ts last more so_far is
sent_at (Bad at) given first ts last more so_far is = unsent given first ts last more so_far is
sent_at (Cut place) given first ts last more so_far is = unsent given first ts last more so_far is
sent_at TooLong given first ts last more so_far is = unsent given first ts last more so_far is
sent_at LinkFault given first ts last more so_far is = unsent given first ts last more so_far is
sent_at Left given first ts last more so_far is = unsent given first ts last more so_far is
sent_at Worn given first ts last more so_far is = unsent given first ts last more so_far is
sent_at NoMemory given first ts last more so_far is = unsent given first ts last more so_far is

as_many : (ts last : List (List ℕ)) (n : ℕ) → length ts ≡ n → last ≡ [] → length (ts ++ last) ≡ n
as_many ts last n so_far none = ap length (ap (λ (xs : List (List ℕ)). ts ++ xs) none ∙ append-nil ts) ∙ so_far

counted_at : (end : WsEnd) (ts last : List (List ℕ)) (text : List ℕ) (n : ℕ) → length ts ≡ n → IsSentAt end last text → AreCounted end (length (ts ++ last)) n
counted_at Ended ts last text n so_far is = omega (arith, ap (λ (xs : List (List ℕ)). length (ts ++ xs)) is, length-append ts (text ∷ []), so_far)
counted_at Disconnected ts last text n so_far is = as_many ts last n so_far is
counted_at (Refused status) ts last text n so_far is = as_many ts last n so_far is
counted_at (Bad at) ts last text n so_far is = as_many ts last n so_far is
counted_at (Cut place) ts last text n so_far is = as_many ts last n so_far is
counted_at TooLong ts last text n so_far is = as_many ts last n so_far is
counted_at LinkFault ts last text n so_far is = as_many ts last n so_far is
counted_at Left ts last text n so_far is = as_many ts last n so_far is
counted_at Worn ts last text n so_far is = as_many ts last n so_far is
counted_at NoMemory ts last text n so_far is = as_many ts last n so_far is

read_at : (end : WsEnd) (viewer : ℕ) (written gained : List Entry) (seen later : History) → written ≡ gained → IsLater seen later → IsReadAt end viewer written seen → IsReadAt end viewer gained later
read_at Ended viewer written gained seen later is l k = (k.0, subst (λ (es : List Entry). WasRead viewer es k.0 later) is (read_on viewer written k.0 seen later l k.1))
read_at Disconnected viewer written gained seen later is l k = tt
read_at (Refused status) viewer written gained seen later is l k = tt
read_at (Bad at) viewer written gained seen later is l k = tt
read_at (Cut place) viewer written gained seen later is l k = tt
read_at TooLong viewer written gained seen later is l k = tt
read_at LinkFault viewer written gained seen later is l k = tt
read_at Left viewer written gained seen later is l k = tt
read_at Worn viewer written gained seen later is l k = tt
read_at NoMemory viewer written gained seen later is l k = tt

-- ---- where memory was wanting

-- it stays so while the writer's pass goes on
module _ (viewer : ℕ) (w w_now : View Entry) (goes : GoesOn w w_now) (start before : History) (begins : IsLater start before) (own own_now written written_now : List Entry) (own_is : own ≡ own_now) (written_is : written ≡ written_now) where
  part_on : IsStoppedByMemory viewer w.mine own before w.seen → IsStoppedByMemory viewer w_now.mine own_now start w_now.seen
  part_on s = stopped_on viewer w w_now own_now start before goes begins (subst (λ (es : List Entry). IsStoppedByMemory viewer w.mine es before w.seen) own_is s)

  read_stopped_on : IsReadStopped viewer written before w.seen → IsReadStopped viewer written_now start w_now.seen
  read_stopped_on s = record { found = s.found; later = later_trans start before s.found begins s.later; earlier = later_trans s.found w.seen w_now.seen s.earlier goes.later; all = s.all ∙ written_is; alone = s.alone }

  wanting_behind : IsWantingBehind viewer w.mine own written before w.seen → IsWantingBehind viewer w_now.mine own_now written_now start w_now.seen
  wanting_behind (inl s) = inl (part_on s)
  wanting_behind (inr (inl s)) = inr (inl (read_stopped_on s))
  wanting_behind (inr (inr k)) = inr (inr (k.0, later_trans start before k.0 begins k.1, subst (λ (es : List Entry). WasRead viewer es k.0 w_now.seen) written_is (read_on viewer written k.0 w.seen w_now.seen goes.later k.2)))

  wanting_at : (message : List ℕ) (acts : List Act) → IsWantingAt message acts viewer w.mine own written before w.seen → IsWantingAt message acts viewer w_now.mine own_now written_now start w_now.seen
  wanting_at message acts (inl unlisted) = inl unlisted
  wanting_at message acts (inr k) = inr (k.0, wanting_behind k.1)

  wanting_on : (end : WsEnd) (last : Option (List ℕ)) (acts : List Act) → IsWanting end last acts viewer w.mine own written before w.seen → IsWanting end last acts viewer w_now.mine own_now written_now start w_now.seen
  wanting_on NoMemory (Some message) acts k = wanting_at message acts k
  wanting_on NoMemory None acts k = tt
  wanting_on Ended last acts k = tt
  wanting_on Disconnected last acts k = tt
  wanting_on (Refused status) last acts k = tt
  wanting_on (Bad at) last acts k = tt
  wanting_on (Cut place) last acts k = tt
  wanting_on TooLong last acts k = tt
  wanting_on LinkFault last acts k = tt
  wanting_on Left last acts k = tt
  wanting_on Worn last acts k = tt

-- ---- the whole run

module _ (viewer : ℕ) (start : History) (r w x r_now w_now : View Entry) (first : List ℕ) (left : Option (List (List ℕ))) (received sent : List (List ℕ)) (end : WsEnd) (h : HasRun viewer start r w first left received sent end) (leaves : Leaves end viewer w x) (met : HaveMet r x r_now w_now)
    (own : (own_entries r_now ≡ own_entries r) × (own_entries w_now ≡ own_entries x)) (given : delivered r_now.seen viewer ≡ delivered r.seen viewer) (sound : IsSound w_now.seen) (some : 1 ≤ length start) where
  pub messages_ran : MessagesRun viewer start r_now w_now first left received sent end
  messages_ran =
      let s = h.so_far in
      let k = h.stopped in
      let away = left_as end viewer w x k.cause leaves in
      let goes : GoesOn w w_now = goes_further w x w_now away.goes_on (met_goes_on _ _ _ _ met.other) in
      let base : own_entries h.w_then ≡ s.gained ++ [] = s.writer ∙ sym (append-nil s.gained) in
      let did : Did viewer w.mine (s.gained ++ []) h.w_then.seen w.seen k.parts k.gained = subst (λ (es : List Entry). Did viewer w.mine es h.w_then.seen w.seen k.parts k.gained) base k.did in
      let placed = answered_placed_on viewer start h.w_then w s.messages [] s.gained k.goes_on s.writes in
      let all = answered_last viewer w.mine [] start h.w_then.seen w.seen s.messages s.gained k.parts k.gained k.goes_on.later placed did in
      let only : written_by viewer (k.gained ++ own_entries h.w_then) ≡ k.gained ++ s.gained = ap (λ (es : List Entry). written_by viewer (k.gained ++ es)) s.writer ∙ only_both viewer k.gained s.gained (did_by viewer w.mine (own_entries h.w_then) h.w_then.seen w.seen k.parts k.gained k.did) s.only in
      let written = answered_on viewer start w w_now s.messages k.parts (k.gained ++ s.gained) goes all in
      let parts = all_parts viewer w_now.mine [] start w_now.seen s.messages k.parts (k.gained ++ s.gained) written in
      let begun : IsLater start w.seen = later_trans start h.w_then.seen w.seen s.later k.goes_on.later in
      record {
        seen = met_same r x r_now w_now met;
        later = later_trans start w.seen w_now.seen begun goes.later;
        sound = sound;
        answered = h.answered;
        last = h.last;
        received_are = h.received_are;
        counted = subst (λ (ts : List (List ℕ)). AreCounted end (length ts) (length h.answered)) (sym h.sent_are) (counted_at end h.texts_then h.texts_last (texts k.more) (length h.answered) s.counted k.sent_is);
        messages = s.messages;
        are = s.are;
        acts = k.acts;
        ends = k.ends;
        parts = k.parts;
        are_parts = k.are_parts;
        lost = k.lost;
        acts_are = k.acts_are;
        loses = ⊎_elim (λ may. inl may) (λ closed. inr (close_later w.seen w_now.seen goes.later closed)) k.loses;
        gained = k.gained ++ s.gained;
        writes = written;
        all_parts = parts.parts;
        heard_are = heard_all h.answered s.messages k.acts s.are ∙ (ap (λ (xs : List Act). all_acts s.messages ++ xs) k.acts_are ∙ (sym (append_assoc (all_acts s.messages) (joined k.parts) k.lost) ∙ ap (λ (xs : List Act). xs ++ k.lost) (sym parts.acts_are)));
        done = parts.did;
        read_last = read_at end viewer (written_by viewer (k.gained ++ own_entries h.w_then)) (k.gained ++ s.gained) w.seen w_now.seen only goes.later k.read_last;
        wanting = wanting_on viewer w w_now goes start h.w_then.seen s.later (k.gained ++ own_entries h.w_then) (k.gained ++ s.gained) (written_by viewer (k.gained ++ own_entries h.w_then)) (k.gained ++ s.gained) (ap (λ (es : List Entry). k.gained ++ es) s.writer) only end h.last k.acts k.wanting;
        leaves = away.leaves;
        leave = away.may;
        writer = own.1 ∙ (away.own ∙ ap (λ (es : List Entry). away.leaves ++ es) (k.own ∙ ap (λ (es : List Entry). k.gained ++ es) s.writer));
        reads = k.reads ++ s.reads;
        are_reads = reads_more viewer k.reads s.reads k.are_reads s.are_reads;
        reader = own.0 ∙ (k.reader ∙ ap (λ (es : List Entry). k.reads ++ es) s.reader);
        text = subst (λ (ts : List (List ℕ)). IsSent end (first ++ joined_texts ts) (texts (delivered r_now.seen viewer))) (sym h.sent_are)
            (subst (λ (is : List Instr). IsSent end (first ++ joined_texts (h.texts_then ++ h.texts_last)) (texts is)) (sym (given ∙ k.given)) (sent_at end (delivered h.r_then.seen viewer) first h.texts_then h.texts_last k.more s.text k.sent_is));
        cause = cause_later end viewer w.seen w_now.seen goes.later (omega (arith, later_length start w.seen begun, some)) sound.legal k.cause;
        gone = later_contains x.seen w_now.seen (Leave viewer) (met_later _ _ _ _ met.other) away.gone;
      }
