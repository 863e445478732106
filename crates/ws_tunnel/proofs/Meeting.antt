-- A read between two meetings of a viewer's passes.
use Rattle.std.proofs.Common.{◌≡◌, ℕ, ◌≤◌, List, [], ◌++◌, length, Bool, false, refl, ap, sym, ◌∙◌, subst}
use Rattle.std.specs.Prelude.{Some, Result, Ok, Err}
use Rattle.gate_model.specs.declared.entry.Entry.{Entry}
use Rattle.gate_model.specs.declared.entry.Entry.TheVariants.{Leave, Close}
use Rattle.gate_model.specs.declared.event.Event.TheVariants.{Read as read}
use Rattle.gate_model.specs.declared.instr.Instr.{Instr}
use Rattle.gate_model.specs.declared.read_answer.ReadAnswer.{ReadAnswer}
use Rattle.gate_model.specs.declared.read_refusal.ReadRefusal.{ReadRefusal}
use Rattle.gate_model.specs.session.Delivered.{delivered, ended}
use Rattle.gate_model.specs.session.History.{History}
use Rattle.gate_model.specs.session.Steps.{Legal}
use Rattle.gate_model.specs.text.Text.{texts}
use Rattle.gate_model.specs.Sequences.{IsLater}
use Rattle.desk_core.specs.Calls.{read_answer}
use Rattle.turn_lock.specs.declared.view.View.{View}
use Rattle.turn_lock.proofs.Elements.{contains_none}
use Rattle.shared_desk.specs.Called.{Gives}
use Rattle.shared_desk.specs.Marks.{reader_mark}
use Rattle.shared_desk.specs.Meetings.{HasMet, HaveMet, written_by}
use Rattle.shared_desk.specs.Members.{KnowsViewer, Stays, ViewerState}
use Rattle.shared_desk.specs.Own.{own_entries}
use Rattle.shared_desk.proofs.Lasting.{are_reads, full_stays, later_contains, left_seen, read_adds, some_seen, turn_knows, turn_legal}
use Rattle.shared_desk.proofs.Meetings.{ReadBehind, found_ended, keeps_ended, keeps_mark, now_mine, now_seen, read_behind}
use Rattle.viewer_acts.specs.Doing.{GoesOn}
use Rattle.viewer_acts.proofs.Doings.{goes_further}
use Rattle.ws_tunnel.specs.Runs.{HasClose, OfOneViewer, ReadCause, ReadEnd, ReadsBehind, WsCause, over_of}
use Rattle.ws_tunnel.specs.declared.ends.WsEnd.{WsEnd}
use Rattle.ws_tunnel.specs.declared.ends.WsEnd.TheVariants.{Ended, Disconnected, Refused, Bad, Cut, TooLong, LinkFault, Left, Worn, NoMemory}
use Rattle.ws_tunnel.proofs.Reading.{ended_later, read_later, refused, stopped_alone, told}

-- ---- what stays

-- why it ended stays so
pub cause_later : (end : WsEnd) (viewer : ℕ) (g h : History) → IsLater g h → 1 ≤ length g → Legal h → WsCause end viewer g → WsCause end viewer h
cause_later Ended viewer g h l some legal c = ended_later viewer g h l c
cause_later Left viewer g h l some legal c = later_contains g h (Leave viewer) l c
cause_later Worn viewer g h l some legal c = full_stays g h l some legal c
cause_later Disconnected viewer g h l some legal c = tt
cause_later (Refused status) viewer g h l some legal c = tt
cause_later (Bad at) viewer g h l some legal c = tt
cause_later (Cut place) viewer g h l some legal c = tt
cause_later TooLong viewer g h l some legal c = tt
cause_later LinkFault viewer g h l some legal c = tt
cause_later NoMemory viewer g h l some legal c = tt

pub close_later : (g h : History) → IsLater g h → HasClose g → HasClose h
close_later g h l k = (k.0, later_contains g h (Close k.0) l k.1)

-- ---- passes of one viewer

pub stayed : (s : ViewerState) → Stays s s
stayed s = record { session = refl; viewer = refl }

pub stays_on : (s t u : ViewerState) → Stays s t → Stays t u → Stays s u
stays_on s t u a b = record { session = b.session ∙ a.session; viewer = b.viewer ∙ a.viewer }

pub still_one : (r w r_now w_now : ViewerState) → OfOneViewer r w → Stays r r_now → Stays w w_now → OfOneViewer r_now w_now
still_one r w r_now w_now one a b = record { session = b.session ∙ (one.session ∙ sym a.session); viewer = b.viewer ∙ (one.viewer ∙ sym a.viewer) }

-- ---- a pass that met another goes on

module _ (v : View Entry) (seen : History) (known : ℕ) (now : View Entry) (m : HasMet v seen known now) where
  pub met_later : IsLater v.seen now.seen
  met_later = subst (IsLater v.seen) (sym (now_seen v seen known now m)) m.later

  pub met_goes_on : GoesOn v now
  met_goes_on = record { later = met_later; places = []; mine = now_mine v seen known now m; behind = λ p c. absurd (contains_none p c) }

  pub met_legal : Legal now.seen
  met_legal = subst (λ (h : History). Legal h) (sym (now_seen v seen known now m)) m.sound.legal

pub met_same : (v w v_now w_now : View Entry) → HaveMet v w v_now w_now → v_now.seen ≡ w_now.seen
met_same v w v_now w_now m = now_seen _ _ _ _ m.one ∙ sym (now_seen _ _ _ _ m.other)

-- ---- the read

module _ (viewer : ℕ) (r0 w0 r1 w1 r2 r3 w3 : View Entry) (r : Result ReadAnswer ReadRefusal) (before after : List ℕ) (first : HaveMet r0 w0 r1 w1) (t : Gives r1 (read viewer) (read_answer r) r2 before after) (last : HaveMet r2 w1 r3 w3)
    (own_first : (own_entries r1 ≡ own_entries r0) × (own_entries w1 ≡ own_entries w0)) (own_last : (own_entries r3 ≡ own_entries r2) × (own_entries w3 ≡ own_entries w1))
    (all_first : written_by viewer w1.seen ≡ written_by viewer (own_entries w1)) (all_last : written_by viewer w3.seen ≡ written_by viewer (own_entries w3)) (mark : r1.mark ≡ Some (reader_mark viewer)) (going : ended r0.seen viewer ≡ false) (knows : KnowsViewer viewer r1) where
  found_going : ended t.before viewer ≡ false
  found_going =
      let was : r0.mark ≡ Some (reader_mark viewer) = sym (keeps_mark _ _ _ _ first.one) ∙ mark in
      found_ended viewer r1 r2 _ mark t ∙ (keeps_ended _ _ _ _ first.one viewer was ∙ going)

  read_mark : r2.mark ≡ Some (reader_mark viewer)
  read_mark = ap (λ (x : View Entry). x.mark) t.after ∙ mark

  end_seen : IsLater r2.seen w3.seen
  end_seen = subst (IsLater r2.seen) (met_same r2 w1 r3 w3 last) (met_later _ _ _ _ last.one)

  behind : ReadBehind viewer (written_by viewer (own_entries w0)) w0.seen t.before w3.seen
  behind = read_behind viewer r0 w0 r1 w1 r2 r3 w3 _ first t last own_first.1 own_last.1 all_first all_last

  -- a refusal stays so
  caused : (end : WsEnd) → Err end ≡ over_of r → WsCause end viewer w3.seen → ReadCause end viewer (written_by viewer (own_entries w0)) w0.seen w3.seen
  caused NoMemory is c = record { found = t.before; later = behind.low; earlier = behind.high; all = behind.same; alone = stopped_alone viewer r1 r2 r before after t (sym is) }
  caused Ended is c = c
  caused Disconnected is c = c
  caused (Refused status) is c = c
  caused (Bad at) is c = c
  caused (Cut place) is c = c
  caused TooLong is c = c
  caused LinkFault is c = c
  caused Left is c = c
  caused Worn is c = c

  ends_as : (result : Result Bool WsEnd) → result ≡ over_of r → ReadEnd viewer w0 r3 w3 result
  ends_as (Ok over) is =
      let k = told viewer r1 r2 r over before after t found_going (sym is) in (
        t.before,
        behind.low,
        record { later = behind.high; all = behind.same; read = read_later viewer t.before r2.seen w3.seen end_seen k.read_after },
        k.closes,
        keeps_ended _ _ _ _ last.one viewer read_mark ∙ k.over_is,
      )
  ends_as (Err end) is =
      let then_ = turn_knows viewer r1 r2 _ t knows in
      let legal = turn_legal r1 r2 _ t in
      let k = refused viewer r2.seen r end (sym is) (λ gone. left_seen viewer then_.first r2.seen legal then_.joined gone) (read_adds r1 r2 viewer r before after t).cause in
      (k.0, caused end is (cause_later end viewer r2.seen w3.seen end_seen (some_seen r2.seen legal) (met_legal _ _ _ _ last.other) k.1))

  pub reads_behind : (more : List Instr) → delivered r1.seen viewer ≡ delivered r0.seen viewer → delivered r2.seen viewer ≡ delivered r1.seen viewer ++ more → delivered r3.seen viewer ≡ delivered r2.seen viewer → after ≡ before ++ texts more → before ≡ []
      → (result : Result Bool WsEnd) → result ≡ over_of r → ReadsBehind viewer r0 w0 r3 w3 after result
  reads_behind more given_first given given_last wrote empty result is =
      let k = read_adds r1 r2 viewer r before after t in record {
        seen = met_same r2 w1 r3 w3 last;
        goes_on = goes_further w0 w1 w3 (met_goes_on _ _ _ _ first.other) (met_goes_on _ _ _ _ last.other);
        mine = now_mine _ _ _ _ last.other ∙ now_mine _ _ _ _ first.other;
        own = own_last.1 ∙ own_first.1;
        reads = k.reads;
        are_reads = are_reads viewer k.reads k.few;
        reader = own_last.0 ∙ (k.own ∙ ap (λ (es : List Entry). k.reads ++ es) own_first.0);
        more = more;
        given = given_last ∙ (given ∙ ap (λ (xs : List Instr). xs ++ more) given_first);
        text_is = wrote ∙ ap (λ (bs : List ℕ). bs ++ texts more) empty;
        end = ends_as result is;
      }
