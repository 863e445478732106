-- Messages are answered, one after the other.
use Rattle.std.proofs.Common.{◌≡◌, ⊎_elim, ℕ, ◌≤◌, List, [], ◌∷◌, ◌++◌, length, Bool, true, false, true≢false, refl, ap, sym, ◌∙◌, subst, append-nil, append_assoc, length-append, arith}
use Rattle.std.specs.Prelude.{Contains, Option, Some, Ok, Err, if◌then◌else◌}
use Rattle.std.proofs.lemmas.Bool.{eq-eqb}
use Rattle.gate_model.specs.declared.act.Act.{Act}
use Rattle.gate_model.specs.declared.entry.Entry.{Entry}
use Rattle.gate_model.specs.declared.entry.Entry.TheVariants.{Write, Size}
use Rattle.gate_model.specs.declared.instr.Instr.{Instr}
use Rattle.gate_model.specs.session.Delivered.{delivered}
use Rattle.gate_model.specs.session.History.{History}
use Rattle.gate_model.specs.text.Text.{text, texts}
use Rattle.gate_model.specs.Sequences.{IsLater}
use Rattle.guac_handshake.specs.Asks.{cols_of, rows_of}
use Rattle.desk_core.proofs.FrameTexts.{texts-append}
use Rattle.turn_lock.specs.declared.view.View.{View}
use Rattle.turn_lock.proofs.Elements.{later_length, later_trans}
use Rattle.shared_desk.specs.Meetings.{written_by}
use Rattle.shared_desk.specs.Own.{entries_at, own_entries}
use Rattle.shared_desk.proofs.Meetings.{written_split}
use Rattle.viewer_acts.specs.Parts.{Others, Part, Sized, joined}
use Rattle.viewer_acts.specs.Doing.{Became, Did, GoesOn}
use Rattle.viewer_acts.proofs.Cuts.{joined_more}
use Rattle.viewer_acts.proofs.Doings.{did_earlier, did_longer, did_more, did_placed}
use Rattle.ws_tunnel.specs.Answered.{Answered, IsAnswered, WasRead}
use Rattle.ws_tunnel.specs.Heard.{AreMessages, IsMessage, asks_end, before_end, heard}
use Rattle.ws_tunnel.specs.Runs.{HasAnswered, HasRun, IsStart, NextRun, SoFar, joined_texts}
use Rattle.ws_tunnel.specs.declared.ends.WsEnd.{WsEnd}
use Rattle.ws_tunnel.proofs.Replies.{all_before}
use Rattle.ws_tunnel.proofs.Reading.{read_later}
use Rattle.shared_desk.proofs.Lasting.{reads_more}

-- ---- lists

pub joined_last : (ts : List (List ℕ)) (t : List ℕ) → joined_texts (ts ++ t ∷ []) ≡ joined_texts ts ++ t
joined_last [] t = append-nil t
joined_last (s ∷ ts) t = ap (λ (bs : List ℕ). s ++ bs) (joined_last ts t) ∙ sym (append_assoc s (joined_texts ts) t)

are_more : (ms : List (List ℕ)) (all : List (List Act)) (m : List ℕ) (acts : List Act) → AreMessages ms all → IsMessage m acts → asks_end acts ≡ false → AreMessages (ms ++ m ∷ []) (all ++ acts ∷ [])
are_more [] [] m acts k is asks = (is, asks, tt)
are_more (x ∷ ms) (a ∷ all) m acts k is asks = (k.0, k.1, are_more ms all m acts k.2 is asks)
are_more [] (a ∷ all) m acts k is asks = absurd k
are_more (x ∷ ms) [] m acts k is asks = absurd k

-- ---- what parts add was written by the viewer

write_by : (viewer : ℕ) (acts : List Act) → written_by viewer (Write viewer acts ∷ []) ≡ Write viewer acts ∷ []
write_by viewer acts = ap (λ (b : Bool). if b then Write viewer acts ∷ [] else []) (eq-eqb viewer viewer refl)

size_by : (viewer cols rows stamp : ℕ) (frame : List Instr) → written_by viewer (Size viewer cols rows stamp frame ∷ []) ≡ Size viewer cols rows stamp frame ∷ []
size_by viewer cols rows stamp frame = ap (λ (b : Bool). if b then Size viewer cols rows stamp frame ∷ [] else []) (eq-eqb viewer viewer refl)

became_by : (viewer : ℕ) (seen : History) (part : Part) (added : List Entry) → Became viewer seen part added → written_by viewer added ≡ added
became_by viewer seen (Others acts) added b = ap (written_by viewer) b ∙ (write_by viewer acts ∙ sym b)
became_by viewer seen (Sized size) [] b = refl
became_by viewer seen (Sized size) (e ∷ []) b =
    let is : e ∷ [] ≡ Size viewer (cols_of (Some size)) (rows_of (Some size)) b.0 b.1 ∷ [] = ap (λ (x : Entry). x ∷ []) b.2 in
    ap (written_by viewer) is ∙ (size_by viewer (cols_of (Some size)) (rows_of (Some size)) b.0 b.1 ∙ sym is)
became_by viewer seen (Sized size) (e ∷ x ∷ es) b = absurd b

pub only_both : (viewer : ℕ) (xs ys : List Entry) → written_by viewer xs ≡ xs → written_by viewer ys ≡ ys → written_by viewer (xs ++ ys) ≡ xs ++ ys
only_both viewer xs ys a b = written_split viewer xs ys ∙ (ap (λ (es : List Entry). es ++ written_by viewer ys) a ∙ ap (λ (es : List Entry). xs ++ es) b)

pub did_by : (viewer : ℕ) (mine : List ℕ) (own : List Entry) (before upto : History) (parts : List Part) (gained : List Entry) → Did viewer mine own before upto parts gained → written_by viewer gained ≡ gained
did_by viewer mine own before upto [] gained d = ap (written_by viewer) d.0 ∙ sym d.0
did_by viewer mine own before upto (part ∷ parts) gained d =
    ap (written_by viewer) d.4 ∙ (only_both viewer d.2 d.1 (did_by viewer mine (d.1 ++ own) d.0 upto parts d.2 d.5) (became_by viewer d.0 part d.1 d.3.became) ∙ sym d.4)

-- ---- answered messages

pub read_on : (viewer : ℕ) (written : List Entry) (found seen later : History) → IsLater seen later → WasRead viewer written found seen → WasRead viewer written found later
read_on viewer written found seen later l k = record { later = later_trans found seen later k.later l; all = k.all; read = read_later viewer found seen later l k.read }

module _ (viewer : ℕ) (mine : List ℕ) where
  one_longer : (own : List Entry) (before found seen later : History) (acts : List Act) (added : List Entry) → IsLater seen later → IsAnswered viewer mine own before found seen acts added → IsAnswered viewer mine own before found later acts added
  one_longer own before found seen later acts added l k = record { parts = k.parts; are_parts = k.are_parts; acts_are = k.acts_are; did = k.did; was_read = read_on viewer (added ++ own) found seen later l k.was_read }

  -- up to a later history
  answered_longer : (own : List Entry) (before seen later : History) (messages : List (List Act)) (last : List Part) (gained : List Entry) → IsLater seen later → Answered viewer mine own before seen messages last gained → Answered viewer mine own before later messages last gained
  answered_longer own before seen later [] last gained l k = did_longer viewer mine own before seen later last gained l k
  answered_longer own before seen later (acts ∷ messages) last gained l k =
      (k.0, k.1, k.2, one_longer own before k.0 seen later acts k.1 l k.3, k.4, answered_longer (k.1 ++ own) k.0 seen later messages last k.2 l k.5)

  -- with further places, all behind
  answered_placed : (places : List ℕ) (own : List Entry) (before seen : History) (messages : List (List Act)) (last : List Part) (gained : List Entry) → ((p : ℕ) → Contains places p → length seen ≤ p) → Answered viewer mine own before seen messages last gained → Answered viewer (places ++ mine) own before seen messages last gained
  answered_placed places own before seen [] last gained behind k = did_placed viewer mine places own before seen last gained behind k
  answered_placed places own before seen (acts ∷ messages) last gained behind k =
      let a = k.3 in
      let short : length k.0 ≤ length seen = later_length k.0 seen a.was_read.later in
      let one : IsAnswered viewer (places ++ mine) own before k.0 seen acts k.1 =
      record { parts = a.parts; are_parts = a.are_parts; acts_are = a.acts_are; did = did_placed viewer mine places own before k.0 a.parts k.1 (λ p c. omega (arith, short, behind p c)) a.did; was_read = a.was_read } in
      (k.0, k.1, k.2, one, k.4, answered_placed places (k.1 ++ own) k.0 seen messages last k.2 behind k.5)

  one_earlier : (own : List Entry) (first before found seen : History) (acts : List Act) (added : List Entry) → IsLater first before → IsAnswered viewer mine own before found seen acts added → IsAnswered viewer mine own first found seen acts added
  one_earlier own first before found seen acts added l k = record { parts = k.parts; are_parts = k.are_parts; acts_are = k.acts_are; did = did_earlier viewer mine own first before found k.parts added l k.did; was_read = k.was_read }

  -- and then one more
  answered_more : (own : List Entry) (before upto found seen : History) (messages : List (List Act)) (gained : List Entry) (acts : List Act) (added : List Entry) → IsLater upto seen → Answered viewer mine own before upto messages [] gained → IsAnswered viewer mine (gained ++ own) upto found seen acts added
      → Answered viewer mine own before seen (messages ++ acts ∷ []) [] (added ++ gained)
  answered_more own before upto found seen [] gained acts added l k a =
      let here : IsAnswered viewer mine own upto found seen acts added = subst (λ (es : List Entry). IsAnswered viewer mine (es ++ own) upto found seen acts added) k.0 a in
      (found, added, [], one_earlier own before upto found seen acts added k.1 here, ap (λ (es : List Entry). added ++ es) k.0 ∙ append-nil added, (refl, here.was_read.later))
  answered_more own before upto found seen (first ∷ messages) gained acts added l k a =
      let regrouped : (gained ++ own) ≡ (k.2 ++ (k.1 ++ own)) = ap (λ (es : List Entry). es ++ own) k.4 ∙ append_assoc k.2 k.1 own in
      let rest = answered_more (k.1 ++ own) k.0 upto found seen messages k.2 acts added l k.5 (subst (λ (es : List Entry). IsAnswered viewer mine es upto found seen acts added) regrouped a) in
      (k.0, k.1, added ++ k.2, one_longer own before k.0 upto seen first k.1 l k.3, ap (λ (es : List Entry). added ++ es) k.4 ∙ sym (append_assoc added k.2 k.1), rest)

  -- and then parts that weren't answered
  pub answered_last : (own : List Entry) (before upto seen : History) (messages : List (List Act)) (gained : List Entry) (last : List Part) (added : List Entry) → IsLater upto seen → Answered viewer mine own before upto messages [] gained → Did viewer mine (gained ++ own) upto seen last added
      → Answered viewer mine own before seen messages last (added ++ gained)
  answered_last own before upto seen [] gained last added l k d = did_more viewer mine own before upto seen [] last gained added k d
  answered_last own before upto seen (first ∷ messages) gained last added l k d =
      let regrouped : (gained ++ own) ≡ (k.2 ++ (k.1 ++ own)) = ap (λ (es : List Entry). es ++ own) k.4 ∙ append_assoc k.2 k.1 own in
      let rest = answered_last (k.1 ++ own) k.0 upto seen messages k.2 last added l k.5 (subst (λ (es : List Entry). Did viewer mine es upto seen last added) regrouped d) in
      (k.0, k.1, added ++ k.2, one_longer own before k.0 upto seen first k.1 l k.3, ap (λ (es : List Entry). added ++ es) k.4 ∙ sym (append_assoc added k.2 k.1), rest)

-- ---- what they ask together

abbrev pub all_acts : List (List Act) → List Act
all_acts [] = []
all_acts (acts ∷ messages) = acts ++ all_acts messages

-- all parts that were done
pub record AllParts (viewer : ℕ) (mine : List ℕ) (own : List Entry) (before seen : History) (messages : List (List Act)) (last : List Part) (gained : List Entry) : Type 0 where
  pub parts : List Part
  pub acts_are : joined parts ≡ all_acts messages ++ joined last
  pub did : Did viewer mine own before seen parts gained

pub all_parts : (viewer : ℕ) (mine : List ℕ) (own : List Entry) (before seen : History) (messages : List (List Act)) (last : List Part) (gained : List Entry) → Answered viewer mine own before seen messages last gained → AllParts viewer mine own before seen messages last gained
all_parts viewer mine own before seen [] last gained k = record { parts = last; acts_are = refl; did = k }
all_parts viewer mine own before seen (acts ∷ messages) last gained k =
    let a = k.3 in
    let rest = all_parts viewer mine (k.1 ++ own) k.0 seen messages last k.2 k.5 in
    record {
      parts = a.parts ++ rest.parts;
      acts_are = joined_more a.parts rest.parts ∙ (ap (λ (xs : List Act). xs ++ joined rest.parts) a.acts_are ∙ (ap (λ (xs : List Act). acts ++ xs) rest.acts_are ∙ sym (append_assoc acts (all_acts messages) (joined last))));
      did = subst (λ (es : List Entry). Did viewer mine own before seen (a.parts ++ rest.parts) es) (sym k.4) (did_more viewer mine own before k.0 seen a.parts rest.parts k.1 k.2 a.did rest.did);
    }

none_either : (b : Bool) → (let none : List Act = [] in if b then none else none) ≡ []
none_either true = refl
none_either false = refl

heard_one : (acts : List Act) → heard (acts ∷ []) ≡ before_end acts
heard_one acts = ap (λ (xs : List Act). before_end acts ++ xs) (none_either (asks_end acts)) ∙ append-nil (before_end acts)

pub heard_all : (ms : List (List ℕ)) (all : List (List Act)) (acts : List Act) → AreMessages ms all → heard (all ++ acts ∷ []) ≡ all_acts all ++ before_end acts
heard_all [] [] acts k = heard_one acts
heard_all (m ∷ ms) (a ∷ all) acts k =
    ap (λ (b : Bool). before_end a ++ (if b then [] else heard (all ++ acts ∷ []))) k.1
    ∙ (ap (λ (xs : List Act). xs ++ heard (all ++ acts ∷ [])) (all_before a k.1) ∙ (ap (λ (xs : List Act). a ++ xs) (heard_all ms all acts k.2) ∙ sym (append_assoc a (all_acts all) (before_end acts))))
heard_all [] (a ∷ all) acts k = absurd k
heard_all (m ∷ ms) [] acts k = absurd k

-- while the writer's pass goes on
pub answered_placed_on : (viewer : ℕ) (start : History) (w x : View Entry) (messages : List (List Act)) (last : List Part) (gained : List Entry) → GoesOn w x → Answered viewer w.mine [] start w.seen messages last gained → Answered viewer x.mine [] start w.seen messages last gained
answered_placed_on viewer start w x messages last gained g k =
    subst (λ (ps : List ℕ). Answered viewer ps [] start w.seen messages last gained) (sym g.mine) (answered_placed viewer w.mine g.places [] start w.seen messages last gained g.behind k)

pub answered_on : (viewer : ℕ) (start : History) (w x : View Entry) (messages : List (List Act)) (last : List Part) (gained : List Entry) → GoesOn w x → Answered viewer w.mine [] start w.seen messages last gained → Answered viewer x.mine [] start x.seen messages last gained
answered_on viewer start w x messages last gained g k = answered_longer viewer x.mine [] start w.seen x.seen messages last gained g.later (answered_placed_on viewer start w x messages last gained g k)

-- ---- so far

no_entries : (h : History) → entries_at [] h ≡ []
no_entries [] = refl
no_entries (e ∷ h) = no_entries h

pub own_none : (v : View Entry) → v.mine ≡ [] → own_entries v ≡ []
own_none v none = ap (λ (ps : List ℕ). entries_at ps v.seen) none ∙ no_entries v.seen

pub far_none : (viewer : ℕ) (r w : View Entry) (first : List ℕ) → IsStart viewer r w first → SoFar viewer r.seen r w first [] []
far_none viewer r w first s = record {
  seen = s.seen;
  later = ([], sym s.seen);
  counted = refl;
  messages = [];
  are = tt;
  gained = [];
  only = refl;
  writes = (refl, ([], sym s.seen));
  writer = own_none w s.none.1;
  reads = [];
  are_reads = tt;
  reader = own_none r s.none.0;
  text = append-nil first ∙ s.text;
  going = s.going;
}

module _ (viewer : ℕ) (start : History) (r w : View Entry) (first : List ℕ) (received sent : List (List ℕ)) (s : SoFar viewer start r w first received sent) (r_now w_now : View Entry) where
  far_on : (message text : List ℕ) (acts : List Act) → IsMessage message acts → asks_end acts ≡ false → HasAnswered viewer r w r_now w_now acts text false → SoFar viewer start r_now w_now first (received ++ message ∷ []) (sent ++ text ∷ [])
  far_on message text acts is asks k =
      let none : k.lost ≡ [] = ⊎_elim (λ n. n) (λ over. absurd (true≢false (sym over.0))) k.loses in
      let all : joined k.parts ≡ acts = sym (k.acts_are ∙ (ap (λ (xs : List Act). joined k.parts ++ xs) none ∙ append-nil (joined k.parts))) in
      let own : own_entries w ≡ s.gained ++ [] = s.writer ∙ sym (append-nil s.gained) in
      let by = did_by viewer w_now.mine (own_entries w) w.seen k.found k.parts k.gained k.did in
      let only = only_both viewer k.gained s.gained by s.only in
      let written : written_by viewer (k.gained ++ own_entries w) ≡ k.gained ++ (s.gained ++ []) =
      ap (λ (es : List Entry). written_by viewer (k.gained ++ es)) s.writer ∙ (only ∙ ap (λ (es : List Entry). k.gained ++ es) (sym (append-nil s.gained))) in
      let one : IsAnswered viewer w_now.mine (s.gained ++ []) w.seen k.found w_now.seen acts k.gained = record {
        parts = k.parts;
        are_parts = k.are_parts;
        acts_are = all;
        did = subst (λ (es : List Entry). Did viewer w_now.mine es w.seen k.found k.parts k.gained) own k.did;
        was_read = subst (λ (es : List Entry). WasRead viewer es k.found w_now.seen) written k.was_read;
      } in record {
        seen = k.seen;
        later = later_trans start w.seen w_now.seen s.later k.goes_on.later;
        counted = omega (arith, length-append sent (text ∷ []), length-append received (message ∷ []), s.counted);
        messages = s.messages ++ acts ∷ [];
        are = are_more received s.messages message acts s.are is asks;
        gained = k.gained ++ s.gained;
        only = only;
        writes = answered_more viewer w_now.mine [] start w.seen k.found w_now.seen s.messages s.gained acts k.gained k.goes_on.later (answered_placed_on viewer start w w_now s.messages [] s.gained k.goes_on s.writes) one;
        writer = k.own ∙ ap (λ (es : List Entry). k.gained ++ es) s.writer;
        reads = k.reads ++ s.reads;
        are_reads = reads_more viewer k.reads s.reads k.are_reads s.are_reads;
        reader = k.reader ∙ ap (λ (es : List Entry). k.reads ++ es) s.reader;
        text = ap (λ (bs : List ℕ). first ++ bs) (joined_last sent text) ∙ (sym (append_assoc first (joined_texts sent) text) ∙ (ap (λ (bs : List ℕ). bs ++ text) s.text ∙ (ap (λ (bs : List ℕ). texts (delivered r.seen viewer) ++ bs) k.text_is ∙ (sym (texts-append (delivered r.seen viewer) k.more) ∙ ap texts (sym k.given)))));
        going = k.over_is;
      }

  -- the viewer is the one at the beginning
  pub far_next : (n : ℕ) (left : Option (List (List ℕ))) (came told : List (List ℕ)) (done : Unit {0}) → n ≡ viewer → NextRun n r w r_now w_now left came told (Ok done) → SoFar viewer start r_now w_now first (received ++ came) (sent ++ told)
  far_next n left came told done same given_k =
      let k : NextRun viewer r w r_now w_now left came told (Ok done) = subst (λ (m : ℕ). NextRun m r w r_now w_now left came told (Ok done)) same given_k in
      subst (λ (ms : List (List ℕ)). SoFar viewer start r_now w_now first (received ++ ms) (sent ++ told)) (sym k.3)
      (subst (λ (ts : List (List ℕ)). SoFar viewer start r_now w_now first (received ++ k.0 ∷ []) (sent ++ ts)) (sym k.4) (far_on k.0 k.1 k.2 k.5 k.6 k.7))

  pub far_last : (n : ℕ) (left : Option (List (List ℕ))) (came told : List (List ℕ)) (end : WsEnd) → n ≡ viewer → NextRun n r w r_now w_now left came told (Err end) → HasRun viewer start r_now w_now first left (received ++ came) (sent ++ told) end
  far_last n left came told end same given_k =
      let k : NextRun viewer r w r_now w_now left came told (Err end) = subst (λ (m : ℕ). NextRun m r w r_now w_now left came told (Err end)) same given_k in
      record { r_then = r; w_then = w; answered = received; texts_then = sent; so_far = s; last = k.0; texts_last = told; stopped = k.2; received_are = ap (λ (ms : List (List ℕ)). received ++ ms) k.1; sent_are = refl }
