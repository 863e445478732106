-- After a fault of a sink, what a script read and wrote fixes its history but for the newest entry.
use Rattle.std.proofs.Common.{◌≡◌, ℕ, List, [], ◌∷◌, ◌++◌, ◌⊎◌, inl, inr, length, refl, ap, sym, ◌∙◌, subst, append_assoc, append-nil, length-append, arith}
use Rattle.std.specs.Prelude.{Option}
use Rattle.gate_model.specs.Sequences.{BeginsWith, IsLater}
use Rattle.gate_model.specs.declared.act.Act.{Act}
use Rattle.gate_model.specs.declared.answer.Answer.{Answer}
use Rattle.gate_model.specs.declared.answer.Answer.TheVariants.{Write as was_written}
use Rattle.gate_model.specs.declared.entry.Entry.{Entry}
use Rattle.gate_model.specs.declared.event.Event.{Event}
use Rattle.gate_model.specs.declared.event.Event.TheVariants.{Write as write_acts}
use Rattle.gate_model.specs.session.Calls.{Step}
use Rattle.gate_model.specs.session.History.{History}
use Rattle.script_grammar.specs.declared.text_form.TextForm.TheVariants.{Script}
use Rattle.script_grammar.specs.declared.line.Line.{Line}
use Rattle.script_grammar.specs.declared.line.Line.TheVariants.{Blank as blank, Bad as bad, At as moment, Start as start, Server as server, Join as join, Read as read, Write as write, Resize as resize, Take as take_up_to, Leave as leave, Close as close, Pixel as pixel, Same as same, Acknowledge as acknowledge, Done as done, Press as press_key, Totals as tell_totals}
use Rattle.script_grammar.specs.declared.order.Order.{Order}
use Rattle.script_grammar.specs.declared.reading.Reading.{Reading}
use Rattle.script_grammar.specs.declared.reading.Reading.TheVariants.{Whole, Cut, Bad, TooMany}
use Rattle.script_grammar.specs.Grammar.{all_lines}
use Rattle.script_grammar.specs.Lines.{line_in, told_by}
use Rattle.script_grammar.specs.Grammar.{most_of}
use Rattle.script_grammar.specs.Pieces.{all_pieces}
use Rattle.std.specs.Prelude.{reverse}
use Rattle.gate_script.specs.declared.refused.Refused.{Refused}
use Rattle.gate_script.specs.Laws.{AgreeButForTheNewest, EndsByFault, HasOneMore, WriteFaultFixesAllButTheNewest}
use Rattle.gate_script.specs.Outcomes.{CutShort, EndsInNewest, IsRefused, LastCutShort}
use Rattle.gate_script.specs.Plays.{Calls, Does, DoesReading, Play, Plays, Writes}
use Rattle.gate_script.proofs.OnePlay.{behind, does_same, plays_same}
use Rattle.gate_script.proofs.OneRun.{AreTold, began, both_none, first_of_all, none_behind, one_ends_the_other, refused_not_done, told_front, told_rest, told_scripts}

-- ---- a line adds one entry at most

step_adds : (h : History) (event : Event) (r : Answer) (added : List Entry) → Step h event r added → HasOneMore h (added ++ h)
step_adds h event r [] s = inl refl
step_adds h event r (e ∷ []) s = inr (e, refl)
step_adds h event r (e ∷ d ∷ es) s = absurd s.1

module _ (p q : Play) (a f : List ℕ) where
  play_adds : (r : Play) → q ≡ r → HasOneMore p.history r.history → HasOneMore p.history q.history
  play_adds r e more = subst (λ (k : Play). HasOneMore p.history k.history) (sym e) more

  call_adds : (event : Event) → Calls event p q a f → HasOneMore p.history q.history
  call_adds event w = play_adds _ w.after_it (step_adds p.history event w.result w.added w.step)

  write_adds : (viewer passed : ℕ) (acts : List Act) → Writes viewer acts passed p q a f → HasOneMore p.history q.history
  write_adds viewer passed acts w = play_adds _ w.after_it (step_adds p.history (write_acts viewer acts) (was_written w.result) w.added w.step)

  reading_adds : (reading : Reading) (viewer : ℕ) → DoesReading reading viewer p q a f → HasOneMore p.history q.history
  reading_adds (Whole acts passed) viewer w = write_adds viewer passed acts w
  reading_adds (Cut place) viewer w = play_adds _ w.same (inl refl)
  reading_adds (Bad at) viewer w = play_adds _ w.same (inl refl)
  reading_adds TooMany viewer w = absurd w

  pub line_adds : (line : Line) → Does line p q a f → HasOneMore p.history q.history
  line_adds blank w = play_adds _ w.same (inl refl)
  line_adds bad w = absurd w
  line_adds (moment now) w = play_adds _ w.same (inl refl)
  line_adds (start size mode entries) w = play_adds _ w.after_it (inr (w.entry, ap (λ (h : History). w.entry ∷ h) (sym w.fresh)))
  line_adds (server bytes) w = call_adds _ w
  line_adds (join asked) w = call_adds _ w
  line_adds (read viewer) w = call_adds _ w
  line_adds (write viewer text) w = reading_adds w.0 viewer w.2
  line_adds (resize viewer size) w = call_adds _ w
  line_adds (take_up_to most) w = call_adds _ w
  line_adds (leave viewer) w = call_adds _ w
  line_adds close w = call_adds _ w
  line_adds (pixel viewer x y) w = play_adds _ w.same (inl refl)
  line_adds (same one other) w = play_adds _ w.2.same (inl refl)
  line_adds (acknowledge viewer) w = write_adds viewer 0 _ w
  line_adds done w = play_adds _ w.same (inl refl)
  line_adds (press_key viewer keysym) w = write_adds viewer 0 _ w
  line_adds (tell_totals totals) w = play_adds _ w.2.same (inl refl)

-- ---- where a fault of a sink came

-- the last of some orders
record Split (orders : List Order) : Type 0 where
  more : List Order
  last : Order
  is : orders ≡ more ++ last ∷ []

split : (order : Order) (orders : List Order) → Split (order ∷ orders)
split order [] = record { more = []; last = order; is = refl }
split order (next ∷ orders) = let s = split next orders in record { more = order ∷ s.more; last = s.last; is = ap (λ (l : List Order). order ∷ l) s.is }

-- lists of one length that end the same list
same_end : (all xs ys : List Order) → IsLater xs all → IsLater ys all → length xs ≡ length ys → xs ≡ ys
same_end all xs ys p q n = by (one_ends_the_other p.0 q.0 xs ys (sym p.1 ∙ q.1))
  where
    none : (more zs ws : List Order) → ws ≡ more ++ zs → length zs ≡ length ws → zs ≡ ws
    none [] zs ws e n = sym e
    none (m ∷ more) zs ws e n = absurd (omega (arith, n, ap length e, length-append more zs))

    by : IsLater xs ys ⊎ IsLater ys xs → xs ≡ ys
    by (inl more) = none more.0 xs ys more.1 n
    by (inr more) = sym (none more.0 ys xs more.1 (sym n))

module _ (all : List Order) (a f : List ℕ) where
  -- the order behind these was cut short
  record CutOrder (full : List Order) (p q : Play) (own_a own_f : List ℕ) : Type 0 where
    order : Order
    first : IsLater (order ∷ full) all
    answer : List ℕ
    framing : List ℕ
    does : Does (line_in order) p q answer framing
    answer_begins : BeginsWith (told_by order answer) own_a
    framing_begins : BeginsWith framing own_f

  -- it was refused
  record RefusedOrder (full : List Order) (p q : Play) : Type 0 where
    order : Order
    refused : Refused
    first : IsLater (order ∷ full) all
    is_refused : IsRefused refused order full p
    still : q ≡ p

  -- nothing was told of it
  record NoOrder (p q : Play) (own_a : List ℕ) : Type 0 where
    still : q ≡ p
    none : own_a ≡ []

  -- all was written of these orders, and some of the one behind them, which led to q
  record Fault (q : Play) : Type 0 where
    full : List Order
    first : IsLater full all
    play : Play
    told_a : List ℕ
    told_f : List ℕ
    taken : List ℕ
    plays : Plays full play told_a told_f taken
    own_a : List ℕ
    own_f : List ℕ
    answered : a ≡ told_a ++ own_a
    framed : f ≡ told_f ++ own_f
    ends : CutOrder full play q own_a own_f ⊎ (RefusedOrder full play q ⊎ NoOrder play q own_a)

  near : (q : Play) (w : Fault q) → HasOneMore w.play.history q.history
  near q w = by w.ends
    where
      by : CutOrder w.full w.play q w.own_a w.own_f ⊎ (RefusedOrder w.full w.play q ⊎ NoOrder w.play q w.own_a) → HasOneMore w.play.history q.history
      by (inl c) = line_adds w.play q c.answer c.framing (line_in c.order) c.does
      by (inr (inl c)) = inl (ap (λ (k : Play). k.history) c.still)
      by (inr (inr c)) = inl (ap (λ (k : Play). k.history) c.still)

  -- in one run all of more orders was told
  module _ (told_all : AreTold all) (p q : Play) (one : Fault p) (other : Fault q) where
    told_other : AreTold other.full
    told_other = told_rest other.first.0 other.full (subst AreTold other.first.1 told_all)

    -- they answered nothing
    none_more : (k : List Order) → other.full ≡ k ++ one.full → one.own_a ≡ [] → one.play ≡ other.play
    none_more k is none =
        let w = began k one.full other.play other.told_a other.told_f other.taken (subst (λ (l : List Order). Plays l other.play other.told_a other.told_f other.taken) is other.plays) in
        let framed : f ≡ w.told_f ++ (w.rest_f ++ other.own_f) = other.framed ∙ (ap (λ (l : List ℕ). l ++ other.own_f) w.framed ∙ append_assoc w.told_f w.rest_f other.own_f) in
        let answered : a ≡ w.told_a ++ (w.rest_a ++ other.own_a) = other.answered ∙ (ap (λ (l : List ℕ). l ++ other.own_a) w.answered ∙ append_assoc w.told_a w.rest_a other.own_a) in
        let here = plays_same one.full one.play w.play one.told_a w.told_a one.told_f w.told_f one.taken w.bytes one.own_f (w.rest_f ++ other.own_f) one.plays w.plays (sym one.framed ∙ framed) in
        let rest : one.own_a ≡ w.rest_a ++ other.own_a = behind one.told_a w.told_a one.own_a (w.rest_a ++ other.own_a) (sym one.answered ∙ answered) here.answer in
        here.play ∙ w.still (told_front k one.full (subst AreTold is told_other)) (both_none w.rest_a other.own_a (sym rest ∙ none)).0

    -- the first of them is the one that the other run cut short, or refused
    some_more : (k : List Order) (n : Order) → other.full ≡ k ++ (n ∷ one.full) → CutOrder one.full one.play p one.own_a one.own_f ⊎ RefusedOrder one.full one.play p → p ≡ other.play
    some_more k n is how =
        let w = began k (n ∷ one.full) other.play other.told_a other.told_f other.taken (subst (λ (l : List Order). Plays l other.play other.told_a other.told_f other.taken) is other.plays) in
        let d = w.plays in
        let tail_a : List ℕ = w.rest_a ++ other.own_a in
        let tail_f : List ℕ = w.rest_f ++ other.own_f in
        let framed : f ≡ d.2 ++ (d.5.own_f ++ tail_f) = far f other.told_f other.own_f w.told_f w.rest_f d.2 d.5.own_f other.framed w.framed d.5.framed in
        let answered : a ≡ d.1 ++ (told_by n d.5.answer ++ tail_a) = far a other.told_a other.own_a w.told_a w.rest_a d.1 (told_by n d.5.answer) other.answered w.answered d.5.answered in
        let here = plays_same one.full one.play d.0 one.told_a d.1 one.told_f d.2 one.taken d.3 one.own_f (d.5.own_f ++ tail_f) one.plays d.4 (sym one.framed ∙ framed) in
        let rest_a : one.own_a ≡ told_by n d.5.answer ++ tail_a = behind one.told_a d.1 one.own_a (told_by n d.5.answer ++ tail_a) (sym one.answered ∙ answered) here.answer in
        let rest_f : one.own_f ≡ d.5.own_f ++ tail_f = behind one.told_f d.2 one.own_f (d.5.own_f ++ tail_f) (sym one.framed ∙ framed) here.framing in
        let does : Does (line_in n) one.play w.play d.5.answer d.5.own_f = subst (λ (r : Play). Does (line_in n) r w.play d.5.answer d.5.own_f) (sym here.play) d.5.does in
        let there : IsLater (n ∷ one.full) all = (other.first.0 ++ k, other.first.1 ∙ (ap (λ (l : List Order). other.first.0 ++ l) is ∙ sym (append_assoc other.first.0 k (n ∷ one.full)))) in
        by w.play d.5.answer d.5.own_f tail_a tail_f does there rest_a rest_f (λ none. w.still (told_front k (n ∷ one.full) (subst AreTold is told_other)) (both_none w.rest_a other.own_a none).0) how
      where
        far : (l told own first rest before mine : List ℕ) → l ≡ told ++ own → told ≡ first ++ rest → first ≡ before ++ mine → l ≡ before ++ (mine ++ (rest ++ own))
        far l told own first rest before mine x y z =
            x ∙ (ap (λ (t : List ℕ). t ++ own) y ∙ (append_assoc first rest own ∙ (ap (λ (t : List ℕ). t ++ (rest ++ own)) z ∙ append_assoc before mine (rest ++ own))))

        head_is : (x y : Order) (xs ys : List Order) → x ∷ xs ≡ y ∷ ys → x ≡ y
        head_is x y xs ys e = cc

        by : (r : Play) (answer own_f tail_a tail_f : List ℕ) → Does (line_in n) one.play r answer own_f → IsLater (n ∷ one.full) all → one.own_a ≡ told_by n answer ++ tail_a → one.own_f ≡ own_f ++ tail_f
            → (tail_a ≡ [] → r ≡ other.play) → CutOrder one.full one.play p one.own_a one.own_f ⊎ RefusedOrder one.full one.play p → p ≡ other.play
        by r answer own_f tail_a tail_f does there rest_a rest_f still (inl c) =
            let order : c.order ≡ n = head_is c.order n one.full one.full (same_end all (c.order ∷ one.full) (n ∷ one.full) c.first there refl) in
            let mine : Does (line_in n) one.play p c.answer c.framing = subst (λ (o : Order). Does (line_in o) one.play p c.answer c.framing) order c.does in
            let alike : c.framing ++ [] ≡ own_f ++ (tail_f ++ c.framing_begins.0) =
            append-nil c.framing ∙ (c.framing_begins.1 ∙ (ap (λ (l : List ℕ). l ++ c.framing_begins.0) rest_f ∙ append_assoc own_f tail_f c.framing_begins.0)) in
            let s = does_same one.play p r c.answer answer c.framing own_f [] (tail_f ++ c.framing_begins.0) (line_in n) mine does alike in
            let all_of : told_by n answer ++ (tail_a ++ c.answer_begins.0) ≡ told_by n answer =
            sym (append_assoc (told_by n answer) tail_a c.answer_begins.0)
            ∙ (ap (λ (l : List ℕ). l ++ c.answer_begins.0) (sym rest_a) ∙ (sym c.answer_begins.1 ∙ (ap (λ (o : Order). told_by o c.answer) order ∙ ap (told_by n) s.answer))) in
            s.play ∙ still (both_none tail_a c.answer_begins.0 (none_behind (told_by n answer) (tail_a ++ c.answer_begins.0) all_of)).0
        by r answer own_f tail_a tail_f does there rest_a rest_f still (inr c) =
            let order : c.order ≡ n = head_is c.order n one.full one.full (same_end all (c.order ∷ one.full) (n ∷ one.full) c.first there refl) in
            refused_not_done one.play r answer own_f c.refused n one.full (subst (λ (o : Order). IsRefused c.refused o one.full one.play) order c.is_refused) does

    agree : IsLater one.full other.full → AgreeButForTheNewest p.history q.history
    agree more = by more.0 more.1
      where
        by : (k : List Order) → other.full ≡ k ++ one.full → AgreeButForTheNewest p.history q.history
        by [] is =
            let here = plays_same one.full one.play other.play one.told_a other.told_a one.told_f other.told_f one.taken other.taken one.own_f other.own_f one.plays
            (subst (λ (l : List Order). Plays l other.play other.told_a other.told_f other.taken) is other.plays) (sym one.framed ∙ other.framed) in
            (one.play.history, near p one, subst (λ (k : Play). HasOneMore k.history q.history) (sym here.play) (near q other))
        by (m ∷ more) is = (other.play.history, inl (ap (λ (k : Play). k.history) (by_end one.ends)), near q other)
          where
            s : Split (m ∷ more)
            s = split m more

            split_is : other.full ≡ s.more ++ (s.last ∷ one.full)
            split_is = is ∙ (ap (λ (l : List Order). l ++ one.full) s.is ∙ append_assoc s.more (s.last ∷ []) one.full)

            by_end : CutOrder one.full one.play p one.own_a one.own_f ⊎ (RefusedOrder one.full one.play p ⊎ NoOrder one.play p one.own_a) → p ≡ other.play
            by_end (inl c) = some_more s.more s.last split_is (inl c)
            by_end (inr (inl c)) = some_more s.more s.last split_is (inr c)
            by_end (inr (inr c)) = c.still ∙ none_more (m ∷ more) is c.none

-- ---- the two kinds of fault

swap : (h k : History) → AgreeButForTheNewest h k → AgreeButForTheNewest k h
swap h k w = (w.0, w.2, w.1)

module _ (entries : ℕ) (bytes a f : List ℕ) (left : Option (List ℕ)) where
  shorter : (o : Order) (orders all : List Order) → IsLater (o ∷ orders) all → IsLater orders all
  shorter o orders all p = (p.0 ++ o ∷ [], p.1 ∙ sym (append_assoc p.0 (o ∷ []) orders))

  cut_short : (orders : List Order) (q : Play) (told_a told_f taken : List ℕ) → IsLater orders (all_lines (Script entries) bytes) → Plays orders q told_a told_f taken → EndsInNewest orders q a f → Fault (all_lines (Script entries) bytes) a f q
  cut_short [] q told_a told_f taken first w n = record { full = []; first = first; play = q; told_a = []; told_f = []; taken = []; plays = (w.0, refl, refl, refl); own_a = a; own_f = f; answered = refl; framed = refl; ends = inr (inr (record { still = refl; none = n.0 })) }
  cut_short (o ∷ orders) q told_a told_f taken first w n = record {
    full = orders;
    first = shorter o orders (all_lines (Script entries) bytes) first;
    play = n.before;
    told_a = n.before_a;
    told_f = n.before_f;
    taken = n.before_bytes;
    plays = n.plays;
    own_a = n.own_a;
    own_f = n.own_f;
    answered = n.answered;
    framed = n.framed;
    ends = inl (record { order = o; first = first; answer = n.answer; framing = n.framing; does = n.does; answer_begins = n.answer_begins; framing_begins = n.framing_begins });
  }

  fault_cut : (w : CutShort (Script entries) bytes a f left) → Fault (all_lines (Script entries) bytes) a f w.play
  fault_cut w = cut_short w.lines w.play w.answers w.framings w.tells.bytes (first_of_all (Script entries) bytes left w.lines w.first) w.tells.plays w.newest

  fault_last : (w : LastCutShort (Script entries) bytes a f left) → Fault (all_lines (Script entries) bytes) a f w.refuses.play
  fault_last w =
      let r = w.refuses in
      let first = first_of_all (Script entries) bytes left (r.next ∷ r.lines) r.first in
      record {
        full = r.lines;
        first = shorter r.next r.lines (all_lines (Script entries) bytes) first;
        play = r.play;
        told_a = w.written;
        told_f = f;
        taken = r.tells.bytes;
        plays = r.tells.plays;
        own_a = w.own_a;
        own_f = [];
        answered = w.answered;
        framed = sym (append-nil f);
        ends = inr (inl (record { order = r.next; refused = w.refused; first = first; is_refused = r.is_refused; still = refl }));
      }

  fault_of : (p : Play) → EndsByFault (Script entries) bytes a f left p → Fault (all_lines (Script entries) bytes) a f p
  fault_of p (inl w) = subst (Fault (all_lines (Script entries) bytes) a f) w.1 (fault_cut w.0)
  fault_of p (inr w) = subst (Fault (all_lines (Script entries) bytes) a f) w.1 (fault_last w.0)

  fault_runs : (p q : Play) → Fault (all_lines (Script entries) bytes) a f p → Fault (all_lines (Script entries) bytes) a f q → AgreeButForTheNewest p.history q.history
  fault_runs p q one other = by (one_ends_the_other one.first.0 other.first.0 one.full other.full (sym one.first.1 ∙ other.first.1))
    where
      told_all : AreTold (all_lines (Script entries) bytes)
      told_all = told_scripts entries (reverse (all_pieces (most_of (Script entries)) bytes))

      by : IsLater one.full other.full ⊎ IsLater other.full one.full → AgreeButForTheNewest p.history q.history
      by (inl more) = agree (all_lines (Script entries) bytes) a f told_all p q one other more
      by (inr more) = swap q.history p.history (agree (all_lines (Script entries) bytes) a f told_all q p other one more)

pub faults_once : WriteFaultFixesAllButTheNewest
faults_once entries bytes a f left p q one other = fault_runs entries bytes a f left p q (fault_of entries bytes a f left p one) (fault_of entries bytes a f left q other)
