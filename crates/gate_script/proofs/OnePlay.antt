-- The lines and the frames fix the play, and what its lines answer.
use Rattle.std.proofs.Common.{◌≡◌, ℕ, List, [], ◌∷◌, ◌++◌, true, false, ◌⊎◌, inl, inr, refl, ap, sym, ◌∙◌, subst, append_assoc}
use Rattle.std.specs.Prelude.{Some, Result}
use Rattle.std.proofs.lemmas.List.{append_cancel_left}
use Rattle.gate_model.specs.declared.act.Act.{Act}
use Rattle.gate_model.specs.declared.answer.Answer.{Answer}
use Rattle.gate_model.specs.declared.answer.Answer.TheVariants.{Write as was_written}
use Rattle.gate_model.specs.declared.cause.Cause.TheVariants.{Stopped}
use Rattle.gate_model.specs.declared.entry.Entry.{Entry}
use Rattle.gate_model.specs.declared.event.Event.{Event}
use Rattle.gate_model.specs.declared.event.Event.TheVariants.{Feed as feed, Join as join_in, Read as read_as, Write as write_acts, Resize as resize_to, Take as take_most, Leave as leave_as, Close as close_for}
use Rattle.gate_model.specs.declared.setup.Setup.{Setup}
use Rattle.gate_model.specs.declared.write_refusal.WriteRefusal.{WriteRefusal}
use Rattle.gate_model.specs.declared.written.Written.{Written}
use Rattle.gate_model.specs.picture.Layers.{Same as AreAlike}
use Rattle.gate_model.specs.session.History.{History}
use Rattle.script_grammar.specs.declared.line.Line.{Line}
use Rattle.script_grammar.specs.declared.line.Line.TheVariants.{Blank as blank, Bad as bad, At as moment, Start as start, Server as server, Join as join, Read as read, Write as write, Resize as resize, Take as take_up_to, Leave as leave, Close as close, Pixel as pixel, Same as same, Acknowledge as acknowledge, Done as done, Press as press_key, Totals as tell_totals}
use Rattle.script_grammar.specs.declared.totals.Totals.{Totals}
use Rattle.script_grammar.specs.declared.order.Order.{Order}
use Rattle.script_grammar.specs.declared.reading.Reading.{Reading}
use Rattle.script_grammar.specs.declared.reading.Reading.TheVariants.{Whole, Cut, Bad, TooMany}
use Rattle.script_grammar.specs.Lines.{line_in, told_by}
use Rattle.gate_script.specs.Told.{answer_to, differ_line, framings, same_line, write_answer}
use Rattle.gate_script.specs.Plays.{Play, Plays, Does, DoesReading, Begins, Calls, Answers, Compares, Writes, acknowledgement, seen, TellsTotals, press}
use Rattle.gate_script.proofs.OneReading.{reading_same}
use Rattle.gate_script.proofs.OneStep.{start_same, step_same}

-- two plays that came to the same, and told the same
pub record IsOne (p q : Play) (a b f g : List ℕ) : Type 0 where
  pub play : p ≡ q
  pub answer : a ≡ b
  pub framing : f ≡ g

some_text : (a b : List ℕ) → Some a ≡ Some b → a ≡ b
some_text a b e = cc

written_is : (r s : Result Written WriteRefusal) → was_written r ≡ was_written s → r ≡ s
written_is r s e = cc

-- ---- one line, done twice after one play

module _ (p q q' : Play) (a a' f f' x y : List ℕ) where
  answers_same : (r : Play) (answer answer' : List ℕ) → answer ≡ answer' → Answers r q answer a f → Answers r q' answer' a' f' → IsOne q q' a a' f f'
  answers_same r answer answer' e one other = record { play = one.same ∙ sym other.same; answer = one.answered ∙ (e ∙ sym other.answered); framing = one.framed ∙ sym other.framed }

  calls_same : (event : Event) → Calls event p q a f → Calls event p q' a' f' → f ++ x ≡ f' ++ y → IsOne q q' a a' f f'
  calls_same event one other e =
      let w = step_same p.history event one.result other.result one.added other.added x y one.step other.step (ap (λ (l : List ℕ). l ++ x) (sym one.framed) ∙ (e ∙ ap (λ (l : List ℕ). l ++ y) other.framed)) in
      record {
        play = one.after_it ∙ (ap (λ (es : List Entry). record { now = p.now; history = es ++ p.history }) w.1 ∙ sym other.after_it);
        answer = some_text a a' (sym one.told ∙ (ap (λ (r : Answer). answer_to r event) w.0 ∙ other.told));
        framing = one.framed ∙ (ap (framings p.history) w.1 ∙ sym other.framed);
      }

  writes_same : (viewer : ℕ) (acts : List Act) (passed : ℕ) → Writes viewer acts passed p q a f → Writes viewer acts passed p q' a' f' → f ++ x ≡ f' ++ y → IsOne q q' a a' f f'
  writes_same viewer acts passed one other e =
      let w = step_same p.history (write_acts viewer acts) (was_written one.result) (was_written other.result) one.added other.added x y one.step other.step (ap (λ (l : List ℕ). l ++ x) (sym one.framed) ∙ (e ∙ ap (λ (l : List ℕ). l ++ y) other.framed)) in
      record {
        play = one.after_it ∙ (ap (λ (es : List Entry). record { now = p.now; history = es ++ p.history }) w.1 ∙ sym other.after_it);
        answer = some_text a a' (sym one.told ∙ (ap (λ (r : Result Written WriteRefusal). write_answer r passed) (written_is one.result other.result w.0) ∙ other.told));
        framing = one.framed ∙ (ap (framings p.history) w.1 ∙ sym other.framed);
      }

  begins_same : (setup : Setup) → Begins setup p q a f → Begins setup p q' a' f' → f ++ x ≡ f' ++ y → IsOne q q' a a' f f'
  begins_same setup one other e =
      let entry = start_same setup p.now one.entry other.entry x y one.step other.step (ap (λ (l : List ℕ). l ++ x) (sym one.framed) ∙ (e ∙ ap (λ (l : List ℕ). l ++ y) other.framed)) in
      record {
        play = one.after_it ∙ (ap (λ (k : Entry). record { now = p.now; history = k ∷ [] }) entry ∙ sym other.after_it);
        answer = one.answered ∙ sym other.answered;
        framing = one.framed ∙ (ap (λ (k : Entry). framings [] (k ∷ [])) entry ∙ sym other.framed);
      }

  by_reading : (reading : Reading) (viewer : ℕ) → DoesReading reading viewer p q a f → DoesReading reading viewer p q' a' f' → f ++ x ≡ f' ++ y → IsOne q q' a a' f f'
  by_reading (Whole acts passed) viewer one other e = writes_same viewer acts passed one other e
  by_reading (Cut place) viewer one other e = answers_same p _ _ refl one other
  by_reading (Bad at) viewer one other e = answers_same p _ _ refl one other
  by_reading TooMany viewer one other e = absurd one

  -- whether two viewers see the same has one answer
  compared : (h : History) (one other : ℕ) (b c : List ℕ) → Compares h one other b → Compares h one other c → b ≡ c
  compared h one other b c (inl u) (inl w) = u.1 ∙ sym w.1
  compared h one other b c (inl u) (inr w) = absurd (let e : false ≡ true = sym u.0 ∙ w.0 in cc)
  compared h one other b c (inr u) (inl w) = absurd (let e : false ≡ true = sym w.0 ∙ u.0 in cc)
  compared h one other b c (inr u) (inr w) = by u.1 w.1
    where
      by : (AreAlike (seen h one) (seen h other) × (b ≡ same_line)) ⊎ ((AreAlike (seen h one) (seen h other) → ⊥) × (b ≡ differ_line))
          → (AreAlike (seen h one) (seen h other) × (c ≡ same_line)) ⊎ ((AreAlike (seen h one) (seen h other) → ⊥) × (c ≡ differ_line)) → b ≡ c
      by (inl s) (inl t) = s.1 ∙ sym t.1
      by (inl s) (inr t) = absurd (t.0 s.0)
      by (inr s) (inl t) = absurd (s.0 t.0)
      by (inr s) (inr t) = s.1 ∙ sym t.1

  -- the totals have one answer
  totalled : (totals : Totals) (h : History) (b c : List ℕ) → TellsTotals totals h b → TellsTotals totals h c → b ≡ c
  totalled totals h b c (inl u) (inl w) = u.1 ∙ sym w.1
  totalled totals h b c (inl u) (inr w) = absurd (w.0 u.0)
  totalled totals h b c (inr u) (inl w) = absurd (u.0 w.0)
  totalled totals h b c (inr u) (inr w) = u.1 ∙ sym w.1

  pub does_same : (line : Line) → Does line p q a f → Does line p q' a' f' → f ++ x ≡ f' ++ y → IsOne q q' a a' f f'
  does_same blank one other e = answers_same p _ _ refl one other
  does_same bad one other e = absurd one
  does_same (moment now) one other e = answers_same (record { now = now; history = p.history }) _ _ refl one other
  does_same (start size mode entries) one other e = begins_same _ one other e
  does_same (server bytes) one other e = calls_same (feed bytes p.now) one other e
  does_same (join asked) one other e = calls_same (join_in asked) one other e
  does_same (read viewer) one other e = calls_same (read_as viewer) one other e
  does_same (write viewer text) one other e =
      by_reading one.0 viewer one.2 (subst (λ (r : Reading). DoesReading r viewer p q' a' f') (sym (reading_same text one.0 other.0 one.1 other.1)) other.2) e
  does_same (resize viewer size) one other e = calls_same (resize_to viewer size.cols size.rows) one other e
  does_same (take_up_to most) one other e = calls_same (take_most most) one other e
  does_same (leave viewer) one other e = calls_same (leave_as viewer) one other e
  does_same close one other e = calls_same (close_for Stopped) one other e
  does_same (pixel viewer across down) one other e = answers_same p _ _ refl one other
  does_same (same left right) one other e = answers_same p one.0 other.0 (compared p.history left right one.0 other.0 one.1 other.1) one.2 other.2
  does_same (acknowledge viewer) one other e = writes_same viewer (acknowledgement p.history) 0 one other e
  does_same done one other e = answers_same p _ _ refl one other
  does_same (press_key viewer keysym) one other e = writes_same viewer (press keysym) 0 one other e
  does_same (tell_totals totals) one other e = answers_same p one.0 other.0 (totalled totals p.history one.0 other.0 one.1 other.1) one.2 other.2

-- ---- all orders

-- what the frames of the first orders are, where the frames of all begin alike
begin_alike : (before own before' own' f f' x y : List ℕ) → f ≡ before ++ own → f' ≡ before' ++ own' → f ++ x ≡ f' ++ y → before ++ (own ++ x) ≡ before' ++ (own' ++ y)
begin_alike before own before' own' f f' x y is is' e =
    sym (append_assoc before own x) ∙ (ap (λ (l : List ℕ). l ++ x) (sym is) ∙ (e ∙ (ap (λ (l : List ℕ). l ++ y) is' ∙ append_assoc before' own' y)))

pub behind : (before before' own own' : List ℕ) → before ++ own ≡ before' ++ own' → before ≡ before' → own ≡ own'
behind before before' own own' e same_before = append_cancel_left before own own' (e ∙ ap (λ (l : List ℕ). l ++ own') (sym same_before))

pub plays_same : (orders : List Order) (q q' : Play) (a a' f f' bytes bytes' x y : List ℕ) → Plays orders q a f bytes → Plays orders q' a' f' bytes' → f ++ x ≡ f' ++ y → IsOne q q' a a' f f'
plays_same [] q q' a a' f f' bytes bytes' x y w v e = record { play = w.0 ∙ sym v.0; answer = w.1 ∙ sym v.1; framing = w.2 ∙ sym v.2 }
plays_same (order ∷ orders) q q' a a' f f' bytes bytes' x y w v e =
    let alike = begin_alike w.2 w.5.own_f v.2 v.5.own_f f f' x y w.5.framed v.5.framed e in
    let so_far = plays_same orders w.0 v.0 w.1 v.1 w.2 v.2 w.3 v.3 (w.5.own_f ++ x) (v.5.own_f ++ y) w.4 v.4 alike in
    let own = does_same w.0 q q' w.5.answer v.5.answer w.5.own_f v.5.own_f x y (line_in order) w.5.does (subst (λ (k : Play). Does (line_in order) k q' v.5.answer v.5.own_f) (sym so_far.play) v.5.does) (behind w.2 v.2 (w.5.own_f ++ x) (v.5.own_f ++ y) alike so_far.framing) in
    record {
      play = own.play;
      answer = w.5.answered ∙ (ap (λ (l : List ℕ). l ++ told_by order w.5.answer) so_far.answer ∙ (ap (λ (l : List ℕ). v.1 ++ told_by order l) own.answer ∙ sym v.5.answered));
      framing = w.5.framed ∙ (ap (λ (l : List ℕ). l ++ w.5.own_f) so_far.framing ∙ (ap (λ (l : List ℕ). v.2 ++ l) own.framing ∙ sym v.5.framed));
    }
