-- The bytes that the takes of a run print are the first ones that its history sends to the host.
use Rattle.std.proofs.Common.{◌≡◌, ℕ, ◌+◌, ◌≤◌, ◌/◌, ◌%◌, List, [], ◌∷◌, ◌++◌, length, take, Bool, true, false, ◌⊎◌, inl, inr, refl, ap, sym, ◌∙◌, subst, append-nil, arith, length-append, length-take, length-drop}
use Rattle.std.specs.Prelude.{Some, min, ◌==◌, if◌then◌else◌, nat_lt, codes}
use Rattle.std.proofs.Math.Nat.{div-add-mod}
use Rattle.std.proofs.Math.Seq.{take-add}
use Rattle.std.proofs.lemmas.List.{append_cancel_left, take-append-le, take_min}
use Rattle.std.proofs.lemmas.Bool.Decides.{nat_tests}
use Rattle.gate_model.specs.declared.act.Act.{Act}
use Rattle.gate_model.specs.declared.cause.Cause.TheVariants.{Stopped}
use Rattle.gate_model.specs.declared.answer.Answer.{Answer}
use Rattle.gate_model.specs.declared.answer.Answer.TheVariants.{Write as was_written, Take as was_taken}
use Rattle.gate_model.specs.declared.entry.Entry.{Entry}
use Rattle.gate_model.specs.declared.entry.Entry.TheVariants.{Take}
use Rattle.gate_model.specs.declared.event.Event.{Event}
use Rattle.gate_model.specs.declared.event.Event.TheVariants.{Feed as feed, Join as join_in, Read as read_as, Write as write_acts, Resize as resize_to, Take as take_most, Leave as leave_as, Close as close_for}
use Rattle.gate_model.specs.declared.setup.Setup.{Setup}
use Rattle.gate_model.specs.session.Entries.{taken_by}
use Rattle.gate_model.specs.session.History.{History, is_closed}
use Rattle.gate_model.specs.session.Output.{out, sent, taken, untaken}
use Rattle.gate_model.specs.session.Calls.{Step, take_entry}
use Rattle.script_grammar.specs.declared.reading.Reading.{Reading}
use Rattle.script_grammar.specs.declared.reading.Reading.TheVariants.{Whole, Cut, Bad, TooMany}
use Rattle.script_grammar.specs.Hexadecimal.{digits_of, lower_digit}
use Rattle.script_grammar.specs.declared.line.Line.{Line}
use Rattle.script_grammar.specs.declared.line.Line.TheVariants.{Blank as blank, Bad as bad, At as moment, Start as start, Server as server, Join as join, Read as read, Write as write, Resize as resize, Take as take_up_to, Leave as leave, Close as close, Pixel as pixel, Same as same, Acknowledge as acknowledge, Done as done, Press as press_key, Totals as tell_totals}
use Rattle.script_grammar.specs.declared.order.Order.{Order}
use Rattle.script_grammar.specs.Lines.{line_in}
use Rattle.gate_script.specs.Told.{answer_to, taken_text, took_line}
use Rattle.gate_script.proofs.StepLaws.{take_is}
use Rattle.gate_script.specs.Plays.{Play, Plays, Does, DoesReading, Begins, Calls, Answers, Writes, Prints, IsLawful, Tells, acknowledgement, press}

both : {A : Type 0} (x y : A) (xs ys : List A) → x ∷ xs ≡ y ∷ ys → (x ≡ y) × (xs ≡ ys)
both x y xs ys e = (cc, cc)

-- a digit tells its value, and is no line feed or dash
digit-is : (m n : ℕ) → lower_digit m ≡ lower_digit n → m ≡ n
digit-is m n e = grind (arith, nat_tests)

digit-large : (n : ℕ) → 48 ≤ lower_digit n
digit-large n = by (nat_lt n 10)
  where
    by : (b : Bool) → 48 ≤ (if b then n + 48 else n + 87)
    by true = omega arith
    by false = omega arith

byte-is : (m n : ℕ) → m / 16 ≡ n / 16 → m % 16 ≡ n % 16 → m ≡ n
byte-is m n e f = sym (div-add-mod m 16) ∙ (omega (arith, e, f) ∙ div-add-mod n 16)

-- an answer of a take tells its bytes
digits-are : (xs ys : List ℕ) → digits_of xs ++ 10 ∷ [] ≡ digits_of ys ++ 10 ∷ [] → xs ≡ ys
digits-are [] [] e = refl
digits-are [] (y ∷ ys) e = absurd (omega (arith, (both 10 (lower_digit (y / 16)) [] (lower_digit (y % 16) ∷ digits_of ys ++ 10 ∷ []) e).0, digit-large (y / 16)))
digits-are (x ∷ xs) [] e = absurd (omega (arith, (both (lower_digit (x / 16)) 10 (lower_digit (x % 16) ∷ digits_of xs ++ 10 ∷ []) [] e).0, digit-large (x / 16)))
digits-are (x ∷ xs) (y ∷ ys) e =
    let first = both (lower_digit (x / 16)) (lower_digit (y / 16)) (lower_digit (x % 16) ∷ digits_of xs ++ 10 ∷ []) (lower_digit (y % 16) ∷ digits_of ys ++ 10 ∷ []) e in
    let second = both (lower_digit (x % 16)) (lower_digit (y % 16)) (digits_of xs ++ 10 ∷ []) (digits_of ys ++ 10 ∷ []) first.1 in
    let head : x ≡ y = byte-is x y (digit-is (x / 16) (y / 16) first.0) (digit-is (x % 16) (y % 16) second.0) in
    ap (λ (b : ℕ). b ∷ xs) head ∙ ap (λ (l : List ℕ). y ∷ l) (digits-are xs ys second.1)

took-is : (xs ys : List ℕ) → took_line xs ≡ took_line ys → xs ≡ ys
took-is xs ys e = texts-are xs ys (append_cancel_left (codes "took ") (taken_text xs ++ 10 ∷ []) (taken_text ys ++ 10 ∷ []) e)
  where
    texts-are : (xs ys : List ℕ) → taken_text xs ++ 10 ∷ [] ≡ taken_text ys ++ 10 ∷ [] → xs ≡ ys
    texts-are [] [] e = refl
    texts-are [] (y ∷ ys) e = absurd (omega (arith, (both 45 (lower_digit (y / 16)) (10 ∷ []) (lower_digit (y % 16) ∷ digits_of ys ++ 10 ∷ []) e).0, digit-large (y / 16)))
    texts-are (x ∷ xs) [] e = absurd (omega (arith, (both (lower_digit (x / 16)) 45 (lower_digit (x % 16) ∷ digits_of xs ++ 10 ∷ []) (10 ∷ []) e).0, digit-large (x / 16)))
    texts-are (x ∷ xs) (y ∷ ys) e = digits-are (x ∷ xs) (y ∷ ys) e

-- the answer of a take that handed these bytes out
handed : (most : ℕ) (bytes : List ℕ) (closed : Bool) (r : Answer) (a : List ℕ) → r ≡ was_taken bytes closed → answer_to r (take_most most) ≡ Some a → a ≡ took_line bytes
handed most bytes closed r a is told = let line_is : Some (took_line bytes) ≡ Some a = subst (λ (x : Answer). answer_to x (take_most most) ≡ Some a) is told in cc

-- what a line prints
pub printed : (line : Line) (p q : Play) (a f : List ℕ) → Does line p q a f → (bytes : List ℕ) × Prints line a bytes
printed (take_up_to most) p q a f calls = (take most (untaken p.history), handed most (take most (untaken p.history)) (is_closed p.history) calls.result a (take_is p.history most calls.result calls.added calls.step).told calls.told)
printed line p q a f does = ([], refl)

-- these are the first bytes that the history sends, as many as it took
record AreSent (h : History) (bytes : List ℕ) : Type 0 where
  first : bytes ≡ take (taken h) (out h)
  there : taken h ≤ length (out h)

-- an entry that takes nothing
sent_still : (h : History) (e : Entry) (bytes : List ℕ) → taken_by e ≡ 0 → AreSent h bytes → AreSent (e ∷ h) bytes
sent_still h e bytes none s =
    let count : taken h ≡ taken h + taken_by e = omega (arith, none) in
    record {
      first = s.first ∙ (sym (take-append-le (taken h) (out h) (sent h e) s.there) ∙ ap (λ (n : ℕ). take n (out h ++ sent h e)) count);
      there = omega (arith, none, s.there, length-append (out h) (sent h e));
    }

-- a take that hands these bytes out
sent_more : (h : History) (most : ℕ) (bytes own : List ℕ) → own ≡ take most (untaken h) → AreSent h bytes → AreSent (take_entry (length own) ++ h) (bytes ++ own)
sent_more h most bytes own is s = by (length own == 0) (λ z. is_zero (length own) z)
  where
    is_zero : (n : ℕ) → (n == 0) ≡ true → n ≡ 0
    is_zero n e = grind (arith, nat_tests)

    empty : (l : List ℕ) → length l ≡ 0 → [] ≡ l
    empty [] e = refl
    empty (x ∷ xs) e = absurd (omega (arith, e))

    count : length own ≡ min most (length (untaken h))
    count = ap length is ∙ length-take most (untaken h)

    whole : own ≡ take (length own) (untaken h)
    whole = is ∙ (sym (take_min most (untaken h)) ∙ ap (λ (n : ℕ). take n (untaken h)) (sym count))

    by : (b : Bool) → (b ≡ true → length own ≡ 0) → AreSent ((if b then [] else Take (length own) ∷ []) ++ h) (bytes ++ own)
    by true z = subst (λ (l : List ℕ). AreSent h (bytes ++ l)) (empty own (z refl)) (subst (AreSent h) (sym (append-nil bytes)) s)
    by false z = record {
      first = ap (λ (l : List ℕ). l ++ own) s.first ∙ (ap (λ (l : List ℕ). take (taken h) (out h) ++ l) whole ∙ (sym (take-add (taken h) (length own) (out h)) ∙ ap (take (taken h + length own)) (sym (append-nil (out h)))));
      there = omega (arith, s.there, count, length-drop (taken h) (out h), length-append (out h) []);
    }

-- none or one entry, which takes nothing
abbrev TakesNone : List Entry → Type 0
TakesNone added = (added ≡ []) ⊎ ((e : Entry) × (added ≡ e ∷ []) × (taken_by e ≡ 0))

abbrev IsNoTake : Event → Type 0
IsNoTake (take_most most) = ⊥
IsNoTake event = Unit {0}

takes_none : (h : History) (event : Event) (r : Answer) (added : List Entry) → IsNoTake event → Step h event r added → TakesNone added
takes_none h event r [] other s = inl refl
takes_none h (feed bytes now) r (e ∷ []) other s = inr (e, refl, ap taken_by s.1.1.4)
takes_none h (join_in asked) r (e ∷ []) other s = inr (e, refl, ap taken_by s.1.1.5)
takes_none h (read_as viewer) r (e ∷ []) other s = inr (e, refl, ap taken_by s.1.1.3)
takes_none h (write_acts viewer acts) r (e ∷ []) other s = inr (e, refl, ap taken_by s.1.1.1)
takes_none h (resize_to viewer cols rows) r (e ∷ []) other s = inr (e, refl, ap taken_by s.1.1.4)
takes_none h (leave_as viewer) r (e ∷ []) other s = inr (e, refl, ap taken_by s.1.1.1)
takes_none h (close_for cause) r (e ∷ []) other s = inr (e, refl, ap taken_by s.1.1.1)
takes_none h (take_most most) r (e ∷ []) other s = absurd other
takes_none h event r (e ∷ f ∷ es) other s = absurd s.1

none_added : (h : History) (added : List Entry) (bytes : List ℕ) → TakesNone added → AreSent h bytes → AreSent (added ++ h) bytes
none_added h added bytes (inl e) s = subst (λ (l : List Entry). AreSent (l ++ h) bytes) (sym e) s
none_added h added bytes (inr w) s = subst (λ (l : List Entry). AreSent (l ++ h) bytes) (sym w.1) (sent_still h w.0 bytes w.2 s)

module _ (bytes own : List ℕ) where
  none_printed : (h : History) → own ≡ [] → AreSent h bytes → AreSent h (bytes ++ own)
  none_printed h none s = subst (AreSent h) (sym (ap (λ (l : List ℕ). bytes ++ l) none ∙ append-nil bytes)) s

  answers_send : (p q : Play) (answer a f : List ℕ) → Answers p q answer a f → own ≡ [] → AreSent p.history bytes → AreSent q.history (bytes ++ own)
  answers_send p q answer a f answers none s = subst (λ (k : Play). AreSent k.history (bytes ++ own)) (sym answers.same) (none_printed p.history none s)

  calls_send : (event : Event) (p q : Play) (a f : List ℕ) → IsNoTake event → Calls event p q a f → own ≡ [] → AreSent p.history bytes → AreSent q.history (bytes ++ own)
  calls_send event p q a f other calls none s =
      subst (λ (k : Play). AreSent k.history (bytes ++ own)) (sym calls.after_it)
      (none_printed (calls.added ++ p.history) none (none_added p.history calls.added bytes (takes_none p.history event calls.result calls.added other calls.step) s))

  begins_send : (setup : Setup) (p q : Play) (a f : List ℕ) → Begins setup p q a f → own ≡ [] → AreSent p.history bytes → AreSent q.history (bytes ++ own)
  begins_send setup p q a f begins none s =
      let before : AreSent [] bytes = subst (λ (h : History). AreSent h bytes) begins.fresh s in
      subst (λ (k : Play). AreSent k.history (bytes ++ own)) (sym begins.after_it)
      (none_printed (begins.entry ∷ []) none (sent_still [] begins.entry bytes (ap taken_by begins.step.4) before))

  acts_send : (viewer : ℕ) (acts : List Act) (passed : ℕ) (p q : Play) (a f : List ℕ) → Writes viewer acts passed p q a f → own ≡ [] → AreSent p.history bytes → AreSent q.history (bytes ++ own)
  acts_send viewer acts passed p q a f writes none s =
      subst (λ (k : Play). AreSent k.history (bytes ++ own)) (sym writes.after_it)
      (none_printed (writes.added ++ p.history) none (none_added p.history writes.added bytes (takes_none p.history (write_acts viewer acts) (was_written writes.result) writes.added tt writes.step) s))

  writes_send : (reading : Reading) (viewer : ℕ) (p q : Play) (a f : List ℕ) → DoesReading reading viewer p q a f → own ≡ [] → AreSent p.history bytes → AreSent q.history (bytes ++ own)
  writes_send (Whole acts passed) viewer p q a f writes none s = acts_send viewer acts passed p q a f writes none s
  writes_send (Cut place) viewer p q a f answers none s = subst (λ (k : Play). AreSent k.history (bytes ++ own)) (sym answers.same) (none_printed p.history none s)
  writes_send (Bad at) viewer p q a f answers none s = subst (λ (k : Play). AreSent k.history (bytes ++ own)) (sym answers.same) (none_printed p.history none s)
  writes_send TooMany viewer p q a f no_line none s = absurd no_line

  take_sends : (most : ℕ) (p q : Play) (a f : List ℕ) → Calls (take_most most) p q a f → a ≡ took_line own → AreSent p.history bytes → AreSent q.history (bytes ++ own)
  take_sends most p q a f calls prints s =
      let is = take_is p.history most calls.result calls.added calls.step in
      let given : List ℕ = take most (untaken p.history) in
      let line_is : a ≡ took_line given = handed most given (is_closed p.history) calls.result a is.told calls.told in
      let own_is : given ≡ own = took-is given own (sym line_is ∙ prints) in
      subst (λ (k : Play). AreSent k.history (bytes ++ own)) (sym calls.after_it)
      (subst (λ (l : List Entry). AreSent (l ++ p.history) (bytes ++ own)) (sym is.adds)
      (subst (λ (l : List ℕ). AreSent (take_entry (length given) ++ p.history) (bytes ++ l)) own_is (sent_more p.history most bytes given refl s)))

  -- one line
  line_sends : (line : Line) (p q : Play) (a f : List ℕ) → Does line p q a f → Prints line a own → AreSent p.history bytes → AreSent q.history (bytes ++ own)
  line_sends blank p q a f does none s = answers_send p q [] a f does none s
  line_sends bad p q a f does none s = absurd does
  line_sends (moment now) p q a f does none s = subst (λ (k : Play). AreSent k.history (bytes ++ own)) (sym does.same) (none_printed p.history none s)
  line_sends (start size mode entries) p q a f does none s = begins_send _ p q a f does none s
  line_sends (server piece) p q a f does none s = calls_send (feed piece p.now) p q a f tt does none s
  line_sends (join asked) p q a f does none s = calls_send (join_in asked) p q a f tt does none s
  line_sends (read viewer) p q a f does none s = calls_send (read_as viewer) p q a f tt does none s
  line_sends (write viewer text) p q a f does none s = writes_send does.0 viewer p q a f does.2 none s
  line_sends (resize viewer size) p q a f does none s = calls_send (resize_to viewer size.cols size.rows) p q a f tt does none s
  line_sends (take_up_to most) p q a f does prints s = take_sends most p q a f does prints s
  line_sends (leave viewer) p q a f does none s = calls_send (leave_as viewer) p q a f tt does none s
  line_sends close p q a f does none s = calls_send (close_for Stopped) p q a f tt does none s
  line_sends (pixel viewer x y) p q a f does none s = subst (λ (k : Play). AreSent k.history (bytes ++ own)) (sym does.same) (none_printed p.history none s)
  line_sends (same one other) p q a f does none s = answers_send p q does.0 a f does.2 none s
  line_sends (acknowledge viewer) p q a f does none s = acts_send viewer (acknowledgement p.history) 0 p q a f does none s
  line_sends done p q a f does none s = subst (λ (k : Play). AreSent k.history (bytes ++ own)) (sym does.same) (none_printed p.history none s)
  line_sends (press_key viewer keysym) p q a f does none s = acts_send viewer (press keysym) 0 p q a f does none s
  line_sends (tell_totals totals) p q a f does none s = answers_send p q does.0 a f does.2 none s

sends : (orders : List Order) (q : Play) (a f bytes : List ℕ) → Plays orders q a f bytes → AreSent q.history bytes
sends [] q a f bytes w = subst (λ (k : Play). AreSent k.history bytes) (sym w.0) (record { first = w.3; there = omega arith })
sends (order ∷ orders) q a f bytes w =
    subst (AreSent q.history) (sym w.5.joined) (line_sends w.3 w.5.own_bytes (line_in order) w.0 q w.5.answer w.5.own_f w.5.does w.5.prints (sends orders w.0 w.1 w.2 w.3 w.4))

-- so the history fixes them
pub taken_first : (orders : List Order) (q : Play) (a f bytes : List ℕ) → Plays orders q a f bytes → bytes ≡ take (taken q.history) (out q.history)
taken_first orders q a f bytes plays = (sends orders q a f bytes plays).first

-- the orders tell what they told, where the history is legal and true
pub tells : (orders : List Order) (p : Play) (a f bytes : List ℕ) → Plays orders p a f bytes → IsLawful p.history → Tells orders p a f
tells orders p a f bytes plays lawful = record { bytes = bytes; plays = plays; lawful = lawful; sent_on = taken_first orders p a f bytes plays }
