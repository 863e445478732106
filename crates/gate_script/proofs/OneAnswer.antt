-- A line that answers nothing does nothing.
use Rattle.std.proofs.Common.{◌≡◌, ℕ, ◌≤◌, List, [], ◌∷◌, ◌++◌, inl, inr, Bool, true, false, length, ap, sym, ◌∙◌, subst, length-append, arith}
use Rattle.std.specs.Prelude.{Option, Some, None, Result, Ok, Err, codes, decimal, flat_map, if◌then◌else◌}
use Rattle.canvas.specs.declared.dot.Dot.{Dot}
use Rattle.canvas.specs.declared.dot.Dot.TheVariants.{Outside, Clear, Painted}
use Rattle.gate_model.specs.declared.act.Act.{Act}
use Rattle.gate_model.specs.declared.answer.Answer.{Answer}
use Rattle.gate_model.specs.declared.answer.Answer.TheVariants.{Feed as fed, Join as joined_as, Read as was_read, Write as was_written, Resize as was_resized, Take as was_taken, Leave as was_left, Close as was_closed}
use Rattle.gate_model.specs.declared.event.Event.{Event}
use Rattle.gate_model.specs.declared.event.Event.TheVariants.{Feed as feed, Join as join_in, Read as read_as, Write as write_acts, Resize as resize_to, Take as take_most, Leave as leave_as, Close as close_for}
use Rattle.gate_model.specs.declared.feed_refusal.FeedRefusal.TheVariants.{Closed as feed_closed, Worn as feed_worn, NoMemory as feed_no_memory}
use Rattle.gate_model.specs.declared.join_refusal.JoinRefusal.TheVariants.{Closed as join_closed, Worn as join_worn, Forbidden, TooMany as too_many_viewers, NoMemory as join_no_memory}
use Rattle.gate_model.specs.declared.read_answer.ReadAnswer.TheVariants.{Frames, Fresh, Ended, Empty, Hold}
use Rattle.gate_model.specs.declared.read_refusal.ReadRefusal.TheVariants.{NoViewer as read_no_viewer, Worn as read_worn, NoMemory as read_no_memory}
use Rattle.gate_model.specs.declared.resize_refusal.ResizeRefusal.TheVariants.{NoViewer as resize_no_viewer, Closed as resize_closed, Denied, Same, Worn as resize_worn, NoMemory as resize_no_memory}
use Rattle.gate_model.specs.declared.write_refusal.WriteRefusal.{WriteRefusal}
use Rattle.gate_model.specs.declared.write_refusal.WriteRefusal.TheVariants.{NoViewer as write_no_viewer, Closed as write_closed, Worn as write_worn, NoMemory as write_no_memory}
use Rattle.gate_model.specs.declared.written.Written.{Written}
use Rattle.gate_model.specs.session.History.{History}
use Rattle.gate_model.specs.session.Rights.{is_live}
use Rattle.guac_framing.specs.declared.next.BadAt.{BadAt}
use Rattle.script_grammar.specs.declared.line.Line.{Line}
use Rattle.script_grammar.specs.declared.totals.Totals.{Totals}
use Rattle.script_grammar.specs.declared.line.Line.TheVariants.{Blank as blank, Bad as bad, At as moment, Start as start, Server as server, Join as join, Read as read, Write as write, Resize as resize, Take as take_up_to, Leave as leave, Close as close, Pixel as pixel, Same as same, Acknowledge as acknowledge, Done as done, Press as press_key, Totals as tell_totals}
use Rattle.script_grammar.specs.declared.reading.Reading.{Reading}
use Rattle.script_grammar.specs.declared.reading.Reading.TheVariants.{Whole, Cut, Bad, TooMany}
use Rattle.gate_script.specs.Plays.{Answers, Calls, Compares, Does, DoesReading, Play, TellsTotals, Writes}
use Rattle.gate_script.specs.Told.{answer_line, answer_to, bad_text_line, blank_and, given_line, kind_word, pixel_line, taken_text, took_line, totals_lines, write_answer}

-- ---- every answer has some bytes

answer_some : (word ns : List ℕ) → 1 ≤ length (answer_line word ns)
unfolding answer_line
answer_some word ns = omega (arith, length-append (word ++ flat_map blank_and ns) (10 ∷ []))

given_some : (word ns : List ℕ) (closed : Bool) → 1 ≤ length (given_line word ns closed)
unfolding given_line
given_some word ns closed = omega (arith, length-append (word ++ flat_map blank_and ns ++ (if closed then codes " closed" else [])) (10 ∷ []))

took_some : (bytes : List ℕ) → 1 ≤ length (took_line bytes)
took_some bytes = omega (arith, length-append (codes "took " ++ taken_text bytes) (10 ∷ []))

bad_some : (at : BadAt) → 1 ≤ length (bad_text_line at)
bad_some at = omega (arith, length-append (codes "bad" ++ 32 ∷ decimal at.place ++ 32 ∷ kind_word at.kind) (10 ∷ []))

pixel_some : (dot : Dot) → 1 ≤ length (pixel_line dot)
pixel_some Outside = answer_some _ _
pixel_some Clear = answer_some _ _
pixel_some (Painted colour) = answer_some _ _

abbrev HasBytes : Option (List ℕ) → Type 0
HasBytes None = Unit {0}
HasBytes (Some a) = 1 ≤ length a

call_some : (r : Answer) (event : Event) → HasBytes (answer_to r event)
call_some (fed (Ok stamp)) event = answer_some _ _
call_some (fed (Err (feed_closed cause))) event = answer_some _ _
call_some (fed (Err (feed_worn m))) event = tt
call_some (fed (Err feed_no_memory)) event = tt
call_some (joined_as (Ok joined)) event = answer_some _ _
call_some (joined_as (Err (join_closed cause))) event = answer_some _ _
call_some (joined_as (Err Forbidden)) event = answer_some _ _
call_some (joined_as (Err (too_many_viewers live joined))) event = answer_some _ _
call_some (joined_as (Err (join_worn m))) event = tt
call_some (joined_as (Err join_no_memory)) event = tt
call_some (was_read (Ok (Frames count stamp closed))) event = given_some _ _ _
call_some (was_read (Ok (Fresh stamp closed))) event = given_some _ _ _
call_some (was_read (Ok Ended)) event = answer_some _ _
call_some (was_read (Ok Empty)) event = answer_some _ _
call_some (was_read (Ok (Hold waiting))) event = answer_some _ _
call_some (was_read (Err read_no_viewer)) event = answer_some _ _
call_some (was_read (Err (read_worn m))) event = tt
call_some (was_read (Err read_no_memory)) event = tt
call_some (was_written (Ok counts)) event = answer_some _ _
call_some (was_written (Err write_no_viewer)) event = answer_some _ _
call_some (was_written (Err (write_closed cause))) event = answer_some _ _
call_some (was_written (Err (write_worn m))) event = tt
call_some (was_written (Err write_no_memory)) event = tt
call_some (was_resized (Ok stamp)) event = answer_some _ _
call_some (was_resized (Err resize_no_viewer)) event = answer_some _ _
call_some (was_resized (Err (resize_closed cause))) event = answer_some _ _
call_some (was_resized (Err Denied)) event = answer_some _ _
call_some (was_resized (Err Same)) event = answer_some _ _
call_some (was_resized (Err (resize_worn m))) event = tt
call_some (was_resized (Err resize_no_memory)) event = tt
call_some (was_taken bytes closed) event = took_some bytes
call_some (was_left (Ok u)) (leave_as viewer) = answer_some _ _
call_some (was_left (Err refusal)) (leave_as viewer) = answer_some _ _
call_some (was_left result) (feed bytes now) = tt
call_some (was_left result) (join_in asked) = tt
call_some (was_left result) (read_as viewer) = tt
call_some (was_left result) (write_acts viewer acts) = tt
call_some (was_left result) (resize_to viewer cols rows) = tt
call_some (was_left result) (take_most most) = tt
call_some (was_left result) (close_for cause) = tt
call_some (was_closed (Ok u)) event = answer_some _ _
call_some (was_closed (Err refusal)) event = answer_some _ _

written_some : (r : Result Written WriteRefusal) (passed : ℕ) → HasBytes (write_answer r passed)
written_some (Ok counts) passed = answer_some _ _
written_some (Err write_no_viewer) passed = answer_some _ _
written_some (Err (write_closed cause)) passed = answer_some _ _
written_some (Err (write_worn m)) passed = tt
written_some (Err write_no_memory) passed = tt

-- ---- so a line that answers nothing is blank

none_has_none : {A : Type 0} → (a : List ℕ) → 1 ≤ length a → a ≡ [] → A
none_has_none a some e = absurd (omega (arith, some, ap length e))

module _ (p q : Play) (a f : List ℕ) (none : a ≡ []) where
  told_some : {A : Type 0} → (r : Play) (answer : List ℕ) → 1 ≤ length answer → Answers r q answer a f → A
  told_some r answer some w = none_has_none answer some (sym w.answered ∙ none)

  called_some : {A : Type 0} → (event : Event) → Calls event p q a f → A
  called_some event w = none_has_none a (subst HasBytes w.told (call_some w.result event)) none

  wrote_some : {A : Type 0} → (viewer : ℕ) (passed : ℕ) (acts : List Act) → Writes viewer acts passed p q a f → A
  wrote_some viewer passed acts w = none_has_none a (subst HasBytes w.told (written_some w.result passed)) none

  read_some : {A : Type 0} → (reading : Reading) (viewer : ℕ) → DoesReading reading viewer p q a f → A
  read_some (Whole acts passed) viewer w = wrote_some viewer passed acts w
  read_some (Cut place) viewer w = told_some p _ (answer_some _ _) w
  read_some (Bad at) viewer w = told_some p _ (bad_some at) w
  read_some TooMany viewer w = absurd w

  looked_some : (b : Bool) (dot : Dot) (other : List ℕ) → 1 ≤ length other → 1 ≤ length (if b then pixel_line dot else other)
  looked_some true dot other some = pixel_some dot
  looked_some false dot other some = some

  compared_some : (h : History) (one other : ℕ) (answer : List ℕ) → Compares h one other answer → 1 ≤ length answer
  compared_some h one other answer (inl w) = subst (λ (l : List ℕ). 1 ≤ length l) (sym w.1) (answer_some _ _)
  compared_some h one other answer (inr w) = elim (w.1) as (λ _. 1 ≤ length answer) [
    | inl s ↦ subst (λ (l : List ℕ). 1 ≤ length l) (sym s.1) (answer_some _ _)
    | inr s ↦ subst (λ (l : List ℕ). 1 ≤ length l) (sym s.1) (answer_some _ _)
  ]

lines_some : (totals : Totals) (joins stamp sum : ℕ) (agree : Bool) → 1 ≤ length (totals_lines totals joins stamp sum agree)
lines_some totals joins stamp sum agree = longer _ _ (longer _ _ (longer _ _ (longer _ _ (longer _ _ (longer _ _ (answer_some _ _))))))
  where
    longer : (xs ys : List ℕ) → 1 ≤ length xs → 1 ≤ length (xs ++ ys)
    longer xs ys some = omega (arith, length-append xs ys, some)

totals_some : (totals : Totals) (h : History) (answer : List ℕ) → TellsTotals totals h answer → 1 ≤ length answer
totals_some totals h answer (inl w) = subst (λ (l : List ℕ). 1 ≤ length l) (sym w.1) (lines_some totals _ _ _ true)
totals_some totals h answer (inr w) = subst (λ (l : List ℕ). 1 ≤ length l) (sym w.1) (lines_some totals _ _ _ false)

pub silent : (line : Line) (p q : Play) (a f : List ℕ) → Does line p q a f → a ≡ [] → p ≡ q
silent blank p q a f does none = sym does.same
silent bad p q a f does none = absurd does
silent (moment now) p q a f does none = told_some p q a f none _ _ (answer_some _ _) does
silent (start size mode entries) p q a f does none = none_has_none _ (answer_some _ _) (sym does.answered ∙ none)
silent (server bytes) p q a f does none = called_some p q a f none _ does
silent (join asked) p q a f does none = called_some p q a f none _ does
silent (read viewer) p q a f does none = called_some p q a f none _ does
silent (write viewer text) p q a f does none = read_some p q a f none does.0 viewer does.2
silent (resize viewer size) p q a f does none = called_some p q a f none _ does
silent (take_up_to most) p q a f does none = called_some p q a f none _ does
silent (leave viewer) p q a f does none = called_some p q a f none _ does
silent close p q a f does none = called_some p q a f none _ does
silent (pixel viewer x y) p q a f does none = told_some p q a f none p _ (looked_some p q a f none (is_live p.history viewer) _ _ (answer_some _ _)) does
silent (same one other) p q a f does none = told_some p q a f none p does.0 (compared_some p q a f none p.history one other does.0 does.1) does.2
silent (acknowledge viewer) p q a f does none = wrote_some p q a f none viewer 0 _ does
silent done p q a f does none = told_some p q a f none _ _ (answer_some _ _) does
silent (press_key viewer keysym) p q a f does none = wrote_some p q a f none viewer 0 _ does
silent (tell_totals totals) p q a f does none = told_some p q a f none p does.0 (totals_some totals p.history does.0 does.1) does.2
