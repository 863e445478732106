-- What a run read and wrote fixes its play.
use Rattle.std.proofs.Common.{◌≡◌, ℕ, List, [], ◌∷◌, ◌++◌, ◌⊎◌, inl, inr, reverse, refl, ap, sym, ◌∙◌, subst, append_assoc, append-nil}
use Rattle.std.specs.Prelude.{Option, Some, None, Result, Ok, Err}
use Rattle.std.proofs.lemmas.List.{append_cancel_left, reverse-append}
use Rattle.gate_model.specs.Sequences.{IsLater}
use Rattle.gate_model.specs.declared.act.Act.{Act}
use Rattle.gate_model.specs.declared.answer.Answer.{Answer}
use Rattle.gate_model.specs.declared.answer.Answer.TheVariants.{Feed as fed, Join as joined_as, Read as was_read, Write as was_written, Resize as was_resized, Take as was_taken, Leave as was_left, Close as was_closed}
use Rattle.gate_model.specs.declared.entry.Entry.{Entry}
use Rattle.gate_model.specs.declared.event.Event.{Event}
use Rattle.gate_model.specs.declared.event.Event.TheVariants.{Write as write_acts}
use Rattle.gate_model.specs.declared.feed_refusal.FeedRefusal.TheVariants.{Closed as feed_closed, Worn as feed_worn, NoMemory as feed_no_memory}
use Rattle.gate_model.specs.declared.join_refusal.JoinRefusal.TheVariants.{Closed as join_closed, Worn as join_worn, Forbidden, TooMany as too_many_viewers, NoMemory as join_no_memory}
use Rattle.gate_model.specs.declared.read_refusal.ReadRefusal.TheVariants.{NoViewer as read_no_viewer, Worn as read_worn, NoMemory as read_no_memory}
use Rattle.gate_model.specs.declared.resize_refusal.ResizeRefusal.TheVariants.{NoViewer as resize_no_viewer, Closed as resize_closed, Denied, Same, Worn as resize_worn, NoMemory as resize_no_memory}
use Rattle.gate_model.specs.declared.write_refusal.WriteRefusal.{WriteRefusal}
use Rattle.gate_model.specs.declared.write_refusal.WriteRefusal.TheVariants.{NoViewer as write_no_viewer, Closed as write_closed, Worn as write_worn, NoMemory as write_no_memory}
use Rattle.gate_model.specs.declared.written.Written.{Written}
use Rattle.gate_model.specs.session.Calls.{Step}
use Rattle.gate_model.specs.session.History.{History}
use Rattle.gate_model.specs.session.Output.{out, taken}
use Rattle.std.specs.Prelude.{take}
use Rattle.script_grammar.specs.declared.text_form.TextForm.{TextForm}
use Rattle.script_grammar.specs.declared.text_form.TextForm.TheVariants.{Script}
use Rattle.script_grammar.specs.declared.line.Line.{Line}
use Rattle.script_grammar.specs.declared.line.Line.TheVariants.{Blank as blank, Bad as bad, At as moment, Start as start, Server as server, Join as join, Read as read, Write as write, Resize as resize, Take as take_up_to, Leave as leave, Close as close, Pixel as pixel, Same as same, Acknowledge as acknowledge, Done as done, Press as press_key, Totals as tell_totals}
use Rattle.script_grammar.specs.declared.order.Order.{Order}
use Rattle.script_grammar.specs.declared.order.Order.TheVariants.{Told as told, Untold as untold}
use Rattle.script_grammar.specs.declared.reading.Reading.{Reading}
use Rattle.script_grammar.specs.declared.reading.Reading.TheVariants.{Whole, TooMany}
use Rattle.script_grammar.specs.Grammar.{all_lines, ending, lines_of, most_of, script_grammar, whole_lines}
use Rattle.script_grammar.specs.Lines.{line_in, told_by}
use Rattle.script_grammar.specs.Pieces.{last_piece, unfinished, whole_pieces, all_pieces}
use Rattle.gate_script.specs.declared.refused.Refused.{Refused}
use Rattle.gate_script.specs.declared.refused.Refused.TheVariants.{BadLine, Worn}
use Rattle.gate_script.specs.Laws.{FramesFixThePlay, FramesFixAllButTheNewest, FinishedIsOnePlay, InterruptedIsOnePlay, RefusesIsOnePlay, HaltedIsOnePlay}
use Rattle.gate_script.specs.Outcomes.{AreFirst, Answered, IsRefused, IsTooLong, Makes, Refuses}
use Rattle.gate_script.specs.Plays.{Calls, Does, DoesReading, Play, Plays, Writes}
use Rattle.gate_script.specs.Told.{answer_to, worn_by, write_answer}
use Rattle.gate_script.proofs.InputLaws.{ending-later, lines-later}
use Rattle.gate_script.proofs.OnePlay.{IsOne, behind, does_same, plays_same}
use Rattle.gate_script.proofs.OneReading.{reading_same}
use Rattle.gate_script.proofs.OneStep.{not_both, some_answer}
use Rattle.gate_script.proofs.OneAnswer.{silent}
use Rattle.gate_script.proofs.TakenLaws.{taken_first}

-- ---- given orders

same_frames : (orders : List Order) (p q : Play) (a b f bytes others : List ℕ) → Plays orders p a f bytes → Plays orders q b f others → IsOne p q a b f f
same_frames orders p q a b f bytes others one other = plays_same orders p q a b f f bytes others [] [] one other refl

pub one_play : FramesFixThePlay
one_play orders p q a b f bytes others one other =
    let is = same_frames orders p q a b f bytes others one other in (
      is.play,
      is.answer,
      taken_first orders p a f bytes one ∙ (ap (λ (k : Play). take (taken k.history) (out k.history)) is.play ∙ sym (taken_first orders q b f others other)),
    )

pub but_the_newest : FramesFixAllButTheNewest
but_the_newest order orders p q a b f one other =
    let alike : one.before_f ++ one.own_f ≡ other.before_f ++ other.own_f = sym one.framed ∙ other.framed in
    let is = plays_same orders one.before other.before one.before_a other.before_a one.before_f other.before_f one.before_bytes other.before_bytes one.own_f other.own_f one.plays other.plays alike in
    let own : one.own_f ≡ other.own_f = behind one.before_f other.before_f one.own_f other.own_f alike is.framing in
    let rest : List ℕ = other.framing_begins.0 in (
      is.play,
      is.answer,
      λ all.
          let begins : one.framing ++ rest ≡ other.framing ++ [] = ap (λ (l : List ℕ). l ++ rest) (sym all ∙ own) ∙ (sym other.framing_begins.1 ∙ sym (append-nil other.framing)) in
          (does_same one.before p q one.answer other.answer one.framing other.framing rest [] (line_in order) one.does (subst (λ (k : Play). Does (line_in order) k q other.answer other.framing) (sym is.play) other.does) begins).play,
    )

-- ---- runs that did all their orders

pub finished_once : FinishedIsOnePlay
finished_once form bytes a b f one other =
    let is = same_frames (all_lines form bytes) one.play other.play a b f one.tells.bytes other.tells.bytes one.tells.plays other.tells.plays in
    (is.play, is.answer)

pub interrupted_once : InterruptedIsOnePlay
interrupted_once form bytes a b f one other =
    let is = same_frames (whole_lines form bytes) one.play other.play a b f one.tells.bytes other.tells.bytes one.tells.plays other.tells.plays in
    (is.play, is.answer)

-- ---- first orders of the same orders

pub later_still : (xs ys zs : List Order) → IsLater xs ys → IsLater ys zs → IsLater xs zs
later_still xs ys zs p q = (q.0 ++ p.0, q.1 ∙ (ap (λ (l : List Order). q.0 ++ l) p.1 ∙ sym (append_assoc q.0 p.0 xs)))

whole_are_first : (form : TextForm) (bytes : List ℕ) → IsLater (whole_lines form bytes) (all_lines form bytes)
whole_are_first form bytes =
    let whole : List (List ℕ) = whole_pieces (most_of form) bytes in
    let last : List (List ℕ) = last_piece (unfinished (most_of form) bytes) in
    later_still (lines_of form (reverse whole)) (lines_of form (reverse (whole ++ last))) (ending form (lines_of form (reverse (whole ++ last))))
    (lines-later form (reverse whole) (reverse (whole ++ last)) (reverse last, reverse-append whole last))
    (ending-later form (lines_of form (reverse (whole ++ last))))

pub first_of_all : (form : TextForm) (bytes : List ℕ) (left : Option (List ℕ)) (orders : List Order) → AreFirst form bytes left orders → IsLater orders (all_lines form bytes)
first_of_all form bytes left orders (inl first) = later_still orders (whole_lines form bytes) (all_lines form bytes) first (whole_are_first form bytes)
first_of_all form bytes left orders (inr first) = first.1

-- of two lists that end the same list one ends the other
pub one_ends_the_other : (more others xs ys : List Order) → more ++ xs ≡ others ++ ys → IsLater xs ys ⊎ IsLater ys xs
one_ends_the_other [] others xs ys e = inr (others, e)
one_ends_the_other (m ∷ more) [] xs ys e = inl (m ∷ more, sym e)
one_ends_the_other (m ∷ more) (o ∷ others) xs ys e = one_ends_the_other more others xs ys (rest m o (more ++ xs) (others ++ ys) e)
  where
    rest : (x y : Order) (ls ks : List Order) → x ∷ ls ≡ y ∷ ks → ls ≡ ks
    rest x y ls ks e = cc

-- each order's answer is told
abbrev pub AreTold : List Order → Type 0
AreTold [] = Unit {0}
AreTold (told line ∷ orders) = AreTold orders
AreTold (untold line ∷ orders) = ⊥

-- what the first of some orders did and told; where the others answered nothing, they did nothing
pub record Began (more orders : List Order) (q : Play) (a f : List ℕ) : Type 0 where
  pub play : Play
  pub told_a : List ℕ
  pub told_f : List ℕ
  pub bytes : List ℕ
  pub plays : Plays orders play told_a told_f bytes
  pub rest_a : List ℕ
  pub rest_f : List ℕ
  pub answered : a ≡ told_a ++ rest_a
  pub framed : f ≡ told_f ++ rest_f
  pub still : AreTold more → rest_a ≡ [] → play ≡ q

pub both_none : (xs ys : List ℕ) → xs ++ ys ≡ [] → (xs ≡ []) × (ys ≡ [])
both_none [] ys e = (refl, e)
both_none (x ∷ xs) ys e = absurd cc

pub began : (more orders : List Order) (q : Play) (a f bytes : List ℕ) → Plays (more ++ orders) q a f bytes → Began more orders q a f
began [] orders q a f bytes w = record { play = q; told_a = a; told_f = f; bytes = bytes; plays = w; rest_a = []; rest_f = []; answered = sym (append-nil a); framed = sym (append-nil f); still = λ t e. refl }
began (order ∷ more) orders q a f bytes w =
    let so_far = began more orders w.0 w.1 w.2 w.3 w.4 in
    record {
      play = so_far.play;
      told_a = so_far.told_a;
      told_f = so_far.told_f;
      bytes = so_far.bytes;
      plays = so_far.plays;
      rest_a = so_far.rest_a ++ told_by order w.5.answer;
      rest_f = so_far.rest_f ++ w.5.own_f;
      answered = w.5.answered ∙ (ap (λ (l : List ℕ). l ++ told_by order w.5.answer) so_far.answered ∙ append_assoc so_far.told_a so_far.rest_a (told_by order w.5.answer));
      framed = w.5.framed ∙ (ap (λ (l : List ℕ). l ++ w.5.own_f) so_far.framed ∙ append_assoc so_far.told_f so_far.rest_f w.5.own_f);
      still = λ t e. moved order w.5.answer so_far.rest_a so_far.play w.0 q w.5.own_f t e w.5.does so_far.still;
    }
  where
    moved : (order : Order) (answer rest : List ℕ) (first p q : Play) (own_f : List ℕ) → AreTold (order ∷ more) → rest ++ told_by order answer ≡ [] → Does (line_in order) p q answer own_f → (AreTold more → rest ≡ [] → first ≡ p) → first ≡ q
    moved (told line) answer rest first p q own_f t e does before = let none = both_none rest answer e in before t none.0 ∙ silent line p q answer own_f does none.1
    moved (untold line) answer rest first p q own_f t e does before = absurd t

-- ---- a refused order

-- a call that was refused isn't answered otherwise
answered_once : (h : History) (event : Event) (r s : Answer) (added : List Entry) → Step h event r [] → Step h event s added → r ≡ s
answered_once h event r s [] one other = some_answer r s (sym one.1 ∙ other.1)
answered_once h event r s (e ∷ []) one other = not_both r _ one.1 other.1.0
answered_once h event r s (e ∷ d ∷ es) one other = absurd other.1

no_entries : {A : Type 0} → (n : ℕ) → ◌≡◌ {A = Option ℕ} None (Some n) → A
no_entries n e = absurd cc

no_text : {A : Type 0} → (a : List ℕ) → ◌≡◌ {A = Option (List ℕ)} None (Some a) → A
no_text a e = absurd cc

-- what says that the session is full isn't told
worn_untold : {A : Type 0} → (r : Answer) (event : Event) (n : ℕ) (a : List ℕ) → worn_by r ≡ Some n → answer_to r event ≡ Some a → A
worn_untold (fed (Ok stamp)) event n a w t = no_entries n w
worn_untold (fed (Err (feed_closed cause))) event n a w t = no_entries n w
worn_untold (fed (Err (feed_worn m))) event n a w t = no_text a t
worn_untold (fed (Err feed_no_memory)) event n a w t = no_entries n w
worn_untold (joined_as (Ok joined)) event n a w t = no_entries n w
worn_untold (joined_as (Err (join_closed cause))) event n a w t = no_entries n w
worn_untold (joined_as (Err Forbidden)) event n a w t = no_entries n w
worn_untold (joined_as (Err (too_many_viewers live joined))) event n a w t = no_entries n w
worn_untold (joined_as (Err (join_worn m))) event n a w t = no_text a t
worn_untold (joined_as (Err join_no_memory)) event n a w t = no_entries n w
worn_untold (was_read (Ok answer)) event n a w t = no_entries n w
worn_untold (was_read (Err read_no_viewer)) event n a w t = no_entries n w
worn_untold (was_read (Err (read_worn m))) event n a w t = no_text a t
worn_untold (was_read (Err read_no_memory)) event n a w t = no_entries n w
worn_untold (was_written (Ok counts)) event n a w t = no_entries n w
worn_untold (was_written (Err write_no_viewer)) event n a w t = no_entries n w
worn_untold (was_written (Err (write_closed cause))) event n a w t = no_entries n w
worn_untold (was_written (Err (write_worn m))) event n a w t = no_text a t
worn_untold (was_written (Err write_no_memory)) event n a w t = no_entries n w
worn_untold (was_resized (Ok stamp)) event n a w t = no_entries n w
worn_untold (was_resized (Err resize_no_viewer)) event n a w t = no_entries n w
worn_untold (was_resized (Err (resize_closed cause))) event n a w t = no_entries n w
worn_untold (was_resized (Err Denied)) event n a w t = no_entries n w
worn_untold (was_resized (Err Same)) event n a w t = no_entries n w
worn_untold (was_resized (Err (resize_worn m))) event n a w t = no_text a t
worn_untold (was_resized (Err resize_no_memory)) event n a w t = no_entries n w
worn_untold (was_taken bytes closed) event n a w t = no_entries n w
worn_untold (was_left result) event n a w t = no_entries n w
worn_untold (was_closed result) event n a w t = no_entries n w

worn_unwritten : {A : Type 0} → (r : Result Written WriteRefusal) (passed n : ℕ) (a : List ℕ) → worn_by (was_written r) ≡ Some n → write_answer r passed ≡ Some a → A
worn_unwritten (Ok counts) passed n a w t = no_entries n w
worn_unwritten (Err write_no_viewer) passed n a w t = no_entries n w
worn_unwritten (Err (write_closed cause)) passed n a w t = no_entries n w
worn_unwritten (Err (write_worn m)) passed n a w t = no_text a t
worn_unwritten (Err write_no_memory) passed n a w t = no_entries n w

some_event : (d e : Event) → Some d ≡ Some e → d ≡ e
some_event d e w = cc

no_event : {A : Type 0} → (e : Event) → ◌≡◌ {A = Option Event} None (Some e) → A
no_event e w = absurd cc

module _ (p q : Play) (a f : List ℕ) where
  -- a line whose call found the session full wasn't done
  worn_not_called : {A : Type 0} → (d : Event) (w : (e : Event) × (Some d ≡ Some e)) (r : Answer) (n : ℕ) → Step p.history w.0 r [] → worn_by r ≡ Some n → Calls d p q a f → A
  worn_not_called d w r n step worn calls =
      let one : Step p.history d r [] = subst (λ (e : Event). Step p.history e r []) (sym (some_event d w.0 w.1)) step in
      worn_untold r d n a worn (ap (λ (s : Answer). answer_to s d) (answered_once p.history d r calls.result calls.added one calls.step) ∙ calls.told)

  worn_not_written : {A : Type 0} → (viewer passed : ℕ) (acts : List Act) (e : Event) (r : Answer) (n : ℕ) → write_acts viewer acts ≡ e → Step p.history e r [] → worn_by r ≡ Some n → Writes viewer acts passed p q a f → A
  worn_not_written viewer passed acts e r n is step worn writes =
      let one : Step p.history (write_acts viewer acts) r [] = subst (λ (k : Event). Step p.history k r []) (sym is) step in
      let same = answered_once p.history (write_acts viewer acts) r (was_written writes.result) writes.added one writes.step in
      worn_unwritten writes.result passed n a (ap worn_by (sym same) ∙ worn) writes.told

  by_reading : {A : Type 0} → (reading : Reading) (viewer passed : ℕ) (acts : List Act) (e : Event) (r : Answer) (n : ℕ) → Whole acts passed ≡ reading → write_acts viewer acts ≡ e → Step p.history e r [] → worn_by r ≡ Some n → DoesReading reading viewer p q a f → A
  by_reading reading viewer passed acts e r n reads is step worn does = worn_not_written viewer passed acts e r n is step worn (subst (λ (k : Reading). DoesReading k viewer p q a f) (sym reads) does)

  worn_not_done : {A : Type 0} → (line : Line) (r : Answer) (n : ℕ) → Answered line p r → worn_by r ≡ Some n → Does line p q a f → A
  worn_not_done blank r n w worn does = no_event w.event w.makes
  worn_not_done bad r n w worn does = absurd does
  worn_not_done (moment now) r n w worn does = no_event w.event w.makes
  worn_not_done (start size mode entries) r n w worn does = no_event w.event w.makes
  worn_not_done (server bytes) r n w worn does = worn_not_called _ (w.event, w.makes) r n w.step worn does
  worn_not_done (join asked) r n w worn does = worn_not_called _ (w.event, w.makes) r n w.step worn does
  worn_not_done (read viewer) r n w worn does = worn_not_called _ (w.event, w.makes) r n w.step worn does
  worn_not_done (write viewer text) r n w worn does =
      by_reading does.0 viewer w.makes.1 w.makes.0 w.event r n (reading_same text (Whole w.makes.0 w.makes.1) does.0 w.makes.2 does.1) (sym w.makes.3) w.step worn does.2
  worn_not_done (resize viewer size) r n w worn does = worn_not_called _ (w.event, w.makes) r n w.step worn does
  worn_not_done (take_up_to most) r n w worn does = worn_not_called _ (w.event, w.makes) r n w.step worn does
  worn_not_done (leave viewer) r n w worn does = worn_not_called _ (w.event, w.makes) r n w.step worn does
  worn_not_done close r n w worn does = worn_not_called _ (w.event, w.makes) r n w.step worn does
  worn_not_done (pixel viewer x y) r n w worn does = no_event w.event w.makes
  worn_not_done (same one other) r n w worn does = no_event w.event w.makes
  worn_not_done (acknowledge viewer) r n w worn does = worn_not_written viewer 0 _ w.event r n (some_event _ w.event w.makes) w.step worn does
  worn_not_done done r n w worn does = no_event w.event w.makes
  worn_not_done (press_key viewer keysym) r n w worn does = worn_not_written viewer 0 _ w.event r n (some_event _ w.event w.makes) w.step worn does
  worn_not_done (tell_totals totals) r n w worn does = no_event w.event w.makes

  too_long_not_done : {A : Type 0} → (line : Line) → IsTooLong line → Does line p q a f → A
  too_long_not_done (write viewer text) long does = absurd (subst (λ (k : Reading). DoesReading k viewer p q a f) (reading_same text does.0 TooMany does.1 long) does.2)
  too_long_not_done blank long does = absurd long
  too_long_not_done bad long does = absurd long
  too_long_not_done (moment now) long does = absurd long
  too_long_not_done (start size mode entries) long does = absurd long
  too_long_not_done (server bytes) long does = absurd long
  too_long_not_done (join asked) long does = absurd long
  too_long_not_done (read viewer) long does = absurd long
  too_long_not_done (resize viewer size) long does = absurd long
  too_long_not_done (take_up_to most) long does = absurd long
  too_long_not_done (leave viewer) long does = absurd long
  too_long_not_done close long does = absurd long
  too_long_not_done (pixel viewer x y) long does = absurd long
  too_long_not_done (same one other) long does = absurd long
  too_long_not_done (acknowledge viewer) long does = absurd long
  too_long_not_done done long does = absurd long
  too_long_not_done (press_key viewer keysym) long does = absurd long
  too_long_not_done (tell_totals totals) long does = absurd long

  bad_not_done : {A : Type 0} → (line : Line) → (line ≡ bad) ⊎ IsTooLong line → Does line p q a f → A
  bad_not_done line (inl is) does = absurd (subst (λ (l : Line). Does l p q a f) is does)
  bad_not_done line (inr long) does = too_long_not_done line long does

  -- a refused order wasn't done
  pub refused_not_done : {A : Type 0} → (refused : Refused) (order : Order) (orders : List Order) → IsRefused refused order orders p → Does (line_in order) p q a f → A
  refused_not_done (BadLine number) order orders w does = bad_not_done (line_in order) w.0 does
  refused_not_done (Worn entries) order orders w does = worn_not_done (line_in order) w.0 entries w.1 w.2 does

acts_are : (acts others : List Act) (n m : ℕ) → Whole acts n ≡ Whole others m → acts ≡ others
acts_are acts others n m e = cc

no_whole : {A : Type 0} → (acts : List Act) (n : ℕ) → Whole acts n ≡ TooMany → A
no_whole acts n e = absurd cc

-- a line makes one call
makes_once : (line : Line) (p : Play) (d e : Event) → Makes line p d → Makes line p e → d ≡ e
makes_once (write viewer text) p d e w v =
    w.3 ∙ (ap (λ (l : List Act). write_acts viewer l) (acts_are w.0 v.0 w.1 v.1 (reading_same text (Whole w.0 w.1) (Whole v.0 v.1) w.2 v.2)) ∙ sym v.3)
makes_once blank p d e w v = some_event d e (sym w ∙ v)
makes_once bad p d e w v = some_event d e (sym w ∙ v)
makes_once (moment now) p d e w v = some_event d e (sym w ∙ v)
makes_once (start size mode entries) p d e w v = some_event d e (sym w ∙ v)
makes_once (server bytes) p d e w v = some_event d e (sym w ∙ v)
makes_once (join asked) p d e w v = some_event d e (sym w ∙ v)
makes_once (read viewer) p d e w v = some_event d e (sym w ∙ v)
makes_once (resize viewer size) p d e w v = some_event d e (sym w ∙ v)
makes_once (take_up_to most) p d e w v = some_event d e (sym w ∙ v)
makes_once (leave viewer) p d e w v = some_event d e (sym w ∙ v)
makes_once close p d e w v = some_event d e (sym w ∙ v)
makes_once (pixel viewer x y) p d e w v = some_event d e (sym w ∙ v)
makes_once (same one other) p d e w v = some_event d e (sym w ∙ v)
makes_once (acknowledge viewer) p d e w v = some_event d e (sym w ∙ v)
makes_once done p d e w v = some_event d e (sym w ∙ v)
makes_once (press_key viewer keysym) p d e w v = some_event d e (sym w ∙ v)
makes_once (tell_totals totals) p d e w v = some_event d e (sym w ∙ v)

-- a line outside the grammar makes none
bad_makes_none : {A : Type 0} → (line : Line) (p : Play) (e : Event) → (line ≡ bad) ⊎ IsTooLong line → Makes line p e → A
bad_makes_none line p e (inl is) w = no_event e (subst (λ (l : Line). Makes l p e) is w)
bad_makes_none (write viewer text) p e (inr long) w = no_whole w.0 w.1 (reading_same text (Whole w.0 w.1) TooMany w.2 long)
bad_makes_none blank p e (inr long) w = absurd long
bad_makes_none bad p e (inr long) w = absurd long
bad_makes_none (moment now) p e (inr long) w = absurd long
bad_makes_none (start size mode entries) p e (inr long) w = absurd long
bad_makes_none (server bytes) p e (inr long) w = absurd long
bad_makes_none (join asked) p e (inr long) w = absurd long
bad_makes_none (read viewer) p e (inr long) w = absurd long
bad_makes_none (resize viewer size) p e (inr long) w = absurd long
bad_makes_none (take_up_to most) p e (inr long) w = absurd long
bad_makes_none (leave viewer) p e (inr long) w = absurd long
bad_makes_none close p e (inr long) w = absurd long
bad_makes_none (pixel viewer x y) p e (inr long) w = absurd long
bad_makes_none (same one other) p e (inr long) w = absurd long
bad_makes_none (acknowledge viewer) p e (inr long) w = absurd long
bad_makes_none done p e (inr long) w = absurd long
bad_makes_none (press_key viewer keysym) p e (inr long) w = absurd long
bad_makes_none (tell_totals totals) p e (inr long) w = absurd long

-- an order is refused for one cause
refused_once : (refused again : Refused) (order : Order) (orders : List Order) (p : Play) → IsRefused refused order orders p → IsRefused again order orders p → refused ≡ again
refused_once (BadLine n) (BadLine m) order orders p w v = ap (λ (k : ℕ). BadLine k) (w.1 ∙ sym v.1)
refused_once (BadLine n) (Worn m) order orders p w v = bad_makes_none (line_in order) p v.1.event w.0 v.1.makes
refused_once (Worn n) (BadLine m) order orders p w v = bad_makes_none (line_in order) p w.1.event v.0 w.1.makes
refused_once (Worn n) (Worn m) order orders p w v =
    let event = makes_once (line_in order) p w.1.event v.1.event w.1.makes v.1.makes in
    let answer = answered_once p.history v.1.event w.0 v.0 [] (subst (λ (e : Event). Step p.history e w.0 []) event w.1.step) v.1.step in
    ap (λ (k : ℕ). Worn k) (some_number n m (sym w.2 ∙ (ap worn_by answer ∙ v.2)))
  where
    some_number : (n m : ℕ) → Some n ≡ Some m → n ≡ m
    some_number n m e = cc

module _ (form : TextForm) (bytes f : List ℕ) (left : Option (List ℕ)) where
  -- no run went on behind the order that the other one refused
  no_longer : {A : Type 0} → (a b : List ℕ) (refused again : Refused) (one : Refuses form bytes a f left refused) (other : Refuses form bytes b f left again) (more : List Order) → other.lines ≡ more ++ (one.next ∷ one.lines) → A
  no_longer a b refused again one other more is =
      let w = began more (one.next ∷ one.lines) other.play b f other.tells.bytes (subst (λ (l : List Order). Plays l other.play b f other.tells.bytes) is other.tells.plays) in
      let d = w.plays in
      let alike : f ++ [] ≡ d.2 ++ (d.5.own_f ++ w.rest_f) = append-nil f ∙ (w.framed ∙ (ap (λ (l : List ℕ). l ++ w.rest_f) d.5.framed ∙ append_assoc d.2 d.5.own_f w.rest_f)) in
      let here = plays_same one.lines one.play d.0 a d.1 f d.2 one.tells.bytes d.3 [] (d.5.own_f ++ w.rest_f) one.tells.plays d.4 alike in
      refused_not_done d.0 w.play d.5.answer d.5.own_f refused one.next one.lines (subst (λ (k : Play). IsRefused refused one.next one.lines k) here.play one.is_refused) d.5.does

  head_is : (x y : Order) (xs ys : List Order) → x ∷ xs ≡ y ∷ ys → (x ≡ y) × (xs ≡ ys)
  head_is x y xs ys e = (cc, cc)

  abbrev IsOneRun : (a b : List ℕ) (refused again : Refused) → Refuses form bytes a f left refused → Refuses form bytes b f left again → Type 0
  IsOneRun a b refused again one other = (one.play ≡ other.play) × (a ≡ b) × (refused ≡ again) × (one.lines ≡ other.lines)

  refused_alike : (a b : List ℕ) (refused again : Refused) (one : Refuses form bytes a f left refused) (other : Refuses form bytes b f left again) → one.next ∷ one.lines ≡ other.next ∷ other.lines → IsOneRun a b refused again one other
  refused_alike a b refused again one other e =
      let both = head_is one.next other.next one.lines other.lines e in
      let is = same_frames other.lines one.play other.play a b f one.tells.bytes other.tells.bytes (subst (λ (l : List Order). Plays l one.play a f one.tells.bytes) both.1 one.tells.plays) other.tells.plays in
      let first : IsRefused refused other.next other.lines other.play =
      subst (λ (k : Play). IsRefused refused other.next other.lines k) is.play
      (subst (λ (l : List Order). IsRefused refused other.next l one.play) both.1 (subst (λ (o : Order). IsRefused refused o one.lines one.play) both.0 one.is_refused)) in
      (is.play, is.answer, refused_once refused again other.next other.lines other.play first other.is_refused, both.1)

  pub refused_runs : (a b : List ℕ) (refused again : Refused) (one : Refuses form bytes a f left refused) (other : Refuses form bytes b f left again) → IsOneRun a b refused again one other
  refused_runs a b refused again one other =
      let first = first_of_all form bytes left (one.next ∷ one.lines) one.first in
      let second = first_of_all form bytes left (other.next ∷ other.lines) other.first in
      by (one_ends_the_other first.0 second.0 (one.next ∷ one.lines) (other.next ∷ other.lines) (sym first.1 ∙ second.1))
    where
      longer : (more : List Order) → other.next ∷ other.lines ≡ more ++ (one.next ∷ one.lines) → IsOneRun a b refused again one other
      longer [] e = refused_alike a b refused again one other (sym e)
      longer (m ∷ more) e = no_longer a b refused again one other more (head_is other.next m other.lines (more ++ (one.next ∷ one.lines)) e).1

      shorter : (more : List Order) → one.next ∷ one.lines ≡ more ++ (other.next ∷ other.lines) → IsOneRun a b refused again one other
      shorter [] e = refused_alike a b refused again one other e
      shorter (m ∷ more) e = no_longer b a again refused other one more (head_is one.next m one.lines (more ++ (other.next ∷ other.lines)) e).1

      by : IsLater (one.next ∷ one.lines) (other.next ∷ other.lines) ⊎ IsLater (other.next ∷ other.lines) (one.next ∷ one.lines) → IsOneRun a b refused again one other
      by (inl more) = longer more.0 more.1
      by (inr more) = shorter more.0 more.1

pub refuses_once : RefusesIsOnePlay
refuses_once form bytes a b f left refused again one other = refused_runs form bytes f left a b refused again one other

-- ---- want of memory

pub told_scripts : (entries : ℕ) (pieces : List (List ℕ)) → AreTold (script_grammar entries pieces)
told_scripts entries [] = tt
told_scripts entries (piece ∷ pieces) = told_scripts entries pieces

pub told_front : (more orders : List Order) → AreTold (more ++ orders) → AreTold more
told_front [] orders t = tt
told_front (told line ∷ more) orders t = told_front more orders t
told_front (untold line ∷ more) orders t = absurd t

pub told_rest : (more orders : List Order) → AreTold (more ++ orders) → AreTold orders
told_rest [] orders t = t
told_rest (told line ∷ more) orders t = told_rest more orders t
told_rest (untold line ∷ more) orders t = absurd t

pub none_behind : (xs ys : List ℕ) → xs ++ ys ≡ xs → ys ≡ []
none_behind xs ys e = append_cancel_left xs ys [] (e ∙ sym (append-nil xs))

-- more orders that answered nothing more
still_there : (more orders : List Order) (p q : Play) (a f bytes others : List ℕ) → AreTold more → Plays orders p a f bytes → Plays (more ++ orders) q a f others → p ≡ q
still_there more orders p q a f bytes others t one other =
    let w = began more orders q a f others other in
    let here = plays_same orders p w.play a w.told_a f w.told_f bytes w.bytes [] w.rest_f one w.plays (append-nil f ∙ w.framed) in
    here.play ∙ w.still t (none_behind w.told_a w.rest_a (sym w.answered ∙ here.answer))

pub halted_once : HaltedIsOnePlay
halted_once entries bytes a f left one other =
    let first = first_of_all (Script entries) bytes left one.lines one.first in
    let second = first_of_all (Script entries) bytes left other.lines other.first in
    let all : AreTold (all_lines (Script entries) bytes) = told_scripts entries (reverse (all_pieces (most_of (Script entries)) bytes)) in
    let told_one : AreTold one.lines = told_rest first.0 one.lines (subst AreTold first.1 all) in
    let told_other : AreTold other.lines = told_rest second.0 other.lines (subst AreTold second.1 all) in
    by told_one told_other (one_ends_the_other first.0 second.0 one.lines other.lines (sym first.1 ∙ second.1))
  where
    by : AreTold one.lines → AreTold other.lines → IsLater one.lines other.lines ⊎ IsLater other.lines one.lines → one.play ≡ other.play
    by t u (inl more) =
        still_there more.0 one.lines one.play other.play a f one.tells.bytes other.tells.bytes (told_front more.0 one.lines (subst AreTold more.1 u)) one.tells.plays
        (subst (λ (l : List Order). Plays l other.play a f other.tells.bytes) more.1 other.tells.plays)
    by t u (inr more) =
        sym (still_there more.0 other.lines other.play one.play a f other.tells.bytes one.tells.bytes (told_front more.0 other.lines (subst AreTold more.1 t)) other.tells.plays
        (subst (λ (l : List Order). Plays l one.play a f one.tells.bytes) more.1 one.tells.plays))
