-- How an order is told, and how the orders of a piece end.
use Rattle.std.proofs.Common.{◌≡◌, ℕ, ◌+◌, ◌≤◌, inl, inr, List, [], ◌∷◌, ◌++◌, length, take, drop, Bool, true, false, refl, ap, sym, ◌∙◌, subst, append_assoc, append-nil, arith}
use Rattle.std.specs.Prelude.{Result, Ok, Err, Option, Some, None, OnOk, ◌||◌, codes}
use Rattle.std.specs.List.{list_any}
use Rattle.std.specs.Option.{is_some}
use Rattle.std.proofs.lemmas.List.{take-append-drop}
use Rattle.gate_model.specs.Sequences.{IsLater, BeginsWith}
use Rattle.gate_outside.specs.Edge.{GainedFront, Rose, gained}
use Rattle.gate_outside.proofs.Moved.{gained-none, gained-gained}
use Rattle.script_grammar.specs.declared.text_form.TextForm.{TextForm}
use Rattle.script_grammar.specs.declared.text_form.TextForm.TheVariants.{Draw, Script}
use Rattle.script_grammar.specs.declared.line.Line.{Line}
use Rattle.script_grammar.specs.declared.line.Line.TheVariants.{Blank, Bad, At as moment, Start, Server, Join, Read, Write, Resize, Take, Leave, Close, Pixel, Same, Acknowledge, Done, Press, Totals}
use Rattle.script_grammar.specs.declared.order.Order.{Order}
use Rattle.script_grammar.specs.declared.order.Order.TheVariants.{Told as told, Untold as untold}
use Rattle.script_grammar.specs.Lines.{line_in, told_by}
use Rattle.script_grammar.specs.Grammar.{ending, starts, judged, in_place, lines_of, total}
use Rattle.gate_script.specs.declared.halt.Halt.{Halt}
use Rattle.gate_script.specs.declared.halt.Halt.TheVariants.{NoMemory as no_memory, OutsideGrammar, Worn as is_worn}
use Rattle.gate_script.specs.declared.reply.Reply.{Reply}
use Rattle.gate_script.specs.declared.run.Run.{Run}
use Rattle.gate_script.specs.declared.session.Session.{Session}
use Rattle.gate_script.specs.declared.sight.Sight.{Sight}
use Rattle.gate_script.specs.declared.sight.Sight.TheVariants.{Played, Unplayed}
use Rattle.gate_script.specs.declared.state.State.{State}
use Rattle.gate_script.specs.declared.stop.Stop.{Stop}
use Rattle.gate_script.specs.declared.stop.Stop.TheVariants.{ReadFault, WriteFault, NoMemory, Refused}
use Rattle.gate_script.specs.Plays.{Play, Plays, Does, IsLawful}
use Rattle.gate_script.specs.Calls.{Adds, CallEnds, Halts, IsAt, IsCall, LineDone, StartEnds, play}
use Rattle.gate_script.specs.Calls.{LeavesOpen as CallLeavesOpen}
use Rattle.gate_script.specs.Told.{answer_line}
use Rattle.gate_model.specs.session.History.{History}
use Rattle.gate_model.specs.declared.sharing.Asked.TheVariants.{Owner}
use Rattle.gate_model.specs.declared.sharing.Share.{Share}
use Rattle.gate_model.specs.declared.sharing.Share.TheVariants.{Nobody}
use Rattle.gate_model.specs.Limits.{most_entries}
use Rattle.script_grammar.specs.declared.size.Size.{Size}
use Rattle.desk_core.specs.Desk.{Stands}
use Rattle.desk_core.specs.Laws.{DesksAreTrue, DesksAreWhole}
use Rattle.gate_script.specs.Sinks.{Sinks, Gains, GainsFronts, HaveFailed, Wrote, held}
use Rattle.gate_script.specs.Running.{AllDone, At, Ends, Goes, HasDone, IsOpen, LastEnds, LeavesOpen, LineEnds, LineIsDone, OrderDone, OrderEnds, PieceEnds, ShortOf, StandsAt, StoppedIn, Told, sight_of, stop_of}
use Rattle.gate_script.proofs.TakenLaws.{printed, tells}

-- ---- in memory

-- before `start` there is no call
pub no_call : (line : Line) → IsCall line → in_place false line ≡ line → ⊥
no_call Blank call placed = call
no_call Bad call placed = call
no_call (moment now) call placed = call
no_call (Start size mode entries) call placed = call
no_call (Server bytes) call placed = cc
no_call (Join asked) call placed = cc
no_call (Read viewer) call placed = cc
no_call (Write viewer text) call placed = cc
no_call (Resize viewer size) call placed = cc
no_call (Take most) call placed = cc
no_call (Leave viewer) call placed = cc
no_call Close call placed = cc
no_call (Pixel viewer x y) call placed = cc
no_call (Same one other) call placed = cc
no_call (Acknowledge viewer) call placed = cc
no_call Done call placed = cc
no_call (Press viewer keysym) call placed = cc
no_call (Totals totals) call placed = cc

-- what a session's call did
pub called : (sight : Sight) (line : Line) (p : Play) (now : ℕ) (s n : Session) (r : Result (Unit {0}) Halt) (o o' : Reply) → StandsAt sight p now (Some s) → ((h : History) → IsAt sight s h → CallEnds sight line (play now h) r n o o') → LineEnds sight line p r record { moment = now; session = Some n; reply = o' } o o'
called sight line p now s n r o o' at step = by r (subst (λ (q : Play). CallEnds sight line q r n o o') (ap (λ (t : ℕ). play t p.history) (sym at.0)) (step p.history at.1))
  where
    by : (r : Result (Unit {0}) Halt) → CallEnds sight line p r n o o' → LineEnds sight line p r record { moment = now; session = Some n; reply = o' } o o'
    by (Ok u) d = record { after = play p.now d.history; answer = d.answer; framing = d.framing; does = d.does; stands = (at.0, d.at); appends = d.appends }
    by (Err halt) d = d

-- a session's call leaves it open
pub leaves_open : (line : Line) (s n : Session) (r : Result (Unit {0}) Halt) → IsCall line → OnOk r (CallLeavesOpen line s.desk n.desk) → OnOk r (LeavesOpen line (Some s) (Some n))
leaves_open line s n (Err halt) call o = tt
leaves_open (Start size mode entries) s n (Ok u) call o = absurd call
leaves_open (Server bytes) s n (Ok u) call o = o
leaves_open (Join asked) s n (Ok u) call o = o
leaves_open (Read viewer) s n (Ok u) call o = o
leaves_open (Acknowledge viewer) s n (Ok u) call o = o
leaves_open Blank s n (Ok u) call o = absurd call
leaves_open Bad s n (Ok u) call o = absurd call
leaves_open (moment now) s n (Ok u) call o = absurd call
leaves_open (Write viewer text) s n (Ok u) call o = tt
leaves_open (Resize viewer size) s n (Ok u) call o = tt
leaves_open (Take most) s n (Ok u) call o = tt
leaves_open (Leave viewer) s n (Ok u) call o = tt
leaves_open Close s n (Ok u) call o = tt
leaves_open (Pixel viewer x y) s n (Ok u) call o = tt
leaves_open (Same one other) s n (Ok u) call o = tt
leaves_open Done s n (Ok u) call o = tt
leaves_open (Press viewer keysym) s n (Ok u) call o = tt
leaves_open (Totals totals) s n (Ok u) call o = tt

-- the session has started
pub has_started : (sight : Sight) (line : Line) (p : Play) (now : ℕ) (n : Session) (o o' : Reply) → p ≡ play now [] → LineDone sight line (play now []) n o o' → LineIsDone sight line p record { moment = now; session = Some n; reply = o' } o o'
has_started sight line p now n o o' is d = subst (λ (q : Play). LineIsDone sight line q record { moment = now; session = Some n; reply = o' } o o') (sym is) (record { after = play now d.history; answer = d.answer; framing = d.framing; does = d.does; stands = (refl, d.at); appends = d.appends })

pub not_started_yet : (sight : Sight) (line : Line) (p : Play) (now : ℕ) (r : Result Session Halt) (r' : Result (Unit {0}) Halt) (halt : Halt) (s : State) (o o' : Reply) → p ≡ play now [] → r ≡ Err halt → r' ≡ Err halt → StartEnds sight line (play now []) r o o' → LineEnds sight line p r' s o o'
not_started_yet sight line p now r r' halt s o o' is failed failed' ends = rw (failed', is) (subst (λ (x : Result Session Halt). StartEnds sight line (play now []) x o o') failed ends)

-- nothing but the moment has changed
pub now_is : (sight : Sight) (p : Play) (now old : ℕ) (session : Option Session) → StandsAt sight p old session → StandsAt sight (play now p.history) now session
now_is sight p now old None is = ap (λ (q : Play). play now q.history) is
now_is sight p now old (Some s) at = (refl, at.1)

-- the moment was set
pub moment_set : (sight : Sight) (now old : ℕ) (p : Play) (session : Option Session) (r : Result (Unit {0}) Halt) (o o' : Reply) → StandsAt sight p old session → Adds r o o' (answer_line (codes "now") (now ∷ [])) [] → LineEnds sight (moment now) p r record { moment = now; session = session; reply = o' } o o'
moment_set sight now old p session (Ok u) o o' at adds = record { after = play now p.history; answer = answer_line (codes "now") (now ∷ []); framing = []; does = record { same = refl; answered = refl; framed = refl }; stands = now_is sight p now old session at; appends = adds }
moment_set sight now old p session (Err no_memory) o o' at adds = tt
moment_set sight now old p session (Err OutsideGrammar) o o' at adds = absurd adds
moment_set sight now old p session (Err (is_worn entries)) o o' at adds = absurd adds

-- a line without effect
pub nothing_told : (sight : Sight) (p : Play) (now : ℕ) (session : Option Session) (o : Reply) → StandsAt sight p now session → LineIsDone sight Blank p record { moment = now; session = session; reply = o } o o
nothing_told sight p now session o at = record { after = p; answer = []; framing = []; does = record { same = refl; answered = refl; framed = refl }; stands = at; appends = record { answered = sym (append-nil o.answer.items); framed = sym (append-nil o.frame.items) } }

-- `start` comes once
pub once : (opened : Bool) (size : Size) (mode : Share) (entries : ℕ) → in_place opened (Start size mode entries) ≡ Start size mode entries → opened ≡ false
once true size mode entries placed = let w : Bad ≡ Start size mode entries = placed in cc
once false size mode entries placed = refl

pub not_yet : (sight : Sight) (p : Play) (now : ℕ) (session : Option Session) → is_some session ≡ false → StandsAt sight p now session → p ≡ play now []
not_yet sight p now None none is = is
not_yet sight p now (Some s) none at = absurd (let w : true ≡ false = none in cc)

-- an order was done, by its line
pub order_told_line : (sight : Sight) (line : Line) (p : Play) (s : State) (o : Reply) (r : Result (Unit {0}) Halt) → o.answer.items ≡ [] → o.frame.items ≡ [] → LineEnds sight line p r s o s.reply → OrderEnds sight (told line) p r s
order_told_line sight line p s o (Ok u) none none' d = record { after = d.after; answer = d.answer; framing = d.framing; does = d.does; stands = d.stands; answer_is = d.appends.answered ∙ ap (λ (l : List ℕ). l ++ d.answer) none; frame_is = d.appends.framed ∙ ap (λ (l : List ℕ). l ++ d.framing) none' }
order_told_line sight line p s o (Err halt) none none' d = d

pub order_untold_line : (sight : Sight) (line : Line) (p : Play) (s s' : State) (o : Reply) → o.frame.items ≡ [] → s'.moment ≡ s.moment → s'.session ≡ s.session → s'.reply.answer.items ≡ [] → s'.reply.frame.items ≡ s.reply.frame.items → LineIsDone sight line p s o s.reply → OrderDone sight (untold line) p s'
order_untold_line sight line p s s' o none at same cleared kept d = record { after = d.after; answer = d.answer; framing = d.framing; does = d.does; stands = rw (at, same) d.stands; answer_is = cleared; frame_is = kept ∙ (d.appends.framed ∙ ap (λ (l : List ℕ). l ++ d.framing) none) }

-- ---- with the sinks

-- a history that a run stands for is legal, true and whole, by the laws about desks
pub lawful_at : DesksAreTrue → DesksAreWhole → (sight : Sight) (p : Play) (now : ℕ) (o : Option Session) → StandsAt sight p now o → IsLawful p.history
lawful_at is_true is_whole sight p now None is = subst (λ (q : Play). IsLawful q.history) (sym is) tt
lawful_at is_true is_whole sight p now (Some s) at = by p.history at.1.stands
  where
    by : (h : History) → Stands s.desk h → IsLawful h
    by [] stands = tt
    by (e ∷ g) stands = let t = is_true s.desk (e ∷ g) stands in (t.0, t.1, is_whole s.desk (e ∷ g) stands)

begins-more : (xs ys zs : List ℕ) → BeginsWith ys zs → BeginsWith (xs ++ ys) (xs ++ zs)
begins-more xs ys zs b = (b.0, ap (λ (l : List ℕ). xs ++ l) b.1 ∙ sym (append_assoc xs zs b.0))

gained-more : (o a a' : Option (List ℕ)) (xs ys : List ℕ) → a ≡ gained o xs → a' ≡ gained a ys → a' ≡ gained o (xs ++ ys)
gained-more o a a' xs ys p q = q ∙ (ap (λ (x : Option (List ℕ)). gained x ys) p ∙ gained-gained o xs ys)

gains-more : (b n n' : Sinks) (a f own_a own_f : List ℕ) → Gains b n a f → Gains n n' own_a own_f → Gains b n' (a ++ own_a) (f ++ own_f)
gains-more b n n' a f own_a own_f g w = record {
  answered = gained-more b.wrote n.wrote n'.wrote a own_a g.answered w.answered;
  framed = gained-more b.framed n.framed n'.framed f own_f g.framed w.framed;
  later_answers = omega (arith, g.later_answers, w.later_answers);
  later_frames = omega (arith, g.later_frames, w.later_frames);
}

failed-earlier : (b n n' : Sinks) → b.wrote_faults ≤ n.wrote_faults → b.framed_faults ≤ n.framed_faults → HaveFailed n n' → HaveFailed b n'
failed-earlier b n n' le le' (inl rose) = inl (omega (arith, le, rose))
failed-earlier b n n' le le' (inr rose) = inr (omega (arith, le', rose))

pub front : (text : List ℕ) (n : ℕ) → BeginsWith text (take n text)
front text n = (drop n text, sym (take-append-drop n text))

-- the frames and the answer were written
pub wrote_both : (n : Sinks) (answer framing : List ℕ) (a f : Option (List ℕ)) (ac fc : ℕ) → a ≡ gained n.wrote answer → n.wrote_faults ≤ ac → f ≡ gained n.framed framing → n.framed_faults ≤ fc → Gains n (held a ac f fc) answer framing
wrote_both n answer framing a f ac fc answered later framed later' = record { answered = answered; framed = framed; later_answers = later; later_frames = later' }

-- a front of the frames was
pub frames_cut : (n : Sinks) (answer framing : List ℕ) (f : Option (List ℕ)) (fc : ℕ) → GainedFront n.framed f framing → n.framed_faults ≤ fc → Rose n.framed_faults fc → GainsFronts n (held n.wrote n.wrote_faults f fc) answer framing
frames_cut n answer framing f fc put later rose = record {
  own_a = [];
  own_f = take put.0 framing;
  answer_begins = (answer, refl);
  framing_begins = front framing put.0;
  in_order = inl refl;
  gains = record { answered = sym (gained-none n.wrote); framed = put.2; later_answers = omega arith; later_frames = later };
  failed = inr rose;
}

-- the frames were, and a front of the answer
pub answer_cut : (n : Sinks) (answer framing : List ℕ) (a f : Option (List ℕ)) (ac fc : ℕ) → GainedFront n.wrote a answer → n.wrote_faults ≤ ac → Rose n.wrote_faults ac → f ≡ gained n.framed framing → n.framed_faults ≤ fc → GainsFronts n (held a ac f fc) answer framing
answer_cut n answer framing a f ac fc put later rose framed later' = record {
  own_a = take put.0 answer;
  own_f = framing;
  answer_begins = front answer put.0;
  framing_begins = ([], sym (append-nil framing));
  in_order = inr refl;
  gains = record { answered = put.2; framed = framed; later_answers = later; later_frames = later' };
  failed = inl rose;
}

module _ (order : Order) (orders : List Order) (p : Play) (b n : Sinks) (t : Told orders p b n) where
  plays-more : (q : Play) (answer shown : List ℕ) → (does : Does (line_in order) p q answer shown) → Plays (order ∷ orders) q (t.answers ++ told_by order answer) (t.framings ++ shown) (t.bytes ++ (printed (line_in order) p q answer shown does).0)
  plays-more q answer shown does =
      let w = printed (line_in order) p q answer shown does in
      (p, t.answers, t.framings, t.bytes, t.plays, record { answer = answer; own_f = shown; own_bytes = w.0; does = does; prints = w.1; answered = refl; framed = refl; joined = refl })

  -- the order was done, and all of it told
  told-more : (q : Play) (answer shown : List ℕ) (n' : Sinks) → Does (line_in order) p q answer shown → Gains n n' (told_by order answer) shown → Told (order ∷ orders) q b n'
  told-more q answer shown n' does gains = record {
    answers = t.answers ++ told_by order answer;
    framings = t.framings ++ shown;
    bytes = t.bytes ++ (printed (line_in order) p q answer shown does).0;
    plays = plays-more q answer shown does;
    gains = gains-more b n n' t.answers t.framings (told_by order answer) shown t.gains gains;
  }

  -- it was done, and a sink failed
  short-more : (q : Play) (answer shown : List ℕ) (n' : Sinks) → Does (line_in order) p q answer shown → IsLawful q.history → GainsFronts n n' (told_by order answer) shown → ShortOf (order ∷ orders) b n'
  short-more q answer shown n' does is_lawful w = record {
    orders = order ∷ orders;
    play = q;
    answers = t.answers ++ told_by order answer;
    framings = t.framings ++ shown;
    own_a = t.answers ++ w.own_a;
    own_f = t.framings ++ w.own_f;
    first = ([], refl);
    tells = tells (order ∷ orders) q (t.answers ++ told_by order answer) (t.framings ++ shown) (t.bytes ++ (printed (line_in order) p q answer shown does).0) (plays-more q answer shown does) is_lawful;
    answers_begin = begins-more t.answers (told_by order answer) w.own_a w.answer_begins;
    framings_begin = begins-more t.framings shown w.own_f w.framing_begins;
    newest = record {
      before = p;
      before_a = t.answers;
      before_f = t.framings;
      before_bytes = t.bytes;
      plays = t.plays;
      answer = answer;
      framing = shown;
      does = does;
      own_a = w.own_a;
      own_f = w.own_f;
      answer_begins = w.answer_begins;
      framing_begins = w.framing_begins;
      in_order = w.in_order;
      answered = refl;
      framed = refl;
    };
    gains = gains-more b n n' t.answers t.framings w.own_a w.own_f t.gains w.gains;
    failed = failed-earlier b n n' t.gains.later_answers t.gains.later_frames w.failed;
  }

module _ (sight : Sight) (orders : List Order) (r : Run) (b n : Sinks) (at : At sight orders r b n) where
  -- all was done
  pub all_done : AllDone orders b n
  all_done = record { play = at.play; told = at.told; lawful = at.lawful }

  -- the next order was halted
  pub halted : (order : Order) (halt : Halt) (number : ℕ) → number ≡ r.lines + 1 → Halts (line_in order) at.play halt → StoppedIn (order ∷ orders) (stop_of halt number) b n
  halted order no_memory number is h = record { orders = orders; first = (order ∷ [], refl); done = record { play = at.play; told = at.told; lawful = at.lawful } }
  halted order OutsideGrammar number is h = record { orders = orders; next = order; first = ([], refl); done = record { play = at.play; told = at.told; lawful = at.lawful }; is_refused = (h, omega (arith, is, at.count)) }
  halted order (is_worn entries) number is h = record { orders = orders; next = order; first = ([], refl); done = record { play = at.play; told = at.told; lawful = at.lawful }; is_refused = h }

  -- no memory was found for more orders
  pub none_done : (more : List Order) → StoppedIn (more ++ orders) NoMemory b n
  none_done more = record { orders = orders; first = (more, refl); done = record { play = at.play; told = at.told; lawful = at.lawful } }

  -- it was done, and what it tells was written, or fronts of that
  pub order_told : DesksAreTrue → DesksAreWhole → (order : Order) (r' : Run) (n' : Sinks) → OrderDone sight order at.play r'.state → is_some r'.state.session ≡ (starts order || is_some r.state.session) → r'.lines ≡ r.lines + 1 → (result : Result (Unit {0}) Stop)
      → Wrote result n n' r'.state.reply.answer.items r'.state.reply.frame.items → Ends sight (order ∷ orders) result r' b n'
  order_told is_true is_whole order r' n' d opened count result w = by result (subst (λ (f : List ℕ). Wrote result n n' (told_by order d.answer) f) d.frame_is (subst (λ (a : List ℕ). Wrote result n n' a r'.state.reply.frame.items) d.answer_is w))
    where
      lawful_after : IsLawful d.after.history
      lawful_after = lawful_at is_true is_whole sight d.after r'.state.moment r'.state.session d.stands

      by : (result : Result (Unit {0}) Stop) → Wrote result n n' (told_by order d.answer) d.framing → Ends sight (order ∷ orders) result r' b n'
      by (Ok u) w = record {
        play = d.after;
        told = told-more order orders at.play b n at.told d.after d.answer d.framing n' d.does w;
        lawful = lawful_after;
        stands = d.stands;
        opened = ap (λ (x : Bool). starts order || x) at.opened ∙ sym opened;
        count = omega (arith, count, at.count);
      }
      by (Err WriteFault) w = short-more order orders at.play b n at.told d.after d.answer d.framing n' d.does lawful_after w
      by (Err ReadFault) w = absurd w
      by (Err NoMemory) w = absurd w
      by (Err (Refused refused)) w = absurd w

  -- .. and the run goes on from the play before
  pub order_goes : (is_true : DesksAreTrue) (is_whole : DesksAreWhole) (order : Order) (r' : Run) (n' : Sinks) (d : OrderDone sight order at.play r'.state) (opened : is_some r'.state.session ≡ (starts order || is_some r.state.session)) (count : r'.lines ≡ r.lines + 1) (result : Result (Unit {0}) Stop)
      → Wrote result n n' r'.state.reply.answer.items r'.state.reply.frame.items → OnOk result (Goes sight order orders at.play r' b n')
  order_goes is_true is_whole order r' n' d opened count (Ok u) w =
      let wrote = subst (λ (f : List ℕ). Wrote (Ok u) n n' (told_by order d.answer) f) d.frame_is (subst (λ (a : List ℕ). Wrote (Ok u) n n' a r'.state.reply.frame.items) d.answer_is w) in
      record {
        next = record {
          play = d.after;
          told = told-more order orders at.play b n at.told d.after d.answer d.framing n' d.does wrote;
          lawful = lawful_at is_true is_whole sight d.after r'.state.moment r'.state.session d.stands;
          stands = d.stands;
          opened = ap (λ (x : Bool). starts order || x) at.opened ∙ sym opened;
          count = omega (arith, count, at.count);
        };
        answer = d.answer;
        framing = d.framing;
        does = d.does;
      }
  order_goes is_true is_whole order r' n' d opened count (Err stop) w = tt

-- what stopped in some orders stopped in more of them
later : {A : Type 0} (xs ys zs : List A) → IsLater xs ys → IsLater ys zs → IsLater xs zs
later xs ys zs p q = (q.0 ++ p.0, q.1 ∙ (ap (λ l. q.0 ++ l) p.1 ∙ sym (append_assoc q.0 p.0 xs)))

pub stopped-later : (orders all : List Order) (stop : Stop) (b n : Sinks) → IsLater orders all → StoppedIn orders stop b n → StoppedIn all stop b n
stopped-later orders all WriteFault b n more s = record {
  orders = s.orders;
  play = s.play;
  answers = s.answers;
  framings = s.framings;
  own_a = s.own_a;
  own_f = s.own_f;
  first = later s.orders orders all s.first more;
  tells = s.tells;
  answers_begin = s.answers_begin;
  framings_begin = s.framings_begin;
  newest = s.newest;
  gains = s.gains;
  failed = s.failed;
}
stopped-later orders all NoMemory b n more s = record { orders = s.orders; first = later s.orders orders all s.first more; done = s.done }
stopped-later orders all (Refused refused) b n more s = record { orders = s.orders; next = s.next; first = later (s.next ∷ s.orders) orders all s.first more; done = s.done; is_refused = s.is_refused }
stopped-later orders all ReadFault b n more s = absurd s

-- nothing was done yet
pub nothing_done : (sight : Sight) (r : Run) (b : Sinks) → r.state.moment ≡ 0 → is_some r.state.session ≡ false → r.lines ≡ 0 → At sight [] r b b
nothing_done sight r b at none count = record {
  play = play 0 [];
  told = record { answers = []; framings = []; bytes = []; plays = (refl, refl, refl, refl); gains = record { answered = sym (gained-none b.wrote); framed = sym (gained-none b.framed); later_answers = omega arith; later_frames = omega arith } };
  lawful = tt;
  stands = by r.state.session none;
  opened = sym none;
  count = count;
}
  where
    by : (o : Option Session) → is_some o ≡ false → StandsAt sight (play 0 []) r.state.moment o
    by None e = ap (λ (now : ℕ). play now []) (sym at)
    by (Some s) e = absurd (let w : true ≡ false = e in cc)

-- the run stands there still when more bytes were read
pub still_at : (sight : Sight) (orders : List Order) (r r' : Run) (b n : Sinks) → r'.state ≡ r.state → r'.lines ≡ r.lines → At sight orders r b n → At sight orders r' b n
still_at sight orders r r' b n same count at = record { play = at.play; told = at.told; lawful = at.lawful; stands = rw same at.stands; opened = rw same at.opened; count = count ∙ at.count }

-- the orders of one more piece of `draw`
pub draw_more : (form : TextForm) (size : Size) (pieces : List (List ℕ)) (piece : List ℕ) → form ≡ Draw size → untold (Acknowledge 1) ∷ untold (Read 1) ∷ told (Server piece) ∷ lines_of form pieces ≡ lines_of form (piece ∷ pieces)
draw_more (Draw s) size pieces piece is = refl
draw_more (Script entries) size pieces piece is = absurd (let w : Script entries ≡ Draw size = is in cc)

-- a piece of a script is the line that it is judged to be
pub script_more : (form : TextForm) (entries : ℕ) (pieces : List (List ℕ)) (piece : List ℕ) (opened : Bool) (read : ℕ) → form ≡ Script entries → list_any starts (lines_of form pieces) ≡ opened → read ≡ total pieces
    → told (judged entries opened read piece) ∷ lines_of form pieces ≡ lines_of form (piece ∷ pieces)
script_more (Script e) entries pieces piece opened read is opens at = let same : e ≡ entries = is_of is in rw (sym same, sym opens, at) refl
  where
    is_of : Script e ≡ Script entries → e ≡ entries
    is_of q = cc
script_more (Draw size) entries pieces piece opened read is opens at = absurd (let w : Draw size ≡ Script entries = is in cc)

-- `draw` never asks what viewers see, and a script may
pub draw_sight : (form : TextForm) (size : Size) → form ≡ Draw size → sight_of form ≡ Unplayed
draw_sight (Draw s) size is = refl
draw_sight (Script entries) size is = absurd (let w : Script entries ≡ Draw size = is in cc)

pub script_sight : (form : TextForm) (entries : ℕ) → form ≡ Script entries → sight_of form ≡ Played
script_sight (Script e) entries is = refl
script_sight (Draw size) entries is = absurd (let w : Draw size ≡ Script entries = is in cc)

pub at_sight : (one other : Sight) (orders : List Order) (r : Run) (b n : Sinks) → one ≡ other → At one orders r b n → At other orders r b n
at_sight one other orders r b n is at = subst (λ (s : Sight). At s orders r b n) is at

pub draw_begins : (form : TextForm) (size : Size) → form ≡ Draw size → told (Join Owner) ∷ told (Start size Nobody most_entries) ∷ [] ≡ lines_of form []
draw_begins (Draw s) size is = let same : s ≡ size = is_of is in rw (sym same) refl
  where
    is_of : Draw s ≡ Draw size → s ≡ size
    is_of q = cc
draw_begins (Script entries) size is = absurd (let w : Script entries ≡ Draw size = is in cc)

pub script_begins : (form : TextForm) (entries : ℕ) → form ≡ Script entries → [] ≡ lines_of form []
script_begins (Script e) entries is = refl
script_begins (Draw size) entries is = absurd (let w : Draw size ≡ Script entries = is in cc)

pub draw_ending : (form : TextForm) (size : Size) (orders : List Order) → form ≡ Draw size → told Done ∷ orders ≡ ending form orders
draw_ending (Draw s) size orders is = refl
draw_ending (Script entries) size orders is = absurd (let w : Script entries ≡ Draw size = is in cc)

pub script_ending : (form : TextForm) (entries : ℕ) (orders : List Order) → form ≡ Script entries → orders ≡ ending form orders
script_ending (Script e) entries orders is = refl
script_ending (Draw size) entries orders is = absurd (let w : Draw size ≡ Script entries = is in cc)

-- what stopped in a call stopped in its piece
pub piece_stops : (form : TextForm) (pieces : List (List ℕ)) (orders : List Order) (r : Run) (b n : Sinks) (result : Result (Unit {0}) Stop) (stop : Stop) → orders ≡ lines_of form pieces → result ≡ Err stop → StoppedIn orders stop b n → PieceEnds form pieces result r b n
piece_stops form pieces orders r b n result stop is failed s = subst (λ (x : Result (Unit {0}) Stop). PieceEnds form pieces x r b n) (sym failed) (subst (λ (os : List Order). StoppedIn os stop b n) is s)

-- what a call did, its piece did
pub piece_ends : (form : TextForm) (pieces : List (List ℕ)) (orders : List Order) (r : Run) (b n : Sinks) (result : Result (Unit {0}) Stop) → orders ≡ lines_of form pieces → r.read ≡ total pieces → Ends (sight_of form) orders result r b n → PieceEnds form pieces result r b n
piece_ends form pieces orders r b n (Ok u) is read e = record { at = subst (λ (os : List Order). At (sight_of form) os r b n) is e; read = read }
piece_ends form pieces orders r b n (Err stop) is read e = subst (λ (os : List Order). StoppedIn os stop b n) is e

-- its bytes were read
pub piece_read : (form : TextForm) (pieces : List (List ℕ)) (piece : List ℕ) (orders : List Order) (r r' : Run) (b n : Sinks) → orders ≡ lines_of form (piece ∷ pieces) → r'.state ≡ r.state → r'.lines ≡ r.lines → r'.read ≡ total pieces + length piece → At (sight_of form) orders r b n → HasDone form (piece ∷ pieces) r' b n
piece_read form pieces piece orders r r' b n is same count read at = record { at = still_at (sight_of form) (lines_of form (piece ∷ pieces)) r r' b n same count (subst (λ (os : List Order). At (sight_of form) os r b n) is at); read = read }

-- an open session has started, so its calls stand in place
pub placed : (o : Option Session) (line : Line) → IsOpen o → in_place true line ≡ line → in_place (is_some o) line ≡ line
placed None line n is = absurd n
placed (Some s) line n is = is

-- the last order was done, or the call stopped in it
pub last_ends : (sight : Sight) (orders : List Order) (r : Run) (b n : Sinks) (result : Result (Unit {0}) Stop) → Ends sight orders result r b n → LastEnds orders result b n
last_ends sight orders r b n (Ok u) e = all_done sight orders r b n e
last_ends sight orders r b n (Err stop) e = e
