-- What each call of a session does.
use Rattle.std.proofs.Common.{◌≡◌, ℕ, List, [], ◌∷◌, ◌++◌, length, take, arith, length-take, length-drop, ◌-◌, ◌≤◌, Bool, true, false, inl, inr, refl, ap, sym, ◌∙◌, subst, append-nil}
use Rattle.std.specs.Prelude.{Result, Ok, Err, Some, IfSome, min, codes, ◌&&◌, ◌==◌, if◌then◌else◌, IsTrue, ◌↔◌}
use Rattle.std.specs.Option.{is_some}
use Rattle.std.proofs.lemmas.List.{take_min}
use Rattle.std.proofs.Math.Seq.{take-length}
use Rattle.gate_model.specs.declared.act.Act.{Act}
use Rattle.gate_model.specs.declared.answer.Answer.{Answer}
use Rattle.gate_model.specs.declared.answer.Answer.TheVariants.{Feed as fed, Join as joined_as, Read as was_read, Write as was_written, Resize as was_resized, Take as was_taken, Leave as was_left, Close as was_closed}
use Rattle.gate_model.specs.declared.how.How.{How}
use Rattle.gate_model.specs.declared.instr.Instr.{Instr}
use Rattle.gate_model.specs.declared.cause.Cause.TheVariants.{Stopped}
use Rattle.gate_model.specs.declared.closed.Closed.{Closed}
use Rattle.gate_model.specs.declared.no_viewer.NoViewer.{NoViewer}
use Rattle.gate_model.specs.declared.sharing.Asked.{Asked}
use Rattle.gate_model.specs.declared.sharing.Role.{Role}
use Rattle.gate_model.specs.declared.faces.Faces.{Faces}
use Rattle.gate_model.specs.declared.faces.Faces.TheVariants.{Ascii}
use Rattle.gate_model.specs.declared.sharing.Share.{Share}
use Rattle.gate_model.specs.declared.entry.Entry.{Entry}
use Rattle.gate_model.specs.declared.entry.Entry.TheVariants.{Start, Feed, Size as size_entry, Join, Read, Write, Take, Leave, Close}
use Rattle.gate_model.specs.declared.event.Event.{Event}
use Rattle.gate_model.specs.declared.event.Event.TheVariants.{Feed as feed, Join as join_in, Read as read_as, Write as write_acts, Resize as resize_to, Take as take_most, Leave as leave_as, Close as close_for}
use Rattle.gate_model.specs.declared.joined.Joined.{Joined}
use Rattle.gate_model.specs.declared.written.Written.{Written}
use Rattle.gate_model.specs.declared.feed_refusal.FeedRefusal.{FeedRefusal}
use Rattle.gate_model.specs.declared.join_refusal.JoinRefusal.{JoinRefusal}
use Rattle.gate_model.specs.declared.feed_refusal.FeedRefusal.TheVariants.{Worn as feed_worn}
use Rattle.gate_model.specs.declared.join_refusal.JoinRefusal.TheVariants.{Worn as join_worn}
use Rattle.gate_model.specs.declared.read_answer.ReadAnswer.{ReadAnswer}
use Rattle.gate_model.specs.declared.read_answer.ReadAnswer.TheVariants.{Frames, Fresh, Ended, Empty, Hold}
use Rattle.gate_model.specs.declared.read_refusal.ReadRefusal.{ReadRefusal}
use Rattle.gate_model.specs.declared.read_refusal.ReadRefusal.TheVariants.{Worn as read_worn}
use Rattle.gate_model.specs.declared.resize_refusal.ResizeRefusal.{ResizeRefusal}
use Rattle.gate_model.specs.declared.resize_refusal.ResizeRefusal.TheVariants.{Worn as resize_worn}
use Rattle.gate_model.specs.declared.write_refusal.WriteRefusal.{WriteRefusal}
use Rattle.gate_model.specs.declared.write_refusal.WriteRefusal.TheVariants.{Worn as write_worn}
use Rattle.gate_model.specs.text.Text.{texts}
use Rattle.gate_model.specs.session.History.{History, joined, newest, newest_frame, next_stamp, is_closed}
use Rattle.gate_model.specs.session.Delivered.{delivered, given}
use Rattle.gate_model.specs.session.Output.{out, taken, untaken}
use Rattle.gate_model.specs.session.Rights.{is_live}
use Rattle.gate_model.specs.text.Statuses.{not_found, session_closed}
use Rattle.gate_model.specs.session.Calls.{Step, take_entry}
use Rattle.gate_model.proofs.Stepping.{take_step}
use Rattle.gate_model.specs.session.Runs.{handed_out}
use Rattle.desk_core.specs.Desk.{DeskState, Stands}
use Rattle.desk_core.specs.Calls.{Opened, Answered, OnNothing}
use Rattle.gate_script.specs.declared.halt.Halt.{Halt}
use Rattle.gate_script.specs.declared.halt.Halt.TheVariants.{NoMemory, OutsideGrammar, Worn}
use Rattle.gate_script.specs.declared.reply.Reply.{Reply}
use Rattle.script_grammar.specs.declared.size.Size.{Size}
use Rattle.script_grammar.specs.declared.line.Line.{Line}
use Rattle.script_grammar.specs.declared.line.Line.TheVariants.{Start as start, Server as server, Join as join, Read as read, Write as write, Resize as resize, Take as take_up_to, Leave as leave, Close as close, Pixel as pixel_at, Same as alike_to, Acknowledge as acknowledge, Done as done, Press as press_key, Totals as tell_totals}
use Rattle.gate_script.specs.Told.{answer_line, answer_to, frames_line, framings, joined_line, read_told, refused_line, written_line, write_answer, pixel_line, same_line, differ_line, took_line, totals_lines}
use Rattle.gate_script.specs.Plays.{Play, Does, Calls, Answers, Writes, acknowledgement, setup_of, seen, pixel_answer, Compares, press, Agree, TellsTotals, rows_sum, sum_seen}
use Rattle.gate_script.specs.declared.sight.Sight.{Sight}
use Rattle.gate_script.specs.declared.sight.Sight.TheVariants.{Played, Unplayed}
use Rattle.gate_script.specs.Seeing.{AddsCanvas, AgreeWithFirst, Canvases, AreSeen, AreShown, PlaysOn, TakesAway, canvas_at}
use Rattle.gate_script.specs.Calls.{Adds, Appends, CallEnds, Halts, IsAt, LineDone, MaySee, StartEnds, WriteEnds, play, read_shown}
use Rattle.gate_script.proofs.StepLaws.{Gave, IsGiven, feed_adds, feed_stopped, join_adds, join_stopped, read_adds, read_stopped, write_adds, write_stopped, resize_adds, resize_stopped, leave_adds, leave_stopped, close_adds, close_stopped, take_is}
use Rattle.gate_script.proofs.ShownLaws.{at_place, shown_none, shown_plain, shown_join, shown_read, shown_still, shown_leave, given_by_join}
use Rattle.canvas.specs.Kept.{KeptLayer}
use Rattle.canvas.specs.Standing.{Stands as stands_for, dot_at}
use Rattle.canvas.specs.declared.dot.Dot.{Dot}
use Rattle.script_grammar.specs.declared.reading.Reading.TheVariants.{Whole}
use Rattle.script_grammar.specs.Acts.{IsReading}
use Rattle.gate_model.specs.picture.Layers.{Layers, Same, visible}
use Rattle.gate_script.specs.declared.session.Session.{Session}
use Rattle.script_grammar.specs.declared.totals.Totals.{Totals}
use Rattle.std.proofs.lemmas.Bool.{leb-true, leb-false}
use Rattle.std.proofs.lemmas.Bool.Decides.{eqb_tells}
use Rattle.std.proofs.lemmas.List.{get_or_past}
use Rattle.std.proofs.Common.{◌+◌, ◌<◌, ◌⊎◌, get_or}
use Rattle.std.specs.Prelude.{Option, None, nat_le}

-- the line was done by a session that stands for the history then
pub line_ends : (sight : Sight) (line : Line) (p : Play) (h : History) (n : Session) (o o' : Reply) (answer shown : List ℕ) → Does line p (play p.now h) answer shown → Stands n.desk h → AreSeen sight n.canvases.items h → (r : Result (Unit {0}) Halt) → Adds r o o' answer shown → CallEnds sight line p r n o o'
line_ends sight line p h n o o' answer shown does stands canvases (Ok u) adds = record { history = h; answer = answer; framing = shown; does = does; at = record { stands = stands; shown = canvases }; appends = adds }
line_ends sight line p h n o o' answer shown does stands canvases (Err NoMemory) adds = tt
line_ends sight line p h n o o' answer shown does stands canvases (Err OutsideGrammar) adds = absurd adds
line_ends sight line p h n o o' answer shown does stands canvases (Err (Worn entries)) adds = absurd adds

-- acts were written or refused by a session that stands for the history then
acts_end : (sight : Sight) (viewer : ℕ) (acts : List Act) (passed : ℕ) (p : Play) (h : History) (n : Session) (o o' : Reply) (answer shown : List ℕ) → Writes viewer acts passed p (play p.now h) answer shown → Stands n.desk h → AreSeen sight n.canvases.items h → (r : Result (Unit {0}) Halt) → Adds r o o' answer shown → WriteEnds sight viewer acts passed p r n o o'
acts_end sight viewer acts passed p h n o o' answer shown writes stands canvases (Ok u) adds = record { history = h; answer = answer; framing = shown; writes = writes; at = record { stands = stands; shown = canvases }; appends = adds }
acts_end sight viewer acts passed p h n o o' answer shown writes stands canvases (Err NoMemory) adds = tt
acts_end sight viewer acts passed p h n o o' answer shown writes stands canvases (Err OutsideGrammar) adds = absurd adds
acts_end sight viewer acts passed p h n o o' answer shown writes stands canvases (Err (Worn entries)) adds = absurd adds

same_items : (n m : Session) → n.canvases ≡ m.canvases → n.canvases.items ≡ m.canvases.items
same_items n m e = rw e refl

same_given : (n m : Session) → n.given ≡ m.given → n.given.items ≡ m.given.items
same_given n m e = rw e refl

-- a call added this entry, and then the desk stands for the history with it
pub record AddedOne (h : History) (event : Event) (answer : Answer) (new : DeskState) (before after : List ℕ) (e : Entry) : Type 0 where
  pub step : Step h event answer (e ∷ [])
  pub stands : Stands new (e ∷ h)
  pub appended : after ≡ before ++ texts (handed_out h event answer (e ∷ []))

pub added_one : (h : History) (event : Event) (answer : Answer) (new : DeskState) (before after : List ℕ) (ends : Answered h event answer new before after) (e : Entry) → ends.added ≡ e ∷ [] → AddedOne h event answer new before after e
added_one h event answer new before after ends e is = record {
  step = subst (Step h event answer) is ends.step;
  stands = subst (λ (es : List Entry). Stands new (es ++ h)) is ends.stands;
  appended = subst (λ (es : List Entry). after ≡ before ++ texts (handed_out h event answer es)) is ends.appended;
}

-- what an entry shows
framed-feed : (h : History) (bytes : List ℕ) (stamp : ℕ) (frame : List Instr) → frames_line 0 (texts frame) ≡ framings h (Feed bytes stamp frame ∷ [])
framed-feed h bytes stamp frame = sym (append-nil (frames_line 0 (texts frame)))

framed-size : (h : History) (viewer cols rows stamp : ℕ) (frame : List Instr) → frames_line 0 (texts frame) ≡ framings h (size_entry viewer cols rows stamp frame ∷ [])
framed-size h viewer cols rows stamp frame = sym (append-nil (frames_line 0 (texts frame)))

framed-start : (e : Entry) (cols rows : ℕ) (mode : Share) (term : List ℕ) (faces : Faces) (entries stamp : ℕ) (frame : List Instr) → e ≡ Start cols rows mode term faces entries stamp frame → frames_line 0 (texts (newest_frame (e ∷ []))) ≡ framings [] (e ∷ [])
framed-start e cols rows mode term faces entries stamp frame is = rw is (sym (append-nil (frames_line 0 (texts frame))))

framed-join : (h : History) (v : ℕ) (role : Role) (first : List Instr) → frames_line v (texts (given h (delivered h v) v (Join v role first))) ≡ framings h (Join v role first ∷ [])
framed-join h v role first = ap (λ (l : List Instr). frames_line v (texts l)) (given_by_join h (Join v role first) v role first refl) ∙ sym (append-nil (frames_line v (texts first)))

framed-read : (h : History) (v : ℕ) (how : How) → frames_line v (texts (given h (delivered h v) v (Read v how))) ≡ framings h (Read v how ∷ [])
framed-read h v how = sym (append-nil (frames_line v (texts (given h (delivered h v) v (Read v how)))))

framed-take : (h : History) (count : ℕ) (none : Bool) → [] ≡ framings h (if none then [] else Take count ∷ [])
framed-take h count true = refl
framed-take h count false = refl

shown-take : (cs : Canvases) (h : History) (count : ℕ) (none : Bool) → AreShown cs h → AreShown cs ((if none then [] else Take count ∷ []) ++ h)
shown-take cs h count true a = a
shown-take cs h count false a = shown_plain cs h (Take count) a refl (λ v. refl) (λ v. refl) (λ v. refl)

-- the session has started
pub started : (sight : Sight) (size : Size) (mode : Share) (entries now : ℕ) (s : Session) (o o' : Reply) → (opened : Opened (setup_of size mode entries) now s.desk) → s.canvases.items ≡ []
    → (stamp : ℕ) (text : List ℕ) → stamp ≡ newest (opened.entry ∷ []) → text ≡ texts (newest_frame (opened.entry ∷ []))
    → Appends o o' (answer_line (codes "started") (stamp ∷ [])) (frames_line 0 text) → LineDone sight (start size mode entries) (play now []) s o o'
started sight size mode entries now s o o' opened none stamp text stamp_is text_is appends =
    let is = opened.step.4 in
    let newest_is : newest (opened.entry ∷ []) ≡ next_stamp 0 now = ap (λ (e : Entry). newest (e ∷ [])) is in
    record {
      history = opened.entry ∷ [];
      answer = answer_line (codes "started") (stamp ∷ []);
      framing = frames_line 0 text;
      does = record {
        fresh = refl;
        entry = opened.entry;
        step = opened.step;
        after_it = refl;
        answered = ap (λ (s : ℕ). answer_line (codes "started") (s ∷ [])) (stamp_is ∙ newest_is);
        framed = ap (frames_line 0) text_is ∙ framed-start opened.entry size.cols size.rows mode (codes "linux") Ascii entries (next_stamp 0 now) opened.step.1 is;
      };
      at = record {
        stands = opened.stands;
        shown = λ look. shown_none s.canvases.items (opened.entry ∷ []) none (ap (λ (e : Entry). joined (e ∷ [])) is) (λ v. ap (λ (e : Entry). is_live (e ∷ []) v) is);
      };
      appends = appends;
    }

-- it couldn't be told that it has
pub not_started : (sight : Sight) (size : Size) (mode : Share) (entries now : ℕ) (o o' : Reply) (answer shown : List ℕ) (halt : Halt) (r : Result Session Halt) → r ≡ Err halt → Adds (Err halt) o o' answer shown → StartEnds sight (start size mode entries) (play now []) r o o'
not_started sight size mode entries now o o' answer shown NoMemory r is adds = rw is tt
not_started sight size mode entries now o o' answer shown OutsideGrammar r is adds = absurd adds
not_started sight size mode entries now o o' answer shown (Worn count) r is adds = absurd adds

handed_is : (bs cs : List ℕ) (b c : Bool) → was_taken bs b ≡ was_taken cs c → (bs ≡ cs) × (b ≡ c)
handed_is bs cs b c e = (cc, cc)

-- a front of a list that is as long as the list
take-all : (count : ℕ) (bytes : List ℕ) → length bytes ≤ count → take count bytes ≡ bytes
take-all count bytes long =
    let all : min count (length bytes) ≡ length bytes = omega (arith, long) in
    sym (take_min count bytes) ∙ (ap (λ (k : ℕ). take k bytes) all ∙ take-length bytes)

-- a line that asks what viewers see is done where that is played
pub pixel_seen : (sight : Sight) (viewer x y : ℕ) → MaySee sight (pixel_at viewer x y) → sight ≡ Played
pixel_seen Played viewer x y may = refl
pixel_seen Unplayed viewer x y may = absurd may

pub same_seen : (sight : Sight) (one other : ℕ) → MaySee sight (alike_to one other) → sight ≡ Played
same_seen Played one other may = refl
same_seen Unplayed one other may = absurd may

pub totals_seen : (sight : Sight) (totals : Totals) → MaySee sight (tell_totals totals) → sight ≡ Played
totals_seen Played totals may = refl
totals_seen Unplayed totals may = absurd may

module _ (sight : Sight) (now : ℕ) (s : Session) (o o' : Reply) (h : History) (at : IsAt sight s h) where
  abbrev pub p : Play
  p = play now h

  -- the call was refused, or gave nothing, and that was told
  pub nothing_added : (line : Line) (event : Event) (result : Answer) (answer : List ℕ) (n : Session) → Step h event result [] → answer_to result event ≡ Some answer
      → (Calls event p p answer [] → Does line p p answer []) → n.desk ≡ s.desk → n.canvases.items ≡ s.canvases.items → (r : Result (Unit {0}) Halt) → Adds r o o' answer [] → CallEnds sight line p r n o o'
  nothing_added line event result answer n step told does same seen_same r put =
      line_ends sight line p h n o o' answer [] (does (record { result = result; added = []; step = step; told = told; after_it = refl; framed = refl })) (subst (λ (k : DeskState). Stands k h) (sym same) at.stands) (subst (λ (cs : Canvases). AreSeen sight cs h) (sym seen_same) at.shown) r put

  -- no call of the line changed anything
  pub was_stopped : (line : Line) (event : Event) (result : Answer) (answer : List ℕ) (n : Session) (before after : List ℕ) (ends : Answered h event result n.desk before after) → ends.added ≡ [] → answer_to result event ≡ Some answer
      → (Calls event p p answer [] → Does line p p answer []) → n.desk ≡ s.desk → n.canvases.items ≡ s.canvases.items → (r : Result (Unit {0}) Halt) → Adds r o o' answer [] → CallEnds sight line p r n o o'
  was_stopped line event result answer n before after ends none told does same seen_same r put = nothing_added line event result answer n (subst (Step h event result) none ends.step) told does same seen_same r put

  -- the host's bytes were fed
  pub bytes_fed : (bytes : List ℕ) (stamp : ℕ) (n : Session) → Answered h (feed bytes now) (fed (Ok stamp)) n.desk [] [] → n.canvases.items ≡ s.canvases.items → (text : List ℕ) → ((h : History) → Stands n.desk h → text ≡ texts (newest_frame h)) → (r : Result (Unit {0}) Halt)
      → Adds r o o' (answer_line (codes "synced") (stamp ∷ [])) (frames_line 0 text) → CallEnds sight (server bytes) p r n o o'
  bytes_fed bytes stamp n ends same text text_is r w =
      let adds = feed_adds h bytes now stamp ends.added ends.step in
      let e : Entry = Feed bytes stamp adds.0 in
      let one = added_one h (feed bytes now) (fed (Ok stamp)) n.desk [] [] ends e adds.1 in
      line_ends sight (server bytes) p (e ∷ h) n o o' (answer_line (codes "synced") (stamp ∷ [])) (frames_line 0 text)
      (record { result = fed (Ok stamp); added = e ∷ []; step = one.step; told = refl; after_it = refl; framed = ap (frames_line 0) (text_is (e ∷ h) one.stands) ∙ framed-feed h bytes stamp adds.0 }) one.stands
      (subst (λ (cs : Canvases). AreSeen sight cs (e ∷ h)) (sym same) (λ look. shown_plain s.canvases.items h e (at.shown look) refl (λ v. refl) (λ v. refl) (λ v. refl))) r w

  pub feed_refused : (bytes : List ℕ) (refusal : FeedRefusal) (answer : List ℕ) (n : Session) → Answered h (feed bytes now) (fed (Err refusal)) n.desk [] [] → answer_to (fed (Err refusal)) (feed bytes now) ≡ Some answer
      → n.desk ≡ s.desk → n.canvases.items ≡ s.canvases.items → (r : Result (Unit {0}) Halt) → Adds r o o' answer [] → CallEnds sight (server bytes) p r n o o'
  feed_refused bytes refusal answer n ends told same seen_same r put =
      was_stopped (server bytes) (feed bytes now) (fed (Err refusal)) answer n [] [] ends (feed_stopped h bytes now refusal ends.added ends.step) told (λ calls. calls) same seen_same r put

  pub feed_is_worn : (bytes : List ℕ) (entries : ℕ) (new : DeskState) → Answered h (feed bytes now) (fed (Err (feed_worn entries))) new [] [] → Halts (server bytes) p (Worn entries)
  feed_is_worn bytes entries new ends =
      (fed (Err (feed_worn entries)), record { event = feed bytes now; makes = refl; step = subst (Step h (feed bytes now) (fed (Err (feed_worn entries)))) (feed_stopped h bytes now (feed_worn entries) ends.added ends.step) ends.step }, refl)

  -- a viewer gave the screen another size
  pub screen_sized : (viewer : ℕ) (size : Size) (stamp : ℕ) (n : Session) → Answered h (resize_to viewer size.cols size.rows) (was_resized (Ok stamp)) n.desk [] [] → n.canvases.items ≡ s.canvases.items → (text : List ℕ) → ((h : History) → Stands n.desk h → text ≡ texts (newest_frame h)) → (r : Result (Unit {0}) Halt)
      → Adds r o o' (answer_line (codes "sized") (stamp ∷ [])) (frames_line 0 text) → CallEnds sight (resize viewer size) p r n o o'
  screen_sized viewer size stamp n ends same text text_is r w =
      let adds = resize_adds h viewer size.cols size.rows stamp ends.added ends.step in
      let e : Entry = size_entry viewer size.cols size.rows stamp adds.0 in
      let one = added_one h (resize_to viewer size.cols size.rows) (was_resized (Ok stamp)) n.desk [] [] ends e adds.1 in
      line_ends sight (resize viewer size) p (e ∷ h) n o o' (answer_line (codes "sized") (stamp ∷ [])) (frames_line 0 text)
      (record { result = was_resized (Ok stamp); added = e ∷ []; step = one.step; told = refl; after_it = refl; framed = ap (frames_line 0) (text_is (e ∷ h) one.stands) ∙ framed-size h viewer size.cols size.rows stamp adds.0 }) one.stands
      (subst (λ (cs : Canvases). AreSeen sight cs (e ∷ h)) (sym same) (λ look. shown_plain s.canvases.items h e (at.shown look) refl (λ v. refl) (λ v. refl) (λ v. refl))) r w

  pub size_refused : (viewer : ℕ) (size : Size) (refusal : ResizeRefusal) (answer : List ℕ) (n : Session) → Answered h (resize_to viewer size.cols size.rows) (was_resized (Err refusal)) n.desk [] [] → answer_to (was_resized (Err refusal)) (resize_to viewer size.cols size.rows) ≡ Some answer
      → n.desk ≡ s.desk → n.canvases.items ≡ s.canvases.items → (r : Result (Unit {0}) Halt) → Adds r o o' answer [] → CallEnds sight (resize viewer size) p r n o o'
  size_refused viewer size refusal answer n ends told same seen_same r put =
      was_stopped (resize viewer size) (resize_to viewer size.cols size.rows) (was_resized (Err refusal)) answer n [] [] ends (resize_stopped h viewer size.cols size.rows refusal ends.added ends.step) told (λ calls. calls) same seen_same r put

  pub size_is_worn : (viewer : ℕ) (size : Size) (entries : ℕ) (new : DeskState) → Answered h (resize_to viewer size.cols size.rows) (was_resized (Err (resize_worn entries))) new [] [] → Halts (resize viewer size) p (Worn entries)
  size_is_worn viewer size entries new ends =
      let event = resize_to viewer size.cols size.rows in
      (was_resized (Err (resize_worn entries)), record { event = event; makes = refl; step = subst (Step h event (was_resized (Err (resize_worn entries)))) (resize_stopped h viewer size.cols size.rows (resize_worn entries) ends.added ends.step) ends.step }, refl)

  -- the session b after a viewer joined, n after the viewer's canvas was added
  pub record JoinedThenAdded (asked : Asked) (given_ : Joined) (b n : Session) (before : List ℕ) : Type 0 where
    pub none : before ≡ []
    pub ends : Answered h (join_in asked) (joined_as (Ok given_)) b.desk before b.given.items
    pub adds_canvas : sight ≡ Played → AddsCanvas s.canvases.items n.canvases.items b.given.items
    pub desk_is : n.desk ≡ b.desk
    pub same_text : n.given ≡ b.given

  -- a viewer joined
  pub viewer_joined : (asked : Asked) (given_ : Joined) (b n : Session) (before text : List ℕ) → JoinedThenAdded asked given_ b n before → text ≡ n.given.items → (r : Result (Unit {0}) Halt)
      → Adds r o o' (joined_line given_) (frames_line given_.viewer text) → CallEnds sight (join asked) p r n o o'
  viewer_joined asked given_ b n before text t is r w =
      let adds = join_adds h asked given_ t.ends.added t.ends.step in
      let e : Entry = Join given_.viewer given_.role adds.first in
      let one = added_one h (join_in asked) (joined_as (Ok given_)) b.desk before b.given.items t.ends e adds.adds in
      let given_is : b.given.items ≡ texts (given h (delivered h given_.viewer) given_.viewer e) = one.appended ∙ ap (λ (l : List ℕ). l ++ texts (given h (delivered h given_.viewer) given_.viewer e)) t.none in
      let text_is : text ≡ b.given.items = is ∙ same_given n b t.same_text in
      line_ends sight (join asked) p (e ∷ h) n o o' (joined_line given_) (frames_line given_.viewer text)
      (record { result = joined_as (Ok given_); added = e ∷ []; step = one.step; told = refl; after_it = refl; framed = ap (frames_line given_.viewer) (text_is ∙ given_is) ∙ framed-join h given_.viewer given_.role adds.first })
      (subst (λ (d : DeskState). Stands d (e ∷ h)) (sym t.desk_is) one.stands)
      (λ look. let more = t.adds_canvas look in
      subst (λ (cs : Canvases). AreShown cs (e ∷ h)) (sym more.grown) (shown_join s.canvases.items h e given_.viewer given_.role adds.first more.canvas b.desk s.desk refl adds.is_next at.stands one.stands (at.shown look)
      (λ readable. more.plays adds.first readable (given_is ∙ ap texts (given_by_join h e given_.viewer given_.role adds.first refl))))) r w

  pub join_refused : (asked : Asked) (refusal : JoinRefusal) (answer : List ℕ) (n : Session) (before after : List ℕ) → Answered h (join_in asked) (joined_as (Err refusal)) n.desk before after → answer_to (joined_as (Err refusal)) (join_in asked) ≡ Some answer
      → n.desk ≡ s.desk → n.canvases.items ≡ s.canvases.items → (r : Result (Unit {0}) Halt) → Adds r o o' answer [] → CallEnds sight (join asked) p r n o o'
  join_refused asked refusal answer n before after ends told same seen_same r put =
      was_stopped (join asked) (join_in asked) (joined_as (Err refusal)) answer n before after ends (join_stopped h asked refusal ends.added ends.step) told (λ calls. calls) same seen_same r put

  pub join_is_worn : (asked : Asked) (entries : ℕ) (new : DeskState) (before after : List ℕ) → Answered h (join_in asked) (joined_as (Err (join_worn entries))) new before after → Halts (join asked) p (Worn entries)
  join_is_worn asked entries new before after ends =
      (joined_as (Err (join_worn entries)), record { event = join_in asked; makes = refl; step = subst (Step h (join_in asked) (joined_as (Err (join_worn entries)))) (join_stopped h asked (join_worn entries) ends.added ends.step) ends.step }, refl)

  -- what a read did that was answered: its call, and that the canvases go on to show what was given
  pub record HasReadLine (viewer : ℕ) (answer : ReadAnswer) (n : DeskState) (text : List ℕ) : Type 0 where
    pub history : History
    pub calls : Calls (read_as viewer) p (play now history) (read_told answer) (read_shown viewer text answer)
    pub stands : Stands n history
    pub shown : (cs : Canvases) → PlaysOn s.canvases.items cs viewer text → AreSeen sight cs history

  gave_nothing : (viewer : ℕ) (answer : ReadAnswer) (n : DeskState) (before text : List ℕ) → (IsGiven (Ok answer) → ⊥) → Answered h (read_as viewer) (was_read (Ok answer)) n before text → read_shown viewer text answer ≡ [] → n ≡ s.desk → text ≡ [] → HasReadLine viewer answer n text
  gave_nothing viewer answer n before text other ends unshown same none = record {
    history = h;
    calls = record { result = was_read (Ok answer); added = []; step = subst (Step h (read_as viewer) (was_read (Ok answer))) (read_stopped h viewer (Ok answer) ends.added other ends.step) ends.step; told = refl; after_it = refl; framed = unshown };
    stands = subst (λ (k : DeskState). Stands k h) (sym same) at.stands;
    shown = λ cs plays look. shown_still s.canvases.items cs h viewer text none (at.shown look) plays;
  }

  gave_something : (viewer : ℕ) (answer : ReadAnswer) (n : DeskState) (before text : List ℕ) → Gave answer → before ≡ [] → Answered h (read_as viewer) (was_read (Ok answer)) n before text → read_shown viewer text answer ≡ frames_line viewer text → HasReadLine viewer answer n text
  gave_something viewer answer n before text gave none ends shown_is =
      let adds = read_adds h viewer answer ends.added gave ends.step in
      let how = adds.0 in
      let e : Entry = Read viewer how in
      let one = added_one h (read_as viewer) (was_read (Ok answer)) n before text ends e adds.1 in
      let text_is : text ≡ texts (given h (delivered h viewer) viewer e) = one.appended ∙ ap (λ (l : List ℕ). l ++ texts (given h (delivered h viewer) viewer e)) none in
      record {
        history = e ∷ h;
        calls = record { result = was_read (Ok answer); added = e ∷ []; step = one.step; told = refl; after_it = refl; framed = shown_is ∙ (ap (frames_line viewer) text_is ∙ framed-read h viewer how) };
        stands = one.stands;
        shown = λ cs plays look. shown_read s.canvases.items cs h e viewer how text n refl one.stands (at.shown look) text_is plays;
      }

  pub was_answered : (viewer : ℕ) (answer : ReadAnswer) (n : DeskState) (before text : List ℕ) → before ≡ [] → Answered h (read_as viewer) (was_read (Ok answer)) n before text → OnNothing (Ok answer) (n ≡ s.desk) → OnNothing (Ok answer) (text ≡ before) → HasReadLine viewer answer n text
  was_answered viewer (Frames count stamp closed) n before text none ends same kept = gave_something viewer (Frames count stamp closed) n before text tt none ends refl
  was_answered viewer (Fresh stamp closed) n before text none ends same kept = gave_something viewer (Fresh stamp closed) n before text tt none ends refl
  was_answered viewer Ended n before text none ends same kept = gave_nothing viewer Ended n before text (λ frames. frames) ends refl same (kept ∙ none)
  was_answered viewer Empty n before text none ends same kept = gave_nothing viewer Empty n before text (λ frames. frames) ends refl same (kept ∙ none)
  was_answered viewer (Hold waiting) n before text none ends same kept = gave_nothing viewer (Hold waiting) n before text (λ frames. frames) ends refl same (kept ∙ none)

  pub read_line : (viewer : ℕ) (answer : ReadAnswer) (n : Session) (text : List ℕ) → (did : HasReadLine viewer answer n.desk text) → PlaysOn s.canvases.items n.canvases.items viewer text → (r : Result (Unit {0}) Halt)
      → Adds r o o' (read_told answer) (read_shown viewer text answer) → CallEnds sight (read viewer) p r n o o'
  read_line viewer answer n text did plays r w = line_ends sight (read viewer) p did.history n o o' (read_told answer) (read_shown viewer text answer) did.calls did.stands (did.shown n.canvases.items plays) r w

  -- a read that is refused adds nothing
  read_step_refused : (viewer : ℕ) (refusal : ReadRefusal) (new : DeskState) (before after : List ℕ) → Answered h (read_as viewer) (was_read (Err refusal)) new before after → Step h (read_as viewer) (was_read (Err refusal)) []
  read_step_refused viewer refusal new before after ends = subst (Step h (read_as viewer) (was_read (Err refusal))) (read_stopped h viewer (Err refusal) ends.added (λ frames. frames) ends.step) ends.step

  pub read_refused : (viewer : ℕ) (refusal : ReadRefusal) (answer : List ℕ) (n : Session) (before after : List ℕ) → Answered h (read_as viewer) (was_read (Err refusal)) n.desk before after → answer_to (was_read (Err refusal)) (read_as viewer) ≡ Some answer
      → n.desk ≡ s.desk → n.canvases.items ≡ s.canvases.items → (r : Result (Unit {0}) Halt) → Adds r o o' answer [] → CallEnds sight (read viewer) p r n o o'
  read_refused viewer refusal answer n before after ends told same seen_same r put =
      nothing_added (read viewer) (read_as viewer) (was_read (Err refusal)) answer n (read_step_refused viewer refusal n.desk before after ends) told (λ calls. calls) same seen_same r put

  pub read_is_worn : (viewer entries : ℕ) (new : DeskState) (before after : List ℕ) → Answered h (read_as viewer) (was_read (Err (read_worn entries))) new before after → Halts (read viewer) p (Worn entries)
  read_is_worn viewer entries new before after ends = (was_read (Err (read_worn entries)), record { event = read_as viewer; makes = refl; step = read_step_refused viewer (read_worn entries) new before after ends }, refl)

  -- a write that is refused adds nothing
  write_step_refused : (viewer : ℕ) (acts : List Act) (refusal : WriteRefusal) (new : DeskState) → Answered h (write_acts viewer acts) (was_written (Err refusal)) new [] [] → Step h (write_acts viewer acts) (was_written (Err refusal)) []
  write_step_refused viewer acts refusal new ends = subst (Step h (write_acts viewer acts) (was_written (Err refusal))) (write_stopped h viewer acts refusal ends.added ends.step) ends.step

  -- the newest stamp was told
  pub all_told : (stamp : ℕ) → stamp ≡ newest h → (n : Session) → n.desk ≡ s.desk → n.canvases.items ≡ s.canvases.items → (r : Result (Unit {0}) Halt) → Adds r o o' (answer_line (codes "done") (stamp ∷ [])) [] → CallEnds sight (done) p r n o o'
  all_told stamp is n same seen_same r put =
      line_ends sight done p h n o o' (answer_line (codes "done") (stamp ∷ [])) [] (record { same = refl; answered = ap (λ (t : ℕ). answer_line (codes "done") (t ∷ [])) is; framed = refl }) (subst (λ (k : DeskState). Stands k h) (sym same) at.stands) (subst (λ (cs : Canvases). AreSeen sight cs h) (sym seen_same) at.shown) r put

  -- the session b after a viewer's read, n after what was given was played
  pub record ReadThenPlayed (viewer : ℕ) (answer : ReadAnswer) (b n : Session) (before : List ℕ) : Type 0 where
    pub none : before ≡ []
    pub ends : Answered h (read_as viewer) (was_read (Ok answer)) b.desk before b.given.items
    pub unchanged : OnNothing (Ok answer) (b.desk ≡ s.desk)
    pub buffer : OnNothing (Ok answer) (b.given.items ≡ before)
    pub played : PlaysOn s.canvases.items n.canvases.items viewer b.given.items
    pub desk_is : n.desk ≡ b.desk
    pub same_text : n.given ≡ b.given

  pub read_done : (viewer : ℕ) (answer : ReadAnswer) (b n : Session) (before text : List ℕ) → ReadThenPlayed viewer answer b n before → text ≡ n.given.items → (r : Result (Unit {0}) Halt)
      → Adds r o o' (read_told answer) (read_shown viewer text answer) → CallEnds sight (read viewer) p r n o o'
  read_done viewer answer b n before text t is r w =
      let did : HasReadLine viewer answer n.desk b.given.items = subst (λ (d : DeskState). HasReadLine viewer answer d b.given.items) (sym t.desk_is) (was_answered viewer answer b.desk before b.given.items t.none t.ends t.unchanged t.buffer) in
      read_line viewer answer n b.given.items did t.played r (subst (λ (text : List ℕ). Adds r o o' (read_told answer) (read_shown viewer text answer)) (is ∙ same_given n b t.same_text) w)

  -- something was told, and nothing changed
  pub told_alone : (line : Line) (answer : List ℕ) (n : Session) → (Answers p p answer answer [] → Does line p p answer []) → n.desk ≡ s.desk → n.canvases.items ≡ s.canvases.items → (r : Result (Unit {0}) Halt) → Adds r o o' answer [] → CallEnds sight line p r n o o'
  told_alone line answer n does same seen_same r put =
      line_ends sight line p h n o o' answer [] (does (record { same = refl; answered = refl; framed = refl })) (subst (λ (k : DeskState). Stands k h) (sym same) at.stands) (subst (λ (cs : Canvases). AreSeen sight cs h) (sym seen_same) at.shown) r put

  -- acts were written
  pub acts_written : (viewer : ℕ) (acts : List Act) (passed : ℕ) (counts : Written) (n : Session) → Answered h (write_acts viewer acts) (was_written (Ok counts)) n.desk [] [] → n.canvases.items ≡ s.canvases.items
      → (keys denied others : ℕ) → keys ≡ counts.keys → denied ≡ counts.denied → others ≡ passed → (r : Result (Unit {0}) Halt) → Adds r o o' (answer_line (codes "written") (keys ∷ denied ∷ others ∷ [])) [] → WriteEnds sight viewer acts passed p r n o o'
  acts_written viewer acts passed counts n ends same keys denied others keys_is denied_is others_is r put =
      let one = added_one h (write_acts viewer acts) (was_written (Ok counts)) n.desk [] [] ends (Write viewer acts) (write_adds h viewer acts counts ends.added ends.step) in
      let line_is : answer_line (codes "written") (keys ∷ denied ∷ others ∷ []) ≡ written_line counts passed = rw (keys_is, denied_is, others_is) refl in
      acts_end sight viewer acts passed p (Write viewer acts ∷ h) n o o' (written_line counts passed) []
      (record { result = Ok counts; added = Write viewer acts ∷ []; step = one.step; told = refl; after_it = refl; framed = refl })
      one.stands (subst (λ (cs : Canvases). AreSeen sight cs (Write viewer acts ∷ h)) (sym same) (λ look. shown_plain s.canvases.items h (Write viewer acts) (at.shown look) refl (λ v. refl) (λ v. refl) (λ v. refl))) r
      (subst (λ (text_ : List ℕ). Adds r o o' text_ []) line_is put)

  -- they were refused
  pub acts_refused : (viewer : ℕ) (acts : List Act) (passed : ℕ) (refusal : WriteRefusal) (answer : List ℕ) (n : Session) → Answered h (write_acts viewer acts) (was_written (Err refusal)) n.desk [] [] → write_answer (Err refusal) passed ≡ Some answer → n.desk ≡ s.desk → n.canvases.items ≡ s.canvases.items
      → (r : Result (Unit {0}) Halt) → Adds r o o' answer [] → WriteEnds sight viewer acts passed p r n o o'
  acts_refused viewer acts passed refusal answer n ends told same seen_same r put =
      acts_end sight viewer acts passed p h n o o' answer []
      (record { result = Err refusal; added = []; step = write_step_refused viewer acts refusal n.desk ends; told = told; after_it = refl; framed = refl })
      (subst (λ (k : DeskState). Stands k h) (sym same) at.stands) (subst (λ (cs : Canvases). AreSeen sight cs h) (sym seen_same) at.shown) r put

  pub acts_are_worn : (viewer : ℕ) (acts : List Act) (entries : ℕ) (new : DeskState) → Answered h (write_acts viewer acts) (was_written (Err (write_worn entries))) new [] [] → Step h (write_acts viewer acts) (was_written (Err (write_worn entries))) []
  acts_are_worn viewer acts entries new ends = write_step_refused viewer acts (write_worn entries) new ends

  -- they were those of a text
  pub text_ends : (viewer : ℕ) (text : List ℕ) (acts : List Act) (passed : ℕ) → IsReading text (Whole acts passed) → (n : Session) (r : Result (Unit {0}) Halt) → WriteEnds sight viewer acts passed p r n o o' → CallEnds sight (write viewer text) p r n o o'
  text_ends viewer text acts passed is_reading n (Ok u) w = record { history = w.history; answer = w.answer; framing = w.framing; does = (Whole acts passed, is_reading, w.writes); at = w.at; appends = w.appends }
  text_ends viewer text acts passed is_reading n (Err NoMemory) w = tt
  text_ends viewer text acts passed is_reading n (Err OutsideGrammar) w = absurd w
  text_ends viewer text acts passed is_reading n (Err (Worn entries)) w = (was_written (Err (write_worn entries)), record { event = write_acts viewer acts; makes = (acts, passed, is_reading, refl); step = w }, refl)

  -- they were the acknowledgement of the newest stamp
  pub acknowledges : (viewer : ℕ) (acts : List Act) → acts ≡ acknowledgement h → (n : Session) (r : Result (Unit {0}) Halt) → WriteEnds sight viewer acts 0 p r n o o' → CallEnds sight (acknowledge viewer) p r n o o'
  acknowledges viewer acts is n r w = by r (subst (λ (l : List Act). WriteEnds sight viewer l 0 p r n o o') is w)
    where
      by : (r : Result (Unit {0}) Halt) → WriteEnds sight viewer (acknowledgement h) 0 p r n o o' → CallEnds sight (acknowledge viewer) p r n o o'
      by (Ok u) w = record { history = w.history; answer = w.answer; framing = w.framing; does = w.writes; at = w.at; appends = w.appends }
      by (Err NoMemory) w = tt
      by (Err OutsideGrammar) w = absurd w
      by (Err (Worn entries)) w = (was_written (Err (write_worn entries)), record { event = write_acts viewer (acknowledgement h); makes = refl; step = w }, refl)

  -- they were the press of a key
  pub presses_key : (viewer keysym : ℕ) (n : Session) (r : Result (Unit {0}) Halt) → WriteEnds sight viewer (press keysym) 0 p r n o o' → CallEnds sight (press_key viewer keysym) p r n o o'
  presses_key viewer keysym n (Ok u) w = record { history = w.history; answer = w.answer; framing = w.framing; does = w.writes; at = w.at; appends = w.appends }
  presses_key viewer keysym n (Err NoMemory) w = tt
  presses_key viewer keysym n (Err OutsideGrammar) w = absurd w
  presses_key viewer keysym n (Err (Worn entries)) w = (was_written (Err (write_worn entries)), record { event = write_acts viewer (press keysym); makes = refl; step = w }, refl)

  -- bytes were taken for the host, and filled the buffer
  pub bytes_taken : (most count : ℕ) (closed : Bool) (before after : List ℕ) (n : Session) → length before ≡ min (length (out h) - taken h) most → length after ≡ length before → Answered h (take_most (length before)) (was_taken (take count after) closed) n.desk [] [] → n.canvases.items ≡ s.canvases.items
      → (r : Result (Unit {0}) Halt) → Adds r o o' (took_line after) [] → CallEnds sight (take_up_to most) p r n o o'
  bytes_taken most count closed before after n sized kept ends same r put =
      let waiting : List ℕ = untaken h in
      let size : length before ≡ min most (length waiting) = omega (arith, sized, length-drop (taken h) (out h)) in
      let is = take_is h (length before) (was_taken (take count after) closed) ends.added ends.step in
      let told = handed_is (take count after) (take (length before) waiting) closed (is_closed h) is.told in
      let next : take (length before) waiting ≡ take most waiting = ap (λ (k : ℕ). take k waiting) size ∙ take_min most waiting in
      let whole_is : take count after ≡ after = take-all count after (omega (arith, length-take count after, ap length told.0, length-take (length before) waiting, size, kept)) in
      let filled : after ≡ take most waiting = sym whole_is ∙ (told.0 ∙ next) in
      let none : Bool = length after == 0 in
      let adds : ends.added ≡ take_entry (length after) = is.adds ∙ ap (λ (l : List ℕ). take_entry (length l)) (sym told.0 ∙ whole_is) in
      line_ends sight (take_up_to most) p (take_entry (length after) ++ h) n o o' (took_line after) []
      (record {
        result = was_taken after closed;
        added = take_entry (length after);
        step = take_step h most after closed filled told.1;
        told = refl;
        after_it = refl;
        framed = framed-take h (length after) none;
      })
      (subst (λ (es : List Entry). Stands n.desk (es ++ h)) adds ends.stands)
      (subst (λ (cs : Canvases). AreSeen sight cs (take_entry (length after) ++ h)) (sym same) (λ look. shown-take s.canvases.items h (length after) none (at.shown look))) r
      put

  -- the viewer left, and its canvas was taken away
  pub viewer_left : (viewer : ℕ) (u : Unit {0}) (m n : Session) → Answered h (leave_as viewer) (was_left (Ok u)) m.desk [] [] → TakesAway s.canvases.items m.canvases.items viewer → n.desk ≡ m.desk → n.canvases.items ≡ m.canvases.items
      → (r : Result (Unit {0}) Halt) → Adds r o o' (answer_line (codes "left") (viewer ∷ [])) [] → CallEnds sight (leave viewer) p r n o o'
  viewer_left viewer u m n ends taken_away desk_is canvases_are r put =
      let e : Entry = Leave viewer in
      let one = added_one h (leave_as viewer) (was_left (Ok u)) m.desk [] [] ends e (leave_adds h viewer u ends.added ends.step) in
      line_ends sight (leave viewer) p (e ∷ h) n o o' (answer_line (codes "left") (viewer ∷ [])) []
      (record { result = was_left (Ok u); added = e ∷ []; step = one.step; told = refl; after_it = refl; framed = refl })
      (subst (λ (d : DeskState). Stands d (e ∷ h)) (sym desk_is) one.stands)
      (subst (λ (cs : Canvases). AreSeen sight cs (e ∷ h)) (sym canvases_are) (λ look. shown_leave s.canvases.items m.canvases.items h e viewer refl (at.shown look) taken_away)) r
      put

  pub leave_refused : (viewer : ℕ) (refusal : NoViewer) (n : Session) → Answered h (leave_as viewer) (was_left (Err refusal)) n.desk [] [] → n.desk ≡ s.desk → n.canvases.items ≡ s.canvases.items
      → (r : Result (Unit {0}) Halt) → Adds r o o' (refused_line not_found) [] → CallEnds sight (leave viewer) p r n o o'
  leave_refused viewer refusal n ends same seen_same r put =
      was_stopped (leave viewer) (leave_as viewer) (was_left (Err refusal)) (refused_line not_found) n [] [] ends (leave_stopped h viewer refusal ends.added ends.step) refl (λ calls. calls) same seen_same r put

  -- the session was closed
  pub session_ended : (u : Unit {0}) (n : Session) → Answered h (close_for Stopped) (was_closed (Ok u)) n.desk [] [] → n.canvases.items ≡ s.canvases.items
      → (r : Result (Unit {0}) Halt) → Adds r o o' (answer_line (codes "closed") []) [] → CallEnds sight close p r n o o'
  session_ended u n ends same r put =
      let e : Entry = Close Stopped in
      let one = added_one h (close_for Stopped) (was_closed (Ok u)) n.desk [] [] ends e (close_adds h Stopped u ends.added ends.step) in
      line_ends sight close p (e ∷ h) n o o' (answer_line (codes "closed") []) []
      (record { result = was_closed (Ok u); added = e ∷ []; step = one.step; told = refl; after_it = refl; framed = refl })
      one.stands
      (subst (λ (cs : Canvases). AreSeen sight cs (e ∷ h)) (sym same) (λ look. shown_plain s.canvases.items h e (at.shown look) refl (λ v. refl) (λ v. refl) (λ v. refl))) r
      put

  pub close_refused : (refusal : Closed) (n : Session) → Answered h (close_for Stopped) (was_closed (Err refusal)) n.desk [] [] → n.desk ≡ s.desk → n.canvases.items ≡ s.canvases.items
      → (r : Result (Unit {0}) Halt) → Adds r o o' (refused_line session_closed) [] → CallEnds sight close p r n o o'
  close_refused refusal n ends same seen_same r put =
      was_stopped close (close_for Stopped) (was_closed (Err refusal)) (refused_line session_closed) n [] [] ends (close_stopped h Stopped refusal ends.added ends.step) refl (λ calls. calls) same seen_same r put

-- what viewers see is told, where it is played
module _ (now : ℕ) (s : Session) (o o' : Reply) (h : History) (at : IsAt Played s h) where
  shown : AreShown s.canvases.items h
  shown = at.shown refl

  -- who is there has a canvas
  live_is : (viewer : ℕ) (cs : Canvases) (b : Bool) → cs ≡ s.canvases.items → b ≡ is_some (canvas_at cs viewer) → is_live h viewer ≡ b
  live_is viewer cs b cs_are is = sym (shown.there viewer) ∙ (ap (λ (l : Canvases). is_some (canvas_at l viewer)) (sym cs_are) ∙ sym is)

  -- what a viewer who is there sees at a place
  pub pixel_told : (viewer x y : ℕ) (dot : Dot) (cs : Canvases) → cs ≡ s.canvases.items → true ≡ is_some (canvas_at cs viewer) → ((m : Layers) → IfSome (canvas_at cs viewer) (λ canvas. stands_for canvas m) → dot ≡ dot_at (m visible) x y) → pixel_line dot ≡ pixel_answer h viewer x y
  pixel_told viewer x y dot cs cs_are is dots =
      let shows_ : IfSome (canvas_at cs viewer) (λ canvas. stands_for canvas (seen h viewer)) = rw cs_are (shown.shows viewer) in
      ap pixel_line (dots (seen h viewer) shows_) ∙ sym (ap (λ (b : Bool). if b then pixel_line (dot_at (seen h viewer visible) x y) else refused_line not_found) (live_is viewer cs true cs_are is))

  pub no_pixel : (viewer x y : ℕ) (cs : Canvases) → cs ≡ s.canvases.items → false ≡ is_some (canvas_at cs viewer) → refused_line not_found ≡ pixel_answer h viewer x y
  no_pixel viewer x y cs cs_are is = sym (ap (λ (b : Bool). if b then pixel_line (dot_at (seen h viewer visible) x y) else refused_line not_found) (live_is viewer cs false cs_are is))

  both_live : (one other : ℕ) (cs : Canvases) (b : Bool) → cs ≡ s.canvases.items → b ≡ (is_some (canvas_at cs one) && is_some (canvas_at cs other)) → (is_live h one && is_live h other) ≡ b
  both_live one other cs b cs_are is =
      let first : is_live h one ≡ is_some (canvas_at cs one) = live_is one cs (is_some (canvas_at cs one)) cs_are refl in
      let second : is_live h other ≡ is_some (canvas_at cs other) = live_is other cs (is_some (canvas_at cs other)) cs_are refl in
      rw (first, second) (sym is)

  -- whether two viewers who are there see the same
  pub compared : (one other : ℕ) (same_ : Bool) (cs : Canvases) → cs ≡ s.canvases.items → true ≡ (is_some (canvas_at cs one) && is_some (canvas_at cs other))
      → ((m n : Layers) → IfSome (canvas_at cs one) (λ canvas. stands_for canvas m) → IfSome (canvas_at cs other) (λ canvas. stands_for canvas n) → IsTrue same_ ↔ Same m n)
      → Compares h one other (if same_ then same_line else differ_line)
  compared one other same_ cs cs_are is tells = told_of same_ (tells (seen h one) (seen h other) (shows_ one) (shows_ other))
    where
      is_both : (is_live h one && is_live h other) ≡ true
      is_both = both_live one other cs true cs_are is

      shows_ : (v : ℕ) → IfSome (canvas_at cs v) (λ canvas. stands_for canvas (seen h v))
      shows_ v = rw cs_are (shown.shows v)

      told_of : (b : Bool) → IsTrue b ↔ Same (seen h one) (seen h other) → Compares h one other (if b then same_line else differ_line)
      told_of true t = inr (is_both, inl (t.0 refl, refl))
      told_of false t = inr (is_both, inr (λ alike. let w : false ≡ true = t.1 alike in cc, refl))

  pub not_compared : (one other : ℕ) (cs : Canvases) → cs ≡ s.canvases.items → false ≡ (is_some (canvas_at cs one) && is_some (canvas_at cs other)) → Compares h one other (refused_line not_found)
  not_compared one other cs cs_are is = inl (both_live one other cs false cs_are is, refl)

  -- ---- what a run comes to

  shows_at : (v : ℕ) → IfSome (canvas_at s.canvases.items v) (λ canvas. stands_for canvas (seen h v))
  shows_at v = shown.shows v

  both_there : (v : ℕ) → (is_live h 1 && is_live h v) ≡ true → (is_some (canvas_at s.canvases.items 1) && is_some (canvas_at s.canvases.items v)) ≡ true
  both_there v live = rw (shown.there 1, shown.there v) live

  nobody : (v : ℕ) → canvas_at s.canvases.items v ≡ None → (is_live h 1 && is_live h v) ≡ true → ⊥
  nobody v none live =
      let w = both_there v live in
      let e : (is_some (canvas_at s.canvases.items 1) && false) ≡ true = subst (λ (o : Option (List KeptLayer)). (is_some (canvas_at s.canvases.items 1) && is_some o) ≡ true) none w in
      by (is_some (canvas_at s.canvases.items 1)) e
    where
      by : (b : Bool) → (b && false) ≡ true → ⊥
      by true e = cc
      by false e = cc

  alike_at : (v : ℕ) → AgreeWithFirst s.canvases.items true → (is_live h 1 && is_live h v) ≡ true → Same (seen h 1) (seen h v)
  alike_at v agree live = by (eqb_tells v 0) (eqb_tells_less v)
    where
      eqb_tells_less : (v : ℕ) → (v - 1 < length s.canvases.items) ⊎ (length s.canvases.items ≤ v - 1)
      eqb_tells_less v = less_or (nat_le (length s.canvases.items) (v - 1)) refl
        where
          less_or : (b : Bool) → nat_le (length s.canvases.items) (v - 1) ≡ b → (v - 1 < length s.canvases.items) ⊎ (length s.canvases.items ≤ v - 1)
          less_or true e = inr (leb-true (length s.canvases.items) (v - 1) e)
          less_or false e = inl (leb-false (length s.canvases.items) (v - 1) e)

      by : (((v == 0) ≡ true) × (v ≡ 0)) ⊎ (((v == 0) ≡ false) × (v ≡ 0 → ⊥)) → (v - 1 < length s.canvases.items) ⊎ (length s.canvases.items ≤ v - 1) → Same (seen h 1) (seen h v)
      by (inl q) less = absurd (nobody v (ap (canvas_at s.canvases.items) q.1) live)
      by (inr q) (inl less) =
          let place = at_place s.canvases.items v q.1 in
          agree (v - 1) less (seen h 1) (seen h v) (shows_at 1) (subst (λ (o : Option (List KeptLayer)). IfSome o (λ canvas. stands_for canvas (seen h v))) place (shows_at v))
          (subst (λ (o : Option (List KeptLayer)). (is_some (canvas_at s.canvases.items 1) && is_some o) ≡ true) place (both_there v live))
      by (inr q) (inr past) = absurd (nobody v (at_place s.canvases.items v q.1 ∙ get_or_past s.canvases.items (v - 1) None past) live)

  unlike_at : AgreeWithFirst s.canvases.items false → Agree h → ⊥
  unlike_at w agree =
      let v : ℕ = w.0 + 1 in
      let back : v - 1 ≡ w.0 = omega arith in
      let place : canvas_at s.canvases.items v ≡ get_or s.canvases.items w.0 None = at_place s.canvases.items v (λ zero_. absurd (omega (arith, zero_))) ∙ ap (λ (k : ℕ). get_or s.canvases.items k None) back in
      let there : (is_some (canvas_at s.canvases.items 1) && is_some (canvas_at s.canvases.items v)) ≡ true = subst (λ (o : Option (List KeptLayer)). (is_some (canvas_at s.canvases.items 1) && is_some o) ≡ true) (sym place) w.1.there in
      let live : (is_live h 1 && is_live h v) ≡ true = rw (sym (shown.there 1), sym (shown.there v)) there in
      w.1.differ (seen h 1) (seen h v) (shows_at 1) (subst (λ (o : Option (List KeptLayer)). IfSome o (λ canvas. stands_for canvas (seen h v))) place (shows_at v)) (agree v live)

  sum_of : (sum : ℕ) (b : Bool) → is_live h 1 ≡ b → (b ≡ false → sum ≡ 0) → (b ≡ true → sum ≡ rows_sum (seen h 1 visible) (seen h 1 visible).height) → sum ≡ (if b then rows_sum (seen h 1 visible) (seen h 1 visible).height else 0)
  sum_of sum true live none some = some refl
  sum_of sum false live none some = none refl

  pub totals_are_told : (totals : Totals) (joins stamp sum : ℕ) (agree : Bool) (cs : Canvases) → cs ≡ s.canvases.items → joins ≡ length s.canvases.items → stamp ≡ newest h
      → (is_some (canvas_at cs 1) ≡ false → sum ≡ 0) → ((m : Layers) → is_some (canvas_at cs 1) ≡ true → IfSome (canvas_at cs 1) (λ canvas. stands_for canvas m) → sum ≡ rows_sum (m visible) (m visible).height)
      → AgreeWithFirst s.canvases.items agree → TellsTotals totals h (totals_lines totals joins stamp sum agree)
  totals_are_told totals joins stamp sum agree cs cs_are joins_are stamp_is none some agrees = by agree agrees
    where
      live : (b : Bool) → is_live h 1 ≡ b → is_some (canvas_at cs 1) ≡ b
      live b e = ap (λ (l : Canvases). is_some (canvas_at l 1)) cs_are ∙ (shown.there 1 ∙ e)

      first_shown : IfSome (canvas_at cs 1) (λ canvas. stands_for canvas (seen h 1))
      first_shown = subst (λ (l : Canvases). IfSome (canvas_at l 1) (λ canvas. stands_for canvas (seen h 1))) (sym cs_are) (shows_at 1)

      sum_is : sum ≡ sum_seen h
      sum_is = sum_of sum (is_live h 1) refl (λ e. none (live false e)) (λ e. some (seen h 1) (live true e) first_shown)

      joins_is : joins ≡ joined h
      joins_is = joins_are ∙ shown.count

      by : (agree : Bool) → AgreeWithFirst s.canvases.items agree → TellsTotals totals h (totals_lines totals joins stamp sum agree)
      by true w = inl (λ v live. alike_at v w live, rw (joins_is, stamp_is, sum_is) refl)
      by false w = inr (unlike_at w, rw (joins_is, stamp_is, sum_is) refl)
