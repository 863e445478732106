-- One message is answered, or isn't.
use Rattle.std.proofs.Common.{◌≡◌, ◌⊎◌, inl, inr, ⊎_elim, ℕ, List, [], ◌∷◌, ◌++◌, length, take, Bool, true, false, refl, ap, sym, ◌∙◌, subst, append-nil, ltb-false}
use Rattle.std.specs.Prelude.{Option, Some, None, Result, Ok, Err, IfErr, ◌||◌}
use Rattle.std.proofs.lemmas.List.{take_all}
use Rattle.gate_model.specs.declared.act.Act.{Act}
use Rattle.gate_model.specs.declared.entry.Entry.{Entry}
use Rattle.gate_model.specs.session.Delivered.{delivered, ended}
use Rattle.gate_model.specs.session.History.{History, is_closed}
use Rattle.gate_model.specs.session.Entries.{is_close}
use Rattle.gate_model.specs.text.Text.{texts}
use Rattle.gate_model.specs.Sequences.{IsLater}
use Rattle.turn_lock.specs.declared.view.View.{View}
use Rattle.turn_lock.proofs.Elements.{later_refl, later_trans}
use Rattle.shared_desk.specs.Meetings.{written_by}
use Rattle.shared_desk.specs.Own.{own_entries}
use Rattle.viewer_acts.specs.Doing.{Did, GoesOn}
use Rattle.viewer_acts.proofs.Doings.{did_later, did_longer, done_on, goes_further, goes_nowhere}
use Rattle.ws_tunnel.specs.Answered.{IsReadStopped, WasRead}
use Rattle.ws_tunnel.specs.Heard.{IsMessage, asks_end, before_end, end_place}
use Rattle.ws_tunnel.specs.Runs.{AnswerRun, EndsAt, HasAnswered, HasClose, HasPut, HasStopped, IsOwn, IsReadAt, IsRefusal, IsSentAt, IsUnread, IsWanting, MayLose, NextRun, PutCause, PutsSome, ReadEnd, ReadsBehind, WsCause, go_on}
use Rattle.ws_tunnel.specs.Served.{IsLinkEnd, NoMessage}
use Rattle.ws_tunnel.specs.declared.ends.WsEnd.{WsEnd}
use Rattle.ws_tunnel.specs.declared.ends.WsEnd.TheVariants.{Ended, Disconnected, Refused, Bad, Cut, TooLong, LinkFault, Left, Worn, NoMemory}
use Rattle.ws_tunnel.proofs.Meeting.{close_later}

-- ---- nothing was done

module _ (viewer : ℕ) (r w : View Entry) (left : Option (List (List ℕ))) where
  nothing : (last : Option (List ℕ)) (end : WsEnd) → EndsAt end left last [] → MayLose end [] → IsReadAt end viewer (written_by viewer (own_entries w)) w.seen → IsWanting end last [] viewer w.mine (own_entries w) (written_by viewer (own_entries w)) w.seen w.seen → IsSentAt end [] [] → WsCause end viewer w.seen
      → HasStopped viewer r w r w left last [] end
  nothing last end ends loses read_last wanting sent_is cause = record {
    goes_on = goes_nowhere w;
    acts = [];
    ends = ends;
    parts = [];
    are_parts = tt;
    lost = [];
    acts_are = refl;
    loses = inl loses;
    gained = [];
    did = (refl, later_refl w.seen);
    read_last = read_last;
    wanting = wanting;
    own = refl;
    reads = [];
    are_reads = tt;
    reader = refl;
    more = [];
    given = sym (append-nil (delivered r.seen viewer));
    sent_is = sent_is;
    cause = cause;
  }

  -- the message can't be read
  pub unread : (message : List ℕ) (end : WsEnd) → IsUnread end message → HasStopped viewer r w r w left (Some message) [] end
  unread message (Bad at) k = nothing (Some message) (Bad at) (k, refl) refl tt tt refl tt
  unread message (Cut place) k = nothing (Some message) (Cut place) (k, refl) refl tt tt refl tt
  unread message TooLong k = nothing (Some message) TooLong (k, refl) refl tt tt refl tt
  unread message NoMemory k = nothing (Some message) NoMemory tt tt tt (inl (k, refl)) refl tt
  unread message Ended k = absurd k
  unread message Disconnected k = absurd k
  unread message (Refused status) k = absurd k
  unread message LinkFault k = absurd k
  unread message Left k = absurd k
  unread message Worn k = absurd k

  -- none came
  pub none_came : (end : WsEnd) → NoMessage left end → HasStopped viewer r w r w left None [] end
  none_came Disconnected k = nothing None Disconnected (refl, k) refl tt tt refl tt
  none_came LinkFault k = nothing None LinkFault refl refl tt tt refl tt
  none_came NoMemory k = nothing None NoMemory refl tt tt tt refl tt
  none_came (Bad at) k = absurd k
  none_came (Cut place) k = absurd k
  none_came TooLong k = absurd k
  none_came Ended k = absurd k
  none_came (Refused status) k = absurd k
  none_came Left k = absurd k
  none_came Worn k = absurd k

-- ---- some of its acts were done

module _ (viewer : ℕ) (r w x r_now w_now : View Entry) (message : List ℕ) (acts lost : List Act) (k : PutsSome viewer w x (before_end acts) lost) (goes : GoesOn x w_now) (same : own_entries w_now ≡ own_entries x) where
  own_is : own_entries w_now ≡ k.wrote.gained ++ own_entries w
  own_is = same ∙ k.wrote.own

  did_all : Did viewer w_now.mine (own_entries w) w.seen w_now.seen k.parts k.wrote.gained
  did_all = (done_on viewer w x w_now k.parts k.wrote.gained k.wrote.done goes).did

-- .. and then one was refused, or an end was asked for; nothing was read
module _ (viewer : ℕ) (r w x : View Entry) (left : Option (List (List ℕ))) (message : List ℕ) (acts lost : List Act) (k : PutsSome viewer w x (before_end acts) lost) where
  unanswered : (end : WsEnd) → EndsAt end left (Some message) acts → MayLose end lost ⊎ HasClose x.seen → IsReadAt end viewer (written_by viewer (k.wrote.gained ++ own_entries w)) x.seen
      → IsWanting end (Some message) acts viewer x.mine (k.wrote.gained ++ own_entries w) (written_by viewer (k.wrote.gained ++ own_entries w)) w.seen x.seen → IsSentAt end [] [] → WsCause end viewer x.seen → HasStopped viewer r w r x left (Some message) [] end
  unanswered end ends loses read_last wanting sent_is cause = record {
    goes_on = k.wrote.done.goes_on;
    acts = acts;
    ends = ends;
    parts = k.parts;
    are_parts = k.are_parts;
    lost = lost;
    acts_are = k.acts_are;
    loses = loses;
    gained = k.wrote.gained;
    did = k.wrote.done.did;
    read_last = read_last;
    wanting = wanting;
    own = k.wrote.own;
    reads = [];
    are_reads = tt;
    reader = refl;
    more = [];
    given = sym (append-nil (delivered r.seen viewer));
    sent_is = sent_is;
    cause = cause;
  }

  put_refused : (end : WsEnd) → IsMessage message acts → IsRefusal end → PutCause end viewer x.seen → HasStopped viewer r w r x left (Some message) [] end
  put_refused Left is refusal cause = unanswered Left is (inl tt) tt tt refl cause
  put_refused Worn is refusal cause = unanswered Worn is (inl tt) tt tt refl cause
  put_refused NoMemory is refusal cause =
      unanswered NoMemory tt (inl tt) tt (inr (is, inl record { found = x.seen; later = k.wrote.done.goes_on.later; earlier = later_refl x.seen; own_there = k.wrote.own; alone = cause })) refl tt
  put_refused Ended is refusal cause = absurd refusal
  put_refused Disconnected is refusal cause = absurd refusal
  put_refused (Refused status) is refusal cause = absurd refusal
  put_refused (Bad at) is refusal cause = absurd refusal
  put_refused (Cut place) is refusal cause = absurd refusal
  put_refused TooLong is refusal cause = absurd refusal
  put_refused LinkFault is refusal cause = absurd refusal

  put_ended : IsMessage message acts → asks_end acts ≡ true → (lost ≡ []) ⊎ ((is_closed x.seen ≡ true) × HasClose x.seen) → HasStopped viewer r w r x left (Some message) [] Disconnected
  put_ended is asks (inl none) = unanswered Disconnected (is, asks) (inl none) tt tt refl tt
  put_ended is asks (inr closed) = unanswered Disconnected (is, asks) (inr closed.1) tt tt refl tt

-- the front of acts that the code cuts off
pub front_is : (acts : List Act) (count : ℕ) (front : List Act) → count ≡ end_place acts → front ≡ take count acts → front ≡ before_end acts
front_is acts count front is cut = cut ∙ ap (λ (n : ℕ). take n acts) is

pub put_stops : (viewer : ℕ) (r w x : View Entry) (message : List ℕ) (acts front : List Act) (end : WsEnd) → IsMessage message acts → front ≡ before_end acts → HasPut viewer w x front (Err end) → AnswerRun viewer r w r x message [] (Err end)
put_stops viewer r w x message acts front end is cut put left =
    let k = subst (λ (xs : List Act). HasPut viewer w x xs (Err end)) cut put in
    put_refused viewer r w x left message acts k.0 k.1 end is k.2 k.3

pub put_ends : (viewer : ℕ) (r w x : View Entry) (message : List ℕ) (acts front : List Act) (done : Unit {0}) → IsMessage message acts → asks_end acts ≡ true → front ≡ before_end acts → HasPut viewer w x front (Ok done) → AnswerRun viewer r w r x message [] (Err Disconnected)
put_ends viewer r w x message acts front done is asks cut put left =
    let k = subst (λ (xs : List Act). HasPut viewer w x xs (Ok done)) cut put in
    put_ended viewer r w x left message acts k.0 k.1 is asks k.2

-- .. where the viewer is told by its equal
pub put_stops_as : (viewer m : ℕ) (r w x : View Entry) (message : List ℕ) (acts front : List Act) (end : WsEnd) → m ≡ viewer → IsMessage message acts → front ≡ before_end acts → HasPut m w x front (Err end) → AnswerRun viewer r w r x message [] (Err end)
put_stops_as viewer m r w x message acts front end same is cut put = put_stops viewer r w x message acts front end is cut (subst (λ (n : ℕ). HasPut n w x front (Err end)) same put)

pub put_ends_as : (viewer m : ℕ) (r w x : View Entry) (message : List ℕ) (acts front : List Act) (done : Unit {0}) → m ≡ viewer → IsMessage message acts → asks_end acts ≡ true → front ≡ before_end acts → HasPut m w x front (Ok done) → AnswerRun viewer r w r x message [] (Err Disconnected)
put_ends_as viewer m r w x message acts front done same is asks cut put = put_ends viewer r w x message acts front done is asks cut (subst (λ (n : ℕ). HasPut n w x front (Ok done)) same put)

-- no fault of the link
pub refusal_own : (end : WsEnd) → IsRefusal end → IsOwn end
refusal_own Left k = tt
refusal_own Worn k = tt
refusal_own NoMemory k = tt
refusal_own Ended k = absurd k
refusal_own Disconnected k = absurd k
refusal_own (Refused status) k = absurd k
refusal_own (Bad at) k = absurd k
refusal_own (Cut place) k = absurd k
refusal_own TooLong k = absurd k
refusal_own LinkFault k = absurd k

pub unread_own : (end : WsEnd) (message : List ℕ) → IsUnread end message → IsOwn end
unread_own (Bad at) message k = tt
unread_own (Cut place) message k = tt
unread_own TooLong message k = tt
unread_own NoMemory message k = tt
unread_own Ended message k = absurd k
unread_own Disconnected message k = absurd k
unread_own (Refused status) message k = absurd k
unread_own LinkFault message k = absurd k
unread_own Left message k = absurd k
unread_own Worn message k = absurd k

pub read_own : (viewer : ℕ) (w r_now w_now : View Entry) (result : Result Bool WsEnd) → ReadEnd viewer w r_now w_now result → IfErr result IsOwn
read_own viewer w r_now w_now (Ok over) k = tt
read_own viewer w r_now w_now (Err end) k = refusal_own end k.0

pub own_end : (end : WsEnd) → IsOwn end → end ≡ LinkFault → ⊥
own_end end own is = subst IsOwn is own

-- ---- and then a read

or_true : (a b : Bool) → b ≡ true → (a || b) ≡ true
or_true true b e = refl
or_true false b e = e

still_closed : (more g : History) → is_closed g ≡ true → is_closed (more ++ g) ≡ true
still_closed [] g e = e
still_closed (x ∷ more) g e = or_true (is_close x) (is_closed (more ++ g)) (still_closed more g e)

closed_later : (g h : History) → IsLater g h → is_closed g ≡ true → is_closed h ≡ true
closed_later g h l e = ap is_closed l.1 ∙ still_closed l.0 g e

pub all_before : (acts : List Act) → asks_end acts ≡ false → before_end acts ≡ acts
all_before acts none = take_all (end_place acts) acts (ltb-false (end_place acts) (length acts) none)

module _ (viewer : ℕ) (r w x r_now w_now : View Entry) (message text : List ℕ) (acts lost : List Act) (k : PutsSome viewer w x (before_end acts) lost) (loses : (lost ≡ []) ⊎ ((is_closed x.seen ≡ true) × HasClose x.seen)) (is : IsMessage message acts) (asks : asks_end acts ≡ false) where
  answered : (over : Bool) → ReadsBehind viewer r x r_now w_now text (Ok over) → HasAnswered viewer r w r_now w_now acts text over
  answered over b =
      let found = b.end.0 in
      let own = b.own ∙ k.wrote.own in record {
        seen = b.seen;
        goes_on = goes_further w x w_now k.wrote.done.goes_on b.goes_on;
        parts = k.parts;
        are_parts = k.are_parts;
        lost = lost;
        acts_are = sym (all_before acts asks) ∙ k.acts_are;
        loses = ⊎_elim (λ none. inl none) (λ closed. inr (b.end.3 (closed_later x.seen found b.end.1 closed.0), close_later x.seen w_now.seen b.goes_on.later closed.1)) loses;
        gained = k.wrote.gained;
        found = found;
        did = subst (λ (ps : List ℕ). Did viewer ps (own_entries w) w.seen found k.parts k.wrote.gained) (sym b.mine) (did_longer viewer x.mine (own_entries w) w.seen x.seen found k.parts k.wrote.gained b.end.1 k.wrote.done.did);
        was_read = subst (λ (es : List Entry). WasRead viewer (written_by viewer es) found w_now.seen) k.wrote.own b.end.2;
        own = own;
        reads = b.reads;
        are_reads = b.are_reads;
        reader = b.reader;
        more = b.more;
        given = b.given;
        text_is = b.text_is;
        over_is = b.end.4;
      }

  unread_end : (end : WsEnd) (left : Option (List (List ℕ))) → EndsAt end left (Some message) acts → MayLose end lost → IsReadAt end viewer (written_by viewer (k.wrote.gained ++ own_entries w)) w_now.seen
      → IsWanting end (Some message) acts viewer w_now.mine (k.wrote.gained ++ own_entries w) (written_by viewer (k.wrote.gained ++ own_entries w)) w.seen w_now.seen → WsCause end viewer w_now.seen → ((b : ReadsBehind viewer r x r_now w_now text (Err end)) → IsSentAt end [] (texts b.more)) → (b : ReadsBehind viewer r x r_now w_now text (Err end)) → HasStopped viewer r w r_now w_now left (Some message) [] end
  unread_end end left ends may read_last wanting cause sent_is b = record {
    goes_on = goes_further w x w_now k.wrote.done.goes_on b.goes_on;
    acts = acts;
    ends = ends;
    parts = k.parts;
    are_parts = k.are_parts;
    lost = lost;
    acts_are = k.acts_are;
    loses = inl may;
    gained = k.wrote.gained;
    did = did_all viewer r w x r_now w_now message acts lost k b.goes_on b.own;
    read_last = read_last;
    wanting = wanting;
    own = own_is viewer r w x r_now w_now message acts lost k b.goes_on b.own;
    reads = b.reads;
    are_reads = b.are_reads;
    reader = b.reader;
    more = b.more;
    given = b.given;
    sent_is = sent_is b;
    cause = cause;
  }

  -- the read found what the parts wrote
  stopped_read : IsReadStopped viewer (written_by viewer (own_entries x)) x.seen w_now.seen → IsReadStopped viewer (written_by viewer (k.wrote.gained ++ own_entries w)) w.seen w_now.seen
  stopped_read s = record { found = s.found; later = later_trans w.seen x.seen s.found k.wrote.done.goes_on.later s.later; earlier = s.earlier; all = s.all ∙ ap (written_by viewer) k.wrote.own; alone = s.alone }

  read_stops : (end : WsEnd) (left : Option (List (List ℕ))) → ReadsBehind viewer r x r_now w_now text (Err end) → HasStopped viewer r w r_now w_now left (Some message) [] end
  read_stops Left left b = unread_end Left left is tt tt tt b.end.1 (λ c. refl) b
  read_stops Worn left b = unread_end Worn left is tt tt tt b.end.1 (λ c. refl) b
  read_stops NoMemory left b = unread_end NoMemory left tt tt tt (inr (is, inr (inl (stopped_read b.end.1)))) tt (λ c. refl) b
  read_stops Ended left b = absurd b.end.0
  read_stops Disconnected left b = absurd b.end.0
  read_stops (Refused status) left b = absurd b.end.0
  read_stops (Bad at) left b = absurd b.end.0
  read_stops (Cut place) left b = absurd b.end.0
  read_stops TooLong left b = absurd b.end.0
  read_stops LinkFault left b = absurd b.end.0

  read_ran : (result : Result Bool WsEnd) → ReadsBehind viewer r x r_now w_now text result → AnswerRun viewer r w r_now w_now message text result
  read_ran (Ok over) b = (acts, is, asks, answered over b)
  read_ran (Err end) b = λ left. read_stops end left b

pub answers : (viewer m : ℕ) (r w x r_now w_now : View Entry) (message text : List ℕ) (acts front : List Act) (done : Unit {0}) (result : Result Bool WsEnd) → IsMessage message acts → asks_end acts ≡ false → front ≡ before_end acts → HasPut m w x front (Ok done) → m ≡ viewer → ReadsBehind viewer r x r_now w_now text result
    → AnswerRun viewer r w r_now w_now message text result
answers viewer m r w x r_now w_now message text acts front done result is asks cut put same b =
    let k = subst (λ (n : ℕ). HasPut n w x (before_end acts) (Ok done)) same (subst (λ (xs : List Act). HasPut m w x xs (Ok done)) cut put) in
    read_ran viewer r w x r_now w_now message text acts k.0 k.1 k.2 is asks result b

-- ---- its answer is sent, or isn't

module _ (viewer : ℕ) (r w r_now w_now : View Entry) (left : Option (List (List ℕ))) (message text : List ℕ) (acts : List Act) (is : IsMessage message acts) (asks : asks_end acts ≡ false) (over : Bool) (k : HasAnswered viewer r w r_now w_now acts text over) where
  was_answered : (end : WsEnd) (sent : List (List ℕ)) → EndsAt end left (Some message) acts → MayLose end k.lost ⊎ HasClose w_now.seen → IsReadAt end viewer (written_by viewer (k.gained ++ own_entries w)) w_now.seen
      → IsWanting end (Some message) acts viewer w_now.mine (k.gained ++ own_entries w) (written_by viewer (k.gained ++ own_entries w)) w.seen w_now.seen → IsSentAt end sent (texts k.more) → WsCause end viewer w_now.seen → HasStopped viewer r w r_now w_now left (Some message) sent end
  was_answered end sent ends loses read_last wanting sent_is cause = record {
    goes_on = k.goes_on;
    acts = acts;
    ends = ends;
    parts = k.parts;
    are_parts = k.are_parts;
    lost = k.lost;
    acts_are = all_before acts asks ∙ k.acts_are;
    loses = loses;
    gained = k.gained;
    did = did_longer viewer w_now.mine (own_entries w) w.seen k.found w_now.seen k.parts k.gained k.was_read.later k.did;
    read_last = read_last;
    wanting = wanting;
    own = k.own;
    reads = k.reads;
    are_reads = k.are_reads;
    reader = k.reader;
    more = k.more;
    given = k.given;
    sent_is = sent_is;
    cause = cause;
  }

  may_lose : (k.lost ≡ []) ⊎ HasClose w_now.seen
  may_lose = ⊎_elim (λ none. inl none) (λ closed. inr closed.1) k.loses

  pub unsent : (end : WsEnd) → IsLinkEnd end → HasStopped viewer r w r_now w_now left (Some message) [] end
  unsent LinkFault kind = was_answered LinkFault [] (is, asks) may_lose tt tt refl tt
  unsent NoMemory kind = was_answered NoMemory [] tt (inl tt) tt (inr (is, inr (inr (k.found, did_later viewer w_now.mine (own_entries w) w.seen k.found k.parts k.gained k.did, k.was_read)))) refl tt
  unsent Ended kind = absurd kind
  unsent Disconnected kind = absurd kind
  unsent (Refused status) kind = absurd kind
  unsent (Bad at) kind = absurd kind
  unsent (Cut place) kind = absurd kind
  unsent TooLong kind = absurd kind
  unsent Left kind = absurd kind
  unsent Worn kind = absurd kind

  pub over_now : over ≡ true → HasStopped viewer r w r_now w_now left (Some message) (text ∷ []) Ended
  over_now yes_ = was_answered Ended (text ∷ []) (is, asks) may_lose (k.found, k.was_read) tt (ap (λ (bs : List ℕ). bs ∷ []) k.text_is) (sym (ap (λ (h : History). ended h viewer) k.seen) ∙ (k.over_is ∙ yes_))

-- ---- the next message

module _ (viewer : ℕ) (r w r_now w_now : View Entry) (left : Option (List (List ℕ))) (message text : List ℕ) where
  next_sent : (over : Bool) → AnswerRun viewer r w r_now w_now message text (Ok over) → NextRun viewer r w r_now w_now left (message ∷ []) (text ∷ []) (go_on over)
  next_sent true k = (Some message, refl, over_now viewer r w r_now w_now left message text k.0 k.1 k.2 true k.3 refl)
  next_sent false k = (message, text, k.0, refl, refl, k.1, k.2, k.3)

  pub next_sent_as : (over : Bool) (result : Result (Unit {0}) WsEnd) → result ≡ go_on over → AnswerRun viewer r w r_now w_now message text (Ok over) → NextRun viewer r w r_now w_now left (message ∷ []) (text ∷ []) result
  next_sent_as over result is k = subst (λ (x : Result (Unit {0}) WsEnd). NextRun viewer r w r_now w_now left (message ∷ []) (text ∷ []) x) (sym is) (next_sent over k)

  pub next_unsent : (over : Bool) (end : WsEnd) → IsLinkEnd end → AnswerRun viewer r w r_now w_now message text (Ok over) → NextRun viewer r w r_now w_now left (message ∷ []) [] (Err end)
  next_unsent over end kind k = (Some message, refl, unsent viewer r w r_now w_now left message text k.0 k.1 k.2 over k.3 end kind)

  pub next_stopped : (end : WsEnd) → AnswerRun viewer r w r_now w_now message text (Err end) → NextRun viewer r w r_now w_now left (message ∷ []) [] (Err end)
  next_stopped end k = (Some message, refl, k left)

pub next_none : (viewer : ℕ) (r w : View Entry) (left left_new : Option (List (List ℕ))) (end : WsEnd) → left_new ≡ left → NoMessage left end → NextRun viewer r w r w left_new [] [] (Err end)
next_none viewer r w left left_new end same none = (None, refl, none_came viewer r w left_new end (subst (λ (o : Option (List (List ℕ))). NoMessage o end) (sym same) none))
