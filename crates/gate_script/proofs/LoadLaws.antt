-- What each line of a load does: it adds one entry at most, and to the totals what its kind says. And no line of a
-- load is refused.
use Rattle.std.proofs.Common.{◌≡◌, ℕ, zero, suc, ◌+◌, ◌-◌, ◌<◌, ◌≤◌, ◌^◌, List, [], ◌∷◌, ◌++◌, ◌⊎◌, inl, inr, length, take, drop, map, Bool, true, false, refl, ap, sym, ◌∙◌, subst, append-nil, append_assoc, add-one, arith, length-append, length-take, length-drop}
use Rattle.std.specs.Prelude.{Result, Ok, Err, All, Option, Some, None, OnOk, ◌||◌, ◌&&◌, count_by, ◌==◌, if◌then◌else◌, slice_index_or}
use Rattle.std.specs.List.{list_any}
use Rattle.std.specs.Option.{is_some, option_map}
use Rattle.std.proofs.lemmas.Bool.{leb-true}
use Rattle.std.proofs.lemmas.List.Elements.{All-pop}
use Rattle.gate_model.specs.Sequences.{IsLater}
use Rattle.gate_model.specs.Limits.{most_entries}
use Rattle.gate_model.specs.declared.act.Act.{Act}
use Rattle.gate_model.specs.declared.answer.Answer.{Answer}
use Rattle.gate_model.specs.declared.answer.Answer.TheVariants.{Feed as fed, Join as joined_as, Read as was_read, Write as was_written, Resize as was_resized, Take as was_taken, Leave as was_left, Close as was_closed}
use Rattle.gate_model.specs.declared.cause.Cause.{Cause}
use Rattle.gate_model.specs.declared.closed.Closed.{Closed}
use Rattle.gate_model.specs.declared.entry.Entry.{Entry}
use Rattle.gate_model.specs.declared.entry.Entry.TheVariants.{Take}
use Rattle.gate_model.specs.declared.event.Event.{Event}
use Rattle.gate_model.specs.declared.event.Event.TheVariants.{Feed as feed, Join as join_in, Read as read_as, Write as write_acts, Resize as resize_to, Take as take_most, Leave as leave_as, Close as close_for}
use Rattle.gate_model.specs.declared.feed_refusal.FeedRefusal.TheVariants.{Closed as feed_closed, Worn as feed_worn}
use Rattle.gate_model.specs.declared.join_refusal.JoinRefusal.TheVariants.{Closed as join_closed, Forbidden as join_forbidden, TooMany as join_too_many, Worn as join_worn}
use Rattle.gate_model.specs.declared.no_viewer.NoViewer.{NoViewer}
use Rattle.gate_model.specs.declared.read_answer.ReadAnswer.TheVariants.{Ended, Empty, Hold}
use Rattle.gate_model.specs.declared.read_refusal.ReadRefusal.TheVariants.{NoViewer as read_no_viewer, Worn as read_worn}
use Rattle.gate_model.specs.declared.sharing.Asked.{Asked}
use Rattle.gate_model.specs.declared.sharing.Share.{Share}
use Rattle.gate_model.specs.declared.resize_refusal.ResizeRefusal.TheVariants.{NoViewer as resize_no_viewer, Closed as resize_closed, Denied, Same, Worn as resize_worn}
use Rattle.gate_model.specs.declared.write_refusal.WriteRefusal.TheVariants.{NoViewer as write_no_viewer, Closed as write_closed, Worn as write_worn}
use Rattle.gate_model.specs.session.Calls.{Step, stop_of, take_entry}
use Rattle.gate_model.specs.session.History.{History, capacity, is_full}
use Rattle.gate_model.specs.session.Output.{out, taken, untaken}
use Rattle.gate_model.specs.session.Refusals.{first_of, only_if}
use Rattle.script_grammar.specs.declared.line.Line.{Line}
use Rattle.script_grammar.specs.declared.line.Line.TheVariants.{Blank as blank, Bad as bad, At as moment, Start as start, Server as server, Join as join, Read as read, Write as write, Resize as resize, Take as take_up_to, Leave as leave, Close as close, Pixel as pixel, Same as same, Acknowledge as acknowledge, Done as done, Press as press_key, Totals as tell_totals}
use Rattle.script_grammar.specs.declared.order.Order.{Order}
use Rattle.script_grammar.specs.declared.order.Order.TheVariants.{Told, Untold}
use Rattle.script_grammar.specs.declared.size.Size.{Size}
use Rattle.script_grammar.specs.declared.totals.Totals.{Totals}
use Rattle.script_grammar.specs.Grammar.{in_place, is_start, starts}
use Rattle.script_grammar.specs.Lines.{line_in, IsInRange}
use Rattle.script_load.specs.Words.{Words}
use Rattle.script_load.specs.Rounds.{IsRoundLine, rounds_done, stand_after, takes_done, turn, untold}
use Rattle.gate_script.specs.declared.kind.Kind.{Kind}
use Rattle.gate_script.specs.declared.kind.Kind.TheVariants.{Feed as of_feed, Press as of_press, Take as of_take, Other as of_other}
use Rattle.gate_script.specs.declared.level.Level.{Level}
use Rattle.gate_script.specs.declared.load.Load.{Load}
use Rattle.gate_script.specs.declared.refused.Refused.{Refused as Refusal}
use Rattle.gate_script.specs.declared.refused.Refused.TheVariants.{BadLine, Worn}
use Rattle.gate_script.specs.declared.run.Run.{Run}
use Rattle.gate_script.specs.declared.stop.Stop.{Stop}
use Rattle.gate_script.specs.declared.stop.Stop.TheVariants.{ReadFault, WriteFault, NoMemory, Refused}
use Rattle.gate_script.specs.Told.{worn_by}
use Rattle.gate_script.specs.Plays.{AreTotals, Calls, Does, Play, Plays, Writes, acknowledgement, feeds, is_press, press, presses}
use Rattle.gate_script.specs.Outcomes.{IsRefused, IsTooLong, Makes}
use Rattle.gate_script.specs.Sinks.{Sinks}
use Rattle.gate_script.specs.declared.sight.Sight.TheVariants.{Played}
use Rattle.gate_script.specs.Running.{At, Ends, Goes, StoppedIn}
use Rattle.gate_script.specs.Loading.{AreLoads, IsLevel, LoadAt, LoadStopped, MayFollow, TotalsEnd, counted, is_some_list, kind_of, takes_behind}
use Rattle.gate_script.proofs.OneFault.{line_adds}
use Rattle.gate_script.proofs.RunLaws.{none_done, nothing_done, stopped-later}
use Rattle.gate_script.proofs.StepLaws.{take_is}
use Rattle.gate_script.specs.Laws.{HasOneMore}

-- ---- what a line adds to the totals

-- .. by its kind
abbrev pub IsCounted : Kind → History → History → Type 0
IsCounted of_feed g h = (feeds h ≡ feeds g + (length h - length g)) × (presses h ≡ presses g) × (taken h ≡ taken g)
IsCounted of_press g h = (feeds h ≡ feeds g) × (presses h ≡ presses g + (length h - length g)) × (taken h ≡ taken g)
IsCounted of_take g h = (feeds h ≡ feeds g) × (presses h ≡ presses g) × (taken h ≡ taken g + ((length (out g) - taken g) - (length (out h) - taken h)))
IsCounted of_other g h = (feeds h ≡ feeds g) × (presses h ≡ presses g) × (taken h ≡ taken g)

-- .. and that the session may have as many entries as before
pub record Stepped (kind : Kind) (g h : History) : Type 0 where
  pub capacity : capacity h ≡ capacity g
  pub counts : IsCounted kind g h

still : (kind : Kind) (h : History) → Stepped kind h h
still of_feed h = record { capacity = refl; counts = (omega arith, refl, refl) }
still of_press h = record { capacity = refl; counts = (refl, omega arith, refl) }
still of_take h = record { capacity = refl; counts = (refl, refl, omega arith) }
still of_other h = record { capacity = refl; counts = (refl, refl, refl) }

moved_to : (kind : Kind) (g h k : History) → k ≡ h → Stepped kind g h → Stepped kind g k
moved_to kind g h k e s = subst (λ (x : History). Stepped kind g x) (sym e) s

feed_steps : (h : History) (bytes : List ℕ) (now : ℕ) (r : Answer) (added : List Entry) → Step h (feed bytes now) r added → Stepped of_feed h (added ++ h)
feed_steps h bytes now r [] s = still of_feed h
feed_steps h bytes now r (e ∷ []) s = subst (λ (x : Entry). Stepped of_feed h (x ∷ h)) (sym s.1.1.4) (record { capacity = refl; counts = (omega arith, refl, omega arith) })
feed_steps h bytes now r (e ∷ d ∷ es) s = absurd s.1

join_steps : (h : History) (asked : Asked) (r : Answer) (added : List Entry) → Step h (join_in asked) r added → Stepped of_other h (added ++ h)
join_steps h asked r [] s = still of_other h
join_steps h asked r (e ∷ []) s = subst (λ (x : Entry). Stepped of_other h (x ∷ h)) (sym s.1.1.5) (record { capacity = refl; counts = (refl, refl, omega arith) })
join_steps h asked r (e ∷ d ∷ es) s = absurd s.1

read_steps : (h : History) (viewer : ℕ) (r : Answer) (added : List Entry) → Step h (read_as viewer) r added → Stepped of_other h (added ++ h)
read_steps h viewer r [] s = still of_other h
read_steps h viewer r (e ∷ []) s = subst (λ (x : Entry). Stepped of_other h (x ∷ h)) (sym s.1.1.3) (record { capacity = refl; counts = (refl, refl, omega arith) })
read_steps h viewer r (e ∷ d ∷ es) s = absurd s.1

leave_steps : (h : History) (viewer : ℕ) (r : Answer) (added : List Entry) → Step h (leave_as viewer) r added → Stepped of_other h (added ++ h)
leave_steps h viewer r [] s = still of_other h
leave_steps h viewer r (e ∷ []) s = subst (λ (x : Entry). Stepped of_other h (x ∷ h)) (sym s.1.1.1) (record { capacity = refl; counts = (refl, refl, omega arith) })
leave_steps h viewer r (e ∷ d ∷ es) s = absurd s.1

press_steps : (h : History) (viewer : ℕ) (acts : List Act) → count_by is_press acts ≡ 1 → (r : Answer) (added : List Entry) → Step h (write_acts viewer acts) r added → Stepped of_press h (added ++ h)
press_steps h viewer acts one r [] s = still of_press h
press_steps h viewer acts one r (e ∷ []) s = subst (λ (x : Entry). Stepped of_press h (x ∷ h)) (sym s.1.1.1) (record { capacity = refl; counts = (refl, omega (arith, one), omega arith) })
press_steps h viewer acts one r (e ∷ d ∷ es) s = absurd s.1

write_steps : (h : History) (viewer : ℕ) (acts : List Act) → count_by is_press acts ≡ 0 → (r : Answer) (added : List Entry) → Step h (write_acts viewer acts) r added → Stepped of_other h (added ++ h)
write_steps h viewer acts none r [] s = still of_other h
write_steps h viewer acts none r (e ∷ []) s = subst (λ (x : Entry). Stepped of_other h (x ∷ h)) (sym s.1.1.1) (record { capacity = refl; counts = (refl, omega (arith, none), omega arith) })
write_steps h viewer acts none r (e ∷ d ∷ es) s = absurd s.1

take_entry_steps : (h : History) (n : ℕ) → n ≤ length (out h) - taken h → Stepped of_take h (take_entry n ++ h)
take_entry_steps h n few = by (n == 0)
  where
    by : (b : Bool) → Stepped of_take h ((if b then [] else Take n ∷ []) ++ h)
    by true = still of_take h
    by false = record { capacity = refl; counts = (refl, refl, omega (arith, few, ap length (append-nil (out h)))) }

take_steps : (h : History) (most : ℕ) (r : Answer) (added : List Entry) → Step h (take_most most) r added → Stepped of_take h (added ++ h)
take_steps h most r added s =
    let is = take_is h most r added s in
    subst (λ (es : List Entry). Stepped of_take h (es ++ h)) (sym is.adds) (take_entry_steps h (length (take most (untaken h))) (omega (arith, length-take most (untaken h), length-drop (taken h) (out h))))

module _ (p q : Play) (a f : List ℕ) where
  calls_step : (kind : Kind) (event : Event) → ((r : Answer) (added : List Entry) → Step p.history event r added → Stepped kind p.history (added ++ p.history)) → Calls event p q a f → Stepped kind p.history q.history
  calls_step kind event steps w = moved_to kind p.history (w.added ++ p.history) q.history (ap (λ (k : Play). k.history) w.after_it) (steps w.result w.added w.step)

  writes_step : (kind : Kind) (viewer passed : ℕ) (acts : List Act) → ((r : Answer) (added : List Entry) → Step p.history (write_acts viewer acts) r added → Stepped kind p.history (added ++ p.history)) → Writes viewer acts passed p q a f → Stepped kind p.history q.history
  writes_step kind viewer passed acts steps w = moved_to kind p.history (w.added ++ p.history) q.history (ap (λ (k : Play). k.history) w.after_it) (steps (was_written w.result) w.added w.step)

  -- a line of a round
  pub round_steps : (line : Line) → IsRoundLine line → Does line p q a f → Stepped (kind_of line) p.history q.history
  round_steps (moment now) round w = moved_to of_other p.history p.history q.history (ap (λ (k : Play). k.history) w.same) (still of_other p.history)
  round_steps (server bytes) round w = calls_step of_feed (feed bytes p.now) (feed_steps p.history bytes p.now) w
  round_steps (join asked) round w = calls_step of_other (join_in asked) (join_steps p.history asked) w
  round_steps (read viewer) round w = calls_step of_other (read_as viewer) (read_steps p.history viewer) w
  round_steps (take_up_to most) round w = calls_step of_take (take_most most) (take_steps p.history most) w
  round_steps (leave viewer) round w = calls_step of_other (leave_as viewer) (leave_steps p.history viewer) w
  round_steps (acknowledge viewer) round w = writes_step of_other viewer 0 (acknowledgement p.history) (write_steps p.history viewer (acknowledgement p.history) refl) w
  round_steps (press_key viewer keysym) round w = writes_step of_press viewer 0 (press keysym) (press_steps p.history viewer (press keysym) refl) w
  round_steps blank round w = absurd round
  round_steps bad round w = absurd round
  round_steps (start size mode entries) round w = absurd round
  round_steps (write viewer text) round w = absurd round
  round_steps (resize viewer size) round w = absurd round
  round_steps close round w = absurd round
  round_steps (pixel viewer x y) round w = absurd round
  round_steps (same one other) round w = absurd round
  round_steps done round w = absurd round
  round_steps (tell_totals totals) round w = absurd round

  -- the first line
  pub record Started : Type 0 where
    pub fresh : p.history ≡ []
    pub capacity : capacity q.history ≡ most_entries
    pub few : length q.history ≤ 1
    pub counts : IsCounted of_other [] q.history

  begins : (size : Size) (mode : Share) (entries : ℕ) → entries ≡ most_entries → Does (start size mode entries) p q a f → Started
  begins size mode entries is w =
      let h_is : q.history ≡ w.entry ∷ [] = ap (λ (k : Play). k.history) w.after_it in
      let e = w.step.4 in
      record {
        fresh = w.fresh;
        capacity = ap capacity h_is ∙ (ap (λ (x : Entry). capacity (x ∷ [])) e ∙ is);
        few = omega (arith, ap length h_is);
        counts = (ap feeds h_is ∙ ap (λ (x : Entry). feeds (x ∷ [])) e, ap presses h_is ∙ ap (λ (x : Entry). presses (x ∷ [])) e, ap taken h_is ∙ ap (λ (x : Entry). taken (x ∷ [])) e);
      }

  pub first_starts : (line : Line) → MayFollow false line → Does line p q a f → Started × (kind_of line ≡ of_other)
  first_starts (start size mode entries) first w = (begins size mode entries first w, refl)
  first_starts blank first w = absurd first
  first_starts bad first w = absurd first
  first_starts (moment now) first w = absurd first
  first_starts (server bytes) first w = absurd first
  first_starts (join asked) first w = absurd first
  first_starts (read viewer) first w = absurd first
  first_starts (write viewer text) first w = absurd first
  first_starts (resize viewer size) first w = absurd first
  first_starts (take_up_to most) first w = absurd first
  first_starts (leave viewer) first w = absurd first
  first_starts close first w = absurd first
  first_starts (pixel viewer x y) first w = absurd first
  first_starts (same one other) first w = absurd first
  first_starts (acknowledge viewer) first w = absurd first
  first_starts done first w = absurd first
  first_starts (press_key viewer keysym) first w = absurd first
  first_starts (tell_totals totals) first w = absurd first

  -- each line
  pub line_counts : (b : Bool) (line : Line) → MayFollow b line → Does line p q a f → IsCounted (kind_of line) p.history q.history
  line_counts true line follows w = (round_steps line follows w).counts
  line_counts false line follows w =
      let s = first_starts line follows w in
      subst (λ (k : Kind). IsCounted k p.history q.history) (sym s.1) (subst (λ (h : History). IsCounted of_other h q.history) (sym s.0.fresh) s.0.counts)

-- the totals that were counted are those of the history then
pub totals_go_on : (kind : Kind) (t : Totals) (before after : Level) (g h : History) → AreTotals t g → IsLevel before g → IsLevel after h → IsCounted kind g h → AreTotals (counted t kind before after) h
totals_go_on of_feed t before after g h are b a c = record { feeds = omega (arith, c.0, are.feeds, b.entries, a.entries); keys = are.keys ∙ sym c.1; out = are.out ∙ sym c.2 }
totals_go_on of_press t before after g h are b a c = record { feeds = are.feeds ∙ sym c.0; keys = omega (arith, c.1, are.keys, b.entries, a.entries); out = are.out ∙ sym c.2 }
totals_go_on of_take t before after g h are b a c = record { feeds = are.feeds ∙ sym c.0; keys = are.keys ∙ sym c.1; out = omega (arith, c.2, are.out, b.pending, a.pending) }
totals_go_on of_other t before after g h are b a c = record { feeds = are.feeds ∙ sym c.0; keys = are.keys ∙ sym c.1; out = are.out ∙ sym c.2 }

-- ---- no line of a load is refused

-- the count of entries that an answer names, if it says that the session is full
abbrev pub worn_in : Option Answer → Option ℕ
worn_in None = None
worn_in (Some r) = worn_by r

none_some : {A : Type 0} → (n : ℕ) → ◌≡◌ {A = Option ℕ} None (Some n) → A
none_some n e = absurd cc

feed_full : (m n : ℕ) (o : Option Cause) (b : Bool) → worn_in (option_map (λ refusal. fed (Err refusal)) (first_of (option_map feed_closed o ∷ only_if b (feed_worn m) ∷ []))) ≡ Some n → b ≡ true
feed_full m n (Some cause) b e = none_some n e
feed_full m n None true e = refl
feed_full m n None false e = none_some n e

join_full : (m n live joins : ℕ) (o : Option Cause) (b c d : Bool) → worn_in (option_map (λ refusal. joined_as (Err refusal)) (first_of (option_map join_closed o ∷ only_if b join_forbidden ∷ only_if c (join_too_many live joins) ∷ only_if d (join_worn m) ∷ []))) ≡ Some n → d ≡ true
join_full m n live joins (Some cause) b c d e = none_some n e
join_full m n live joins None true c d e = none_some n e
join_full m n live joins None false true d e = none_some n e
join_full m n live joins None false false true e = refl
join_full m n live joins None false false false e = none_some n e

read_full : (k m n : ℕ) (b c d x y : Bool) → worn_in (option_map was_read (first_of (only_if b (Err read_no_viewer) ∷ only_if c (Ok Ended) ∷ only_if d (Ok Empty) ∷ only_if x (Ok (Hold k)) ∷ only_if y (Err (read_worn m)) ∷ []))) ≡ Some n → y ≡ true
read_full k m n true c d x y e = none_some n e
read_full k m n false true d x y e = none_some n e
read_full k m n false false true x y e = none_some n e
read_full k m n false false false true y e = none_some n e
read_full k m n false false false false true e = refl
read_full k m n false false false false false e = none_some n e

write_full : (m n : ℕ) (b : Bool) (o : Option Cause) (d : Bool) → worn_in (option_map (λ refusal. was_written (Err refusal)) (first_of (only_if b write_no_viewer ∷ option_map write_closed o ∷ only_if d (write_worn m) ∷ []))) ≡ Some n → d ≡ true
write_full m n true o d e = none_some n e
write_full m n false (Some cause) d e = none_some n e
write_full m n false None true e = refl
write_full m n false None false e = none_some n e

resize_full : (m n : ℕ) (b : Bool) (o : Option Cause) (c d x : Bool) → worn_in (option_map (λ refusal. was_resized (Err refusal)) (first_of (only_if b resize_no_viewer ∷ option_map resize_closed o ∷ only_if c Denied ∷ only_if d Same ∷ only_if x (resize_worn m) ∷ []))) ≡ Some n → x ≡ true
resize_full m n true o c d x e = none_some n e
resize_full m n false (Some cause) c d x e = none_some n e
resize_full m n false None true d x e = none_some n e
resize_full m n false None false true x e = none_some n e
resize_full m n false None false false true e = refl
resize_full m n false None false false false e = none_some n e

take_full : {A : Type 0} → (n : ℕ) (b closed : Bool) → worn_in (only_if b (was_taken [] closed)) ≡ Some n → A
take_full n true closed e = none_some n e
take_full n false closed e = none_some n e

leave_full : {A : Type 0} → (n : ℕ) (o : Option NoViewer) → worn_in (option_map (λ refusal. was_left (Err refusal)) o) ≡ Some n → A
leave_full n (Some refusal) e = none_some n e
leave_full n None e = none_some n e

close_full : {A : Type 0} → (n : ℕ) (o : Option Closed) → worn_in (option_map (λ refusal. was_closed (Err refusal)) o) ≡ Some n → A
close_full n (Some refusal) e = none_some n e
close_full n None e = none_some n e

second_holds : (b c : Bool) → (b && c) ≡ true → c ≡ true
second_holds true c e = e
second_holds false c e = absurd cc

worn_is_full : (h : History) (event : Event) (n : ℕ) → worn_in (stop_of h event) ≡ Some n → is_full h ≡ true
worn_is_full h (feed bytes now) n e = feed_full _ n _ (is_full h) e
worn_is_full h (join_in asked) n e = join_full _ n _ _ _ _ _ (is_full h) e
worn_is_full h (read_as viewer) n e = second_holds _ (is_full h) (read_full _ _ n _ _ _ _ _ e)
worn_is_full h (write_acts viewer acts) n e = write_full _ n _ _ (is_full h) e
worn_is_full h (resize_to viewer cols rows) n e = resize_full _ n _ _ _ _ (is_full h) e
worn_is_full h (take_most most) n e = take_full n _ _ e
worn_is_full h (leave_as viewer) n e = leave_full n _ e
worn_is_full h (close_for cause) n e = close_full n _ e

-- a line of a load is in the grammar
not_bad : {A : Type 0} → (b : Bool) (line : Line) → MayFollow b line → line ≡ bad → A
not_bad b line follows e = by b (subst (MayFollow b) e follows)
  where
    by : {A : Type 0} → (b : Bool) → MayFollow b bad → A
    by true w = absurd w
    by false w = absurd w

not_long : {A : Type 0} → (b : Bool) (line : Line) → MayFollow b line → IsTooLong line → A
not_long true (write viewer text) follows long = absurd follows
not_long false (write viewer text) follows long = absurd follows
not_long b blank follows long = absurd long
not_long b bad follows long = absurd long
not_long b (moment now) follows long = absurd long
not_long b (start size mode entries) follows long = absurd long
not_long b (server bytes) follows long = absurd long
not_long b (join asked) follows long = absurd long
not_long b (read viewer) follows long = absurd long
not_long b (resize viewer size) follows long = absurd long
not_long b (take_up_to most) follows long = absurd long
not_long b (leave viewer) follows long = absurd long
not_long b close follows long = absurd long
not_long b (pixel viewer x y) follows long = absurd long
not_long b (same one other) follows long = absurd long
not_long b (acknowledge viewer) follows long = absurd long
not_long b done follows long = absurd long
not_long b (press_key viewer keysym) follows long = absurd long
not_long b (tell_totals totals) follows long = absurd long

-- the first line calls nothing
starts_no_call : {A : Type 0} → (line : Line) (p : Play) (event : Event) → MayFollow false line → Makes line p event → A
starts_no_call (start size mode entries) p event first makes = absurd (let w : ◌≡◌ {A = Option Event} None (Some event) = makes in cc)
starts_no_call blank p event first makes = absurd first
starts_no_call bad p event first makes = absurd first
starts_no_call (moment now) p event first makes = absurd first
starts_no_call (server bytes) p event first makes = absurd first
starts_no_call (join asked) p event first makes = absurd first
starts_no_call (read viewer) p event first makes = absurd first
starts_no_call (write viewer text) p event first makes = absurd first
starts_no_call (resize viewer size) p event first makes = absurd first
starts_no_call (take_up_to most) p event first makes = absurd first
starts_no_call (leave viewer) p event first makes = absurd first
starts_no_call close p event first makes = absurd first
starts_no_call (pixel viewer x y) p event first makes = absurd first
starts_no_call (same one other) p event first makes = absurd first
starts_no_call (acknowledge viewer) p event first makes = absurd first
starts_no_call done p event first makes = absurd first
starts_no_call (press_key viewer keysym) p event first makes = absurd first
starts_no_call (tell_totals totals) p event first makes = absurd first

one_more : (g h : History) → HasOneMore g h → length h ≤ length g + 1
one_more g h (inl e) = omega (arith, ap length e)
one_more g h (inr w) = omega (arith, ap length w.1)

-- the session may have 2^40 entries, and has no more than orders were done
pub record Holds (orders : List Order) (h : History) : Type 0 where
  pub capacity : capacity h ≡ most_entries
  pub few : length h ≤ length orders

loads_hold : (order : Order) (orders : List Order) (q : Play) (a f bytes : List ℕ) → Plays (order ∷ orders) q a f bytes → AreLoads (order ∷ orders) → Holds (order ∷ orders) q.history
loads_hold order [] q a f bytes w loads =
    let s = (first_starts w.0 q w.5.answer w.5.own_f (line_in order) loads.0 w.5.does).0 in
    record { capacity = s.capacity; few = s.few }
loads_hold order (o ∷ orders) q a f bytes w loads =
    let before = loads_hold o orders w.0 w.1 w.2 w.3 w.4 loads.1 in
    let step = round_steps w.0 q w.5.answer w.5.own_f (line_in order) loads.0 w.5.does in
    record {
      capacity = step.capacity ∙ before.capacity;
      few = omega (arith, before.few, one_more w.0.history q.history (line_adds w.0 q w.5.answer w.5.own_f (line_in order) w.5.does));
    }

-- later orders of a load are those of one
behind : (more orders all : List Order) → all ≡ more ++ orders → AreLoads all → AreLoads orders
behind more orders all e loads = by more (subst AreLoads e loads)
  where
    by : (more : List Order) → AreLoads (more ++ orders) → AreLoads orders
    by [] w = w
    by (m ∷ more) w = by more w.1

not_refused : {A : Type 0} → (refused : Refusal) (order : Order) (orders : List Order) (p : Play) (a f bytes : List ℕ) → Plays orders p a f bytes → AreLoads (order ∷ orders) → length orders < most_entries → IsRefused refused order orders p → A
not_refused (BadLine n) order orders p a f bytes plays loads few (inl e, number) = not_bad (is_some_list orders) (line_in order) loads.0 e
not_refused (BadLine n) order orders p a f bytes plays loads few (inr long, number) = not_long (is_some_list orders) (line_in order) loads.0 long
not_refused (Worn n) order [] p a f bytes plays loads few w = starts_no_call (line_in order) p w.1.event loads.0 w.1.makes
not_refused (Worn n) order (o ∷ orders) p a f bytes plays loads few w =
    let holds = loads_hold o orders p a f bytes plays loads.1 in
    let worn : worn_in (stop_of p.history w.1.event) ≡ Some n = ap worn_in w.1.step.1 ∙ w.2 in
    let full = worn_is_full p.history w.1.event n worn in
    absurd (omega (arith, leb-true (capacity p.history) (length p.history) full, holds.capacity, holds.few, few))

-- so what stops a load isn't a refused line
pub load_stopped : (all : List Order) (stop : Stop) (b n : Sinks) → AreLoads all → length all ≤ most_entries → StoppedIn all stop b n → LoadStopped all stop b n
load_stopped all (Refused refused) b n loads few s =
    not_refused refused s.next s.orders s.done.play s.done.told.answers s.done.told.framings s.done.told.bytes s.done.told.plays (behind s.first.0 (s.next ∷ s.orders) all s.first.1 loads) (fewer s.first.0 s.next s.orders s.first.1) s.is_refused
  where
    fewer : (more : List Order) (next : Order) (orders : List Order) → all ≡ more ++ next ∷ orders → length orders < most_entries
    fewer more next orders e = omega (arith, ap length e, few, length-append more (next ∷ orders))
load_stopped all ReadFault b n loads few s = s
load_stopped all WriteFault b n loads few s = s
load_stopped all NoMemory b n loads few s = s

-- the line of the totals isn't refused either
totals_not_refused : {A : Type 0} → (totals : Totals) (refused : Refusal) (orders : List Order) (p : Play) → IsRefused refused (Told (tell_totals totals)) orders p → A
totals_not_refused totals (BadLine n) orders p (inl e, number) = absurd (let w : ◌≡◌ {A = Line} (tell_totals totals) bad = e in cc)
totals_not_refused totals (BadLine n) orders p (inr long, number) = absurd long
totals_not_refused totals (Worn n) orders p w = absurd (let m : ◌≡◌ {A = Option Event} None (Some w.1.event) = w.1.makes in cc)

first_of_both : (x y : Order) (xs ys : List Order) → x ∷ xs ≡ y ∷ ys → x ≡ y
first_of_both x y xs ys e = ap (λ (l : List Order). slice_index_or l 0 x) e

rest_of_both : (x y : Order) (xs ys : List Order) → x ∷ xs ≡ y ∷ ys → xs ≡ ys
rest_of_both x y xs ys e = ap (drop 1) e

pub totals_stop : (totals : Totals) (orders : List Order) (stop : Stop) (b n : Sinks) → AreLoads orders → length orders ≤ most_entries → StoppedIn (Told (tell_totals totals) ∷ orders) stop b n → LoadStopped (Told (tell_totals totals) ∷ orders) stop b n
totals_stop totals orders (Refused refused) b n loads few s = by s.first.0 s.first.1
  where
    by : (more : List Order) → Told (tell_totals totals) ∷ orders ≡ more ++ s.next ∷ s.orders → LoadStopped (Told (tell_totals totals) ∷ orders) (Refused refused) b n
    by [] e = totals_not_refused totals refused s.orders s.done.play (subst (λ (o : Order). IsRefused refused o s.orders s.done.play) (sym (first_of_both (Told (tell_totals totals)) s.next orders s.orders e)) s.is_refused)
    by (m ∷ more) e =
        load_stopped orders (Refused refused) b n loads few
        record { orders = s.orders; next = s.next; first = (more, rest_of_both (Told (tell_totals totals)) m orders (more ++ s.next ∷ s.orders) e); done = s.done; is_refused = s.is_refused }
totals_stop totals orders ReadFault b n loads few s = s
totals_stop totals orders WriteFault b n loads few s = s
totals_stop totals orders NoMemory b n loads few s = s

-- ---- where a line may stand

pub may_be_placed : (b : Bool) (line : Line) → MayFollow b line → in_place b line ≡ line
may_be_placed true (moment now) w = refl
may_be_placed true (server bytes) w = refl
may_be_placed true (join asked) w = refl
may_be_placed true (read viewer) w = refl
may_be_placed true (take_up_to most) w = refl
may_be_placed true (leave viewer) w = refl
may_be_placed true (acknowledge viewer) w = refl
may_be_placed true (press_key viewer keysym) w = refl
may_be_placed true blank w = absurd w
may_be_placed true bad w = absurd w
may_be_placed true (start size mode entries) w = absurd w
may_be_placed true (write viewer text) w = absurd w
may_be_placed true (resize viewer size) w = absurd w
may_be_placed true close w = absurd w
may_be_placed true (pixel viewer x y) w = absurd w
may_be_placed true (same one other) w = absurd w
may_be_placed true done w = absurd w
may_be_placed true (tell_totals totals) w = absurd w
may_be_placed false (start size mode entries) w = refl
may_be_placed false blank w = absurd w
may_be_placed false bad w = absurd w
may_be_placed false (moment now) w = absurd w
may_be_placed false (server bytes) w = absurd w
may_be_placed false (join asked) w = absurd w
may_be_placed false (read viewer) w = absurd w
may_be_placed false (write viewer text) w = absurd w
may_be_placed false (resize viewer size) w = absurd w
may_be_placed false (take_up_to most) w = absurd w
may_be_placed false (leave viewer) w = absurd w
may_be_placed false close w = absurd w
may_be_placed false (pixel viewer x y) w = absurd w
may_be_placed false (same one other) w = absurd w
may_be_placed false (acknowledge viewer) w = absurd w
may_be_placed false done w = absurd w
may_be_placed false (press_key viewer keysym) w = absurd w
may_be_placed false (tell_totals totals) w = absurd w

or_true : (b : Bool) → (b || true) ≡ true
or_true true = refl
or_true false = refl

first_is_start : (line : Line) → MayFollow false line → is_start line ≡ true
first_is_start line w = by line w (may_be_placed false line w)
  where
    by : (line : Line) → MayFollow false line → in_place false line ≡ line → is_start line ≡ true
    by (start size mode entries) w e = refl
    by blank w e = absurd w
    by bad w e = absurd w
    by (moment now) w e = absurd w
    by (server bytes) w e = absurd w
    by (join asked) w e = absurd w
    by (read viewer) w e = absurd w
    by (write viewer text) w e = absurd w
    by (resize viewer size) w e = absurd w
    by (take_up_to most) w e = absurd w
    by (leave viewer) w e = absurd w
    by close w e = absurd w
    by (pixel viewer x y) w e = absurd w
    by (same one other) w e = absurd w
    by (acknowledge viewer) w e = absurd w
    by done w e = absurd w
    by (press_key viewer keysym) w e = absurd w
    by (tell_totals totals) w e = absurd w

pub opens : (b : Bool) (line : Line) → MayFollow b line → (is_start line || b) ≡ true
opens true line w = or_true (is_start line)
opens false line w = rw (first_is_start line w) refl

-- the session has started once there are orders
pub loads_start : (orders : List Order) → AreLoads orders → list_any starts orders ≡ is_some_list orders
loads_start [] w = refl
loads_start (order ∷ []) w = rw (first_is_start (line_in order) w.0) refl
loads_start (order ∷ o ∷ orders) w = ap (λ (b : Bool). starts order || b) (loads_start (o ∷ orders) w.1) ∙ or_true (starts order)

-- ---- a run of lines

module _ (orders : List Order) (line : Line) (l : Load) (b n n' : Sinks) (w : LoadAt orders l b n) (follows : MayFollow (is_some l.run.state.session) line) where
  pub follows_in : MayFollow (is_some_list orders) line
  follows_in = subst (λ (x : Bool). MayFollow x line) (sym w.at.opened ∙ loads_start orders w.loads) follows

  -- one line more was done
  pub load_goes_on : (l' : Load) → (go : Goes Played (Untold line) orders w.at.play l'.run b n') → (before after : Level) → IsLevel before w.at.play.history → IsLevel after go.next.play.history → l'.totals ≡ counted l.totals (kind_of line) before after → LoadAt (Untold line ∷ orders) l' b n'
  load_goes_on l' go before after is is' totals_are = record {
    at = go.next;
    totals = subst (λ (t : Totals). AreTotals t go.next.play.history) (sym totals_are)
        (totals_go_on (kind_of line) l.totals before after w.at.play.history go.next.play.history w.totals is is' (line_counts w.at.play go.next.play go.answer go.framing (is_some_list orders) line follows_in go.does));
    loads = (follows_in, w.loads);
  }

  -- the line stopped the load
  pub line_stops : l.run.lines < most_entries → (stop : Stop) → StoppedIn (Untold line ∷ orders) stop b n' → LoadStopped (Untold line ∷ orders) stop b n'
  line_stops few stop s = load_stopped (Untold line ∷ orders) stop b n' (follows_in, w.loads) (omega (arith, few, w.at.count)) s

-- .. or want of memory, before it or behind it
pub no_memory_before : (orders : List Order) (line : Line) (l : Load) (b n : Sinks) → LoadAt orders l b n → LoadStopped (Untold line ∷ orders) NoMemory b n
no_memory_before orders line l b n w = none_done Played orders l.run b n w.at (Untold line ∷ [])

pub no_memory_behind : (orders : List Order) (r : Run) (b n : Sinks) → At Played orders r b n → LoadStopped orders NoMemory b n
no_memory_behind orders r b n at = none_done Played orders r b n at []

pub no_memory_totals : (orders : List Order) (totals : Totals) (l : Load) (b n : Sinks) → LoadAt orders l b n → LoadStopped (Told (tell_totals totals) ∷ orders) NoMemory b n
no_memory_totals orders totals l b n w = none_done Played orders l.run b n w.at (Told (tell_totals totals) ∷ [])

-- what stopped a load stopped more of it
pub stopped_more : (orders all : List Order) (stop : Stop) (b n : Sinks) → IsLater orders all → LoadStopped orders stop b n → LoadStopped all stop b n
stopped_more orders all (Refused refused) b n more s = absurd s
stopped_more orders all ReadFault b n more s = absurd s
stopped_more orders all WriteFault b n more s = stopped-later orders all WriteFault b n more s
stopped_more orders all NoMemory b n more s = stopped-later orders all NoMemory b n more s

-- nothing was done yet
pub load_new : (l : Load) (b : Sinks) → l.run.state.moment ≡ 0 → is_some l.run.state.session ≡ false → l.run.lines ≡ 0 → l.totals.feeds ≡ 0 → l.totals.keys ≡ 0 → l.totals.out ≡ 0 → LoadAt [] l b b
load_new l b at_zero session lines no_feeds no_keys no_out =
    let at = nothing_done Played l.run b at_zero session lines in
    let h : at.play.history ≡ [] = ap (λ (p : Play). p.history) at.told.plays.0 in
    record {
      at = at;
      totals = record { feeds = no_feeds ∙ sym (ap feeds h); keys = no_keys ∙ sym (ap presses h); out = no_out ∙ sym (ap taken h) };
      loads = tt;
    }

-- a line more of those that stand the last first
pub one_popped : (line : Line) (ended : List Line) (orders : List Order) → Untold line ∷ (map Untold ended ++ orders) ≡ map Untold (line ∷ ended) ++ orders
one_popped line ended orders = refl

pub popped : (all rest rest' ended : List Line) (line : Line) → all ≡ rest ++ ended → rest ≡ rest' ++ line ∷ [] → all ≡ rest' ++ line ∷ ended
popped all rest rest' ended line e f = e ∙ (ap (λ (l : List Line). l ++ ended) f ∙ append_assoc rest' (line ∷ []) ended)

-- lines of a round, the last of them taken
pub last_popped : (xs ys : List Line) (line : Line) → xs ≡ ys ++ line ∷ [] → All IsRoundLine xs → All IsRoundLine ys × IsRoundLine line
last_popped xs ys line e all = All-pop IsRoundLine xs ys (Some line) e all

no_lines : (l : List Line) → length l ≡ 0 → l ≡ []
no_lines [] e = refl
no_lines (x ∷ l) e = absurd (omega (arith, e))

pub all_popped : (all rest ended : List Line) (orders : List Order) → all ≡ rest ++ ended → length rest ≡ 0 → map Untold ended ++ orders ≡ map Untold all ++ orders
all_popped all rest ended orders e none = ap (λ (l : List Line). map Untold l ++ orders) (sym (e ∙ ap (λ (l : List Line). l ++ ended) (no_lines rest none)))

-- some of the orders of lines are later than all
map_append : (xs ys : List Line) → map Untold (xs ++ ys) ≡ map Untold xs ++ map Untold ys
map_append [] ys = refl
map_append (x ∷ xs) ys = ap (λ (l : List Order). Untold x ∷ l) (map_append xs ys)

pub some_ended : (all rest ended : List Line) (orders : List Order) → all ≡ rest ++ ended → IsLater (map Untold ended ++ orders) (map Untold all ++ orders)
some_ended all rest ended orders e = (map Untold rest, ap (λ (l : List Line). map Untold l ++ orders) e ∙ (ap (λ (l : List Order). l ++ orders) (map_append rest ended) ∙ append_assoc (map Untold rest) (map Untold ended) orders))

-- no line of a round starts a session, and what it holds is in range
pub round_in_range : (line : Line) → IsRoundLine line → IsInRange line
round_in_range (moment now) w = tt
round_in_range (server bytes) w = w
round_in_range (join asked) w = tt
round_in_range (read viewer) w = tt
round_in_range (take_up_to most) w = tt
round_in_range (leave viewer) w = tt
round_in_range (acknowledge viewer) w = tt
round_in_range (press_key viewer keysym) w = tt
round_in_range blank w = absurd w
round_in_range bad w = absurd w
round_in_range (start size mode entries) w = absurd w
round_in_range (write viewer text) w = absurd w
round_in_range (resize viewer size) w = absurd w
round_in_range close w = absurd w
round_in_range (pixel viewer x y) w = absurd w
round_in_range (same one other) w = absurd w
round_in_range done w = absurd w
round_in_range (tell_totals totals) w = absurd w

pub round_follows : (b : Bool) (line : Line) → b ≡ true → IsRoundLine line → MayFollow b line
round_follows b line e w = subst (λ (x : Bool). MayFollow x line) (sym e) w

-- the takes behind the rounds
pub takes_are : (word : Words) (rounds takes : ℕ) → takes_behind (untold (turn (stand_after word rounds).others) (rounds_done word rounds)) takes ≡ takes_done word rounds takes
takes_are word rounds zero = refl
takes_are word rounds (suc takes) = ap (λ (l : List Order). Untold (take_up_to 65536) ∷ l) (takes_are word rounds takes)

pub one_take_more : (orders : List Order) (takes : ℕ) → takes_behind orders (takes + 1) ≡ Untold (take_up_to 65536) ∷ takes_behind orders takes
one_take_more orders takes = ap (takes_behind orders) (add-one takes)

-- the totals are told of an open session, or the load stops in them
pub totals_placed : (totals : Totals) (b : Bool) → b ≡ true → in_place b (tell_totals totals) ≡ tell_totals totals
totals_placed totals b e = rw e refl

module _ (orders : List Order) (l : Load) (b n m : Sinks) (w : LoadAt orders l b n) where
  pub totals_told : (r : Result (Unit {0}) Stop) (run' : Run) → l.run.lines < most_entries → Ends Played (Told (tell_totals l.totals) ∷ orders) r run' b m → OnOk r (Goes Played (Told (tell_totals l.totals)) orders w.at.play run' b m) → TotalsEnd orders l.totals w.at.play.history r b m
  totals_told (Ok u) run' few ends goes = record { done = record { play = goes.next.play; told = goes.next.told; lawful = goes.next.lawful }; same = ap (λ (p : Play). p.history) goes.does.2.same }
  totals_told (Err stop) run' few ends goes = totals_stop l.totals orders stop b m w.loads (omega (arith, few, w.at.count)) ends

-- nothing waits
pub none_waits : (level : Level) (h : History) → IsLevel level h → level.pending ≡ 0 → untaken h ≡ []
none_waits level h is none = empty (untaken h) (omega (arith, is.pending, none, length-drop (taken h) (out h)))
  where
    empty : (l : List ℕ) → length l ≡ 0 → l ≡ []
    empty [] e = refl
    empty (x ∷ l) e = absurd (omega (arith, e))
