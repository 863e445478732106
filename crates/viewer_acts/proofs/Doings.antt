-- What becomes of parts, one after the other.
use Rattle.std.proofs.Common.{◌≡◌, inl, inr, ⊎_elim, ℕ, ◌+◌, ◌≤◌, List, [], ◌∷◌, ◌++◌, length, Bool, true, false, refl, ap, sym, ◌∙◌, subst, append-nil, append_assoc, arith}
use Rattle.std.specs.Prelude.{Contains, Option, Some, None, Result, Ok, Err, drop, not}
use Rattle.std.specs.Option.{option_map}
use Rattle.std.proofs.lemmas.List.{drop-drop}
use Rattle.std.proofs.lemmas.List.Elements.{Contains-append_cases}
use Rattle.gate_model.specs.declared.act.Act.{Act}
use Rattle.gate_model.specs.declared.answer.Answer.{Answer}
use Rattle.gate_model.specs.declared.answer.Answer.TheVariants.{Resize as was_resized, Write as was_written}
use Rattle.gate_model.specs.declared.cause.Cause.{Cause}
use Rattle.gate_model.specs.declared.entry.Entry.{Entry}
use Rattle.gate_model.specs.declared.entry.Entry.TheVariants.{Write, Size}
use Rattle.gate_model.specs.declared.event.Event.{Event}
use Rattle.gate_model.specs.declared.event.Event.TheVariants.{Write as write, Resize as resize}
use Rattle.gate_model.specs.declared.memory.NoMemory.{NoMemory as ShortMemory}
use Rattle.gate_model.specs.declared.resize_refusal.ResizeRefusal.{ResizeRefusal}
use Rattle.gate_model.specs.declared.resize_refusal.ResizeRefusal.TheVariants as sizing
use Rattle.gate_model.specs.declared.write_refusal.WriteRefusal.{WriteRefusal}
use Rattle.gate_model.specs.declared.write_refusal.WriteRefusal.TheVariants.{NoViewer, Closed, Worn, NoMemory}
use Rattle.gate_model.specs.declared.written.Written.{Written}
use Rattle.gate_model.specs.session.Calls.{Step, stop_of}
use Rattle.gate_model.specs.session.History.{History, is_full}
use Rattle.gate_model.specs.session.Refusals.{close_cause, first_of, has_size, only_if, resize_refusal}
use Rattle.gate_model.specs.session.Rights.{is_control, is_live, role_in}
use Rattle.gate_model.proofs.Causes.{open_without_cause}
use Rattle.gate_model.specs.Sequences.{IsLater}
use Rattle.guac_handshake.specs.Asks.{cols_of, rows_of}
use Rattle.desk_core.specs.Calls.{resize_answer, write_answer}
use Rattle.turn_lock.specs.declared.view.View.{View}
use Rattle.turn_lock.proofs.Elements.{contains_cases, contains_none, later_length, later_refl, later_trans}
use Rattle.shared_desk.specs.Called.{Answers, Called, Turned, places_after}
use Rattle.shared_desk.specs.Own.{AreSized, entries_at, own_entries}
use Rattle.shared_desk.proofs.Derived.{AreFew, past_all, step_few}
use Rattle.shared_desk.proofs.Lasting.{WriteCause, resize_closed, resize_gone, resize_refused, resize_worn, stopped_alone, turn_later, write_refused}
use Rattle.viewer_acts.specs.Parts.{Others, Part, Sized, parts_of}
use Rattle.viewer_acts.specs.Doing.{Became, Did, GoesOn, HasDone, IsRefused, IsStoppedByMemory, StopCause, TakesWrites, WritesOne, WritesPart, WritesParts, WritesSome, HasWritten, IsPassedOver, passed_over}

-- ---- a pass goes on

pub goes_nowhere : (v : View Entry) → GoesOn v v
goes_nowhere v = record { later = later_refl v.seen; places = []; mine = refl; behind = λ p c. absurd (contains_none p c) }

pub goes_further : (v u w : View Entry) → GoesOn v u → GoesOn u w → GoesOn v w
goes_further v u w a b = record {
  later = later_trans v.seen u.seen w.seen a.later b.later;
  places = b.places ++ a.places;
  mine = b.mine ∙ (ap (λ (ps : List ℕ). b.places ++ ps) a.mine ∙ sym (append_assoc b.places a.places v.mine));
  behind = λ p c. ⊎_elim (λ in_b. omega (arith, b.behind p in_b, later_length v.seen u.seen a.later)) (λ in_a. a.behind p in_a) (Contains-append_cases b.places a.places p c);
}

place_behind : (n : ℕ) (g : History) (added : List Entry) → AreFew added → n ≤ length g → (p : ℕ) → Contains (places_after g added) p → n ≤ p
place_behind n g [] few le p c = absurd (contains_none p c)
place_behind n g (e ∷ []) few le p c = ⊎_elim (λ is. subst (λ (k : ℕ). n ≤ k) is le) (λ none. absurd (contains_none p none)) (contains_cases (length g) p [] c)
place_behind n g (e ∷ f ∷ es) few le p c = absurd few

-- a turn goes on
turn_goes_on : (v w : View Entry) (did : History → List Entry → Type 0) (t : Turned v w did) → AreFew t.added → GoesOn v w
turn_goes_on v w did t few = record {
  later = turn_later v w did t;
  places = places_after t.before t.added;
  mine = ap (λ (z : View Entry). z.mine) t.after;
  behind = place_behind (length v.seen) t.before t.added few (later_length v.seen t.before t.later);
}

call_few : (event : Event) (answer : Result Answer ShortMemory) (before after : List ℕ) (g : History) (added : List Entry) → Answers event answer before after g added → AreFew added
call_few event (Ok answer) before after g added a = step_few g event answer added a.0
call_few event (Err short) before after g added a = subst AreFew (sym a.1) tt

pub call_goes_on : (v w : View Entry) (event : Event) (answer : Result Answer ShortMemory) → Called v event answer w → GoesOn v w
call_goes_on v w event answer t = turn_goes_on v w _ t (call_few event answer [] [] t.before t.added t.did_it)

-- ---- parts that were done

module _ (viewer : ℕ) (mine : List ℕ) where
  pub did_later : (own : List Entry) (before upto : History) (parts : List Part) (gained : List Entry) → Did viewer mine own before upto parts gained → IsLater before upto
  did_later own before upto [] gained d = d.1
  did_later own before upto (part ∷ parts) gained d = later_trans before d.0 upto d.3.later (did_later (d.1 ++ own) d.0 upto parts d.2 d.5)

  -- from an earlier history
  pub did_earlier : (own : List Entry) (first before upto : History) (parts : List Part) (gained : List Entry) → IsLater first before → Did viewer mine own before upto parts gained → Did viewer mine own first upto parts gained
  did_earlier own first before upto [] gained l d = (d.0, later_trans first before upto l d.1)
  did_earlier own first before upto (part ∷ parts) gained l d = (d.0, d.1, d.2, record { later = later_trans first before d.0 l d.3.later; own_there = d.3.own_there; became = d.3.became }, d.4, d.5)

  -- up to a later one
  pub did_longer : (own : List Entry) (before upto last : History) (parts : List Part) (gained : List Entry) → IsLater upto last → Did viewer mine own before upto parts gained → Did viewer mine own before last parts gained
  did_longer own before upto last [] gained l d = (d.0, later_trans before upto last d.1 l)
  did_longer own before upto last (part ∷ parts) gained l d = (d.0, d.1, d.2, d.3, d.4, did_longer (d.1 ++ own) d.0 upto last parts d.2 l d.5)

  -- with further places, all behind
  pub did_placed : (places : List ℕ) (own : List Entry) (before upto : History) (parts : List Part) (gained : List Entry) → ((p : ℕ) → Contains places p → length upto ≤ p) → Did viewer mine own before upto parts gained → Did viewer (places ++ mine) own before upto parts gained
  did_placed places own before upto [] gained behind d = d
  did_placed places own before upto (part ∷ parts) gained behind d =
      let short : length d.0 ≤ length upto = later_length d.0 upto (did_later (d.1 ++ own) d.0 upto parts d.2 d.5) in
      let there = past_all places mine d.0 (λ p c. omega (arith, short, behind p c)) ∙ d.3.own_there in
      (d.0, d.1, d.2, record { later = d.3.later; own_there = there; became = d.3.became }, d.4, did_placed places (d.1 ++ own) d.0 upto parts d.2 behind d.5)

  -- and then others
  pub did_more : (own : List Entry) (before mid upto : History) (parts others : List Part) (gained then_ : List Entry) → Did viewer mine own before mid parts gained → Did viewer mine (gained ++ own) mid upto others then_ → Did viewer mine own before upto (parts ++ others) (then_ ++ gained)
  did_more own before mid upto [] others gained then_ d m =
      let bare : Did viewer mine own before upto others then_ = did_earlier own before mid upto others then_ d.1 (subst (λ (es : List Entry). Did viewer mine (es ++ own) mid upto others then_) d.0 m) in
      subst (λ (es : List Entry). Did viewer mine own before upto others es) (sym (ap (λ (es : List Entry). then_ ++ es) d.0 ∙ append-nil then_)) bare
  did_more own before mid upto (part ∷ parts) others gained then_ d m =
      let regrouped : (gained ++ own) ≡ (d.2 ++ (d.1 ++ own)) = ap (λ (es : List Entry). es ++ own) d.4 ∙ append_assoc d.2 d.1 own in
      let rest = did_more (d.1 ++ own) d.0 mid upto parts others d.2 then_ d.5 (subst (λ (es : List Entry). Did viewer mine es mid upto others then_) regrouped m) in
      (d.0, d.1, then_ ++ d.2, d.3, ap (λ (es : List Entry). then_ ++ es) d.4 ∙ sym (append_assoc then_ d.2 d.1), rest)

-- ---- by what passes know

-- what was done stays so while its pass goes on
pub done_on : (viewer : ℕ) (v u w : View Entry) (parts : List Part) (gained : List Entry) → HasDone viewer v u parts gained → GoesOn u w → HasDone viewer v w parts gained
done_on viewer v u w parts gained d g = record {
  goes_on = goes_further v u w d.goes_on g;
  did = subst (λ (ps : List ℕ). Did viewer ps (own_entries v) v.seen w.seen parts gained) (sym g.mine) (did_longer viewer (g.places ++ u.mine) (own_entries v) v.seen u.seen w.seen parts gained g.later (did_placed viewer u.mine g.places (own_entries v) v.seen u.seen parts gained g.behind d.did));
}

-- parts and then others
pub done_more : (viewer : ℕ) (v u w : View Entry) (parts others : List Part) (gained then_ : List Entry) → HasDone viewer v u parts gained → own_entries u ≡ gained ++ own_entries v → HasDone viewer u w others then_ → HasDone viewer v w (parts ++ others) (then_ ++ gained)
done_more viewer v u w parts others gained then_ d own m =
    let placed : Did viewer w.mine (own_entries v) v.seen u.seen parts gained = subst (λ (ps : List ℕ). Did viewer ps (own_entries v) v.seen u.seen parts gained) (sym m.goes_on.mine) (did_placed viewer u.mine m.goes_on.places (own_entries v) v.seen u.seen parts gained m.goes_on.behind d.did) in
    record {
      goes_on = goes_further v u w d.goes_on m.goes_on;
      did = did_more viewer w.mine (own_entries v) v.seen u.seen w.seen parts others gained then_ placed (subst (λ (es : List Entry). Did viewer w.mine es u.seen w.seen others then_) own m.did);
    }

pub none_done : (viewer : ℕ) (v : View Entry) → WritesParts viewer v v []
none_done viewer v = record { gained = []; done = record { goes_on = goes_nowhere v; did = (refl, later_refl v.seen) }; own = refl }

pub parts_done : (viewer : ℕ) (v u w : View Entry) (parts others : List Part) → WritesParts viewer v u parts → WritesParts viewer u w others → WritesParts viewer v w (parts ++ others)
parts_done viewer v u w parts others d m = record {
  gained = m.gained ++ d.gained;
  done = done_more viewer v u w parts others d.gained m.gained d.done d.own m.done;
  own = m.own ∙ (ap (λ (es : List Entry). m.gained ++ es) d.own ∙ sym (append_assoc m.gained d.gained (own_entries v)));
}

pub parts_stay : (viewer : ℕ) (v u w : View Entry) (parts : List Part) → WritesParts viewer v u parts → GoesOn u w → own_entries w ≡ own_entries u → WritesParts viewer v w parts
parts_stay viewer v u w parts d g same = record { gained = d.gained; done = done_on viewer v u w parts d.gained d.done g; own = same ∙ d.own }

-- ---- one part

one_part : (viewer : ℕ) (v w : View Entry) (part : Part) (added : List Entry) → GoesOn v w → own_entries w ≡ added ++ own_entries v → Became viewer w.seen part added → WritesParts viewer v w (part ∷ [])
one_part viewer v w part added g own became = record {
  gained = added;
  done = record { goes_on = g; did = (w.seen, added, [], record { later = g.later; own_there = own; became = became }, refl, (refl, later_refl w.seen)) };
  own = own;
}

-- ---- want of memory

not_false : (b : Bool) → not b ≡ false → b ≡ true
not_false true e = refl
not_false false e = absurd (let z : true ≡ false = e in cc)

-- where nothing stops a write, its viewer is there, and the session is open and not full
no_stop : (away full : Bool) (o : Option Cause) (n : ℕ) → option_map (λ (x : WriteRefusal). was_written (Err x)) (first_of (only_if away NoViewer ∷ option_map Closed o ∷ only_if full (Worn n) ∷ [])) ≡ None → (away ≡ false) × (o ≡ None) × (full ≡ false)
no_stop false false None n e = (refl, refl, refl)
no_stop false true None n e = absurd (let z : Some (was_written (Err (Worn n))) ≡ None = e in cc)
no_stop false full (Some c) n e = absurd (let z : Some (was_written (Err (Closed c))) ≡ None = e in cc)
no_stop true full o n e = absurd (let z : Some (was_written (Err NoViewer)) ≡ None = e in cc)

takes_writes : (g : History) (viewer : ℕ) (acts : List Act) → stop_of g (write viewer acts) ≡ None → TakesWrites viewer g
takes_writes g viewer acts e = let k = no_stop (not (is_live g viewer)) (is_full g) (close_cause g) (length g) e in (not_false (is_live g viewer) k.0, open_without_cause g k.1, k.2)

no_size_stop : (away denied same full : Bool) (o : Option Cause) (n : ℕ)
    → option_map (λ (x : ResizeRefusal). was_resized (Err x)) (first_of (only_if away sizing.NoViewer ∷ option_map sizing.Closed o ∷ only_if denied sizing.Denied ∷ only_if same sizing.Same ∷ only_if full (sizing.Worn n) ∷ [])) ≡ None → (away ≡ false) × (o ≡ None) × (full ≡ false)
no_size_stop false false false false None n e = (refl, refl, refl)
no_size_stop false false false true None n e = absurd (let z : Some (was_resized (Err (sizing.Worn n))) ≡ None = e in cc)
no_size_stop false false true full None n e = absurd (let z : Some (was_resized (Err sizing.Same)) ≡ None = e in cc)
no_size_stop false true same full None n e = absurd (let z : Some (was_resized (Err sizing.Denied)) ≡ None = e in cc)
no_size_stop false denied same full (Some c) n e = absurd (let z : Some (was_resized (Err (sizing.Closed c))) ≡ None = e in cc)
no_size_stop true denied same full o n e = absurd (let z : Some (was_resized (Err sizing.NoViewer)) ≡ None = e in cc)

takes_sizes : (g : History) (viewer cols rows : ℕ) → stop_of g (resize viewer cols rows) ≡ None → TakesWrites viewer g
takes_sizes g viewer cols rows e =
    let k = no_size_stop (not (is_live g viewer)) (not (is_control (role_in g viewer))) (has_size g cols rows) (is_full g) (close_cause g) (length g) e in
    (not_false (is_live g viewer) k.0, open_without_cause g k.1, k.2)

-- a call that memory stopped stays so while its pass goes on, and from an earlier history
pub stopped_on : (viewer : ℕ) (w w_now : View Entry) (own : List Entry) (start before : History) → GoesOn w w_now → IsLater start before → IsStoppedByMemory viewer w.mine own before w.seen → IsStoppedByMemory viewer w_now.mine own start w_now.seen
stopped_on viewer w w_now own start before goes begins s =
    let few : length s.found ≤ length w.seen = later_length s.found w.seen s.earlier in
    let there = ap (λ (ps : List ℕ). entries_at ps s.found) goes.mine ∙ past_all goes.places w.mine s.found (λ p c. omega (arith, few, goes.behind p c)) in
    record { found = s.found; later = later_trans start before s.found begins s.later; earlier = later_trans s.found w.seen w_now.seen s.earlier goes.later; own_there = there ∙ s.own_there; alone = s.alone }

-- ---- a write

pub wrote_run : (viewer : ℕ) (v w : View Entry) (acts : List Act) (k : Written) → Called v (write viewer acts) (write_answer (Ok k)) w → own_entries w ≡ Write viewer acts ∷ own_entries v → WritesParts viewer v w (Others acts ∷ [])
wrote_run viewer v w acts k t own = one_part viewer v w (Others acts) (Write viewer acts ∷ []) (call_goes_on v w (write viewer acts) (write_answer (Ok k)) t) own refl

write_cause : (r : WriteRefusal) (viewer : ℕ) (g : History) → (r ≡ NoMemory → TakesWrites viewer g) → WriteCause r viewer g → StopCause r viewer g
write_cause NoViewer viewer g alone k = k
write_cause (Closed c) viewer g alone k = k
write_cause (Worn n) viewer g alone k = k
write_cause NoMemory viewer g alone k = alone refl

alone_at : (viewer : ℕ) (v w : View Entry) (acts : List Act) (r : WriteRefusal) → Called v (write viewer acts) (write_answer (Err r)) w → r ≡ NoMemory → TakesWrites viewer w.seen
alone_at viewer v w acts r t is = takes_writes w.seen viewer acts (stopped_alone v w (write viewer acts) _ [] [] (subst (λ (x : WriteRefusal). Called v (write viewer acts) (write_answer (Err x)) w) is t))

pub refused_run : (viewer : ℕ) (v w : View Entry) (acts : List Act) (r : WriteRefusal) → Called v (write viewer acts) (write_answer (Err r)) w → IsRefused viewer v w r
refused_run viewer v w acts r t = let k = write_refused v w viewer acts r t in record { goes_on = call_goes_on v w (write viewer acts) (write_answer (Err r)) t; own = k.0; cause = write_cause r viewer w.seen (alone_at viewer v w acts r t) k.1 }

-- ---- a change of size

module _ (viewer cols rows : ℕ) (size : ℕ × ℕ) (cols_is : cols ≡ cols_of (Some size)) (rows_is : rows ≡ rows_of (Some size)) (v w : View Entry) where
  pub sized_part : (stamp : ℕ) → Called v (resize viewer cols rows) (resize_answer (Ok stamp)) w → (added : List Entry) × AreSized viewer cols rows (Ok stamp) added × (own_entries w ≡ added ++ own_entries v) → WritesParts viewer v w (Sized size ∷ [])
  sized_part stamp t k =
      let frame = k.1.0 in
      let entry : Entry = Size viewer cols rows stamp frame in
      let same : entry ≡ Size viewer (cols_of (Some size)) (rows_of (Some size)) stamp frame = ap (λ (n : ℕ). Size viewer n rows stamp frame) cols_is ∙ ap (λ (n : ℕ). Size viewer (cols_of (Some size)) n stamp frame) rows_is in
      one_part viewer v w (Sized size) (entry ∷ []) (call_goes_on v w (resize viewer cols rows) (resize_answer (Ok stamp)) t) (k.2 ∙ ap (λ (es : List Entry). es ++ own_entries v) k.1.1) (stamp, frame, same)

  -- a refusal by the rule, after what its pass has seen
  refused_step : (r : ResizeRefusal) → Called v (resize viewer cols rows) (Ok (was_resized (Err r))) w → own_entries w ≡ own_entries v → resize_refusal w.seen viewer cols rows ≡ Some r → Step w.seen (resize viewer (cols_of (Some size)) (rows_of (Some size))) (was_resized (Err r)) []
  refused_step r t own is =
      subst (λ (n : ℕ). Step w.seen (resize viewer (cols_of (Some size)) n) (was_resized (Err r)) []) rows_is (subst (λ (n : ℕ). Step w.seen (resize viewer n rows) (was_resized (Err r)) []) cols_is
      (t.did_it.0.0, ap (option_map (λ (x : ResizeRefusal). was_resized (Err x))) is))

  passed : GoesOn v w → own_entries w ≡ own_entries v → IsPassedOver viewer w.seen size → WritesParts viewer v w (Sized size ∷ [])
  passed g own over = one_part viewer v w (Sized size) [] g own over

  pub refused_size : (r : ResizeRefusal) → Called v (resize viewer cols rows) (resize_answer (Err r)) w → WritesOne viewer v w (Sized size) (passed_over r)
  refused_size sizing.NoViewer t = let k = resize_refused v w viewer cols rows sizing.NoViewer t in record { goes_on = call_goes_on v w (resize viewer cols rows) (resize_answer (Err sizing.NoViewer)) t; own = k.0; cause = resize_gone w.seen viewer cols rows k.1 }
  refused_size (sizing.Closed c) t = let k = resize_refused v w viewer cols rows (sizing.Closed c) t in record { goes_on = call_goes_on v w (resize viewer cols rows) (resize_answer (Err (sizing.Closed c))) t; own = k.0; cause = resize_closed w.seen viewer cols rows c k.1 }
  refused_size sizing.Denied t = let k = resize_refused v w viewer cols rows sizing.Denied t in passed (call_goes_on v w (resize viewer cols rows) (resize_answer (Err sizing.Denied)) t) k.0 (inl (refused_step sizing.Denied t k.0 k.1))
  refused_size sizing.Same t = let k = resize_refused v w viewer cols rows sizing.Same t in passed (call_goes_on v w (resize viewer cols rows) (resize_answer (Err sizing.Same)) t) k.0 (inr (refused_step sizing.Same t k.0 k.1))
  refused_size (sizing.Worn n) t = let k = resize_refused v w viewer cols rows (sizing.Worn n) t in record { goes_on = call_goes_on v w (resize viewer cols rows) (resize_answer (Err (sizing.Worn n))) t; own = k.0; cause = resize_worn w.seen viewer cols rows n k.1 }
  refused_size sizing.NoMemory t = let k = resize_refused v w viewer cols rows sizing.NoMemory t in record { goes_on = call_goes_on v w (resize viewer cols rows) (resize_answer (Err sizing.NoMemory)) t; own = k.0; cause = takes_sizes w.seen viewer cols rows (stopped_alone v w (resize viewer cols rows) _ [] [] t) }

  pub refused_as : (r : ResizeRefusal) (result : Result (Unit {0}) WriteRefusal) → result ≡ passed_over r → Called v (resize viewer cols rows) (resize_answer (Err r)) w → WritesOne viewer v w (Sized size) result
  refused_as r result is t = subst (λ (x : Result (Unit {0}) WriteRefusal). WritesOne viewer v w (Sized size) x) (sym is) (refused_size r t)

-- ---- the parts of acts, one after the other

-- the first parts were done, and these acts are left
pub record SoFar (viewer : ℕ) (v u : View Entry) (acts left : List Act) : Type 0 where
  pub parts : List Part
  pub split : parts_of acts ≡ parts ++ parts_of left
  pub wrote : WritesParts viewer v u parts

pub far_none : (viewer : ℕ) (v : View Entry) (acts : List Act) → SoFar viewer v v acts acts
far_none viewer v acts = record { parts = []; split = refl; wrote = none_done viewer v }

module _ (viewer : ℕ) (v u w : View Entry) (acts left : List Act) (s : SoFar viewer v u acts left) where
  far_on : (n : ℕ) → WritesPart viewer u w left (Ok n) → SoFar viewer v w acts (drop n left)
  far_on n k = record {
    parts = s.parts ++ k.0 ∷ [];
    split = s.split ∙ (ap (λ (ps : List Part). s.parts ++ ps) k.1 ∙ sym (append_assoc s.parts (k.0 ∷ []) (parts_of (drop n left))));
    wrote = parts_done viewer v u w s.parts (k.0 ∷ []) s.wrote k.2;
  }

  far_stop : (r : WriteRefusal) → WritesPart viewer u w left (Err r) → WritesSome viewer v w acts r
  far_stop r k = record {
    parts = s.parts;
    lost = k.0;
    left = k.1;
    split = s.split ∙ ap (λ (ps : List Part). s.parts ++ ps) k.2;
    wrote = parts_stay viewer v u w s.parts s.wrote k.3.goes_on k.3.own;
    cause = k.3.cause;
  }

  -- .. the viewer is the one at the beginning
  pub far_next : (m n : ℕ) → m ≡ viewer → WritesPart m u w left (Ok n) → SoFar viewer v w acts (drop n left)
  far_next m n same k = far_on n (subst (λ (x : ℕ). WritesPart x u w left (Ok n)) same k)

  pub far_last : (m : ℕ) (r : WriteRefusal) → m ≡ viewer → WritesPart m u w left (Err r) → WritesSome viewer v w acts r
  far_last m r same k = far_stop r (subst (λ (x : ℕ). WritesPart x u w left (Err r)) same k)

pub far_next_at : (viewer : ℕ) (v u w : View Entry) (acts : List Act) (at : ℕ) → SoFar viewer v u acts (drop at acts) → (m n : ℕ) → m ≡ viewer → WritesPart m u w (drop at acts) (Ok n) → SoFar viewer v w acts (drop (at + n) acts)
far_next_at viewer v u w acts at s m n same k = subst (λ (left : List Act). SoFar viewer v w acts left) (drop-drop n at acts) (far_next viewer v u w acts (drop at acts) s m n same k)

pub far_last_as : (viewer : ℕ) (v u w : View Entry) (acts left : List Act) → SoFar viewer v u acts left → (m : ℕ) (r : WriteRefusal) (result : Result (Unit {0}) WriteRefusal) → m ≡ viewer → result ≡ Err r → WritesPart m u w left (Err r) → HasWritten viewer v w acts result
far_last_as viewer v u w acts left s m r result same is k = subst (λ (x : Result (Unit {0}) WriteRefusal). HasWritten viewer v w acts x) (sym is) (far_last viewer v u w acts left s m r same k)

pub far_end : (viewer : ℕ) (v u : View Entry) (acts left : List Act) → left ≡ [] → SoFar viewer v u acts left → WritesParts viewer v u (parts_of acts)
far_end viewer v u acts left none s =
    let all : parts_of acts ≡ s.parts = s.split ∙ (ap (λ (rest : List Act). s.parts ++ parts_of rest) none ∙ append-nil s.parts) in
    subst (λ (ps : List Part). WritesParts viewer v u ps) (sym all) s.wrote
