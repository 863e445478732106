-- What each status says, from how the run ended and what its last answer wrote.
use Rattle.std.proofs.Common.{◌≡◌, ℕ, ◌≤◌, List, [], ◌∷◌, ◌++◌, ◌⊎◌, inl, inr, take, refl, ap, sym, ◌∙◌, subst, append_assoc, arith}
use Rattle.std.specs.Prelude.{Option, Result, Ok, Err}
use Rattle.gate_model.specs.Sequences.{IsLater}
use Rattle.gate_outside.specs.Edge.{AtEnd, Rose, came, gained}
use Rattle.gate_outside.proofs.Moved.{gained-gained, came-none}
use Rattle.script_grammar.specs.declared.text_form.TextForm.{TextForm}
use Rattle.gate_script.specs.declared.refused.Refused.{Refused as Refusal}
use Rattle.gate_script.specs.declared.refused.Refused.TheVariants.{BadLine, Worn}
use Rattle.gate_script.specs.declared.stop.Stop.{Stop}
use Rattle.gate_script.specs.declared.stop.Stop.TheVariants.{ReadFault, WriteFault, NoMemory, Refused}
use Rattle.script_grammar.specs.declared.order.Order.{Order}
use Rattle.script_grammar.specs.Grammar.{lines_of, whole_lines, all_lines}
use Rattle.gate_script.specs.Outcomes.{AreFirst, Finished, Interrupted, Refuses, Ends, Halted, Ran, LinesOutcome, last_line}
use Rattle.gate_script.specs.Outcomes.{WriteFault as write_fault}
use Rattle.gate_script.specs.Plays.{Tells}
use Rattle.gate_script.specs.Sinks.{Sinks, Gains, HaveFailed}
use Rattle.gate_script.specs.Running.{AllDone, StoppedIn, RefusedOf, HasRead, RunEnds, LastSaid, Ended, refused_status}
use Rattle.gate_script.proofs.TakenLaws.{tells}
use Rattle.gate_script.proofs.InputLaws.{no_pieces, run_stopped}
use Rattle.gate_script.proofs.RunLaws.{front}

module _ (form : TextForm) (left : Option (List ℕ)) (bytes a f : List ℕ) where
  at_done : AtEnd left × Finished form bytes a f → LinesOutcome 0 form left bytes a f
  at_done p = record { done = λ e. p; bad_script = λ e. absurd (omega arith); read_fault = λ e. absurd (omega arith); write_fault = λ e. absurd (omega arith); memory = λ e. absurd (omega arith); worn = λ e. absurd (omega arith); only = inl refl }

  at_read_fault : Interrupted form bytes a f → LinesOutcome 4 form left bytes a f
  at_read_fault p = record { done = λ e. absurd (omega arith); bad_script = λ e. absurd (omega arith); read_fault = λ e. p; write_fault = λ e. absurd (omega arith); memory = λ e. absurd (omega arith); worn = λ e. absurd (omega arith); only = inr (inr (inl refl)) }

  at_write_fault : write_fault form bytes a f left → LinesOutcome 5 form left bytes a f
  at_write_fault p = record { done = λ e. absurd (omega arith); bad_script = λ e. absurd (omega arith); read_fault = λ e. absurd (omega arith); write_fault = λ e. p; memory = λ e. absurd (omega arith); worn = λ e. absurd (omega arith); only = inr (inr (inr (inl refl))) }

  at_memory : Halted form bytes a f left → LinesOutcome 6 form left bytes a f
  at_memory p = record { done = λ e. absurd (omega arith); bad_script = λ e. absurd (omega arith); read_fault = λ e. absurd (omega arith); write_fault = λ e. absurd (omega arith); memory = λ e. p; worn = λ e. absurd (omega arith); only = inr (inr (inr (inr (inl refl)))) }

  at_refused : (refused : Refusal) → Ends form bytes a f left refused → LinesOutcome (refused_status refused) form left bytes a f
  at_refused (BadLine number) p = record { done = λ e. absurd (omega arith); bad_script = λ e. (number, p); read_fault = λ e. absurd (omega arith); write_fault = λ e. absurd (omega arith); memory = λ e. absurd (omega arith); worn = λ e. absurd (omega arith); only = inr (inl refl) }
  at_refused (Worn entries) p = record { done = λ e. absurd (omega arith); bad_script = λ e. absurd (omega arith); read_fault = λ e. absurd (omega arith); write_fault = λ e. absurd (omega arith); memory = λ e. absurd (omega arith); worn = λ e. (entries, p); only = inr (inr (inr (inr (inr refl)))) }

module _ (form : TextForm) (k : ℕ) (left0 left : Option (List ℕ)) (b n : Sinks) (a' : Option (List ℕ)) where
  -- no last answer was due
  unchanged : (status : ℕ) (bytes own_a own_f : List ℕ) → left0 ≡ came bytes left → Gains b n own_a own_f → (k ≡ status) × (a' ≡ n.wrote) → LinesOutcome status form left bytes own_a own_f → Ran left0 left b.wrote a' b.framed n.framed (LinesOutcome k form left)
  unchanged status bytes own_a own_f came_is gains same o = record {
    bytes = bytes;
    a = own_a;
    f = own_f;
    read = came_is;
    answered = same.1 ∙ gains.answered;
    framed_on = gains.framed;
    holds = (subst (λ (j : ℕ). LinesOutcome j form left bytes own_a own_f) (sym same.0) o);
  }

  -- more of the answers was written
  said : (status : ℕ) (bytes own_a own_f more : List ℕ) → left0 ≡ came bytes left → Gains b n own_a own_f → k ≡ status → a' ≡ gained n.wrote more → LinesOutcome status form left bytes (own_a ++ more) own_f → Ran left0 left b.wrote a' b.framed n.framed (LinesOutcome k form left)
  said status bytes own_a own_f more came_is gains is put o = record {
    bytes = bytes;
    a = own_a ++ more;
    f = own_f;
    read = came_is;
    answered = put ∙ (ap (λ (x : Option (List ℕ)). gained x more) gains.answered ∙ gained-gained b.wrote own_a more);
    framed_on = gains.framed;
    holds = (subst (λ (j : ℕ). LinesOutcome j form left bytes (own_a ++ more) own_f) (sym is) o);
  }

  -- what all done orders tell
  all_told : (orders : List Order) → (d : AllDone orders b n) → Tells orders d.play d.told.answers d.told.framings
  all_told orders d = tells orders d.play d.told.answers d.told.framings d.told.bytes d.told.plays d.lawful

  refuses : (bytes : List ℕ) (all : List Order) → ((orders : List Order) → IsLater orders all → AreFirst form bytes left orders) → (refused : Refusal) → (s : RefusedOf all refused b n) → Refuses form bytes s.done.told.answers s.done.told.framings left refused
  refuses bytes all are refused s = record { lines = s.orders; next = s.next; play = s.done.play; first = are (s.next ∷ s.orders) s.first; tells = all_told s.orders s.done; is_refused = s.is_refused }

  -- the last answer was due
  last_said : (Fault : Type 0) (bytes : List ℕ) (all : List Order) → ((orders : List Order) → IsLater orders all → AreFirst form bytes left orders) → left0 ≡ came bytes left → (refused : Refusal) → RefusedOf all refused b n → LastSaid refused k Fault n.wrote a'
      → Ran left0 left b.wrote a' b.framed n.framed (LinesOutcome k form left)
  last_said Fault bytes all are came_is refused s (inl w) =
      let t = s.done.told in
      said (refused_status refused) bytes t.answers t.framings (last_line refused) came_is t.gains w.0 w.1
      (at_refused form left bytes (t.answers ++ last_line refused) t.framings refused (record { written = t.answers; refuses = refuses bytes all are refused s; answers_are = refl }))
  last_said Fault bytes all are came_is refused s (inr (inl w)) =
      let t = s.done.told in
      said 5 bytes t.answers t.framings (take w.2.0 (last_line refused)) came_is t.gains w.0 w.2.2
      (at_write_fault form left bytes (t.answers ++ take w.2.0 (last_line refused)) t.framings (inr (record {
        refused = refused;
        written = t.answers;
        refuses = refuses bytes all are refused s;
        own_a = take w.2.0 (last_line refused);
        answer_begins = front (last_line refused) w.2.0;
        answered = refl;
      })))
  last_said Fault bytes all are came_is refused s (inr (inr w)) =
      let t = s.done.told in
      unchanged 6 bytes t.answers t.framings came_is t.gains w
      (at_memory form left bytes t.answers t.framings (record {
        lines = s.orders;
        play = s.done.play;
        first = are s.orders (s.first.0 ++ s.next ∷ [], s.first.1 ∙ sym (append_assoc s.first.0 (s.next ∷ []) s.orders));
        tells = all_told s.orders s.done;
      }))

  -- what the status says of a run that stopped
  stopped : (Fault : Type 0) (bytes : List ℕ) (all : List Order) → ((orders : List Order) → IsLater orders all → AreFirst form bytes left orders) → left0 ≡ came bytes left → (stop : Stop) → StoppedIn all stop b n → Ended (Err stop) k Fault n.wrote a'
      → Ran left0 left b.wrote a' b.framed n.framed (LinesOutcome k form left)
  stopped Fault bytes all are came_is WriteFault s e = unchanged 5 bytes s.own_a s.own_f came_is s.gains e (at_write_fault form left bytes s.own_a s.own_f (inl (record {
    lines = s.orders;
    play = s.play;
    answers = s.answers;
    framings = s.framings;
    first = are s.orders s.first;
    tells = s.tells;
    answers_begin = s.answers_begin;
    framings_begin = s.framings_begin;
    newest = s.newest;
  })))
  stopped Fault bytes all are came_is NoMemory s e = unchanged 6 bytes s.done.told.answers s.done.told.framings came_is s.done.told.gains e (at_memory form left bytes s.done.told.answers s.done.told.framings (record { lines = s.orders; play = s.done.play; first = are s.orders s.first; tells = all_told s.orders s.done }))
  stopped Fault bytes all are came_is (Refused refused) s e = last_said Fault bytes all are came_is refused s e
  stopped Fault bytes all are came_is ReadFault s e = absurd s

  stopped_either : (Fault : Type 0) (bytes : List ℕ) → left0 ≡ came bytes left → (stop : Stop) → StoppedIn (whole_lines form bytes) stop b n ⊎ (AtEnd left × StoppedIn (all_lines form bytes) stop b n) → Ended (Err stop) k Fault n.wrote a'
      → Ran left0 left b.wrote a' b.framed n.framed (LinesOutcome k form left)
  stopped_either Fault bytes came_is stop (inl s) e = stopped Fault bytes (whole_lines form bytes) (λ orders later. inl later) came_is stop s e
  stopped_either Fault bytes came_is stop (inr s) e = stopped Fault bytes (all_lines form bytes) (λ orders later. inr (s.0, later)) came_is stop s.1 e

  -- what the status says
  pub outcome_of : (Fault Last : Type 0) (r : Result (Unit {0}) Stop) → HasRead left0 left (λ bytes. RunEnds form bytes left Fault r b n) → Ended r k Last n.wrote a' → Ran left0 left b.wrote a' b.framed n.framed (LinesOutcome k form left)
  outcome_of Fault Last (Ok u) ran e =
      let d = ran.holds.1 in
      unchanged 0 ran.bytes d.told.answers d.told.framings ran.came_is d.told.gains e (at_done form left ran.bytes d.told.answers d.told.framings (ran.holds.0, record { play = d.play; tells = all_told (all_lines form ran.bytes) d }))
  outcome_of Fault Last (Err ReadFault) ran e =
      let d = ran.holds.1 in
      unchanged 4 ran.bytes d.told.answers d.told.framings ran.came_is d.told.gains e (at_read_fault form left ran.bytes d.told.answers d.told.framings (record { play = d.play; tells = all_told (whole_lines form ran.bytes) d }))
  outcome_of Fault Last (Err WriteFault) ran e = stopped_either Last ran.bytes ran.came_is WriteFault ran.holds e
  outcome_of Fault Last (Err NoMemory) ran e = stopped_either Last ran.bytes ran.came_is NoMemory ran.holds e
  outcome_of Fault Last (Err (Refused refused)) ran e = stopped_either Last ran.bytes ran.came_is (Refused refused) ran.holds e

module _ (form : TextForm) (bytes : List ℕ) (left : Option (List ℕ)) (Fault Last : Type 0) (k : ℕ) (a' : Option (List ℕ)) (b n : Sinks) where
  -- the status of a read fault has its cause
  pub read_cause : (r : Result (Unit {0}) Stop) → RunEnds form bytes left Fault r b n → Ended r k Last n.wrote a' → k ≡ 4 → Fault
  read_cause (Ok u) ends e is = absurd (omega (arith, e.0, is))
  read_cause (Err ReadFault) ends e is = ends.0
  read_cause (Err WriteFault) ends e is = absurd (omega (arith, e.0, is))
  read_cause (Err NoMemory) ends e is = absurd (omega (arith, e.0, is))
  read_cause (Err (Refused refused)) ends e is = absurd (last e)
    where
      last : LastSaid refused k Last n.wrote a' → ⊥
      last (inl w) = by refused w.0
        where
          by : (r : Refusal) → k ≡ refused_status r → ⊥
          by (BadLine number) s = omega (arith, s, is)
          by (Worn entries) s = omega (arith, s, is)
      last (inr (inl w)) = omega (arith, w.0, is)
      last (inr (inr w)) = omega (arith, w.0, is)

  -- a sink failed in orders, or the answers' sink in the last answer
  pub write_cause : (r : Result (Unit {0}) Stop) → RunEnds form bytes left Fault r b n → Ended r k Last n.wrote a' → k ≡ 5 → HaveFailed b n ⊎ Last
  write_cause (Ok u) ends e is = absurd (omega (arith, e.0, is))
  write_cause (Err ReadFault) ends e is = absurd (omega (arith, e.0, is))
  write_cause (Err WriteFault) (inl s) e is = inl s.failed
  write_cause (Err WriteFault) (inr s) e is = inl s.1.failed
  write_cause (Err NoMemory) ends e is = absurd (omega (arith, e.0, is))
  write_cause (Err (Refused refused)) ends e is = last e
    where
      last : LastSaid refused k Last n.wrote a' → HaveFailed b n ⊎ Last
      last (inl w) = absurd (by refused w.0)
        where
          by : (r : Refusal) → k ≡ refused_status r → ⊥
          by (BadLine number) s = omega (arith, s, is)
          by (Worn entries) s = omega (arith, s, is)
      last (inr (inl w)) = inr w.1
      last (inr (inr w)) = absurd (omega (arith, w.0, is))

  -- no count of a sink fell
  pub run_later : (r : Result (Unit {0}) Stop) → RunEnds form bytes left Fault r b n → (b.wrote_faults ≤ n.wrote_faults) × (b.framed_faults ≤ n.framed_faults)
  run_later (Ok u) ends = (ends.1.told.gains.later_answers, ends.1.told.gains.later_frames)
  run_later (Err ReadFault) ends = (ends.1.told.gains.later_answers, ends.1.told.gains.later_frames)
  run_later (Err WriteFault) (inl s) = (s.gains.later_answers, s.gains.later_frames)
  run_later (Err WriteFault) (inr s) = (s.1.gains.later_answers, s.1.gains.later_frames)
  run_later (Err NoMemory) (inl s) = (s.done.told.gains.later_answers, s.done.told.gains.later_frames)
  run_later (Err NoMemory) (inr s) = (s.1.done.told.gains.later_answers, s.1.done.told.gains.later_frames)
  run_later (Err (Refused refused)) (inl s) = (s.done.told.gains.later_answers, s.done.told.gains.later_frames)
  run_later (Err (Refused refused)) (inr s) = (s.1.done.told.gains.later_answers, s.1.done.told.gains.later_frames)

-- the sinks failed in a call where they failed in the run, or in its last answer
pub failed_in : (a a' a'' f f' : ℕ) → a ≤ a' → a' ≤ a'' → (Rose a a' ⊎ Rose f f') ⊎ Rose a' a'' → Rose a a'' ⊎ Rose f f'
failed_in a a' a'' f f' le le' (inl (inl rose)) = inl (omega (arith, le', rose))
failed_in a a' a'' f f' le le' (inl (inr rose)) = inr rose
failed_in a a' a'' f f' le le' (inr rose) = inl (omega (arith, le, rose))

-- the run stopped before it read
pub not_opened : (form : TextForm) (left : Option (List ℕ)) (Fault : Type 0) (b n : Sinks) (stop : Stop) → StoppedIn (lines_of form []) stop b n → HasRead left left (λ bytes. RunEnds form bytes left Fault (Err stop) b n)
not_opened form left Fault b n stop s = record {
  bytes = [];
  came_is = sym (came-none left);
  holds = run_stopped form [] left Fault b n stop (subst (λ (ps : List (List ℕ)). StoppedIn (lines_of form ps) stop b n) (sym (no_pieces form)) s);
}
