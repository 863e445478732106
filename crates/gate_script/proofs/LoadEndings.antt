-- What each status says of a load.
use Rattle.std.proofs.Common.{◌≡◌, ℕ, ◌≤◌, List, [], ◌∷◌, ◌⊎◌, inl, inr, refl, ap, sym, ◌∙◌, subst, arith}
use Rattle.std.specs.Prelude.{◌↔◌, Option, Some, None, Result, Ok, Err}
use Rattle.gate_outside.proofs.Moved.{came-none}
use Rattle.script_grammar.specs.declared.form.Form.{Form}
use Rattle.script_grammar.specs.declared.form.Form.TheVariants.{Text, Load}
use Rattle.script_grammar.specs.declared.text_form.TextForm.{TextForm}
use Rattle.script_grammar.specs.declared.order.Order.{Order}
use Rattle.gate_script.specs.declared.stop.Stop.{Stop}
use Rattle.gate_script.specs.declared.stop.Stop.TheVariants.{ReadFault, WriteFault, NoMemory, Refused}
use Rattle.gate_script.specs.Outcomes.{IsStatus, LinesOutcome, LoadCutShort, LoadHalted, LoadOutcome, Loaded, Outcome, Ran, WroteSo}
use Rattle.gate_script.specs.Plays.{Tells}
use Rattle.gate_script.specs.Sinks.{Sinks, Gains, HaveFailed}
use Rattle.gate_script.specs.Running.{AllDone, Ended}
use Rattle.gate_script.specs.Loading.{LoadRunEnds}
use Rattle.gate_script.proofs.TakenLaws.{tells}

module _ (seed rounds : ℕ) (a f : List ℕ) where
  at_done : Loaded seed rounds a f → LoadOutcome 0 seed rounds [] a f
  at_done p = record { nothing_read = refl; done = λ e. p; write_fault = λ e. absurd (omega (arith, e)); memory = λ e. absurd (omega (arith, e)); only = inl refl }

  at_write_fault : LoadCutShort seed rounds a f → LoadOutcome 5 seed rounds [] a f
  at_write_fault p = record { nothing_read = refl; done = λ e. absurd (omega (arith, e)); write_fault = λ e. p; memory = λ e. absurd (omega (arith, e)); only = inr (inl refl) }

  at_memory : LoadHalted seed rounds a f → LoadOutcome 6 seed rounds [] a f
  at_memory p = record { nothing_read = refl; done = λ e. absurd (omega (arith, e)); write_fault = λ e. absurd (omega (arith, e)); memory = λ e. p; only = inr (inr refl) }

module _ (seed rounds k : ℕ) (b n : Sinks) (a' : Option (List ℕ)) where
  all_told : (orders : List Order) → (d : AllDone orders b n) → Tells orders d.play d.told.answers d.told.framings
  all_told orders d = tells orders d.play d.told.answers d.told.framings d.told.bytes d.told.plays d.lawful

  wrote : (status : ℕ) (a f : List ℕ) → Gains b n a f → k ≡ status → a' ≡ n.wrote → LoadOutcome status seed rounds [] a f → WroteSo b.wrote a' b.framed n.framed (LoadOutcome k seed rounds [])
  wrote status a f gains is same o = record { a = a; f = f; answered = same ∙ gains.answered; framed_on = gains.framed; holds = subst (λ (j : ℕ). LoadOutcome j seed rounds [] a f) (sym is) o }

  -- what the status says
  pub load_outcome : (Last : Type 0) (r : Result (Unit {0}) Stop) → LoadRunEnds seed rounds r b n → Ended r k Last n.wrote a' → WroteSo b.wrote a' b.framed n.framed (LoadOutcome k seed rounds [])
  load_outcome Last (Ok u) w e =
      let d = w.done in
      wrote 0 d.told.answers d.told.framings d.told.gains e.0 e.1
      (at_done seed rounds d.told.answers d.told.framings (record { takes = w.takes; totals = w.totals; play = d.play; tells = all_told _ d; are_totals = w.are_totals; all_taken = w.all_taken }))
  load_outcome Last (Err WriteFault) w e =
      let s = w.2 in
      wrote 5 s.own_a s.own_f s.gains e.0 e.1
      (at_write_fault seed rounds s.own_a s.own_f (record { lines = s.orders; play = s.play; answers = s.answers; framings = s.framings; first = (w.0, w.1, s.first); tells = s.tells; answers_begin = s.answers_begin; framings_begin = s.framings_begin; newest = s.newest }))
  load_outcome Last (Err NoMemory) w e =
      let s = w.2 in
      let d = s.done in
      wrote 6 d.told.answers d.told.framings d.told.gains e.0 e.1
      (at_memory seed rounds d.told.answers d.told.framings (record { lines = s.orders; play = d.play; first = (w.0, w.1, s.first); tells = all_told s.orders d }))
  load_outcome Last (Err ReadFault) w e = absurd w.2
  load_outcome Last (Err (Refused refused)) w e = absurd w.2

  -- the status of a fault has its cause
  pub load_failed : (Last : Type 0) (r : Result (Unit {0}) Stop) → LoadRunEnds seed rounds r b n → Ended r k Last n.wrote a' → k ≡ 5 → HaveFailed b n
  load_failed Last (Ok u) w e is = absurd (omega (arith, e.0, is))
  load_failed Last (Err WriteFault) w e is = w.2.failed
  load_failed Last (Err NoMemory) w e is = absurd (omega (arith, e.0, is))
  load_failed Last (Err ReadFault) w e is = absurd w.2
  load_failed Last (Err (Refused refused)) w e is = absurd w.2

  -- no count of a sink fell
  pub load_later : (r : Result (Unit {0}) Stop) → LoadRunEnds seed rounds r b n → (b.wrote_faults ≤ n.wrote_faults) × (b.framed_faults ≤ n.framed_faults)
  load_later (Ok u) w = (w.done.told.gains.later_answers, w.done.told.gains.later_frames)
  load_later (Err WriteFault) w = (w.2.gains.later_answers, w.2.gains.later_frames)
  load_later (Err NoMemory) w = (w.2.done.told.gains.later_answers, w.2.done.told.gains.later_frames)
  load_later (Err ReadFault) w = absurd w.2
  load_later (Err (Refused refused)) w = absurd w.2

-- a load read nothing
pub load_ran : (seed rounds k : ℕ) (left wrote wrote' framed framed' : Option (List ℕ)) → WroteSo wrote wrote' framed framed' (LoadOutcome k seed rounds []) → Ran left left wrote wrote' framed framed' (Outcome k (Load seed rounds) left)
load_ran seed rounds k left wrote wrote' framed framed' w = record { bytes = []; a = w.a; f = w.f; read = sym (came-none left); answered = w.answered; framed_on = w.framed_on; holds = w.holds }

-- the lines of an input are an outcome of their form
pub text_ran : (form : TextForm) (k : ℕ) (left left' wrote wrote' framed framed' : Option (List ℕ)) → Ran left left' wrote wrote' framed framed' (LinesOutcome k form left') → Ran left left' wrote wrote' framed framed' (Outcome k (Text form) left')
text_ran form k left left' wrote wrote' framed framed' r = record { bytes = r.bytes; a = r.a; f = r.f; read = r.read; answered = r.answered; framed_on = r.framed_on; holds = r.holds }

-- words of a form have another status than 2
pub text_is_used : {A : Type 0} → (k : ℕ) → IsStatus k → k ≡ 2 → A
text_is_used k (inl e) is = absurd (omega (arith, e, is))
text_is_used k (inr (inl e)) is = absurd (omega (arith, e, is))
text_is_used k (inr (inr (inl e))) is = absurd (omega (arith, e, is))
text_is_used k (inr (inr (inr (inl e)))) is = absurd (omega (arith, e, is))
text_is_used k (inr (inr (inr (inr (inl e))))) is = absurd (omega (arith, e, is))
text_is_used k (inr (inr (inr (inr (inr e))))) is = absurd (omega (arith, e, is))

pub load_is_used : {A : Type 0} → (k : ℕ) → (k ≡ 0) ⊎ (k ≡ 5) ⊎ (k ≡ 6) → k ≡ 2 → A
load_is_used k (inl e) is = absurd (omega (arith, e, is))
load_is_used k (inr (inl e)) is = absurd (omega (arith, e, is))
load_is_used k (inr (inr e)) is = absurd (omega (arith, e, is))

-- a load doesn't read, so no read fails
pub load_reads_none : {A : Type 0} → (k : ℕ) → (k ≡ 0) ⊎ (k ≡ 5) ⊎ (k ≡ 6) → k ≡ 4 → A
load_reads_none k (inl e) is = absurd (omega (arith, e, is))
load_reads_none k (inr (inl e)) is = absurd (omega (arith, e, is))
load_reads_none k (inr (inr e)) is = absurd (omega (arith, e, is))

none_is_some : {A : Type 0} → (form : Form) → ◌≡◌ {A = Option Form} (Some form) None → A
none_is_some form e = absurd cc

pub used : (o : Option Form) (form : Form) (k : ℕ) → o ≡ Some form → (k ≡ 2 → ⊥) → (o ≡ None) ↔ (k ≡ 2)
used o form k is other = (λ e. none_is_some form (sym is ∙ e), λ e. absurd (other e))

-- the form that the words give is one
pub same_form : (s t : Form) → Some s ≡ Some t → s ≡ t
same_form s t e = ap (or_else s) e
  where
    or_else : Form → Option Form → Form
    or_else s None = s
    or_else s (Some t) = t
