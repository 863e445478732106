-- What each status says of `play`.
use Rattle.std.proofs.Common.{◌≡◌, ℕ, ◌<◌, List, [], ◌⊎◌, inl, inr, length, take, refl, sym, ◌∙◌, subst, arith}
use Rattle.std.specs.Prelude.{Option}
use Rattle.gate_model.specs.Sequences.{BeginsWith}
use Rattle.gate_outside.specs.Edge.{AtEnd, came}
use Rattle.gate_outside.proofs.Moved.{gained-none}
use Rattle.record_play.specs.Recorded.{most_recorded}
use Rattle.script_grammar.specs.declared.form.Form.TheVariants.{Play}
use Rattle.script_grammar.specs.declared.play_form.PlayForm.{PlayForm}
use Rattle.script_grammar.specs.declared.play_form.PlayForm.TheVariants.{Info, At, Keys}
use Rattle.gate_script.specs.Outcomes.{Outcome, Ran}
use Rattle.gate_script.specs.PlayOutcomes.{HasEnough, IsPlayStatus, IsVerdict, IsWhole, PlayOutcome, ReadAndTold, TextEnds}
use Rattle.gate_script.proofs.RunLaws.{front}
use Rattle.gate_script.specs.PlayTold.{HasFirstFault, TellsOf, bad_recording_line}

module _ (form : PlayForm) (left : Option (List ℕ)) (bytes : List ℕ) where
  at_done : (a : List ℕ) → AtEnd left × TellsOf form bytes a → PlayOutcome 0 form left bytes a []
  at_done a p = record { no_frames = refl; done = λ e. p; bad_recording = λ e. absurd (omega (arith, e)); read_fault = λ e. absurd (omega (arith, e)); write_fault = λ e. absurd (omega (arith, e)); memory = λ e. absurd (omega (arith, e)); only = inl refl }

  at_bad : (a : List ℕ) → (place : ℕ) × HasFirstFault form bytes place × (a ≡ bad_recording_line place) → PlayOutcome 10 form left bytes a []
  at_bad a p = record { no_frames = refl; done = λ e. absurd (omega (arith, e)); bad_recording = λ e. p; read_fault = λ e. absurd (omega (arith, e)); write_fault = λ e. absurd (omega (arith, e)); memory = λ e. absurd (omega (arith, e)); only = inr (inr (inr (inr refl))) }

  at_read_fault : PlayOutcome 4 form left bytes [] []
  at_read_fault = record { no_frames = refl; done = λ e. absurd (omega (arith, e)); bad_recording = λ e. absurd (omega (arith, e)); read_fault = λ e. refl; write_fault = λ e. absurd (omega (arith, e)); memory = λ e. absurd (omega (arith, e)); only = inr (inl refl) }

  at_write_fault : (a : List ℕ) → (text : List ℕ) × IsWhole form left bytes text × BeginsWith text a → PlayOutcome 5 form left bytes a []
  at_write_fault a p = record { no_frames = refl; done = λ e. absurd (omega (arith, e)); bad_recording = λ e. absurd (omega (arith, e)); read_fault = λ e. absurd (omega (arith, e)); write_fault = λ e. p; memory = λ e. absurd (omega (arith, e)); only = inr (inr (inl refl)) }

  at_memory : PlayOutcome 6 form left bytes [] []
  at_memory = record { no_frames = refl; done = λ e. absurd (omega (arith, e)); bad_recording = λ e. absurd (omega (arith, e)); read_fault = λ e. absurd (omega (arith, e)); write_fault = λ e. absurd (omega (arith, e)); memory = λ e. refl; only = inr (inr (inr (inl refl))) }

-- of too many bytes nothing is told but the fault
not_long : (form : PlayForm) (bytes a : List ℕ) → TellsOf form bytes a → most_recorded < length bytes → ⊥
not_long Info bytes a t long = omega (arith, t.read.few, long)
not_long (At stamp) bytes a t long = omega (arith, t.read.few, long)
not_long Keys bytes a t long = omega (arith, t.logged.1.few, long)

module _ (form : PlayForm) (left : Option (List ℕ)) (bytes text : List ℕ) (behind : ℕ) where
  whole : IsVerdict form bytes behind text → HasEnough bytes left → IsWhole form left bytes text
  whole (inl v) (inl end) = inl (end, v.1)
  whole (inl v) (inr long) = absurd (not_long form bytes text v.1 long)
  whole (inr v) enough = inr (v.1, v.2, v.3)

  -- all was written
  all_told : (status : ℕ) → status ≡ behind → IsVerdict form bytes behind text → HasEnough bytes left → PlayOutcome status form left bytes text []
  all_told status is (inl v) (inl end) = subst (λ (s : ℕ). PlayOutcome s form left bytes text []) (sym (is ∙ v.0)) (at_done form left bytes text (end, v.1))
  all_told status is (inl v) (inr long) = absurd (not_long form bytes text v.1 long)
  all_told status is (inr v) enough = subst (λ (s : ℕ). PlayOutcome s form left bytes text []) (sym (is ∙ v.0)) (at_bad form left bytes text (v.1, v.2, v.3))

  -- all was written, or a part
  pub told_ran : (status : ℕ) (Fault : Type 0) (left0 wrote wrote' : Option (List ℕ)) → left0 ≡ came bytes left → HasEnough bytes left → IsVerdict form bytes behind text → TextEnds behind text status Fault wrote wrote'
      → ReadAndTold left0 left wrote wrote' (λ b a. PlayOutcome status form left b a [])
  told_ran status Fault left0 wrote wrote' came_is enough v (inl w) = record { bytes = bytes; a = text; read = came_is; answered = w.1; holds = all_told status w.0 v enough }
  told_ran status Fault left0 wrote wrote' came_is enough v (inr w) = record {
    bytes = bytes;
    a = take w.2.0 text;
    read = came_is;
    answered = w.2.2;
    holds = subst (λ (s : ℕ). PlayOutcome s form left bytes (take w.2.0 text) []) (sym w.0) (at_write_fault form left bytes (take w.2.0 text) (text, whole v enough, front text w.2.0));
  }

-- nothing was written
pub unread_ran : (form : PlayForm) (left0 left wrote : Option (List ℕ)) (bytes : List ℕ) → left0 ≡ came bytes left → ReadAndTold left0 left wrote wrote (λ b a. PlayOutcome 4 form left b a [])
unread_ran form left0 left wrote bytes came_is = record { bytes = bytes; a = []; read = came_is; answered = sym (gained-none wrote); holds = at_read_fault form left bytes }

pub no_memory_ran : (form : PlayForm) (left0 left wrote : Option (List ℕ)) (bytes : List ℕ) → left0 ≡ came bytes left → ReadAndTold left0 left wrote wrote (λ b a. PlayOutcome 6 form left b a [])
no_memory_ran form left0 left wrote bytes came_is = record { bytes = bytes; a = []; read = came_is; answered = sym (gained-none wrote); holds = at_memory form left bytes }

-- the statuses of what is told
pub told_status : (form : PlayForm) (bytes text : List ℕ) (behind status : ℕ) (Fault : Type 0) (wrote wrote' : Option (List ℕ)) → IsVerdict form bytes behind text → TextEnds behind text status Fault wrote wrote' → IsPlayStatus status
told_status form bytes text behind status Fault wrote wrote' (inl v) (inl w) = inl (w.0 ∙ v.0)
told_status form bytes text behind status Fault wrote wrote' (inr v) (inl w) = inr (inr (inr (inr (w.0 ∙ v.0))))
told_status form bytes text behind status Fault wrote wrote' v (inr w) = inr (inr (inl w.0))

-- of these only 5 has a fault of the sink, and none one of the source
pub told_not_4 : {A : Type 0} → (form : PlayForm) (bytes text : List ℕ) (behind status : ℕ) (Fault : Type 0) (wrote wrote' : Option (List ℕ)) → IsVerdict form bytes behind text → TextEnds behind text status Fault wrote wrote' → status ≡ 4 → A
told_not_4 form bytes text behind status Fault wrote wrote' (inl v) (inl w) is = absurd (omega (arith, w.0, v.0, is))
told_not_4 form bytes text behind status Fault wrote wrote' (inr v) (inl w) is = absurd (omega (arith, w.0, v.0, is))
told_not_4 form bytes text behind status Fault wrote wrote' v (inr w) is = absurd (omega (arith, w.0, is))

pub told_fault : (form : PlayForm) (bytes text : List ℕ) (behind status : ℕ) (Fault : Type 0) (wrote wrote' : Option (List ℕ)) → IsVerdict form bytes behind text → TextEnds behind text status Fault wrote wrote' → status ≡ 5 → Fault
told_fault form bytes text behind status Fault wrote wrote' (inl v) (inl w) is = absurd (omega (arith, w.0, v.0, is))
told_fault form bytes text behind status Fault wrote wrote' (inr v) (inl w) is = absurd (omega (arith, w.0, v.0, is))
told_fault form bytes text behind status Fault wrote wrote' v (inr w) is = w.1

-- words of this form have another status than 2
pub play_is_used : {A : Type 0} → (k : ℕ) → IsPlayStatus k → k ≡ 2 → A
play_is_used k (inl e) is = absurd (omega (arith, e, is))
play_is_used k (inr (inl e)) is = absurd (omega (arith, e, is))
play_is_used k (inr (inr (inl e))) is = absurd (omega (arith, e, is))
play_is_used k (inr (inr (inr (inl e)))) is = absurd (omega (arith, e, is))
play_is_used k (inr (inr (inr (inr e)))) is = absurd (omega (arith, e, is))

-- it wrote no frames
pub play_ran : (told : PlayForm) (k : ℕ) (left left' wrote wrote' framed : Option (List ℕ)) → ReadAndTold left left' wrote wrote' (λ bytes a. PlayOutcome k told left' bytes a []) → Ran left left' wrote wrote' framed framed (Outcome k (Play told) left')
play_ran told k left left' wrote wrote' framed r = record { bytes = r.bytes; a = r.a; f = []; read = r.read; answered = r.answered; framed_on = sym (gained-none framed); holds = r.holds }
