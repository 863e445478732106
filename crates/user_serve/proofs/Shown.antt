-- What an outlet shows, step by step.
use Rattle.std.proofs.Common.{◌≡◌, ℕ, ◌⊎◌, List, [], ◌∷◌, ◌++◌, true, false, refl, ap, sym, ◌∙◌, subst, append-nil, append_assoc}
use Rattle.std.specs.Prelude.{None, Result, Ok, Err}
use Rattle.gate_model.specs.declared.entry.Entry.{Entry}
use Rattle.gate_model.specs.declared.event.Event.TheVariants.{Read as read}
use Rattle.gate_model.specs.declared.instr.Instr.{Instr}
use Rattle.gate_model.specs.declared.read_answer.ReadAnswer.{ReadAnswer}
use Rattle.gate_model.specs.declared.read_answer.ReadAnswer.TheVariants.{Frames, Fresh, Ended as read_ended, Empty, Hold}
use Rattle.gate_model.specs.declared.read_refusal.ReadRefusal.{ReadRefusal}
use Rattle.gate_model.specs.declared.read_refusal.ReadRefusal.TheVariants.{NoViewer as read_no_viewer, Worn as read_worn, NoMemory as read_no_memory}
use Rattle.gate_model.specs.session.Calls.{stop_of}
use Rattle.gate_model.specs.session.Delivered.{delivered}
use Rattle.gate_model.specs.session.History.{History}
use Rattle.gate_model.specs.session.Rights.{is_live}
use Rattle.gate_model.specs.text.Text.{text, texts}
use Rattle.gate_model.specs.Sequences.{BeginsWith}
use Rattle.desk_core.specs.Calls.{read_answer}
use Rattle.desk_core.proofs.FrameTexts.{texts-append}
use Rattle.turn_lock.proofs.Elements.{later_refl, later_trans}
use Rattle.turn_lock.specs.declared.view.View.{View}
use Rattle.shared_desk.specs.Called.{Gives}
use Rattle.shared_desk.specs.Members.{IsSound, KnowsViewer}
use Rattle.shared_desk.specs.Own.{own_entries}
use Rattle.shared_desk.proofs.Lasting.{ReadCause, are_reads, read_adds, reads_more, stopped_alone, turn_later, turn_sound}
use Rattle.viewer_acts.specs.Leaving.{HasLeft}
use Rattle.viewer_acts.proofs.Leavings.{has_left}
use Rattle.user_serve.specs.Outlets.{HasShown, HasWritten, OutletRun, StepCause, StepRun, StepWrote, step_of}
use Rattle.user_serve.specs.declared.ends.OutletEnd.{OutletEnd}
use Rattle.user_serve.specs.declared.ends.OutletEnd.TheVariants.{Ended, Left, WriteFault, Worn, NoMemory}
use Rattle.user_serve.specs.declared.showing.Step.{Step}

-- ---- one read

short_read : (viewer : ℕ) (v w : View Entry) (r : Result ReadAnswer ReadRefusal) (before after : List ℕ) → Gives v (read viewer) (read_answer r) w before after → r ≡ Err read_no_memory → stop_of w.seen (read viewer) ≡ None
short_read viewer v w r before after t is = stopped_alone v w (read viewer) _ before after (subst (λ (x : Result ReadAnswer ReadRefusal). Gives v (read viewer) (read_answer x) w before after) is t)

step_cause : (viewer : ℕ) (h : History) (r : Result ReadAnswer ReadRefusal) → (is_live h viewer ≡ false → HasLeft viewer h) → (r ≡ Err read_no_memory → stop_of h (read viewer) ≡ None) → ReadCause r viewer h → StepCause (step_of r) viewer h
step_cause viewer h (Ok (Frames n stamp true)) left alone c = c
step_cause viewer h (Ok (Frames n stamp false)) left alone c = tt
step_cause viewer h (Ok (Fresh stamp true)) left alone c = c
step_cause viewer h (Ok (Fresh stamp false)) left alone c = tt
step_cause viewer h (Ok read_ended) left alone c = c
step_cause viewer h (Ok Empty) left alone c = tt
step_cause viewer h (Ok (Hold n)) left alone c = tt
step_cause viewer h (Err read_no_viewer) left alone c = left c
step_cause viewer h (Err (read_worn n)) left alone c = c
step_cause viewer h (Err read_no_memory) left alone c = alone refl

step_wrote : (r : Result ReadAnswer ReadRefusal) (text written : List ℕ) → written ≡ text → StepWrote (step_of r) text written
step_wrote (Ok (Frames n stamp true)) text written is = is
step_wrote (Ok (Frames n stamp false)) text written is = is
step_wrote (Ok (Fresh stamp true)) text written is = is
step_wrote (Ok (Fresh stamp false)) text written is = is
step_wrote (Ok read_ended) text written is = is
step_wrote (Ok Empty) text written is = is
step_wrote (Ok (Hold n)) text written is = is
step_wrote (Err read_no_viewer) text written is = is
step_wrote (Err (read_worn n)) text written is = is
step_wrote (Err read_no_memory) text written is = is

module _ (viewer : ℕ) (v w : View Entry) (r : Result ReadAnswer ReadRefusal) (before after : List ℕ) (t : Gives v (read viewer) (read_answer r) w before after) (more : List Instr) (given : delivered w.seen viewer ≡ delivered v.seen viewer ++ more) where
  -- all of it was written
  pub step_ran : KnowsViewer viewer v → (written : List ℕ) → written ≡ texts more → StepRun viewer v w written (step_of r)
  step_ran knows written is =
      let k = read_adds v w viewer r before after t in record {
        later = turn_later v w _ t;
        reads = k.reads;
        are_reads = are_reads viewer k.reads k.few;
        own = k.own;
        more = more;
        given = given;
        wrote = step_wrote r (texts more) written is;
        cause = step_cause viewer w.seen r (has_left viewer v w _ knows t) (short_read viewer v w r before after t) k.cause;
        sound = turn_sound v w _ t;
      }

  -- a front, at a fault
  pub step_failed : (written : List ℕ) → BeginsWith (texts more) written → StepRun viewer v w written (Err WriteFault)
  step_failed written part =
      let k = read_adds v w viewer r before after t in record {
        later = turn_later v w _ t;
        reads = k.reads;
        are_reads = are_reads viewer k.reads k.few;
        own = k.own;
        more = more;
        given = given;
        wrote = part;
        cause = tt;
        sound = turn_sound v w _ t;
      }

-- ---- read after read

pub shown_first : (viewer : ℕ) (v : View Entry) (first : List ℕ) → first ≡ texts (delivered v.seen viewer) → HasShown viewer v v first
shown_first viewer v first is = record { later = later_refl v.seen; reads = []; are_reads = tt; own = refl; wrote = is }

pub shown_part : (viewer : ℕ) (v : View Entry) (first written : List ℕ) → IsSound v.seen → first ≡ texts (delivered v.seen viewer) → BeginsWith first written → OutletRun viewer v v written WriteFault
shown_part viewer v first written sound is part = record { later = later_refl v.seen; reads = []; are_reads = tt; own = refl; wrote = (part.0, sym is ∙ part.1); cause = tt; sound = sound }

module _ (viewer : ℕ) (v u w : View Entry) (so_far written : List ℕ) (s : HasShown viewer v u so_far) where
  all_text : (more : List Instr) → delivered w.seen viewer ≡ delivered u.seen viewer ++ more → texts (delivered w.seen viewer) ≡ so_far ++ texts more
  all_text more given = ap texts given ∙ (texts-append (delivered u.seen viewer) more ∙ ap (λ (bs : List ℕ). bs ++ texts more) (sym s.wrote))

  shown_on : (step : Step) → StepRun viewer u w written (Ok step) → HasShown viewer v w (so_far ++ written)
  shown_on step k = record {
    later = later_trans v.seen u.seen w.seen s.later k.later;
    reads = k.reads ++ s.reads;
    are_reads = reads_more viewer k.reads s.reads k.are_reads s.are_reads;
    own = k.own ∙ (ap (λ (es : List Entry). k.reads ++ es) s.own ∙ sym (append_assoc k.reads s.reads (own_entries v)));
    wrote = ap (λ (bs : List ℕ). so_far ++ bs) k.wrote ∙ sym (all_text k.more k.given);
  }

  wrote_all : (end : OutletEnd) (more : List Instr) → texts (delivered w.seen viewer) ≡ so_far ++ texts more → HasWritten end (texts more) written → HasWritten end (texts (delivered w.seen viewer)) (so_far ++ written)
  wrote_all WriteFault more is part = (part.0, is ∙ (ap (λ (bs : List ℕ). so_far ++ bs) part.1 ∙ sym (append_assoc so_far written part.0)))
  wrote_all Ended more is all = ap (λ (bs : List ℕ). so_far ++ bs) all ∙ sym is
  wrote_all Left more is all = ap (λ (bs : List ℕ). so_far ++ bs) all ∙ sym is
  wrote_all Worn more is all = ap (λ (bs : List ℕ). so_far ++ bs) all ∙ sym is
  wrote_all NoMemory more is all = ap (λ (bs : List ℕ). so_far ++ bs) all ∙ sym is

  shown_end : (end : OutletEnd) → StepRun viewer u w written (Err end) → OutletRun viewer v w (so_far ++ written) end
  shown_end end k = record {
    later = later_trans v.seen u.seen w.seen s.later k.later;
    reads = k.reads ++ s.reads;
    are_reads = reads_more viewer k.reads s.reads k.are_reads s.are_reads;
    own = k.own ∙ (ap (λ (es : List Entry). k.reads ++ es) s.own ∙ sym (append_assoc k.reads s.reads (own_entries v)));
    wrote = wrote_all end k.more (all_text k.more k.given) k.wrote;
    cause = k.cause;
    sound = k.sound;
  }

  -- the viewer is the one at the beginning
  pub shown_more : (n : ℕ) → n ≡ viewer → (step : Step) → StepRun n u w written (Ok step) → HasShown viewer v w (so_far ++ written)
  shown_more n same step k = shown_on step (subst (λ (m : ℕ). StepRun m u w written (Ok step)) same k)

  pub shown_last : (n : ℕ) → n ≡ viewer → (end : OutletEnd) → StepRun n u w written (Err end) → OutletRun viewer v w (so_far ++ written) end
  shown_last n same end k = shown_end end (subst (λ (m : ℕ). StepRun m u w written (Err end)) same k)

-- what was written is a front of the text at every end
pub written_front : (end : OutletEnd) (given written : List ℕ) → HasWritten end given written → BeginsWith given written
written_front WriteFault given written part = part
written_front Ended given written all = ([], sym all ∙ sym (append-nil written))
written_front Left given written all = ([], sym all ∙ sym (append-nil written))
written_front Worn given written all = ([], sym all ∙ sym (append-nil written))
written_front NoMemory given written all = ([], sym all ∙ sym (append-nil written))

-- what a step does is that of its equal
pub step_as : (viewer : ℕ) (v w : View Entry) (written : List ℕ) (r result : Result Step OutletEnd) → result ≡ r → StepRun viewer v w written r → StepRun viewer v w written result
step_as viewer v w written r result is k = subst (λ (x : Result Step OutletEnd). StepRun viewer v w written x) (sym is) k
