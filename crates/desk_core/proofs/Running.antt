-- What each call of a list of calls leaves, from what the call by itself leaves.
use Rattle.std.proofs.Common.{◌≡◌, ℕ, suc, ◌+◌, ◌<◌, ◌≤◌, ◌⊎◌, List, [], ◌∷◌, ◌++◌, length, take, drop, get_or, refl, ap, sym, ◌∙◌, subst, append-nil, append_assoc, arith}
use Rattle.std.proofs.lemmas.List.{take_more}
use Rattle.std.proofs.Math.Seq.{split_at}
use Rattle.std.specs.Prelude.{false, true, Result, Ok, Err}
use Rattle.std.specs.Result.{IsErr}
use Rattle.gate_model.specs.declared.answer.Answer.{Answer}
use Rattle.gate_model.specs.declared.entry.Entry.{Entry}
use Rattle.gate_model.specs.declared.event.Event.{Event}
use Rattle.gate_model.specs.declared.instr.Instr.{Instr}
use Rattle.gate_model.specs.declared.memory.NoMemory.{NoMemory}
use Rattle.gate_model.specs.text.Text.{texts}
use Rattle.gate_model.specs.session.Calls.{Step}
use Rattle.gate_model.specs.session.History.{History}
use Rattle.gate_model.specs.session.Runs.{Runs, handed_out}
use Rattle.desk_core.specs.Calls.{Answered, Ended, HasRun, RanShort, RunEnds, StoppedShort}
use Rattle.desk_core.specs.Desk.{DeskState, Stands}
use Rattle.desk_core.proofs.FrameTexts.{texts-append}

-- a call that hands nothing out leaves any buffer as it is
pub beside : (h : History) (event : Event) (r : Result Answer NoMemory) (old new : DeskState) (w : List ℕ) → Ended h event r old new [] [] → Ended h event r old new w w
beside h event (Ok answer) old new w e = record { added = e.added; step = e.step; stands = e.stands; appended = sym (append-nil w) ∙ ap (λ (xs : List ℕ). w ++ xs) e.appended }
beside h event (Err refused) old new w e = record { unstopped = e.unstopped; desk = e.desk; buffer = refl }

-- one call more
runs_more : (h : History) (es : List Event) (told : List Answer) (g : History) (out : List Instr) → Runs h es told g out → (e : Event) (a : Answer) (added : List Entry) → Step g e a added
    → Runs h (es ++ e ∷ []) (told ++ a ∷ []) (added ++ g) (out ++ handed_out g e a added)
runs_more h [] [] g out (is, nothing) e a added step = (
  added,
  [],
  subst (λ (k : History). Step k e a added) is step,
  (ap (λ (k : History). added ++ k) is, refl),
  ap (λ (xs : List Instr). xs ++ handed_out g e a added) nothing ∙ (ap (λ (k : History). handed_out k e a added) is ∙ sym (append-nil (handed_out h e a added))),
)
runs_more h [] (b ∷ told) g out r e a added step = absurd r
runs_more h (x ∷ es) [] g out r e a added step = absurd r
runs_more h (x ∷ es) (b ∷ told) g out (first, rest, done, later, is) e a added step = (
  first,
  rest ++ handed_out g e a added,
  done,
  runs_more (first ++ h) es told g rest later e a added step,
  ap (λ (xs : List Instr). xs ++ handed_out g e a added) is ∙ append_assoc (handed_out h x b first) rest (handed_out g e a added),
)

pub has_run_nothing : (h : History) (d : DeskState) (before : List ℕ) → Stands d h → HasRun h [] [] d before before
has_run_nothing h d before s = record { longer = h; out = []; runs = (refl, refl); stands = s; appended = sym (append-nil before) }

has_run_one : (h : History) (es : List Event) (told : List Answer) (mid new : DeskState) (before held after : List ℕ) (k : HasRun h es told mid before held) (e : Event) (a : Answer) → Answered k.longer e a new held after
    → HasRun h (es ++ e ∷ []) (told ++ a ∷ []) new before after
has_run_one h es told mid new before held after k e a c =
    let ho : List Instr = handed_out k.longer e a c.added in
    record {
      longer = c.added ++ k.longer;
      out = k.out ++ ho;
      runs = runs_more h es told k.longer k.out k.runs e a c.added c.step;
      stands = c.stands;
      appended = c.appended ∙ (ap (λ (w : List ℕ). w ++ texts ho) k.appended ∙ (append_assoc before (texts k.out) (texts ho) ∙ ap (λ (w : List ℕ). before ++ w) (sym (texts-append k.out ho))));
    }

-- the call behind some first ones of a list
pub has_run_more : (h : History) (events : List Event) (i : ℕ) (other : Event) (told : List Answer) (mid new : DeskState) (before held after : List ℕ) → i < length events → HasRun h (take i events) told mid before held
    → (a : Answer) → ((g : History) → Stands mid g → Ended g (get_or events i other) (Ok a) mid new held after) → HasRun h (take (i + 1) events) (told ++ a ∷ []) new before after
has_run_more h events i other told mid new before held after lt k a ends =
    subst (λ (es : List Event). HasRun h es (told ++ a ∷ []) new before after) (sym (take_more events i other lt))
    (has_run_one h (take i events) told mid new before held after k (get_or events i other) a (ends k.longer k.stands))

-- some first calls of a list were made, and the answers have room for the others
pub record RunAt (old : DeskState) (events : List Event) (i capacity len : ℕ) (told : List Answer) (new : DeskState) (before after : List ℕ) : Type 0 where
  pub room : length events ≤ capacity
  pub place : len ≡ i
  pub ran : (h : History) → Stands old h → HasRun h (take i events) told new before after

-- memory ran short at the call behind them
pub run_short : (h : History) (events : List Event) (i : ℕ) (other : Event) (told : List Answer) (mid new : DeskState) (before held after : List ℕ) → i < length events → (front : HasRun h (take i events) told mid before held) → RanShort front.longer (get_or events i other) mid new held after
    → StoppedShort h events new before after
run_short h events i other told mid new before held after lt front kept = record {
  front = take i events;
  event = get_or events i other;
  others = drop (i + 1) events;
  split = let next : suc i ≡ i + 1 = omega arith in split_at events i other lt ∙ ap (λ (n : ℕ). take i events ++ get_or events i other ∷ drop n events) next;
  answers = told;
  made = record {
    longer = front.longer;
    out = front.out;
    runs = front.runs;
    stands = subst (λ (d : DeskState). Stands d front.longer) (sym kept.desk) front.stands;
    appended = kept.buffer ∙ front.appended;
  };
  unstopped = kept.unstopped;
}

-- it stops, and what was done before stands
pub run_stops : (h : History) (events : List Event) (r : Result (List Answer) NoMemory) (old new : DeskState) (before after : List ℕ) → IsErr r → ((new ≡ old) × (after ≡ before)) ⊎ StoppedShort h events new before after → RunEnds h events r old new before after
run_stops h events (Ok answers) old new before after e k = absurd (let w : false ≡ true = e in cc)
run_stops h events (Err want) old new before after e k = k
