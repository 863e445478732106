-- The text of a script's line `write N TEXT`, instruction by instruction.
use Rattle.std.proofs.Common.{◌≡◌, ℕ, ◌+◌, ◌-◌, ◌≤◌, List, [], ◌∷◌, ◌++◌, length, drop, take, refl, ap, sym, ◌∙◌, append_assoc, append-nil, length-append, arith}
use Rattle.gate_model.proofs.MeaningLaws.{act_in_utf8}
use Rattle.guac_framing.specs.Answers.{IsWhole}
use Rattle.std.specs.Prelude.{Option, Some, None, IsSome, Result, Ok, Err, OnErr, false, true}
use Rattle.gate_model.specs.text.ClientMeaning.{act_of}
use Rattle.gate_model.specs.declared.act.Act.{Act}
use Rattle.guac_framing.specs.Splits.{Splits}
use Rattle.guac_framing.proofs.Streams.{splits_on}
use Rattle.script_grammar.specs.Acts.{AsksRoom, HasTooMany, acts_from, acts_of, passed_from, passed_of}

pub on_err : {A E : Type 0} (r : Result A E) (P : Type 0) → P → OnErr r P
on_err (Ok a) P p = tt
on_err (Err e) P p = p

pub acts_more : (es : List (List (List ℕ))) (e : List (List ℕ)) → acts_of (es ++ e ∷ []) ≡ acts_of es ++ acts_from (act_of e)
acts_more [] e = append-nil (acts_from (act_of e))
acts_more (f ∷ es) e = ap (λ (l : List Act). acts_from (act_of f) ++ l) (acts_more es e) ∙ sym (append_assoc (acts_from (act_of f)) (acts_of es) (acts_from (act_of e)))

pub passed_more : (es : List (List (List ℕ))) (e : List (List ℕ)) → passed_of (es ++ e ∷ []) ≡ passed_of es + passed_from (act_of e)
passed_more [] e = omega arith
passed_more (f ∷ es) e = let so_far = passed_more es e in omega (arith, so_far)

-- each instruction has an act, or is passed over
one_more : (act : Option Act) (acts : List Act) (passed count : ℕ) → length acts + passed ≡ count → length (acts_from act ++ acts) + (passed_from act + passed) ≡ count + 1
one_more None acts passed count so_far = omega (arith, so_far)
one_more (Some act) acts passed count so_far = omega (arith, so_far)

pub acts_and_passed : (es : List (List (List ℕ))) → length (acts_of es) + passed_of es ≡ length es
acts_and_passed [] = refl
acts_and_passed (e ∷ es) = let next = one_more (act_of e) (acts_of es) (passed_of es) (length es) (acts_and_passed es) in omega (arith, next)

-- whole instructions stand before the place, with these acts and so many that have none
pub record HasReadTo (text : List ℕ) (at count : ℕ) (acts : List Act) (passed : ℕ) : Type 0 where
  pub instructions : List (List (List ℕ))
  pub splits : Splits text instructions (drop at text)
  pub count_is : length instructions ≡ count
  pub acts_are : acts ≡ acts_of instructions
  pub passed_is : passed ≡ passed_of instructions

module _ (text : List ℕ) (at count : ℕ) (acts : List Act) (passed : ℕ) (so_far : HasReadTo text at count acts passed) where
  -- the next instruction, with its act or none
  pub reads_one : (values : List (List ℕ)) (size : ℕ) → IsWhole (take (length text - at) (drop at text)) values size → HasReadTo text (at + size) (count + 1) (acts ++ acts_from (act_of values)) (passed + passed_from (act_of values))
  reads_one values size whole =
      let e = whole.elements in
      let is : act_of values ≡ act_of e = ap act_of whole.texts ∙ act_in_utf8 e in
      record {
        instructions = so_far.instructions ++ e ∷ [];
        splits = splits_on text at values size whole so_far.instructions so_far.splits;
        count_is = length-append so_far.instructions (e ∷ []) ∙ ap (λ (n : ℕ). n + 1) so_far.count_is;
        acts_are = rw (is, so_far.acts_are) (sym (acts_more so_far.instructions e));
        passed_is = rw (is, so_far.passed_is) (sym (passed_more so_far.instructions e));
      }

  pub few_passed : passed ≤ count
  few_passed = omega (arith, acts_and_passed so_far.instructions, so_far.passed_is, so_far.count_is)

  pub few_acts : length acts ≤ count
  few_acts = omega (arith, acts_and_passed so_far.instructions, ap length so_far.acts_are, so_far.count_is)

  -- instruction 4,097
  pub one_too_many : count ≡ 4096 → (values : List (List ℕ)) (size : ℕ) → IsWhole (take (length text - at) (drop at text)) values size → HasTooMany text
  one_too_many all values size whole =
      let next = reads_one values size whole in
      record { instructions = next.instructions; rest = drop (at + size) text; splits = next.splits; many = next.count_is ∙ ap (λ (n : ℕ). n + 1) all }

  -- the next one has an act, for which there may be no room
  pub next_asks : count + 1 ≤ 4096 → (values : List (List ℕ)) (size : ℕ) (act : Option Act) → IsWhole (take (length text - at) (drop at text)) values size → act ≡ act_of values → IsSome act → AsksRoom text
  next_asks few values size None whole is some = absurd (let z : false ≡ true = some in cc)
  next_asks few values size (Some act) whole is some =
      let e = whole.elements in
      record {
        before = so_far.instructions;
        last = e;
        rest = drop (at + size) text;
        splits = splits_on text at values size whole so_far.instructions so_far.splits;
        few = omega (arith, so_far.count_is, few);
        act = act;
        act_is = sym (is ∙ (ap act_of whole.texts ∙ act_in_utf8 e));
      }
