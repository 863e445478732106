-- A recording, read one instruction after the other.
use Rattle.std.proofs.Common.{◌≡◌, ℕ, ◌+◌, ◌-◌, ◌<◌, ◌≤◌, List, [], ◌∷◌, ◌++◌, length, drop, take, refl, ap, sym, ◌∙◌, subst, length-drop, arith, true, false, inl, inr}
use Rattle.std.specs.Prelude.{Bool, Option, Some, Result, Ok, Err, min, ◌⊎◌}
use Rattle.std.proofs.lemmas.Bool.{cases_lt}
use Rattle.std.proofs.lemmas.List.{drop_all}
use Rattle.gate_model.specs.declared.instr.Instr.{Instr}
use Rattle.gate_model.specs.text.ServerMeaning.{instr_of}
use Rattle.gate_model.specs.text.Spelling.{Spells}
use Rattle.gate_model.proofs.MeaningLaws.{instr_in_utf8}
use Rattle.guac_framing.specs.Answers.{IsWhole}
use Rattle.guac_framing.specs.Found.{IsBadPlace, IsUnfinished}
use Rattle.guac_framing.proofs.Streams.{left_at, spelled_there, within}
use Rattle.record_play.specs.Recorded.{HasRead, IsFault, IsRecorded, IsRefused, MayFollow, Placed, SpelledAt, through, most_recorded, Byte, Whole, Long}
use Rattle.record_play.specs.Indexes.{IsAt, IsTold}
use Rattle.record_play.specs.declared.index.Index.{Index}
use Rattle.record_play.specs.declared.fault.RecordFault.{RecordFault}

-- the bytes before a place are instructions of which this is known
pub record HasReadTo (bytes : List ℕ) (at : ℕ) (index : Index) : Type 0 where
  pub within : at ≤ length bytes
  pub placed : List Placed
  pub read : HasRead bytes placed
  pub to : through placed ≡ at
  pub known : IsAt index placed

module _ (bytes : List ℕ) (at : ℕ) (values : List (List ℕ)) (size : ℕ) (whole : IsWhole (take (length bytes - at) (drop at bytes)) values size) where
  -- it stands there
  pub stands : at ≤ length bytes → SpelledAt bytes at (at + size) whole.elements
  stands before = record {
    forward = omega arith;
    within = within bytes at values size whole before;
    spelled = subst (λ (n : ℕ). Spells (take n (drop at bytes)) whole.elements) (omega arith) (spelled_there bytes at values size whole);
  }

  -- and means what its values do
  pub meant : instr_of values ≡ instr_of whole.elements
  meant = ap instr_of whole.texts ∙ instr_in_utf8 whole.elements

-- what an answer about one more tells
pub told_no : (placed : List Placed) (given : Option Instr) (end : ℕ) (new : Index) (r : Result Bool RecordFault) → IsTold placed given end new r → r ≡ Ok false → IsRefused placed given
told_no placed given end new (Ok true) told is = absurd (cc)
told_no placed given end new (Ok false) told is = told
told_no placed given end new (Err fault) told is = absurd (cc)

pub told_yes : (placed : List Placed) (given : Option Instr) (end : ℕ) (new : Index) (r : Result Bool RecordFault) → IsTold placed given end new r → r ≡ Ok true → (i : Instr) × (given ≡ Some i) × MayFollow placed i × IsAt new (record { instr = i; end = end } ∷ placed)
told_yes placed given end new (Ok true) told is = told
told_yes placed given end new (Ok false) told is = absurd (cc)
told_yes placed given end new (Err fault) told is = absurd (cc)

module _ (bytes : List ℕ) (at : ℕ) (index : Index) (read : HasReadTo bytes at index) where
  module _ (values : List (List ℕ)) (size : ℕ) (whole : IsWhole (take (length bytes - at) (drop at bytes)) values size) where
    there : SpelledAt bytes (through read.placed) (at + size) whole.elements
    there = subst (λ (n : ℕ). SpelledAt bytes n (at + size) whole.elements) (sym read.to) (stands bytes at values size whole read.within)

    -- an instruction that may not stand there
    pub refused_there : at < most_recorded → IsRefused read.placed (instr_of values) → IsFault bytes at
    refused_there few refusal = record {
      placed = read.placed;
      read = read.read;
      fault = Whole (at + size) whole.elements there (subst (IsRefused read.placed) (meant bytes at values size whole) refusal) (sym read.to) few;
    }

    -- one more
    pub one_more : (new : Index) → ((i : Instr) × (instr_of values ≡ Some i) × MayFollow read.placed i × IsAt new (record { instr = i; end = at + size } ∷ read.placed)) → HasReadTo bytes (at + size) new
    one_more new taken = record {
      within = within bytes at values size whole read.within;
      placed = record { instr = taken.0; end = at + size } ∷ read.placed;
      read = ((whole.elements, there, sym (meant bytes at values size whole) ∙ taken.1), taken.2, read.read);
      to = refl;
      known = taken.3;
    }

  -- a bad byte, which may be past the limit
  pub bad_there : (own place : ℕ) → IsBadPlace (take (length bytes - at) (drop at bytes)) own → place ≡ min (at + own) most_recorded → IsFault bytes place
  bad_there own place bad is =
      let bad_left : IsBadPlace (drop (through read.placed) bytes) own = subst (λ (n : ℕ). IsBadPlace (drop n bytes) own) (sym read.to) (subst (λ (l : List ℕ). IsBadPlace l own) (left_at bytes at) bad) in
      record {
        placed = read.placed;
        read = read.read;
        fault = elim (cases_lt (at + own) most_recorded) [
          | inl low ↦ Byte own bad_left (omega (arith, is, low, read.to)) (omega (arith, is, low))
          | inr high ↦ Long (omega (arith, high, bad.within, ap length (left_at bytes at), length-drop at bytes, read.within)) (omega (arith, is, high)) (inr (inr (own, bad_left, omega (arith, high, read.to))))
        ];
      }

  -- the end, within the limit
  pub ended : length bytes ≤ most_recorded → (at ≡ length bytes) ⊎ IsUnfinished (take (length bytes - at) (drop at bytes)) → IsRecorded bytes read.placed (length bytes - at)
  ended few why = record {
    few = few;
    read = read.read;
    cut_is = omega (arith, read.to, read.within);
    unfinished = elim why [
      | inl all ↦ inl (ap (λ (n : ℕ). drop n bytes) (read.to ∙ all) ∙ drop_all (length bytes) bytes (omega arith))
      | inr more ↦ inr (subst (λ (n : ℕ). IsUnfinished (drop n bytes)) (sym read.to) (subst IsUnfinished (left_at bytes at) more))
    ];
  }

  -- the end, past the limit
  pub too_long : most_recorded < length bytes → (most_recorded ≤ at) ⊎ IsUnfinished (take (length bytes - at) (drop at bytes)) → IsFault bytes most_recorded
  too_long long why = record {
    placed = read.placed;
    read = read.read;
    fault = Long long refl (elim why [
      | inl high ↦ inl (omega (arith, high, read.to))
      | inr more ↦ inr (inl (subst (λ (n : ℕ). IsUnfinished (drop n bytes)) (sym read.to) (subst IsUnfinished (left_at bytes at) more)))
    ]);
  }
