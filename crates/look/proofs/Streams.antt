-- A stream of instructions, read one after the other.
use Rattle.std.proofs.Common.{◌≡◌, ℕ, ◌+◌, ◌-◌, ◌<◌, ◌≤◌, List, [], ◌∷◌, ◌++◌, length, drop, take, refl, ap, sym, ◌∙◌, arith}
use Rattle.std.specs.Prelude.{Option, Some, None, option_to_list}
use Rattle.std.specs.List.{filter_map, cons_option}
use Rattle.std.proofs.lemmas.List.Elements.{filter_map-append}
use Rattle.gate_model.specs.declared.instr.Instr.{Instr}
use Rattle.gate_model.specs.text.ServerMeaning.{instr_of}
use Rattle.gate_model.proofs.MeaningLaws.{instr_in_utf8}
use Rattle.guac_framing.specs.Answers.{IsWhole}
use Rattle.guac_framing.proofs.Streams.{splits_on, within}
use Rattle.look.specs.Stream.{GoesOn, HasRead}

listed : (o : Option Instr) → option_to_list o ≡ cons_option o []
listed None = refl
listed (Some i) = refl

module _ (text : List ℕ) (at : ℕ) (values : List (List ℕ)) (size : ℕ) (whole : IsWhole (take (length text - at) (drop at text)) values size) where
  -- the next instruction, or none where it isn't one that the gateway sends
  pub goes_on : at ≤ length text → GoesOn text at (instr_of values) (at + size)
  goes_on before = record {
    step = λ instrs read.
        let e = whole.elements in
        let is : instr_of values ≡ instr_of e = ap instr_of whole.texts ∙ instr_in_utf8 e in
        record {
          elements = read.elements ++ e ∷ [];
          within = within text at values size whole before;
          splits = splits_on text at values size whole read.elements read.splits;
          meant = ap (λ (l : List Instr). l ++ option_to_list (instr_of values)) read.meant ∙ ap (λ (l : List Instr). filter_map instr_of read.elements ++ l) (listed (instr_of values) ∙ ap (λ (o : Option Instr). cons_option o []) is) ∙ sym (filter_map-append instr_of read.elements (e ∷ []));
        };
  }

-- nothing was read yet
pub none_read : (text : List ℕ) → HasRead text 0 []
none_read text = record { elements = []; within = omega arith; splits = refl; meant = refl }
