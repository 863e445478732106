-- Instructions that are read one after the other.
use Rattle.std.proofs.Common.{◌≡◌, ℕ, ◌+◌, ◌-◌, ◌<◌, ◌≤◌, List, [], ◌∷◌, ◌++◌, length, drop, take, refl, ap, sym, ◌∙◌, subst, length-append, length-drop, arith}
use Rattle.std.proofs.lemmas.List.{take_all, drop-drop, take-append-drop, length-take-le}
use Rattle.gate_model.specs.text.Spelling.{SpellsElements, Spells}
use Rattle.guac_framing.specs.Answers.{IsWhole}
use Rattle.guac_framing.specs.Splits.{Splits}

-- one instruction more
pub splits_more : (es : List (List (List ℕ))) (text rest own after : List ℕ) (e : List (List ℕ)) → Splits text es rest → Spells own e → rest ≡ own ++ after → Splits text (es ++ e ∷ []) after
splits_more [] text rest own after e is spells split = (own, after, spells, is ∙ split, refl)
splits_more (f ∷ es) text rest own after e s spells split = (s.0, s.1, s.2, s.3, splits_more es s.1 rest own after e s.4 spells split)

-- what is left of the text at a place, as a slice is seen
pub left_at : (text : List ℕ) (at : ℕ) → take (length text - at) (drop at text) ≡ drop at text
left_at text at = take_all (length text - at) (drop at text) (omega (arith, length-drop at text))

-- an instruction has some bytes
pub spelled_some : (bytes : List ℕ) (es : List (List ℕ)) → SpellsElements bytes es → 0 < length bytes
spelled_some bytes [] s = absurd s
spelled_some bytes (e ∷ es) s = omega (arith, ap length s.4, length-append (s.0 ++ s.1) (59 ∷ []))

-- an instruction was found at a place of the text
module _ (text : List ℕ) (at : ℕ) (values : List (List ℕ)) (size : ℕ) (whole : IsWhole (take (length text - at) (drop at text)) values size) where
  pub some : 0 < size
  some = omega (arith, spelled_some _ whole.elements whole.spelled.spelled, sym (length-take-le size (take (length text - at) (drop at text)) whole.within))

  pub within : at ≤ length text → at + size ≤ length text
  within before = omega (arith, before, whole.within, ap length (left_at text at), length-drop at text)

  -- these bytes of the text spell it
  pub spelled_there : Spells (take size (drop at text)) whole.elements
  spelled_there = subst (λ (l : List ℕ). Spells (take size l) whole.elements) (left_at text at) whole.spelled

  -- the instructions before the place and this one
  pub splits_on : (es : List (List (List ℕ))) → Splits text es (drop at text) → Splits text (es ++ whole.elements ∷ []) (drop (at + size) text)
  splits_on es splits = splits_more es text (drop at text) (take size (drop at text)) (drop (at + size) text) whole.elements splits spelled_there
      (sym (ap (λ (l : List ℕ). take size (drop at text) ++ l) (sym (drop-drop size at text)) ∙ take-append-drop size (drop at text)))
