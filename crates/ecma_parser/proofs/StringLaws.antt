-- What one more character is in a string, in the colour of a palette and at the start of an operating system string.
use Rattle.std.proofs.Common.{◌≡◌, ◌≢◌, ℕ, zero, suc, ◌-◌, ◌≤◌, ◌<◌, List, [], ◌∷◌, Bool, true, false, cond, Some, None, refl, ap, ◌∙◌, arith}
use Rattle.std.proofs.lemmas.Bool.{cond-true, cond-false, ne_eqb, eq-eqb}
use Rattle.std.specs.Prelude.{◌==◌}
use Rattle.gate_model.specs.terminal.Controls.{ends_string, string_escape, head_string, head_palette, head_osc}
use Rattle.ecma_parser.specs.State.{palette_escape}

-- ---- strings

pub string-ended : (bell : Bool) (c : ℕ) → ends_string bell c ≡ true → head_string bell (c ∷ []) ≡ Some ([], [])
string-ended bell c is = cond-true _ _ _ is

pub string-escape : (bell : Bool) (c : ℕ) (more : List ℕ) → ends_string bell c ≡ false → c ≡ 0x1B → head_string bell (c ∷ more) ≡ string_escape more
string-escape bell c more isnt is = cond-false _ _ _ isnt ∙ cond-true _ _ _ (eq-eqb c 0x1B is)

pub string-more : (bell : Bool) (c : ℕ) (more : List ℕ) → ends_string bell c ≡ false → c ≢ 0x1B → head_string bell (c ∷ more) ≡ head_string bell more
string-more bell c more isnt other = cond-false _ _ _ isnt ∙ cond-false _ _ _ (ne_eqb c 0x1B other)

pub string_escape-ended : (c : ℕ) → c ≡ 0x5C → string_escape (c ∷ []) ≡ Some ([], [])
string_escape-ended c is = cond-true _ _ _ (eq-eqb c 0x5C is)

pub string_escape-other : (c : ℕ) → c ≢ 0x5C → string_escape (c ∷ []) ≡ Some ([], 0x1B ∷ c ∷ [])
string_escape-other c other = cond-false _ _ _ (ne_eqb c 0x5C other)

-- ---- the colour of a palette

pub palette-nil : (left : ℕ) → 0 < left → head_palette left [] ≡ None
palette-nil zero some = absurd (omega arith)
palette-nil (suc n) some = refl

pub palette-last : (left c : ℕ) → left ≡ 1 → head_palette left (c ∷ []) ≡ Some ([], [])
palette-last left c one = ap (λ n. head_palette n (c ∷ [])) one

pub palette-more : (left c : ℕ) (more : List ℕ) → 1 < left → c ≢ 0x1B → head_palette left (c ∷ more) ≡ head_palette (left - 1) more
palette-more zero c more some other = absurd (omega arith)
palette-more (suc zero) c more some other = absurd (omega arith)
palette-more (suc (suc n)) c more some other = ap2 more ∙ ap (λ k. head_palette k more) (one-less n)
  where
    one-less : (n : ℕ) → suc n ≡ suc (suc n) - 1
    one-less n = omega arith

    ap2 : (more : List ℕ) → head_palette (suc (suc n)) (c ∷ more) ≡ head_palette (suc n) more
    ap2 [] = refl
    ap2 (d ∷ ds) = cond-false _ _ _ (ne_eqb c 0x1B other)

pub palette-escape : (left c : ℕ) (more : List ℕ) → 1 < left → c ≡ 0x1B → head_palette left (c ∷ more) ≡ palette_escape (left - 1) more
palette-escape zero c more some is = absurd (omega arith)
palette-escape (suc zero) c more some is = absurd (omega arith)
palette-escape (suc (suc n)) c [] some is = refl
palette-escape (suc (suc n)) c (d ∷ ds) some is =
    cond-true _ _ _ (eq-eqb c 0x1B is) ∙ ap (λ k. cond (d == 0x5C) (head_palette k ds) (Some ([], 0x1B ∷ d ∷ ds))) (two-less n)
  where
    two-less : (n : ℕ) → n ≡ suc (suc n) - 1 - 1
    two-less n = omega arith

pub palette_escape-last : (left c : ℕ) → left ≤ 1 → c ≡ 0x5C → palette_escape left (c ∷ []) ≡ Some ([], [])
palette_escape-last left c few is = cond-true _ _ _ (eq-eqb c 0x5C is) ∙ ap (λ k. head_palette k []) (none left few)
  where
    none : (left : ℕ) → left ≤ 1 → left - 1 ≡ 0
    none left few = omega arith

pub palette_escape-more : (left c : ℕ) (more : List ℕ) → c ≡ 0x5C → palette_escape left (c ∷ more) ≡ head_palette (left - 1) more
palette_escape-more left c more is = cond-true _ _ _ (eq-eqb c 0x5C is)

pub palette_escape-other : (left c : ℕ) → c ≢ 0x5C → palette_escape left (c ∷ []) ≡ Some ([], 0x1B ∷ c ∷ [])
palette_escape-other left c other = cond-false _ _ _ (ne_eqb c 0x5C other)

-- ---- operating system strings

pub osc-reset : (c : ℕ) → c ≡ 0x52 → head_osc (c ∷ []) ≡ Some ([], [])
osc-reset c is = cond-true _ _ _ (eq-eqb c 0x52 is)

pub osc-palette : (c : ℕ) (more : List ℕ) → c ≡ 0x50 → head_osc (c ∷ more) ≡ head_palette 7 more
osc-palette c more is = ap (λ d. head_osc (d ∷ more)) is

pub osc-string : (c : ℕ) (more : List ℕ) → c ≢ 0x52 → c ≢ 0x50 → head_osc (c ∷ more) ≡ head_string true (c ∷ more)
osc-string c more isnt neither = cond-false _ _ _ (ne_eqb c 0x52 isnt) ∙ cond-false _ _ _ (ne_eqb c 0x50 neither)
