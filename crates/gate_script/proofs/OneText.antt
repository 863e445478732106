-- A line of the frames tells its instructions.
use Rattle.std.proofs.Common.{◌≡◌, ℕ, ◌≤◌, List, [], ◌∷◌, ◌++◌, length, refl, ap, sym, ◌∙◌, append_assoc, arith}
use Rattle.std.specs.Prelude.{Some, decimal, encode_utf8_all}
use Rattle.std.proofs.lemmas.List.{append_cancel_left}
use Rattle.gate_model.specs.declared.instr.Instr.{Instr}
use Rattle.gate_model.specs.picture.Shape.{IsInRange, AreReadable}
use Rattle.gate_model.specs.text.ServerMeaning.{instr_of}
use Rattle.gate_model.specs.text.Spelling.{IsDigit, AllDigits, SpellsElements}
use Rattle.gate_model.specs.text.Text.{elements_of, text, texts}
use Rattle.gate_model.proofs.Digits.{head_same, tail_same}
use Rattle.gate_model.proofs.MeaningLaws.{read_back}
use Rattle.gate_model.proofs.Spelt.{prefix_free}
use Rattle.gate_model.proofs.TextLaws.{text_spells}
use Rattle.gate_script.specs.Told.{frames_line}

-- what spells elements begins with a digit
pub first_digit : (bytes : List ℕ) (es : List (List ℕ)) → SpellsElements bytes es → (d : ℕ) × (rest : List ℕ) × IsDigit d × (bytes ≡ d ∷ rest)
first_digit bytes [] s = absurd s
first_digit bytes (o ∷ others) s =
    let value : List ℕ = 46 ∷ encode_utf8_all o in
    by s.2.0 (value ++ s.1 ++ 59 ∷ []) s.2.1.all s.2.1.some
    (s.4 ∙ (ap (λ (l : List ℕ). l ++ s.1 ++ 59 ∷ []) s.2.3 ∙ (ap (λ (l : List ℕ). l ++ 59 ∷ []) (append_assoc s.2.0 value s.1) ∙ append_assoc s.2.0 (value ++ s.1) (59 ∷ []))))
  where
    by : (digits tail : List ℕ) → AllDigits digits → 1 ≤ length digits → bytes ≡ digits ++ tail → (d : ℕ) × (rest : List ℕ) × IsDigit d × (bytes ≡ d ∷ rest)
    by [] tail all some e = absurd (omega (arith, some))
    by (d ∷ ds) tail all some e = (d, ds ++ tail, all.0, e)

some_is : (i j : Instr) → Some i ≡ Some j → i ≡ j
some_is i j e = cc

-- one text is one instruction
instr_same : (i j : Instr) (x y : List ℕ) → IsInRange i → IsInRange j → text i ++ x ≡ text j ++ y → (i ≡ j) × (x ≡ y)
instr_same i j x y r q e =
    let p = prefix_free (text i) (text j) x y (elements_of i) (elements_of j) (text_spells i r) (text_spells j q) e in
    (some_is i j (sym (read_back i r) ∙ (ap instr_of p.1 ∙ read_back j q)), append_cancel_left (text i) x y (e ∙ ap (λ (l : List ℕ). l ++ y) (sym p.0)))

-- no text begins with a line feed
no_feed : {A : Type 0} → (i : Instr) (x y : List ℕ) → IsInRange i → text i ++ x ≡ 10 ∷ y → A
no_feed i x y r e =
    let d = first_digit (text i) (elements_of i) (text_spells i r).spelled in
    absurd (omega (arith, d.2.0, head_same d.0 10 (d.1 ++ x) y (ap (λ (l : List ℕ). l ++ x) (sym d.3) ∙ e)))

-- one text, up to a line feed, is one list of instructions
texts_same : (is js : List Instr) (x y : List ℕ) → AreReadable is → AreReadable js → texts is ++ 10 ∷ x ≡ texts js ++ 10 ∷ y → is ≡ js
texts_same [] [] x y r q e = refl
texts_same [] (j ∷ js) x y r q e = no_feed j (texts js ++ 10 ∷ y) x q.0 (sym (e ∙ append_assoc (text j) (texts js) (10 ∷ y)))
texts_same (i ∷ is) [] x y r q e = no_feed i (texts is ++ 10 ∷ x) y r.0 (sym (append_assoc (text i) (texts is) (10 ∷ x)) ∙ e)
texts_same (i ∷ is) (j ∷ js) x y r q e =
    let p = instr_same i j (texts is ++ 10 ∷ x) (texts js ++ 10 ∷ y) r.0 q.0 (sym (append_assoc (text i) (texts is) (10 ∷ x)) ∙ (e ∙ append_assoc (text j) (texts js) (10 ∷ y))) in
    ap (λ (k : Instr). k ∷ is) p.0 ∙ ap (λ (l : List Instr). j ∷ l) (texts_same is js x y r.1 q.1 p.1)

-- what stands behind the viewer's number
behind_number : (v : ℕ) (t x : List ℕ) → frames_line v t ++ x ≡ decimal v ++ (32 ∷ t ++ 10 ∷ x)
unfolding frames_line
behind_number v t x = append_assoc (decimal v ++ 32 ∷ t) (10 ∷ []) x ∙ append_assoc (decimal v) (32 ∷ t) (10 ∷ x)

-- one line is one list of instructions, whatever follows
pub line_same : (v : ℕ) (is js : List Instr) (x y : List ℕ) → AreReadable is → AreReadable js → frames_line v (texts is) ++ x ≡ frames_line v (texts js) ++ y → is ≡ js
line_same v is js x y r q e =
    let cut : 32 ∷ texts is ++ 10 ∷ x ≡ 32 ∷ texts js ++ 10 ∷ y =
    append_cancel_left (decimal v) (32 ∷ texts is ++ 10 ∷ x) (32 ∷ texts js ++ 10 ∷ y) (sym (behind_number v (texts is) x) ∙ (e ∙ behind_number v (texts js) y)) in
    texts_same is js x y r q (tail_same 32 32 (texts is ++ 10 ∷ x) (texts js ++ 10 ∷ y) cut)
