-- Bytes are unfinished just where some character's bytes begin with them and go on; reading on from what is held
-- back is reading the whole.
use Rattle.std.proofs.Common.{◌≡◌, ℕ, ◌≤◌, ◌<◌, List, [], ◌∷◌, ◌++◌, length, length-append, drop, true, false, ⊎_elim, append-nil, refl, sym, ap, ◌∙◌, arith}
use Rattle.std.proofs.lemmas.Bool.{cases_lt, cases_Bool}
use Rattle.std.proofs.lemmas.Bool.Decides.{nat_tests}
use Rattle.std.proofs.lemmas.List.{drop_all}
use Rattle.std.specs.Prelude.{◌==◌, if◌then◌else◌, encode_utf8}
use Rattle.bstr.specs.Utf8.{Decoded, decoded, good, code_of_2, code_of_3, code_of_4, lead_len, second, continues}
use Rattle.bstr.proofs.lemmas.PieceLemmas.{value-1, value-5, value-6, value-8, value-9, value-12}
use Rattle.bstr.proofs.lemmas.EncodeLemmas.{decoded-encode}
use Rattle.bstr.proofs.lemmas.SoundLemmas.{SpellsChar-decoded}
use Rattle.bstr.proofs.lemmas.LossyLemmas.{lossy_chars-utf8_lossy}
use Rattle.gate_model.specs.terminal.Characters.{is_unfinished, pending, settled, characters, head_char}
use Rattle.gate_model.specs.terminal.Controls.{controls, unfinished, head_control}
use Rattle.gate_model.specs.terminal.ControlLaws.{CharactersOfAnyCutting, ControlsOfAnyCutting, GivenControlsStay, BeginsCharacter, UnfinishedBeginsCharacter, CharactersAreLossy}
use Rattle.gate_model.specs.text.Reading.{read, after}
use Rattle.gate_model.proofs.Cutting.{resumes}
use Rattle.gate_model.proofs.CharacterLaws.{unfinished-parts, fits-from, settled-pending, characters_read, head_char-is}
use Rattle.gate_model.proofs.ControlLaws.{head_control-is}

-- a term of the type given
abbrev by : (A : Type 0) → A → A
by A a = a

-- bytes that a character begins with are unfinished
unfinished-begun : (bytes : List ℕ) → BeginsCharacter bytes → is_unfinished bytes ≡ true
unfinished-begun bytes h =
    let c = h.0 in
    let more = h.1 in
    let spelled : decoded (bytes ++ more) ≡ good c (length (encode_utf8 c)) =
    ap decoded (sym h.4 ∙ sym (append-nil (encode_utf8 c))) ∙ decoded-encode c [] h.2 in
    let size : (decoded (bytes ++ more)).size ≡ length (bytes ++ more) = ap (λ (p : Decoded). p.size) spelled ∙ ap length h.4 in
    ⊎_elim
    (λ yes. yes)
    (λ (no : is_unfinished bytes ≡ false). absurd (omega (arith, fits-from bytes more no, length-append bytes more, h.3)))
    (cases_Bool (is_unfinished bytes))

-- bytes and more of them that are a character
begun : (bytes more : List ℕ) (c : ℕ) → 0 < length more → decoded (bytes ++ more) ≡ good c (length (bytes ++ more)) → BeginsCharacter bytes
begun bytes more c some is =
    let whole = bytes ++ more in
    let spelled = SpellsChar-decoded whole c (ap (λ (p : Decoded). p.char) is) in
    let size : (decoded whole).size ≡ length whole = ap (λ (p : Decoded). p.size) is in
    let none : drop (decoded whole).size whole ≡ [] = drop_all (decoded whole).size whole (omega arith) in
    (c, more, spelled.scalar, some, sym (spelled.bytes ∙ ap (λ t. encode_utf8 c ++ t) none ∙ append-nil (encode_utf8 c)))

-- a byte that may stand second
abbrev second_of : ℕ → ℕ
second_of b = if b == 0xE0 then 0xA0 else (if b == 0xF0 then 0x90 else 0x80)

second_of-is : (b : ℕ) → 0xC2 ≤ b → b ≤ 0xF4 → second b (second_of b) ≡ true
second_of-is b from to = grind (arith, nat_tests)

begun-1 : (b : ℕ) → 0xC2 ≤ b → b ≤ 0xF4 → BeginsCharacter (b ∷ [])
begun-1 b from to =
    let c = second_of b in
    let is = second_of-is b from to in
    ⊎_elim
    (λ (two : b < 0xE0). begun (b ∷ []) (c ∷ []) (code_of_2 b c) (omega arith) (value-6 2 b c 0 0 (omega arith, from, two, is)))
    (λ (more : 0xE0 ≤ b). ⊎_elim
    (λ (three : b < 0xF0). begun (b ∷ []) (c ∷ 0x80 ∷ []) (code_of_3 b c 0x80) (omega arith) (value-9 3 b c 0x80 0 (omega arith, more, three, is, refl)))
    (λ (four : 0xF0 ≤ b). begun (b ∷ []) (c ∷ 0x80 ∷ 0x80 ∷ []) (code_of_4 b c 0x80 0x80) (omega arith) (value-12 4 b c 0x80 0x80 (omega arith, four, to, is, refl, refl)))
    (cases_lt b 0xF0))
    (cases_lt b 0xE0)

begun-2 : (b c : ℕ) → 0xE0 ≤ b → b ≤ 0xF4 → second b c ≡ true → BeginsCharacter (b ∷ c ∷ [])
begun-2 b c from to is = ⊎_elim
    (λ (three : b < 0xF0). begun (b ∷ c ∷ []) (0x80 ∷ []) (code_of_3 b c 0x80) (omega arith) (value-9 3 b c 0x80 0 (omega arith, from, three, is, refl)))
    (λ (four : 0xF0 ≤ b). begun (b ∷ c ∷ []) (0x80 ∷ 0x80 ∷ []) (code_of_4 b c 0x80 0x80) (omega arith) (value-12 4 b c 0x80 0x80 (omega arith, four, to, is, refl, refl)))
    (cases_lt b 0xF0)

begun-3 : (b c d : ℕ) → 0xF0 ≤ b → b ≤ 0xF4 → second b c ≡ true → continues d ≡ true → BeginsCharacter (b ∷ c ∷ d ∷ [])
begun-3 b c d from to is next = begun (b ∷ c ∷ d ∷ []) (0x80 ∷ []) (code_of_4 b c d 0x80) (omega arith) (value-12 4 b c d 0x80 (omega arith, from, to, is, next, refl))

-- the first byte of a character of n bytes and more
lead-from : (n b : ℕ) → 0 < n → n < lead_len b → (0xC2 ≤ b) × (b ≤ 0xF4) × (1 < n → 0xE0 ≤ b) × (2 < n → 0xF0 ≤ b) × (n < 4)
lead-from n b pos longer = (grind (arith, nat_tests), grind (arith, nat_tests), λ two. grind (arith, nat_tests), λ three. grind (arith, nat_tests), grind (arith, nat_tests))

begun-unfinished : (bytes : List ℕ) → is_unfinished bytes ≡ true → BeginsCharacter bytes
begun-unfinished [] e = begun [] (0x41 ∷ []) 0x41 (omega arith) (value-1 1 0x41 0 0 0 (omega arith, omega arith))
begun-unfinished (b ∷ []) e =
    let parts = unfinished-parts (b ∷ []) e in
    let lead = lead-from 1 b (omega arith) parts.1 in
    begun-1 b lead.0 lead.1
begun-unfinished (b ∷ c ∷ []) e =
    let parts = unfinished-parts (b ∷ c ∷ []) e in
    let lead = lead-from 2 b (omega arith) parts.1 in
    ⊎_elim
    (λ (is : second b c ≡ true). begun-2 b c (lead.2 (omega arith)) lead.1 is)
    (λ (no : second b c ≡ false).
    let size = ap (λ (p : Decoded). p.size) (value-5 2 b c 0 0 (omega arith, lead.0, lead.1, no)) in
    absurd (omega (arith, parts.0, size)))
    (cases_Bool (second b c))
begun-unfinished (b ∷ c ∷ d ∷ []) e =
    let parts = unfinished-parts (b ∷ c ∷ d ∷ []) e in
    let lead = lead-from 3 b (omega arith) parts.1 in
    ⊎_elim
    (λ (is : second b c ≡ true). ⊎_elim
    (λ (next : continues d ≡ true). begun-3 b c d (lead.3 (omega arith)) lead.1 is next)
    (λ (no : continues d ≡ false).
    let size = ap (λ (p : Decoded). p.size) (value-8 3 b c d 0 (omega arith, lead.2 (omega arith), lead.1, is, no)) in
    absurd (omega (arith, parts.0, size)))
    (cases_Bool (continues d)))
    (λ (no : second b c ≡ false).
    let size = ap (λ (p : Decoded). p.size) (value-5 3 b c d 0 (omega arith, lead.0, lead.1, no)) in
    absurd (omega (arith, parts.0, size)))
    (cases_Bool (second b c))
begun-unfinished (b ∷ c ∷ d ∷ f ∷ rest) e =
    let parts = unfinished-parts (b ∷ c ∷ d ∷ f ∷ rest) e in
    let lead = lead-from (length (b ∷ c ∷ d ∷ f ∷ rest)) b (omega arith) parts.1 in
    absurd (omega (arith, lead.4))

pub unfinished-begins : UnfinishedBeginsCharacter
unfinished-begins bytes = (begun-unfinished bytes, unfinished-begun bytes)

pub characters-lossy : CharactersAreLossy
characters-lossy bytes = (lossy_chars-utf8_lossy (settled bytes), settled-pending bytes)

pub characters-cut : CharactersOfAnyCutting
characters-cut first second =
    let whole = sym (characters_read (first ++ second)) ∙ resumes head_char head_char-is first second in
    let front = characters_read first in
    let both : (characters (first ++ second), pending (first ++ second)) ≡ after (characters first) (read head_char (pending first ++ second)) =
    whole ∙ ap (λ (r : List ℕ × List ℕ). after r.0 (read head_char (r.1 ++ second))) front in
    let rest = both ∙ ap (after (characters first)) (characters_read (pending first ++ second)) in
    record {
      given = ap (λ (r : List ℕ × List ℕ). r.0) rest;
      held = ap (λ (r : List ℕ × List ℕ). r.1) rest;
    }

pub controls-cut : ControlsOfAnyCutting
controls-cut first second =
    let whole = resumes head_control head_control-is first second in
    record {
      given = ap (λ r. r.0) whole;
      held = ap (λ r. r.1) whole;
    }

pub controls-stay : GivenControlsStay
controls-stay first second =
    let more = characters (pending first ++ second) in
    (controls (unfinished (characters first) ++ more), ap controls (characters-cut first second).given ∙ (controls-cut (characters first) more).given)
