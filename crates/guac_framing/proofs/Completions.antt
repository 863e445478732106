-- The shortest continuation of bytes read so far that spells elements.
use Rattle.std.proofs.Common.{◌≡◌, ℕ, zero, suc, ◌+◌, ◌<◌, ◌≤◌, true, List, [], ◌∷◌, ◌++◌, ◌&&◌, length, refl, ap, sym, ◌∙◌, subst, arith, append_assoc, append-nil, length-append}
use Rattle.std.specs.Prelude.{encode_utf8_all}
use Rattle.std.specs.Str.{all_scalars}
use Rattle.std.specs.Char.{encode_utf8}
use lib.Utf8.{low_scalar}
use Rattle.std.proofs.lemmas.Bool.{and_parts}
use Rattle.std.proofs.lemmas.Str.{encodes-append}
use Rattle.gate_model.specs.text.Spelling.{number_of, SpellsElement, SpellsOthers, SpellsElements}
use Rattle.gate_model.proofs.Digits.{tail_same}
use Rattle.guac_framing.specs.Begun.{Begins}
use Rattle.guac_framing.specs.Standing.{InLength, InValue, BehindValue}
use Rattle.gate_model.specs.terminal.ControlLaws.{BeginsCharacter}
use Rattle.guac_framing.specs.Found.{HasCompletion}
use Rattle.guac_framing.proofs.Leads.{one}
use Rattle.guac_framing.proofs.Begins.{completing}

-- a continuation that spells elements, and how many bytes there are then
pub record Completion (f : List ℕ) (size : ℕ) : Type 0 where
  pub rest : List ℕ
  pub elements : List (List ℕ)
  pub spelled : SpellsElements (f ++ rest) elements
  pub count : length elements ≤ 128
  pub long : length (f ++ rest) ≡ size

pub has_completion : (f : List ℕ) (size : ℕ) → Completion f size → size ≤ 8192 → HasCompletion f
has_completion f size c le = (c.rest, c.elements, record { spelled = c.spelled; count = c.count; size = omega (arith, c.long) })

pub others-append : (vs values : List (List ℕ)) (done more : List ℕ) → SpellsOthers done vs → SpellsOthers more values → SpellsOthers (done ++ more) (vs ++ values)
others-append [] values done more s t = subst (λ l. SpellsOthers l values) (sym (ap (λ l. l ++ more) s)) t
others-append (v ∷ vs) values done more s t =
    (s.0, s.1 ++ more, s.2, ap (λ l. l ++ more) s.3 ∙ append_assoc (44 ∷ s.0) s.1 more, others-append vs values s.1 more s.4 t)

-- elements with `,` before each, and `;`, are an instruction's
pub from_others : (b c : List ℕ) (es : List (List ℕ)) → SpellsOthers c es → 44 ∷ b ≡ c ++ 59 ∷ [] → 0 < length es → SpellsElements b es
from_others b c [] s e some = absurd (omega arith)
from_others b c (v ∷ es) s e some = (s.0, s.1, s.2, s.4, tail_same _ _ _ _ (e ∙ ap (λ l. l ++ 59 ∷ []) s.3))

-- one more element behind its `,`
pub one_more : (vs : List (List ℕ)) (done own v : List ℕ) → SpellsOthers done vs → SpellsElement own v → SpellsOthers (done ++ 44 ∷ own) (vs ++ v ∷ [])
one_more vs done own v s t = others-append vs (v ∷ []) done (44 ∷ own) s (own, [], t, sym (append-nil (44 ∷ own)), refl)

-- an element is completed, and ends the instruction
complete_with : (f done cur rest v : List ℕ) (vs : List (List ℕ)) → SpellsOthers done vs → length vs < 128 → 44 ∷ f ≡ done ++ 44 ∷ cur → SpellsElement (cur ++ rest) v
    → (c : Completion f (length f + length rest + 1)) × (c.rest ≡ rest ++ 59 ∷ [])
complete_with f done cur rest v vs s few split own = (
  record {
    rest = rest ++ 59 ∷ [];
    elements = vs ++ v ∷ [];
    spelled = from_others (f ++ (rest ++ 59 ∷ [])) (done ++ 44 ∷ (cur ++ rest)) (vs ++ v ∷ []) (one_more vs done (cur ++ rest) v s own)
        (ap (λ l. l ++ (rest ++ 59 ∷ [])) split ∙ append_assoc done (44 ∷ cur) (rest ++ 59 ∷ [])
        ∙ ap (λ l. done ++ 44 ∷ l) (sym (append_assoc cur rest (59 ∷ []))) ∙ sym (append_assoc done (44 ∷ (cur ++ rest)) (59 ∷ [])))
        (omega (arith, length-append vs (v ∷ [])));
    count = omega (arith, length-append vs (v ∷ []));
    long = omega (arith, length-append f (rest ++ 59 ∷ []), length-append rest (59 ∷ []));
  },
  refl,
)

-- the letter a, so many times
letters : ℕ → List ℕ
letters zero = []
letters (suc n) = 97 ∷ letters n

length-letters : (n : ℕ) → length (letters n) ≡ n
unfolding letters
length-letters zero = refl
length-letters (suc n) = omega (arith, length-letters n)

encodes-letters : (n : ℕ) → encode_utf8_all (letters n) ≡ letters n
unfolding letters
encodes-letters zero = refl
encodes-letters (suc n) = ap (λ l. l ++ encode_utf8_all (letters n)) (one 97 (omega arith)) ∙ ap (λ l. 97 ∷ l) (encodes-letters n)

scalars-letters : (n : ℕ) → all_scalars (letters n) ≡ true
unfolding letters
scalars-letters zero = refl
scalars-letters (suc n) = scalars-letters n

pub scalars-append : (w v : List ℕ) → all_scalars w ≡ true → all_scalars v ≡ true → all_scalars (w ++ v) ≡ true
scalars-append [] v a b = b
scalars-append (c ∷ w) v a b = let p = and_parts _ _ a in ap (λ t. t && all_scalars (w ++ v)) p.0 ∙ scalars-append w v p.1 b

-- a length with a digit: `.`, so many letters and `;`
pub length_completes : (f ds : List ℕ) (vs : List (List ℕ)) → InLength f vs ds → 1 ≤ length ds → length ds ≤ 5 → Completion f (length f + (number_of ds + 2))
length_completes f ds vs i some short =
    let n = number_of ds in
    let own : SpellsElement (ds ++ 46 ∷ letters n) (letters n) =
    (ds, record { all = i.all; some = some; short = short; value = sym (length-letters n) }, scalars-letters n, ap (λ l. ds ++ 46 ∷ l) (sym (encodes-letters n))) in
    subst (Completion f) (omega (arith, length-letters n)) (complete_with f i.done ds (46 ∷ letters n) (letters n) vs i.others i.few i.split own).0

-- where a length must start: `0.;`
pub start_completes : (f : List ℕ) (vs : List (List ℕ)) → InLength f vs [] → Completion f (length f + 3)
start_completes f vs i =
    let own : SpellsElement (48 ∷ 46 ∷ []) [] = (48 ∷ [], record { all = ((omega arith, omega arith), tt); some = omega arith; short = omega arith; value = refl }, refl, refl) in
    subst (Completion f) (omega arith) (complete_with f i.done [] (48 ∷ 46 ∷ []) [] vs i.others i.few i.split own).0

-- more characters of a value
value_with : (f chars : List ℕ) (vs : List (List ℕ)) (left : ℕ) (i : InValue f vs chars left) (v : List ℕ) → length v ≡ left → all_scalars v ≡ true
    → (c : Completion f (length f + length (encode_utf8_all v) + 1)) × (c.rest ≡ encode_utf8_all v ++ 59 ∷ [])
value_with f chars vs left i v n s =
    let w = encode_utf8_all chars in
    let own : SpellsElement ((i.digits ++ 46 ∷ w) ++ encode_utf8_all v) (chars ++ v) = (
      i.digits,
      record { all = i.counted.all; some = i.counted.some; short = i.counted.short; value = i.counted.value ∙ omega (arith, length-append chars v, n) },
      scalars-append chars v i.scalars s,
      append_assoc i.digits (46 ∷ w) (encode_utf8_all v) ∙ ap (λ l. i.digits ++ 46 ∷ l) (sym (encodes-append chars v)),
    ) in
    complete_with f i.done (i.digits ++ 46 ∷ w) (encode_utf8_all v) (chars ++ v) vs i.others i.few (i.split ∙ append_assoc i.done (44 ∷ i.digits) (46 ∷ w)) own

-- in a value: letters and `;`
pub value_completes : (f chars : List ℕ) (vs : List (List ℕ)) (left : ℕ) → InValue f vs chars left → Completion f (length f + left + 1)
value_completes f chars vs left i =
    subst (Completion f) (omega (arith, ap length (encodes-letters left), length-letters left)) (value_with f chars vs left i (letters left) (length-letters left) (scalars-letters left)).0

-- a completion of a front is one of what it begins with
longer : (f begun : List ℕ) (size : ℕ) (c : Completion f size) (tail : List ℕ) → c.rest ≡ begun ++ tail → Completion (f ++ begun) size
longer f begun size c tail e = record {
  rest = tail;
  elements = c.elements;
  spelled = subst (λ l. SpellsElements l c.elements) (ap (λ l. f ++ l) e ∙ sym (append_assoc f begun tail)) c.spelled;
  count = c.count;
  long = ap length (append_assoc f begun tail ∙ ap (λ l. f ++ l) (sym e)) ∙ c.long;
}

-- in a character: the bytes that are due of it, letters and `;`
pub char_completes : (f begun chars : List ℕ) (vs : List (List ℕ)) (left n least most : ℕ) → InValue f vs chars (suc left) → Begins begun n least most
    → Completion (f ++ begun) (length f + length begun + n + left + 1)
char_completes f begun chars vs left n least most i k =
    let rest = completing n least most k.room in
    let c = k.whole rest.0 rest.1 in
    let v = value_with f chars vs (suc left) i (c.0 ∷ letters left) (omega (arith, length-letters left)) (ap (λ t. t && all_scalars (letters left)) c.1 ∙ scalars-letters left) in
    let tail = rest.0 ++ (encode_utf8_all (letters left) ++ 59 ∷ []) in
    let e : v.0.rest ≡ begun ++ tail =
    v.1 ∙ append_assoc (encode_utf8 c.0) (encode_utf8_all (letters left)) (59 ∷ []) ∙ ap (λ l. l ++ (encode_utf8_all (letters left) ++ 59 ∷ [])) c.2 ∙ append_assoc begun rest.0 _ in
    let size : length (encode_utf8_all (c.0 ∷ letters left)) ≡ length begun + n + left =
    length-append (encode_utf8 c.0) (encode_utf8_all (letters left)) ∙ omega (arith, ap length c.2, length-append begun rest.0, rest.2, ap length (encodes-letters left), length-letters left) in
    subst (Completion (f ++ begun)) (omega (arith, size)) (longer f begun _ v.0 tail e)

-- behind a value: `;`
pub behind_completes : (f : List ℕ) (vs : List (List ℕ)) → BehindValue f vs → Completion f (length f + 1)
behind_completes f [] i = absurd (omega (arith, ap length i.others))
behind_completes f (v ∷ vs) i = record {
  rest = 59 ∷ [];
  elements = v ∷ vs;
  spelled = from_others (f ++ 59 ∷ []) (44 ∷ f) (v ∷ vs) i.others refl (omega arith);
  count = i.count;
  long = length-append f (59 ∷ []);
}

-- less than a character
pub begun_by : (begun : List ℕ) (n least most : ℕ) → Begins begun (suc n) least most → BeginsCharacter begun
begun_by begun n least most k =
    let rest = completing (suc n) least most k.room in
    let c = k.whole rest.0 rest.1 in
    (c.0, rest.1.0 ∷ rest.1.1, c.1, omega arith, c.2 ∙ ap (λ l. begun ++ l) rest.1.2)

pub nothing_begun : BeginsCharacter []
nothing_begun = (97, 97 ∷ [], low_scalar 97 (omega arith), omega arith, one 97 (omega arith))
