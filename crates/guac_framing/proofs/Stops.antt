-- Why the reading stops at a place.
use Rattle.std.proofs.Common.{◌≡◌, ◌≢◌, ℕ, suc, ◌+◌, ◌-◌, ◌*◌, ◌<◌, ◌≤◌, ◌⊎◌, inl, inr, List, [], ◌∷◌, ◌++◌, length, get_or, take, refl, ap, sym, ◌∙◌, subst, arith, append_assoc, append-nil, length-append, length-take}
use Rattle.std.specs.Char.{encode_utf8}
use Rattle.std.proofs.lemmas.List.{take_all}
use Rattle.std.proofs.lemmas.Bool.{cases_lt}
use Rattle.gate_model.specs.text.Spelling.{IsDigit, SpellsElements}
use Rattle.guac_framing.specs.declared.next.BadKind.{BadKind}
use Rattle.guac_framing.specs.declared.next.BadKind.TheVariants.{Digit, Length, Separator, Utf8, TooMany, TooLong}
use Rattle.guac_framing.specs.Begun.{Begins, BeginsNone}
use Rattle.guac_framing.specs.Standing.{InLength, InValue, BehindValue}
use Rattle.guac_framing.specs.Scanned.{HasDigits, HasBegun}
use Rattle.guac_framing.specs.Found.{HasNoInstruction, HasCompletion, IsUnfinished, IsBadAt, HasKind}
use Rattle.guac_framing.proofs.Apart.{one_kind}
use Rattle.guac_framing.proofs.Begins.{begins_no_more}
use Rattle.guac_framing.proofs.Seen.{NoElements, none_of}
use Rattle.guac_framing.proofs.Rejects.{length_none, length_rejects_digit, length_rejects_sixth, length_rejects_long, comma_rejects_long, value_none, value_rejects_lead, char_rejects, char_none, char_rejects_long, behind_none, behind_rejects_separator, behind_rejects_many}
use Rattle.guac_framing.proofs.Completions.{Completion, has_completion, length_completes, start_completes, value_completes, char_completes, behind_completes, begun_by, nothing_begun}
use Rattle.guac_framing.proofs.Steps.{take_more, more_digits, digits_in, next_in, begun_with}

length_front : (bytes : List ℕ) (at : ℕ) → at ≤ length bytes → length (take at bytes) ≡ at
length_front bytes at le = omega (arith, length-take at bytes)

-- the bytes through a place, and what follows
behind_byte : (bytes : List ℕ) (at : ℕ) (z : List ℕ) → at < length bytes → take (at + 1) bytes ++ z ≡ take at bytes ++ get_or bytes at 0 ∷ z
behind_byte bytes at z less = ap (λ l. l ++ z) (take_more bytes at less) ∙ append_assoc (take at bytes) (get_or bytes at 0 ∷ []) z

bad_at : (bytes : List ℕ) (at : ℕ) (kind : BadKind) → at < length bytes → HasCompletion (take at bytes) → ((z : List ℕ) → NoElements (take at bytes ++ get_or bytes at 0 ∷ z)) → HasKind (take at bytes) (get_or bytes at 0) kind
    → IsBadAt bytes record { place = at; kind = kind }
bad_at bytes at kind less before rejected why = record {
  place = record { within = less; before = before; through = λ z. subst HasNoInstruction (sym (behind_byte bytes at z less)) (none_of _ (rejected z)) };
  kind = why;
  one_kind = λ other k. one_kind (take at bytes) (get_or bytes at 0) other kind k why;
}

-- none of the other kinds, but each completion has too many bytes
too_long : (bytes : List ℕ) (at size : ℕ) → at < length bytes → HasCompletion (take at bytes) → Completion (take (at + 1) bytes) size → ((z : List ℕ) → HasNoInstruction (take (at + 1) bytes ++ z))
    → IsBadAt bytes record { place = at; kind = TooLong }
too_long bytes at size less before c rejected =
    let why : HasKind (take at bytes) (get_or bytes at 0) TooLong = (c.rest, c.elements, subst (λ l. SpellsElements l c.elements) (behind_byte bytes at c.rest less) c.spelled, c.count) in
    record {
      place = record { within = less; before = before; through = rejected };
      kind = why;
      one_kind = λ other k. one_kind (take at bytes) (get_or bytes at 0) other TooLong k why;
    }

unfinished : (bytes : List ℕ) (at : ℕ) → length bytes ≤ at → HasNoInstruction (take at bytes) → HasCompletion (take at bytes) → IsUnfinished bytes
unfinished bytes at le none completes =
    let e = take_all at bytes le in
    record { none = subst HasNoInstruction e none; completion = subst HasCompletion e completes }

-- ---- in a length
-- the reader stands in a length
pub record AtLength (bytes : List ℕ) (start at n : ℕ) (vs : List (List ℕ)) : Type 0 where
  pub begun : InLength (take start bytes) vs []
  pub digits : HasDigits bytes start at n
  pub within : at ≤ length bytes
  pub short : at ≤ start + 5
  pub room : start < at → at + (n + 2) ≤ 8192
  pub first : start + 3 ≤ 8192

no_digits_yet : (digits : List ℕ) → length digits ≡ 0 → digits ≡ []
no_digits_yet [] e = refl
no_digits_yet (d ∷ ds) e = absurd (omega arith)

at_length_completion : (bytes : List ℕ) (start at n : ℕ) (vs : List (List ℕ)) → AtLength bytes start at n vs → HasCompletion (take at bytes)
at_length_completion bytes start at n vs a =
    let i = digits_in bytes start at n vs a.begun a.digits in
    let f = length_front bytes at a.within in
    elim (cases_lt start at) [
      | inl less ↦ has_completion (take at bytes) _ (length_completes (take at bytes) a.digits.digits vs i (omega (arith, a.digits.count)) (omega (arith, a.digits.count, a.short)))
          (omega (arith, f, a.digits.value, a.room less))
      | inr le ↦
          let none : a.digits.digits ≡ [] = no_digits_yet a.digits.digits (omega (arith, a.digits.count)) in
          has_completion (take at bytes) _ (start_completes (take at bytes) vs (subst (InLength (take at bytes) vs) none i)) (omega (arith, f, a.first))
    ]

pub stop_in_length : (bytes : List ℕ) (start at n : ℕ) (vs : List (List ℕ)) → AtLength bytes start at n vs → length bytes ≤ at → IsUnfinished bytes
stop_in_length bytes start at n vs a end =
    unfinished bytes at end (length_none (take at bytes) a.digits.digits vs (digits_in bytes start at n vs a.begun a.digits)) (at_length_completion bytes start at n vs a)

pub stop_digit : (bytes : List ℕ) (start at n : ℕ) (vs : List (List ℕ)) → AtLength bytes start at n vs → at < length bytes → (IsDigit (get_or bytes at 0) → ⊥) → (get_or bytes at 0 ≡ 46 → at ≤ start)
    → IsBadAt bytes record { place = at; kind = Digit }
stop_digit bytes start at n vs a less none first =
    let i = digits_in bytes start at n vs a.begun a.digits in
    let empty : get_or bytes at 0 ≡ 46 → a.digits.digits ≡ [] = λ e. no_digits_yet a.digits.digits (omega (arith, first e, a.digits.count)) in
    bad_at bytes at Digit less (at_length_completion bytes start at n vs a) (λ z. length_rejects_digit (take at bytes) a.digits.digits vs (get_or bytes at 0) z i none empty) (vs, a.digits.digits, i, none, empty)

pub stop_sixth : (bytes : List ℕ) (start at n : ℕ) (vs : List (List ℕ)) → AtLength bytes start at n vs → at < length bytes → IsDigit (get_or bytes at 0) → at ≡ start + 5
    → IsBadAt bytes record { place = at; kind = Length }
stop_sixth bytes start at n vs a less digit five =
    let i = digits_in bytes start at n vs a.begun a.digits in
    let long : length a.digits.digits ≡ 5 = omega (arith, a.digits.count, five) in
    bad_at bytes at Length less (at_length_completion bytes start at n vs a) (λ z. length_rejects_sixth (take at bytes) a.digits.digits vs (get_or bytes at 0) z i long digit) (vs, a.digits.digits, i, long, digit)

pub stop_long_length : (bytes : List ℕ) (start at n : ℕ) (vs : List (List ℕ)) → AtLength bytes start at n vs → at < length bytes → IsDigit (get_or bytes at 0) → at < start + 5 → 8192 < at + (n * 10 + (get_or bytes at 0 - 48)) + 3
    → IsBadAt bytes record { place = at; kind = TooLong }
stop_long_length bytes start at n vs a less digit short long =
    let b = get_or bytes at 0 in
    let m = n * 10 + (b - 48) in
    let d = more_digits bytes start at n b a.digits less refl digit in
    let i = digits_in bytes start (at + 1) m vs a.begun d in
    let f = length_front bytes (at + 1) (omega arith) in
    too_long bytes at _ less (at_length_completion bytes start at n vs a)
    (length_completes (take (at + 1) bytes) d.digits vs i (omega (arith, d.count, a.digits.count)) (omega (arith, d.count, short)))
    (λ z. length_rejects_long (take (at + 1) bytes) d.digits z vs i (omega (arith, f, d.value, long)))

-- ---- in a value, where a character is due
-- the reader stands in a value
pub record AtCharacter (bytes : List ℕ) (at left : ℕ) (vs : List (List ℕ)) (chars : List ℕ) : Type 0 where
  pub value : InValue (take at bytes) vs chars (suc left)
  pub within : at ≤ length bytes
  pub room : at + left + 2 ≤ 8192

at_character_completion : (bytes : List ℕ) (at left : ℕ) (vs : List (List ℕ)) (chars : List ℕ) → AtCharacter bytes at left vs chars → HasCompletion (take at bytes)
at_character_completion bytes at left vs chars a = has_completion (take at bytes) _ (value_completes (take at bytes) chars vs (suc left) a.value) (omega (arith, length_front bytes at a.within, a.room))

pub stop_in_value : (bytes : List ℕ) (at left : ℕ) (vs : List (List ℕ)) (chars : List ℕ) → AtCharacter bytes at left vs chars → length bytes ≤ at → IsUnfinished bytes
stop_in_value bytes at left vs chars a end = unfinished bytes at end (value_none (take at bytes) chars vs (suc left) a.value) (at_character_completion bytes at left vs chars a)

pub stop_lead : (bytes : List ℕ) (at left : ℕ) (vs : List (List ℕ)) (chars : List ℕ) → AtCharacter bytes at left vs chars → at < length bytes → BeginsNone (get_or bytes at 0)
    → IsBadAt bytes record { place = at; kind = Utf8 }
stop_lead bytes at left vs chars a less none =
    bad_at bytes at Utf8 less (at_character_completion bytes at left vs chars a) (λ z. value_rejects_lead (take at bytes) chars vs left (get_or bytes at 0) z a.value none)
    (record {
      values = vs;
      chars = chars;
      left = left;
      due = take at bytes;
      begun = [];
      split = sym (append-nil (take at bytes));
      value = a.value;
      begins = nothing_begun;
      forbids = λ c rest s e. none c [] rest s (append-nil (encode_utf8 c) ∙ e);
    })

pub stop_long_character : (bytes : List ℕ) (at left : ℕ) (vs : List (List ℕ)) (chars : List ℕ) (n least most : ℕ) → AtCharacter bytes at left vs chars → at < length bytes → Begins (get_or bytes at 0 ∷ []) n least most
    → 8192 < at + n + left + 2 → IsBadAt bytes record { place = at; kind = TooLong }
stop_long_character bytes at left vs chars n least most a less k long =
    let f = length_front bytes at a.within in
    let b = get_or bytes at 0 in
    too_long bytes at _ less (at_character_completion bytes at left vs chars a)
    (subst (λ l. Completion l (length (take at bytes) + 1 + n + left + 1)) (sym (take_more bytes at less)) (char_completes (take at bytes) (b ∷ []) chars vs left n least most a.value k))
    (λ z. subst HasNoInstruction (sym (behind_byte bytes at z less)) (char_rejects_long (take at bytes) (b ∷ []) z chars vs left n least most a.value k (omega (arith, f, long))))

-- ---- in a character
pub record InCharacter (bytes : List ℕ) (start at n least most left : ℕ) (vs : List (List ℕ)) (chars : List ℕ) : Type 0 where
  pub value : InValue (take start bytes) vs chars (suc left)
  pub begun : HasBegun bytes start at (suc n) least most
  pub within : at ≤ length bytes
  pub room : at + suc n + left + 1 ≤ 8192

in_character_completion : (bytes : List ℕ) (start at n least most left : ℕ) (vs : List (List ℕ)) (chars : List ℕ) → InCharacter bytes start at n least most left vs chars → HasCompletion (take at bytes)
in_character_completion bytes start at n least most left vs chars a =
    let whole : length (take start bytes) + length a.begun.begun ≡ at = sym (length-append (take start bytes) a.begun.begun) ∙ ap length (sym a.begun.split) ∙ length_front bytes at a.within in
    subst HasCompletion (sym a.begun.split)
    (has_completion (take start bytes ++ a.begun.begun) _ (char_completes (take start bytes) a.begun.begun chars vs left (suc n) least most a.value a.begun.begins) (omega (arith, whole, a.room)))

pub stop_in_character : (bytes : List ℕ) (start at n least most left : ℕ) (vs : List (List ℕ)) (chars : List ℕ) → InCharacter bytes start at n least most left vs chars → length bytes ≤ at → IsUnfinished bytes
stop_in_character bytes start at n least most left vs chars a end =
    unfinished bytes at end (subst HasNoInstruction (sym a.begun.split) (char_none (take start bytes) a.begun.begun chars vs left n least most a.value a.begun.begins)) (in_character_completion bytes start at n least most left vs chars a)

pub stop_forbidden : (bytes : List ℕ) (start at n least most left : ℕ) (vs : List (List ℕ)) (chars : List ℕ) → InCharacter bytes start at n least most left vs chars → at < length bytes
    → (get_or bytes at 0 < least) ⊎ (most < get_or bytes at 0) → IsBadAt bytes record { place = at; kind = Utf8 }
stop_forbidden bytes start at n least most left vs chars a less out =
    let b = get_or bytes at 0 in
    let never = begins_no_more a.begun.begun n least most b a.begun.begins out in
    bad_at bytes at Utf8 less (in_character_completion bytes start at n least most left vs chars a)
    (λ z. subst NoElements (sym (ap (λ l. l ++ b ∷ z) a.begun.split ∙ append_assoc (take start bytes) a.begun.begun (b ∷ z))) (char_rejects (take start bytes) a.begun.begun chars vs left b z a.value never))
    (record {
      values = vs;
      chars = chars;
      left = left;
      due = take start bytes;
      begun = a.begun.begun;
      split = a.begun.split;
      value = a.value;
      begins = begun_by a.begun.begun n least most a.begun.begins;
      forbids = λ c rest s e. never c [] rest s (append-nil (encode_utf8 c) ∙ e);
    })

-- ---- behind a value
pub record AtSeparator (bytes : List ℕ) (at : ℕ) (vs : List (List ℕ)) : Type 0 where
  pub behind : BehindValue (take at bytes) vs
  pub within : at ≤ length bytes
  pub room : at + 1 ≤ 8192

at_separator_completion : (bytes : List ℕ) (at : ℕ) (vs : List (List ℕ)) → AtSeparator bytes at vs → HasCompletion (take at bytes)
at_separator_completion bytes at vs a = has_completion (take at bytes) _ (behind_completes (take at bytes) vs a.behind) (omega (arith, length_front bytes at a.within, a.room))

pub stop_behind : (bytes : List ℕ) (at : ℕ) (vs : List (List ℕ)) → AtSeparator bytes at vs → length bytes ≤ at → IsUnfinished bytes
stop_behind bytes at vs a end = unfinished bytes at end (behind_none (take at bytes) vs a.behind) (at_separator_completion bytes at vs a)

pub stop_separator : (bytes : List ℕ) (at : ℕ) (vs : List (List ℕ)) → AtSeparator bytes at vs → at < length bytes → get_or bytes at 0 ≢ 44 → get_or bytes at 0 ≢ 59 → IsBadAt bytes record { place = at; kind = Separator }
stop_separator bytes at vs a less comma end =
    bad_at bytes at Separator less (at_separator_completion bytes at vs a) (λ z. behind_rejects_separator (take at bytes) vs (get_or bytes at 0) z a.behind comma end) (vs, a.behind, comma, end)

pub stop_many : (bytes : List ℕ) (at : ℕ) (vs : List (List ℕ)) → AtSeparator bytes at vs → at < length bytes → get_or bytes at 0 ≡ 44 → length vs ≡ 128 → IsBadAt bytes record { place = at; kind = TooMany }
stop_many bytes at vs a less comma many =
    bad_at bytes at TooMany less (at_separator_completion bytes at vs a) (λ z. behind_rejects_many (take at bytes) vs (get_or bytes at 0) z a.behind comma many) (vs, a.behind, many, comma)

pub stop_long_element : (bytes : List ℕ) (at : ℕ) (vs : List (List ℕ)) → AtSeparator bytes at vs → at < length bytes → get_or bytes at 0 ≡ 44 → length vs < 128 → 8192 < at + 4 → IsBadAt bytes record { place = at; kind = TooLong }
stop_long_element bytes at vs a less comma few long =
    let i = next_in bytes at vs a.behind few less comma in
    let f = length_front bytes (at + 1) (omega arith) in
    too_long bytes at _ less (at_separator_completion bytes at vs a) (start_completes (take (at + 1) bytes) vs i) (λ z. comma_rejects_long (take (at + 1) bytes) z vs i (omega (arith, f, long)))

pub in_character : (bytes : List ℕ) (start at m least most left : ℕ) (vs : List (List ℕ)) (chars : List ℕ) → InValue (take start bytes) vs chars (suc left) → HasBegun bytes start at m least most → 0 < m → at ≤ length bytes → at + m + left + 1 ≤ 8192
    → InCharacter bytes start at (m - 1) least most left vs chars
in_character bytes start at m least most left vs chars i h some within room = record { value = i; begun = begun_with bytes start at m least most some h; within = within; room = omega arith }
