-- From one place of an instruction to the next.
use Rattle.std.proofs.Common.{◌≡◌, ℕ, suc, ◌+◌, ◌-◌, ◌*◌, ◌<◌, ◌≤◌, true, List, [], ◌∷◌, ◌++◌, ◌&&◌, length, get_or, take, refl, ap, sym, ◌∙◌, subst, arith, append_assoc, append-nil, length-append, length-take, add-one}
use Rattle.std.specs.Prelude.{encode_utf8_all}
use Rattle.std.specs.Char.{IsScalar, encode_utf8}
use Rattle.std.proofs.Math.Seq.{take-suc}
use Rattle.std.proofs.lemmas.Str.{encodes-append}
use Rattle.gate_model.specs.text.Spelling.{IsDigit, SpellsOthers, Spells}
use Rattle.gate_model.proofs.Digits.{AllDigits-append, number_after-append}
use Rattle.guac_framing.specs.Begun.{Begins}
use Rattle.guac_framing.specs.Standing.{InLength, InValue, BehindValue}
use Rattle.guac_framing.specs.Scanned.{HasDigits, HasChars, HasBegun, EndsCharacter}
use Rattle.guac_framing.proofs.Begins.{begins_more}
use Rattle.guac_framing.proofs.Completions.{one_more, from_others, scalars-append}

-- one byte more of a front
pub take_more : (bytes : List ℕ) (at : ℕ) → at < length bytes → take (at + 1) bytes ≡ take at bytes ++ get_or bytes at 0 ∷ []
take_more bytes at less = rw add-one (take-suc bytes at 0 less)

pub at_start : (bytes : List ℕ) → InLength (take 0 bytes) [] []
at_start bytes = record { done = []; others = refl; few = omega arith; split = refl; all = tt }

-- digits
pub no_digits : (bytes : List ℕ) (start : ℕ) → HasDigits bytes start start 0
no_digits bytes start = record { digits = []; split = sym (append-nil (take start bytes)); all = tt; value = refl; count = omega arith }

pub more_digits : (bytes : List ℕ) (start at n b : ℕ) → HasDigits bytes start at n → at < length bytes → get_or bytes at 0 ≡ b → IsDigit b → HasDigits bytes start (at + 1) (n * 10 + (b - 48))
more_digits bytes start at n b h less is digit = record {
  digits = h.digits ++ b ∷ [];
  split = take_more bytes at less ∙ ap (λ c. take at bytes ++ c ∷ []) is ∙ ap (λ l. l ++ b ∷ []) h.split ∙ append_assoc (take start bytes) h.digits (b ∷ []);
  all = AllDigits-append h.digits (b ∷ []) h.all (digit, tt);
  value = number_after-append 0 h.digits (b ∷ []) ∙ omega (arith, h.value);
  count = omega (arith, h.count, length-append h.digits (b ∷ []));
}

pub digits_in : (bytes : List ℕ) (start at n : ℕ) (vs : List (List ℕ)) → InLength (take start bytes) vs [] → (h : HasDigits bytes start at n) → InLength (take at bytes) vs h.digits
digits_in bytes start at n vs i h = record {
  done = i.done;
  others = i.others;
  few = i.few;
  split = ap (λ l. 44 ∷ l) h.split ∙ ap (λ l. l ++ h.digits) i.split ∙ append_assoc i.done (44 ∷ []) h.digits;
  all = h.all;
}

-- the `.` behind them
pub value_in : (bytes : List ℕ) (start at n : ℕ) (vs : List (List ℕ)) → InLength (take start bytes) vs [] → (h : HasDigits bytes start at n) → start < at → at ≤ start + 5 → at < length bytes → get_or bytes at 0 ≡ 46
    → InValue (take (at + 1) bytes) vs [] n
unfolding digits_in
value_in bytes start at n vs i h some short less is =
    let d = digits_in bytes start at n vs i h in
    record {
      done = i.done;
      others = i.others;
      few = i.few;
      digits = h.digits;
      scalars = refl;
      counted = record { all = h.all; some = omega (arith, h.count); short = omega (arith, h.count); value = h.value ∙ omega arith };
      split = ap (λ l. 44 ∷ l) (take_more bytes at less ∙ ap (λ c. take at bytes ++ c ∷ []) is) ∙ ap (λ l. l ++ 46 ∷ []) d.split;
    }

-- characters
pub no_chars : (bytes : List ℕ) (start left : ℕ) → HasChars bytes start start left left
no_chars bytes start left = record { chars = []; scalars = refl; split = sym (append-nil (take start bytes)); count = omega arith }

pub more_chars : (bytes : List ℕ) (start at end n left c : ℕ) → HasChars bytes start at n (suc left) → IsScalar c → take end bytes ≡ take at bytes ++ encode_utf8 c → HasChars bytes start end n left
more_chars bytes start at end n left c h s e = record {
  chars = h.chars ++ c ∷ [];
  scalars = scalars-append h.chars (c ∷ []) h.scalars (ap (λ t. t && true) s);
  split =
      e ∙ ap (λ l. l ++ encode_utf8 c) h.split ∙ append_assoc (take start bytes) (encode_utf8_all h.chars) (encode_utf8 c)
      ∙ ap (λ l. take start bytes ++ l) (sym (encodes-append h.chars (c ∷ []) ∙ ap (λ l. encode_utf8_all h.chars ++ l) (append-nil (encode_utf8 c))));
  count = omega (arith, h.count, length-append h.chars (c ∷ []));
}

pub chars_in : (bytes : List ℕ) (start at n left : ℕ) (vs : List (List ℕ)) → InValue (take start bytes) vs [] n → (h : HasChars bytes start at n left) → InValue (take at bytes) vs h.chars left
chars_in bytes start at n left vs i h = record {
  done = i.done;
  others = i.others;
  few = i.few;
  digits = i.digits;
  scalars = h.scalars;
  counted = record { all = i.counted.all; some = i.counted.some; short = i.counted.short; value = i.counted.value ∙ omega (arith, h.count) };
  split = ap (λ l. 44 ∷ l) h.split ∙ ap (λ l. l ++ encode_utf8_all h.chars) i.split ∙ append_assoc (i.done ++ 44 ∷ i.digits) (46 ∷ []) (encode_utf8_all h.chars);
}

-- the whole value
pub behind_in : (f w : List ℕ) (vs : List (List ℕ)) → InValue f vs w 0 → BehindValue f (vs ++ w ∷ [])
behind_in f w vs i = record {
  others = subst (λ l. SpellsOthers l (vs ++ w ∷ [])) (sym (i.split ∙ append_assoc i.done (44 ∷ i.digits) (46 ∷ encode_utf8_all w)))
      (one_more vs i.done (i.digits ++ 46 ∷ encode_utf8_all w) w i.others
      (i.digits, record { all = i.counted.all; some = i.counted.some; short = i.counted.short; value = i.counted.value ∙ omega arith }, i.scalars, refl));
  count = omega (arith, i.few, length-append vs (w ∷ []));
}

-- the `,` behind it, and the `;`
pub next_in : (bytes : List ℕ) (at : ℕ) (vs : List (List ℕ)) → BehindValue (take at bytes) vs → length vs < 128 → at < length bytes → get_or bytes at 0 ≡ 44 → InLength (take (at + 1) bytes) vs []
next_in bytes at vs i few less is = record {
  done = 44 ∷ take at bytes;
  others = i.others;
  few = few;
  split = ap (λ l. 44 ∷ l) (take_more bytes at less ∙ ap (λ c. take at bytes ++ c ∷ []) is);
  all = tt;
}

pub whole_in : (bytes : List ℕ) (at : ℕ) (vs : List (List ℕ)) → BehindValue (take at bytes) vs → 0 < length vs → at + 1 ≤ 8192 → at < length bytes → get_or bytes at 0 ≡ 59 → Spells (take (at + 1) bytes) vs
whole_in bytes at vs i some room less is =
    let e = take_more bytes at less ∙ ap (λ c. take at bytes ++ c ∷ []) is in
    record {
      spelled = from_others (take (at + 1) bytes) (44 ∷ take at bytes) vs i.others (ap (λ l. 44 ∷ l) e) some;
      count = i.count;
      size = omega (arith, length-take (at + 1) bytes);
    }

-- a character
pub begun_first : (bytes : List ℕ) (start n least most : ℕ) → start < length bytes → Begins (get_or bytes start 0 ∷ []) n least most → HasBegun bytes start (start + 1) n least most
begun_first bytes start n least most less k = record { begun = get_or bytes start 0 ∷ []; split = take_more bytes start less; begins = k; count = refl }

one_less : (m : ℕ) → 0 < m → m ≡ suc (m - 1)
one_less m some = omega arith

pub begun_with : (bytes : List ℕ) (start at m least most : ℕ) → 0 < m → HasBegun bytes start at m least most → HasBegun bytes start at (suc (m - 1)) least most
begun_with bytes start at m least most some h = subst (λ n. HasBegun bytes start at n least most) (one_less m some) h

pub begun_more : (bytes : List ℕ) (start at m least most : ℕ) → HasBegun bytes start at m least most → 0 < m → at < length bytes → least ≤ get_or bytes at 0 → get_or bytes at 0 ≤ most → HasBegun bytes start (at + 1) (m - 1) 128 191
begun_more bytes start at m least most h some less lo hi =
    let g = begun_with bytes start at m least most some h in
    let b = get_or bytes at 0 in
    record {
      begun = g.begun ++ b ∷ [];
      split = take_more bytes at less ∙ ap (λ l. l ++ b ∷ []) g.split ∙ append_assoc (take start bytes) g.begun (b ∷ []);
      begins = begins_more g.begun (m - 1) least most b g.begins lo hi;
      count = omega (arith, g.count, length-append g.begun (b ∷ []));
    }

pub begun_whole : (bytes : List ℕ) (start at m least most : ℕ) → HasBegun bytes start at m least most → m ≡ 0 → EndsCharacter bytes start at
begun_whole bytes start at m least most h none =
    let g : HasBegun bytes start at 0 least most = subst (λ n. HasBegun bytes start at n least most) none h in
    let c = g.begins.whole [] refl in
    (c.0, c.1, g.split ∙ ap (λ l. take start bytes ++ l) (sym (append-nil g.begun) ∙ sym c.2))

pub chars_with : (bytes : List ℕ) (start at n left : ℕ) → 0 < left → HasChars bytes start at n left → HasChars bytes start at n (suc (left - 1))
chars_with bytes start at n left some h = subst (HasChars bytes start at n) (one_less left some) h

-- a character's end is behind its place
pub later_end : (bytes : List ℕ) (at end : ℕ) → EndsCharacter bytes at end → at ≤ length bytes → end ≤ length bytes → at ≤ end
later_end bytes at end k l u = omega (arith, ap length k.2, length-append (take at bytes) (encode_utf8 k.0), length-take at bytes, length-take end bytes)
