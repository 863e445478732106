-- The keys that are left to be typed, and how long a key's text is.
use Rattle.std.proofs.Common.{◌≡◌, ℕ, ◌+◌, ◌^◌, ◌<◌, ◌≤◌, List, [], ◌∷◌, ◌++◌, length, length-append, length-drop, take, drop, Bool, true, false, decimal, codes, refl, ap, sym, subst, ◌∙◌, arith, lit≤, append_assoc, append-nil}
use Rattle.std.proofs.lemmas.List.{drop-drop, nil_from_length, take-append-drop}
use Rattle.std.proofs.lemmas.Bool.{le-ltb, lt-ltb}
use Rattle.std.proofs.lemmas.Fmt.{IsAscii-decimal, length-decimal-le}
use Rattle.std.proofs.lemmas.Str.{encodes-IsAscii}
use Rattle.std.specs.Prelude.{◌==◌, nat_lt, encode_utf8_all, if◌then◌else◌, Result, Ok, OnOk}
use Rattle.std.specs.Fmt.{digits}
use Rattle.std.specs.Str.{chars}
use Rattle.bstr.proofs.Computing.{computing}
use Rattle.bstr.proofs.lemmas.PieceLemmas.{lossy_chars-nil, lossy_chars-step, piece-bounds}
use Rattle.bstr.specs.Utf8.{decoded, or_replacement}
use Rattle.gate_model.specs.text.Text.{element, next_element}
use Rattle.guac_framing.specs.Appended.{separated}
use Rattle.clip_stream.specs.Pasted.{has_some}
use Rattle.clip_stream.specs.Typed.{key_text, keysym_behind, stroke, strokes, strokes_of}

-- the elements of a key and its end, one after the other
append_nested : (a b c : List ℕ) → a ++ (b ++ (c ++ 59 ∷ [])) ≡ a ++ (b ++ (c ++ [])) ++ 59 ∷ []
append_nested a b c = simp (append_assoc, append-nil)

-- behind the end nothing is to be typed
pub strokes-end : (returned : Bool) (at : ℕ) (bytes : List ℕ) → length bytes ≤ at → strokes_of returned (drop at bytes) ≡ []
strokes-end returned at bytes behind =
    ap (strokes_of returned) (nil_from_length (drop at bytes) (omega (arith, length-drop at bytes))) ∙ ap (strokes returned) lossy_chars-nil

-- the character at a place is typed, and then those behind it
pub strokes-step : (returned : Bool) (at size c : ℕ) (bytes rest : List ℕ) → at < length bytes → rest ≡ drop at bytes → c ≡ or_replacement (decoded rest).char → size ≡ (decoded rest).size
    → stroke (keysym_behind returned c) ++ strokes_of (c == 13) (drop (at + size) bytes) ≡ strokes_of returned (drop at bytes)
strokes-step returned at size c bytes rest before r e s =
    let some : 0 < length rest = omega (arith, ap length r, length-drop at bytes) in
    let left : drop (at + size) bytes ≡ drop (decoded rest).size rest = sym (drop-drop size at bytes) ∙ ap (λ t. drop size t) (sym r) ∙ ap (λ n. drop n rest) s in
    ap (λ t. stroke (keysym_behind returned c) ++ strokes_of (c == 13) t) left
    ∙ ap (λ k. stroke (keysym_behind returned k) ++ strokes_of (k == 13) (drop (decoded rest).size rest)) e
    ∙ ap (strokes returned) (sym (lossy_chars-step rest some))
    ∙ ap (strokes_of returned) r

pub number_few : (n : ℕ) → n < 2 ^ 32 → length (separated false (decimal n)) ≤ 14
number_few n below =
    let few : length (decimal n) ≤ 10 = length-decimal-le 10 n (omega arith) (omega arith) (omega arith) in
    let short : length (decimal (length (decimal n))) ≤ 2 = length-decimal-le 2 (length (decimal n)) (omega arith) (omega arith) (omega arith) in
    let same : length (encode_utf8_all (decimal n)) ≡ length (decimal n) = ap length (encodes-IsAscii (decimal n) (IsAscii-decimal n (omega arith))) in
    omega (arith, few, short, same, length-append (decimal (length (decimal n))) (46 ∷ encode_utf8_all (decimal n)))

pub key_few : length (separated true (chars (codes "key"))) ≤ 5
unfolding computing chars digits
key_few = lit≤ tt

state_few_by : (pressed : Bool) → length (separated false (chars (if pressed then codes "1" else codes "0"))) ≤ 4
unfolding computing chars digits
state_few_by true = lit≤ tt
state_few_by false = lit≤ tt

pub state_few : (pressed : Bool) (text : List ℕ) → text ≡ (if pressed then codes "1" else codes "0") → length (separated false (chars text)) ≤ 4
state_few pressed text e = subst (λ (t : List ℕ). length (separated false (chars t)) ≤ 4) (sym e) (state_few_by pressed)

-- what was appended by a writer that wasn't refused
pub appended : {T E P : Type 0} (r : Result T E) (x : T) → r ≡ Ok x → OnOk r P → P
appended {T} {E} {P} r x e h = subst (λ (q : Result T E). OnOk q P) e h

pub longer : (old new text : List ℕ) (n m few : ℕ) → new ≡ old ++ text → n ≡ length old → m ≡ length new → length text ≤ few → m ≤ n + few
longer old new text n m few e a b less = omega (arith, ap length e, length-append old text)

key_spelled : (keysym : ℕ) (pressed : Bool) (text : List ℕ) → text ≡ (if pressed then codes "1" else codes "0")
    → separated true (chars (codes "key")) ++ (separated false (decimal keysym) ++ (separated false (chars text) ++ 59 ∷ [])) ≡ key_text keysym pressed
unfolding chars
key_spelled keysym true text e = rw e (append_nested (element (codes "key")) (next_element (decimal keysym)) (next_element (codes "1")))
key_spelled keysym false text e = rw e (append_nested (element (codes "key")) (next_element (decimal keysym)) (next_element (codes "0")))

-- a key's parts were appended, one after the other
pub key_appended : (old first second third all : List ℕ) (keysym : ℕ) (pressed : Bool) (text : List ℕ) → text ≡ (if pressed then codes "1" else codes "0")
    → first ≡ old ++ separated true (chars (codes "key")) → second ≡ first ++ separated false (decimal keysym) → third ≡ second ++ separated false (chars text) → all ≡ third ++ 59 ∷ []
    → all ≡ old ++ key_text keysym pressed
key_appended old first second third all keysym pressed text e a b c d =
    let key : List ℕ = separated true (chars (codes "key")) in
    let number : List ℕ = separated false (decimal keysym) in
    let state : List ℕ = separated false (chars text) in
    d ∙ ap (λ x. x ++ 59 ∷ []) (c ∙ ap (λ x. x ++ state) (b ∙ ap (λ x. x ++ number) a))
    ∙ append_assoc ((old ++ key) ++ number) state (59 ∷ []) ∙ append_assoc (old ++ key) number (state ++ 59 ∷ []) ∙ append_assoc old key (number ++ (state ++ 59 ∷ []))
    ∙ ap (λ x. old ++ x) (key_spelled keysym pressed text e)

-- the character at a place is within the bytes
pub size_fits : (at size : ℕ) (bytes rest : List ℕ) → at < length bytes → rest ≡ drop at bytes → size ≡ (decoded rest).size → (1 ≤ size) × (at + size ≤ length bytes)
size_fits at size bytes rest before r s =
    let long : length rest + at ≡ length bytes = omega (arith, ap length r, length-drop at bytes) in
    let bounds = piece-bounds rest (omega arith) in
    (omega (arith, bounds.0, s), omega (arith, bounds.2, s))

-- text was left where some was typed, and is given from its front
pub some_left : (given n : ℕ) (text left : List ℕ) → n ≡ length text → drop given text ≡ left → nat_lt given n ≡ has_some left
some_left given n text [] a e = le-ltb given n (omega (arith, ap length e, length-drop given text))
some_left given n text (x ∷ xs) a e = lt-ltb given n (omega (arith, ap length e, length-drop given text))

pub some_long : (xs : List ℕ) → has_some xs ≡ true → 0 < length xs
some_long [] e = cc
some_long (x ∷ xs) e = omega arith

-- where something is to be typed some text waits
pub waits_all : (returned : Bool) (at : ℕ) (waiting bytes : List ℕ) → (waiting ≡ [] → length bytes ≤ at) → has_some waiting ≡ has_some (waiting ++ strokes_of returned (drop at bytes))
waits_all returned at [] bytes typed = ap has_some (sym (strokes-end returned at bytes (typed refl)))
waits_all returned at (x ∷ waiting) bytes typed = refl

nothing_left : (xs : List ℕ) → has_some xs ≡ false → xs ≡ []
nothing_left [] e = refl
nothing_left (x ∷ xs) e = cc

pub gives_some : (n : ℕ) (waiting left given tail : List ℕ) → left ≡ drop n waiting → given ≡ take n waiting → waiting ++ tail ≡ given ++ (left ++ tail)
gives_some n waiting left given tail l g =
    ap (λ x. x ++ tail) (sym (take-append-drop n waiting)) ∙ append_assoc (take n waiting) (drop n waiting) tail
    ∙ ap (λ x. x ++ (drop n waiting ++ tail)) (sym g) ∙ ap (λ x. given ++ (x ++ tail)) (sym l)

pub gives_all : (n : ℕ) (waiting left given tail text : List ℕ) → left ≡ drop n waiting → has_some left ≡ false → given ≡ take n waiting → text ≡ tail → waiting ++ tail ≡ given ++ text
gives_all n waiting left given tail text l none g e =
    gives_some n waiting left given tail l g ∙ ap (λ x. given ++ (x ++ tail)) (nothing_left left none) ∙ ap (λ x. given ++ x) (sym e)

-- a new clipboard
pub nothing_waits : (bytes waiting : List ℕ) → bytes ≡ [] → waiting ≡ [] → waiting ++ strokes_of false (drop 0 bytes) ≡ []
nothing_waits bytes waiting b w = ap (λ x. x ++ strokes_of false (drop 0 bytes)) w ∙ strokes-end false 0 bytes (omega (arith, ap length b))
