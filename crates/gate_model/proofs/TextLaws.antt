-- The text of an instruction spells its elements.
use Rattle.std.proofs.Common.{◌≡◌, ℕ, suc, ◌*◌, ◌^◌, ◌<◌, ◌≤◌, List, [], ◌∷◌, ◌++◌, length, flat_map, Bool, true, false, refl, decimal, ℤ, pos, negsuc, arith, lit<, lit≤, length-append}
use Rattle.std.specs.Prelude.{nat_le, encode_utf8_all, codes, if◌then◌else◌}
use Rattle.std.specs.Char.{is_ascii_digit}
use Rattle.std.specs.List.{list_all}
use Rattle.std.specs.Str.{all_scalars}
use Rattle.std.specs.Fmt.{signed_decimal}
use Rattle.std.proofs.lemmas.Bool.{leb-true, lt-ltb, and_parts}
use Rattle.std.proofs.lemmas.Fmt.{length-decimal-le, decimal_nonempty}
use Rattle.std.proofs.lemmas.Str.{length-encode, len_utf8_bounds}
use lib.Utf8.{encode}
use lib.Dec.{leb→le}
use Rattle.gate_model.specs.declared.instr.Instr.TheVariants.{Size, Rect, Cfill, Copy, Sync, Disconnect, Error}
use Rattle.gate_model.specs.text.Text.{element, next_element, text_of_elements, refusal_text, text}
use Rattle.gate_model.specs.text.Spelling.{AllDigits, IsLength, SpellsElement, SpellsOthers, Spells}
use Rattle.gate_model.specs.picture.Shape.{IsLayer}
use Rattle.gate_model.specs.picture.InstrLaws.{TextSpells}
use Rattle.gate_model.proofs.NumeralLaws.{digits-decimal, value-decimal, short-decimal}

-- a value of at most 20 characters
pub record IsShort (value : List ℕ) : Type 0 where
  pub scalars : all_scalars value ≡ true
  pub few : length value ≤ 20

abbrev pub AllShort : List (List ℕ) → Type 0
AllShort [] = Unit {0}
AllShort (v ∷ vs) = IsShort v × AllShort vs

-- ---- the text of short values

digits : (ds : List ℕ) → list_all is_ascii_digit ds ≡ true → AllDigits ds
digits [] all = tt
digits (d ∷ ds) all =
    let p = and_parts (is_ascii_digit d) (list_all is_ascii_digit ds) all in
    let q = and_parts (nat_le 48 d) (nat_le d 57) p.0 in
    ((leb-true 48 d q.0, leb-true d 57 q.1), digits ds p.1)

length_of : (n : ℕ) → n ≤ 20 → IsLength (decimal n) n
length_of n few = record {
  all = digits (decimal n) (digits-decimal n (omega (arith, few)));
  some = omega (arith, decimal_nonempty n (omega (arith, few)));
  short = length-decimal-le 5 n (lit< tt) (omega (arith, few)) (omega (arith, few));
  value = value-decimal n (omega (arith, few));
}

spells_element : (v : List ℕ) → IsShort v → SpellsElement (element v) v
spells_element v s = (decimal (length v), length_of (length v) s.few, s.scalars, refl)

spells_others : (vs : List (List ℕ)) → AllShort vs → SpellsOthers (flat_map next_element vs) vs
spells_others [] s = refl
spells_others (v ∷ vs) s = (element v, flat_map next_element vs, spells_element v s.0, refl, spells_others vs s.1)

-- at most four bytes a character
encoded_size : (v : List ℕ) → length (encode_utf8_all v) ≤ 4 * length v
encoded_size [] = lit≤ tt
encoded_size (c ∷ cs) = omega (arith, length-append (encode c) (encode_utf8_all cs), length-encode c, (len_utf8_bounds c).1, encoded_size cs)

element_size : (v : List ℕ) → IsShort v → length (element v) ≤ 86
element_size v s =
    omega (arith, s.few, length-append (decimal (length v)) (46 ∷ encode_utf8_all v), (length_of (length v) s.few).short, encoded_size v)

others_size : (vs : List (List ℕ)) → AllShort vs → length (flat_map next_element vs) ≤ 87 * length vs
others_size [] s = lit≤ tt
others_size (v ∷ vs) s = omega (arith, length-append (next_element v) (flat_map next_element vs), element_size v s.0, others_size vs s.1)

pub spells_short : (opcode : List ℕ) (others : List (List ℕ)) → IsShort opcode → AllShort others → length others ≤ 9 → Spells (text_of_elements (opcode ∷ others)) (opcode ∷ others)
spells_short opcode others s ss few = record {
  spelled = (element opcode, flat_map next_element others, spells_element opcode s, spells_others others ss, refl);
  count = omega (arith, few);
  size = omega (arith, few, length-append (element opcode ++ flat_map next_element others) (59 ∷ []), length-append (element opcode) (flat_map next_element others), element_size opcode s, others_size others ss);
}

-- ---- the values of an instruction are short

digit_scalars : (ds : List ℕ) → list_all is_ascii_digit ds ≡ true → all_scalars ds ≡ true
digit_scalars [] all = refl
digit_scalars (d ∷ ds) all =
    let p = and_parts (is_ascii_digit d) (list_all is_ascii_digit ds) all in
    let q = and_parts (nat_le 48 d) (nat_le d 57) p.0 in
    let small : d ≤ 57 = leb-true d 57 q.1 in
    rw (lt-ltb d 55296 (omega (arith, small))) (digit_scalars ds p.1)

number : (n : ℕ) → n < 2 ^ 64 → IsShort (decimal n)
number n small = record { scalars = digit_scalars (decimal n) (digits-decimal n small); few = short-decimal n small }

layer : (k : ℤ) → IsLayer k → IsShort (signed_decimal k)
layer (pos n) (low, high) = number n (omega (arith, leb→le n 0 high.le))
layer (negsuc n) (low, high) =
    let most : n ≤ 1023 = leb→le n 1023 low.le in
    record {
      scalars = digit_scalars (decimal (suc n)) (digits-decimal (suc n) (omega (arith, most)));
      few = omega (arith, length-decimal-le 4 (suc n) (lit< tt) (omega (arith, most)) (omega (arith, most)));
    }

word : (w : List ℕ) → all_scalars w ≡ true → (length w ≤ 20) → IsShort w
word w scalars few = record { scalars = scalars; few = few }

either : (b : Bool) (v w : List ℕ) → IsShort v → IsShort w → IsShort (if b then v else w)
either true v w s t = s
either false v w s t = t

message : (status : ℕ) → IsShort (refusal_text status)
message status =
    either _ _ _ (word (codes "no memory") refl (lit≤ tt))
    (either _ _ _ (word (codes "server busy") refl (lit≤ tt))
    (either _ _ _ (word (codes "resource not found") refl (lit≤ tt))
    (either _ _ _ (word (codes "resource conflict") refl (lit≤ tt))
    (either _ _ _ (word (codes "upstream not found") refl (lit≤ tt))
    (either _ _ _ (word (codes "session closed") refl (lit≤ tt))
    (either _ _ _ (word (codes "bad request") refl (lit≤ tt))
    (either _ _ _ (word (codes "forbidden") refl (lit≤ tt))
    (either _ _ _ (word (codes "too many") refl (lit≤ tt)) (word [] refl (lit≤ tt))))))))))

place : (n : ℕ) → n < 2 ^ 32 → IsShort (decimal n)
place n small = number n (omega (arith, small))

octet : (n : ℕ) → n < 2 ^ 8 → IsShort (decimal n)
octet n small = number n (omega (arith, small))

extent : (n : ℕ) → n ≤ 4096 → IsShort (decimal n)
extent n most = number n (omega (arith, most))

pub text_spells : TextSpells
unfolding text
text_spells (Size l w h) r = spells_short _ _ (word (codes "size") refl (lit≤ tt)) (layer l r.0, (extent w r.1, (extent h r.2, tt))) (lit≤ tt)
text_spells (Rect l x y w h) r = spells_short _ _ (word (codes "rect") refl (lit≤ tt)) (layer l r.0, (place x r.1, (place y r.2, (place w r.3, (place h r.4, tt))))) (lit≤ tt)
text_spells (Cfill l red green blue) r =
    spells_short _ _ (word (codes "cfill") refl (lit≤ tt)) (octet 14 (lit< tt), (layer l r.0, (octet red r.1, (octet green r.2, (octet blue r.3, (octet 255 (lit< tt), tt)))))) (lit≤ tt)
text_spells (Copy from x y w h to to_x to_y) r =
    spells_short _ _ (word (codes "copy") refl (lit≤ tt))
    (layer from r.0, (place x r.1, (place y r.2, (place w r.3, (place h r.4, (octet 14 (lit< tt), (layer to r.5, (place to_x r.6, (place to_y r.7, tt)))))))))
    (lit≤ tt)
text_spells (Sync stamp) r = spells_short _ _ (word (codes "sync") refl (lit≤ tt)) (number stamp r, tt) (lit≤ tt)
text_spells Disconnect r = spells_short _ _ (word (codes "disconnect") refl (lit≤ tt)) tt (lit≤ tt)
text_spells (Error status) r = spells_short _ _ (word (codes "error") refl (lit≤ tt)) (message status, (number status (omega (arith, r)), tt)) (lit≤ tt)
