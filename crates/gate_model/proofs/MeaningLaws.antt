-- What the gateway writes is read back, and instructions mean the same in UTF-8.
use Rattle.std.proofs.Common.{◌≡◌, ℕ, ◌-◌, ◌^◌, ◌<◌, ◌≤◌, List, [], ◌∷◌, map, refl, ap, decimal, arith, lit<, lit≤}
use Rattle.std.specs.Prelude.{Option, Some, None, option_map, encode_utf8_all, codes, slice_get, Bool, true, false, bytes_eq, if◌then◌else◌}
use Rattle.std.specs.Char.{encode_utf8}
use Rattle.std.proofs.lemmas.Option.{slice_get-map}
use Rattle.gate_model.specs.declared.instr.Instr.TheVariants.{Size, Rect, Cfill, Copy, Sync, Disconnect, Error}
use Rattle.gate_model.specs.text.Text.{refusal_text}
use Rattle.gate_model.specs.text.Numerals.{value_at, number_within, number_of_bits, coordinate_of, layer_of}
use Rattle.gate_model.specs.text.ClientMeaning.{pressed_of, act_named, act_of}
use Rattle.gate_model.specs.declared.act.Act.{Act}
use Rattle.gate_model.specs.declared.act.Act.TheVariants as acts
use Rattle.gate_model.specs.declared.act.Act.TheVariants.{Key, Mouse, Nop}
use Rattle.gate_model.specs.text.HelloMeaning.{Connects, selection, size_said, greeting_named}
use Rattle.gate_model.specs.text.ServerMeaning.{extent_of, over_of, opaque_of, error_instr, instr_named}
use Rattle.gate_model.specs.picture.InstrLaws.{WrittenIsReadBack, ActInUtf8, GreetingInUtf8, InstrInUtf8, in_utf8}
use Rattle.gate_model.proofs.NumeralLaws.{number_within-decimal, layer_of-signed, number_in_utf8, word_in_utf8, coordinate_in_utf8, layer_in_utf8, value_in_utf8}

-- ---- read back

number-32 : (n : ℕ) → n < 2 ^ 32 → number_of_bits 32 (decimal n) ≡ Some n
number-32 n small = number_within-decimal 0 (2 ^ 32 - 1) n (omega (arith, small)) (omega arith) (omega (arith, small))

number-8 : (n : ℕ) → n < 2 ^ 8 → number_of_bits 8 (decimal n) ≡ Some n
number-8 n small = number_within-decimal 0 (2 ^ 8 - 1) n (omega (arith, small)) (omega arith) (omega (arith, small))

extent : (n : ℕ) → n ≤ 4096 → extent_of (decimal n) ≡ Some n
extent n most = number_within-decimal 0 4096 n (omega (arith, most)) (omega arith) most

mask : over_of (decimal 14) ≡ Some 14
mask = number_within-decimal 14 14 14 (lit< tt) (lit≤ tt) (lit≤ tt)

alpha : opaque_of (decimal 255) ≡ Some 255
alpha = number_within-decimal 255 255 255 (lit< tt) (lit≤ tt) (lit≤ tt)

pub read_back : WrittenIsReadBack
read_back (Size layer width height) (l, w, h) = rw (layer_of-signed layer l, extent width w, extent height h) refl
read_back (Rect layer x y width height) (l, a, b, w, h) = rw (layer_of-signed layer l, number-32 x a, number-32 y b, number-32 width w, number-32 height h) refl
read_back (Cfill layer red green blue) (l, r, g, b) = rw (mask, layer_of-signed layer l, number-8 red r, number-8 green g, number-8 blue b, alpha) refl
read_back (Copy from x y width height to to_x to_y) (l, a, b, w, h, m, c, d) =
    rw (layer_of-signed from l, number-32 x a, number-32 y b, number-32 width w, number-32 height h, mask, layer_of-signed to m, number-32 to_x c, number-32 to_y d) refl
read_back (Sync stamp) small = ap (option_map (λ n. Sync n)) (number_within-decimal 0 (2 ^ 64 - 1) stamp small (omega arith) (omega (arith, small)))
read_back Disconnect small = refl
read_back (Error status) small = ap (error_instr (Some (refusal_text status))) (number_within-decimal 0 (2 ^ 16 - 1) status (omega (arith, small)) (omega arith) (omega (arith, small)))

-- ---- in UTF-8

-- the words are their own UTF-8
key_word : encode_utf8_all (codes "key") ≡ codes "key"
unfolding encode_utf8
key_word = refl

sync_word : encode_utf8_all (codes "sync") ≡ codes "sync"
unfolding encode_utf8
sync_word = refl

mouse_word : encode_utf8_all (codes "mouse") ≡ codes "mouse"
unfolding encode_utf8
mouse_word = refl

size_word : encode_utf8_all (codes "size") ≡ codes "size"
unfolding encode_utf8
size_word = refl

nop_word : encode_utf8_all (codes "nop") ≡ codes "nop"
unfolding encode_utf8
nop_word = refl

disconnect_word : encode_utf8_all (codes "disconnect") ≡ codes "disconnect"
unfolding encode_utf8
disconnect_word = refl

rect_word : encode_utf8_all (codes "rect") ≡ codes "rect"
unfolding encode_utf8
rect_word = refl

cfill_word : encode_utf8_all (codes "cfill") ≡ codes "cfill"
unfolding encode_utf8
cfill_word = refl

copy_word : encode_utf8_all (codes "copy") ≡ codes "copy"
unfolding encode_utf8
copy_word = refl

error_word : encode_utf8_all (codes "error") ≡ codes "error"
unfolding encode_utf8
error_word = refl

one_word : encode_utf8_all (codes "1") ≡ codes "1"
unfolding encode_utf8
one_word = refl

zero_word : encode_utf8_all (codes "0") ≡ codes "0"
unfolding encode_utf8
zero_word = refl

pressed_in_utf8 : (v : List ℕ) → pressed_of (encode_utf8_all v) ≡ pressed_of v
pressed_in_utf8 v = rw (word_in_utf8 v (codes "1") one_word, word_in_utf8 v (codes "0") zero_word) refl

bits_in_utf8 : (bits k : ℕ) (elements : List (List ℕ)) → value_at (number_of_bits bits) k (map encode_utf8_all elements) ≡ value_at (number_of_bits bits) k elements
bits_in_utf8 bits = value_in_utf8 (number_of_bits bits) (number_in_utf8 0 (2 ^ bits - 1))

within_in_utf8 : (least most k : ℕ) (elements : List (List ℕ)) → value_at (number_within least most) k (map encode_utf8_all elements) ≡ value_at (number_within least most) k elements
within_in_utf8 least most = value_in_utf8 (number_within least most) (number_in_utf8 least most)

act_named_in_utf8 : (opcode : List ℕ) (es : List (List ℕ)) → act_named (encode_utf8_all opcode) (map encode_utf8_all es) ≡ act_named opcode es
act_named_in_utf8 opcode es =
    rw (
      word_in_utf8 opcode (codes "key") key_word,
      word_in_utf8 opcode (codes "sync") sync_word,
      word_in_utf8 opcode (codes "mouse") mouse_word,
      word_in_utf8 opcode (codes "size") size_word,
      word_in_utf8 opcode (codes "nop") nop_word,
      word_in_utf8 opcode (codes "disconnect") disconnect_word,
      bits_in_utf8 32 1 es,
      value_in_utf8 pressed_of pressed_in_utf8 2 es,
      bits_in_utf8 64 1 es,
      value_in_utf8 coordinate_of coordinate_in_utf8 1 es,
      value_in_utf8 coordinate_of coordinate_in_utf8 2 es,
      bits_in_utf8 8 3 es,
      bits_in_utf8 31 1 es,
      bits_in_utf8 31 2 es,
    ) refl

pub act_in_utf8 : ActInUtf8
act_in_utf8 [] = refl
act_in_utf8 (opcode ∷ values) = act_named_in_utf8 opcode (opcode ∷ values)

error_in_utf8 : (es : List (List ℕ)) → error_instr (slice_get (map encode_utf8_all es) 1) (value_at (number_of_bits 16) 2 (map encode_utf8_all es)) ≡ error_instr (slice_get es 1) (value_at (number_of_bits 16) 2 es)
error_in_utf8 es = rw (slice_get-map encode_utf8_all es 1, bits_in_utf8 16 2 es) (same (slice_get es 1) (value_at (number_of_bits 16) 2 es))
  where
    same : (o : Option (List ℕ)) (status : Option ℕ) → error_instr (option_map encode_utf8_all o) status ≡ error_instr o status
    same None status = refl
    same (Some v) status = refl

instr_named_in_utf8 : (opcode : List ℕ) (es : List (List ℕ)) → instr_named (encode_utf8_all opcode) (map encode_utf8_all es) ≡ instr_named opcode es
instr_named_in_utf8 opcode es =
    rw (
      word_in_utf8 opcode (codes "size") size_word,
      word_in_utf8 opcode (codes "rect") rect_word,
      word_in_utf8 opcode (codes "cfill") cfill_word,
      word_in_utf8 opcode (codes "copy") copy_word,
      word_in_utf8 opcode (codes "sync") sync_word,
      word_in_utf8 opcode (codes "disconnect") disconnect_word,
      word_in_utf8 opcode (codes "error") error_word,
      layer 1,
      layer 2,
      layer 7,
      within_in_utf8 0 4096 2 es,
      within_in_utf8 0 4096 3 es,
      place 2,
      place 3,
      place 4,
      place 5,
      place 8,
      place 9,
      within_in_utf8 14 14 1 es,
      within_in_utf8 14 14 6 es,
      bits_in_utf8 8 3 es,
      bits_in_utf8 8 4 es,
      bits_in_utf8 8 5 es,
      within_in_utf8 255 255 6 es,
      bits_in_utf8 64 1 es,
      error_in_utf8 es,
    ) refl
  where
    layer : (k : ℕ) → value_at layer_of k (map encode_utf8_all es) ≡ value_at layer_of k es
    layer k = value_in_utf8 layer_of layer_in_utf8 k es

    place : (k : ℕ) → value_at (number_of_bits 32) k (map encode_utf8_all es) ≡ value_at (number_of_bits 32) k es
    place k = bits_in_utf8 32 k es

pub instr_in_utf8 : InstrInUtf8
instr_in_utf8 [] = refl
instr_in_utf8 (opcode ∷ values) = instr_named_in_utf8 opcode (opcode ∷ values)

-- a size stays, and so does what isn't one
size_in_utf8 : (act : Option Act) → size_said act ≡ in_utf8 (size_said act)
size_in_utf8 None = refl
size_in_utf8 (Some (Key keysym pressed)) = refl
size_in_utf8 (Some (Mouse x y buttons)) = refl
size_in_utf8 (Some (acts.Sync stamp)) = refl
size_in_utf8 (Some (acts.Size width height)) = refl
size_in_utf8 (Some Nop) = refl
size_in_utf8 (Some acts.Disconnect) = refl

-- by the opcode: `select`, `connect` or another
greeting_cases : (selects connects : Bool) (name : Option (List ℕ)) (act : Option Act)
    → (if selects then selection (option_map encode_utf8_all name) else (if connects then Connects else size_said act)) ≡ in_utf8 (if selects then selection name else (if connects then Connects else size_said act))
greeting_cases true connects None act = refl
greeting_cases true connects (Some name) act = refl
greeting_cases false true name act = refl
greeting_cases false false name act = size_in_utf8 act

select_word : encode_utf8_all (codes "select") ≡ codes "select"
unfolding encode_utf8
select_word = refl

connect_word : encode_utf8_all (codes "connect") ≡ codes "connect"
unfolding encode_utf8
connect_word = refl

greeting_named_in_utf8 : (opcode : List ℕ) (es : List (List ℕ)) → greeting_named (encode_utf8_all opcode) (map encode_utf8_all es) ≡ in_utf8 (greeting_named opcode es)
greeting_named_in_utf8 opcode es =
    rw (act_in_utf8 es, word_in_utf8 opcode (codes "select") select_word, word_in_utf8 opcode (codes "connect") connect_word, slice_get-map encode_utf8_all es 1)
    (greeting_cases (bytes_eq opcode (codes "select")) (bytes_eq opcode (codes "connect")) (slice_get es 1) (act_of es))

pub greeting_in_utf8 : GreetingInUtf8
greeting_in_utf8 [] = refl
greeting_in_utf8 (opcode ∷ values) = greeting_named_in_utf8 opcode (opcode ∷ values)
