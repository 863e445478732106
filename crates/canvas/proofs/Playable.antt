-- What is read of the gateway's instructions can be played: layers and sizes are within a canvas's.
use Rattle.std.proofs.Common.{◌≡◌, ℕ, zero, suc, ◌<◌, ◌≤◌, List, [], ◌∷◌, ◌++◌, length, get_or, Bool, true, false, inl, inr, subst, ℤ, pos, neg_ℤ, arith, lit≤}
use Rattle.std.specs.Prelude.{⊤, Option, Some, None, option_map, option_and_then, slice_get, codes, bytes_eq, if◌then◌else◌, ◌&&◌, nat_le}
use Rattle.std.specs.Int.{is_in_range}
use Rattle.std.proofs.lemmas.Bool.{leb-true, and_parts, cases_Bool}
use Rattle.std.proofs.Math.Dec.{le→leb}
use Rattle.gate_model.specs.declared.instr.Instr.{Instr}
use Rattle.gate_model.specs.declared.instr.Instr.TheVariants.{Sync, Disconnect}
use Rattle.gate_model.specs.picture.Shape.{IsLayer}
use Rattle.gate_model.specs.text.Spelling.{number_of}
use Rattle.gate_model.specs.text.Numerals.{value_at, is_number, number_within, number_of_bits, layer_of}
use Rattle.gate_model.specs.text.ServerMeaning.{extent_of, over_of, opaque_of, size_instr, rect_instr, cfill_instr, copy_instr, error_instr, instr_named, instr_of}
use Rattle.canvas.specs.Standing.{ArePlayable, IsPlayable}

-- what a value is, if there is one
abbrev If : {A : Type 0} → (A → Type 0) → Option A → Type 0
If P None = ⊤
If P (Some a) = P a

if_some : {A : Type 0} (P : A → Type 0) (o : Option A) (a : A) → If P o → o ≡ Some a → P a
if_some P o a h e = subst (If P) e h

number : (least most : ℕ) (v : List ℕ) → If (λ n. n ≤ most) (number_within least most v)
number least most v =
    elim (cases_Bool (is_number v && is_in_range least most (number_of v))) as (λ _. If (λ n. n ≤ most) (number_within least most v)) [
      | inl is ↦ rw is (leb-true (number_of v) most (and_parts (nat_le least (number_of v)) (nat_le (number_of v) most) (and_parts (is_number v) (is_in_range least most (number_of v)) is).1).1)
      | inr not ↦ rw not tt
    ]

visible : (n : ℕ) → n ≤ 0 → IsLayer (pos n)
visible n few = (record { le = tt }, record { le = le→leb n 0 few })

buffer : (n : ℕ) → n ≤ 1024 → IsLayer (neg_ℤ (pos n))
buffer zero few = visible zero (lit≤ tt)
buffer (suc n) few = (record { le = le→leb n 1023 (omega (arith, few)) }, record { le = tt })

mapped : {A B : Type 0} (P : A → Type 0) (Q : B → Type 0) (f : A → B) → ((a : A) → P a → Q (f a)) → (o : Option A) → If P o → If Q (option_map f o)
mapped P Q f step None h = tt
mapped P Q f step (Some a) h = step a h

signed : (b : Bool) (x y : Option ℤ) → If IsLayer x → If IsLayer y → If IsLayer (if b then x else y)
signed true x y p q = p
signed false x y p q = q

layer : (v : List ℕ) → If IsLayer (layer_of v)
layer [] = tt
layer (c ∷ cs) =
    signed _ _ _ (mapped (λ n. n ≤ 1024) IsLayer (λ n. neg_ℤ (pos n)) buffer (number_within 1 1024 cs) (number 1 1024 cs))
    (mapped (λ n. n ≤ 0) IsLayer (λ n. pos n) visible (number_within 0 0 (c ∷ cs)) (number 0 0 (c ∷ cs)))

valued : {A : Type 0} (P : A → Type 0) (reads : List ℕ → Option A) → ((v : List ℕ) → If P (reads v)) → (o : Option (List ℕ)) → If P (option_and_then reads o)
valued P reads h None = tt
valued P reads h (Some v) = h v

layer_at : (k : ℕ) (es : List (List ℕ)) → If IsLayer (value_at layer_of k es)
layer_at k es = valued IsLayer layer_of layer (slice_get es k)

extent_at : (k : ℕ) (es : List (List ℕ)) → If (λ n. n ≤ 4096) (value_at extent_of k es)
extent_at k es = valued (λ n. n ≤ 4096) extent_of (number 0 4096) (slice_get es k)

sizes : (k : Option ℤ) (width height : Option ℕ) → If IsLayer k → If (λ n. n ≤ 4096) width → If (λ n. n ≤ 4096) height → If IsPlayable (size_instr k width height)
sizes None width height l w h = tt
sizes (Some k) None height l w h = tt
sizes (Some k) (Some width) None l w h = tt
sizes (Some k) (Some width) (Some height) l w h = (l, w, h)

rects : (k : Option ℤ) (x y width height : Option ℕ) → If IsLayer k → If IsPlayable (rect_instr k x y width height)
rects None x y width height l = tt
rects (Some k) None y width height l = tt
rects (Some k) (Some x) None width height l = tt
rects (Some k) (Some x) (Some y) None height l = tt
rects (Some k) (Some x) (Some y) (Some width) None l = tt
rects (Some k) (Some x) (Some y) (Some width) (Some height) l = l

fills : (mask : Option ℕ) (k : Option ℤ) (red green blue alpha : Option ℕ) → If IsLayer k → If IsPlayable (cfill_instr mask k red green blue alpha)
fills None k red green blue alpha l = tt
fills (Some mask) None red green blue alpha l = tt
fills (Some mask) (Some k) None green blue alpha l = tt
fills (Some mask) (Some k) (Some red) None blue alpha l = tt
fills (Some mask) (Some k) (Some red) (Some green) None alpha l = tt
fills (Some mask) (Some k) (Some red) (Some green) (Some blue) None l = tt
fills (Some mask) (Some k) (Some red) (Some green) (Some blue) (Some alpha) l = l

copies : (from : Option ℤ) (x y width height mask : Option ℕ) (to : Option ℤ) (to_x to_y : Option ℕ) → If IsLayer from → If IsLayer to → If IsPlayable (copy_instr from x y width height mask to to_x to_y)
copies None x y width height mask to to_x to_y f t = tt
copies (Some from) None y width height mask to to_x to_y f t = tt
copies (Some from) (Some x) None width height mask to to_x to_y f t = tt
copies (Some from) (Some x) (Some y) None height mask to to_x to_y f t = tt
copies (Some from) (Some x) (Some y) (Some width) None mask to to_x to_y f t = tt
copies (Some from) (Some x) (Some y) (Some width) (Some height) None to to_x to_y f t = tt
copies (Some from) (Some x) (Some y) (Some width) (Some height) (Some mask) None to_x to_y f t = tt
copies (Some from) (Some x) (Some y) (Some width) (Some height) (Some mask) (Some to) None to_y f t = tt
copies (Some from) (Some x) (Some y) (Some width) (Some height) (Some mask) (Some to) (Some to_x) None f t = tt
copies (Some from) (Some x) (Some y) (Some width) (Some height) (Some mask) (Some to) (Some to_x) (Some to_y) f t = (f, t)

syncs : (stamp : Option ℕ) → If IsPlayable (option_map (λ n. Sync n) stamp)
syncs None = tt
syncs (Some n) = tt

errors : (message : Option (List ℕ)) (status : Option ℕ) → If IsPlayable (error_instr message status)
errors None status = tt
errors (Some message) None = tt
errors (Some message) (Some status) = tt

-- what was read, if anything was, can be played
record CanPlay (read : Option Instr) : Type 0 where
  it : If IsPlayable read

either : (b : Bool) (x y : Option Instr) → CanPlay x → CanPlay y → CanPlay (if b then x else y)
either true x y p q = p
either false x y p q = q

size_of : (es : List (List ℕ)) → CanPlay (size_instr (value_at layer_of 1 es) (value_at extent_of 2 es) (value_at extent_of 3 es))
size_of es = record { it = sizes (value_at layer_of 1 es) (value_at extent_of 2 es) (value_at extent_of 3 es) (layer_at 1 es) (extent_at 2 es) (extent_at 3 es) }

rect_of : (es : List (List ℕ)) → CanPlay (rect_instr (value_at layer_of 1 es) (value_at (number_of_bits 32) 2 es) (value_at (number_of_bits 32) 3 es) (value_at (number_of_bits 32) 4 es) (value_at (number_of_bits 32) 5 es))
rect_of es = record { it = rects (value_at layer_of 1 es) (value_at (number_of_bits 32) 2 es) (value_at (number_of_bits 32) 3 es) (value_at (number_of_bits 32) 4 es) (value_at (number_of_bits 32) 5 es) (layer_at 1 es) }

fill_of : (es : List (List ℕ)) → CanPlay (cfill_instr (value_at over_of 1 es) (value_at layer_of 2 es) (value_at (number_of_bits 8) 3 es) (value_at (number_of_bits 8) 4 es) (value_at (number_of_bits 8) 5 es) (value_at opaque_of 6 es))
fill_of es = record { it = fills (value_at over_of 1 es) (value_at layer_of 2 es) (value_at (number_of_bits 8) 3 es) (value_at (number_of_bits 8) 4 es) (value_at (number_of_bits 8) 5 es) (value_at opaque_of 6 es) (layer_at 2 es) }

copy_of : (es : List (List ℕ))
    → CanPlay (copy_instr (value_at layer_of 1 es) (value_at (number_of_bits 32) 2 es) (value_at (number_of_bits 32) 3 es) (value_at (number_of_bits 32) 4 es) (value_at (number_of_bits 32) 5 es) (value_at over_of 6 es) (value_at layer_of 7 es) (value_at (number_of_bits 32) 8 es) (value_at (number_of_bits 32) 9 es))
copy_of es = record { it = copies (value_at layer_of 1 es) (value_at (number_of_bits 32) 2 es) (value_at (number_of_bits 32) 3 es) (value_at (number_of_bits 32) 4 es) (value_at (number_of_bits 32) 5 es) (value_at over_of 6 es) (value_at layer_of 7 es) (value_at (number_of_bits 32) 8 es) (value_at (number_of_bits 32) 9 es) (layer_at 1 es) (layer_at 7 es) }

sync_of : (es : List (List ℕ)) → CanPlay (option_map (λ n. Sync n) (value_at (number_of_bits 64) 1 es))
sync_of es = record { it = syncs (value_at (number_of_bits 64) 1 es) }

error_of : (es : List (List ℕ)) → CanPlay (error_instr (slice_get es 1) (value_at (number_of_bits 16) 2 es))
error_of es = record { it = errors (slice_get es 1) (value_at (number_of_bits 16) 2 es) }

named : (opcode : List ℕ) (es : List (List ℕ)) → CanPlay (instr_named opcode es)
named opcode es =
    either (bytes_eq opcode (codes "size")) _ _ (size_of es)
    (either (bytes_eq opcode (codes "rect")) _ _ (rect_of es)
    (either (bytes_eq opcode (codes "cfill")) _ _ (fill_of es)
    (either (bytes_eq opcode (codes "copy")) _ _ (copy_of es)
    (either (bytes_eq opcode (codes "sync")) _ _ (sync_of es)
    (either (bytes_eq opcode (codes "disconnect")) (Some Disconnect) _ (record { it = tt })
    (either (bytes_eq opcode (codes "error")) _ None (error_of es) (record { it = tt })))))))

read_playable : (es : List (List ℕ)) → If IsPlayable (instr_of es)
read_playable [] = tt
read_playable (opcode ∷ es) = (named opcode (opcode ∷ es)).it

-- an instruction that was read can be played
pub playable : (es : List (List ℕ)) (i : Instr) → instr_of es ≡ Some i → IsPlayable i
playable es i e = if_some IsPlayable (instr_of es) i (read_playable es) e

-- one more
pub one_more : (is : List Instr) (i : Instr) → ArePlayable is → IsPlayable i → ArePlayable (is ++ i ∷ [])
one_more [] i all one = (one, tt)
one_more (first ∷ is) i all one = (all.0, one_more is i all.1 one)

-- one of them
pub playable_at : (is : List Instr) (k : ℕ) (d : Instr) → ArePlayable is → k < length is → IsPlayable (get_or is k d)
playable_at [] k d all within = absurd (omega (arith, within))
playable_at (i ∷ is) zero d all within = all.0
playable_at (i ∷ is) (suc k) d all within = playable_at is k d all.1 (omega (arith, within))
