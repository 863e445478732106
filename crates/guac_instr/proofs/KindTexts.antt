-- The text of each kind of instruction, from its opcode and the code points of its values.
use Rattle.std.proofs.Common.{◌≡◌, ℕ, ℤ, List, [], ◌∷◌, codes, decimal, refl}
use Rattle.std.specs.Fmt.{signed_decimal}
use Rattle.std.specs.Str.{chars}
use Rattle.gate_model.specs.text.Text.{text_of_elements, text, refusal_text}
use Rattle.gate_model.specs.declared.instr.Instr.{Instr}
use Rattle.gate_model.specs.declared.instr.Instr.TheVariants.{Size, Rect, Cfill, Copy, Sync, Disconnect, Error}
use Rattle.guac_instr.proofs.Words.{size_word, rect_word, cfill_word, copy_word, sync_word, disconnect_word, error_word}

pub size_text : (layer l : ℤ) (width height w h : ℕ) → l ≡ layer → w ≡ width → h ≡ height
    → text_of_elements (chars (codes "size") ∷ signed_decimal l ∷ decimal w ∷ decimal h ∷ []) ≡ text (Size layer width height)
unfolding text
size_text layer l width height w h e0 e1 e2 = rw (size_word, e0, e1, e2) refl

pub rect_text : (layer l : ℤ) (x y width height a b w h : ℕ) → l ≡ layer → a ≡ x → b ≡ y → w ≡ width → h ≡ height
    → text_of_elements (chars (codes "rect") ∷ signed_decimal l ∷ decimal a ∷ decimal b ∷ decimal w ∷ decimal h ∷ []) ≡ text (Rect layer x y width height)
unfolding text
rect_text layer l x y width height a b w h e0 e1 e2 e3 e4 = rw (rect_word, e0, e1, e2, e3, e4) refl

pub cfill_text : (layer l : ℤ) (red green blue r g b : ℕ) → l ≡ layer → r ≡ red → g ≡ green → b ≡ blue
    → text_of_elements (chars (codes "cfill") ∷ decimal 14 ∷ signed_decimal l ∷ decimal r ∷ decimal g ∷ decimal b ∷ decimal 255 ∷ []) ≡ text (Cfill layer red green blue)
unfolding text
cfill_text layer l red green blue r g b e0 e1 e2 e3 = rw (cfill_word, e0, e1, e2, e3) refl

pub copy_text : (from f : ℤ) (x y width height : ℕ) (to t : ℤ) (to_x to_y a b w h tx ty : ℕ) → f ≡ from → t ≡ to → a ≡ x → b ≡ y → w ≡ width → h ≡ height → tx ≡ to_x → ty ≡ to_y
    → text_of_elements (chars (codes "copy") ∷ signed_decimal f ∷ decimal a ∷ decimal b ∷ decimal w ∷ decimal h ∷ decimal 14 ∷ signed_decimal t ∷ decimal tx ∷ decimal ty ∷ [])
    ≡ text (Copy from x y width height to to_x to_y)
unfolding text
copy_text from f x y width height to t to_x to_y a b w h tx ty e e0 e1 e2 e3 e4 e5 e6 = rw (copy_word, e, e0, e1, e2, e3, e4, e5, e6) refl

pub sync_text : (instr : Instr) (stamp : ℕ) → instr ≡ Sync stamp
    → text_of_elements (chars (codes "sync") ∷ decimal stamp ∷ []) ≡ text instr
unfolding text
sync_text instr stamp is = rw (is, sync_word) refl

pub disconnect_text : (instr : Instr) → instr ≡ Disconnect → text_of_elements (chars (codes "disconnect") ∷ []) ≡ text instr
unfolding text
disconnect_text instr is = rw (is, disconnect_word) refl

pub error_text : (instr : Instr) (status s : ℕ) (message : List ℕ) → instr ≡ Error status → s ≡ status → message ≡ refusal_text status
    → text_of_elements (chars (codes "error") ∷ message ∷ decimal s ∷ []) ≡ text instr
unfolding text
error_text instr status s message is e1 e2 = rw (is, error_word, e1, e2) refl
