-- What is read of a text of instructions, and what has been played of it.
use Rattle.std.proofs.Common.{◌≡◌, ℕ, ◌+◌, ◌-◌, ◌<◌, ◌≤◌, List, [], ◌∷◌, ◌++◌, length, take, drop, ◌⊎◌, inl, inr, ap, sym, ◌∙◌, subst, arith, append_assoc, append-nil, length-append}
use Rattle.std.specs.Prelude.{Result, Ok, Err, OnErr, Some}
use Rattle.std.proofs.lemmas.List.{drop-drop, length-drop, length-take-le, take-append-drop, take_all}
use Rattle.std.proofs.Math.Seq.{take-append_seam, drop-append_seam}
use Rattle.gate_model.specs.declared.instr.Instr.{Instr}
use Rattle.gate_model.specs.picture.Layers.{Layers, play, draw}
use Rattle.gate_model.specs.text.Spelling.{SpellsElements, Spells}
use Rattle.gate_model.specs.text.Text.{elements_of, text, texts}
use Rattle.gate_model.specs.text.ServerMeaning.{instr_of}
use Rattle.gate_model.specs.picture.Shape.{IsInRange}
use Rattle.gate_model.proofs.Drawing.{draw-append}
use Rattle.gate_model.proofs.Spelt.{prefix_free}
use Rattle.gate_model.proofs.TextLaws.{text_spells}
use Rattle.gate_model.proofs.MeaningLaws.{read_back, instr_in_utf8}
use Rattle.canvas.specs.Kept.{KeptLayer}
use Rattle.canvas.specs.Standing.{Stands}
use Rattle.guac_framing.specs.declared.next.BadAt.{BadAt}
use Rattle.guac_framing.specs.declared.next.Next.{Next}
use Rattle.guac_framing.specs.declared.next.Next.TheVariants.{More, Bad}
use Rattle.guac_framing.specs.Answers.{IfBad, IfMore, IsWhole}
use Rattle.guac_framing.specs.Found.{HasNoInstruction, IsBadPlace, IsUnfinished}
use Rattle.gate_model.specs.picture.Shape.{AreReadable}
use Rattle.canvas.specs.Played.{IsPartPlayed}

-- ---- the instruction at the front of a text

-- what was found is that instruction, and no other
pub found : (i : Instr) (rest bytes : List ℕ) (values : List (List ℕ)) (n : ℕ) → IsInRange i → bytes ≡ text i ++ rest → IsWhole bytes values n → (instr_of values ≡ Some i) × (n ≡ length (text i))
found i rest bytes values n r e w =
    let p = prefix_free (text i) (take n bytes) rest (drop n bytes) (elements_of i) w.elements (text_spells i r) w.spelled (sym e ∙ sym (take-append-drop n bytes)) in (
      ap instr_of w.texts ∙ instr_in_utf8 w.elements ∙ ap instr_of (sym p.1) ∙ read_back i r,
      sym (length-take-le n bytes w.within) ∙ ap length (sym p.0),
    )

fronted : (i : Instr) (rest bytes : List ℕ) → IsInRange i → bytes ≡ text i ++ rest → HasNoInstruction bytes → ⊥
fronted i rest bytes r e none =
    none (length (text i)) (elements_of i) (subst (λ (l : List ℕ). Spells l (elements_of i)) (sym (ap (take (length (text i))) e ∙ take-append_seam (text i) rest)) (text_spells i r))

-- an instruction stands there
not_unfinished : (i : Instr) (rest bytes : List ℕ) → IsInRange i → bytes ≡ text i ++ rest → IsUnfinished bytes → ⊥
not_unfinished i rest bytes r e u = fronted i rest bytes r e u.none

not_bad : (i : Instr) (rest bytes : List ℕ) (place : ℕ) → IsInRange i → bytes ≡ text i ++ rest → IsBadPlace bytes place → ⊥
not_bad i rest bytes place r e b =
    fronted i rest bytes r e (subst HasNoInstruction (take-append-drop (place + 1) bytes) (b.through (drop (place + 1) bytes)))

pub none_there : (i : Instr) (rest bytes : List ℕ) (next : Next) → IsInRange i → bytes ≡ text i ++ rest → IfMore next (IsUnfinished bytes) → IfBad next (λ at. IsBadPlace bytes at.place)
    → (next ≡ More) ⊎ ((at : BadAt) × (next ≡ Bad at)) → ⊥
none_there i rest bytes next r e more bad (inl is) = not_unfinished i rest bytes r e (subst (λ n. IfMore n (IsUnfinished bytes)) is more)
none_there i rest bytes next r e more bad (inr (at, is)) = not_bad i rest bytes at.place r e (subst (λ n. IfBad n (λ place. IsBadPlace bytes place.place)) is bad)

-- ---- the instructions that are left

spelled_some : (bytes : List ℕ) (es : List (List ℕ)) → SpellsElements bytes es → 0 < length bytes
spelled_some bytes [] s = absurd s
spelled_some bytes (e ∷ es) s =
    omega (arith, ap length s.4, length-append (s.0 ++ s.1) (59 ∷ []))

text_some : (i : Instr) → IsInRange i → 0 < length (text i)
text_some i r = spelled_some (text i) (elements_of i) (text_spells i r).spelled

-- instructions were played, and the bytes that are left are the text of those to come
pub record Left (is : List Instr) (m : Layers) (bytes : List ℕ) (kept : List KeptLayer) : Type 0 where
  pub done : List Instr
  pub coming : List Instr
  pub all : is ≡ done ++ coming
  pub readable : AreReadable coming
  pub spelled : bytes ≡ texts coming
  pub stands : Stands kept (draw m done)

-- an instruction stands at the front
record Front (is : List Instr) (m : Layers) (bytes : List ℕ) (kept : List KeptLayer) : Type 0 where
  first : Instr
  rest : List ℕ
  ranges : IsInRange first
  split : bytes ≡ text first ++ rest
  now : Layers
  stands : Stands kept now
  some : 0 < length (text first)
  goes_on : (after_it : List KeptLayer) (n : ℕ) → n ≡ length (text first) → Stands after_it (play now first) → Left is m (drop n bytes) after_it

behind : (i : Instr) (rest bytes : List ℕ) (n : ℕ) → n ≡ length (text i) → bytes ≡ text i ++ rest → drop n bytes ≡ rest
behind i rest bytes n e f = ap (λ k. drop k bytes) e ∙ ap (drop (length (text i))) f ∙ drop-append_seam (text i) rest

front : (is : List Instr) (m : Layers) (bytes : List ℕ) (kept : List KeptLayer) → 0 < length bytes → Left is m bytes kept → Front is m bytes kept
front is m bytes kept some l = cases l.coming l.all l.readable l.spelled
  where
    cases : (coming : List Instr) → is ≡ l.done ++ coming → AreReadable coming → bytes ≡ texts coming → Front is m bytes kept
    cases [] all r e = absurd (omega (arith, some, ap length e))
    cases (i ∷ more) all r e = record {
      first = i;
      rest = texts more;
      ranges = r.0;
      split = e;
      now = draw m l.done;
      stands = l.stands;
      some = text_some i r.0;
      goes_on = λ after_it n count s. record {
        done = l.done ++ i ∷ [];
        coming = more;
        all = all ∙ sym (append_assoc l.done (i ∷ []) more);
        readable = r.1;
        spelled = behind i (texts more) bytes n count e;
        stands = subst (Stands after_it) (sym (draw-append m l.done (i ∷ []))) s;
      };
    }

-- nothing is left: the canvas stands for all of the drawing
none_left : (is : List Instr) (m : Layers) (bytes : List ℕ) (kept : List KeptLayer) → length bytes ≡ 0 → Left is m bytes kept → Stands kept (draw m is)
none_left is m bytes kept none l = cases l.coming l.all l.readable l.spelled
  where
    cases : (coming : List Instr) → is ≡ l.done ++ coming → AreReadable coming → bytes ≡ texts coming → Stands kept (draw m is)
    cases [] all r e = subst (λ (done : List Instr). Stands kept (draw m done)) (sym (all ∙ append-nil l.done)) l.stands
    cases (i ∷ more) all r e = absurd (omega (arith, none, ap length e, length-append (text i) (texts more), text_some i r.0))

-- ---- a step of the loop

-- what a call says of the instruction at the front of the bytes: its size, and that it was played
abbrev pub Counts : List ℕ → ℕ → Type 0
Counts bytes n = (i : Instr) (rest : List ℕ) → IsInRange i → bytes ≡ text i ++ rest → n ≡ length (text i)

abbrev pub Plays : List ℕ → List KeptLayer → List KeptLayer → Type 0
Plays bytes old new = (i : Instr) (rest : List ℕ) (m : Layers) → IsInRange i → bytes ≡ text i ++ rest → Stands old m → Stands new (play m i)

-- the rest of some bytes from a place on, as a slice is seen
abbrev pub rest_at : ℕ → List ℕ → List ℕ
rest_at at bytes = take (length bytes - at) (drop at bytes)

rest_of : (at : ℕ) (bytes : List ℕ) → rest_at at bytes ≡ drop at bytes
rest_of at bytes = take_all (length bytes - at) (drop at bytes) (omega (arith, length-drop at bytes))

front_at : (is : List Instr) (m : Layers) (bytes : List ℕ) (at : ℕ) (kept : List KeptLayer) → at < length bytes → Left is m (drop at bytes) kept → Front is m (rest_at at bytes) kept
front_at is m bytes at kept more l =
    front is m (rest_at at bytes) kept (omega (arith, more, ap length (rest_of at bytes), length-drop at bytes)) (subst (λ (rest : List ℕ). Left is m rest kept) (sym (rest_of at bytes)) l)

-- the call found an instruction
pub some_counted : (is : List Instr) (m : Layers) (bytes : List ℕ) (at n : ℕ) (kept : List KeptLayer) → at < length bytes → Left is m (drop at bytes) kept → Counts (rest_at at bytes) n → 0 < n
some_counted is m bytes at n kept more l counts =
    let f = front_at is m bytes at kept more l in
    omega (arith, counts f.first f.rest f.ranges f.split, f.some)

-- what is left behind it
pub left_behind : (is : List Instr) (m : Layers) (bytes : List ℕ) (at n : ℕ) (old new : List KeptLayer) → at < length bytes → Left is m (drop at bytes) old → Counts (rest_at at bytes) n → Plays (rest_at at bytes) old new
    → Left is m (drop (at + n) bytes) new
left_behind is m bytes at n old new more l counts plays =
    let f = front_at is m bytes at old more l in
    subst (λ (rest : List ℕ). Left is m rest new) (ap (drop n) (rest_of at bytes) ∙ drop-drop n at bytes)
    (f.goes_on new n (counts f.first f.rest f.ranges f.split) (plays f.first f.rest f.now f.ranges f.split f.stands))

-- the place is the end of the bytes
pub all_played : (is : List Instr) (m : Layers) (bytes : List ℕ) (at : ℕ) (kept : List KeptLayer) → length bytes ≤ at → Left is m (drop at bytes) kept → Stands kept (draw m is)
all_played is m bytes at kept whole l = none_left is m (drop at bytes) kept (omega (arith, whole, length-drop at bytes)) l

-- the call was refused, and changed nothing
pub part_played : (is : List Instr) (m : Layers) (bytes : List ℕ) (old new : List KeptLayer) → Left is m bytes old → ((n : Layers) → Stands old n → Stands new n) → IsPartPlayed is m new
part_played is m bytes old new l same = record { done = l.done; left = l.coming; split = l.all; stands = same (draw m l.done) l.stands }

pub on_err : {T E : Type 0} (r : Result T E) (P : Type 0) → P → OnErr r P
on_err (Ok t) P p = tt
on_err (Err e) P p = p
