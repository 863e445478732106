-- What the whole list of a snapshot does.
use Rattle.std.proofs.Common.{◌≡◌, ℕ, zero, suc, ◌+◌, ◌*◌, ◌/◌, ◌%◌, ◌^◌, ◌<◌, ◌≤◌, pos, List, [], ◌∷◌, ◌++◌, length, Bool, true, false, if◌then◌else◌, replicate, refl, sym, ap, subst, ◌∙◌, arith}
use Rattle.std.specs.Prelude.{IsTrue, Some, None}
use Rattle.std.proofs.lemmas.Bool.Decides.{nat_tests}
use Rattle.std.proofs.lemmas.List.{length-append}
use Rattle.std.proofs.lemmas.Nat.{div_below}
use Rattle.std.proofs.Math.Nat.{mod-lt}
use Rattle.gate_model.specs.declared.instr.Instr.{Instr}
use Rattle.gate_model.specs.declared.instr.Instr.TheVariants.{Size, Sync}
use Rattle.gate_model.specs.picture.KeyGrid.{KeyGrid}
use Rattle.gate_model.specs.picture.Pictures.{key_at}
use Rattle.gate_model.specs.picture.Layers.{Layers, HasNoPaths, draw}
use Rattle.gate_model.specs.picture.Shape.{AreReadable, Draws, Shape, is_size}
use Rattle.gate_model.specs.picture.Buffers.{Makes, AreLayers, Buffers, IsWithin, layers}
use Rattle.gate_model.specs.session.Steps.{IsScreenSize}
use Rattle.gate_model.proofs.Drawing.{draw-append}
use Rattle.gate_model.proofs.Readable.{readable_both}
use Rattle.glyph_strokes.proofs.Allowed.{draws_both}
use Rattle.frame_draw.specs.Along.{count_below, is_on}
use Rattle.frame_draw.specs.Leads.{known}
use Rattle.frame_draw.proofs.Allowed.{is_visible}
use Rattle.frame_draw.proofs.Copied.{to_layers}
use Rattle.join_snapshot.specs.Snapshot.{AddsPicture, all_buffers, buffers_below}
use Rattle.join_snapshot.proofs.Allowed.{buffers_draw, buffers_length, buffers_readable, cells_draw, cells_length, cells_readable}
use Rattle.join_snapshot.proofs.Cells.{below, below_there, picture_drawn}
use Rattle.join_snapshot.proofs.Made.{AreMade, all_made, made_all, sized_first}

swapped : (a b : ℕ) → a * b ≡ b * a
swapped a b = grind (arith)

whole_size : (cols rows : ℕ) → IsTrue (is_size cols rows (pos 0) (8 * cols) (16 * rows))
whole_size cols rows = grind (arith, nat_tests)

row_few : (rows cols n : ℕ) → IsScreenSize cols rows → n < rows * cols → (n % cols < 512) × (n / cols < 256)
row_few rows cols n size lt = (
  omega (arith, mod-lt n size.some_columns, size.few_columns),
  omega (arith, div_below n cols rows size.some_columns lt, size.few_rows),
)

-- no more places are wanted than there are
count_most : (f : ℕ → Bool) (n : ℕ) → count_below f n ≤ n
count_most f zero = omega arith
count_most f (suc n) = omega (arith, count_most f n, few (f n))
  where
    few : (b : Bool) → (if b then 1 else 0) ≤ 1
    few true = omega arith
    few false = omega arith

pub record IsSnapshot (now : KeyGrid) (keys : Buffers) (t : ℕ) (is : List Instr) : Type 0 where
  pub shape : Shape now.cols now.rows is t
  pub makes : Makes is now keys
  pub few : length is ≤ 3 + 40 * (now.cols * now.rows + 1024)

module _ (now : KeyGrid) (keys : Buffers) (t total : ℕ) (wanted : List Bool) (first made list is : List Instr)
    (size : IsScreenSize now.cols now.rows) (full : length now.keys ≡ now.rows * now.cols) (small : t < 2 ^ 64) (count : length keys ≤ total) (most : total ≤ 1024)
    (sized : first ≡ Size (pos 0) (8 * now.cols) (16 * now.rows) ∷ []) (buffers : made ≡ first ++ buffers_below keys total)
    (adds : AddsPicture keys now wanted made list) (unknown : (p : ℕ) → is_on wanted p ≡ true) (ends : is ≡ list ++ Sync t ∷ []) where
  made_draws : Draws now.cols now.rows [] made
  made_draws =
      subst (Draws now.cols now.rows []) (sym buffers)
      (draws_both now.cols now.rows [] first (buffers_below keys total) (subst (Draws now.cols now.rows []) (sym sized) (whole_size now.cols now.rows, refl)) (buffers_draw now.cols now.rows keys total))

  made_readable : AreReadable made
  made_readable =
      subst AreReadable (sym buffers)
      (readable_both first (buffers_below keys total) (subst AreReadable (sym sized) ((is_visible, omega (arith, size.few_columns), omega (arith, size.few_rows)), tt)) (buffers_readable keys total most))

  between_readable : AreReadable adds.between
  between_readable = subst AreReadable (sym adds.led.added) (readable_both made adds.led.more made_readable adds.led.readable)

  list_readable : AreReadable list
  list_readable = cells_readable keys now adds.later adds.between list (length now.keys) (λ p lt. row_few now.rows now.cols p size (omega (arith, lt, full))) adds.added between_readable

  between_draws : Draws now.cols now.rows [] adds.between
  between_draws = subst (Draws now.cols now.rows []) (sym adds.led.added) (draws_both now.cols now.rows [] made adds.led.more made_draws adds.led.draws)

  shaped : Shape now.cols now.rows is t
  shaped = record {
    body = list;
    ends = ends;
    body_draws = cells_draw now.cols now.rows keys now adds.later adds.between list (length now.keys) adds.added between_draws;
    in_range = subst AreReadable (sym ends) (readable_both list (Sync t ∷ []) list_readable (small, tt));
  }

  drawn : (m : Layers) → HasNoPaths m → IsWithin m (layers now keys) → AreLayers (draw m is) now keys
  drawn m none within =
      let begun : draw m made ≡ draw (draw m (Size (pos 0) (8 * now.cols) (16 * now.rows) ∷ [])) (buffers_below keys total) =
      ap (draw m) (buffers ∙ ap (λ (xs : List Instr). xs ++ buffers_below keys total) sized) ∙ draw-append m (Size (pos 0) (8 * now.cols) (16 * now.rows) ∷ []) (buffers_below keys total) in
      let over : draw m is ≡ draw m list = ap (draw m) ends ∙ draw-append m list (Sync t ∷ []) in
      subst (λ (l : Layers). AreLayers l now keys) (sym over)
      (to_layers (draw m list) now (below now wanted (length now.keys)) keys (λ p lt. below_there now wanted (length now.keys) p (omega (arith, lt, full)))
      (picture_drawn m now wanted keys made list size.some_columns full adds
      (made_all (draw m made) now.cols now.rows (known now wanted) keys total count (λ p. ap (λ (b : Bool). if b then None else Some (key_at now.keys p)) (unknown p))
      (subst (λ (l : Layers). AreMade l now.cols now.rows keys total) (sym begun)
      (all_made (draw m (Size (pos 0) (8 * now.cols) (16 * now.rows) ∷ [])) now.cols now.rows keys total (sized_first m now keys none within))))))

  short : length is ≤ 3 + 40 * (now.cols * now.rows + 1024)
  short =
      let places : length now.keys ≡ now.cols * now.rows = full ∙ swapped now.rows now.cols in
      omega (
        arith,
        ap length ends,
        length-append list (Sync t ∷ []),
        cells_length keys now adds.later adds.between list (length now.keys) adds.added,
        ap length adds.led.added,
        length-append made adds.led.more,
        adds.led.short,
        count_most (is_on wanted) (length now.keys),
        ap length buffers,
        length-append first (buffers_below keys total),
        ap length sized,
        buffers_length keys total,
        most,
        places,
      )

  snapshot_within : IsSnapshot now keys t is
  snapshot_within = record {
    shape = shaped;
    makes = λ m none within. (drawn m none within).same;
    few = short;
  }

-- as the calls leave it
sized_list : (now : KeyGrid) (cols rows : ℕ) (none first : List Instr) → cols ≡ now.cols → rows ≡ now.rows → none ≡ [] → first ≡ none ++ Size (pos 0) (8 * cols) (16 * rows) ∷ []
    → first ≡ Size (pos 0) (8 * now.cols) (16 * now.rows) ∷ []
sized_list now cols rows none first c r e f =
    f ∙ (ap (λ (xs : List Instr). xs ++ Size (pos 0) (8 * cols) (16 * rows) ∷ []) e
    ∙ (ap (λ (n : ℕ). Size (pos 0) (8 * n) (16 * rows) ∷ []) c ∙ ap (λ (n : ℕ). Size (pos 0) (8 * now.cols) (16 * n) ∷ []) r))

-- at first every place is wanted
all_on : (n p : ℕ) → is_on (replicate n true) p ≡ true
all_on zero p = refl
all_on (suc n) zero = refl
all_on (suc n) (suc p) = all_on n p

pub snapshot_of : (now : KeyGrid) (keys : Buffers) (t cols rows total : ℕ) (wanted : List Bool) (none first made list is : List Instr)
    → IsScreenSize now.cols now.rows → length now.keys ≡ now.rows * now.cols → t < 2 ^ 64 → length keys ≤ 1024
    → cols ≡ now.cols → rows ≡ now.rows → none ≡ [] → first ≡ none ++ Size (pos 0) (8 * cols) (16 * rows) ∷ []
    → made ≡ first ++ all_buffers keys → wanted ≡ replicate total true → AddsPicture keys now wanted made list → is ≡ list ++ Sync t ∷ [] → IsSnapshot now keys t is
unfolding all_buffers
snapshot_of now keys t cols rows total wanted none first made list is size full small count c r e f buffers on adds ends =
    snapshot_within now keys t 1024 wanted first made list is size full small count (omega arith) (sized_list now cols rows none first c r e f) buffers adds (λ p. ap (λ (xs : List Bool). is_on xs p) on ∙ all_on total p) ends
