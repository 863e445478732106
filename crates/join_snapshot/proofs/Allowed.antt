-- The lists of a snapshot are of a frame's shape, in range and short.
use Rattle.std.proofs.Common.{ℕ, zero, suc, ◌+◌, ◌*◌, ◌/◌, ◌%◌, ◌<◌, ◌≤◌, pos, negsuc, List, [], Bool, true, false, length, refl, sym, ap, subst, arith, inl, inr}
use Rattle.std.specs.Prelude.{Option, Some, None, slice_get}
use Rattle.std.proofs.lemmas.List.{length-append}
use Rattle.gate_model.specs.declared.instr.Instr.{Instr}
use Rattle.gate_model.specs.declared.key.Key.{Key}
use Rattle.gate_model.specs.picture.KeyGrid.{KeyGrid}
use Rattle.gate_model.specs.picture.Pictures.{key_at}
use Rattle.gate_model.specs.picture.Shape.{AreReadable, Draws}
use Rattle.gate_model.specs.picture.Buffers.{Buffers}
use Rattle.gate_model.proofs.Readable.{readable_both}
use Rattle.frame_draw.proofs.Allowed.{copy_draws, copy_readable, is_buffer, is_visible}
use Rattle.frame_draw.specs.Along.{is_on}
use Rattle.glyph_strokes.proofs.Allowed.{covering_draws, covering_length, covering_readable, draws_both}
use Rattle.join_snapshot.specs.Strokes.{buffer_of}
use Rattle.join_snapshot.specs.Snapshot.{AddsCells, AddsPlace, IsCell, buffer_made, buffers_below}

-- ---- what is traced is filled
module _ (cols rows : ℕ) where
  buffer_draws : (n : ℕ) (o : Option Key) → Draws cols rows [] (buffer_made n o)
  unfolding buffer_of
  buffer_draws n None = refl
  buffer_draws n (Some key) = (refl, covering_draws cols rows (negsuc n) 0 0 key)

  pub buffers_draw : (keys : Buffers) (count : ℕ) → Draws cols rows [] (buffers_below keys count)
  buffers_draw keys zero = refl
  buffers_draw keys (suc n) = draws_both cols rows [] (buffers_below keys n) (buffer_made n (slice_get keys n)) (buffers_draw keys n) (buffer_draws n (slice_get keys n))

  cell_draws : (keys : Buffers) (key : Key) (x y : ℕ) (strokes : List Instr) → IsCell keys key x y strokes → Draws cols rows [] strokes
  cell_draws keys key x y strokes (inl copy) = subst (Draws cols rows []) (sym copy.3) (copy_draws cols rows (negsuc copy.0) x y)
  cell_draws keys key x y strokes (inr drawn) = subst (Draws cols rows []) (sym drawn) (covering_draws cols rows (pos 0) (8 * x) (16 * y) key)

  place_draws : (keys : Buffers) (key : Key) (x y : ℕ) (on : Bool) (list longer : List Instr) → AddsPlace keys key x y on list longer → Draws cols rows [] list → Draws cols rows [] longer
  place_draws keys key x y true list longer adds d =
      subst (Draws cols rows []) (sym adds.added) (draws_both cols rows [] list adds.strokes d (cell_draws keys key x y adds.strokes adds.cell))
  place_draws keys key x y false list longer adds d = subst (Draws cols rows []) (sym adds) d

  pub cells_draw : (keys : Buffers) (now : KeyGrid) (wanted : List Bool) (list longer : List Instr) (n : ℕ) → AddsCells keys now wanted list n longer → Draws cols rows [] list → Draws cols rows [] longer
  cells_draw keys now wanted list longer zero adds d = subst (Draws cols rows []) (sym adds) d
  cells_draw keys now wanted list longer (suc n) adds d =
      place_draws keys (key_at now.keys n) (n % now.cols) (n / now.cols) (is_on wanted n) adds.0 longer adds.2 (cells_draw keys now wanted list adds.0 n adds.1 d)

-- ---- places
buffer_readable : (n : ℕ) (o : Option Key) → n < 1024 → AreReadable (buffer_made n o)
unfolding buffer_of
buffer_readable n None lt = tt
buffer_readable n (Some key) lt = ((is_buffer n lt, omega arith, omega arith), covering_readable (negsuc n) 0 0 key (is_buffer n lt) (omega arith) (omega arith))

pub buffers_readable : (keys : Buffers) (count : ℕ) → count ≤ 1024 → AreReadable (buffers_below keys count)
buffers_readable keys zero le = tt
buffers_readable keys (suc n) le =
    readable_both (buffers_below keys n) (buffer_made n (slice_get keys n)) (buffers_readable keys n (omega (arith, le))) (buffer_readable n (slice_get keys n) (omega (arith, le)))

cell_readable : (keys : Buffers) (key : Key) (x y : ℕ) (strokes : List Instr) → x < 512 → y < 256 → IsCell keys key x y strokes → AreReadable strokes
cell_readable keys key x y strokes in_x in_y (inl copy) =
    subst AreReadable (sym copy.3) (copy_readable (negsuc copy.0) x y (is_buffer copy.0 copy.1) (omega (arith, in_x)) (omega (arith, in_y)), tt)
cell_readable keys key x y strokes in_x in_y (inr drawn) =
    subst AreReadable (sym drawn) (covering_readable (pos 0) (8 * x) (16 * y) key is_visible (omega (arith, in_x)) (omega (arith, in_y)))

place_readable : (keys : Buffers) (key : Key) (x y : ℕ) (on : Bool) (list longer : List Instr) → x < 512 → y < 256 → AddsPlace keys key x y on list longer → AreReadable list → AreReadable longer
place_readable keys key x y true list longer in_x in_y adds r =
    subst AreReadable (sym adds.added) (readable_both list adds.strokes r (cell_readable keys key x y adds.strokes in_x in_y adds.cell))
place_readable keys key x y false list longer in_x in_y adds r = subst AreReadable (sym adds) r

pub cells_readable : (keys : Buffers) (now : KeyGrid) (wanted : List Bool) (list longer : List Instr) (n : ℕ) → ((p : ℕ) → p < n → (p % now.cols < 512) × (p / now.cols < 256)) → AddsCells keys now wanted list n longer → AreReadable list → AreReadable longer
cells_readable keys now wanted list longer zero within adds r = subst AreReadable (sym adds) r
cells_readable keys now wanted list longer (suc n) within adds r =
    let w = within n (omega arith) in
    place_readable keys (key_at now.keys n) (n % now.cols) (n / now.cols) (is_on wanted n) adds.0 longer w.0 w.1 adds.2
    (cells_readable keys now wanted list adds.0 n (λ p lt. within p (omega (arith, lt))) adds.1 r)

-- ---- lengths
buffer_length : (n : ℕ) (o : Option Key) → length (buffer_made n o) ≤ 25
unfolding buffer_of
buffer_length n None = omega arith
buffer_length n (Some key) = omega (arith, covering_length (negsuc n) 0 0 key)

pub buffers_length : (keys : Buffers) (count : ℕ) → length (buffers_below keys count) ≤ 25 * count
buffers_length keys zero = omega arith
buffers_length keys (suc n) = omega (arith, length-append (buffers_below keys n) (buffer_made n (slice_get keys n)), buffers_length keys n, buffer_length n (slice_get keys n))

cell_length : (keys : Buffers) (key : Key) (x y : ℕ) (strokes : List Instr) → IsCell keys key x y strokes → length strokes ≤ 24
cell_length keys key x y strokes (inl copy) = omega (arith, ap length copy.3)
cell_length keys key x y strokes (inr drawn) = omega (arith, ap length drawn, covering_length (pos 0) (8 * x) (16 * y) key)

place_length : (keys : Buffers) (key : Key) (x y : ℕ) (on : Bool) (list longer : List Instr) → AddsPlace keys key x y on list longer → length longer ≤ length list + 24
place_length keys key x y true list longer adds = omega (arith, ap length adds.added, length-append list adds.strokes, cell_length keys key x y adds.strokes adds.cell)
place_length keys key x y false list longer adds = omega (arith, ap length adds)

pub cells_length : (keys : Buffers) (now : KeyGrid) (wanted : List Bool) (list longer : List Instr) (n : ℕ) → AddsCells keys now wanted list n longer → length longer ≤ length list + 24 * n
cells_length keys now wanted list longer zero adds = omega (arith, ap length adds)
cells_length keys now wanted list longer (suc n) adds =
    omega (arith, cells_length keys now wanted list adds.0 n adds.1, place_length keys (key_at now.keys n) (n % now.cols) (n / now.cols) (is_on wanted n) adds.0 longer adds.2)
