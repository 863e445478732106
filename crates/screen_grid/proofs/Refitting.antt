-- How the cells of a grid of another size are filled in, place by place.
use Rattle.std.proofs.Common.{◌≡◌, ℕ, ◌+◌, ◌*◌, ◌≤◌, ◌<◌, List, [], ◌∷◌, ◌++◌, length, map, take, set, replicate, refl, ap, sym, subst, ◌∙◌, arith}
use Rattle.std.specs.Prelude.{◌/◌, ◌%◌}
use Rattle.std.specs.List.{range_with_len}
use Rattle.std.proofs.lemmas.List.{length-set, length-replicate, take_all, take_more_set}
use Rattle.std.proofs.lemmas.List.FromFn.{map-range_with_len_more}
use Rattle.gate_model.specs.declared.cell.Cell.{Cell}
use Rattle.gate_model.specs.terminal.Cells.{CellGrid, blank, kept_at, resized}

-- the cell of a place of the new size, counted row by row
abbrev pub told : CellGrid → ℕ → ℕ → Cell
told g cols at = kept_at (at % cols) (at / cols) g

-- there is a cell for each place, and the first ones are told
pub record IsFilled (g : CellGrid) (cols count at : ℕ) (held : List Cell) : Type 0 where
  pub size : length held ≡ count
  pub done : take at held ≡ map (told g cols) (range_with_len 0 at)

pub filled_none : (g : CellGrid) (cols count : ℕ) (held : List Cell) → held ≡ replicate count blank → IsFilled g cols count 0 held
filled_none g cols count held is = record { size = ap length is ∙ length-replicate count blank; done = refl }

pub filled_more : (g : CellGrid) (cols count at : ℕ) (held new : List Cell) (cell : Cell) → at < count → cell ≡ told g cols at → new ≡ set held at cell → IsFilled g cols count at held
    → IsFilled g cols count (at + 1) new
filled_more g cols count at held new cell below is sets f = record {
  size = ap length sets ∙ (length-set held at cell ∙ f.size);
  done =
      ap (take (at + 1)) sets
      ∙ take_more_set held at cell (subst (λ n. at < n) (sym f.size) below)
      ∙ ap (λ (cells : List Cell). cells ++ cell ∷ []) f.done
      ∙ ap (λ (c : Cell). map (told g cols) (range_with_len 0 at) ++ c ∷ []) is
      ∙ sym (map-range_with_len_more (told g cols) 0 at at (omega arith));
}

pub filled_all : (g : CellGrid) (cols rows at : ℕ) (held : List Cell) → at ≤ rows * cols → rows * cols ≤ at → IsFilled g cols (rows * cols) at held → held ≡ (resized cols rows g).cells
filled_all g cols rows at held low high f =
    let all : at ≡ rows * cols = omega (arith, low, high) in
    sym (take_all at held (omega (arith, f.size, high)))
    ∙ f.done
    ∙ ap (λ n. map (told g cols) (range_with_len 0 n)) all
