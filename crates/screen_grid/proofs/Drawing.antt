-- A run of cells that become cells like a pen, one after another.
use Rattle.std.proofs.Common.{◌≡◌, ℕ, ◌+◌, ◌<◌, ◌≤◌, List, [], ◌∷◌, ◌++◌, length, take, drop, map, set, get_or, ap, sym, ◌∙◌, arith, append_assoc, append-nil, drop-cons, add-one}
use Rattle.std.proofs.lemmas.List.{set_at, map-append, take_more, length-map, length-take-le, take_all}
use Rattle.std.proofs.Math.ListN.{drop_of_length-le}
use Rattle.gate_model.specs.declared.cell.Cell.{Cell}
use Rattle.screen_grid.specs.Runs.{like}

pub drawn_more : (text : List ℕ) (old run : List Cell) (pen : Cell) (i ch : ℕ) → length old ≡ length text → i < length text → ch ≡ get_or text i 0
    → run ≡ map (like pen) (take i text) ++ drop i old
    → set run i (like pen ch) ≡ map (like pen) (take (i + 1) text) ++ drop (i + 1) old
drawn_more text old run pen i ch long below read is =
    let front : List Cell = map (like pen) (take i text) in
    let next = like pen (get_or text i 0) in
    let first : drop i old ≡ get_or old i pen ∷ drop (i + 1) old = drop-cons old i pen (omega (arith, long, below)) ∙ ap (λ k. get_or old i pen ∷ drop k old) (sym (add-one i)) in
    ap (λ k. set run i (like pen k)) read
    ∙ ap (λ (cells : List Cell). set cells i next) (is ∙ ap (λ (cells : List Cell). front ++ cells) first)
    ∙ set_at front (get_or old i pen) (drop (i + 1) old) next i (length-map (take i text) (like pen) ∙ length-take-le i text (omega (arith, below)))
    ∙ sym (append_assoc front (next ∷ []) (drop (i + 1) old))
    ∙ ap (λ (cells : List Cell). cells ++ drop (i + 1) old) (sym (ap (map (like pen)) (take_more text i 0 below) ∙ map-append (like pen) (take i text) (get_or text i 0 ∷ [])))

pub drawn_all : (text : List ℕ) (old run : List Cell) (pen : Cell) (i : ℕ) → length old ≡ length text → length text ≤ i → run ≡ map (like pen) (take i text) ++ drop i old
    → run ≡ map (like pen) text
drawn_all text old run pen i long done is =
    is
    ∙ ap (λ (cells : List Cell). map (like pen) (take i text) ++ cells) (drop_of_length-le old {i = i} (omega (arith, long, done)))
    ∙ append-nil (map (like pen) (take i text))
    ∙ ap (map (like pen)) (take_all i text done)
