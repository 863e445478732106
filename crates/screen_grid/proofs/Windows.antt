-- What a window shows of a run of cells that is changed within it.
use Rattle.std.proofs.Common.{◌≡◌, ℕ, ◌+◌, ◌-◌, ◌≤◌, ◌<◌, min, List, ◌++◌, length, take, drop, set, replicate, ap, sym, subst, ◌∙◌, arith, append_assoc, append-nil, length-append, length-drop}
use Rattle.std.proofs.lemmas.List.{drop-set-add, length-take-le, drop-drop, drop-append-le, drop-take, take-take, take_at, length-replicate}
use Rattle.std.proofs.Math.Seq.{take-set-lt, take-append-add, drop-length}
use Rattle.std.proofs.Math.ListN.{drop_of_length-le}
use Rattle.std.proofs.lemmas.Bool.{cases_lt}
use Rattle.std.proofs.Common.{◌⊎◌, inl, inr}
use Rattle.std.specs.List.{copy_within}
use Rattle.std.specs.Prelude.{slice_range}
use borrow.Rule.Slice.PartMut.{put_mid}
use Rattle.gate_model.specs.declared.cell.Cell.{Cell}
use Rattle.gate_model.specs.terminal.Cells.{blank, moved_left, moved_right, with_part}

-- one place
pub one_seen : {A : Type 0} (xs : List A) (b z i : ℕ) (x : A) → i < z → take z (drop b (set xs (b + i) x)) ≡ set (take z (drop b xs)) i x
one_seen xs b z i x low = ap (take z) (drop-set-add b xs i x) ∙ take-set-lt z (drop b xs) i x low

-- how much is seen
pub seen_size : {A : Type 0} (xs : List A) (b z : ℕ) → b + z ≤ length xs → length (take z (drop b xs)) ≡ z
seen_size xs b z room = length-take-le z (drop b xs) (subst (λ n. z ≤ n) (sym (length-drop b xs)) (omega (arith, room)))

-- what comes in from a place on is seen from there on
drop_part : (xs run : List Cell) (b s e : ℕ) → b + s ≤ length xs → drop b (with_part (b + s) (b + e) run xs) ≡ with_part s e run (drop b xs)
drop_part xs run b s e room =
    let front : b ≤ length (take (b + s) xs) = subst (λ n. b ≤ n) (sym (length-take-le (b + s) xs room)) (omega arith) in
    ap (drop b) (append_assoc (take (b + s) xs) run (drop (b + e) xs))
    ∙ drop-append-le b (take (b + s) xs) (run ++ drop (b + e) xs) front
    ∙ sym (append_assoc (drop b (take (b + s) xs)) run (drop (b + e) xs))
    ∙ ap (λ (ys : List Cell). ys ++ run ++ drop (b + e) xs) (drop-take b s xs)
    ∙ ap (λ (ys : List Cell). take s (drop b xs) ++ run ++ ys) (sym (drop-drop e b xs))

-- the front of a run, of which a part is changed within that front
take_part : (ys run : List Cell) (z s e : ℕ) → s ≤ e → e ≤ z → z ≤ length ys → length run ≡ e - s → take z (with_part s e run ys) ≡ with_part s e run (take z ys)
take_part ys run z s e order within room long =
    let front : length (take s ys) ≡ s = length-take-le s ys (omega (arith, order, within, room)) in
    let rest = drop e ys in
    let first : z ≡ length (take s ys) + (z - s) = omega (arith, front, order, within) in
    let second : z - s ≡ length run + (z - e) = omega (arith, long, order, within) in
    let third : e + (z - e) ≡ z = omega (arith, within) in
    let seen : drop e (take z ys) ≡ take (z - e) rest = ap (λ n. drop e (take n ys)) (sym third) ∙ drop-take e (z - e) ys in
    ap (take z) (append_assoc (take s ys) run rest)
    ∙ ap (λ n. take n (take s ys ++ (run ++ rest))) first
    ∙ take-append-add (take s ys) (run ++ rest) (z - s)
    ∙ ap (λ n. take s ys ++ take n (run ++ rest)) second
    ∙ ap (λ (xs : List Cell). take s ys ++ xs) (take-append-add run rest (z - e))
    ∙ ap (λ (xs : List Cell). take s ys ++ (run ++ xs)) (sym seen)
    ∙ ap (λ (xs : List Cell). xs ++ (run ++ drop e (take z ys))) (sym (take-take s z ys (omega (arith, order, within))))
    ∙ sym (append_assoc (take s (take z ys)) run (drop e (take z ys)))

-- a part
pub part_seen : (xs run : List Cell) (b z s e : ℕ) → s ≤ e → e ≤ z → b + z ≤ length xs → length run ≡ e - s
    → take z (drop b (with_part (b + s) (b + e) run xs)) ≡ with_part s e run (take z (drop b xs))
part_seen xs run b z s e order within room long =
    ap (take z) (drop_part xs run b s e (omega (arith, order, within, room)))
    ∙ take_part (drop b xs) run z s e order within (subst (λ n. z ≤ n) (sym (length-drop b xs)) (omega (arith, room))) long

-- the same, as a write to a part of a slice leaves it
put_is : (xs run : List Cell) (s e : ℕ) → s ≤ e → put_mid s (e - s) xs run ≡ with_part s e run xs
put_is xs run s e order =
    let all : s + (e - s) ≡ e = omega (arith, order) in
    sym (append_assoc (take s xs) run (drop (e - s) (drop s xs)))
    ∙ ap (λ (ys : List Cell). take s xs ++ run ++ ys) (drop-drop (e - s) s xs ∙ ap (λ n. drop n xs) all)

pub mid_seen : (items now run cells view : List Cell) (b z s e : ℕ) → now ≡ items → take z (drop b items) ≡ view → b + z ≤ length items → s ≤ e → e ≤ length view
    → run ≡ cells → length cells ≡ e - s → take z (drop b (put_mid (b + s) (b + e - (b + s)) now run)) ≡ with_part s e cells view
mid_seen items now run cells view b z s e same is room order within runs long =
    let size : length view ≡ z = ap length (sym is) ∙ seen_size items b z room in
    let more : b + z ≤ length now = subst (λ (xs : List Cell). b + z ≤ length xs) (sym same) room in
    ap (λ (xs : List Cell). take z (drop b xs)) (put_is now run (b + s) (b + e) (omega (arith, order)))
    ∙ part_seen now run b z s e order (omega (arith, within, size)) more (ap length runs ∙ long)
    ∙ ap (λ (xs : List Cell). with_part s e xs (take z (drop b now))) runs
    ∙ ap (with_part s e cells) (ap (λ (xs : List Cell). take z (drop b xs)) same ∙ is)

-- a part of what is seen
pub range_seen : (items now view : List Cell) (b z s e : ℕ) → now ≡ items → take z (drop b items) ≡ view → b + z ≤ length items → s ≤ e → e ≤ length view
    → slice_range now (b + s) (b + e) ≡ slice_range view s e
range_seen items now view b z s e same is room order within =
    let size : length view ≡ z = ap length (sym is) ∙ seen_size items b z room in
    let count : b + e - (b + s) ≡ e - s = omega (arith, order) in
    let ys = drop b items in
    let all : s + (e - s) ≡ e = omega (arith, order) in
    ap (λ (xs : List Cell). take (b + e - (b + s)) (drop (b + s) xs)) same
    ∙ ap (λ n. take n (drop (b + s) items)) count
    ∙ ap (take (e - s)) (sym (drop-drop s b items))
    ∙ sym (drop-take s (e - s) ys)
    ∙ ap (λ n. drop s (take n ys)) all
    ∙ ap (drop s) (sym (take-take e z ys (omega (arith, within, size))))
    ∙ ap (λ n. drop s (take n (take z ys))) (sym all)
    ∙ drop-take s (e - s) (take z ys)
    ∙ ap (λ (xs : List Cell). take (e - s) (drop s xs)) is

pub range_size : (view : List Cell) (s e : ℕ) → s ≤ e → e ≤ length view → length (slice_range view s e) ≡ e - s
range_size view s e order within = length-take-le (e - s) (drop s view) (subst (λ n. e - s ≤ n) (sym (length-drop s view)) (omega (arith, order, within)))

-- a run that moves keeps its size
pub left_size : (run : List Cell) (n : ℕ) → length (moved_left n run) ≡ length run
left_size run n =
    length-append (drop n run) (replicate (min n (length run)) blank)
    ∙ omega (arith, length-drop n run, length-replicate (min n (length run)) blank)

pub right_size : (run : List Cell) (n : ℕ) → length (moved_right n run) ≡ length run
right_size run n =
    length-append (replicate (min n (length run)) blank) (take (length run - n) run)
    ∙ omega (arith, length-take-le (length run - n) run (omega arith), length-replicate (min n (length run)) blank)

-- ---- the run moves to its start

-- all of a run that moves by no more than its length
moved_by : (run : List Cell) (n : ℕ) → n ≤ length run → moved_left n run ≡ drop n run ++ replicate n blank
moved_by run n few = ap (λ k. drop n run ++ replicate k blank) (omega (arith, few))

-- other cells at its end
with_end : (run cells : List Cell) (z s : ℕ) → length run ≡ z → with_part s z cells run ≡ take s run ++ cells
with_end run cells z s long =
    ap (λ (ys : List Cell). take s run ++ cells ++ ys) (ap (λ n. drop n run) (sym long) ∙ drop-length run)
    ∙ append-nil (take s run ++ cells)

-- what stays of what is seen
stays : (xs : List Cell) (b z n : ℕ) → n ≤ z → take (z - n) (drop (b + n) xs) ≡ drop n (take z (drop b xs))
stays xs b z n few =
    let all : n + (z - n) ≡ z = omega (arith, few) in
    ap (take (z - n)) (sym (drop-drop n b xs))
    ∙ sym (drop-take n (z - n) (drop b xs))
    ∙ ap (λ k. drop n (take k (drop b xs))) all

-- blanks that come in behind the run, which is then seen from a place on
pub slid_on : (xs : List Cell) (b z n : ℕ) → n ≤ z → b + n + z ≤ length xs
    → take z (drop (b + n) (with_part (b + z) (b + n + z) (replicate n blank) xs)) ≡ moved_left n (take z (drop b xs))
slid_on xs b z n few room =
    let start : b + z ≡ b + n + (z - n) = omega (arith, few) in
    let seen : List Cell = take z (drop (b + n) xs) in
    let old : length (take z (drop b xs)) ≡ z = seen_size xs b z (omega (arith, room)) in
    ap (λ s. take z (drop (b + n) (with_part s (b + n + z) (replicate n blank) xs))) start
    ∙ part_seen xs (replicate n blank) (b + n) z (z - n) z (omega arith) (omega arith) room (length-replicate n blank ∙ omega (arith, few))
    ∙ with_end seen (replicate n blank) z (z - n) (seen_size xs (b + n) z room)
    ∙ ap (λ (ys : List Cell). ys ++ replicate n blank) (take-take (z - n) z (drop (b + n) xs) (omega arith) ∙ stays xs b z n few)
    ∙ sym (moved_by (take z (drop b xs)) n (omega (arith, old, few)))

-- the run copied to the front of the room
pub slid_back : (xs : List Cell) (b z n : ℕ) → n ≤ z → b + z ≤ length xs
    → take z (with_part (z - n) z (replicate n blank) (with_part 0 (z - n) (slice_range xs (b + n) (b + z)) xs)) ≡ moved_left n (take z (drop b xs))
slid_back xs b z n few room =
    let kept : List Cell = slice_range xs (b + n) (b + z) in
    let count : b + z - (b + n) ≡ z - n = omega (arith, few) in
    let kept_is : kept ≡ drop n (take z (drop b xs)) = ap (λ k. take k (drop (b + n) xs)) count ∙ stays xs b z n few in
    let old : length (take z (drop b xs)) ≡ z = seen_size xs b z room in
    let long : length kept ≡ z - n = ap length kept_is ∙ length-drop n (take z (drop b xs)) ∙ ap (λ k. k - n) old in
    let copied : List Cell = kept ++ drop (z - n) xs in
    let whole : length copied ≡ length xs = length-append kept (drop (z - n) xs) ∙ omega (arith, long, length-drop (z - n) xs, few, room) in
    take_part copied (replicate n blank) z (z - n) z (omega arith) (omega arith) (omega (arith, whole, room)) (length-replicate n blank ∙ omega (arith, few))
    ∙ with_end (take z copied) (replicate n blank) z (z - n) (length-take-le z copied (omega (arith, whole, room)))
    ∙ ap (λ (ys : List Cell). ys ++ replicate n blank) (take-take (z - n) z copied (omega arith) ∙ take_at kept (drop (z - n) xs) (z - n) long ∙ kept_is)
    ∙ sym (moved_by (take z (drop b xs)) n (omega (arith, old, few)))

-- a move by more than there are is a move by all
moved_all : (run : List Cell) (n g : ℕ) → g ≡ min n (length run) → moved_left g run ≡ moved_left n run
moved_all run n g is = by_size (cases_lt (length run) n)
  where
    counts : min g (length run) ≡ min n (length run)
    counts = omega (arith, is)

    by_size : (length run < n) ⊎ (n ≤ length run) → moved_left g run ≡ moved_left n run
    by_size (inr few) = ap (λ k. moved_left k run) (omega (arith, is, few))
    by_size (inl more) =
        ap (λ (ys : List Cell). ys ++ replicate (min g (length run)) blank)
        (drop_of_length-le run {i = g} (omega (arith, is, more)) ∙ sym (drop_of_length-le run {i = n} (omega (arith, more))))
        ∙ ap (λ k. drop n run ++ replicate k blank) counts

-- blanks written behind the run
pub mid_on : (items now run view : List Cell) (b z n g : ℕ) → now ≡ items → take z (drop b items) ≡ view → b + z ≤ length items → g ≡ min n z → b + z + g ≤ length items
    → run ≡ replicate (length (slice_range now (b + z) (b + z + g))) blank
    → take z (drop (b + g) (put_mid (b + z) (b + z + g - (b + z)) now run)) ≡ moved_left n view
mid_on items now run view b z n g same is room few more runs =
    let size : length view ≡ z = ap length (sym is) ∙ seen_size items b z room in
    let long : b + z + g ≤ length now = subst (λ (xs : List Cell). b + z + g ≤ length xs) (sym same) more in
    let blanks : run ≡ replicate g blank = runs ∙ ap (λ k. replicate k blank) (range_size now (b + z) (b + z + g) (omega arith) long ∙ omega arith) in
    let turned : b + z + g ≡ b + g + z = omega arith in
    ap (λ (xs : List Cell). take z (drop (b + g) xs)) (put_is now run (b + z) (b + z + g) (omega arith))
    ∙ ap (λ (xs : List Cell). take z (drop (b + g) (with_part (b + z) (b + z + g) xs now))) blanks
    ∙ ap (λ e. take z (drop (b + g) (with_part (b + z) e (replicate g blank) now))) turned
    ∙ slid_on now b z g (omega (arith, few)) (omega (arith, long))
    ∙ ap (moved_left g) (ap (λ (xs : List Cell). take z (drop b xs)) same ∙ is)
    ∙ moved_all view n g (few ∙ ap (min n) (sym size))

-- the run copied to the front of the room, and blanks written behind it
pub mid_back : (items now run view : List Cell) (b z n g : ℕ) → now ≡ copy_within items (b + g) (b + z) 0 → take z (drop b items) ≡ view → b + z ≤ length items → g ≡ min n z
    → run ≡ replicate (length (slice_range now (z - g) z)) blank
    → take z (put_mid (z - g) (z - (z - g)) now run) ≡ moved_left n view
mid_back items now run view b z n g copied is room few runs =
    let size : length view ≡ z = ap length (sym is) ∙ seen_size items b z room in
    let below : g ≤ z = omega (arith, few) in
    let kept : List Cell = slice_range items (b + g) (b + z) in
    let now_is : now ≡ with_part 0 (z - g) kept items = copied ∙ ap (λ k. kept ++ drop k items) (omega (arith, below)) in
    let long : length kept ≡ z - g = range_size items (b + g) (b + z) (omega (arith, below)) room ∙ omega (arith, below) in
    let whole : z ≤ length now = subst (λ (xs : List Cell). z ≤ length xs) (sym now_is)
    (subst (λ k. z ≤ k) (sym (length-append kept (drop (z - g) items))) (omega (arith, long, length-drop (z - g) items, below, room))) in
    let blanks : run ≡ replicate g blank = runs ∙ ap (λ k. replicate k blank) (range_size now (z - g) z (omega arith) whole ∙ omega (arith, below)) in
    ap (take z) (put_is now run (z - g) z (omega arith))
    ∙ ap (λ (xs : List Cell). take z (with_part (z - g) z xs now)) blanks
    ∙ ap (λ (xs : List Cell). take z (with_part (z - g) z (replicate g blank) xs)) now_is
    ∙ slid_back items b z g below room
    ∙ ap (moved_left g) is
    ∙ moved_all view n g (few ∙ ap (min n) (sym size))
