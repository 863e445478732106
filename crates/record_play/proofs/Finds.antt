-- The syncs of a recording rise, so the last one whose stamp isn't above another is found by halves.
use Rattle.std.proofs.Common.{◌≡◌, ℕ, ◌+◌, ◌-◌, ◌<◌, ◌≤◌, List, [], ◌∷◌, ◌++◌, length, true, false, inl, inr, refl, ap, sym, ◌∙◌, subst, arith, append-nil, length-append}
use Rattle.std.specs.Prelude.{Option, Some, None, get_or, nat_le}
use Rattle.std.specs.List.Sorted.{IsNonDecreasingBy, IsPartitionPoint, IsPartitionedBy}
use Rattle.std.proofs.lemmas.Bool.{cases_lt, leb-true}
use Rattle.std.proofs.lemmas.Bool.Decides.{nat_tests}
use Rattle.std.proofs.lemmas.List.{get_or_append_left, get_or-append_right}
use Rattle.std.proofs.lemmas.List.Sorted.{IsPartitionedBy-leb}
use Rattle.record_play.specs.Stamps.{stamp_of}
use Rattle.record_play.specs.Recorded.{HasRead, Placed, Rises, last_stamp, later_stamp, sync_list, syncs_of}
use Rattle.record_play.specs.Syncs.{IsFound}
use Rattle.record_play.specs.declared.sync_at.SyncAt.{SyncAt}

-- each stamp is at most the last one
Below : List SyncAt → Option ℕ → Type 0
Below xs last = (i : ℕ) (d : SyncAt) → i < length xs → (l : ℕ) × (last ≡ Some l) × ((get_or xs i d).stamp ≤ l)

rises_of : (last : Option ℕ) (l t : ℕ) → last ≡ Some l → Rises last (Some t) → l < t
rises_of None l t is r = absurd (let w : None ≡ Some l = is in cc)
rises_of (Some k) l t is r = let w : k ≡ l = (let z : Some k ≡ Some l = is in cc) in omega (arith, w, r)

at_left : (xs ys : List SyncAt) (i : ℕ) (d : SyncAt) → i < length xs → (get_or (xs ++ ys) i d).stamp ≡ (get_or xs i d).stamp
at_left xs ys i d low = ap (λ (s : SyncAt). s.stamp) (get_or_append_left xs ys d i low)

at_last : (xs : List SyncAt) (s : SyncAt) (i : ℕ) (d : SyncAt) → i ≡ length xs → (get_or (xs ++ s ∷ []) i d).stamp ≡ s.stamp
at_last xs s i d is =
    let zero_is : i - length xs ≡ 0 = omega (arith, is) in
    ap (λ (x : SyncAt). x.stamp) (get_or-append_right xs (s ∷ []) (length xs) i d refl (omega (arith, is)) ∙ ap (λ (n : ℕ). get_or (s ∷ []) n d) zero_is)

below_more : (xs : List SyncAt) (last : Option ℕ) → Below xs last → (o : Option ℕ) (end : ℕ) → Rises last o → Below (xs ++ sync_list o end) (later_stamp o last)
unfolding Below
below_more xs last b None end r i d low =
    let e = append-nil xs in
    subst (λ (ys : List SyncAt). (l : ℕ) × (last ≡ Some l) × ((get_or ys i d).stamp ≤ l)) (sym e) (b i d (subst (λ (ys : List SyncAt). i < length ys) e low))
below_more xs last b (Some t) end r i d low = elim (cases_lt i (length xs)) [
  | inl left ↦ let k = b i d left in (t, refl, let up = rises_of last k.0 t k.1 r in omega (arith, at_left xs (record { stamp = t; end = end } ∷ []) i d left, k.2, up))
  | inr right ↦ (t, refl, omega (arith, at_last xs (record { stamp = t; end = end }) i d (omega (arith, right, low, length-append xs (sync_list (Some t) end)))))
]

below : (bytes : List ℕ) (placed : List Placed) → HasRead bytes placed → Below (syncs_of placed) (last_stamp placed)
unfolding Below
below bytes [] read i d low = absurd (omega (arith, low))
below bytes (p ∷ older) read i d low = below_more (syncs_of older) (last_stamp older) (below bytes older read.2) (stamp_of p.instr) p.end read.1.rises i d low

rising_more : (xs : List SyncAt) (last : Option ℕ) → Below xs last → IsNonDecreasingBy (λ (s : SyncAt). s.stamp) xs → (o : Option ℕ) (end : ℕ) → Rises last o → IsNonDecreasingBy (λ (s : SyncAt). s.stamp) (xs ++ sync_list o end)
unfolding Below
rising_more xs last b up None end r i j d le low = subst (IsNonDecreasingBy (λ (s : SyncAt). s.stamp)) (sym (append-nil xs)) up i j d le low
rising_more xs last b up (Some t) end r i j d le low =
    let s : SyncAt = record { stamp = t; end = end } in
    let long = length-append xs (sync_list (Some t) end) in
    elim (cases_lt j (length xs)) [
      | inl left ↦ let one = up i j d le left in omega (arith, at_left xs (s ∷ []) i d (omega (arith, le, left)), at_left xs (s ∷ []) j d left, one)
      | inr right ↦ let newest = at_last xs s j d (omega (arith, right, low, long)) in elim (cases_lt i (length xs)) [
        | inl left ↦ let k = b i d left in let more = rises_of last k.0 t k.1 r in omega (arith, at_left xs (s ∷ []) i d left, newest, k.2, more)
        | inr same ↦ omega (arith, at_last xs s i d (omega (arith, same, le, low, long)), newest)
      ]
    ]

rising : (bytes : List ℕ) (placed : List Placed) → HasRead bytes placed → IsNonDecreasingBy (λ (s : SyncAt). s.stamp) (syncs_of placed)
rising bytes [] read i j d le low = absurd (omega (arith, low))
rising bytes (p ∷ older) read i j d le low = rising_more (syncs_of older) (last_stamp older) (below bytes older read.2) (rising bytes older read.2) (stamp_of p.instr) p.end read.1.rises i j d le low

pub partitioned : (bytes : List ℕ) (placed : List Placed) → HasRead bytes placed → (t : ℕ) → IsPartitionedBy (λ (s : SyncAt). nat_le s.stamp t) (syncs_of placed)
partitioned bytes placed read t = IsPartitionedBy-leb (λ (s : SyncAt). s.stamp) (syncs_of placed) t (rising bytes placed read)

above : (t u : ℕ) → nat_le u t ≡ false → t < u
above t u e = grind (arith, nat_tests)

pub found_none : (xs : List SyncAt) (t : ℕ) → IsPartitionPoint (λ (s : SyncAt). nat_le s.stamp t ≡ true) (λ (s : SyncAt). nat_le s.stamp t ≡ false) xs 0 → IsFound xs t None
found_none xs t p k d low high = above t (get_or xs k d).stamp (p.1 k d low high)

pub found_some : (xs : List SyncAt) (t i : ℕ) → 1 ≤ i → i ≤ length xs → IsPartitionPoint (λ (s : SyncAt). nat_le s.stamp t ≡ true) (λ (s : SyncAt). nat_le s.stamp t ≡ false) xs i → IsFound xs t (Some (i - 1))
found_some xs t i some bound p = (
  omega (arith, some, bound),
  λ k d low high. leb-true (get_or xs k d).stamp t (p.0 k d low (omega (arith, high, some))),
  λ k d low high. above t (get_or xs k d).stamp (p.1 k d (omega (arith, low, some)) high),
)
