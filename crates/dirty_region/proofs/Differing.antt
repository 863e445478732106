-- The places that changed, row by row.
use Rattle.std.proofs.Common.{◌≡◌, ℕ, zero, suc, ◌+◌, ◌*◌, ◌/◌, ◌%◌, ◌<◌, ◌≤◌, Bool, true, false, not, List, [], ◌∷◌, ◌++◌, length, map, take, drop, get_or, refl, sym, ap, ◌∙◌, subst, rules, arith, append_assoc, length-drop, length-take-le, mul-le-mul_right, ◌-◌}
use Rattle.std.specs.Prelude.{filter}
use Rattle.std.specs.List.{range_with_len}
use Rattle.std.proofs.lemmas.List.{map-append, append-nil}
use Rattle.std.proofs.lemmas.List.Elements.{filter-append}
use Rattle.std.proofs.lemmas.Option.{slice_get-get_or}
use Rattle.std.proofs.lemmas.Nat.{div-mul-add, mod-mul-add}
use Rattle.std.proofs.Math.Seq.{get_or-drop, get_or-take}
use Rattle.gate_model.specs.declared.key.Key.{Key}
use Rattle.gate_model.specs.picture.KeyGrid.{KeyGrid}
use Rattle.gate_model.specs.picture.Buffers.{is_same_key}
use Rattle.gate_model.specs.picture.Pictures.{key_at, blank_key}
use Rattle.gate_model.specs.session.Cost.{is_changed, old_key, old_row}
use Rattle.dirty_region.specs.declared.band.Band.{Band}
use Rattle.dirty_region.specs.Bands.{band_row, is_left, moved_key}
use Rattle.dirty_region.specs.Places.{differing, differs, place_of}

-- one more number stands last
range_more : (a n : ℕ) → range_with_len a (suc n) ≡ range_with_len a n ++ (a + n) ∷ []
range_more a zero = ap (λ i. i ∷ []) (omega arith)
range_more a (suc n) = ap (λ l. a ∷ l) (range_more (a + 1) n ∙ ap (λ i. range_with_len (a + 1) n ++ i ∷ []) (omega arith))

pub range_add : (a n m : ℕ) → range_with_len a (n + m) ≡ range_with_len a n ++ range_with_len (a + n) m
range_add a zero m =
    let none : zero + m ≡ m = omega arith in
    let here : a ≡ a + zero = omega arith in
    ap (range_with_len a) none ∙ ap (λ i. range_with_len i m) here
range_add a (suc n) m =
    let one : suc n + m ≡ suc (n + m) = omega arith in
    let on : a + 1 + n ≡ a + suc n = omega arith in
    ap (range_with_len a) one ∙ ap (λ l. a ∷ l) (range_add (a + 1) n m ∙ ap (λ i. range_with_len (a + 1) n ++ range_with_len i m) on)

-- ---- a test on numbers, one number more

module _ {X : Type 0} (f : ℕ → X) (test : ℕ → Bool) where
  abbrev pub passed : ℕ → ℕ → List X
  passed a n = map f (filter test (range_with_len a n))

  passed_more : (a n : ℕ) → passed a (suc n) ≡ passed a n ++ map f (filter test ((a + n) ∷ []))
  passed_more a n = ap (λ l. map f (filter test l)) (range_more a n) ∙ ap (map f) (filter-append test (range_with_len a n) ((a + n) ∷ [])) ∙ map-append f (filter test (range_with_len a n)) (filter test ((a + n) ∷ []))

  pub passed_yes : (a n : ℕ) → test (a + n) ≡ true → passed a (suc n) ≡ passed a n ++ f (a + n) ∷ []
  passed_yes a n h = passed_more a n ∙ rw h

  pub passed_no : (a n : ℕ) → test (a + n) ≡ false → passed a (suc n) ≡ passed a n
  passed_no a n h = passed_more a n ∙ rw h (append-nil (passed a n))

-- ---- one column more

module _ (before after : List Key) (y x : ℕ) where
  pub more_differ : differs before after x ≡ true → differing before after y (suc x) ≡ differing before after y x ++ (x, y) ∷ []
  more_differ h = passed_yes (λ i. (i, y)) (differs before after) 0 x (subst (λ i. differs before after i ≡ true) (omega arith) h) ∙ ap (λ i. differing before after y x ++ (i, y) ∷ []) (omega arith)

  pub same_differ : differs before after x ≡ false → differing before after y (suc x) ≡ differing before after y x
  same_differ h = passed_no (λ i. (i, y)) (differs before after) 0 x (subst (λ i. differs before after i ≡ false) (omega arith) h)

one_more : (x : ℕ) → suc x ≡ x + 1
one_more x = omega arith

key_here : (keys : List Key) (x : ℕ) (d : Key) → x < length keys → get_or keys x d ≡ key_at keys x
key_here keys x d h = let a = slice_get-get_or keys x d h in let b = slice_get-get_or keys x blank_key h in cc

module _ (before after : List Key) (y x : ℕ) (d e : Key) (a : x < length after) (width : length before ≡ length after) where
  differs_as : (r : Bool) → r ≡ not (is_same_key (get_or after x d) (get_or before x e)) → differs before after x ≡ r
  differs_as r h = sym (h ∙ ap (λ k. not (is_same_key k (get_or before x e))) (key_here after x d a) ∙ ap (λ k. not (is_same_key (key_at after x) k)) (key_here before x e (subst (λ n. x < n) (sym width) a)))

  -- a column whose keys differ is added
  pub added : (r : Bool) → r ≡ not (is_same_key (get_or after x d) (get_or before x e)) → r ≡ true → (old held more : List (ℕ × ℕ)) → held ≡ old ++ differing before after y x → more ≡ held ++ (x, y) ∷ [] → more ≡ old ++ differing before after y (x + 1)
  added r h t old held more is put =
      put ∙ ap (λ l. l ++ (x, y) ∷ []) is ∙ append_assoc old (differing before after y x) ((x, y) ∷ []) ∙ ap (λ l. old ++ l) (sym (more_differ before after y x (differs_as r h ∙ t))) ∙ ap (λ n. old ++ differing before after y n) (one_more x)

  -- another isn't
  pub passed_over : (r : Bool) → r ≡ not (is_same_key (get_or after x d) (get_or before x e)) → r ≡ false → (old held : List (ℕ × ℕ)) → held ≡ old ++ differing before after y x → held ≡ old ++ differing before after y (x + 1)
  passed_over r h f old held is = is ∙ ap (λ l. old ++ l) (sym (same_differ before after y x (differs_as r h ∙ f))) ∙ ap (λ n. old ++ differing before after y n) (one_more x)

-- ---- a row

-- whether a place changed, by the row that it is compared with
abbrev pub differ_at : KeyGrid → KeyGrid → ℕ → ℕ → ℕ → Bool
differ_at old new y from x = not (is_same_key (key_at new.keys (y * new.cols + x)) (key_at old.keys (from * new.cols + x)))

module _ (old new : KeyGrid) (test : ℕ → Bool) (y from : ℕ) (told : (x : ℕ) → x < new.cols → test (y * new.cols + x) ≡ differ_at old new y from x) where
  abbrev here : List Key
  here = take new.cols (drop (y * new.cols) new.keys)

  abbrev there : List Key
  there = take new.cols (drop (from * new.cols) old.keys)

  in_row : (keys : List Key) (row x : ℕ) → x < new.cols → key_at keys (row * new.cols + x) ≡ key_at (take new.cols (drop (row * new.cols) keys)) x
  in_row keys row x h = sym (get_or-take new.cols (drop (row * new.cols) keys) x blank_key h ∙ get_or-drop (row * new.cols) keys x blank_key)

  alike : (x : ℕ) → x < new.cols → test (y * new.cols + x) ≡ differs there here x
  alike x h =
      told x h
      ∙ ap (λ k. not (is_same_key k (key_at old.keys (from * new.cols + x)))) (in_row new.keys y x h)
      ∙ ap (λ k. not (is_same_key (key_at here x) k)) (in_row old.keys from x h)

  placed : (x : ℕ) → x < new.cols → place_of new.cols (y * new.cols + x) ≡ (x, y)
  placed x h = rw (mod-mul-add y new.cols x h, div-mul-add y new.cols x h)

  -- the changed places of a row are those where its keys differ
  pub of_row : (n : ℕ) → n ≤ new.cols → passed (place_of new.cols) test (y * new.cols) n ≡ differing there here y n
  of_row zero h = refl
  of_row (suc n) h = (elim (differs there here n) as (λ b. differs there here n ≡ b → passed (place_of new.cols) test (y * new.cols) (suc n) ≡ differing there here y (suc n)) [
    | true ↦ λ t.
        passed_yes (place_of new.cols) test (y * new.cols) n (alike n h ∙ t)
        ∙ ap (λ l. l ++ place_of new.cols (y * new.cols + n) ∷ []) (of_row n (omega (arith, h)))
        ∙ ap (λ p. differing there here y n ++ p ∷ []) (placed n h)
        ∙ sym (more_differ there here y n t)
    | false ↦ λ t.
        passed_no (place_of new.cols) test (y * new.cols) n (alike n h ∙ t)
        ∙ of_row n (omega (arith, h))
        ∙ sym (same_differ there here y n t)
  ]) refl

  -- the changed places of the rows up to a row, and of that row
  pub with_row : (held more : List (ℕ × ℕ)) → held ≡ passed (place_of new.cols) test 0 (y * new.cols) → more ≡ held ++ differing there here y new.cols → more ≡ passed (place_of new.cols) test 0 ((y + 1) * new.cols)
  with_row held more is added =
      let size : (y + 1) * new.cols ≡ y * new.cols + new.cols = omega arith in
      let start : 0 + y * new.cols ≡ y * new.cols = omega arith in
      added
      ∙ ap (λ l. l ++ differing there here y new.cols) is
      ∙ ap (λ l. passed (place_of new.cols) test 0 (y * new.cols) ++ l) (sym (of_row new.cols (omega arith)))
      ∙ sym (joined size start)
    where
      joined : (y + 1) * new.cols ≡ y * new.cols + new.cols → 0 + y * new.cols ≡ y * new.cols → passed (place_of new.cols) test 0 ((y + 1) * new.cols) ≡ passed (place_of new.cols) test 0 (y * new.cols) ++ passed (place_of new.cols) test (y * new.cols) new.cols
      joined size start =
          ap (passed (place_of new.cols) test 0) size
          ∙ ap (λ l. map (place_of new.cols) (filter test l)) (range_add 0 (y * new.cols) new.cols ∙ ap (λ i. range_with_len 0 (y * new.cols) ++ range_with_len i new.cols) start)
          ∙ ap (map (place_of new.cols)) (filter-append test (range_with_len 0 (y * new.cols)) (range_with_len (y * new.cols) new.cols))
          ∙ map-append (place_of new.cols) (filter test (range_with_len 0 (y * new.cols))) (filter test (range_with_len (y * new.cols) new.cols))

-- the same of slices of the two screens
pub next_row : (old new : KeyGrid) (test : ℕ → Bool) (y from columns : ℕ) (before after : List Key) → ((x : ℕ) → x < new.cols → test (y * new.cols + x) ≡ differ_at old new y from x) → columns ≡ new.cols → before ≡ old.keys → after ≡ new.keys → y < new.rows → length new.keys ≡ new.rows * new.cols → (held more : List (ℕ × ℕ)) → held ≡ passed (place_of new.cols) test 0 (y * new.cols) → more ≡ held ++ differing (take (from * columns + columns - from * columns) (drop (from * columns) before)) (take (y * columns + columns - y * columns) (drop (y * columns) after)) y (length (take (y * columns + columns - y * columns) (drop (y * columns) after))) → more ≡ passed (place_of new.cols) test 0 ((y + 1) * new.cols)
next_row old new test y from columns before after told width was is within full held more done put =
    with_row old new test y from told held more done (put ∙ in_cols)
  where
    size : (n : ℕ) → n * columns + columns - n * columns ≡ columns
    size n = omega arith

    room : y * new.cols + new.cols ≤ length new.keys
    room = let fits : (y + 1) * new.cols ≤ new.rows * new.cols = mul-le-mul_right new.cols (omega (arith, within)) in omega (arith, fits, full)

    row_length : length (take new.cols (drop (y * new.cols) new.keys)) ≡ new.cols
    row_length = length-take-le new.cols (drop (y * new.cols) new.keys) (omega (arith, room, length-drop (y * new.cols) new.keys))

    in_cols : held ++ differing (take (from * columns + columns - from * columns) (drop (from * columns) before)) (take (y * columns + columns - y * columns) (drop (y * columns) after)) y (length (take (y * columns + columns - y * columns) (drop (y * columns) after))) ≡ held ++ differing (take new.cols (drop (from * new.cols) old.keys)) (take new.cols (drop (y * new.cols) new.keys)) y new.cols
    in_cols = rw (size from, size y, width, was, is) (ap (λ n. held ++ differing (take new.cols (drop (from * new.cols) old.keys)) (take new.cols (drop (y * new.cols) new.keys)) y n) row_length)

-- ---- the row of the old screen, and the row of the band
module _ (old new : KeyGrid) (shift y : ℕ) (cols : old.cols ≡ new.cols) where
  row_of : (x : ℕ) → x < new.cols → (y * new.cols + x) / old.cols ≡ y
  row_of x h = subst (λ c. (y * new.cols + x) / c ≡ y) (sym cols) (div-mul-add y new.cols x h)

  column_of : (x : ℕ) → x < new.cols → (y * new.cols + x) % old.cols ≡ x
  column_of x h = subst (λ c. (y * new.cols + x) % c ≡ x) (sym cols) (mod-mul-add y new.cols x h)

  was_at : (from x : ℕ) → from ≡ old_row shift old.rows y → x < new.cols → old_key old shift (y * new.cols + x) ≡ key_at old.keys (from * new.cols + x)
  was_at from x is_from h =
      ap (key_at old.keys) (ap (λ q. old_row shift old.rows q * old.cols + (y * new.cols + x) % old.cols) (row_of x h) ∙ ap (λ r. old_row shift old.rows y * old.cols + r) (column_of x h) ∙ ap (λ c. old_row shift old.rows y * c + x) cols ∙ ap (λ r. r * new.cols + x) (sym is_from))

  pub changed_at : (from x : ℕ) → from ≡ old_row shift old.rows y → x < new.cols → is_changed old new shift (y * new.cols + x) ≡ differ_at old new y from x
  changed_at from x is_from h = ap (λ k. not (is_same_key (key_at new.keys (y * new.cols + x)) k)) (was_at from x is_from h)

moved_at : (old new : KeyGrid) (shift y : ℕ) (b : Band) → old.cols ≡ new.cols → (x : ℕ) → x < new.cols → moved_key old shift b (y * new.cols + x) ≡ old_key old shift (band_row b y * new.cols + x)
moved_at old new shift y b cols x h =
    ap (old_key old shift) (ap (λ q. band_row b q * old.cols + (y * new.cols + x) % old.cols) (row_of old new shift y cols x h) ∙ ap (λ r. band_row b y * old.cols + r) (column_of old new shift y cols x h) ∙ ap (λ c. band_row b y * c + x) cols)

pub left_at : (old new : KeyGrid) (shift y : ℕ) (b : Band) → old.cols ≡ new.cols → (from x : ℕ) → from ≡ old_row shift old.rows (band_row b y) → x < new.cols → is_left old new shift b (y * new.cols + x) ≡ differ_at old new y from x
left_at old new shift y b cols from x is_from h =
    ap (λ k. not (is_same_key (key_at new.keys (y * new.cols + x)) k)) (moved_at old new shift y b cols x h ∙ was_at old new shift (band_row b y) cols from x is_from h)
