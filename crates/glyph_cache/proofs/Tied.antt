-- The map by key and the keys by number go on to say the same.
use Rattle.std.proofs.Common.{◌≡◌, ℕ, zero, suc, ◌+◌, ◌-◌, ◌<◌, ◌≤◌, ◌⊎◌, inl, inr, Bool, true, false, List, [], ◌∷◌, ◌++◌, length, map, take, take_all, length-append, length-set, eqb, refl, sym, ap, ◌∙◌, subst, rules, arith, append_assoc, true≢false, not-suc-le-zero, le_of_suc-le-suc}
use Rattle.std.specs.Prelude.{Option, Some, None, is_some, IfNone, IfSome, slice_get, slice_set}
use Rattle.std.specs.Option.{option_map}
use Rattle.std.specs.List.{IsDistinct}
use Rattle.std.specs.Map.{keys_of, lookup}
use Rattle.std.proofs.lemmas.Map.Keys.{IsDistinct-cons, IsDistinct-head, IsDistinct-tail}
use Rattle.std.proofs.lemmas.Option.{slice_get_within}
use Rattle.std.proofs.lemmas.Bool.Decides.{Decides-eqb}
use Rattle.std.proofs.Math.Seq.{take-append_seam}
use Rattle.std.proofs.lemmas.List.{map-append}
use Rattle.std.proofs.lemmas.List.Elements.{All-set, All-append}
use Rattle.lru.specs.LruCache.{LruCache, lru_cache, promoted, put_entries}
use Rattle.gate_model.specs.declared.key.Key.{Key}
use Rattle.gate_model.specs.picture.Buffers.{Buffers, is_held, is_same_key}
use Rattle.gate_model.specs.terminal.Screens.{AreColoured, IsColoured}
use Rattle.glyph_cache.specs.Cache.{CacheState, IsCache, IsTaken, without}
use Rattle.glyph_cache.specs.declared.hash_key.HashKey.{HashKey}
use Rattle.glyph_cache.specs.Tied.{IsTied, is_equal, keys_in}
use Rattle.glyph_cache.proofs.Keys.{equal_is, laws}
use Rattle.glyph_cache.proofs.Numbers.{at_end, beside, distinct_keys, held_at, in_place, kept_before, number_of, was_before}
use Rattle.glyph_cache.proofs.Entries.{Entries, apart_none, before_last, distinct_after, distinct_before, distinct_in, distinct_promoted, entry_none, found_before, held_in, keys_promoted, last_alone, last_found, length_in, length_promoted, lookup_promoted, none_apart}

abbrev by_hash : Key → HashKey
by_hash key = record { key = key }

one_coloured : (key : Key) → IsColoured key → AreColoured (key ∷ [])
one_coloured key h zero d within = h
one_coloured key h (suc n) d within = absurd (not-suc-le-zero (le_of_suc-le-suc within))

-- ---- what is held

module _ (slots : LruCache HashKey ℕ) (keys : Buffers) (t : IsTied slots keys) where
  pub absent : (key : Key) → lookup (is_equal (by_hash key)) slots.entries ≡ None → is_held keys key ≡ false
  absent key h = (elim (is_held keys key) as (λ b. is_held keys key ≡ b → is_held keys key ≡ false) [
    | true ↦ λ e. let at = number_of keys key e in let f = t.found at.0 key at.1 in cc
    | false ↦ λ e. e
  ]) refl

  pub not_there : (key : Key) → is_held keys key ≡ false → lookup (is_equal (by_hash key)) slots.entries ≡ None
  not_there key h = (elim (lookup (is_equal (by_hash key)) slots.entries) as (λ o. lookup (is_equal (by_hash key)) slots.entries ≡ o → o ≡ None) [
    | None ↦ λ e. refl
    | Some n ↦ λ e. absurd (true≢false (sym (held_at keys key n (t.back (by_hash key) n e)) ∙ h))
  ]) refl

  pub there : (key : Key) (n : ℕ) → lookup (is_equal (by_hash key)) slots.entries ≡ Some n → is_held keys key ≡ true
  there key n h = held_at keys key n (t.back (by_hash key) n h)

  one_number : (n m : ℕ) (k : Key) → slice_get keys n ≡ Some k → slice_get keys m ≡ Some k → n ≡ m
  one_number n m k a b = let p = t.found n k a in let q = t.found m k b in cc

  among : (key : Key) → is_held (keys_in slots.entries) key ≡ is_held keys key
  among key = held_in slots.entries key ∙ (elim (lookup (is_equal (by_hash key)) slots.entries) as (λ o. lookup (is_equal (by_hash key)) slots.entries ≡ o → is_some o ≡ is_held keys key) [
    | None ↦ λ e. sym (absent key e)
    | Some n ↦ λ e. sym (there key n e)
  ]) refl

  -- what holds of every cache
  pub valid : IsCache (record { keys = keys; order = keys_in slots.entries })
  valid = record {
    distinct = distinct_keys keys one_number;
    few = t.few;
    coloured = t.coloured;
    once = distinct_in slots.entries t.distinct;
    alike = length_in slots.entries ∙ t.room;
    among = among;
  }

  -- ---- a key that is there goes first

  module _ (key : Key) (n : ℕ) (is : lookup (is_equal (by_hash key)) slots.entries ≡ Some n) (new : LruCache HashKey ℕ) (put : new ≡ lru_cache (promoted (is_equal (by_hash key)) slots.entries) slots.cap) where
    used_tied : IsTied (lru_cache (promoted (is_equal (by_hash key)) slots.entries) slots.cap) keys
    used_tied = record {
      cap = t.cap;
      room = length_promoted (by_hash key) slots.entries n is ∙ t.room;
      few = t.few;
      distinct = distinct_promoted (by_hash key) slots.entries n is t.distinct;
      found = λ m k h. lookup_promoted (by_hash key) slots.entries n is (by_hash k) t.distinct ∙ t.found m k h;
      back = λ k m h. t.back k m (sym (lookup_promoted (by_hash key) slots.entries n is k t.distinct) ∙ h);
      coloured = t.coloured;
    }

    pub used : IsTied new keys × (keys_in new.entries ≡ key ∷ without key (keys_in slots.entries))
    used = (subst (λ s. IsTied s keys) (sym put) used_tied, ap (λ (s : LruCache HashKey ℕ). keys_in s.entries) put ∙ keys_promoted (by_hash key) slots.entries n is t.distinct)

  -- a look-up keeps the two alike, whatever it finds
  module _ (key : Key) (new : LruCache HashKey ℕ) (put : new ≡ lru_cache (promoted (is_equal (by_hash key)) slots.entries) slots.cap) where
    same_slots : lookup (is_equal (by_hash key)) slots.entries ≡ None → new ≡ slots
    same_slots h = put ∙ rw (entry_none (by_hash key) slots.entries h)

    pub looked_up : IsTied new keys
    looked_up = (elim (lookup (is_equal (by_hash key)) slots.entries) as (λ o. lookup (is_equal (by_hash key)) slots.entries ≡ o → IsTied new keys) [
      | None ↦ λ h. subst (λ s. IsTied s keys) (sym (same_slots h)) t
      | Some n ↦ λ h. (used key n h new put).0
    ]) refl

    pub if_absent : (r : Option ℕ) → r ≡ lookup (is_equal (by_hash key)) slots.entries → IfNone r (is_held keys key ≡ false)
    if_absent None h = absent key (sym h)
    if_absent (Some n) h = tt

    pub if_unused : (r : Option ℕ) → r ≡ lookup (is_equal (by_hash key)) slots.entries → IfNone r (keys_in new.entries ≡ keys_in slots.entries)
    if_unused None h = ap (λ (s : LruCache HashKey ℕ). keys_in s.entries) (same_slots (sym h))
    if_unused (Some n) h = tt

    pub if_held : (r : Option ℕ) → r ≡ lookup (is_equal (by_hash key)) slots.entries → IfSome r (λ n. slice_get keys n ≡ Some key)
    if_held None h = tt
    if_held (Some n) h = t.back (by_hash key) n (sym h)

    pub if_first : (r : Option ℕ) → r ≡ lookup (is_equal (by_hash key)) slots.entries → IfSome r (λ _. keys_in new.entries ≡ key ∷ without key (keys_in slots.entries))
    if_first None h = tt
    if_first (Some n) h = (used key n (sym h) new put).1

  -- ---- one more key

  module _ (key : Key) (coloured : IsColoured key) (missing : is_held keys key ≡ false) (room : length keys < 1024) where
    abbrev more : Entries
    more = (by_hash key, length keys) ∷ slots.entries

    put_more : put_entries is_equal slots (by_hash key) (length keys) ≡ more
    put_more = rw (entry_none (by_hash key) slots.entries (not_there key missing), take_all (slots.cap - 1) slots.entries (omega (arith, t.room, t.cap, room)))

    more_found : (m : ℕ) (k : Key) → slice_get (keys ++ key ∷ []) m ≡ Some k → lookup (is_equal (by_hash k)) more ≡ Some m
    more_found m k h = elim (was_before keys key k m h) [
      | inl e ↦ rw (e.1, e.0, laws.refl (by_hash key))
      | inr e ↦ (elim (is_equal (by_hash k) (by_hash key)) as (λ b. is_equal (by_hash k) (by_hash key) ≡ b → lookup (is_equal (by_hash k)) more ≡ Some m) [
        | true ↦ λ s. let same = ap (λ (j : HashKey). j.key) (equal_is (by_hash k) (by_hash key) s) in absurd (true≢false (sym (held_at keys key m (subst (λ j. slice_get keys m ≡ Some j) same e)) ∙ missing))
        | false ↦ λ s. rw s (t.found m k e)
      ]) refl
    ]

    more_back : (k : HashKey) (m : ℕ) → lookup (is_equal k) more ≡ Some m → slice_get (keys ++ key ∷ []) m ≡ Some k.key
    more_back k m h = (elim (is_equal k (by_hash key)) as (λ b. is_equal k (by_hash key) ≡ b → slice_get (keys ++ key ∷ []) m ≡ Some k.key) [
      | true ↦ λ s. let same = ap (λ (j : HashKey). j.key) (equal_is k (by_hash key) s) in let h' = rw s at h in let number : length keys ≡ m = cc in subst (λ i. slice_get (keys ++ key ∷ []) i ≡ Some k.key) number (at_end keys key ∙ ap Some (sym same))
      | false ↦ λ s. kept_before keys key k.key m (t.back k m (rw s at h))
    ]) refl

    more_tied : IsTied (lru_cache more slots.cap) (keys ++ key ∷ [])
    more_tied = record {
      cap = t.cap;
      room = omega (arith, t.room, length-append keys (key ∷ []));
      few = omega (arith, room, length-append keys (key ∷ []));
      distinct = IsDistinct-cons is_equal (by_hash key) (keys_of slots.entries) (none_apart (by_hash key) slots.entries (not_there key missing)) t.distinct;
      found = more_found;
      back = more_back;
      coloured = All-append IsColoured keys (key ∷ []) t.coloured (one_coloured key coloured);
    }

    pub made : (new : LruCache HashKey ℕ) → new ≡ lru_cache (put_entries is_equal slots (by_hash key) (length keys)) slots.cap → IsTied new (keys ++ key ∷ []) × (keys_in new.entries ≡ key ∷ keys_in slots.entries)
    made new put =
        let is : new ≡ lru_cache more slots.cap = put ∙ ap (λ es. lru_cache es slots.cap) put_more in
        (subst (λ s. IsTied s (keys ++ key ∷ [])) (sym is) more_tied, ap (λ (s : LruCache HashKey ℕ). keys_in s.entries) is)

  -- ---- another key in the place of the one used longest ago

  module _ (key : Key) (coloured : IsColoured key) (missing : is_held keys key ≡ false) (full : length keys ≡ 1024) (e : HashKey × ℕ) (xs : Entries) (parts : slots.entries ≡ xs ++ e ∷ []) where
    abbrev turned : Entries
    turned = (by_hash key, e.1) ∷ xs

    abbrev replaced : Buffers
    replaced = slice_set keys e.1 key

    distinct_parts : IsDistinct is_equal (keys_of (xs ++ e ∷ []))
    distinct_parts = subst (λ es. IsDistinct is_equal (keys_of es)) parts t.distinct

    of_last : slice_get keys e.1 ≡ Some e.0.key
    of_last = t.back e.0 e.1 (subst (λ es. lookup (is_equal e.0) es ≡ Some e.1) (sym parts) (last_found e xs distinct_parts))

    pub within : e.1 < 1024
    within = subst (λ n. e.1 < n) full (slice_get_within keys e.1 e.0.key of_last)

    not_in : lookup (is_equal (by_hash key)) xs ≡ None
    not_in = (elim (lookup (is_equal (by_hash key)) xs) as (λ o. lookup (is_equal (by_hash key)) xs ≡ o → o ≡ None) [
      | None ↦ λ h. refl
      | Some m ↦ λ h. let was : lookup (is_equal (by_hash key)) slots.entries ≡ Some m = subst (λ es. lookup (is_equal (by_hash key)) es ≡ Some m) (sym parts) (found_before e xs (by_hash key) m h) in absurd (true≢false (sym (there key m was) ∙ missing))
    ]) refl

    -- a number is the one taken, or another
    is_taken : (m : ℕ) → (m ≡ e.1) ⊎ (¬ (m ≡ e.1))
    is_taken m = (elim (eqb m e.1) as (λ b. eqb m e.1 ≡ b → (m ≡ e.1) ⊎ (¬ (m ≡ e.1))) [
      | true ↦ λ h. inl ((Decides-eqb m e.1).0 h)
      | false ↦ λ h. inr (λ same. true≢false (sym ((Decides-eqb m e.1).1 same) ∙ h))
    ]) refl

    turned_found : (m : ℕ) (k : Key) → slice_get replaced m ≡ Some k → lookup (is_equal (by_hash k)) turned ≡ Some m
    turned_found m k h = elim (is_taken m) [
      | inl at ↦
          let here : Some key ≡ Some k = sym (in_place keys e.1 key (slice_get_within keys e.1 e.0.key of_last)) ∙ subst (λ i. slice_get replaced i ≡ Some k) at h in
          let same : k ≡ key = cc in
          rw (same, laws.refl (by_hash key)) (ap Some (sym at))
      | inr ne ↦
          let was : slice_get keys m ≡ Some k = sym (beside keys e.1 m key ne) ∙ h in
          let found : lookup (is_equal (by_hash k)) xs ≡ Some m = before_last e xs (by_hash k) m (subst (λ es. lookup (is_equal (by_hash k)) es ≡ Some m) parts (t.found m k was)) ne in
          (elim (is_equal (by_hash k) (by_hash key)) as (λ b. is_equal (by_hash k) (by_hash key) ≡ b → lookup (is_equal (by_hash k)) turned ≡ Some m) [
            | true ↦ λ s. let same = ap (λ (j : HashKey). j.key) (equal_is (by_hash k) (by_hash key) s) in absurd (true≢false (sym (held_at keys key m (subst (λ j. slice_get keys m ≡ Some j) same was)) ∙ missing))
            | false ↦ λ s. rw s found
          ]) refl
    ]

    turned_back : (k : HashKey) (m : ℕ) → lookup (is_equal k) turned ≡ Some m → slice_get replaced m ≡ Some k.key
    turned_back k m h = (elim (is_equal k (by_hash key)) as (λ b. is_equal k (by_hash key) ≡ b → slice_get replaced m ≡ Some k.key) [
      | true ↦ λ s. let same = ap (λ (j : HashKey). j.key) (equal_is k (by_hash key) s) in let h' = rw s at h in let number : e.1 ≡ m = cc in subst (λ i. slice_get replaced i ≡ Some k.key) number (in_place keys e.1 key (slice_get_within keys e.1 e.0.key of_last) ∙ ap Some (sym same))
      | false ↦ λ s.
          let in_front : lookup (is_equal k) xs ≡ Some m = rw s at h in
          let was : slice_get keys m ≡ Some k.key = t.back k m (subst (λ es. lookup (is_equal k) es ≡ Some m) (sym parts) (found_before e xs k m in_front)) in
          elim (is_taken m) [
            | inl at ↦
                let last : slice_get keys m ≡ Some e.0.key = subst (λ i. slice_get keys i ≡ Some e.0.key) (sym at) of_last in
                let key_of_last : k.key ≡ e.0.key = cc in
                let same : k ≡ e.0 = ap by_hash key_of_last in
                let alone : lookup (is_equal k) xs ≡ None = subst (λ j. lookup (is_equal j) xs ≡ None) (sym same) (last_alone e xs distinct_parts) in
                cc
            | inr ne ↦ beside keys e.1 m key ne ∙ was
          ]
    ]) refl

    turned_tied : IsTied (lru_cache turned slots.cap) replaced
    turned_tied = record {
      cap = t.cap;
      room = omega (arith, t.room, ap length parts, length-append xs (e ∷ []), length-set keys e.1 key);
      few = omega (arith, t.few, length-set keys e.1 key);
      distinct = IsDistinct-cons is_equal (by_hash key) (keys_of xs) (none_apart (by_hash key) xs not_in) (distinct_before e xs distinct_parts);
      found = turned_found;
      back = turned_back;
      coloured = All-set IsColoured keys e.1 key coloured t.coloured;
    }

    in_order : keys_in slots.entries ≡ keys_in xs ++ e.0.key ∷ []
    in_order = ap keys_in parts ∙ map-append (λ (p : HashKey × ℕ). p.0.key) xs (e ∷ [])

    front_length : length (keys_in xs) ≡ 1023
    front_length = omega (arith, length_in xs, t.room, ap length parts, length-append xs (e ∷ []), full)

    pub taken : IsTaken (record { keys = keys; order = keys_in slots.entries }) key e.1 (record { keys = replaced; order = keys_in turned })
    taken = record {
      last = subst (λ n. slice_get (keys_in slots.entries) n ≡ slice_get keys e.1) front_length (rw in_order (at_end (keys_in xs) e.0.key ∙ sym of_last));
      keys = refl;
      order = ap (λ l. key ∷ l) (sym (subst (λ n. take n (keys_in slots.entries) ≡ keys_in xs) front_length (rw in_order (take-append_seam (keys_in xs) (e.0.key ∷ [])))));
    }

    put_turned : put_entries is_equal slots (by_hash key) e.1 ≡ turned
    put_turned = rw (entry_none (by_hash key) slots.entries (not_there key missing)) (ap (λ l. (by_hash key, e.1) ∷ l) (subst (λ n. take n slots.entries ≡ xs) front_cap (rw parts (take-append_seam xs (e ∷ [])))))
      where
        front_cap : length xs ≡ slots.cap - 1
        front_cap = omega (arith, front_length, length_in xs, t.cap)

    pub reused : (new : LruCache HashKey ℕ) → new ≡ lru_cache (put_entries is_equal slots (by_hash key) e.1) slots.cap → IsTied new replaced × IsTaken (record { keys = keys; order = keys_in slots.entries }) key e.1 (record { keys = replaced; order = keys_in new.entries })
    reused new put =
        let is : lru_cache turned slots.cap ≡ new = sym (put ∙ ap (λ es. lru_cache es slots.cap) put_turned) in
        (subst (λ s. IsTied s replaced) is turned_tied, subst (λ (s : LruCache HashKey ℕ). IsTaken (record { keys = keys; order = keys_in slots.entries }) key e.1 (record { keys = replaced; order = keys_in s.entries })) is taken)

-- entries with a last one are those before it, and it
split_at : (es : Entries) (e : HashKey × ℕ) (n : ℕ) → length es ≡ suc n → slice_get es n ≡ Some e → es ≡ take n es ++ e ∷ []
split_at [] e n l h = cc
split_at (x ∷ []) e zero l h = let same : x ≡ e = cc in ap (λ y. y ∷ []) same
split_at (x ∷ y ∷ es) e zero l h = absurd (omega (arith, l))
split_at (x ∷ es) e (suc n) l h = ap (λ r. x ∷ r) (split_at es e n (omega (arith, l)) h)

pub split_last : (es : Entries) (e : HashKey × ℕ) → length es ≡ 1024 → slice_get es (length es - 1) ≡ Some e → es ≡ take 1023 es ++ e ∷ []
split_last es e l h = split_at es e 1023 l (subst (λ n. slice_get es (n - 1) ≡ Some e) l h)

-- the key used longest ago gives up its buffer
pub replaced_last : (slots : LruCache HashKey ℕ) (keys : Buffers) (t : IsTied slots keys) (key : Key) → IsColoured key → is_held keys key ≡ false → length keys ≡ 1024 → (e : HashKey × ℕ) → Some e ≡ slice_get slots.entries (length slots.entries - 1) → (e.1 < 1024) × ((new : LruCache HashKey ℕ) → new ≡ lru_cache (put_entries is_equal slots (by_hash key) e.1) slots.cap → IsTied new (slice_set keys e.1 key) × IsTaken (record { keys = keys; order = keys_in slots.entries }) key e.1 (record { keys = slice_set keys e.1 key; order = keys_in new.entries }))
replaced_last slots keys t key coloured missing full e last =
    let parts = split_last slots.entries e (t.room ∙ full) (sym last) in
    (within slots keys t key coloured missing full e (take 1023 slots.entries) parts, reused slots keys t key coloured missing full e (take 1023 slots.entries) parts)

-- ---- a copy

-- the last of the entries that are left goes first among those that are copied
pub copied : (es rest left : Entries) (e : HashKey × ℕ) (new next : LruCache HashKey ℕ) → IsDistinct is_equal (keys_of es) → length es ≤ 1024 → es ≡ rest ++ new.entries → new.cap ≡ 1024 → rest ≡ left ++ e ∷ [] → next ≡ lru_cache (put_entries is_equal new e.0 e.1) new.cap → (es ≡ left ++ next.entries) × (next.cap ≡ 1024)
copied es rest left e new next distinct few is cap ends put =
    let parts : es ≡ left ++ (e ∷ new.entries) = is ∙ ap (λ l. l ++ new.entries) ends ∙ append_assoc left (e ∷ []) new.entries in
    let behind : IsDistinct is_equal (keys_of (e ∷ new.entries)) = distinct_after left (e ∷ new.entries) (subst (λ l. IsDistinct is_equal (keys_of l)) parts distinct) in
    let missing = entry_none e.0 new.entries (apart_none e.0 new.entries (IsDistinct-head is_equal e.0 (keys_of new.entries) behind)) in
    let fits : length new.entries ≤ new.cap - 1 = omega (arith, few, cap, ap length parts, length-append left (e ∷ new.entries)) in
    let first : put_entries is_equal new e.0 e.1 ≡ e ∷ new.entries = rw (missing, take_all (new.cap - 1) new.entries fits) in
    (rw put (rw first parts), rw put cap)

-- ---- nothing yet

no_keys : IsDistinct is_equal []
unfolding IsDistinct
no_keys = tt

nothing : IsTied (lru_cache [] 1024) []
nothing = record {
  cap = refl;
  room = refl;
  few = omega arith;
  distinct = no_keys;
  found = λ n k h. cc;
  back = λ k n h. cc;
  coloured = λ n d within. absurd (not-suc-le-zero within);
}

pub nothing_tied : (slots : LruCache HashKey ℕ) (keys : Buffers) → slots ≡ lru_cache [] 1024 → keys ≡ [] → IsTied slots keys
nothing_tied slots keys s k = rw (s, k) nothing

-- ---- the same for the code, whose state is the view of what it holds

abbrev view_of : LruCache HashKey ℕ → Buffers → CacheState
view_of slots keys = record { keys = keys; order = keys_in slots.entries }

module _ (slots : LruCache HashKey ℕ) (keys : Buffers) (t : IsTied slots keys) (state : CacheState) (view : view_of slots keys ≡ state) (key : Key) (coloured : IsColoured key) (missing : is_held state.keys key ≡ false) where
  missing_here : is_held keys key ≡ false
  missing_here = subst (λ (s : CacheState). is_held s.keys key ≡ false) (sym view) missing

  pub made_as : length state.keys < 1024 → (number : ℕ) → number ≡ length keys → (grown : Buffers) → grown ≡ keys ++ key ∷ [] → (new : LruCache HashKey ℕ) → new ≡ lru_cache (put_entries is_equal slots (by_hash key) number) slots.cap → IsTied new grown × (keys_in new.entries ≡ key ∷ state.order)
  made_as room number is grown parts new put =
      let few : length keys < 1024 = subst (λ (s : CacheState). length s.keys < 1024) (sym view) room in
      let done = made slots keys t key coloured missing_here few new (subst (λ n. new ≡ lru_cache (put_entries is_equal slots (by_hash key) n) slots.cap) is put) in
      (subst (λ l. IsTied new l) (sym parts) done.0, subst (λ (s : CacheState). keys_in new.entries ≡ key ∷ s.order) view done.1)

  module _ (full : length state.keys ≡ 1024) (e : HashKey × ℕ) (last : Some e ≡ slice_get slots.entries (length slots.entries - 1)) where
    full_here : length keys ≡ 1024
    full_here = subst (λ (s : CacheState). length s.keys ≡ 1024) (sym view) full

    pub within_as : e.1 < length keys
    within_as = subst (λ n. e.1 < n) (sym full_here) (replaced_last slots keys t key coloured missing_here full_here e last).0

    pub reused_as : (new : LruCache HashKey ℕ) → new ≡ lru_cache (put_entries is_equal slots (by_hash key) e.1) slots.cap → IsTied new (slice_set keys e.1 key) × (e.1 < 1024) × IsTaken state key e.1 (view_of new (slice_set keys e.1 key))
    reused_as new put =
        let done = (replaced_last slots keys t key coloured missing_here full_here e last).1 new put in
        (done.0, (replaced_last slots keys t key coloured missing_here full_here e last).0, subst (λ s. IsTaken s key e.1 (view_of new (slice_set keys e.1 key))) view done.1)
