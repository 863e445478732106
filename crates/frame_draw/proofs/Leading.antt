-- Strips that are filled one after another, and what is copied after them.
use Rattle.std.proofs.Common.{◌≡◌, ℕ, zero, suc, ◌+◌, ◌*◌, ◌/◌, ◌%◌, ◌<◌, ◌≤◌, ◌⊎◌, List, [], ◌∷◌, ◌++◌, length, Bool, true, false, if◌then◌else◌, refl, sym, ap, subst, ◌∙◌, append_assoc, append-nil, arith, inl, inr}
use Rattle.std.specs.Prelude.{Some, None, slice_index_or}
use Rattle.std.proofs.lemmas.Bool.{cases_lt}
use Rattle.std.proofs.lemmas.List.{length-append}
use Rattle.std.proofs.lemmas.Nat.{div_below}
use Rattle.std.proofs.Math.Nat.{mod-lt}
use Rattle.gate_model.specs.declared.instr.Instr.{Instr}
use Rattle.gate_model.specs.declared.key.Key.{Key}
use Rattle.gate_model.specs.picture.KeyGrid.{KeyGrid}
use Rattle.gate_model.specs.picture.Pictures.{key_at}
use Rattle.gate_model.specs.picture.Layers.{Layers, draw}
use Rattle.gate_model.specs.picture.Buffers.{Buffers}
use Rattle.gate_model.specs.session.Steps.{IsScreenSize}
use Rattle.gate_model.proofs.Drawing.{draw-append}
use Rattle.gate_model.proofs.Readable.{readable_both}
use Rattle.glyph_strokes.proofs.Allowed.{draws_both}
use Rattle.frame_draw.specs.declared.wanted.Wanted.{Wanted}
use Rattle.frame_draw.specs.Strokes.{filling}
use Rattle.frame_draw.specs.Cells.{Places, AreDrawn}
use Rattle.frame_draw.specs.Along.{Fits, IsLeft, count_below, is_next, is_on}
use Rattle.frame_draw.specs.Leads.{AreFlags, AreStruck, IsRun, IsStrip, Leads, is_blank, known}
use Rattle.frame_draw.proofs.Allowed.{filling_draws, filling_length, filling_readable}
use Rattle.frame_draw.proofs.Copied.{place_below}
use Rattle.frame_draw.proofs.Counts.{struck, struck_off}
use Rattle.frame_draw.proofs.Left.{left_copied, left_passed, next_is}
use Rattle.frame_draw.proofs.Strips.{strip_filled}

-- ---- one after another
pub leads_none : (now : KeyGrid) (list : List Instr) (flags : List Bool) → Leads now list flags list flags
leads_none now list flags = record {
  more = [];
  added = sym (append-nil list);
  layers = λ m keys a. a;
  draws = refl;
  readable = tt;
  alike = refl;
  off = λ p e. e;
  short = omega arith;
}

pub leads_both : (now : KeyGrid) (first second third : List Instr) (f g h : List Bool) → Leads now first f second g → Leads now second g third h → Leads now first f third h
leads_both now first second third f g h a b = record {
  more = a.more ++ b.more;
  added = b.added ∙ (ap (λ (xs : List Instr). xs ++ b.more) a.added ∙ append_assoc first a.more b.more);
  layers = λ m keys d. subst (λ (n : Layers). AreDrawn n now.cols now.rows (known now h) keys) (sym (draw-append m a.more b.more)) (b.layers (draw m a.more) keys (a.layers m keys d));
  draws = draws_both now.cols now.rows [] a.more b.more a.draws b.draws;
  readable = readable_both a.more b.more a.readable b.readable;
  alike = b.alike ∙ a.alike;
  off = λ p e. b.off p (a.off p e);
  short = omega (arith, a.short, b.short, length-append a.more b.more);
}

-- ---- one strip
unless : (b c : Bool) (k : Key) → b ≡ c → (if b then None else Some k) ≡ (if c then None else Some k)
unless b c k e = ap (λ (t : Bool). if t then None else Some k) e

some_is : (k key : Key) → Some k ≡ Some key → k ≡ key
some_is k key e = cc

module _ (now : KeyGrid) (list longer : List Instr) (flags later : List Bool) (place w h count : ℕ) (key : Key)
    (size : IsScreenSize now.cols now.rows) (full : length now.keys ≡ now.rows * now.cols) (all : length flags ≡ length now.keys) (in_place : place < length now.keys)
    (run_end : ℕ) (run : IsRun now.keys place run_end) (strip : IsStrip now.cols place w h) (within : place + w * h ≤ run_end)
    (is : key ≡ key_at now.keys place) (blank : is_blank key ≡ true)
    (counted : count_below (is_on flags) place + count ≡ count_below (is_on flags) (place + w * h)) (enough : 2 ≤ count)
    (added : longer ≡ list ++ filling now.cols place w h key.paper) (s : AreStruck flags later place (place + w * h)) where
  here : (p : ℕ) (k : Key) → place ≤ p → p < place + w * h → known now later p ≡ Some k → (is_blank k ≡ true) × (k.paper ≡ key.paper)
  here p k low high e =
      let shown : Some (key_at now.keys p) ≡ Some k = sym (unless (is_on later p) false (key_at now.keys p) (s.inside p low high)) ∙ e in
      let same : k ≡ key = sym (some_is (key_at now.keys p) k shown) ∙ (run.same p low (omega (arith, high, within)) ∙ sym is) in
      (ap is_blank same ∙ blank, ap (λ (q : Key). q.paper) same)

  there : (p : ℕ) (k : Key) → (p < place) ⊎ (place + w * h ≤ p) → known now later p ≡ Some k → known now flags p ≡ Some k
  there p k (inl low) e = sym (unless (is_on later p) (is_on flags p) (key_at now.keys p) (s.before p low)) ∙ e
  there p k (inr high) e = sym (unless (is_on later p) (is_on flags p) (key_at now.keys p) (s.after p high)) ∙ e

  wide : w ≤ 512
  wide = cases strip.form
    where
      cases : ((h ≡ 1) × (place % now.cols + w ≤ now.cols)) ⊎ ((place % now.cols ≡ 0) × (w ≡ now.cols)) → w ≤ 512
      cases (inl one) = omega (arith, one.1, size.few_columns)
      cases (inr whole) = omega (arith, whole.1, size.few_columns)

  high : h ≤ 131072
  high = tall (w * h) (omega (arith, within, run.within, limit)) (product w h strip.wide)
    where
      limit : length now.keys ≤ 131072
      limit = grind (arith, full, size.few_columns, size.few_rows)

      product : (a b : ℕ) → 1 ≤ a → b ≤ a * b
      product a b some = grind arith

      tall : (n : ℕ) → n ≤ 131072 → h ≤ n → h ≤ 131072
      tall n le less = omega (arith, le, less)

  pub leads_filled : Leads now list flags longer later
  leads_filled = record {
    more = filling now.cols place w h key.paper;
    added = added;
    layers = λ m keys d. strip_filled now.cols place w h size.some_columns strip m now.rows (known now flags) (known now later) keys key.paper here there d;
    draws = filling_draws now.cols now.rows place w h key.paper;
    readable = filling_readable now.cols place w h key.paper
        (let lt : place % now.cols < now.cols = mod-lt place size.some_columns in omega (arith, lt, size.few_columns))
        (let lt : place / now.cols < now.rows = div_below place now.cols now.rows size.some_columns (omega (arith, in_place, full)) in omega (arith, lt, size.few_rows))
        wide high;
    alike = s.alike;
    off = struck_off flags later place (place + w * h) s;
    short = omega (arith, filling_length now.cols place w h key.paper, counted, enough, struck flags later place (place + w * h) (omega arith) s (length now.keys) (omega (arith, within, run.within)));
  }

-- .. as the code reads the keys and the columns
pub strip_led : (now : KeyGrid) (list longer : List Instr) (flags later : List Bool) (place w h count cols : ℕ) (key : Key) (slice : List Key) (run_end : ℕ)
    → IsScreenSize now.cols now.rows → length now.keys ≡ now.rows * now.cols → length flags ≡ length now.keys → place < length now.keys → slice ≡ now.keys → cols ≡ now.cols
    → IsRun slice place run_end → IsStrip cols place w h → place + w * h ≤ run_end → key ≡ key_at now.keys place → is_blank key ≡ true
    → count_below (is_on flags) place + count ≡ count_below (is_on flags) (place + w * h) → 2 ≤ count
    → longer ≡ list ++ filling cols place w h key.paper → AreStruck flags later place (place + w * h) → Leads now list flags longer later
strip_led now list longer flags later place w h count cols key slice run_end size full all in_place read same run strip within is blank counted enough added s =
    leads_filled now list longer flags later place w h count key size full all in_place run_end (subst (λ (ks : List Key). IsRun ks place run_end) read run)
    (subst (λ (n : ℕ). IsStrip n place w h) same strip) within is blank counted enough (added ∙ ap (λ (n : ℕ). list ++ filling n place w h key.paper) same) s

-- ---- the flags of the places
pub flags_none : (copies : ℕ → Bool) → AreFlags [] 0 copies
flags_none copies = record { all = refl; told = λ p lt. absurd (omega (arith, lt)) }

get_before : (xs : List Bool) (x : Bool) (p : ℕ) → p < length xs → slice_index_or (xs ++ x ∷ []) p true ≡ slice_index_or xs p true
get_before [] x p lt = absurd (omega (arith, lt))
get_before (y ∷ xs) x zero lt = refl
get_before (y ∷ xs) x (suc p) lt = get_before xs x p (omega (arith, lt))

get_last : (xs : List Bool) (x : Bool) → slice_index_or (xs ++ x ∷ []) (length xs) true ≡ x
get_last [] x = refl
get_last (y ∷ xs) x = get_last xs x

pub flags_more : (flags longer : List Bool) (total : ℕ) (copies : ℕ → Bool) (on : Bool) → longer ≡ flags ++ on ∷ [] → on ≡ copies total → AreFlags flags total copies → AreFlags longer (total + 1) copies
flags_more flags longer total copies on e is f = record {
  all = ap length e ∙ (length-append flags (on ∷ []) ∙ ap (λ (n : ℕ). n + 1) f.all);
  told = λ p lt. elim (cases_lt p total) as (λ _. is_on longer p ≡ copies p) [
    | inl low ↦ ap (λ (xs : List Bool). slice_index_or xs p true) e ∙ (get_before flags on p (omega (arith, low, f.all)) ∙ f.told p low)
    | inr le ↦
        let same : p ≡ length flags = omega (arith, lt, le, f.all) in
        ap (λ (xs : List Bool). slice_index_or xs p true) e ∙ (ap (λ (n : ℕ). slice_index_or (flags ++ on ∷ []) n true) same ∙ (get_last flags on ∙ (is ∙ ap copies (sym f.all ∙ sym same))))
  ];
}

-- how far the loop over the places has come
pub record IsFlagging (cols total : ℕ) (wanted : Wanted) (place at : ℕ) (flags : List Bool) : Type 0 where
  pub early : at ≤ place
  pub all : length flags ≡ place
  pub told : (copies : ℕ → Bool) → IsLeft cols total copies wanted 0 0 → IsLeft cols total copies wanted at place × AreFlags flags place copies

pub flagging_none : (cols total : ℕ) (wanted : Wanted) (flags : List Bool) → flags ≡ [] → IsFlagging cols total wanted 0 0 flags
flagging_none cols total wanted flags e = record {
  early = omega arith;
  all = ap length e;
  told = λ copies left. (left, subst (λ (xs : List Bool). AreFlags xs 0 copies) (sym e) (flags_none copies));
}

pub flagging_more : (cols total : ℕ) (wanted : Wanted) (place at step : ℕ) (flags longer : List Bool) (on : Bool) → place < total → on ≡ is_next wanted at place cols → longer ≡ flags ++ on ∷ []
    → step ≡ (if on then 1 else 0) → IsFlagging cols total wanted place at flags → IsFlagging cols total wanted (place + 1) (at + step) longer
flagging_more cols total wanted place at step flags longer on lt is e counted f = record {
  early = omega (arith, f.early, counted, few on);
  all = ap length e ∙ (length-append flags (on ∷ []) ∙ ap (λ (n : ℕ). n + 1) f.all);
  told = λ copies left.
      let a = f.told copies left in
      let here : on ≡ copies place = is ∙ next_is cols total copies wanted at place lt a.0 in
      (next copies on counted (sym here) a.0, flags_more flags longer place copies on e here a.1);
}
  where
    few : (b : Bool) → (if b then 1 else 0) ≤ 1
    few true = omega arith
    few false = omega arith

    next : (copies : ℕ → Bool) (b : Bool) → step ≡ (if b then 1 else 0) → copies place ≡ b → IsLeft cols total copies wanted at place → IsLeft cols total copies wanted (at + step) (place + 1)
    next copies true s g left = subst (λ (n : ℕ). IsLeft cols total copies wanted (at + n) (place + 1)) (sym s) (left_copied cols total copies wanted at place lt g left)
    next copies false s g left = let same : at ≡ at + step = omega (arith, s) in subst (λ (n : ℕ). IsLeft cols total copies wanted n (place + 1)) same (left_passed cols total copies wanted at place lt g left)

-- as the code reads the keys and the columns
pub flags_read : (now : KeyGrid) (flags lent : List Bool) (slice : List Key) (cols : ℕ) (copies : ℕ → Bool) (wanted : Wanted) → lent ≡ flags → slice ≡ now.keys → cols ≡ now.cols
    → ((copies : ℕ → Bool) → IsLeft cols (length slice) copies wanted 0 0 → AreFlags flags (length slice) copies) → IsLeft now.cols (length now.keys) copies wanted 0 0 → AreFlags lent (length now.keys) copies
flags_read now flags lent slice cols copies wanted is read same told left =
    let n : length now.keys ≡ length slice = sym (ap length read) in
    let given : IsLeft cols (length slice) copies wanted 0 0 = subst (λ (i : ℕ). IsLeft i (length slice) copies wanted 0 0) (sym same) (subst (λ (i : ℕ). IsLeft now.cols i copies wanted 0 0) n left) in
    subst (λ (xs : List Bool). AreFlags xs (length now.keys) copies) (sym is) (subst (λ (i : ℕ). AreFlags flags i copies) (sym n) (told copies given))

-- ---- the copies after the fills
past_end : (xs : List Bool) (p : ℕ) → length xs ≤ p → is_on xs p ≡ true
past_end [] p le = refl
past_end (x ∷ xs) zero le = absurd (omega (arith, le))
past_end (x ∷ xs) (suc p) le = past_end xs p (omega (arith, le))

-- what is known of the places of the screen
pub knows_within : (m : Layers) (cols rows : ℕ) (at next : Places) (keys : Buffers) → ((p : ℕ) (k : Key) → p < rows * cols → next p ≡ Some k → at p ≡ Some k) → AreDrawn m cols rows at keys → AreDrawn m cols rows next keys
knows_within m cols rows at next keys less a = record {
  width = a.width;
  height = a.height;
  pixels = λ x y k low high e. a.pixels x y k low high (less ((y / 16) * cols + x / 8) k (place_below (y / 16) (x / 8) rows cols (omega (arith, high)) (omega (arith, low))) e);
  buffers = a.buffers;
  others = a.others;
  no_paths = a.no_paths;
}

pub known_rest : (now : KeyGrid) (flags : List Bool) (rest : Places) (copies : ℕ → Bool) → Fits now rest copies → AreFlags flags (length now.keys) copies → (p : ℕ) (k : Key) → known now flags p ≡ Some k → rest p ≡ Some k
known_rest now flags rest copies fits f p k e = cases (is_on flags p) refl (sym (unless (is_on flags p) (is_on flags p) (key_at now.keys p) refl) ∙ e)
  where
    cases : (b : Bool) → is_on flags p ≡ b → (if b then None else Some (key_at now.keys p)) ≡ Some k → rest p ≡ Some k
    cases true on g = absurd (cc)
    cases false off g = elim (cases_lt p (length now.keys)) as (λ _. rest p ≡ Some k) [
      | inl lt ↦ fits p (sym (f.told p lt) ∙ off) ∙ g
      | inr le ↦ absurd (let wrong : true ≡ false = sym (past_end flags p (omega (arith, le, f.all))) ∙ off in cc)
    ]
