-- What a viewer becomes that is given frames, or acknowledges some: part by part.
use Rattle.std.proofs.Common.{◌≡◌, ℕ, ◌+◌, ◌<◌, ◌≤◌, List, [], ◌∷◌, ◌++◌, length, map, take, get_or, zero, suc, Bool, true, false, Some, refl, ap, ap₂, sym, ◌∙◌, append_assoc, append-nil, length-append, length-take, lt-ltb, ltb-true, arith}
use Rattle.std.specs.Prelude.{Option, None, is_some, option_map, nat_lt, if◌then◌else◌}
use mathlib.Core.Path.{fun_ext}
use Rattle.std.proofs.lemmas.List.{length-map, take_more}
use Rattle.gate_model.specs.declared.act.Act.{Act}
use Rattle.gate_model.specs.declared.act.Act.TheVariants.{Key, Mouse, Sync, Size, Nop, Disconnect}
use Rattle.gate_model.specs.declared.mods.Mods.{Mods}
use Rattle.gate_model.specs.session.Waiting.{is_keep, left_by, left_by_all}
use Rattle.display_history.specs.Keeping.{AreRising, after_stamp, last_stamp}
use Rattle.viewer_book.specs.declared.viewer.Viewer.{Viewer}
use Rattle.viewer_book.specs.Book.{BookState, changed, has_number, is_live, moved_to, viewer_at}
use Rattle.viewer_book.specs.Room.{room}
use Rattle.viewer_book.proofs.Books.{changes-join}
use Rattle.viewer_book.proofs.Lists.{find-map_same}
use Rattle.desk_core.specs.Viewers.{given_all, heeding, noted}

-- ---- one that is given frames

-- it keeps its number, its role, its modifiers and its end, and stands at the last of the stamps
pub record Given (fs : List (ℕ × List ℕ)) (w now : Viewer) : Type 0 where
  pub number : now.number ≡ w.number
  pub role : now.role ≡ w.role
  pub position : now.position ≡ last_stamp w.position fs
  pub ended : now.ended ≡ w.ended
  pub mods : now.mods ≡ w.mods
  pub waiting : now.waiting ≡ (if is_keep (Some w.role) then w.waiting else w.waiting ++ map (λ (f : ℕ × List ℕ). f.0) fs)

waits_more : (b : Bool) (stamps rest : List ℕ) (t : ℕ) → (if b then (if b then stamps else stamps ++ t ∷ []) else (if b then stamps else stamps ++ t ∷ []) ++ rest) ≡ (if b then stamps else stamps ++ t ∷ rest)
waits_more true stamps rest t = refl
waits_more false stamps rest t = append_assoc stamps (t ∷ []) rest

waits_none : (b : Bool) (stamps : List ℕ) → stamps ≡ (if b then stamps else stamps ++ [])
waits_none true stamps = refl
waits_none false stamps = sym (append-nil stamps)

pub given : (fs : List (ℕ × List ℕ)) (w : Viewer) → Given fs w (given_all fs w)
given [] w = record { number = refl; role = refl; position = refl; ended = refl; mods = refl; waiting = waits_none (is_keep (Some w.role)) w.waiting }
given (f ∷ fs) w =
    let rest = given fs (moved_to f.0 w) in
    record {
      number = rest.number;
      role = rest.role;
      position = rest.position;
      ended = rest.ended;
      mods = rest.mods;
      waiting = rest.waiting ∙ waits_more (is_keep (Some w.role)) w.waiting (map (λ (g : ℕ × List ℕ). g.0) fs) f.0;
    }

-- at most one stamp more waits for each frame
waits_few : (b : Bool) (stamps : List ℕ) (fs : List (ℕ × List ℕ)) → length (if b then stamps else stamps ++ map (λ (f : ℕ × List ℕ). f.0) fs) ≤ length stamps + length fs
waits_few true stamps fs = omega arith
waits_few false stamps fs = omega (arith, length-append stamps (map (λ (f : ℕ × List ℕ). f.0) fs), length-map fs (λ (f : ℕ × List ℕ). f.0))

pub given-few : (fs : List (ℕ × List ℕ)) (w : Viewer) → length (given_all fs w).waiting ≤ length w.waiting + length fs
given-few fs w = omega (arith, ap length (given fs w).waiting, waits_few (is_keep (Some w.role)) w.waiting fs)

given_all-more : (fs : List (ℕ × List ℕ)) (f : ℕ × List ℕ) (w : Viewer) → given_all (fs ++ f ∷ []) w ≡ moved_to f.0 (given_all fs w)
given_all-more [] f w = refl
given_all-more (g ∷ fs) f w = given_all-more fs f (moved_to g.0 w)

-- one frame more, in a loop over all
pub gives_more : (b now new : BookState) (v : ℕ) (fs : List (ℕ × List ℕ)) (i : ℕ) (other : ℕ × List ℕ) → i < length fs → now ≡ changed b v (given_all (take i fs)) → new ≡ changed now v (moved_to (get_or fs i other).0)
    → new ≡ changed b v (given_all (take (i + 1) fs))
gives_more b now new v fs i other lt so_far more =
    let f : ℕ × List ℕ = get_or fs i other in
    let xs : List (ℕ × List ℕ) = take i fs in
    more ∙ (ap (λ (k : BookState). changed k v (moved_to f.0)) so_far ∙ (changes-join b v (given_all xs) (moved_to f.0) (λ w. (given xs w).number)
    ∙ ap (changed b v) (fun_ext (λ (w : Viewer). sym (given_all-more xs f w)) ∙ ap given_all (sym (take_more fs i other lt)))))

-- the frames above a stamp rise from it
rising_from : (s t : ℕ) (fs : List (ℕ × List ℕ)) → t ≤ s → AreRising s fs → AreRising t fs
rising_from s t [] le r = tt
rising_from s t (f ∷ fs) le r = (omega (arith, le, r.0), r.1)

pub rising_after : (s t : ℕ) (fs : List (ℕ × List ℕ)) → AreRising s fs → AreRising t (after_stamp t fs)
rising_after s t [] r = tt
rising_after s t (f ∷ fs) r = cases (nat_lt t f.0) refl (rising_after f.0 t fs r.1)
  where
    above : (u : ℕ) (gs : List (ℕ × List ℕ)) → AreRising u gs → t ≤ u → AreRising u (after_stamp t gs)
    above u [] q le = tt
    above u (g ∷ gs) q le = let lt : nat_lt t g.0 ≡ true = lt-ltb t g.0 (omega (arith, q.0, le)) in rw lt (q.0, above g.0 gs q.1 (omega (arith, q.0, le)))

    cases : (b : Bool) → nat_lt t f.0 ≡ b → AreRising t (after_stamp t fs) → AreRising t (after_stamp t (f ∷ fs))
    cases true e more = let lt : t < f.0 = ltb-true t f.0 e in rw e (lt, above f.0 fs r.1 (omega (arith, lt)))
    cases false e more = rw e more

-- the stamp of each frame is above those before it
pub next_rises : (t : ℕ) (fs : List (ℕ × List ℕ)) (i : ℕ) (other : ℕ × List ℕ) → AreRising t fs → i < length fs → last_stamp t (take i fs) < (get_or fs i other).0
next_rises t [] i other r lt = absurd (omega (arith, lt))
next_rises t (f ∷ fs) zero other r lt = r.0
next_rises t (f ∷ fs) (suc i) other r lt = next_rises f.0 fs i other r.1 (omega (arith, lt))

-- ---- the viewer in the book, in a loop over all

is_as_before : {A B : Type 0} (f : A → B) (o : Option A) → is_some (option_map f o) ≡ is_some o
is_as_before f None = refl
is_as_before f (Some a) = refl

was : {A B : Type 0} (f : A → B) (o : Option A) (b : B) → option_map f o ≡ Some b → (a : A) × (o ≡ Some a) × (f a ≡ b)
was f None b e = absurd (let w : None ≡ Some b = e in cc)
was f (Some a) b e = (a, refl, (let w : Some (f a) ≡ Some b = e in cc))

found_given : (b : BookState) (v : ℕ) (fs : List (ℕ × List ℕ)) → viewer_at (changed b v (given_all fs)) v ≡ option_map (given_all fs) (viewer_at b v)
found_given b v fs = find-map_same v (given_all fs) b.viewers (λ w. (given fs w).number)

module _ (b now : BookState) (v : ℕ) (fs : List (ℕ × List ℕ)) (i : ℕ) (other : ℕ × List ℕ) (lt : i < length fs) (so_far : now ≡ changed b v (given_all (take i fs))) where
  before : (w : Viewer) → viewer_at now v ≡ Some w → (u : Viewer) × (viewer_at b v ≡ Some u) × (given_all (take i fs) u ≡ w)
  before w found = was (given_all (take i fs)) (viewer_at b v) w (sym (found_given b v (take i fs)) ∙ (sym (ap (λ (k : BookState). viewer_at k v) so_far) ∙ found))

  pub next_live : is_live b v ≡ true → is_live now v ≡ true
  next_live there = ap (λ (k : BookState). is_live k v) so_far ∙ (ap is_some (found_given b v (take i fs)) ∙ (is_as_before (given_all (take i fs)) (viewer_at b v) ∙ there))

  pub next_above : ((w : Viewer) → viewer_at b v ≡ Some w → AreRising w.position fs) → (w : Viewer) → viewer_at now v ≡ Some w → w.position < (get_or fs i other).0
  next_above rises w found =
      let u = before w found in
      omega (arith, ap (λ (x : Viewer). x.position) u.2, (given (take i fs) u.0).position, next_rises u.0.position fs i other (rises u.0 u.1) lt)

  pub next_room : ((w : Viewer) → viewer_at b v ≡ Some w → length w.waiting + length fs ≤ room) → (w : Viewer) → viewer_at now v ≡ Some w → length w.waiting < room
  next_room few w found =
      let u = before w found in
      omega (arith, ap (λ (x : Viewer). length x.waiting) u.2, given-few (take i fs) u.0, length-take i fs, few u.0 u.1, lt)

-- ---- one that acknowledges

left_by_all-append : (t : ℕ) (stamps : List ℕ) (xs ys : List Act) → left_by_all t stamps (xs ++ ys) ≡ left_by_all t (left_by_all t stamps xs) ys
left_by_all-append t stamps [] ys = refl
left_by_all-append t stamps (x ∷ xs) ys = left_by_all-append t (left_by t stamps x) xs ys

-- one act more, in a loop over all
pub notes_more : (b now new : BookState) (v : ℕ) (held : Mods) (acts : List Act) (i : ℕ) (other : Act) → i < length acts → now ≡ changed b v (noted held (take i acts)) → new ≡ changed now v (heeding (get_or acts i other))
    → new ≡ changed b v (noted held (take (i + 1) acts))
notes_more b now new v held acts i other lt so_far more =
    let a : Act = get_or acts i other in
    let xs : List Act = take i acts in
    let same : (w : Viewer) → heeding a (noted held xs w) ≡ noted held (take (i + 1) acts) w = λ w. ap (λ (ts : List ℕ). record w { mods = held; waiting = ts }) (sym (left_by_all-append w.position w.waiting xs (a ∷ [])) ∙ ap (left_by_all w.position w.waiting) (sym (take_more acts i other lt))) in
    more ∙ (ap (λ (k : BookState). changed k v (heeding a)) so_far ∙ (changes-join b v (noted held xs) (heeding a) (λ w. refl) ∙ ap (changed b v) (fun_ext same)))

-- the viewer is there after them
pub notes_live : (b now : BookState) (v : ℕ) (held : Mods) (acts : List Act) → now ≡ changed b v (noted held acts) → is_live b v ≡ true → is_live now v ≡ true
notes_live b now v held acts so_far there =
    ap (λ (k : BookState). is_live k v) so_far ∙ (ap is_some (find-map_same v (noted held acts) b.viewers (λ w. refl)) ∙ (is_as_before (noted held acts) (viewer_at b v) ∙ there))

-- an act that is no acknowledgement changes nothing
pub unchanged : (b : BookState) (v : ℕ) → b ≡ changed b v (λ w. w)
unchanged b v = ap (λ (l : List Viewer). record { joined = b.joined; viewers = l }) (sym (stays b.viewers))
  where
    itself : (c : Bool) (w : Viewer) → (if c then w else w) ≡ w
    itself true w = refl
    itself false w = refl

    stays : (l : List Viewer) → map (λ (w : Viewer). if has_number v w then w else w) l ≡ l
    stays [] = refl
    stays (w ∷ l) = ap₂ (λ (x : Viewer) (xs : List Viewer). x ∷ xs) (itself (has_number v w) w) (stays l)

pub unheeded : (b : BookState) (v : ℕ) (a : Act) → ((t : ℕ) → a ≡ Sync t → ⊥) → b ≡ changed b v (heeding a)
unheeded b v (Key k p) none = unchanged b v
unheeded b v (Mouse x y m) none = unchanged b v
unheeded b v (Sync t) none = absurd (none t refl)
unheeded b v (Size w h) none = unchanged b v
unheeded b v Nop none = unchanged b v
unheeded b v Disconnect none = unchanged b v
