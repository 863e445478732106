-- Which stamps an entry gives, and which wait for a viewer that was given none.
use Rattle.std.proofs.Common.{◌≡◌, ℤ, ℕ, List, [], ◌∷◌, ◌++◌, map, Bool, true, false, ◌||◌, refl, ap, sym, ◌∙◌, subst, append-nil}
use Rattle.std.specs.Prelude.{nat_le, nat_lt, filter, ◌==◌, if◌then◌else◌}
use Rattle.gate_model.specs.declared.act.Act.{Act}
use Rattle.gate_model.specs.declared.act.Act.TheVariants.{Key as key_act, Mouse as mouse_act, Sync as sync_act, Size as size_act, Nop as nop_act, Disconnect as disconnect_act}
use Rattle.gate_model.specs.declared.how.How.{How}
use Rattle.gate_model.specs.declared.how.How.TheVariants.{Suffix, Fresh}
use Rattle.gate_model.specs.declared.instr.Instr.{Instr}
use Rattle.gate_model.specs.declared.instr.Instr.TheVariants.{Size, Rect, Cfill, Copy, Sync, Disconnect, Error}
use Rattle.gate_model.specs.declared.entry.Entry.{Entry}
use Rattle.gate_model.specs.declared.entry.Entry.TheVariants.{Start, Feed, Size as Refit, Join, Read, Write, Take, Leave, Close}
use Rattle.gate_model.specs.picture.Shape.{Draws, Shape, without_layer}
use Rattle.gate_model.specs.session.Calls.{Updates}
use Rattle.gate_model.specs.session.Delivered.{handed, last_sync_from, position, shown_by, shown_to}
use Rattle.gate_model.specs.session.Entries.{framed}
use Rattle.gate_model.specs.session.History.{History, size_now, frames, frames_after, instructions, is_closed, newest, next_stamp}
use Rattle.gate_model.specs.session.Rights.{role_in}
use Rattle.gate_model.specs.session.Steps.{Legal}
use Rattle.gate_model.specs.session.Waiting.{awaited, is_keep, left_by_all, stamps_in}
use Rattle.gate_model.proofs.Added.{IsNext, next}
use Rattle.gate_model.proofs.Stamps.{IsStamp, Stamps, rest_syncs}
use Rattle.gate_model.proofs.Syncs.{last_sync-append, last_sync-body}
use Rattle.display_history.specs.Keeping.{last_stamp}
use Rattle.display_history.specs.Laws.{texts_of}

-- ---- the stamps of lists

stamps_in-append : (xs ys : List Instr) → stamps_in (xs ++ ys) ≡ stamps_in xs ++ stamps_in ys
stamps_in-append [] ys = refl
stamps_in-append (Sync t ∷ xs) ys = ap (λ (ts : List ℕ). t ∷ ts) (stamps_in-append xs ys)
stamps_in-append (Size k w h ∷ xs) ys = stamps_in-append xs ys
stamps_in-append (Rect k x y w h ∷ xs) ys = stamps_in-append xs ys
stamps_in-append (Cfill k r g b ∷ xs) ys = stamps_in-append xs ys
stamps_in-append (Copy k x y w h to to_x to_y ∷ xs) ys = stamps_in-append xs ys
stamps_in-append (Disconnect ∷ xs) ys = stamps_in-append xs ys
stamps_in-append (Error status ∷ xs) ys = stamps_in-append xs ys

stamps_in-body : (cols lines : ℕ) (unfilled : List ℤ) (body : List Instr) (t : ℕ) → Draws cols lines unfilled body → stamps_in (body ++ Sync t ∷ []) ≡ t ∷ []
stamps_in-body cols lines unfilled [] t d = refl
stamps_in-body cols lines unfilled (Size k w h ∷ is) t d = stamps_in-body cols lines unfilled is t d.1
stamps_in-body cols lines unfilled (Rect k x y w h ∷ is) t d = stamps_in-body cols lines (k ∷ unfilled) is t d
stamps_in-body cols lines unfilled (Cfill k r g b ∷ is) t d = stamps_in-body cols lines (without_layer k unfilled) is t d.1
stamps_in-body cols lines unfilled (Copy k x y w h to to_x to_y ∷ is) t d = stamps_in-body cols lines unfilled is t d
stamps_in-body cols lines unfilled (Sync u ∷ is) t d = absurd d
stamps_in-body cols lines unfilled (Disconnect ∷ is) t d = absurd d
stamps_in-body cols lines unfilled (Error status ∷ is) t d = absurd d

-- a frame has its own stamp alone
pub shape_stamps : (cols lines : ℕ) (is : List Instr) (t : ℕ) → Shape cols lines is t → stamps_in is ≡ t ∷ []
shape_stamps cols lines is t s = ap stamps_in s.ends ∙ stamps_in-body cols lines [] s.body t s.body_draws

-- ---- the stamps of frames

-- the only sync of each has its stamp
abbrev IsStamped : ℕ × List Instr → Type 0
IsStamped f = (stamps_in f.1 ≡ f.0 ∷ []) × ((s : ℕ) → last_sync_from s f.1 ≡ f.0)

abbrev AreStamped : List (ℕ × List Instr) → Type 0
AreStamped [] = Unit {0}
AreStamped (f ∷ fs) = IsStamped f × AreStamped fs

stamped : (cols lines : ℕ) (is : List Instr) (t : ℕ) → Shape cols lines is t → IsStamped (t, is)
stamped cols lines is t shape = (shape_stamps cols lines is t shape, λ s. ap (last_sync_from s) shape.ends ∙ last_sync-body cols lines [] shape.body t s shape.body_draws)

stamped_both : (fs gs : List (ℕ × List Instr)) → AreStamped fs → AreStamped gs → AreStamped (fs ++ gs)
stamped_both [] gs a b = b
stamped_both (f ∷ fs) gs a b = (a.0, stamped_both fs gs a.1 b)

stamped_after : (t : ℕ) (fs : List (ℕ × List Instr)) → AreStamped fs → AreStamped (frames_after t fs)
stamped_after t [] a = tt
stamped_after t (f ∷ fs) a = cases (nat_lt t f.0) refl (stamped_after t fs a.1)
  where
    cases : (b : Bool) → nat_lt t f.0 ≡ b → AreStamped (frames_after t fs) → AreStamped (frames_after t (f ∷ fs))
    cases true e more = rw e (a.0, more)
    cases false e more = rw e more

stamped_next : (g : History) (e : Entry) → IsNext g e → AreStamped (framed e)
stamped_next g (Feed bytes stamp frame) n = (stamped (size_now g).columns (size_now g).rows frame stamp n.shape, tt)
stamped_next g (Refit v c r stamp frame) n = (stamped c r frame stamp n.shape, tt)
stamped_next g (Join viewer role first) n = tt
stamped_next g (Read viewer how) n = tt
stamped_next g (Write viewer acts) n = tt
stamped_next g (Take count) n = tt
stamped_next g (Leave viewer) n = tt
stamped_next g (Close cause) n = tt
stamped_next g (Start cols lines mode term faces entries stamp frame) n = absurd n

stamped_frames : (h : History) → Legal h → AreStamped (frames h)
stamped_frames [] l = absurd l
stamped_frames (e ∷ []) l = subst (λ (x : Entry). AreStamped (frames (x ∷ []))) (sym l.2.4) (stamped l.0.cols l.0.rows l.2.1 (next_stamp 0 l.1) l.2.2, tt)
stamped_frames (e ∷ f ∷ g) l = stamped_both (frames (f ∷ g)) (framed e) (stamped_frames (f ∷ g) l.0) (stamped_next (f ∷ g) e (next e f g l))

stamps_in-frames : (fs : List (ℕ × List Instr)) → AreStamped fs → stamps_in (instructions fs) ≡ map (λ (f : ℕ × List Instr). f.0) fs
stamps_in-frames [] a = refl
stamps_in-frames (f ∷ fs) a = stamps_in-append f.1 (instructions fs) ∙ (ap (λ (ts : List ℕ). ts ++ stamps_in (instructions fs)) a.0.0 ∙ ap (λ (ts : List ℕ). f.0 ∷ ts) (stamps_in-frames fs a.1))

last_sync-frames : (s : ℕ) (fs : List (ℕ × List Instr)) → AreStamped fs → last_sync_from s (instructions fs) ≡ last_stamp s (texts_of fs)
last_sync-frames s [] a = refl
last_sync-frames s (f ∷ fs) a = last_sync-append s f.1 (instructions fs) ∙ (ap (λ (t : ℕ). last_sync_from t (instructions fs)) (a.0.1 s) ∙ last_sync-frames f.0 fs a.1)

-- the frames above a stamp of the history end with the newest
pub last_above : (h : History) (t : ℕ) → Legal h → Stamps h → IsStamp h t → last_stamp t (texts_of (frames_after t (frames h))) ≡ newest h
last_above h t l s is = sym (last_sync-frames t (frames_after t (frames h)) (stamped_after t (frames h) (stamped_frames h l))) ∙ rest_syncs h s t is

-- the stamps that bring a viewer up to date that was given everything up to the stamp t
abbrev pub stamps_by : History → ℕ → How → List ℕ
stamps_by h t Suffix = map (λ (f : ℕ × List Instr). f.0) (frames_after t (frames h))
stamps_by h t (Fresh is) = newest h ∷ []

pub stamps_handed : (h : History) (t : ℕ) (how : How) → Legal h → Updates h t how → stamps_in (handed h t how) ≡ stamps_by h t how
stamps_handed h t Suffix l u = stamps_in-frames (frames_after t (frames h)) (stamped_after t (frames h) (stamped_frames h l))
stamps_handed h t (Fresh is) l u = shape_stamps (size_now h).columns (size_now h).rows is (newest h) u.1

-- ---- an entry that gives the viewer nothing

pub quiet : (b : Bool) (stamps : List ℕ) (is : List Instr) → is ≡ [] → (if b then stamps else stamps ++ stamps_in is) ≡ stamps
quiet true stamps is none = refl
quiet false stamps is none = ap (λ (js : List Instr). stamps ++ stamps_in js) none ∙ append-nil stamps

-- ---- a viewer that was given nothing

none_both : (xs ys : List Instr) → xs ++ ys ≡ [] → (xs ≡ []) × (ys ≡ [])
none_both [] ys e = (refl, e)
none_both (x ∷ xs) ys e = absurd (let w : x ∷ (xs ++ ys) ≡ [] = e in cc)

nothing_left : (t : ℕ) (acts : List Act) → left_by_all t [] acts ≡ []
nothing_left t [] = refl
nothing_left t (key_act k p ∷ acts) = nothing_left t acts
nothing_left t (mouse_act x y b ∷ acts) = nothing_left t acts
nothing_left t (sync_act s ∷ acts) = ap (λ (ts : List ℕ). left_by_all t ts acts) (either (nat_le s t)) ∙ nothing_left t acts
  where
    either : (b : Bool) → (if b then filter (λ (u : ℕ). nat_lt s u) [] else []) ≡ []
    either true = refl
    either false = refl
nothing_left t (size_act w h ∷ acts) = nothing_left t acts
nothing_left t (nop_act ∷ acts) = nothing_left t acts
nothing_left t (disconnect_act ∷ acts) = nothing_left t acts

-- the entry gives nothing either
more_nothing : (b : Bool) (stamps : List ℕ) (is : List Instr) → stamps ≡ [] → is ≡ [] → (if b then stamps else stamps ++ stamps_in is) ≡ []
more_nothing b stamps is none gives = quiet b stamps is gives ∙ none

next_nothing : (g : History) (v : ℕ) (e : Entry) → awaited g v ≡ [] → shown_by g (position g v) v e ≡ [] → awaited (e ∷ g) v ≡ []
next_nothing g v (Write viewer acts) none gives = by_viewer (viewer == v)
  where
    by_viewer : (b : Bool) → (if b then left_by_all (position g v) (awaited g v) acts else awaited g v) ≡ []
    by_viewer true = ap (λ (ts : List ℕ). left_by_all (position g v) ts acts) none ∙ nothing_left (position g v) acts
    by_viewer false = none
next_nothing g v (Start cols lines mode term faces entries stamp frame) none gives = more_nothing (is_closed g || is_keep (role_in g v)) (awaited g v) [] none refl
next_nothing g v (Feed bytes stamp frame) none gives = more_nothing (is_closed g || is_keep (role_in g v)) (awaited g v) [] none refl
next_nothing g v (Refit u c r stamp frame) none gives = more_nothing (is_closed g || is_keep (role_in g v)) (awaited g v) [] none refl
next_nothing g v (Join viewer role first) none gives = more_nothing (is_closed g || is_keep (role_in (Join viewer role first ∷ g) v)) (awaited g v) (shown_by g (position g v) v (Join viewer role first)) none gives
next_nothing g v (Read viewer how) none gives = more_nothing (is_closed g || is_keep (role_in g v)) (awaited g v) (shown_by g (position g v) v (Read viewer how)) none gives
next_nothing g v (Take count) none gives = more_nothing (is_closed g || is_keep (role_in g v)) (awaited g v) [] none refl
next_nothing g v (Leave viewer) none gives = more_nothing (is_closed g || is_keep (role_in g v)) (awaited g v) [] none refl
next_nothing g v (Close cause) none gives = more_nothing (is_closed g || is_keep (role_in g v)) (awaited g v) [] none refl

pub awaits_nothing : (h : History) (v : ℕ) → shown_to h v ≡ [] → awaited h v ≡ []
awaits_nothing [] v none = refl
awaits_nothing (e ∷ g) v none =
    let p = none_both (shown_to g v) (shown_by g (position g v) v e) none in
    next_nothing g v e (awaits_nothing g v p.0) p.1
