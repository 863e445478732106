-- The canvas of each viewer goes on to show what the viewer was given.
use Rattle.std.proofs.Common.{◌≡◌, ◌≢◌, ℕ, zero, suc, ◌+◌, ◌-◌, ◌<◌, ◌≤◌, List, set, [], ◌∷◌, ◌++◌, ◌⊎◌, inl, inr, length, Bool, true, false, get_or, refl, ap, sym, ◌∙◌, subst, append-nil, arith, length-append}
use Rattle.std.specs.Prelude.{◌==◌, ◌&&◌, ◌||◌, not, nat_le, if◌then◌else◌, Option, Some, None, IfSome}
use Rattle.std.specs.Option.{is_some}
use Rattle.std.proofs.lemmas.List.{get_or_append_left, get_or_past, get_or-set_same, get_or-set_other, length-set}
use Rattle.std.proofs.Math.Seq.{get_or-append_seam}
use Rattle.std.proofs.lemmas.Bool.{eq-eqb, leb-true, leb-false}
use Rattle.std.proofs.lemmas.Bool.Decides.{eqb_tells}
use Rattle.gate_model.specs.declared.how.How.{How}
use Rattle.gate_model.specs.declared.instr.Instr.{Instr}
use Rattle.gate_model.specs.declared.sharing.Role.{Role}
use Rattle.gate_model.specs.declared.entry.Entry.{Entry}
use Rattle.gate_model.specs.declared.entry.Entry.TheVariants.{Join, Read, Leave}
use Rattle.gate_model.specs.session.Entries.{joins, leaves}
use Rattle.gate_model.specs.picture.Layers.{Layers, draw, nothing}
use Rattle.gate_model.specs.text.Text.{texts}
use Rattle.gate_model.specs.session.History.{History, joined}
use Rattle.gate_model.specs.session.Delivered.{delivered, given, handed, closing, position}
use Rattle.gate_model.specs.session.Rights.{is_live}
use Rattle.gate_model.proofs.Drawing.{draw-append}
use Rattle.gate_model.proofs.Truth.{facts_of}
use Rattle.gate_model.specs.picture.Shape.{AreReadable}
use Rattle.desk_core.specs.Desk.{DeskState, Stands}
use Rattle.desk_core.proofs.Readables.{given_readable}
use Rattle.canvas.specs.Kept.{KeptLayer}
use Rattle.canvas.specs.Standing.{Stands as stands_for}
use Rattle.gate_script.specs.Seeing.{Canvases, AreShown, KeepOthers, PlaysOn, TakesAway, canvas_at}

abbrev Canvas : Type 0
Canvas = List KeptLayer

-- what instructions leave on a canvas, if there is one
abbrev Shows : Option Canvas → List Instr → Type 0
Shows o is = IfSome o (λ canvas. stands_for canvas (draw nothing is))

-- nobody has a canvas
pub none_at : (v : ℕ) → canvas_at [] v ≡ None
none_at v = by (v == 0)
  where
    no_canvas : Option Canvas
    no_canvas = None

    by : (b : Bool) → (if b then None else get_or [] (v - 1) None) ≡ no_canvas
    by true = refl
    by false = refl

-- a viewer with a number from 1 on
pub at_place : (cs : Canvases) (v : ℕ) → v ≢ 0 → canvas_at cs v ≡ get_or cs (v - 1) None
at_place cs v some = by (eqb_tells v 0)
  where
    by : (((v == 0) ≡ true) × (v ≡ 0)) ⊎ (((v == 0) ≡ false) × (v ≡ 0 → ⊥)) → canvas_at cs v ≡ get_or cs (v - 1) None
    by (inl q) = absurd (some q.1)
    by (inr q) = rw q.0 refl

-- a place more
appended_here : (cs : Canvases) (o : Option Canvas) (v : ℕ) → v ≡ length cs + 1 → canvas_at (cs ++ o ∷ []) v ≡ o
appended_here cs o v is =
    let place : v - 1 ≡ length cs = omega (arith, is) in
    at_place (cs ++ o ∷ []) v (λ zero_. absurd (omega (arith, is, zero_))) ∙ (ap (λ (k : ℕ). get_or (cs ++ o ∷ []) k None) place ∙ get_or-append_seam cs o [] None)

appended_other : (cs : Canvases) (o : Option Canvas) (v : ℕ) → v ≢ length cs + 1 → canvas_at (cs ++ o ∷ []) v ≡ canvas_at cs v
appended_other cs o v other = by (eqb_tells v 0) (nat_le (length cs) (v - 1)) refl
  where
    within : (b : Bool) → nat_le (length cs) (v - 1) ≡ b → v ≢ 0 → get_or (cs ++ o ∷ []) (v - 1) None ≡ get_or cs (v - 1) None
    within true le some = get_or_past (cs ++ o ∷ []) (v - 1) None (omega (arith, leb-true (length cs) (v - 1) le, length-append cs (o ∷ []), other, some)) ∙ sym (get_or_past cs (v - 1) None (leb-true (length cs) (v - 1) le))
    within false lt some = get_or_append_left cs (o ∷ []) None (v - 1) (leb-false (length cs) (v - 1) lt)

    by : (((v == 0) ≡ true) × (v ≡ 0)) ⊎ (((v == 0) ≡ false) × (v ≡ 0 → ⊥)) → (b : Bool) → nat_le (length cs) (v - 1) ≡ b → canvas_at (cs ++ o ∷ []) v ≡ canvas_at cs v
    by (inl q) b e = rw q.0 refl
    by (inr q) b e = at_place (cs ++ o ∷ []) v q.1 ∙ (within b e q.1 ∙ sym (at_place cs v q.1))

-- who is there after an entry
live_same : (h : History) (e : Entry) (v : ℕ) → joins v e ≡ false → leaves v e ≡ false → is_live (e ∷ h) v ≡ is_live h v
live_same h e v j l = by (is_live h v) (joins v e) (leaves v e) j l
  where
    by : (x a b : Bool) → a ≡ false → b ≡ false → (a || (x && not b)) ≡ x
    by true a b e f = rw (e, f) refl
    by false a b e f = rw e refl

live_joined : (h : History) (e : Entry) (v : ℕ) → joins v e ≡ true → true ≡ is_live (e ∷ h) v
live_joined h e v j = rw j refl

live_left : (h : History) (e : Entry) (v : ℕ) → joins v e ≡ false → leaves v e ≡ true → false ≡ is_live (e ∷ h) v
live_left h e v j l = by (is_live h v) (joins v e) (leaves v e) j l
  where
    by : (x a b : Bool) → a ≡ false → b ≡ true → false ≡ (a || (x && not b))
    by true a b e f = rw (e, f) refl
    by false a b e f = rw e refl

-- what a viewer was given that an entry gives nothing
same_shown : (h : History) (e : Entry) (v : ℕ) (o : Option Canvas) → given h (delivered h v) v e ≡ [] → Shows o (delivered h v) → Shows o (delivered (e ∷ h) v)
same_shown h e v o none s = subst (Shows o) (sym (ap (λ (g : List Instr). delivered h v ++ g) none ∙ append-nil (delivered h v))) s

-- nobody has joined
pub shown_none : (cs : Canvases) (h : History) → cs ≡ [] → joined h ≡ 0 → ((v : ℕ) → is_live h v ≡ false) → AreShown cs h
shown_none cs h none zero_ nobody = record {
  count = ap length none ∙ sym zero_;
  there = λ v. ap (λ (l : Canvases). is_some (canvas_at l v)) none ∙ (ap (λ (o : Option Canvas). is_some o) (none_at v) ∙ sym (nobody v));
  shows = λ v. subst (λ (o : Option Canvas). Shows o (delivered h v)) (sym (ap (λ (l : Canvases). canvas_at l v) none ∙ none_at v)) tt;
}

-- an entry that gives nobody anything
pub shown_plain : (cs : Canvases) (h : History) (e : Entry) → AreShown cs h → joined (e ∷ h) ≡ joined h → ((v : ℕ) → joins v e ≡ false) → ((v : ℕ) → leaves v e ≡ false) → ((v : ℕ) → given h (delivered h v) v e ≡ []) → AreShown cs (e ∷ h)
shown_plain cs h e a same no_join no_leave nothing_given = record {
  count = a.count ∙ sym same;
  there = λ v. a.there v ∙ sym (live_same h e v (no_join v) (no_leave v));
  shows = λ v. same_shown h e v (canvas_at cs v) (nothing_given v) (a.shows v);
}

-- what a Join gives its viewer
pub given_by_join : (h : History) (e : Entry) (v : ℕ) (role : Role) (first : List Instr) → e ≡ Join v role first → given h (delivered h v) v e ≡ first
given_by_join h e v role first is = rw is (ap (λ (b : Bool). (if b then first else []) ++ []) (eq-eqb v v refl) ∙ append-nil first)

-- a viewer joined
pub shown_join : (cs : Canvases) (h : History) (e : Entry) (v : ℕ) (role : Role) (first : List Instr) (canvas : List KeptLayer) (n d : DeskState) → e ≡ Join v role first → v ≡ joined h + 1 → Stands d h → Stands n (e ∷ h) → AreShown cs h
    → (AreReadable first → stands_for canvas (draw nothing first)) → AreShown (cs ++ Some canvas ∷ []) (e ∷ h)
shown_join cs h e v role first canvas n d is next stood stands a plays = subst (λ (x : Entry). AreShown (cs ++ Some canvas ∷ []) (x ∷ h)) (sym is) (record {
  count = length-append cs (Some canvas ∷ []) ∙ ap (λ (k : ℕ). k + 1) a.count;
  there = λ u. has u (eqb_tells v u);
  shows = λ u. sees u (eqb_tells v u);
})
  where
    place : v ≡ length cs + 1
    place = next ∙ ap (λ (k : ℕ). k + 1) (sym a.count)

    none_before : delivered h v ≡ []
    none_before = (facts_of h stood.legal).not_joined v (omega (arith, next))

    first_readable : AreReadable first
    first_readable = subst AreReadable (given_by_join h e v role first is) (given_readable n h e stands v)

    all : delivered (Join v role first ∷ h) v ≡ first
    all = ap (λ (l : List Instr). delivered h v ++ l) (given_by_join h (Join v role first) v role first refl) ∙ ap (λ (l : List Instr). l ++ first) none_before

    other : (u : ℕ) → (v ≡ u → ⊥) → u ≢ length cs + 1
    other u ne at = ne (place ∙ sym at)

    has : (u : ℕ) → (((v == u) ≡ true) × (v ≡ u)) ⊎ (((v == u) ≡ false) × (v ≡ u → ⊥)) → is_some (canvas_at (cs ++ Some canvas ∷ []) u) ≡ is_live (Join v role first ∷ h) u
    has u (inl q) = ap (λ (o : Option Canvas). is_some o) (appended_here cs (Some canvas) u (sym q.1 ∙ place)) ∙ live_joined h (Join v role first) u q.0
    has u (inr q) = ap (λ (o : Option Canvas). is_some o) (appended_other cs (Some canvas) u (other u q.1)) ∙ (a.there u ∙ sym (live_same h (Join v role first) u q.0 refl))

    sees : (u : ℕ) → (((v == u) ≡ true) × (v ≡ u)) ⊎ (((v == u) ≡ false) × (v ≡ u → ⊥)) → Shows (canvas_at (cs ++ Some canvas ∷ []) u) (delivered (Join v role first ∷ h) u)
    sees u (inl q) =
        let at_v : Shows (canvas_at (cs ++ Some canvas ∷ []) v) (delivered (Join v role first ∷ h) v) = rw (appended_here cs (Some canvas) v place, all) (plays first_readable) in
        subst (λ (k : ℕ). Shows (canvas_at (cs ++ Some canvas ∷ []) k) (delivered (Join v role first ∷ h) k)) q.1 at_v
    sees u (inr q) =
        let none : given h (delivered h u) u (Join v role first) ≡ [] = ap (λ (b : Bool). (if b then first else []) ++ []) q.0 in
        subst (λ (o : Option Canvas). Shows o (delivered (Join v role first ∷ h) u)) (sym (appended_other cs (Some canvas) u (other u q.1))) (same_shown h (Join v role first) u (canvas_at cs u) none (a.shows u))

-- a viewer read
pub shown_read : (cs cs' : Canvases) (h : History) (e : Entry) (v : ℕ) (how : How) (text : List ℕ) (n : DeskState) → e ≡ Read v how → Stands n (e ∷ h) → AreShown cs h
    → text ≡ texts (given h (delivered h v) v e) → PlaysOn cs cs' v text → AreShown cs' (e ∷ h)
shown_read cs cs' h e v how text n is stands a text_is p = record {
  count = p.kept.count ∙ (a.count ∙ sym (ap (λ (x : Entry). joined (x ∷ h)) is));
  there = λ u. has u (eqb_tells v u);
  shows = λ u. sees u (eqb_tells v u);
}
  where
    live_is : (u : ℕ) → is_live (e ∷ h) u ≡ is_live h u
    live_is u = live_same h e u (ap (joins u) is) (ap (leaves u) is)

    has : (u : ℕ) → (((v == u) ≡ true) × (v ≡ u)) ⊎ (((v == u) ≡ false) × (v ≡ u → ⊥)) → is_some (canvas_at cs' u) ≡ is_live (e ∷ h) u
    has u (inl q) = subst (λ (k : ℕ). is_some (canvas_at cs' k) ≡ is_some (canvas_at cs k)) q.1 p.there ∙ (a.there u ∙ sym (live_is u))
    has u (inr q) = ap (λ (o : Option Canvas). is_some o) (p.kept.others u (λ at. q.1 (sym at))) ∙ (a.there u ∙ sym (live_is u))

    gift : List Instr
    gift = given h (delivered h v) v e

    sees : (u : ℕ) → (((v == u) ≡ true) × (v ≡ u)) ⊎ (((v == u) ≡ false) × (v ≡ u → ⊥)) → Shows (canvas_at cs' u) (delivered (e ∷ h) u)
    sees u (inl q) =
        let played : IfSome (canvas_at cs' v) (λ canvas. stands_for canvas (draw (draw nothing (delivered h v)) (given h (delivered h v) v e))) = p.plays (given h (delivered h v) v e) (draw nothing (delivered h v)) (given_readable n h e stands v) text_is (a.shows v) in
        let at_v : Shows (canvas_at cs' v) (delivered (e ∷ h) v) = rw (draw-append nothing (delivered h v) (given h (delivered h v) v e)) played in
        subst (λ (k : ℕ). Shows (canvas_at cs' k) (delivered (e ∷ h) k)) q.1 at_v
    sees u (inr q) =
        let none_of : given h (delivered h u) u (Read v how) ≡ [] = ap (λ (b : Bool). (if b then handed h (position h u) how else []) ++ (if b then closing h else [])) q.0 in
        let none : given h (delivered h u) u e ≡ [] = ap (given h (delivered h u) u) is ∙ none_of in
        subst (λ (o : Option Canvas). Shows o (delivered (e ∷ h) u)) (sym (p.kept.others u (λ at. q.1 (sym at)))) (same_shown h e u (canvas_at cs u) none (a.shows u))

-- nothing was played on a viewer's canvas
pub shown_still : (cs cs' : Canvases) (h : History) (v : ℕ) (text : List ℕ) → text ≡ [] → AreShown cs h → PlaysOn cs cs' v text → AreShown cs' h
shown_still cs cs' h v text none a p = record {
  count = p.kept.count ∙ a.count;
  there = λ u. has u (eqb_tells v u);
  shows = λ u. sees u (eqb_tells v u);
}
  where
    has : (u : ℕ) → (((v == u) ≡ true) × (v ≡ u)) ⊎ (((v == u) ≡ false) × (v ≡ u → ⊥)) → is_some (canvas_at cs' u) ≡ is_live h u
    has u (inl q) = subst (λ (k : ℕ). is_some (canvas_at cs' k) ≡ is_some (canvas_at cs k)) q.1 p.there ∙ a.there u
    has u (inr q) = ap (λ (o : Option Canvas). is_some o) (p.kept.others u (λ at. q.1 (sym at))) ∙ a.there u

    sees : (u : ℕ) → (((v == u) ≡ true) × (v ≡ u)) ⊎ (((v == u) ≡ false) × (v ≡ u → ⊥)) → Shows (canvas_at cs' u) (delivered h u)
    sees u (inl q) = subst (λ (k : ℕ). Shows (canvas_at cs' k) (delivered h k)) q.1 (p.plays [] (draw nothing (delivered h v)) tt none (a.shows v))
    sees u (inr q) = subst (λ (o : Option Canvas). Shows o (delivered h u)) (sym (p.kept.others u (λ at. q.1 (sym at)))) (a.shows u)

-- a viewer left, and its canvas was taken away
pub shown_leave : (cs cs' : Canvases) (h : History) (e : Entry) (v : ℕ) → e ≡ Leave v → AreShown cs h → TakesAway cs cs' v → AreShown cs' (e ∷ h)
shown_leave cs cs' h e v is a t = subst (λ (x : Entry). AreShown cs' (x ∷ h)) (sym is) (record {
  count = t.kept.count ∙ a.count;
  there = λ u. has u (eqb_tells v u);
  shows = λ u. sees u (eqb_tells v u);
})
  where
    gone_at : (u : ℕ) → v ≡ u → canvas_at cs' u ≡ None
    gone_at u at = subst (λ (k : ℕ). canvas_at cs' k ≡ None) at t.gone

    has : (u : ℕ) → (((v == u) ≡ true) × (v ≡ u)) ⊎ (((v == u) ≡ false) × (v ≡ u → ⊥)) → is_some (canvas_at cs' u) ≡ is_live (Leave v ∷ h) u
    has u (inl q) = ap (λ (o : Option Canvas). is_some o) (gone_at u q.1) ∙ live_left h (Leave v) u refl q.0
    has u (inr q) = ap (λ (o : Option Canvas). is_some o) (t.kept.others u (λ at. q.1 (sym at))) ∙ (a.there u ∙ sym (live_same h (Leave v) u refl q.0))

    sees : (u : ℕ) → (((v == u) ≡ true) × (v ≡ u)) ⊎ (((v == u) ≡ false) × (v ≡ u → ⊥)) → Shows (canvas_at cs' u) (delivered (Leave v ∷ h) u)
    sees u (inl q) = subst (λ (o : Option Canvas). Shows o (delivered (Leave v ∷ h) u)) (sym (gone_at u q.1)) tt
    sees u (inr q) = subst (λ (o : Option Canvas). Shows o (delivered (Leave v ∷ h) u)) (sym (t.kept.others u (λ at. q.1 (sym at)))) (same_shown h (Leave v) u (canvas_at cs u) refl (a.shows u))

-- both of two that are true together
pub both : (a b : Bool) → (a && b) ≡ true → (a ≡ true) × (b ≡ true)
both true b e = (refl, e)
both false b e = absurd (let w : false ≡ true = e in cc)

-- a viewer without a place has no canvas
nowhere : (cs : Canvases) (v : ℕ) → (v < 1) ⊎ (length cs < v) → canvas_at cs v ≡ None
nowhere cs v (inl small) = let zero_ : v ≡ 0 = omega (arith, small) in subst (λ (k : ℕ). canvas_at cs k ≡ None) (sym zero_) refl
nowhere cs v (inr past) = at_place cs v (λ zero_. absurd (omega (arith, past, zero_))) ∙ get_or_past cs (v - 1) None (omega (arith, past))

none_changed : (cs : Canvases) (v : ℕ) → KeepOthers cs cs v
none_changed cs v = record { count = refl; others = λ u other. refl }

pub played_nowhere : (cs : Canvases) (v : ℕ) (text : List ℕ) → (v < 1) ⊎ (length cs < v) → PlaysOn cs cs v text
played_nowhere cs v text w = record {
  kept = none_changed cs v;
  there = refl;
  plays = λ is m readable text_is stood. subst (λ (o : Option Canvas). IfSome o (λ canvas. stands_for canvas (draw m is))) (sym (nowhere cs v w)) tt;
}

pub taken_nowhere : (cs : Canvases) (v : ℕ) → (v < 1) ⊎ (length cs < v) → TakesAway cs cs v
taken_nowhere cs v w = record { kept = none_changed cs v; gone = nowhere cs v w }

-- the place of a viewer has another canvas, or none
changed_here : (cs : Canvases) (v : ℕ) (o : Option Canvas) → 1 ≤ v → KeepOthers cs (set cs (v - 1) o) v
changed_here cs v o some = record { count = length-set cs (v - 1) o; others = λ u other. elsewhere u other (eqb_tells u 0) }
  where
    one : (u : ℕ) → (u ≡ 0 → ⊥) → 1 ≤ u
    one zero none = absurd (none refl)
    one (suc k) none = omega arith

    elsewhere : (u : ℕ) → u ≢ v → (((u == 0) ≡ true) × (u ≡ 0)) ⊎ (((u == 0) ≡ false) × (u ≡ 0 → ⊥)) → canvas_at (set cs (v - 1) o) u ≡ canvas_at cs u
    elsewhere u other (inl q) = rw q.0 refl
    elsewhere u other (inr q) =
        let apart : u - 1 ≢ v - 1 = λ e. other (omega (arith, e, some, one u q.1)) in
        at_place (set cs (v - 1) o) u q.1 ∙ (get_or-set_other cs (v - 1) (u - 1) o None apart ∙ sym (at_place cs u q.1))

there_now : (cs : Canvases) (v : ℕ) (o : Option Canvas) → 1 ≤ v → v ≤ length cs → canvas_at (set cs (v - 1) o) v ≡ o
there_now cs v o some within =
    at_place (set cs (v - 1) o) v (λ zero_. absurd (omega (arith, some, zero_))) ∙ get_or-set_same cs (v - 1) o None (omega (arith, some, within))

pub taken_here : (cs : Canvases) (v : ℕ) → 1 ≤ v → v ≤ length cs → TakesAway cs (set cs (v - 1) None) v
taken_here cs v some within = record { kept = changed_here cs v None some; gone = there_now cs v None some within }

-- the text was played on the canvas that was there
pub played_here : (cs : Canvases) (v : ℕ) (old new : Canvas) (text : List ℕ) → 1 ≤ v → v ≤ length cs → get_or cs (v - 1) None ≡ Some old
    → ((is : List Instr) (m : Layers) → AreReadable is → text ≡ texts is → stands_for old m → stands_for new (draw m is)) → PlaysOn cs (set cs (v - 1) (Some new)) v text
played_here cs v old new text some within there plays =
    let was : canvas_at cs v ≡ Some old = at_place cs v (λ zero_. absurd (omega (arith, some, zero_))) ∙ there in
    let now : canvas_at (set cs (v - 1) (Some new)) v ≡ Some new = there_now cs v (Some new) some within in
    record {
      kept = changed_here cs v (Some new) some;
      there = ap is_some now ∙ sym (ap is_some was);
      plays = λ is m readable spelled stands.
          subst (λ (o : Option Canvas). IfSome o (λ canvas. stands_for canvas (draw m is))) (sym now)
          (plays is m readable spelled (subst (λ (o : Option Canvas). IfSome o (λ canvas. stands_for canvas m)) was stands));
    }
