-- What an instruction more makes of what is shown.
use Rattle.std.proofs.Common.{◌≡◌, ℕ, ◌+◌, ◌<◌, List, [], ◌∷◌, ◌++◌, length, take, get_or, add-one, true, false, inl, inr, refl, ap, sym, ◌∙◌, subst, append_assoc, append-nil, length-append, arith}
use Rattle.std.specs.Prelude.{Some, None, Result, Ok, Err, OnOk}
use Rattle.std.proofs.lemmas.Bool.{cases_Bool}
use Rattle.std.proofs.Math.Seq.{take-suc}
use Rattle.std.proofs.lemmas.List.Elements.{filter_map-append}
use Rattle.gate_model.specs.declared.instr.Instr.{Instr}
use Rattle.gate_model.specs.declared.instr.Instr.TheVariants.{Size, Rect, Cfill, Copy, Sync, Disconnect, Error}
use Rattle.gate_model.specs.picture.Layers.{Layers, draw, nothing, play}
use Rattle.gate_model.specs.declared.memory.NoMemory.{NoMemory}
use Rattle.gate_model.proofs.Drawing.{draw-append}
use Rattle.canvas.specs.Kept.{KeptLayer}
use Rattle.canvas.specs.Standing.{Stands}
use Rattle.look.specs.declared.until.Until.{Until}
use Rattle.look.specs.declared.looked.Marks.{Marks}
use Rattle.look.specs.Stream.{AreUnasked, GoesOn, HasRead, is_asked, stamps}
use Rattle.record_play.specs.Stamps.{stamp_of}
use Rattle.look.specs.Shown.{IsShown}
use Rattle.look.specs.Seen.{IsMarked}
use Rattle.look.specs.declared.looking.View.{View}

-- a sync is known by its stamp
pub sync_is : (i : Instr) (stamp : ℕ) → stamp_of i ≡ Some stamp → i ≡ Sync stamp
sync_is (Size layer width height) stamp e = absurd (cc)
sync_is (Rect layer x y width height) stamp e = absurd (cc)
sync_is (Cfill layer red green blue) stamp e = absurd (cc)
sync_is (Copy from x y width height to to_x to_y) stamp e = absurd (cc)
sync_is (Sync other) stamp e = ap (λ (t : ℕ). Sync t) (cc)
sync_is Disconnect stamp e = absurd (cc)
sync_is (Error status) stamp e = absurd (cc)

-- one more that isn't asked for
unasked_more : (until : Until) (before : ℕ) (ss : List ℕ) (stamp : ℕ) → AreUnasked until before ss → is_asked until (before + length ss + 1) stamp ≡ false → AreUnasked until before (ss ++ stamp ∷ [])
unasked_more until before [] stamp all one = (subst (λ n. is_asked until n stamp ≡ false) (omega arith) one, tt)
unasked_more until before (s ∷ ss) stamp all one = (all.0, unasked_more until (before + 1) ss stamp all.1 (subst (λ n. is_asked until n stamp ≡ false) (omega arith) one))

no_stamp : (i : Instr) → stamp_of i ≡ None → stamps (i ∷ []) ≡ []
no_stamp i e = rw e refl

module _ (text : List ℕ) (until : Until) (marks : Marks) (before : ℕ) (kept : List KeptLayer) (rest : List Instr) (s : IsShown text until marks before kept rest) where
  -- how many syncs stand behind the one that is marked
  counted : marks.syncs ≡ marks.frame + length (stamps rest)
  counted = s.syncs ∙ ap length (filter_map-append stamp_of s.shown rest) ∙ length-append (stamps s.shown) (stamps rest) ∙ ap (λ n. n + length (stamps rest)) (sym s.frame)

  further : (i : Instr) (place : ℕ) → GoesOn text before (Some i) place → HasRead text place (s.shown ++ (rest ++ i ∷ []))
  further i place on = subst (HasRead text place) (append_assoc s.shown rest (i ∷ [])) (on.step (s.shown ++ rest) s.all)

  -- an instruction that the gateway doesn't send is passed over
  pub passed : (place : ℕ) → GoesOn text before None place → IsShown text until marks place kept rest
  passed place on = record {
    shown = s.shown;
    up_to = s.up_to;
    all = subst (HasRead text place) (append-nil (s.shown ++ rest)) (on.step (s.shown ++ rest) s.all);
    frame = s.frame;
    syncs = s.syncs;
    ends = s.ends;
    unasked = s.unasked;
    stands = s.stands;
  }

  -- one that isn't a sync waits
  pub waits : (i : Instr) (place : ℕ) → stamp_of i ≡ None → GoesOn text before (Some i) place → IsShown text until marks place kept (rest ++ i ∷ [])
  waits i place none on =
      let same : stamps (rest ++ i ∷ []) ≡ stamps rest = filter_map-append stamp_of rest (i ∷ []) ∙ ap (λ (l : List ℕ). stamps rest ++ l) (no_stamp i none) ∙ append-nil (stamps rest) in
      record {
        shown = s.shown;
        up_to = s.up_to;
        frame = s.frame;
        ends = s.ends;
        stands = s.stands;
        all = further i place on;
        syncs = counted ∙ ap (λ (l : List ℕ). marks.frame + length l) (sym same) ∙ ap (λ n. n + length (stamps (rest ++ i ∷ []))) s.frame ∙ sym (length-append (stamps s.shown) (stamps (rest ++ i ∷ []))) ∙ ap length (sym (filter_map-append stamp_of s.shown (rest ++ i ∷ [])));
        unasked = subst (AreUnasked until marks.frame) (sym same) s.unasked;
      }

  one_stamp : (t : ℕ) → stamps (rest ++ Sync t ∷ []) ≡ stamps rest ++ t ∷ []
  one_stamp t = filter_map-append stamp_of rest (Sync t ∷ [])

  all_stamps : (t : ℕ) → length (stamps (s.shown ++ (rest ++ Sync t ∷ []))) ≡ marks.syncs + 1
  all_stamps t =
      ap length (filter_map-append stamp_of s.shown (rest ++ Sync t ∷ [])) ∙ length-append (stamps s.shown) (stamps (rest ++ Sync t ∷ [])) ∙ ap (λ (l : List ℕ). length (stamps s.shown) + length l) (one_stamp t)
      ∙ omega (arith, length-append (stamps rest) (t ∷ []), counted, s.frame)

  -- a sync that isn't asked for waits too
  pub unasked : (t place : ℕ) → is_asked until (marks.syncs + 1) t ≡ false → GoesOn text before (Some (Sync t)) place → IsShown text until record marks { syncs = marks.syncs + 1 } place kept (rest ++ Sync t ∷ [])
  unasked t place isnt on = record {
    shown = s.shown;
    up_to = s.up_to;
    all = further (Sync t) place on;
    frame = s.frame;
    syncs = sym (all_stamps t);
    ends = elim s.ends [ inl none ↦ inl none | inr asked ↦ inr record { before = asked.before; ends = asked.ends; asked = asked.asked } ];
    unasked = subst (AreUnasked until marks.frame) (sym (one_stamp t)) (unasked_more until marks.frame (stamps rest) t s.unasked (subst (λ n. is_asked until (n + 1) t ≡ false) counted isnt));
    stands = s.stands;
  }

  -- one that is asked for is marked, and the picture there is shown
  pub asked : (t place : ℕ) (drawn : List KeptLayer) → is_asked until (marks.syncs + 1) t ≡ true → GoesOn text before (Some (Sync t)) place → Stands drawn (draw (draw nothing s.shown) (rest ++ Sync t ∷ []))
      → IsShown text until record { place = place; frame = marks.syncs + 1; stamp = t; syncs = marks.syncs + 1 } place drawn []
  asked t place drawn is on stands =
      let shown = s.shown ++ (rest ++ Sync t ∷ []) in
      record {
        shown = shown;
        up_to = further (Sync t) place on;
        all = subst (HasRead text place) (sym (append-nil shown)) (further (Sync t) place on);
        frame = sym (all_stamps t);
        syncs = sym (all_stamps t) ∙ ap (λ (l : List Instr). length (stamps l)) (sym (append-nil shown));
        ends = inr record { before = s.shown ++ rest; ends = sym (append_assoc s.shown rest (Sync t ∷ [])); asked = is };
        unasked = tt;
        stands = subst (Stands drawn) (sym (draw-append nothing s.shown (rest ++ Sync t ∷ []))) stands;
      }

-- what follows from what a call says where it wasn't refused
on_ok : {T E : Type 0} (r : Result T E) (P Q : Type 0) → (P → Q) → OnOk r P → OnOk r Q
on_ok (Ok t) P Q step h = step h
on_ok (Err e) P Q step h = tt

-- the sync that waits last was counted, and shown where it is asked for
module _ (text : List ℕ) (until : Until) (before place stamp : ℕ) (rest : List Instr) (pushed new : View) (s : IsShown text until pushed.marks before pushed.canvas rest) (on : GoesOn text before (Some (Sync stamp)) place) (items : pushed.waiting.items ≡ rest ++ Sync stamp ∷ []) where
  marked_shown : is_asked until (pushed.marks.syncs + 1) stamp ≡ true → IsMarked pushed stamp place new → IsShown text until new.marks place new.canvas new.waiting.items
  marked_shown is marked =
      let drawn : Stands new.canvas (draw (draw nothing s.shown) (rest ++ Sync stamp ∷ [])) = subst (λ (w : List Instr). Stands new.canvas (draw (draw nothing s.shown) w)) items (marked.played (draw nothing s.shown) s.stands) in
      subst (λ (w : List Instr). IsShown text until new.marks place new.canvas w) (sym marked.waiting)
      (subst (λ (m : Marks). IsShown text until m place new.canvas []) (sym marked.marks)
      (asked text until pushed.marks before pushed.canvas rest s stamp place new.canvas is on drawn))

  counted_shown : is_asked until (pushed.marks.syncs + 1) stamp ≡ false → new ≡ record pushed { marks = record pushed.marks { syncs = pushed.marks.syncs + 1 } } → IsShown text until new.marks place new.canvas new.waiting.items
  counted_shown isnt same =
      subst (λ (v : View). IsShown text until v.marks place v.canvas v.waiting.items) (sym same)
      (subst (λ (w : List Instr). IsShown text until record pushed.marks { syncs = pushed.marks.syncs + 1 } place pushed.canvas w) (sym items)
      (unasked text until pushed.marks before pushed.canvas rest s stamp place isnt on))

  pub sync_shown : (r : Result (Unit {0}) NoMemory)
      → (is_asked until (pushed.marks.syncs + 1) stamp ≡ true → OnOk r (IsMarked pushed stamp place new))
      → (is_asked until (pushed.marks.syncs + 1) stamp ≡ false → OnOk r (new ≡ record pushed { marks = record pushed.marks { syncs = pushed.marks.syncs + 1 } }))
      → OnOk r (IsShown text until new.marks place new.canvas new.waiting.items)
  sync_shown r shown others =
      elim (cases_Bool (is_asked until (pushed.marks.syncs + 1) stamp)) [
        | inl is ↦ on_ok r _ _ (marked_shown is) (shown is)
        | inr isnt ↦ on_ok r _ _ (counted_shown isnt) (others isnt)
      ]

-- one instruction more was played
pub played_more : (m : Layers) (is : List Instr) (k : ℕ) (d : Instr) (kept : List KeptLayer) → k < length is → Stands kept (play (draw m (take k is)) (get_or is k d)) → Stands kept (draw m (take (k + 1) is))
played_more m is k d kept within stands =
    let more : take (k + 1) is ≡ take k is ++ get_or is k d ∷ [] = ap (λ n. take n is) (add-one k) ∙ take-suc is k d within in
    subst (Stands kept) (sym (ap (draw m) more ∙ draw-append m (take k is) (get_or is k d ∷ []))) stands
