-- What a sender gains, step by step.
use Rattle.std.proofs.Common.{◌≡◌, ℕ, ◌+◌, ◌≤◌, ◌<◌, ◌⊎◌, inl, inr, List, [], ◌∷◌, ◌++◌, length, take, drop, Bool, true, false, refl, ap, sym, ◌∙◌, subst, append_assoc, append-nil, arith, length-append, length-take, length-drop}
use Rattle.std.specs.Prelude.{◌==◌, nat_le, if◌then◌else◌}
use Rattle.std.proofs.Math.Seq.{take-add, take-append_seam}
use Rattle.std.proofs.lemmas.List.{drop-append-le, drop-drop, take-append-drop, take-append-le}
use Rattle.std.proofs.lemmas.Bool.Decides.{eqb_tells, leb_tells}
use Rattle.gate_model.specs.declared.entry.Entry.{Entry}
use Rattle.gate_model.specs.declared.entry.Entry.TheVariants.{Start, Feed, Size, Join, Read, Write, Take, Leave, Close}
use Rattle.gate_model.specs.declared.event.Event.TheVariants.{Take as take_most}
use Rattle.gate_model.specs.declared.taken.Taken.{Taken}
use Rattle.gate_model.specs.session.Calls.{take_entry}
use Rattle.gate_model.specs.session.History.{is_closed}
use Rattle.gate_model.specs.session.Output.{out, taken, untaken}
use Rattle.gate_model.specs.Sequences.{BeginsWith, IsLater}
use Rattle.turn_lock.proofs.Elements.{later_refl, later_trans}
use Rattle.turn_lock.specs.declared.view.View.{View}
use Rattle.shared_desk.specs.Called.{Called, take_answer}
use Rattle.shared_desk.specs.Own.{own_entries}
use Rattle.shared_desk.proofs.Lasting.{take_adds, turn_later}
use Rattle.session_link.specs.Senders.{AreTakes, HandsOut, HasClosedSending, HasHalted, HasSentAll, HasShut, HasWritten, SenderRun}
use Rattle.session_link.specs.declared.ends.SenderEnd.{SenderEnd}
use Rattle.session_link.specs.declared.ends.SenderEnd.TheVariants.{Ended, WriteFault}

-- ---- fronts of a list that goes on

no_bytes : (xs : List ℕ) → length xs ≡ 0 → xs ≡ []
no_bytes [] none = refl
no_bytes (x ∷ xs) none = absurd (omega (arith, none))

-- a part of a list stays the same where the list goes on
part_within : (m n : ℕ) (xs rest : List ℕ) → m ≤ length xs → n ≤ length (drop m xs) → take n (drop m (xs ++ rest)) ≡ take n (drop m xs)
part_within m n xs rest le short = ap (take n) (drop-append-le m xs rest le) ∙ take-append-le n (drop m xs) rest short

pub part_stays : (m : ℕ) (part xs all : List ℕ) → BeginsWith all xs → part ≡ take (length part) (drop m xs) → part ≡ take (length part) (drop m all)
part_stays m part xs all begins is = by (leb_tells m (length xs))
  where
    short : length part ≤ length (drop m xs)
    short = omega (arith, ap length is, length-take (length part) (drop m xs))

    by : (((nat_le m (length xs)) ≡ true) × (m ≤ length xs)) ⊎ (((nat_le m (length xs)) ≡ false) × (length xs < m)) → part ≡ take (length part) (drop m all)
    by (inl le) = is ∙ sym (ap (λ (ys : List ℕ). take (length part) (drop m ys)) begins.1 ∙ part_within m (length part) xs begins.0 le.1 short)
    by (inr lt) =
        let none : part ≡ [] = no_bytes part (omega (arith, short, length-drop m xs, lt.1)) in
        subst (λ (ys : List ℕ). ys ≡ take (length ys) (drop m all)) (sym none) refl

-- a front is as long as it is
pub own_length : (most : ℕ) (xs : List ℕ) → take most xs ≡ take (length (take most xs)) xs
own_length most xs = sym (ap (take (length (take most xs))) (sym (take-append-drop most xs)) ∙ take-append_seam (take most xs) (drop most xs))

-- two parts, one behind the other
pub parts_join : (m : ℕ) (part more all : List ℕ) → part ≡ take (length part) (drop m all) → more ≡ take (length more) (drop (m + length part) all) → part ++ more ≡ take (length part + length more) (drop m all)
parts_join m part more all is next =
    ap (λ (ys : List ℕ). ys ++ more) is
    ∙ (ap (λ (ys : List ℕ). take (length part) (drop m all) ++ ys) (next ∙ ap (take (length more)) (sym (drop-drop (length part) m all))) ∙ sym (take-add (length part) (length more) (drop m all)))

-- ---- one take

-- what a take of so many bytes tells
pub record TakesOne (v w : View Entry) (most : ℕ) (bs : List ℕ) (told : Bool) : Type 0 where
  pub next : bs ≡ take most (drop (taken v.seen) (out w.seen))
  pub total : taken w.seen ≡ taken v.seen + length bs
  pub sent : BeginsWith (out w.seen) (out v.seen)
  pub later : IsLater v.seen w.seen
  pub own : own_entries w ≡ take_entry (length bs) ++ own_entries v
  pub closed : told ≡ is_closed w.seen

pub one_taken : (v w : View Entry) (most : ℕ) (r : Taken) (into : List ℕ) → Called v (take_most most) (take_answer r into) w → take r.count into ≡ take most (drop (taken v.seen) (out w.seen)) → taken w.seen ≡ taken v.seen + r.count → BeginsWith (out w.seen) (out v.seen)
    → length (take r.count into) ≡ r.count → TakesOne v w most (take r.count into) r.closed
one_taken v w most r into t next total sent many =
    let k = take_adds v w most r into t in record { next = next; total = total ∙ ap (λ (n : ℕ). taken v.seen + n) (sym many); sent = sent; later = turn_later v w _ t; own = k.own; closed = k.closed }

one_take : (n : ℕ) → AreTakes (take_entry n) × (taken (take_entry n) ≡ n)
one_take n = by (eqb_tells n 0)
  where
    by : (((n == 0) ≡ true) × (n ≡ 0)) ⊎ (((n == 0) ≡ false) × (n ≡ 0 → ⊥)) → AreTakes (take_entry n) × (taken (take_entry n) ≡ n)
    by (inl q) = rw q.0 (tt, omega (arith, q.1))
    by (inr q) = rw q.0 (tt, omega arith)

takes_more : (es fs : List Entry) → AreTakes es → AreTakes fs → AreTakes (es ++ fs)
takes_more [] fs a b = b
takes_more (Take n ∷ es) fs a b = takes_more es fs a b
takes_more (Start c r m t k n s f ∷ es) fs a b = absurd a
takes_more (Feed bs s f ∷ es) fs a b = absurd a
takes_more (Size v c r s f ∷ es) fs a b = absurd a
takes_more (Join v r f ∷ es) fs a b = absurd a
takes_more (Read v how ∷ es) fs a b = absurd a
takes_more (Write v acts ∷ es) fs a b = absurd a
takes_more (Leave v ∷ es) fs a b = absurd a
takes_more (Close c ∷ es) fs a b = absurd a

taken_both : (es fs : List Entry) → taken (es ++ fs) ≡ taken es + taken fs
taken_both [] fs = omega arith
taken_both (e ∷ es) fs = omega (arith, taken_both es fs)

-- what was handed out by one take
pub handed_one : (v w : View Entry) (most : ℕ) (bs : List ℕ) (told : Bool) → TakesOne v w most bs told → HandsOut v w (take_entry (length bs)) bs
handed_one v w most bs told k = record {
  are_takes = (one_take (length bs)).0;
  count = (one_take (length bs)).1;
  next = k.next ∙ (own_length most (drop (taken v.seen) (out w.seen)) ∙ ap (λ (ys : List ℕ). take (length ys) (drop (taken v.seen) (out w.seen))) (sym k.next));
  total = k.total;
}

-- .. and by takes one after the other
pub hands_more : (v u w : View Entry) (es fs : List Entry) (one other : List ℕ) → BeginsWith (out w.seen) (out u.seen) → HandsOut v u es one → HandsOut u w fs other → HandsOut v w (fs ++ es) (one ++ other)
hands_more v u w es fs one other begins a b = record {
  are_takes = takes_more fs es b.are_takes a.are_takes;
  count = omega (arith, taken_both fs es, a.count, b.count, length-append one other);
  next = parts_join (taken v.seen) one other (out w.seen) (part_stays (taken v.seen) one (out u.seen) (out w.seen) begins a.next) (b.next ∙ ap (λ (n : ℕ). take (length other) (drop n (out w.seen))) a.total)
      ∙ ap (λ (n : ℕ). take n (drop (taken v.seen) (out w.seen))) (sym (length-append one other));
  total = omega (arith, a.total, b.total, length-append one other);
}

-- ---- take after take

pub sent_none : (v : View Entry) → HasSentAll v v []
sent_none v = record { later = later_refl v.seen; takes = []; own = refl; sent = ([], sym (append-nil (out v.seen))); hands = record { are_takes = tt; count = refl; next = refl; total = omega arith } }

-- one take, all of it written
pub sent_one : (v w : View Entry) (most : ℕ) (bs : List ℕ) (told : Bool) → TakesOne v w most bs told → HasSentAll v w bs
sent_one v w most bs told k = record { later = k.later; takes = take_entry (length bs); own = k.own; sent = k.sent; hands = handed_one v w most bs told k }

-- .. or a front, at a fault
pub sent_part : (v w : View Entry) (most : ℕ) (bs written : List ℕ) (told : Bool) → TakesOne v w most bs told → BeginsWith bs written → HasHalted v w written WriteFault
sent_part v w most bs written told k part =
    record { later = k.later; takes = take_entry (length bs); own = k.own; sent = k.sent; handed = bs; hands = handed_one v w most bs told k; wrote = part; cause = tt }

-- .. or nothing, in a closed session
pub sent_end : (v w : View Entry) (most : ℕ) (bs : List ℕ) → 0 < most → length bs ≡ 0 → TakesOne v w most bs true → HasHalted v w [] Ended
sent_end v w most bs some none k =
    let empty : bs ≡ [] = no_bytes bs none in
    let nothing : untaken w.seen ≡ [] = no_bytes (untaken w.seen) (omega (arith, some, none, k.total, ap length k.next, length-take most (drop (taken v.seen) (out w.seen)), length-drop (taken v.seen) (out w.seen), length-drop (taken w.seen) (out w.seen))) in record {
      later = k.later;
      takes = take_entry (length bs);
      own = k.own;
      sent = k.sent;
      handed = bs;
      hands = handed_one v w most bs true k;
      wrote = sym empty;
      cause = (sym k.closed, nothing);
    }

-- .. or nothing came
pub sent_nothing : (v w : View Entry) (most : ℕ) (bs : List ℕ) (told : Bool) → length bs ≡ 0 → TakesOne v w most bs told → HasSentAll v w []
sent_nothing v w most bs told none k = subst (λ (ys : List ℕ). HasSentAll v w ys) (no_bytes bs none) (sent_one v w most bs told k)

begins_trans : (a b c : List ℕ) → BeginsWith b a → BeginsWith c b → BeginsWith c a
begins_trans a b c x y = (x.0 ++ y.0, y.1 ∙ (ap (λ (zs : List ℕ). zs ++ y.0) x.1 ∙ append_assoc a x.0 y.0))

pub sent_more : (v u w : View Entry) (one other : List ℕ) → HasSentAll v u one → HasSentAll u w other → HasSentAll v w (one ++ other)
sent_more v u w one other a b = record {
  later = later_trans v.seen u.seen w.seen a.later b.later;
  takes = b.takes ++ a.takes;
  own = b.own ∙ (ap (λ (es : List Entry). b.takes ++ es) a.own ∙ sym (append_assoc b.takes a.takes (own_entries v)));
  sent = begins_trans (out v.seen) (out u.seen) (out w.seen) a.sent b.sent;
  hands = hands_more v u w a.takes b.takes one other b.sent a.hands b.hands;
}

wrote_more : (end : SenderEnd) (one handed written : List ℕ) → HasWritten end handed written → HasWritten end (one ++ handed) (one ++ written)
wrote_more Ended one handed written is = ap (λ (ys : List ℕ). one ++ ys) is
wrote_more WriteFault one handed written is = (is.0, ap (λ (ys : List ℕ). one ++ ys) is.1 ∙ sym (append_assoc one written is.0))

pub sent_stop : (v u w : View Entry) (one written : List ℕ) (end : SenderEnd) → HasSentAll v u one → HasHalted u w written end → HasHalted v w (one ++ written) end
sent_stop v u w one written end a b = record {
  later = later_trans v.seen u.seen w.seen a.later b.later;
  takes = b.takes ++ a.takes;
  own = b.own ∙ (ap (λ (es : List Entry). b.takes ++ es) a.own ∙ sym (append_assoc b.takes a.takes (own_entries v)));
  sent = begins_trans (out v.seen) (out u.seen) (out w.seen) a.sent b.sent;
  handed = one ++ b.handed;
  hands = hands_more v u w a.takes b.takes one b.handed b.sent a.hands b.hands;
  wrote = wrote_more end one b.handed written b.wrote;
  cause = b.cause;
}

-- ---- the end

sender_ended : (v u w : View Entry) (written : List ℕ) → HasHalted v u written Ended → w ≡ u → SenderRun v w written Ended
sender_ended v u w written h same = subst (λ (z : View Entry). SenderRun v z written Ended) (sym same) record { later = h.later; takes = h.takes; closes = []; last = refl; own = h.own; handed = h.handed; hands = h.hands; wrote = h.wrote; cause = h.cause }

sender_failed : (v u w : View Entry) (written : List ℕ) → HasHalted v u written WriteFault → HasClosedSending u w → SenderRun v w written WriteFault
sender_failed v u w written h k = record {
  later = later_trans v.seen u.seen w.seen h.later k.closed.later;
  takes = h.takes;
  closes = k.closed.closes;
  last = k.closed.few;
  own = k.closed.own ∙ ap (λ (es : List Entry). k.closed.closes ++ es) h.own;
  handed = h.handed;
  hands = record { are_takes = h.hands.are_takes; count = h.hands.count; next = part_stays (taken v.seen) h.handed (out u.seen) (out w.seen) k.sent h.hands.next; total = k.same ∙ h.hands.total };
  wrote = h.wrote;
  cause = k.closed.closed;
}

pub sender_ran : (v u w : View Entry) (written : List ℕ) (end : SenderEnd) → HasHalted v u written end → HasShut end u w → SenderRun v w written end
sender_ran v u w written Ended h k = sender_ended v u w written h k
sender_ran v u w written WriteFault h k = sender_failed v u w written h k
