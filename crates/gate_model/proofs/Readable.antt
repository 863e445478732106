-- What a viewer is given in a legal history is in range, so that it is read back as it was written.
use Rattle.std.proofs.Common.{◌≡◌, ℕ, ◌+◌, List, [], ◌∷◌, ◌++◌, Bool, true, false, inl, inr, refl, sym, subst, arith}
use Rattle.std.specs.Prelude.{◌==◌, nat_lt, if◌then◌else◌}
use Rattle.std.proofs.lemmas.Bool.Decides.{eqb_tells}
use Rattle.gate_model.specs.declared.answer.Answer.{Answer}
use Rattle.gate_model.specs.declared.cause.Cause.{Cause}
use Rattle.gate_model.specs.declared.cause.Cause.TheVariants.{ServerEnd, LinkFault, Stopped, Worn}
use Rattle.gate_model.specs.declared.event.Event.{Event}
use Rattle.gate_model.specs.declared.event.Event.TheVariants.{Feed as feed, Join as join, Read as read, Write as write, Resize as resize, Take as take_most, Leave as leave, Close as close}
use Rattle.gate_model.specs.declared.how.How.{How}
use Rattle.gate_model.specs.declared.how.How.TheVariants.{Suffix, Fresh}
use Rattle.gate_model.specs.declared.instr.Instr.{Instr}
use Rattle.gate_model.specs.declared.entry.Entry.{Entry}
use Rattle.gate_model.specs.declared.entry.Entry.TheVariants.{Start, Feed, Size, Join, Read, Write, Take, Leave, Close}
use Rattle.gate_model.specs.picture.Shape.{AreReadable}
use Rattle.gate_model.specs.session.Entries.{framed}
use Rattle.gate_model.specs.session.History.{History, frames, frames_after, instructions, joined}
use Rattle.gate_model.specs.session.Calls.{Step, Updates}
use Rattle.gate_model.specs.session.Delivered.{delivered, position, handed, closing, farewell, given}
use Rattle.gate_model.specs.session.Runs.{handed_out}
use Rattle.gate_model.specs.session.Steps.{Legal}
use Rattle.gate_model.proofs.Added.{IsNext, added, next}

pub readable_both : (first second : List Instr) → AreReadable first → AreReadable second → AreReadable (first ++ second)
readable_both [] second r q = q
readable_both (i ∷ is) second r q = (r.0, readable_both is second r.1 q)

-- the instructions before a place, and those from it on
pub readable_front : (first second : List Instr) → AreReadable (first ++ second) → AreReadable first
readable_front [] second r = tt
readable_front (i ∷ is) second r = (r.0, readable_front is second r.1)

pub readable_rest : (first second : List Instr) → AreReadable (first ++ second) → AreReadable second
readable_rest [] second r = r
readable_rest (i ∷ is) second r = readable_rest is second r.1

-- the instructions of each frame are in range
abbrev AreFine : List (ℕ × List Instr) → Type 0
AreFine [] = Unit {0}
AreFine (f ∷ fs) = AreReadable f.1 × AreFine fs

fine_both : (fs gs : List (ℕ × List Instr)) → AreFine fs → AreFine gs → AreFine (fs ++ gs)
fine_both [] gs a b = b
fine_both (f ∷ fs) gs a b = (a.0, fine_both fs gs a.1 b)

fine_after : (t : ℕ) (fs : List (ℕ × List Instr)) → AreFine fs → AreFine (frames_after t fs)
fine_after t [] a = tt
fine_after t (f ∷ fs) a = cases (nat_lt t f.0) refl (fine_after t fs a.1)
  where
    cases : (b : Bool) → nat_lt t f.0 ≡ b → AreFine (frames_after t fs) → AreFine (frames_after t (f ∷ fs))
    cases true e more = rw e (a.0, more)
    cases false e more = rw e more

fine_list : (fs : List (ℕ × List Instr)) → AreFine fs → AreReadable (instructions fs)
fine_list [] a = tt
fine_list (f ∷ fs) a = readable_both f.1 (instructions fs) a.0 (fine_list fs a.1)

fine_next : (g : History) (e : Entry) → IsNext g e → AreFine (framed e)
fine_next g (Feed bytes stamp frame) n = (n.shape.in_range, tt)
fine_next g (Size viewer cols rows stamp frame) n = (n.shape.in_range, tt)
fine_next g (Join viewer role first) n = tt
fine_next g (Read viewer how) n = tt
fine_next g (Write viewer acts) n = tt
fine_next g (Take count) n = tt
fine_next g (Leave viewer) n = tt
fine_next g (Close cause) n = tt
fine_next g (Start cols rows mode term faces entries stamp frame) n = absurd n

fine_frames : (h : History) → Legal h → AreFine (frames h)
fine_frames [] l = absurd l
fine_frames (e ∷ []) l = subst (λ (x : Entry). AreFine (frames (x ∷ []))) (sym l.2.4) (l.2.2.in_range, tt)
fine_frames (e ∷ f ∷ g) l = fine_both (frames (f ∷ g)) (framed e) (fine_frames (f ∷ g) l.0) (fine_next (f ∷ g) e (next e f g l))

readable_farewell : (cause : Cause) → AreReadable (farewell cause ∷ [])
readable_farewell ServerEnd = (tt, tt)
readable_farewell LinkFault = (omega arith, tt)
readable_farewell Stopped = (omega arith, tt)
readable_farewell Worn = (omega arith, tt)

readable_closing : (h : History) → AreReadable (closing h)
readable_closing [] = tt
readable_closing (Start cols rows mode term faces entries stamp frame ∷ g) = readable_closing g
readable_closing (Feed bytes stamp frame ∷ g) = readable_closing g
readable_closing (Size viewer cols rows stamp frame ∷ g) = readable_closing g
readable_closing (Join viewer role first ∷ g) = readable_closing g
readable_closing (Read viewer how ∷ g) = readable_closing g
readable_closing (Write viewer acts ∷ g) = readable_closing g
readable_closing (Take count ∷ g) = readable_closing g
readable_closing (Leave viewer ∷ g) = readable_closing g
readable_closing (Close cause ∷ g) = readable_farewell cause

chosen : (b : Bool) (is : List Instr) → AreReadable is → AreReadable (if b then is else [])
chosen true is r = r
chosen false is r = tt

by_how : (g : History) (viewer : ℕ) (how : How) → Legal g → Updates g (position g viewer) how → AreReadable (handed g (position g viewer) how)
by_how g viewer Suffix l u = fine_list (frames_after (position g viewer) (frames g)) (fine_after (position g viewer) (frames g) (fine_frames g l))
by_how g viewer (Fresh is) l u = u.1.in_range

-- what the entry gives a viewer
pub given_readable : (g : History) (e : Entry) (v : ℕ) → Legal g → IsNext g e → AreReadable (given g (delivered g v) v e)
given_readable g (Start cols rows mode term faces entries stamp frame) v l n = absurd n
given_readable g (Feed bytes stamp frame) v l n = tt
given_readable g (Size viewer cols rows stamp frame) v l n = tt
given_readable g (Join viewer role first) v l n = readable_both (if viewer == v then first else []) [] (chosen (viewer == v) first n.shape.in_range) tt
given_readable g (Read viewer how) v l n = elim (eqb_tells viewer v) as (λ _. AreReadable (given g (delivered g v) v (Read viewer how))) [
  | inl p ↦ rw p.0 (readable_both (handed g (position g v) how) (closing g) (subst (λ (u : ℕ). AreReadable (handed g (position g u) how)) p.1 (by_how g viewer how l n.updates)) (readable_closing g))
  | inr p ↦ rw p.0 tt
]
given_readable g (Write viewer acts) v l n = tt
given_readable g (Take count) v l n = tt
given_readable g (Leave viewer) v l n = tt
given_readable g (Close cause) v l n = tt

pub delivered-readable : (h : History) → Legal h → (v : ℕ) → AreReadable (delivered h v)
delivered-readable [] l v = absurd l
delivered-readable (e ∷ []) l v = subst (λ (x : Entry). AreReadable (delivered (x ∷ []) v)) (sym l.2.4) tt
delivered-readable (e ∷ f ∷ g) l v = readable_both (delivered (f ∷ g) v) (given (f ∷ g) (delivered (f ∷ g) v) v e) (delivered-readable (f ∷ g) l.0 v) (given_readable (f ∷ g) e v l.0 (next e f g l))

-- what a call hands out
pub handed-readable : (h : History) (event : Event) (answer : Answer) (entries : List Entry) → Legal h → Step h event answer entries → AreReadable (handed_out h event answer entries)
handed-readable h event answer [] l s = tt
handed-readable h event answer (e ∷ f ∷ es) l s = absurd s.1
handed-readable h (feed bs now) answer (e ∷ []) l s = subst (λ (a : Answer). AreReadable (handed_out h (feed bs now) a (e ∷ []))) (sym s.1.1.3) tt
handed-readable h (join asked) answer (e ∷ []) l s = subst (λ (a : Answer). AreReadable (handed_out h (join asked) a (e ∷ []))) (sym s.1.1.4) (given_readable h e (joined h + 1) l (added h (join asked) answer e s))
handed-readable h (read viewer) answer (e ∷ []) l s = given_readable h e viewer l (added h (read viewer) answer e s)
handed-readable h (write viewer acts) answer (e ∷ []) l s = subst (λ (a : Answer). AreReadable (handed_out h (write viewer acts) a (e ∷ []))) (sym s.1.1.0) tt
handed-readable h (resize viewer cols rows) answer (e ∷ []) l s = subst (λ (a : Answer). AreReadable (handed_out h (resize viewer cols rows) a (e ∷ []))) (sym s.1.1.3) tt
handed-readable h (take_most most) answer (e ∷ []) l s = subst (λ (a : Answer). AreReadable (handed_out h (take_most most) a (e ∷ []))) (sym s.1.1.0) tt
handed-readable h (leave viewer) answer (e ∷ []) l s = subst (λ (a : Answer). AreReadable (handed_out h (leave viewer) a (e ∷ []))) (sym s.1.1.0) tt
handed-readable h (close cause) answer (e ∷ []) l s = subst (λ (a : Answer). AreReadable (handed_out h (close cause) a (e ∷ []))) (sym s.1.1.0) tt
