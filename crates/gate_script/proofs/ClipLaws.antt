-- Bytes that are fed, what is given of them, and how `clip` ends.
use Rattle.std.proofs.Common.{◌≡◌, ℕ, ◌+◌, ◌-◌, ◌<◌, ◌≤◌, List, [], ◌++◌, length, length-append, take, drop, ◌⊎◌, inl, inr, refl, ap, sym, ◌∙◌, subst, arith, append_assoc, append-nil}
use Rattle.std.proofs.lemmas.List.{take-append-drop, take-take, take_all, take_min, length-take-le}
use Rattle.std.proofs.Math.Seq.{take-add, take-append-add}
use Rattle.std.specs.Prelude.{Option, Ok, Err, min}
use Rattle.clip_stream.specs.Pasted.{pasted}
use Rattle.clip_stream.specs.Sources.{Gave, IsOver, rest_of}
use Rattle.clip_stream.specs.declared.paster.Paster.{Paster}
use Rattle.gate_model.specs.Sequences.{BeginsWith}
use Rattle.gate_outside.specs.Edge.{AtEnd, GainedFront, came, gained}
use Rattle.gate_outside.specs.declared.failed.Failed.{Failed}
use Rattle.gate_outside.proofs.Moved.{came-came, came-none, gained-gained, gained-none}
use Rattle.script_grammar.specs.declared.form.Form.TheVariants.{Clip}
use Rattle.gate_script.specs.Clipping.{ClipOutcome, Copied, EndsWith, HasPulled, HasWritten, IsClipStatus, most_clip}
use Rattle.gate_script.specs.Outcomes.{Outcome, Ran}
use Rattle.gate_script.specs.PlayOutcomes.{ReadAndTold}

-- ---- by the status

module _ (left : Option (List ℕ)) (bytes : List ℕ) where
  at_done : (a : List ℕ) → AtEnd left × (length bytes ≤ most_clip) × (a ≡ pasted bytes) → ClipOutcome 0 left bytes a []
  at_done a p = record { no_frames = refl; done = λ e. p; too_long = λ e. absurd (omega (arith, e)); read_fault = λ e. absurd (omega (arith, e)); write_fault = λ e. absurd (omega (arith, e)); memory = λ e. absurd (omega (arith, e)); only = inl refl }

  at_long : (a : List ℕ) → (most_clip < length bytes) × (a ≡ pasted (take most_clip bytes)) → ClipOutcome 11 left bytes a []
  at_long a p = record { no_frames = refl; done = λ e. absurd (omega (arith, e)); too_long = λ e. p; read_fault = λ e. absurd (omega (arith, e)); write_fault = λ e. absurd (omega (arith, e)); memory = λ e. absurd (omega (arith, e)); only = inr (inr (inr (inr refl))) }

  at_read_fault : (a : List ℕ) → BeginsWith (pasted (take most_clip bytes)) a → ClipOutcome 4 left bytes a []
  at_read_fault a p = record { no_frames = refl; done = λ e. absurd (omega (arith, e)); too_long = λ e. absurd (omega (arith, e)); read_fault = λ e. p; write_fault = λ e. absurd (omega (arith, e)); memory = λ e. absurd (omega (arith, e)); only = inr (inl refl) }

  at_write_fault : (a : List ℕ) → BeginsWith (pasted (take most_clip bytes)) a → ClipOutcome 5 left bytes a []
  at_write_fault a p = record { no_frames = refl; done = λ e. absurd (omega (arith, e)); too_long = λ e. absurd (omega (arith, e)); read_fault = λ e. absurd (omega (arith, e)); write_fault = λ e. p; memory = λ e. absurd (omega (arith, e)); only = inr (inr (inl refl)) }

-- no memory was found, and nothing was read or written
pub no_memory_clip : (left wrote : Option (List ℕ)) → ReadAndTold left left wrote wrote (λ b a. ClipOutcome 6 left b a [])
no_memory_clip left wrote = record {
  bytes = [];
  a = [];
  read = sym (came-none left);
  answered = sym (gained-none wrote);
  holds = record { no_frames = refl; done = λ e. absurd (omega (arith, e)); too_long = λ e. absurd (omega (arith, e)); read_fault = λ e. absurd (omega (arith, e)); write_fault = λ e. absurd (omega (arith, e)); memory = λ e. (refl, refl); only = inr (inr (inr (inl refl))) };
}

-- ---- what is pulled is written

pub pull_first : (s t : Paster) (now : List ℕ) (wrote : Option (List ℕ)) → Gave s t now → HasPulled s t now wrote wrote
pull_first s t now wrote gave = ([], sym (gained-none wrote), gave)

pub pull_next : (s t u : Paster) (waiting now : List ℕ) (wrote was is : Option (List ℕ)) → HasPulled s t waiting wrote was → is ≡ gained was waiting → Gave t u now → HasPulled s u now wrote is
pull_next s t u waiting now wrote was is p e gave = (
  p.0 ++ waiting,
  e ∙ ap (λ (w : Option (List ℕ)). gained w waiting) p.1 ∙ gained-gained wrote p.0 waiting,
  λ more. p.2 more ∙ ap (λ x. (p.0 ++ waiting) ++ x) (gave more) ∙ sym (append_assoc (p.0 ++ waiting) now (rest_of u more)),
)

-- nothing was pulled any more
pub pull_done : (s t : Paster) (into : List ℕ) (n : ℕ) (wrote is : Option (List ℕ)) → HasPulled s t (take n into) wrote is → n ≡ 0 → HasWritten (Ok tt) s [] t wrote is
pull_done s t into n wrote is p e = (p.0, p.1, λ more. p.2 more ∙ ap (λ x. x ++ rest_of t more) (ap (λ k. p.0 ++ take k into) e ∙ append-nil p.0))

-- a front of it was written
pub pull_failed : (s t u : Paster) (f : Failed) (waiting : List ℕ) (wrote was is : Option (List ℕ)) → HasPulled s t waiting wrote was → GainedFront was is waiting → HasWritten (Err f) s [] u wrote is
pull_failed s t u f waiting wrote was is p front =
    let n = front.0 in (
      p.0 ++ take n waiting,
      front.2 ∙ ap (λ (w : Option (List ℕ)). gained w (take n waiting)) p.1 ∙ gained-gained wrote p.0 (take n waiting),
      λ more. (
        drop n waiting ++ rest_of t more,
        p.2 more
            ∙ ap (λ w. (p.0 ++ w) ++ rest_of t more) (sym (take-append-drop n waiting))
            ∙ ap (λ x. x ++ rest_of t more) (sym (append_assoc p.0 (take n waiting) (drop n waiting)))
            ∙ append_assoc (p.0 ++ take n waiting) (drop n waiting) (rest_of t more),
      ),
    )

-- less is to be given and written
pub pull_smaller : (t u : Paster) (into : List ℕ) (n m : ℕ) → Gave t u (take m into) → m ≤ length into → 0 < n → m + length (rest_of u []) < n + length (rest_of t [])
pull_smaller t u into n m gave fits some = omega (arith, ap length (gave []), length-append (take m into) (rest_of u []), length-take-le m into fits)

-- ---- a piece is fed part by part

module _ (s t u v : Paster) (at n : ℕ) (piece slice : List ℕ) (wrote was is : Option (List ℕ)) (before : HasWritten (Ok tt) s (take at piece) t wrote was) (fed : (more : List ℕ) → rest_of t (take n slice ++ more) ≡ rest_of u more) (same : slice ≡ drop at piece) where
  fed_so : (more : List ℕ) → rest_of s (take (at + n) piece ++ more) ≡ before.0 ++ rest_of u more
  fed_so more =
      ap (λ x. rest_of s (x ++ more)) (take-add at n piece)
      ∙ ap (rest_of s) (append_assoc (take at piece) (take n (drop at piece)) more)
      ∙ before.2 (take n (drop at piece) ++ more)
      ∙ ap (λ x. before.0 ++ rest_of t (take n x ++ more)) (sym same)
      ∙ ap (λ x. before.0 ++ x) (fed more)

  pub feed_next : HasWritten (Ok tt) u [] v was is → HasWritten (Ok tt) s (take (at + n) piece) v wrote is
  feed_next d = (
    before.0 ++ d.0,
    d.1 ∙ ap (λ (w : Option (List ℕ)). gained w d.0) before.1 ∙ gained-gained wrote before.0 d.0,
    λ more. fed_so more ∙ ap (λ x. before.0 ++ x) (d.2 more) ∙ sym (append_assoc before.0 d.0 (rest_of v more)),
  )

  pub feed_failed : (f : Failed) → HasWritten (Err f) u [] v was is → HasWritten (Err f) s piece v wrote is
  feed_failed f d = (
    before.0 ++ d.0,
    d.1 ∙ ap (λ (w : Option (List ℕ)). gained w d.0) before.1 ∙ gained-gained wrote before.0 d.0,
    λ more.
        let left : List ℕ = drop (at + n) piece ++ more in
        let cut = d.2 left in (
          cut.0,
          ap (λ x. rest_of s (x ++ more)) (sym (take-append-drop (at + n) piece))
              ∙ ap (rest_of s) (append_assoc (take (at + n) piece) (drop (at + n) piece) more)
              ∙ fed_so left ∙ ap (λ x. before.0 ++ x) cut.1 ∙ sym (append_assoc before.0 d.0 cut.0),
        ),
  )

-- all of it was fed
pub fed_all : (s t : Paster) (at : ℕ) (piece : List ℕ) (wrote is : Option (List ℕ)) → length piece ≤ at → HasWritten (Ok tt) s (take at piece) t wrote is → HasWritten (Ok tt) s piece t wrote is
fed_all s t at piece wrote is whole w = subst (λ (x : List ℕ). HasWritten (Ok tt) s x t wrote is) (take_all at piece whole) w

pub fed_none : (s : Paster) (piece : List ℕ) (wrote : Option (List ℕ)) → HasWritten (Ok tt) s (take 0 piece) s wrote wrote
fed_none s piece wrote = ([], sym (gained-none wrote), λ more. refl)

-- ---- the end of the input

pub ends_well : (s f t : Paster) (Fault : Type 0) (status : ℕ) (wrote is : Option (List ℕ)) → ((more : List ℕ) → rest_of f more ≡ rest_of s []) → HasWritten (Ok tt) f [] t wrote is → IsOver t → EndsWith status Fault (rest_of s []) wrote is status
ends_well s f t Fault status wrote is none w over =
    let all : rest_of s [] ≡ w.0 = sym (none []) ∙ w.2 [] ∙ ap (λ x. w.0 ++ x) (over.1 []) ∙ append-nil w.0 in
    inl (refl, w.1 ∙ ap (gained wrote) (sym all))

pub ends_cut : (s f t : Paster) (Fault : Type 0) (e : Failed) (status : ℕ) (wrote is : Option (List ℕ)) → ((more : List ℕ) → rest_of f more ≡ rest_of s []) → HasWritten (Err e) f [] t wrote is → Fault → EndsWith status Fault (rest_of s []) wrote is 5
ends_cut s f t Fault e status wrote is none w fault =
    let cut = w.2 [] in
    inr (refl, fault, w.0, w.1, (cut.0, sym (none []) ∙ cut.1))

-- ---- piece by piece

pub copied_none : (t : Paster) (left wrote : Option (List ℕ)) → ((more : List ℕ) → rest_of t more ≡ pasted more) → Copied left left wrote wrote t 0
copied_none t left wrote fresh = record { bytes = []; a = []; came_is = sym (came-none left); count = refl; answered = sym (gained-none wrote); so = λ more. sym (fresh more) }

-- the bytes that count, with a piece more
counted_more : (bytes piece : List ℕ) → length bytes ≤ most_clip → take most_clip (bytes ++ piece) ≡ take most_clip bytes ++ take (most_clip - length bytes) piece
counted_more bytes piece few =
    let all : length bytes + (most_clip - length bytes) ≡ most_clip = omega (arith, few) in
    ap (λ n. take n (bytes ++ piece)) (sym all)
    ∙ take-append-add bytes piece (most_clip - length bytes)
    ∙ ap (λ x. x ++ take (most_clip - length bytes) piece) (sym (take_all most_clip bytes few))

-- of a piece that many of which count
counted_piece : (into : List ℕ) (count few left : ℕ) → count ≤ length into → few ≡ min count left → take few into ≡ take left (take count into)
counted_piece into count few left fits e =
    let long : length (take count into) ≡ count = length-take-le count into fits in
    let same : few ≡ min left (length (take count into)) = omega (arith, e, long) in
    ap (λ n. take n into) same
    ∙ sym (take-take (min left (length (take count into))) count into (omega (arith, long)))
    ∙ take_min left (take count into)

module _ (t : Paster) (read count few : ℕ) (into : List ℕ) (left0 left left' wrote0 wrote : Option (List ℕ)) (c : Copied left0 left wrote0 wrote t read) (below : read ≤ most_clip) (came_is : left ≡ came (take count into) left') (fits : count ≤ length into) (few_is : few ≡ min count (most_clip - read)) where
  abbrev bytes_now : List ℕ
  bytes_now = c.bytes ++ take count into

  counted_now : take most_clip bytes_now ≡ take most_clip c.bytes ++ take few into
  counted_now =
      counted_more c.bytes (take count into) (omega (arith, c.count, below))
      ∙ ap (λ n. take most_clip c.bytes ++ take (most_clip - n) (take count into)) c.count
      ∙ ap (λ x. take most_clip c.bytes ++ x) (sym (counted_piece into count few (most_clip - read) fits few_is))

  so_now : (more : List ℕ) → pasted (take most_clip bytes_now ++ more) ≡ c.a ++ rest_of t (take few into ++ more)
  so_now more = ap (λ x. pasted (x ++ more)) counted_now ∙ ap pasted (append_assoc (take most_clip c.bytes) (take few into) more) ∙ c.so (take few into ++ more)

  pub copied_more : (u : Paster) (wrote' : Option (List ℕ)) → HasWritten (Ok tt) t (take few into) u wrote wrote' → Copied left0 left' wrote0 wrote' u (read + count)
  copied_more u wrote' w = record {
    bytes = bytes_now;
    a = c.a ++ w.0;
    came_is = c.came_is ∙ ap (came c.bytes) came_is ∙ came-came c.bytes (take count into) left';
    count = omega (arith, length-append c.bytes (take count into), c.count, length-take-le count into fits);
    answered = w.1 ∙ ap (λ (x : Option (List ℕ)). gained x w.0) c.answered ∙ gained-gained wrote0 c.a w.0;
    so = λ more. so_now more ∙ ap (λ x. c.a ++ x) (w.2 more) ∙ sym (append_assoc c.a w.0 (rest_of u more));
  }

  pub copied_cut : (u : Paster) (f : Failed) (wrote' : Option (List ℕ)) → HasWritten (Err f) t (take few into) u wrote wrote' → ReadAndTold left0 left' wrote0 wrote' (λ b a. ClipOutcome 5 left' b a [])
  copied_cut u f wrote' w =
      let cut = w.2 [] in
      record {
        bytes = bytes_now;
        a = c.a ++ w.0;
        read = c.came_is ∙ ap (came c.bytes) came_is ∙ came-came c.bytes (take count into) left';
        answered = w.1 ∙ ap (λ (x : Option (List ℕ)). gained x w.0) c.answered ∙ gained-gained wrote0 c.a w.0;
        holds = at_write_fault left' bytes_now (c.a ++ w.0) (
          cut.0,
          ap pasted (sym (append-nil (take most_clip bytes_now))) ∙ so_now [] ∙ ap (λ x. c.a ++ x) cut.1 ∙ sym (append_assoc c.a w.0 cut.0),
        );
      }

-- ---- how the copying ends

module _ (t : Paster) (read : ℕ) (left0 left wrote0 wrote : Option (List ℕ)) (c : Copied left0 left wrote0 wrote t read) where
  -- what was written is a front of what is due, whatever is behind it
  due : (rest : List ℕ) → rest_of t [] ≡ rest → pasted (take most_clip c.bytes) ≡ c.a ++ rest
  due rest e = ap pasted (sym (append-nil (take most_clip c.bytes))) ∙ c.so [] ∙ ap (λ x. c.a ++ x) e

  pub copied_unread : ReadAndTold left0 left wrote0 wrote (λ b a. ClipOutcome 4 left b a [])
  copied_unread = record { bytes = c.bytes; a = c.a; read = c.came_is; answered = c.answered; holds = at_read_fault left c.bytes c.a (rest_of t [], due (rest_of t []) refl) }

  -- a front of the last answers
  cut : (wrote' : Option (List ℕ)) (given : List ℕ) → wrote' ≡ gained wrote given → BeginsWith (rest_of t []) given → ReadAndTold left0 left wrote0 wrote' (λ b a. ClipOutcome 5 left b a [])
  cut wrote' given e front = record {
    bytes = c.bytes;
    a = c.a ++ given;
    read = c.came_is;
    answered = e ∙ ap (λ (x : Option (List ℕ)). gained x given) c.answered ∙ gained-gained wrote0 c.a given;
    holds = at_write_fault left c.bytes (c.a ++ given) (front.0, due (given ++ front.0) front.1 ∙ sym (append_assoc c.a given front.0));
  }

  pub copied_all : (Fault : Type 0) (wrote' : Option (List ℕ)) (status : ℕ) → AtEnd left → read ≤ most_clip → EndsWith 0 Fault (rest_of t []) wrote wrote' status → ReadAndTold left0 left wrote0 wrote' (λ b a. ClipOutcome status left b a [])
  copied_all Fault wrote' status end below (inl w) =
      let few : length c.bytes ≤ most_clip = omega (arith, c.count, below) in
      record {
        bytes = c.bytes;
        a = c.a ++ rest_of t [];
        read = c.came_is;
        answered = w.1 ∙ ap (λ (x : Option (List ℕ)). gained x (rest_of t [])) c.answered ∙ gained-gained wrote0 c.a (rest_of t []);
        holds = subst (λ (k : ℕ). ClipOutcome k left c.bytes (c.a ++ rest_of t []) []) (sym w.0) (at_done left c.bytes (c.a ++ rest_of t []) (end, few, sym (due (rest_of t []) refl) ∙ ap pasted (take_all most_clip c.bytes few)));
      }
  copied_all Fault wrote' status end below (inr w) = subst (λ (k : ℕ). ReadAndTold left0 left wrote0 wrote' (λ b a. ClipOutcome k left b a [])) (sym w.0) (cut wrote' w.2 w.3 w.4)

  pub copied_long : (Fault : Type 0) (wrote' : Option (List ℕ)) (status : ℕ) → most_clip < read → EndsWith 11 Fault (rest_of t []) wrote wrote' status → ReadAndTold left0 left wrote0 wrote' (λ b a. ClipOutcome status left b a [])
  copied_long Fault wrote' status long (inl w) = record {
    bytes = c.bytes;
    a = c.a ++ rest_of t [];
    read = c.came_is;
    answered = w.1 ∙ ap (λ (x : Option (List ℕ)). gained x (rest_of t [])) c.answered ∙ gained-gained wrote0 c.a (rest_of t []);
    holds = subst (λ (k : ℕ). ClipOutcome k left c.bytes (c.a ++ rest_of t []) []) (sym w.0) (at_long left c.bytes (c.a ++ rest_of t []) (omega (arith, long, c.count), sym (due (rest_of t []) refl)));
  }
  copied_long Fault wrote' status long (inr w) = subst (λ (k : ℕ). ReadAndTold left0 left wrote0 wrote' (λ b a. ClipOutcome k left b a [])) (sym w.0) (cut wrote' w.2 w.3 w.4)

-- the statuses of an end, and the cause of 5
pub ends_only : (Fault : Type 0) (rest : List ℕ) (wrote wrote' : Option (List ℕ)) (behind status : ℕ) → (behind ≡ 0) ⊎ (behind ≡ 11) → EndsWith behind Fault rest wrote wrote' status → IsClipStatus status
ends_only Fault rest wrote wrote' behind status (inl e) (inl w) = inl (w.0 ∙ e)
ends_only Fault rest wrote wrote' behind status (inr e) (inl w) = inr (inr (inr (inr (w.0 ∙ e))))
ends_only Fault rest wrote wrote' behind status e (inr w) = inr (inr (inl w.0))

pub ends_fault : (Fault : Type 0) (rest : List ℕ) (wrote wrote' : Option (List ℕ)) (behind status : ℕ) → (behind ≡ 0) ⊎ (behind ≡ 11) → EndsWith behind Fault rest wrote wrote' status → status ≡ 5 → Fault
ends_fault Fault rest wrote wrote' behind status (inl e) (inl w) is = absurd (omega (arith, w.0, e, is))
ends_fault Fault rest wrote wrote' behind status (inr e) (inl w) is = absurd (omega (arith, w.0, e, is))
ends_fault Fault rest wrote wrote' behind status e (inr w) is = w.1

pub ends_not_4 : {A : Type 0} → (Fault : Type 0) (rest : List ℕ) (wrote wrote' : Option (List ℕ)) (behind status : ℕ) → (behind ≡ 0) ⊎ (behind ≡ 11) → EndsWith behind Fault rest wrote wrote' status → status ≡ 4 → A
ends_not_4 Fault rest wrote wrote' behind status (inl e) (inl w) is = absurd (omega (arith, w.0, e, is))
ends_not_4 Fault rest wrote wrote' behind status (inr e) (inl w) is = absurd (omega (arith, w.0, e, is))
ends_not_4 Fault rest wrote wrote' behind status e (inr w) is = absurd (omega (arith, w.0, is))

-- ---- the words

-- words of this form have another status than 2
pub clip_is_used : {A : Type 0} → (k : ℕ) → IsClipStatus k → k ≡ 2 → A
clip_is_used k (inl e) is = absurd (omega (arith, e, is))
clip_is_used k (inr (inl e)) is = absurd (omega (arith, e, is))
clip_is_used k (inr (inr (inl e))) is = absurd (omega (arith, e, is))
clip_is_used k (inr (inr (inr (inl e)))) is = absurd (omega (arith, e, is))
clip_is_used k (inr (inr (inr (inr e)))) is = absurd (omega (arith, e, is))

-- it wrote no frames
pub clip_ran : (k : ℕ) (left left' wrote wrote' framed : Option (List ℕ)) → ReadAndTold left left' wrote wrote' (λ bytes a. ClipOutcome k left' bytes a []) → Ran left left' wrote wrote' framed framed (Outcome k Clip left')
clip_ran k left left' wrote wrote' framed r = record { bytes = r.bytes; a = r.a; f = []; read = r.read; answered = r.answered; framed_on = sym (gained-none framed); holds = r.holds }
