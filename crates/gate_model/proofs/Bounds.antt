-- What holds of every legal history: its numbers have bounds.
use Rattle.std.proofs.Common.{◌≡◌, ℕ, ◌+◌, ◌≤◌, List, [], ◌∷◌, ◌++◌, length, refl, ap, sym, subst, ◌∙◌, append-nil, length-append, arith}
use Rattle.std.specs.Prelude.{Option, None, unwrap_or}
use Rattle.std.proofs.lemmas.Bool.{leb-false}
use Rattle.gate_model.specs.declared.instr.Instr.{Instr}
use Rattle.gate_model.specs.declared.entry.Entry.{Entry}
use Rattle.gate_model.specs.declared.entry.Entry.TheVariants.{Start, Feed, Size, Join, Read, Write, Take, Leave, Close}
use Rattle.gate_model.specs.Limits.{most_entries, most_clock, most_joined}
use Rattle.gate_model.specs.session.Entries.{framed, stamp_of}
use Rattle.gate_model.specs.session.History.{History, capacity, newest, frames, joined}
use Rattle.gate_model.specs.declared.setup.Setup.{Setup}
use Rattle.gate_model.specs.session.Steps.{StartStep, Legal}
use Rattle.gate_model.proofs.Added.{IsNext, next}

pub record Bounds (h : History) : Type 0 where
  pub room : capacity h ≤ most_entries
  pub stamps : newest h ≤ most_clock + length (frames h)
  pub framed : length (frames h) ≤ length h
  pub few_frames : length (frames h) ≤ capacity h
  pub few_joined : joined h ≤ most_joined

first_bounds : (e : Entry) (setup : Setup) (now : ℕ) → StartStep setup now e → Bounds (e ∷ [])
first_bounds e setup now s = subst (λ (x : Entry). Bounds (x ∷ [])) (sym s.4) record { room = s.0.few_entries; stamps = omega arith; framed = omega arith; few_frames = s.0.some_entries; few_joined = omega arith }

-- an entry without a frame
plain_bounds : (g : History) (e : Entry) → Bounds g → framed e ≡ [] → stamp_of e ≡ None → capacity (e ∷ g) ≡ capacity g → joined (e ∷ g) ≤ most_joined → Bounds (e ∷ g)
plain_bounds g e b none no_stamp same few =
    let frames_same : frames (e ∷ g) ≡ frames g = ap (λ (fs : List (ℕ × List Instr)). frames g ++ fs) none ∙ append-nil (frames g) in
    let newest_same : newest (e ∷ g) ≡ newest g = ap (λ (o : Option ℕ). unwrap_or o (newest g)) no_stamp in
    record {
      room = omega (arith, b.room, same);
      stamps = omega (arith, b.stamps, newest_same, ap length frames_same);
      framed = omega (arith, b.framed, ap length frames_same);
      few_frames = omega (arith, b.few_frames, same, ap length frames_same);
      few_joined = few;
    }

next_bounds : (g : History) (e : Entry) → Bounds g → IsNext g e → Bounds (e ∷ g)
next_bounds g (Feed bytes stamp frame) b s = record {
  room = b.room;
  stamps = omega (arith, s.is_next, b.stamps, length-append (frames g) ((stamp, frame) ∷ []));
  framed = omega (arith, b.framed, length-append (frames g) ((stamp, frame) ∷ []));
  few_frames = omega (arith, b.framed, length-append (frames g) ((stamp, frame) ∷ []), leb-false (capacity g) (length g) s.is_open.not_full);
  few_joined = b.few_joined;
}
next_bounds g (Size viewer cols rows stamp frame) b s = record {
  room = b.room;
  stamps = omega (arith, s.is_next, b.stamps, length-append (frames g) ((stamp, frame) ∷ []));
  framed = omega (arith, b.framed, length-append (frames g) ((stamp, frame) ∷ []));
  few_frames = omega (arith, b.framed, length-append (frames g) ((stamp, frame) ∷ []), leb-false (capacity g) (length g) s.is_open.not_full);
  few_joined = b.few_joined;
}
next_bounds g (Join viewer role first) b s = plain_bounds g (Join viewer role first) b refl refl refl (omega (arith, s.few_joined))
next_bounds g (Read viewer how) b s = plain_bounds g (Read viewer how) b refl refl refl b.few_joined
next_bounds g (Write viewer acts) b s = plain_bounds g (Write viewer acts) b refl refl refl b.few_joined
next_bounds g (Take count) b s = plain_bounds g (Take count) b refl refl refl b.few_joined
next_bounds g (Leave viewer) b s = plain_bounds g (Leave viewer) b refl refl refl b.few_joined
next_bounds g (Close cause) b s = plain_bounds g (Close cause) b refl refl refl b.few_joined
next_bounds g (Start cols rows mode term faces entries stamp frame) b s = absurd s

pub bounds_of : (h : History) → Legal h → Bounds h
bounds_of [] l = absurd l
bounds_of (e ∷ []) l = first_bounds e l.0 l.1 l.2
bounds_of (e ∷ f ∷ g) l = next_bounds (f ∷ g) e (bounds_of (f ∷ g) l.0) (next e f g l)
