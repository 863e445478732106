-- A step of each call from its parts.
use Rattle.std.proofs.Common.{◌≡◌, ℕ, ◌+◌, List, [], ◌∷◌, length, take, Bool, false, refl, ap, sym, ◌∙◌, subst, arith}
use Rattle.std.specs.Prelude.{Some, None, Result, Ok, Err, ◌==◌, if◌then◌else◌, count_by}
use Rattle.std.specs.Option.{option_map}
use Rattle.std.proofs.lemmas.Bool.Decides.{nat_tests}
use Rattle.gate_model.specs.declared.act.Act.{Act}
use Rattle.gate_model.specs.declared.cause.Cause.{Cause}
use Rattle.gate_model.specs.declared.closed.Closed.{Closed}
use Rattle.gate_model.specs.declared.no_viewer.NoViewer.{NoViewer}
use Rattle.gate_model.specs.declared.how.How.TheVariants.{Suffix, Fresh as Picture}
use Rattle.gate_model.specs.declared.instr.Instr.{Instr}
use Rattle.gate_model.specs.declared.joined.Joined.{Joined}
use Rattle.gate_model.specs.declared.written.Written.{Written}
use Rattle.gate_model.specs.declared.sharing.Asked.{Asked}
use Rattle.gate_model.specs.declared.entry.Entry.TheVariants.{Feed, Size, Join, Read, Write, Take, Leave, Close}
use Rattle.gate_model.specs.declared.event.Event.TheVariants.{Feed as feed, Join as join, Read as read, Write as write, Resize as resize, Take as take_most, Leave as leave, Close as close}
use Rattle.gate_model.specs.declared.answer.Answer.TheVariants.{Feed as fed, Join as joined_as, Read as was_read, Write as was_written, Resize as was_resized, Take as was_taken, Leave as was_left, Close as was_closed}
use Rattle.gate_model.specs.declared.feed_refusal.FeedRefusal.{FeedRefusal}
use Rattle.gate_model.specs.declared.join_refusal.JoinRefusal.{JoinRefusal}
use Rattle.gate_model.specs.declared.write_refusal.WriteRefusal.{WriteRefusal}
use Rattle.gate_model.specs.declared.resize_refusal.ResizeRefusal.{ResizeRefusal}
use Rattle.gate_model.specs.declared.read_answer.ReadAnswer.{ReadAnswer}
use Rattle.gate_model.specs.declared.read_answer.ReadAnswer.TheVariants.{Frames, Fresh}
use Rattle.gate_model.specs.declared.read_refusal.ReadRefusal.{ReadRefusal}
use Rattle.gate_model.specs.picture.Shape.{Shape, OpensScreen}
use Rattle.gate_model.specs.terminal.Sizes.{IsScreenSize}
use Rattle.gate_model.specs.session.History.{History, next_stamp, size_now, newest, joined, share_mode, is_closed}
use Rattle.gate_model.specs.session.Delivered.{position}
use Rattle.gate_model.specs.session.Kept.{Covers}
use Rattle.gate_model.specs.session.Output.{untaken}
use Rattle.gate_model.specs.session.Rights.{may}
use Rattle.gate_model.specs.session.Roles.{grant_of}
use Rattle.gate_model.specs.session.Refusals.{only_if, feed_refusal, join_refusal, read_stop, write_refusal, resize_refusal, leave_refusal, close_refusal}
use Rattle.gate_model.specs.session.Calls.{AreBytes, IsPiece, IsWrite, ShowsNewest, lacked, is_key_act, take_entry, Step}

-- ---- a call that nothing stops

pub feed_step : (h : History) (bytes : List ℕ) (now stamp : ℕ) (frame : List Instr) → IsPiece bytes → AreBytes bytes → feed_refusal h ≡ None → stamp ≡ next_stamp (newest h) now
    → Shape (size_now h).columns (size_now h).rows frame stamp → Step h (feed bytes now) (fed (Ok stamp)) (Feed bytes stamp frame ∷ [])
feed_step h bytes now stamp frame piece octets free is_next shape =
    (piece, (ap (option_map (λ (r : FeedRefusal). fed (Err r))) free, (octets, frame, subst (λ (t : ℕ). Shape (size_now h).columns (size_now h).rows frame t) is_next shape, ap (λ (t : ℕ). fed (Ok t)) is_next, ap (λ (t : ℕ). Feed bytes t frame) is_next)))

pub join_step : (h : History) (asked : Asked) (given : Joined) (first : List Instr) → join_refusal h asked ≡ None → grant_of (share_mode h) asked ≡ Ok given.role → given.viewer ≡ joined h + 1 → given.stamp ≡ newest h
    → ShowsNewest h first → Step h (join asked) (joined_as (Ok given)) (Join given.viewer given.role first ∷ [])
join_step h asked given first free granted number stamp shape = (
  tt,
  (
    ap (option_map (λ (r : JoinRefusal). joined_as (Err r))) free,
    (
      given.role,
      first,
      granted,
      shape,
      ap (λ (n : ℕ). joined_as (Ok record { viewer = n; role = given.role; stamp = given.stamp })) number ∙ ap (λ (t : ℕ). joined_as (Ok record { viewer = joined h + 1; role = given.role; stamp = t })) stamp,
      ap (λ (n : ℕ). Join n given.role first) number,
    ),
  ),
)

-- a read that gives the frames that the viewer lacks, or a picture
pub read_step : (h : History) (viewer count stamp : ℕ) (closed : Bool) → read_stop h viewer ≡ None → Covers h (position h viewer) → count ≡ lacked h viewer → stamp ≡ newest h → closed ≡ is_closed h
    → Step h (read viewer) (was_read (Ok (Frames count stamp closed))) (Read viewer Suffix ∷ [])
read_step h viewer count stamp closed free covers counts is_stamp closes = rw (counts, is_stamp, closes) (tt, (ap (option_map was_read) free, (Suffix, covers, refl, refl)))

pub fresh_step : (h : History) (viewer stamp : ℕ) (closed : Bool) (is : List Instr) → read_stop h viewer ≡ None → (Covers h (position h viewer) → ⊥) → ShowsNewest h is → stamp ≡ newest h → closed ≡ is_closed h
    → Step h (read viewer) (was_read (Ok (Fresh stamp closed))) (Read viewer (Picture is) ∷ [])
fresh_step h viewer stamp closed is free uncovered shape is_stamp closes = rw (is_stamp, closes) (tt, (ap (option_map was_read) free, (Picture is, (uncovered, shape), refl, refl)))

pub write_step : (h : History) (viewer : ℕ) (acts : List Act) (counts : Written) → IsWrite acts → write_refusal h viewer ≡ None → counts.keys ≡ (if may h viewer then count_by is_key_act acts else 0)
    → counts.denied ≡ (if may h viewer then 0 else count_by is_key_act acts) → Step h (write viewer acts) (was_written (Ok counts)) (Write viewer acts ∷ [])
write_step h viewer acts counts few free keys denied =
    let is : counts ≡ record { keys = if may h viewer then count_by is_key_act acts else 0; denied = if may h viewer then 0 else count_by is_key_act acts } =
    ap (λ (n : ℕ). record { keys = n; denied = counts.denied }) keys ∙ ap (λ (n : ℕ). record { keys = if may h viewer then count_by is_key_act acts else 0; denied = n }) denied in
    (few, (ap (option_map (λ (r : WriteRefusal). was_written (Err r))) free, (ap (λ (w : Written). was_written (Ok w)) is, refl)))

pub resize_step : (h : History) (viewer cols rows stamp : ℕ) (frame : List Instr) → IsScreenSize cols rows → resize_refusal h viewer cols rows ≡ None → stamp ≡ newest h + 1 → Shape cols rows frame stamp → OpensScreen frame
    → Step h (resize viewer cols rows) (was_resized (Ok stamp)) (Size viewer cols rows stamp frame ∷ [])
resize_step h viewer cols rows stamp frame size free is_next shape opens = (
  size,
  (
    ap (option_map (λ (r : ResizeRefusal). was_resized (Err r))) free,
    (frame, subst (λ (t : ℕ). Shape cols rows frame t) is_next shape, opens, ap (λ (t : ℕ). was_resized (Ok t)) is_next, ap (λ (t : ℕ). Size viewer cols rows t frame) is_next),
  ),
)

-- a take adds nothing where it hands out nothing
pub take_step : (h : History) (most : ℕ) (bytes : List ℕ) (closed : Bool) → bytes ≡ take most (untaken h) → closed ≡ is_closed h → Step h (take_most most) (was_taken bytes closed) (take_entry (length bytes))
take_step h most bytes closed hands closes = from bytes hands
  where
    from : (bs : List ℕ) → bs ≡ take most (untaken h) → Step h (take_most most) (was_taken bs closed) (take_entry (length bs))
    from [] e = (tt, ap (λ (xs : List ℕ). only_if (length xs == 0) (was_taken [] (is_closed h))) (sym e) ∙ ap (λ (c : Bool). Some (was_taken [] c)) (sym closes))
    from (b ∷ bs) e =
        let some : (length (b ∷ bs) == 0) ≡ false = grind (arith, nat_tests) in
        let told : was_taken (b ∷ bs) closed ≡ was_taken (take most (untaken h)) (is_closed h) = ap (λ (xs : List ℕ). was_taken xs closed) e ∙ ap (was_taken (take most (untaken h))) closes in
        let free : only_if (length (take most (untaken h)) == 0) (was_taken [] (is_closed h)) ≡ None =
        ap (λ (xs : List ℕ). only_if (length xs == 0) (was_taken [] (is_closed h))) (sym e) ∙ ap (λ (t : Bool). only_if t (was_taken [] (is_closed h))) some in
        subst (λ (t : Bool). Step h (take_most most) (was_taken (b ∷ bs) closed) (if t then [] else Take (length (b ∷ bs)) ∷ [])) (sym some) (tt, (free, (told, ap (λ (xs : List ℕ). Take (length xs)) e)))

pub leave_step : (h : History) (viewer : ℕ) → leave_refusal h viewer ≡ None → Step h (leave viewer) (was_left (Ok tt)) (Leave viewer ∷ [])
leave_step h viewer free = (tt, (ap (option_map (λ (r : NoViewer). was_left (Err r))) free, (refl, refl)))

pub close_step : (h : History) (cause : Cause) → close_refusal h ≡ None → Step h (close cause) (was_closed (Ok tt)) (Close cause ∷ [])
close_step h cause free = (tt, (ap (option_map (λ (r : Closed). was_closed (Err r))) free, (refl, refl)))

-- ---- a call that is stopped

pub feed_stop : (h : History) (bytes : List ℕ) (now : ℕ) (r : FeedRefusal) → IsPiece bytes → feed_refusal h ≡ Some r → Step h (feed bytes now) (fed (Err r)) []
feed_stop h bytes now r piece e = (piece, ap (option_map (λ (r : FeedRefusal). fed (Err r))) e)

pub join_stop : (h : History) (asked : Asked) (r : JoinRefusal) → join_refusal h asked ≡ Some r → Step h (join asked) (joined_as (Err r)) []
join_stop h asked r e = (tt, ap (option_map (λ (r : JoinRefusal). joined_as (Err r))) e)

pub read_stopped : (h : History) (viewer : ℕ) (r : Result ReadAnswer ReadRefusal) → read_stop h viewer ≡ Some r → Step h (read viewer) (was_read r) []
read_stopped h viewer r e = (tt, ap (option_map was_read) e)

pub write_stop : (h : History) (viewer : ℕ) (acts : List Act) (r : WriteRefusal) → IsWrite acts → write_refusal h viewer ≡ Some r → Step h (write viewer acts) (was_written (Err r)) []
write_stop h viewer acts r few e = (few, ap (option_map (λ (r : WriteRefusal). was_written (Err r))) e)

pub resize_stop : (h : History) (viewer cols rows : ℕ) (r : ResizeRefusal) → IsScreenSize cols rows → resize_refusal h viewer cols rows ≡ Some r → Step h (resize viewer cols rows) (was_resized (Err r)) []
resize_stop h viewer cols rows r size e = (size, ap (option_map (λ (r : ResizeRefusal). was_resized (Err r))) e)

pub leave_stop : (h : History) (viewer : ℕ) (r : NoViewer) → leave_refusal h viewer ≡ Some r → Step h (leave viewer) (was_left (Err r)) []
leave_stop h viewer r e = (tt, ap (option_map (λ (r : NoViewer). was_left (Err r))) e)

pub close_stop : (h : History) (cause : Cause) (r : Closed) → close_refusal h ≡ Some r → Step h (close cause) (was_closed (Err r)) []
close_stop h cause r e = (tt, ap (option_map (λ (r : Closed). was_closed (Err r))) e)
