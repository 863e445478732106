-- What each call adds to a desk, from what its parts left.
use Rattle.std.proofs.Common.{◌≡◌, ℕ, ◌+◌, ◌-◌, ◌≤◌, min, List, [], ◌∷◌, ◌++◌, length, take, drop, Bool, true, false, ◌⊎◌, inl, inr, refl, ap, sym, ◌∙◌, subst, append-nil, length-take, length-drop, arith}
use Rattle.std.specs.Prelude.{None, Some, Ok, ◌==◌, if◌then◌else◌, count_by}
use Rattle.std.proofs.Math.Seq.{take-append_seam, drop-append_seam}
use Rattle.std.proofs.lemmas.Bool.Decides.{eqb_tells}
use Rattle.std.proofs.lemmas.Bool.{eq-eqb}
use Rattle.std.proofs.lemmas.List.{take_all, take_min}
use Rattle.gate_model.specs.declared.act.Act.{Act}
use Rattle.gate_model.specs.declared.answer.Answer.TheVariants.{Feed as fed, Join as joined_as, Read as was_read, Write as was_written, Take as was_taken, Leave as was_left, Close as was_closed}
use Rattle.gate_model.specs.declared.cause.Cause.{Cause}
use Rattle.gate_model.specs.declared.event.Event.TheVariants.{Feed as feed, Join as join, Read as read, Write as write, Take as take_most, Leave as leave, Close as close}
use Rattle.gate_model.specs.declared.how.How.{How}
use Rattle.gate_model.specs.declared.how.How.TheVariants.{Suffix, Fresh}
use Rattle.gate_model.specs.declared.instr.Instr.{Instr}
use Rattle.gate_model.specs.declared.read_answer.ReadAnswer.{ReadAnswer}
use Rattle.gate_model.specs.declared.joined.Joined.{Joined}
use Rattle.gate_model.specs.declared.written.Written.{Written}
use Rattle.gate_model.specs.declared.sharing.Asked.{Asked}
use Rattle.gate_model.specs.declared.sharing.Role.{Role}
use Rattle.gate_model.specs.declared.entry.Entry.{Entry}
use Rattle.gate_model.specs.declared.entry.Entry.TheVariants.{Feed, Join, Read, Write, Take, Leave, Close}
use Rattle.gate_model.specs.terminal.Screens.{shown}
use Rattle.gate_model.specs.picture.Shape.{Shape}
use Rattle.gate_model.specs.text.Text.{texts}
use Rattle.gate_model.specs.session.History.{History, at, bytes, size_now, frames, newest, next_stamp, joined, share_mode, is_closed}
use Rattle.gate_model.specs.session.Delivered.{closing, position, handed}
use Rattle.gate_model.specs.session.Output.{untaken}
use Rattle.gate_model.specs.session.Refusals.{only_if, close_cause, feed_refusal, join_refusal, read_stop, write_refusal}
use Rattle.gate_model.specs.session.Rights.{is_live, may}
use Rattle.gate_model.specs.session.Roles.{grant_of}
use Rattle.gate_model.specs.session.Calls.{AreBytes, IsPiece, IsWrite, Updates, is_key_act, lacked, take_entry, updated_as, Step}
use Rattle.gate_model.specs.session.Runs.{handed_out}
use Rattle.gate_model.proofs.Truth.{facts_of}
use Rattle.gate_model.proofs.Histories.{plain-join, plain-read, plain-write, plain-take, plain-leave, plain-close}
use Rattle.viewer_book.specs.Book as book
use Rattle.viewer_book.specs.Book.{BookState, added, changed, removed}
use Rattle.viewer_book.specs.declared.viewer.Viewer.{Viewer}
use Rattle.display_history.specs.Laws.{texts_of}
use Rattle.desk_core.specs.declared.host.Heard.{Heard}
use Rattle.desk_core.specs.declared.desk.update.Update.{Update}
use Rattle.desk_core.specs.declared.typing.Typed.{Typed}
use Rattle.desk_core.specs.Drawing.{DrawingState, Draws}
use Rattle.desk_core.specs.Frames.{AddsFrame, FramesState}
use Rattle.desk_core.specs.Log.{LogState, with_entry}
use Rattle.desk_core.specs.Viewers.{HasBook, brought, noted}
use Rattle.desk_core.specs.Desk.{DeskState, IsWaiting, Stands}
use Rattle.desk_core.specs.Calls.{Answered}
use Rattle.desk_core.specs.Parts.{Brings, Follows, Pictures, Types}
use Rattle.desk_core.proofs.Seating.{same, waits_on, book-same, book-join, book-read, book-write, book-leave}
use Rattle.desk_core.proofs.Standing.{log_of, waits-silent, waits-more, waits-take, plain_desk, fed_desk}
use Rattle.desk_core.proofs.Following.{cols_of, rows_of}
use Rattle.desk_core.proofs.Telling.{is_open, join_goes, reading}
use Rattle.desk_core.proofs.Reaching.{brought-number, reached}
use Rattle.gate_model.proofs.Stepping.{feed_step, fresh_step, join_step, read_step, write_step, take_step, leave_step, close_step}

-- a Feed
pub added_feed : (d : DeskState) (h : History) (bs : List ℕ) (now t : ℕ) (r : Heard) (frame : List Instr) (l : LogState) (outgoing : List ℕ) (frames : FramesState) (drawing : DrawingState) → Stands d h → IsPiece bs → AreBytes bs → feed_refusal h ≡ None → t ≡ next_stamp d.frames.stamp now
    → Follows h bs r → Draws d.drawing r.host.screen t frame drawing
    → l ≡ with_entry (log_of d) (Feed bs t frame) → outgoing ≡ d.outgoing ++ r.replies.items → AddsFrame d.frames frames t frame
    → Answered h (feed bs now) (fed (Ok t)) record d { host = r.host; outgoing = outgoing; frames = frames; drawing = drawing; past = l.past; entries = l.entries } [] []
added_feed d h bs now t r frame l outgoing frames drawing s piece octets allowed is_next follows draws logs waits shows =
    let next : t ≡ next_stamp (newest h) now = is_next ∙ ap (λ (n : ℕ). next_stamp n now) s.frames.stamp in
    let shape : Shape (size_now h).columns (size_now h).rows frame t = subst (λ (k : ℕ). Shape (size_now h).columns k frame t) (rows_of h r.host (at h).shift bs s.legal follows.host) (subst (λ (k : ℕ). Shape k (shown r.host.screen).rows frame t) (cols_of h r.host (at h).shift bs s.legal follows.host) draws.over.shape) in
    let step : Step h (feed bs now) (fed (Ok t)) (Feed bs t frame ∷ []) = feed_step h bs now t frame piece octets allowed next shape in
    record {
      added = Feed bs t frame ∷ [];
      step = step;
      stands = fed_desk d h bs t frame l r.host r.replies.items outgoing frames drawing (feed bs now) (fed (Ok t)) s step follows.host follows.replies draws logs waits shows;
      appended = refl;
    }

-- a Join
pub added_join : (d : DeskState) (h : History) (asked : Asked) (role : Role) (n t : ℕ) (first : List Instr) (l : LogState) (b : BookState) (before after : List ℕ) → Stands d h → join_refusal h asked ≡ None → grant_of (share_mode h) asked ≡ Ok role → Pictures h first
    → n ≡ d.book.joined + 1 → t ≡ d.frames.stamp → l ≡ with_entry (log_of d) (Join n role first) → b ≡ added d.book role t → after ≡ before ++ texts first
    → Answered h (join asked) (joined_as (Ok record { viewer = n; role = role; stamp = t })) record d { book = b; past = l.past; entries = l.entries } before after
added_join d h asked role n t first l b before after s allowed granted pictures number stamped logs seated gains =
    let g = join_goes h asked allowed in
    let next : n ≡ joined h + 1 = omega (arith, number, s.book.joined) in
    let now : t ≡ newest h = stamped ∙ s.frames.stamp in
    let told : Joined = record { viewer = n; role = role; stamp = t } in
    let step : Step h (join asked) (joined_as (Ok told)) (Join n role first ∷ []) = join_step h asked told first allowed granted next now pictures.shows in
    let has : HasBook (added d.book role t) (Join n role first ∷ h) = book-join d.book h role first t n s.book s.legal (facts_of h s.legal) next pictures.shows now (is_open h g.goes) g.live g.number in
    let itself : (n == n) ≡ true = eq-eqb n n refl in
    let gives : (if n == n then first else []) ++ [] ≡ first = rw itself (append-nil first) in
    record {
      added = Join n role first ∷ [];
      step = step;
      stands = plain_desk d h (Join n role first) l d.outgoing b d.cause s record { plain = plain-join n role first; event = join asked; answer = joined_as (Ok told); step = step; stamp = refl; frame = refl; room = refl; mode = refl; term = refl; restores = pictures.restores; few = pictures.few } logs
          (waits-silent d.outgoing h (Join n role first) s.outgoing refl refl) (subst (λ (k : BookState). HasBook k (Join n role first ∷ h)) (sym seated) has) s.cause;
      appended = gains ∙ ap (λ (is : List Instr). before ++ texts is) (sym gives);
    }

-- a Read, whatever brings the viewer up to date
reads : (h : History) (v : ℕ) (how : How) → read_stop h v ≡ None → Updates h (position h v) how → Step h (read v) (was_read (Ok (updated_as h v how))) (Read v how ∷ [])
reads h v Suffix free covers = read_step h v (lacked h v) (newest h) (is_closed h) free covers refl refl refl
reads h v (Fresh is) free shows = fresh_step h v (newest h) (is_closed h) is free shows.0 shows.1 refl refl

pub added_read : (d : DeskState) (h : History) (v : ℕ) (u : Update) (t : ℕ) (closed : Bool) (l : LogState) (b : BookState) (before after : List ℕ) → Stands d h → read_stop h v ≡ None → Brings h v u
    → t ≡ d.frames.stamp → closed ≡ is_closed h → l ≡ with_entry (log_of d) (Read v u.how) → b ≡ changed d.book v (brought (texts_of (frames h)) (position h v) t u.how closed) → after ≡ before ++ texts (handed h (position h v) u.how ++ closing h)
    → Answered h (read v) (was_read (Ok u.answer)) record d { book = b; past = l.past; entries = l.entries } before after
added_read d h v u t closed l b before after s allowed brings stamped is logs seated gains =
    let now : t ≡ newest h = stamped ∙ s.frames.stamp in
    let step : Step h (read v) (was_read (Ok u.answer)) (Read v u.how ∷ []) = subst (λ (a : ReadAnswer). Step h (read v) (was_read (Ok a)) (Read v u.how ∷ [])) (sym brings.answers) (reads h v u.how allowed brings.updates) in
    let change : Viewer → Viewer = brought (texts_of (frames h)) (position h v) t u.how closed in
    let has : HasBook (changed d.book v change) (Read v u.how ∷ h) =
    book-read d.book h v u.how t closed change s.book (facts_of h s.legal) brings.updates now is (reading d h v s allowed).more (brought-number (texts_of (frames h)) (position h v) t u.how closed) (λ w seated. reached h v u.how t closed w s.legal (facts_of h s.legal) brings.updates now is seated) in
    let itself : (v == v) ≡ true = eq-eqb v v refl in
    let gives : (if v == v then handed h (position h v) u.how else []) ++ (if v == v then closing h else []) ≡ handed h (position h v) u.how ++ closing h = rw itself refl in
    record {
      added = Read v u.how ∷ [];
      step = step;
      stands = plain_desk d h (Read v u.how) l d.outgoing b d.cause s record { plain = plain-read v u.how; event = read v; answer = was_read (Ok u.answer); step = step; stamp = refl; frame = refl; room = refl; mode = refl; term = refl; restores = brings.restores; few = brings.few } logs
          (waits-silent d.outgoing h (Read v u.how) s.outgoing refl refl) (subst (λ (k : BookState). HasBook k (Read v u.how ∷ h)) (sym seated) has) s.cause;
      appended = gains ∙ ap (λ (is : List Instr). before ++ texts is) (sym gives);
    }

-- a Write
pub added_write : (d : DeskState) (h : History) (v : ℕ) (acts : List Act) (t : Typed) (may_type : Bool) (keys denied : ℕ) (l : LogState) (outgoing : List ℕ) (b : BookState) → Stands d h → IsWrite acts → write_refusal h v ≡ None → may_type ≡ may h v → Types h v acts t
    → keys ≡ (if may_type then count_by is_key_act acts else 0) → denied ≡ (if may_type then 0 else count_by is_key_act acts)
    → l ≡ with_entry (log_of d) (Write v acts) → outgoing ≡ d.outgoing ++ t.bytes.items → b ≡ changed d.book v (noted t.held acts)
    → Answered h (write v acts) (was_written (Ok record { keys = keys; denied = denied })) record d { outgoing = outgoing; book = b; past = l.past; entries = l.entries } [] []
added_write d h v acts t may_type keys denied l outgoing b s is allowed is_may types counted refused logs waits seated =
    let told : Written = record { keys = keys; denied = denied } in
    let step : Step h (write v acts) (was_written (Ok told)) (Write v acts ∷ []) = write_step h v acts told is allowed (counted ∙ ap (λ (q : Bool). if q then count_by is_key_act acts else 0) is_may) (refused ∙ ap (λ (q : Bool). if q then 0 else count_by is_key_act acts) is_may) in
    let has : HasBook (changed d.book v (noted t.held acts)) (Write v acts ∷ h) = book-write d.book h v acts t.held s.book types.held in
    record {
      added = Write v acts ∷ [];
      step = step;
      stands = plain_desk d h (Write v acts) l outgoing b d.cause s record { plain = plain-write v acts; event = write v acts; answer = was_written (Ok told); step = step; stamp = refl; frame = refl; room = refl; mode = refl; term = refl; restores = tt; few = tt } logs
          (subst (λ (xs : List ℕ). IsWaiting xs (Write v acts ∷ h)) (sym waits) (waits-more d.outgoing t.bytes.items h (Write v acts) s.outgoing types.bytes refl)) (subst (λ (k : BookState). HasBook k (Write v acts ∷ h)) (sym seated) has) s.cause;
      appended = refl;
    }

-- a Leave
pub added_leave : (d : DeskState) (h : History) (v : ℕ) (l : LogState) (b : BookState) → Stands d h → book.is_live d.book v ≡ true → l ≡ with_entry (log_of d) (Leave v) → b ≡ removed d.book v
    → Answered h (leave v) (was_left (Ok tt)) record d { book = b; past = l.past; entries = l.entries } [] []
added_leave d h v l b s there logs seated =
    let here : is_live h v ≡ true = sym (s.book.here v) ∙ there in
    let step : Step h (leave v) (was_left (Ok tt)) (Leave v ∷ []) = leave_step h v (rw here refl) in
    let has : HasBook (removed d.book v) (Leave v ∷ h) = book-leave d.book h v s.book here in
    record {
      added = Leave v ∷ [];
      step = step;
      stands = plain_desk d h (Leave v) l d.outgoing b d.cause s record { plain = plain-leave v; event = leave v; answer = was_left (Ok tt); step = step; stamp = refl; frame = refl; room = refl; mode = refl; term = refl; restores = tt; few = tt } logs (waits-silent d.outgoing h (Leave v) s.outgoing refl refl)
          (subst (λ (k : BookState). HasBook k (Leave v ∷ h)) (sym seated) has) s.cause;
      appended = refl;
    }

-- a Close
pub added_close : (d : DeskState) (h : History) (c : Cause) (l : LogState) → Stands d h → d.cause ≡ None → l ≡ with_entry (log_of d) (Close c)
    → Answered h (close c) (was_closed (Ok tt)) record d { past = l.past; entries = l.entries; cause = Some c } [] []
added_close d h c l s none logs = let step : Step h (close c) (was_closed (Ok tt)) (Close c ∷ []) = (let q : close_cause h ≡ None = sym s.cause ∙ none in close_step h c (rw q refl)) in record {
  added = Close c ∷ [];
  step = step;
  stands = plain_desk d h (Close c) l d.outgoing d.book (Some c) s record { plain = plain-close c; event = close c; answer = was_closed (Ok tt); step = step; stamp = refl; frame = refl; room = refl; mode = refl; term = refl; restores = tt; few = tt } logs (waits-silent d.outgoing h (Close c) s.outgoing refl refl)
      (book-same d.book h (Close c) s.book refl refl (λ u. same h (Close c) u refl refl refl refl refl refl (waits_on h u))) refl;
  appended = refl;
}

-- the first bytes, as many as there are and there is room for
hands_of : (most : ℕ) (bytes : List ℕ) (count : ℕ) → count ≡ min most (length bytes) → take count bytes ≡ take most bytes
hands_of most bytes count is = rw is (take_min most bytes)

-- what was moved to the front of a buffer, and what stayed
module _ (count : ℕ) (waits before after : List ℕ) (is : count ≡ min (length before) (length waits)) (hands : after ≡ take count waits ++ drop count before) where
  long : length (take count waits) ≡ count
  long = omega (arith, length-take count waits, is)

  pub front : take count after ≡ take count waits
  front = ap (take count) hands ∙ (ap (λ (n : ℕ). take n (take count waits ++ drop count before)) (sym long) ∙ take-append_seam (take count waits) (drop count before))

  pub rest : drop count after ≡ drop count before
  rest = ap (drop count) hands ∙ (ap (λ (n : ℕ). drop n (take count waits ++ drop count before)) (sym long) ∙ drop-append_seam (take count waits) (drop count before))

-- a Take
pub added_take : (d : DeskState) (h : History) (count : ℕ) (closed : Bool) (l : LogState) (outgoing before after : List ℕ) → Stands d h → closed ≡ is_closed h → count ≡ min (length before) (length d.outgoing) → (count ≡ 0 → ⊥)
    → l ≡ with_entry (log_of d) (Take count) → outgoing ≡ drop count d.outgoing → after ≡ take count d.outgoing ++ drop count before
    → Answered h (take_most (length before)) (was_taken (take count after) closed) record d { outgoing = outgoing; past = l.past; entries = l.entries } [] []
added_take d h count closed l outgoing before after s shut is some logs left hands =
    let bytes : List ℕ = take count after in
    let moved : bytes ≡ take count d.outgoing = front count d.outgoing before after is hands in
    let count_is : length bytes ≡ count = ap length moved ∙ omega (arith, length-take count d.outgoing, is) in
    let not_none : (count == 0) ≡ false = elim (eqb_tells count 0) [ inl p ↦ absurd (some p.1) | inr p ↦ p.0 ] in
    let entry : take_entry (length bytes) ≡ Take count ∷ [] = rw (count_is, not_none) refl in
    let step : Step h (take_most (length before)) (was_taken bytes closed) (Take count ∷ []) = subst (λ (es : List Entry). Step h (take_most (length before)) (was_taken bytes closed) es) entry (take_step h (length before) bytes closed (moved ∙ (hands_of (length before) d.outgoing count is ∙ ap (take (length before)) s.outgoing.is)) shut) in
    record {
      added = Take count ∷ [];
      step = step;
      stands = plain_desk d h (Take count) l outgoing d.book d.cause s record { plain = plain-take count; event = take_most (length before); answer = was_taken bytes closed; step = step; stamp = refl; frame = refl; room = refl; mode = refl; term = refl; restores = tt; few = tt } logs
          (subst (λ (xs : List ℕ). IsWaiting xs (Take count ∷ h)) (sym left) (waits-take d.outgoing h count s.outgoing (omega (arith, is))))
          (book-same d.book h (Take count) s.book refl refl (λ u. same h (Take count) u refl refl refl refl refl refl (waits_on h u))) s.cause;
      appended = refl;
    }

-- a take that hands nothing out
taken_none : (h : History) (most : ℕ) (bytes : List ℕ) (closed : Bool) → bytes ≡ [] → [] ≡ take most (untaken h) → closed ≡ is_closed h → Step h (take_most most) (was_taken bytes closed) []
taken_none h most bytes closed none waits shut =
    let entry : take_entry (length bytes) ≡ [] = rw none refl in
    subst (λ (es : List Entry). Step h (take_most most) (was_taken bytes closed) es) entry (take_step h most bytes closed (none ∙ waits) shut)

-- nothing waits, or there is no room
pub nothing_taken : (d : DeskState) (h : History) (count most : ℕ) (closed : Bool) (outgoing after : List ℕ) → Stands d h → closed ≡ is_closed h → count ≡ min most (length d.outgoing) → count ≡ 0 → outgoing ≡ drop count d.outgoing
    → Answered h (take_most most) (was_taken (take count after) closed) record d { outgoing = outgoing } [] []
nothing_taken d h count most closed outgoing after s shut is none left =
    let bytes : take count after ≡ [] = rw none refl in
    let waits : [] ≡ take most (untaken h) = sym (ap (λ (n : ℕ). take n d.outgoing) none) ∙ (hands_of most d.outgoing count is ∙ ap (take most) s.outgoing.is) in
    record {
      added = [];
      step = taken_none h most (take count after) closed bytes waits shut;
      stands = subst (λ (xs : List ℕ). Stands record d { outgoing = xs } h) (sym (left ∙ ap (λ (n : ℕ). drop n d.outgoing) none)) s;
      appended = refl;
    }

-- ---- a take of a list of calls

-- nothing waits, or nothing was asked for
pub none_at_most : (d : DeskState) (h : History) (most : ℕ) (bytes : List ℕ) (closed : Bool) → Stands d h → closed ≡ is_closed h → min most (length d.outgoing) ≡ 0 → bytes ≡ [] → Answered h (take_most most) (was_taken bytes closed) d [] []
none_at_most d h most bytes closed s shut none is =
    let waits : [] ≡ take most (untaken h) = hands_of most d.outgoing 0 (sym none) ∙ ap (take most) s.outgoing.is in
    record { added = []; step = taken_none h most bytes closed is waits shut; stands = s; appended = refl }

no_items : (xs : List ℕ) → length xs ≡ 0 → xs ≡ []
no_items [] none = refl
no_items (x ∷ xs) none = absurd (omega (arith, none))

-- what the step of a take tells
pub record TakeTold (h : History) (most : ℕ) (bytes : List ℕ) (closed : Bool) (added : List Entry) : Type 0 where
  pub hands : bytes ≡ take most (untaken h)
  pub closes : closed ≡ is_closed h
  pub adds : take_entry (length bytes) ≡ added

pub take_told : (h : History) (most : ℕ) (bytes : List ℕ) (closed : Bool) (added : List Entry) → Step h (take_most most) (was_taken bytes closed) added → TakeTold h most bytes closed added
take_told h most bytes closed [] s = none (length (take most (untaken h)) == 0) (eqb_tells (length (take most (untaken h))) 0) s.1
  where
    none : (b : Bool) → ((b ≡ true) × (length (take most (untaken h)) ≡ 0)) ⊎ ((b ≡ false) × (length (take most (untaken h)) ≡ 0 → ⊥)) → only_if b (was_taken [] (is_closed h)) ≡ Some (was_taken bytes closed) → TakeTold h most bytes closed []
    none true (inl p) q =
        let is : [] ≡ bytes = (let z : Some (was_taken [] (is_closed h)) ≡ Some (was_taken bytes closed) = q in cc) in
        let shut : is_closed h ≡ closed = (let z : Some (was_taken [] (is_closed h)) ≡ Some (was_taken bytes closed) = q in cc) in
        record { hands = sym is ∙ sym (no_items (take most (untaken h)) p.1); closes = sym shut; adds = rw (sym is) refl }
    none true (inr p) q = absurd (let z : true ≡ false = p.0 in cc)
    none false p q = absurd (let z : None ≡ Some (was_taken bytes closed) = q in cc)
take_told h most bytes closed (e ∷ []) s =
    let same : was_taken bytes closed ≡ was_taken (take most (untaken h)) (is_closed h) = s.1.1.0 in
    let is : bytes ≡ take most (untaken h) = cc in
    let shut : closed ≡ is_closed h = cc in
    record { hands = is; closes = shut; adds = some (length (take most (untaken h)) == 0) refl s.1.0 (ap length is) }
  where
    some : (b : Bool) → (length (take most (untaken h)) == 0) ≡ b → only_if b (was_taken [] (is_closed h)) ≡ None → length bytes ≡ length (take most (untaken h)) → take_entry (length bytes) ≡ e ∷ []
    some true is q long = absurd (let z : Some (was_taken [] (is_closed h)) ≡ None = q in cc)
    some false is q long = rw (long, is) (ap (λ (x : Entry). x ∷ []) (sym s.1.1.1))
take_told h most bytes closed (e ∷ f ∷ es) s = absurd s.1

-- a take into a buffer that has just the room
pub taken_at_most : (d : DeskState) (h : History) (most count n : ℕ) (before after items bytes : List ℕ) (closed : Bool) (new : DeskState) → Stands d h → length before ≡ min most (length d.outgoing) → Answered h (take_most (length before)) (was_taken (take count after) closed) new [] []
    → count ≤ length before → drop count after ≡ drop count before → n ≡ length before → bytes ≡ take n (after ++ drop (length after) items) → Answered h (take_most most) (was_taken bytes closed) new [] []
taken_at_most d h most count n before after items bytes closed new s room g within same_rest is_n same =
    let waits : List ℕ = untaken h in
    let told = take_told h (length before) (take count after) closed g.added g.step in
    let hands : take (length before) waits ≡ take most waits = hands_of most waits (length before) (room ∙ ap (λ (xs : List ℕ). min most (length xs)) s.outgoing.is) in
    let long : min count (length after) ≡ length before = sym (length-take count after) ∙ (ap length told.hands ∙ (length-take (length before) waits ∙ omega (arith, room, ap length s.outgoing.is))) in
    let sizes : length after - count ≡ length before - count = sym (length-drop count after) ∙ (ap length same_rest ∙ length-drop count before) in
    let full : n ≡ length after = omega (arith, long, sizes, within, is_n) in
    let whole : take count after ≡ after = take_all count after (omega (arith, long, sizes, within)) in
    let all : bytes ≡ take count after = same ∙ (ap (λ (k : ℕ). take k (after ++ drop (length after) items)) full ∙ (take-append_seam after (drop (length after) items) ∙ sym whole)) in
    record {
      added = g.added;
      step = subst (λ (es : List Entry). Step h (take_most most) (was_taken bytes closed) es) (ap take_entry (ap length all) ∙ told.adds) (take_step h most bytes closed (all ∙ (told.hands ∙ hands)) told.closes);
      stands = g.stands;
      appended = ap texts (sym (none_handed h most bytes closed g.added));
    }
  where
    none_handed : (h : History) (most : ℕ) (bytes : List ℕ) (closed : Bool) (added : List Entry) → handed_out h (take_most most) (was_taken bytes closed) added ≡ []
    none_handed h most bytes closed [] = refl
    none_handed h most bytes closed (e ∷ es) = refl
