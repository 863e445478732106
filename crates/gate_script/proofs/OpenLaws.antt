-- A session that is open stays open until it is closed, and has no more entries than it may have.
use Rattle.std.proofs.Common.{◌≡◌, ℕ, ◌+◌, ◌<◌, ◌≤◌, List, [], ◌∷◌, length, Bool, true, false, refl, ap, sym, ◌∙◌, subst, arith}
use Rattle.std.specs.Prelude.{Result, Ok, Err, OnOk, Option, Some, None}
use Rattle.std.specs.Option.{option_map}
use Rattle.std.proofs.lemmas.Bool.{leb-false}
use Rattle.gate_model.specs.declared.act.Act.{Act}
use Rattle.gate_model.specs.declared.answer.Answer.TheVariants.{Feed as fed, Join as joined_as, Read as was_read, Write as was_written}
use Rattle.gate_model.specs.declared.cause.Cause.{Cause}
use Rattle.gate_model.specs.declared.event.Event.TheVariants.{Feed as feed, Join as join_in, Read as read_as, Write as write_acts}
use Rattle.gate_model.specs.declared.feed_refusal.FeedRefusal.{FeedRefusal}
use Rattle.gate_model.specs.declared.entry.Entry.{Entry}
use Rattle.gate_model.specs.declared.entry.Entry.TheVariants.{Feed, Join, Read, Write}
use Rattle.gate_model.specs.declared.feed_refusal.FeedRefusal.TheVariants.{Closed as feed_closed, Worn as feed_worn}
use Rattle.gate_model.specs.declared.joined.Joined.{Joined}
use Rattle.gate_model.specs.declared.read_answer.ReadAnswer.{ReadAnswer}
use Rattle.gate_model.specs.declared.read_answer.ReadAnswer.TheVariants.{Frames, Fresh, Ended, Empty, Hold}
use Rattle.gate_model.specs.declared.sharing.Asked.{Asked}
use Rattle.gate_model.specs.declared.written.Written.{Written}
use Rattle.gate_model.specs.session.Calls.{Step}
use Rattle.gate_model.specs.session.History.{History, capacity, is_full}
use Rattle.gate_model.specs.Limits.{most_entries}
use Rattle.gate_model.specs.session.Refusals.{close_cause, first_of, only_if}
use Rattle.gate_model.proofs.Added.{Reads, added}
use Rattle.gate_model.proofs.Bounds.{bounds_of}
use Rattle.desk_core.specs.Desk.{DeskState, Stands}
use Rattle.desk_core.specs.Calls.{Answered, OnNothing}
use Rattle.desk_core.proofs.Telling.{no_cause, stays_open}
use Rattle.gate_script.specs.declared.halt.Halt.{Halt}
use Rattle.gate_script.specs.Calls.{IsOpenDesk, StaysOpen}
use Rattle.gate_script.proofs.StepLaws.{Gave, feed_adds, feed_stopped, join_adds, read_adds, write_adds}
use Rattle.gate_script.proofs.SessionLaws.{added_one}

-- a refused call leaves a session open
pub stays : (r : Result (Unit {0}) Halt) (d n : DeskState) → n ≡ d → OnOk r (StaysOpen 0 d n)
stays (Ok u) d n same = λ o. (subst IsOpenDesk (sym same) o, omega (arith, ap (λ (k : DeskState). k.entries) same))
stays (Err halt) d n same = tt

-- what holds anyway holds after a call that ended well
pub on_ok : (r : Result (Unit {0}) Halt) (P : Type 0) → P → OnOk r P
on_ok (Ok u) P p = p
on_ok (Err stop) P p = tt

module _ (d n : DeskState) (o : IsOpenDesk d) where
  abbrev h : History
  h = o.kept.0

  -- an entry was added that doesn't close the session
  entry_open : (more : ℕ) → more ≤ 1 → (e : Entry) → Stands n (e ∷ h) → close_cause (e ∷ h) ≡ close_cause h → n.entries ≤ most_entries → IsOpenDesk n × (d.entries + more ≤ n.entries)
  entry_open more one e stands same few = (
    record { kept = (e ∷ h, stands); not_closed = stands.cause ∙ (same ∙ (sym o.kept.1.cause ∙ o.not_closed)); few = few },
    omega (arith, one, stands.entries, o.kept.1.entries),
  )

  -- nothing changed
  same_open : n ≡ d → IsOpenDesk n × (d.entries + 0 ≤ n.entries)
  same_open same = (subst IsOpenDesk (sym same) o, omega (arith, ap (λ (k : DeskState). k.entries) same))

  pub fed_open : (bytes : List ℕ) (now stamp : ℕ) → ((h : History) → Stands d h → Answered h (feed bytes now) (fed (Ok stamp)) n [] []) → n.entries ≤ most_entries → IsOpenDesk n × (d.entries + 1 ≤ n.entries)
  fed_open bytes now stamp ends few =
      let e = ends h o.kept.1 in
      let adds = feed_adds h bytes now stamp e.added e.step in
      entry_open 1 (omega arith) (Feed bytes stamp adds.0) (added_one h (feed bytes now) (fed (Ok stamp)) n [] [] e (Feed bytes stamp adds.0) adds.1).stands refl few

  -- the host's bytes aren't refused
  pub not_shut : (bytes : List ℕ) (now : ℕ) (cause : Cause) → ((h : History) → Stands d h → Answered h (feed bytes now) (fed (Err (feed_closed cause))) n [] []) → ⊥
  not_shut bytes now cause ends =
      let e = ends h o.kept.1 in
      let step : Step h (feed bytes now) (fed (Err (feed_closed cause))) [] = subst (Step h (feed bytes now) (fed (Err (feed_closed cause)))) (feed_stopped h bytes now (feed_closed cause) e.added e.step) e.step in
      by (close_cause h) (no_cause d h o.kept.1 o.not_closed) (is_full h) (length h) step.1
    where
      by : (shut : Option Cause) → shut ≡ None → (full : Bool) (count : ℕ) → option_map (λ (r : FeedRefusal). fed (Err r)) (first_of (option_map feed_closed shut ∷ only_if full (feed_worn count) ∷ [])) ≡ Some (fed (Err (feed_closed cause))) → ⊥
      by None none true count q = let w : Some (fed (Err (feed_worn count))) ≡ Some (fed (Err (feed_closed cause))) = q in cc
      by None none false count q = let w : None ≡ Some (fed (Err (feed_closed cause))) = q in cc
      by (Some c) none full count q = let w : Some c ≡ None = none in cc

  pub joined_open : (asked : Asked) (given : Joined) (before after : List ℕ) → ((h : History) → Stands d h → Answered h (join_in asked) (joined_as (Ok given)) n before after) → n.entries ≤ most_entries → IsOpenDesk n × (d.entries + 0 ≤ n.entries)
  joined_open asked given before after ends few =
      let e = ends h o.kept.1 in
      let adds = join_adds h asked given e.added e.step in
      let entry : Entry = Join given.viewer given.role adds.first in
      entry_open 0 (omega arith) entry (added_one h (join_in asked) (joined_as (Ok given)) n before after e entry adds.adds).stands refl few

  pub written_open : (viewer : ℕ) (acts : List Act) (counts : Written) → ((h : History) → Stands d h → Answered h (write_acts viewer acts) (was_written (Ok counts)) n [] []) → n.entries ≤ most_entries → IsOpenDesk n × (d.entries + 0 ≤ n.entries)
  written_open viewer acts counts ends few =
      let e = ends h o.kept.1 in
      entry_open 0 (omega arith) (Write viewer acts) (added_one h (write_acts viewer acts) (was_written (Ok counts)) n [] [] e (Write viewer acts) (write_adds h viewer acts counts e.added e.step)).stands refl few

  -- a read of an open session that gives something finds it not full
  gave_open : (viewer : ℕ) (answer : ReadAnswer) (before after : List ℕ) → Gave answer → ((h : History) → Stands d h → Answered h (read_as viewer) (was_read (Ok answer)) n before after) → IsOpenDesk n × (d.entries + 0 ≤ n.entries)
  gave_open viewer answer before after gave ends =
      let e = ends h o.kept.1 in
      let adds = read_adds h viewer answer e.added gave e.step in
      let how = adds.0 in
      let one = added_one h (read_as viewer) (was_read (Ok answer)) n before after e (Read viewer how) adds.1 in
      let reads : Reads h viewer how = added h (read_as viewer) (was_read (Ok answer)) (Read viewer how) one.step in
      let room : length h < capacity h = leb-false (capacity h) (length h) (reads.not_full (stays_open d h o.kept.1 o.not_closed)) in
      entry_open 0 (omega arith) (Read viewer how) one.stands refl (omega (arith, one.stands.entries, room, (bounds_of h o.kept.1.legal).room))

  pub read_open : (viewer : ℕ) (answer : ReadAnswer) (before after : List ℕ) → ((h : History) → Stands d h → Answered h (read_as viewer) (was_read (Ok answer)) n before after) → OnNothing (Ok answer) (n ≡ d) → IsOpenDesk n × (d.entries + 0 ≤ n.entries)
  read_open viewer (Frames count stamp closed) before after ends same = gave_open viewer (Frames count stamp closed) before after tt ends
  read_open viewer (Fresh stamp closed) before after ends same = gave_open viewer (Fresh stamp closed) before after tt ends
  read_open viewer Ended before after ends same = same_open same
  read_open viewer Empty before after ends same = same_open same
  read_open viewer (Hold waiting) before after ends same = same_open same
