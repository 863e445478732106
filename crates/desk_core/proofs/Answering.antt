-- A call that adds nothing: what the rule answers, and that the desk stays.
use Rattle.std.proofs.Common.{◌≡◌, ℕ, List, [], ◌∷◌, length, Bool, true, false, not, ◌&&◌, sym, subst, append-nil}
use Rattle.std.specs.Prelude.{Option, Some, None, Result, Ok, Err, ◌==◌, nat_lt}
use Rattle.std.specs.Option.{option_map}
use Rattle.gate_model.specs.declared.act.Act.{Act}
use Rattle.gate_model.specs.declared.answer.Answer.{Answer}
use Rattle.gate_model.specs.declared.answer.Answer.TheVariants.{Feed as fed, Join as joined_as, Read as was_read, Write as was_written, Resize as was_resized}
use Rattle.gate_model.specs.declared.cause.Cause.{Cause}
use Rattle.gate_model.specs.declared.event.Event.{Event}
use Rattle.gate_model.specs.declared.event.Event.TheVariants.{Feed as feed, Join as join, Read as read, Write as write, Resize as resize}
use Rattle.gate_model.specs.declared.feed_refusal.FeedRefusal.{FeedRefusal}
use Rattle.gate_model.specs.declared.feed_refusal.FeedRefusal.TheVariants.{Closed as feed_closed, Worn as feed_worn, NoMemory as feed_no_memory}
use Rattle.gate_model.specs.declared.join_refusal.JoinRefusal.{JoinRefusal}
use Rattle.gate_model.specs.declared.join_refusal.JoinRefusal.TheVariants.{Closed as join_closed, Forbidden as join_forbidden, TooMany as join_too_many, Worn as join_worn, NoMemory as join_no_memory}
use Rattle.gate_model.specs.declared.read_answer.ReadAnswer.{ReadAnswer}
use Rattle.gate_model.specs.declared.read_answer.ReadAnswer.TheVariants.{Ended as over, Empty, Hold}
use Rattle.gate_model.specs.declared.read_refusal.ReadRefusal.{ReadRefusal}
use Rattle.gate_model.specs.declared.read_refusal.ReadRefusal.TheVariants.{NoViewer as read_no_viewer, Worn as read_worn}
use Rattle.gate_model.specs.declared.write_refusal.WriteRefusal.{WriteRefusal}
use Rattle.gate_model.specs.declared.write_refusal.WriteRefusal.TheVariants.{NoViewer as write_no_viewer, Closed as write_closed, Worn as write_worn, NoMemory as write_no_memory}
use Rattle.gate_model.specs.declared.resize_refusal.ResizeRefusal.{ResizeRefusal}
use Rattle.gate_model.specs.declared.resize_refusal.ResizeRefusal.TheVariants.{NoViewer as resize_no_viewer, Closed as resize_closed, Denied, Same, Worn as resize_worn, NoMemory as resize_no_memory}
use Rattle.gate_model.specs.declared.sharing.Asked.{Asked}
use Rattle.gate_model.specs.session.History.{History, newest, joined, share_mode, is_closed, is_full}
use Rattle.gate_model.specs.session.Delivered.{position, ended}
use Rattle.gate_model.specs.session.Rights.{is_live, live_count, role_in, is_control}
use Rattle.gate_model.specs.session.Waiting.{waiting}
use Rattle.gate_model.specs.Limits.{most_waiting}
use Rattle.gate_model.specs.session.Refusals.{first_of, only_if, close_cause, is_forbidden, is_crowded, feed_refusal, join_refusal, read_stop, write_refusal, has_size, resize_refusal}
use Rattle.gate_model.specs.session.Calls.{IsPiece, IsWrite, Step}
use Rattle.gate_model.specs.terminal.Sizes.{IsScreenSize}
use Rattle.gate_model.proofs.Stepping.{feed_stop, join_stop, read_stopped, write_stop, resize_stop}
use Rattle.desk_core.specs.Desk.{DeskState, Stands}
use Rattle.desk_core.specs.Calls.{Answered, Ended, OnGiven, OnNothing, feed_answer, join_answer, read_answer, write_answer, resize_answer}

pub stays : (d : DeskState) (h : History) (event : Event) (answer : Answer) (w : List ℕ) → Stands d h → Step h event answer [] → Answered h event answer d w w
stays d h event answer w s step = record { added = []; step = step; stands = s; appended = sym (append-nil w) }

pub feed_stops : (d : DeskState) (h : History) (bs : List ℕ) (now : ℕ) (r : FeedRefusal) (w : List ℕ) → Stands d h → IsPiece bs → feed_refusal h ≡ Some r → Ended h (feed bs now) (feed_answer (Err r)) d d w w
feed_stops d h bs now (feed_closed c) w s piece e = stays d h (feed bs now) (fed (Err (feed_closed c))) w s (feed_stop h bs now (feed_closed c) piece e)
feed_stops d h bs now (feed_worn n) w s piece e = stays d h (feed bs now) (fed (Err (feed_worn n))) w s (feed_stop h bs now (feed_worn n) piece e)
feed_stops d h bs now feed_no_memory w s piece e = absurd (never (close_cause h) (is_full h) e)
  where
    never : (o : Option Cause) (b : Bool) → first_of (option_map feed_closed o ∷ only_if b (feed_worn (length h)) ∷ []) ≡ Some feed_no_memory → ⊥
    never (Some c) b q = let z : Some (feed_closed c) ≡ Some feed_no_memory = q in cc
    never None true q = let z : Some (feed_worn (length h)) ≡ Some feed_no_memory = q in cc
    never None false q = let z : None ≡ Some feed_no_memory = q in cc

pub join_stops : (d : DeskState) (h : History) (asked : Asked) (r : JoinRefusal) (w : List ℕ) → Stands d h → join_refusal h asked ≡ Some r → Ended h (join asked) (join_answer (Err r)) d d w w
join_stops d h asked (join_closed c) w s e = stays d h (join asked) (joined_as (Err (join_closed c))) w s (join_stop h asked (join_closed c) e)
join_stops d h asked join_forbidden w s e = stays d h (join asked) (joined_as (Err join_forbidden)) w s (join_stop h asked join_forbidden e)
join_stops d h asked (join_too_many live number) w s e = stays d h (join asked) (joined_as (Err (join_too_many live number))) w s (join_stop h asked (join_too_many live number) e)
join_stops d h asked (join_worn n) w s e = stays d h (join asked) (joined_as (Err (join_worn n))) w s (join_stop h asked (join_worn n) e)
join_stops d h asked join_no_memory w s e = absurd (never (close_cause h) (is_forbidden (share_mode h) asked) (is_crowded h) (is_full h) e)
  where
    never : (o : Option Cause) (a b c : Bool) → first_of (option_map join_closed o ∷ only_if a join_forbidden ∷ only_if b (join_too_many (live_count h) (joined h)) ∷ only_if c (join_worn (length h)) ∷ []) ≡ Some join_no_memory → ⊥
    never (Some x) a b c q = let z : Some (join_closed x) ≡ Some join_no_memory = q in cc
    never None true b c q = let z : Some join_forbidden ≡ Some join_no_memory = q in cc
    never None false true c q = let z : Some (join_too_many (live_count h) (joined h)) ≡ Some join_no_memory = q in cc
    never None false false true q = let z : Some (join_worn (length h)) ≡ Some join_no_memory = q in cc
    never None false false false q = let z : None ≡ Some join_no_memory = q in cc

pub write_stops : (d : DeskState) (h : History) (v : ℕ) (acts : List Act) (r : WriteRefusal) (w : List ℕ) → Stands d h → IsWrite acts → write_refusal h v ≡ Some r → Ended h (write v acts) (write_answer (Err r)) d d w w
write_stops d h v acts write_no_viewer w s is e = stays d h (write v acts) (was_written (Err write_no_viewer)) w s (write_stop h v acts write_no_viewer is e)
write_stops d h v acts (write_closed c) w s is e = stays d h (write v acts) (was_written (Err (write_closed c))) w s (write_stop h v acts (write_closed c) is e)
write_stops d h v acts (write_worn n) w s is e = stays d h (write v acts) (was_written (Err (write_worn n))) w s (write_stop h v acts (write_worn n) is e)
write_stops d h v acts write_no_memory w s is e = absurd (never (is_live h v) (close_cause h) (is_full h) e)
  where
    never : (a : Bool) (o : Option Cause) (b : Bool) → first_of (only_if (not a) write_no_viewer ∷ option_map write_closed o ∷ only_if b (write_worn (length h)) ∷ []) ≡ Some write_no_memory → ⊥
    never false o b q = let z : Some write_no_viewer ≡ Some write_no_memory = q in cc
    never true (Some c) b q = let z : Some (write_closed c) ≡ Some write_no_memory = q in cc
    never true None true q = let z : Some (write_worn (length h)) ≡ Some write_no_memory = q in cc
    never true None false q = let z : None ≡ Some write_no_memory = q in cc

pub resize_stops : (d : DeskState) (h : History) (v c r : ℕ) (refusal : ResizeRefusal) (w : List ℕ) → Stands d h → IsScreenSize c r → resize_refusal h v c r ≡ Some refusal → Ended h (resize v c r) (resize_answer (Err refusal)) d d w w
resize_stops d h v c r resize_no_viewer w s is e = stays d h (resize v c r) (was_resized (Err resize_no_viewer)) w s (resize_stop h v c r resize_no_viewer is e)
resize_stops d h v c r (resize_closed k) w s is e = stays d h (resize v c r) (was_resized (Err (resize_closed k))) w s (resize_stop h v c r (resize_closed k) is e)
resize_stops d h v c r Denied w s is e = stays d h (resize v c r) (was_resized (Err Denied)) w s (resize_stop h v c r Denied is e)
resize_stops d h v c r Same w s is e = stays d h (resize v c r) (was_resized (Err Same)) w s (resize_stop h v c r Same is e)
resize_stops d h v c r (resize_worn n) w s is e = stays d h (resize v c r) (was_resized (Err (resize_worn n))) w s (resize_stop h v c r (resize_worn n) is e)
resize_stops d h v c r resize_no_memory w s is e = absurd (never (is_live h v) (close_cause h) (is_control (role_in h v)) (has_size h c r) (is_full h) e)
  where
    never : (a : Bool) (o : Option Cause) (b d f : Bool) → first_of (only_if (not a) resize_no_viewer ∷ option_map resize_closed o ∷ only_if (not b) Denied ∷ only_if d Same ∷ only_if f (resize_worn (length h)) ∷ []) ≡ Some resize_no_memory → ⊥
    never false o b d f q = let z : Some resize_no_viewer ≡ Some resize_no_memory = q in cc
    never true (Some k) b d f q = let z : Some (resize_closed k) ≡ Some resize_no_memory = q in cc
    never true None false d f q = let z : Some Denied ≡ Some resize_no_memory = q in cc
    never true None true true f q = let z : Some Same ≡ Some resize_no_memory = q in cc
    never true None true false true q = let z : Some (resize_worn (length h)) ≡ Some resize_no_memory = q in cc
    never true None true false false q = let z : None ≡ Some resize_no_memory = q in cc

-- what may stop a read
stop_kinds : (h : History) (v : ℕ) (r : Result ReadAnswer ReadRefusal) (P : Result ReadAnswer ReadRefusal → Type 0) → read_stop h v ≡ Some r
    → P (Err read_no_viewer) → P (Ok over) → P (Ok Empty) → P (Ok (Hold (waiting h v))) → P (Err (read_worn (length h))) → P r
stop_kinds h v r P e p1 p2 p3 p4 p5 = cases (is_live h v) (ended h v) (is_closed h) (position h v == newest h) (nat_lt most_waiting (waiting h v)) (is_full h) e
  where
    given : (x : Result ReadAnswer ReadRefusal) → P x → Some x ≡ Some r → P r
    given x p q = let same : x ≡ r = cc in subst P same p

    cases : (a b c d k f : Bool) → first_of (only_if (not a) (Err read_no_viewer) ∷ only_if b (Ok over) ∷ only_if (not c && d) (Ok Empty) ∷ only_if (not c && k) (Ok (Hold (waiting h v))) ∷ only_if (not c && f) (Err (read_worn (length h))) ∷ []) ≡ Some r → P r
    cases false b c d k f q = given (Err read_no_viewer) p1 q
    cases true true c d k f q = given (Ok over) p2 q
    cases true false true d k f q = absurd (let w : None ≡ Some r = q in cc)
    cases true false false true k f q = given (Ok Empty) p3 q
    cases true false false false true f q = given (Ok (Hold (waiting h v))) p4 q
    cases true false false false false true q = given (Err (read_worn (length h))) p5 q
    cases true false false false false false q = absurd (let w : None ≡ Some r = q in cc)

pub read_stops : (d : DeskState) (h : History) (v : ℕ) (r : Result ReadAnswer ReadRefusal) (w : List ℕ) → Stands d h → read_stop h v ≡ Some r → Ended h (read v) (read_answer r) d d w w
read_stops d h v r w s e = stop_kinds h v r (λ x. read_stop h v ≡ Some x → Ended h (read v) (read_answer x) d d w w) e (told (Err read_no_viewer)) (told (Ok over)) (told (Ok Empty)) (told (Ok (Hold (waiting h v)))) (told (Err (read_worn (length h)))) e
  where
    told : (x : Result ReadAnswer ReadRefusal) → read_stop h v ≡ Some x → Answered h (read v) (was_read x) d w w
    told x q = stays d h (read v) (was_read x) w s (read_stopped h v x q)

pub nothing_kept : (h : History) (v : ℕ) (r : Result ReadAnswer ReadRefusal) (P : Type 0) → read_stop h v ≡ Some r → P → OnNothing r P
nothing_kept h v r P e p = stop_kinds h v r (λ x. OnNothing x P) e p p p p p

pub nothing_given : (h : History) (v : ℕ) (r : Result ReadAnswer ReadRefusal) (P : Type 0) → read_stop h v ≡ Some r → OnGiven r P
nothing_given h v r P e = stop_kinds h v r (λ x. OnGiven x P) e tt tt tt tt tt
