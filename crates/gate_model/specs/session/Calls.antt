-- Each call of a desk after a history: its condition, the answer with which it adds nothing, and the answer
-- and the entry that it adds else (this project's own). One rule for each call; a limit and a refusal stand
-- here and in `Refusals` alone.
use Rattle.std.specs.Prelude.{◌≡◌, ℕ, ◌+◌, ◌<◌, ◌≤◌, List, [], ◌∷◌, length, take, ◌==◌, if◌then◌else◌, Bool, true, false, count_by, All, Option, Some, None, Ok, Err}
use Rattle.std.specs.Option.{option_map}
use Rattle.gate_model.specs.declared.act.Act.{Act}
use Rattle.gate_model.specs.declared.act.Act.TheVariants.{Key as key_act}
use Rattle.gate_model.specs.declared.how.How.{How}
use Rattle.gate_model.specs.declared.how.How.TheVariants.{Suffix, Fresh as Picture}
use Rattle.gate_model.specs.declared.instr.Instr.{Instr}
use Rattle.gate_model.specs.declared.sharing.Role.{Role}
use Rattle.gate_model.specs.declared.entry.Entry.{Entry}
use Rattle.gate_model.specs.declared.entry.Entry.TheVariants.{Feed, Size, Join, Read, Write, Take, Leave, Close}
use Rattle.gate_model.specs.declared.event.Event.{Event}
use Rattle.gate_model.specs.declared.event.Event.TheVariants.{Feed as feed, Join as join, Read as read, Write as write, Resize as resize, Take as take_most, Leave as leave, Close as close}
use Rattle.gate_model.specs.declared.answer.Answer.{Answer}
use Rattle.gate_model.specs.declared.answer.Answer.TheVariants.{Feed as fed, Join as joined_as, Read as was_read, Write as was_written, Resize as was_resized, Take as was_taken, Leave as was_left, Close as was_closed}
use Rattle.gate_model.specs.declared.read_answer.ReadAnswer.{ReadAnswer}
use Rattle.gate_model.specs.declared.read_answer.ReadAnswer.TheVariants.{Frames, Fresh}
use Rattle.gate_model.specs.Limits.{most_piece, most_acts}
use Rattle.gate_model.specs.picture.Shape.{Shape, OpensScreen}
use Rattle.gate_model.specs.terminal.Sizes.{IsScreenSize}
use Rattle.gate_model.specs.session.History.{History, next_stamp, newest, size_now, frames, frames_after, joined, share_mode, is_closed}
use Rattle.gate_model.specs.session.Rights.{may}
use Rattle.gate_model.specs.session.Roles.{grant_of}
use Rattle.gate_model.specs.session.Delivered.{position}
use Rattle.gate_model.specs.session.Kept.{Covers}
use Rattle.gate_model.specs.session.Output.{untaken}
use Rattle.gate_model.specs.session.Refusals.{only_if, feed_refusal, join_refusal, read_stop, write_refusal, resize_refusal, leave_refusal, close_refusal}

-- ---- what a call is given

-- a feed has 1 to 65,536 bytes
pub record IsPiece (bytes : List ℕ) : Type 0 where
  pub some : 1 ≤ length bytes
  pub few : length bytes ≤ most_piece

-- a write has at most 4,096 acts
pub record IsWrite (acts : List Act) : Type 0 where
  pub few : length acts ≤ most_acts

-- the call meets its condition
abbrev pub MeetsCondition : Event → Type 0
MeetsCondition (feed bytes now) = IsPiece bytes
MeetsCondition (write viewer acts) = IsWrite acts
MeetsCondition (resize viewer cols rows) = IsScreenSize cols rows
MeetsCondition event = Unit {0}

-- ---- a call that adds nothing

-- the answer of such a call; of any other call, None
abbrev pub stop_of : History → Event → Option Answer
stop_of h (feed bytes now) = option_map (λ refusal. fed (Err refusal)) (feed_refusal h)
stop_of h (join asked) = option_map (λ refusal. joined_as (Err refusal)) (join_refusal h asked)
stop_of h (read viewer) = option_map was_read (read_stop h viewer)
stop_of h (write viewer acts) = option_map (λ refusal. was_written (Err refusal)) (write_refusal h viewer)
stop_of h (resize viewer cols rows) = option_map (λ refusal. was_resized (Err refusal)) (resize_refusal h viewer cols rows)
stop_of h (take_most most) = only_if (length (take most (untaken h)) == 0) (was_taken [] (is_closed h))
stop_of h (leave viewer) = option_map (λ refusal. was_left (Err refusal)) (leave_refusal h viewer)
stop_of h (close cause) = option_map (λ refusal. was_closed (Err refusal)) (close_refusal h)

-- ---- a call that adds an entry

-- numbers below 256
abbrev pub AreBytes : List ℕ → Type 0
AreBytes bytes = All (λ b. b < 256) bytes

-- how many frames come after the viewer's position
abbrev pub lacked : History → ℕ → ℕ
lacked h viewer = length (frames_after (position h viewer) (frames h))

-- the list has a frame's shape, for the size in force, and ends with the newest stamp
abbrev pub ShowsNewest : History → List Instr → Type 0
ShowsNewest h is = Shape (size_now h).columns (size_now h).rows is (newest h)

-- how a viewer is brought up to date that was given everything up to the stamp t: by the frames above it, exactly
-- where each of them is kept, else by a picture of the newest screen
abbrev pub Updates : History → ℕ → How → Type 0
Updates h t Suffix = Covers h t
Updates h t (Picture is) = (Covers h t → ⊥) × ShowsNewest h is

-- what a read answers that brings the viewer up to date so
abbrev pub updated_as : History → ℕ → How → ReadAnswer
updated_as h viewer Suffix = Frames (lacked h viewer) (newest h) (is_closed h)
updated_as h viewer (Picture is) = Fresh (newest h) (is_closed h)

abbrev pub is_key_act : Act → Bool
is_key_act (key_act keysym pressed) = true
is_key_act a = false

-- the answer and the entry of a call that nothing stops. A feed answers the stamp of its frame; a join the
-- viewer, the role that it gets and the newest stamp; a read the newest stamp, whether the session is closed, and
-- the number of the frames, where it gives them; a write the number of its key acts, which count where the viewer
-- may type and are denied where it may not; a take some of the bytes that wait
abbrev pub Adds : History → Event → Answer → Entry → Type 0
Adds h (feed bytes now) answer entry = let stamp = next_stamp (newest h) now in
    AreBytes bytes × (frame : List Instr) × Shape (size_now h).columns (size_now h).rows frame stamp × (answer ≡ fed (Ok stamp)) × (entry ≡ Feed bytes stamp frame)
Adds h (join asked) answer entry = let viewer = joined h + 1 in
    (role : Role) × (first : List Instr) × (grant_of (share_mode h) asked ≡ Ok role) × ShowsNewest h first × (answer ≡ joined_as (Ok record { viewer = viewer; role = role; stamp = newest h })) × (entry ≡ Join viewer role first)
Adds h (read viewer) answer entry =
    (how : How) × Updates h (position h viewer) how × (answer ≡ was_read (Ok (updated_as h viewer how))) × (entry ≡ Read viewer how)
Adds h (write viewer acts) answer entry = let keys = count_by is_key_act acts in
    (answer ≡ was_written (Ok record { keys = if may h viewer then keys else 0; denied = if may h viewer then 0 else keys })) × (entry ≡ Write viewer acts)
Adds h (resize viewer cols rows) answer entry = let stamp = newest h + 1 in
    (frame : List Instr) × Shape cols rows frame stamp × OpensScreen frame × (answer ≡ was_resized (Ok stamp)) × (entry ≡ Size viewer cols rows stamp frame)
Adds h (take_most most) answer entry = let bytes = take most (untaken h) in
    (answer ≡ was_taken bytes (is_closed h)) × (entry ≡ Take (length bytes))
Adds h (leave viewer) answer entry = (answer ≡ was_left (Ok tt)) × (entry ≡ Leave viewer)
Adds h (close cause) answer entry = (answer ≡ was_closed (Ok tt)) × (entry ≡ Close cause)

-- what a take of so many bytes adds
abbrev pub take_entry : ℕ → List Entry
take_entry count = if count == 0 then [] else Take count ∷ []

-- ---- each call

-- the call answers so, and adds these entries, none or one
abbrev pub Ends : History → Event → Answer → List Entry → Type 0
Ends h event answer [] = stop_of h event ≡ Some answer
Ends h event answer (entry ∷ []) = (stop_of h event ≡ None) × Adds h event answer entry
Ends h event answer entries = ⊥

-- .. where it meets its condition; a call that doesn't is no step
abbrev pub Step : History → Event → Answer → List Entry → Type 0
Step h event answer added = MeetsCondition event × Ends h event answer added
