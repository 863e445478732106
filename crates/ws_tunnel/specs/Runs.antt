-- What the messages of a viewer that was let in made of its passes, and what it was sent (this project's own).
use Rattle.std.specs.Prelude.{◌≡◌, ◌⊎◌, ℕ, ◌+◌, ◌≤◌, List, [], ◌∷◌, ◌++◌, length, Bool, true, false, Contains, Option, Some, None, Result, Ok, Err}
use Rattle.gate_model.specs.declared.act.Act.{Act}
use Rattle.gate_model.specs.declared.cause.Cause.{Cause}
use Rattle.gate_model.specs.declared.entry.Entry.{Entry}
use Rattle.gate_model.specs.declared.entry.Entry.TheVariants.{Leave, Close}
use Rattle.gate_model.specs.declared.instr.Instr.{Instr}
use Rattle.gate_model.specs.declared.read_answer.ReadAnswer.{ReadAnswer}
use Rattle.gate_model.specs.declared.read_answer.ReadAnswer.TheVariants.{Frames, Fresh, Ended as read_ended, Empty, Hold}
use Rattle.gate_model.specs.declared.read_refusal.ReadRefusal.{ReadRefusal}
use Rattle.gate_model.specs.declared.read_refusal.ReadRefusal.TheVariants.{NoViewer as read_no_viewer, Worn as read_worn, NoMemory as read_no_memory}
use Rattle.gate_model.specs.declared.write_refusal.WriteRefusal.{WriteRefusal}
use Rattle.gate_model.specs.declared.write_refusal.WriteRefusal.TheVariants as written
use Rattle.gate_model.specs.session.Delivered.{delivered, ended}
use Rattle.gate_model.specs.session.History.{History, is_closed, is_full}
use Rattle.gate_model.specs.text.Text.{texts}
use Rattle.gate_model.specs.Sequences.{BeginsWith, IsLater}
use Rattle.turn_lock.specs.declared.view.View.{View}
use Rattle.shared_desk.specs.Meetings.{written_by}
use Rattle.shared_desk.specs.Members.{IsSound, ViewerState}
use Rattle.shared_desk.specs.Own.{AreReads, own_entries}
use Rattle.script_grammar.specs.Acts.{AsksRoom, HasTooMany, IsBad, IsCut}
use Rattle.viewer_acts.specs.Parts.{AreParts, Part, joined}
use Rattle.viewer_acts.specs.Doing.{Did, GoesOn, IsStoppedByMemory, StopCause as PartCause, WritesParts}
use Rattle.viewer_acts.specs.Leaving.{LeftNow, MayLeave}
use Rattle.ws_tunnel.specs.Answered.{Answered, IsReadStopped, WasRead}
use Rattle.ws_tunnel.specs.Links.{NoneLeft}
use Rattle.ws_tunnel.specs.Heard.{AreMessages, IsMessage, asks_end, before_end, heard}
use Rattle.ws_tunnel.specs.declared.ends.WsEnd.{WsEnd}
use Rattle.ws_tunnel.specs.declared.ends.WsEnd.TheVariants.{Ended, Disconnected, Refused, Bad, Cut, TooLong, LinkFault, Left, Worn, NoMemory}

-- ---- words

abbrev pub HasClose : History → Type 0
HasClose seen = (cause : Cause) × Contains seen (Close cause)

-- the texts, one after the other
abbrev pub joined_texts : List (List ℕ) → List ℕ
joined_texts [] = []
joined_texts (text ∷ others) = text ++ joined_texts others

abbrev pub listed : Option (List ℕ) → List (List ℕ)
listed None = []
listed (Some message) = message ∷ []

-- ---- the message at which it ended

-- its acts, by its bytes; `IsWanting` tells them at NoMemory. At Bad, Cut and TooLong it has none. At Disconnected it asks
-- for the end, or the link was closed: none is left
abbrev pub EndsAt : WsEnd → Option (List (List ℕ)) → Option (List ℕ) → List Act → Type 0
EndsAt Ended left (Some message) acts = IsMessage message acts × (asks_end acts ≡ false)
EndsAt Ended left None acts = ⊥
EndsAt Disconnected left (Some message) acts = IsMessage message acts × (asks_end acts ≡ true)
EndsAt Disconnected left None acts = (acts ≡ []) × NoneLeft left
EndsAt (Refused status) left last acts = ⊥
EndsAt (Bad at) left (Some message) acts = IsBad message at × (acts ≡ [])
EndsAt (Bad at) left None acts = ⊥
EndsAt (Cut place) left (Some message) acts = IsCut message place × (acts ≡ [])
EndsAt (Cut place) left None acts = ⊥
EndsAt TooLong left (Some message) acts = HasTooMany message × (acts ≡ [])
EndsAt TooLong left None acts = ⊥
EndsAt LinkFault left (Some message) acts = IsMessage message acts × (asks_end acts ≡ false)
EndsAt LinkFault left None acts = acts ≡ []
EndsAt Left left (Some message) acts = IsMessage message acts
EndsAt Left left None acts = ⊥
EndsAt Worn left (Some message) acts = IsMessage message acts
EndsAt Worn left None acts = ⊥
EndsAt NoMemory left (Some message) acts = Unit {0}
EndsAt NoMemory left None acts = acts ≡ []

-- of its acts up to the end that it asks, those that weren't done: none, but where one was refused
abbrev pub MayLose : WsEnd → List Act → Type 0
MayLose Left lost = Unit {0}
MayLose Worn lost = Unit {0}
MayLose NoMemory lost = Unit {0}
MayLose end lost = lost ≡ []

-- at Ended it was answered too, by a read that found what it had written
abbrev pub IsReadAt : WsEnd → ℕ → List Entry → History → Type 0
IsReadAt Ended viewer gained seen = (found : History) × WasRead viewer gained found seen
IsReadAt end viewer gained seen = Unit {0}

-- an act of the message asked room in the list of its acts, and none was done
abbrev pub IsUnlisted : List ℕ → List Act → Type 0
IsUnlisted message acts = AsksRoom message × (acts ≡ [])

-- memory was wanting in the call of a part of a message's acts; in the read behind them; or in what its answer is sent by,
-- once a read had found what they wrote
abbrev pub IsWantingBehind : ℕ → List ℕ → List Entry → List Entry → History → History → Type 0
IsWantingBehind viewer mine own written before seen = IsStoppedByMemory viewer mine own before seen ⊎ (IsReadStopped viewer written before seen ⊎ ((found : History) × IsLater before found × WasRead viewer written found seen))

-- where it was wanting at a message: in the list of its acts, or once they were read
abbrev pub IsWantingAt : List ℕ → List Act → ℕ → List ℕ → List Entry → List Entry → History → History → Type 0
IsWantingAt message acts viewer mine own written before seen = IsUnlisted message acts ⊎ (IsMessage message acts × IsWantingBehind viewer mine own written before seen)

-- .. at NoMemory. Where none came it was wanting in the buffer for the next
abbrev pub IsWanting : WsEnd → Option (List ℕ) → List Act → ℕ → List ℕ → List Entry → List Entry → History → History → Type 0
IsWanting NoMemory (Some message) acts viewer mine own written before seen = IsWantingAt message acts viewer mine own written before seen
IsWanting end last acts viewer mine own written before seen = Unit {0}

-- so many answers were sent to messages of which so many were answered before the last
abbrev pub AreCounted : WsEnd → ℕ → ℕ → Type 0
AreCounted Ended answers messages = answers ≡ messages + 1
AreCounted end answers messages = answers ≡ messages

-- what was sent of all that the viewer was given: all of it at Ended
abbrev pub IsSent : WsEnd → List ℕ → List ℕ → Type 0
IsSent Ended sent all = sent ≡ all
IsSent end sent all = BeginsWith all sent

-- the Leave that the writer's pass adds last: none where the viewer had left
abbrev pub MayEnd : WsEnd → ℕ → List Entry → Type 0
MayEnd Left viewer leaves = leaves ≡ []
MayEnd end viewer leaves = MayLeave viewer leaves

-- why it ended, by what both passes have seen
abbrev pub WsCause : WsEnd → ℕ → History → Type 0
WsCause Ended viewer seen = ended seen viewer ≡ true
WsCause Left viewer seen = Contains seen (Leave viewer)
WsCause Worn viewer seen = is_full seen ≡ true
WsCause end viewer seen = Unit {0}

-- ---- the whole run

-- both passes had seen `start` and added nothing, and know r and w now. The viewer was given `first` before; these
-- messages came, these are left, and these texts were sent behind `first`
pub record MessagesRun (viewer : ℕ) (start : History) (r w : View Entry) (first : List ℕ) (left : Option (List (List ℕ))) (received sent : List (List ℕ)) (end : WsEnd) : Type 0 where
  -- both have seen the same, and it is sound
  pub seen : r.seen ≡ w.seen
  pub later : IsLater start w.seen
  pub sound : IsSound w.seen
  -- the messages before the one at which it ended were answered, each by one text
  pub answered : List (List ℕ)
  pub last : Option (List ℕ)
  pub received_are : received ≡ answered ++ listed last
  pub counted : AreCounted end (length sent) (length answered)
  -- what they ask was done
  pub messages : List (List Act)
  pub are : AreMessages answered messages
  pub acts : List Act
  pub ends : EndsAt end left last acts
  pub parts : List Part
  pub are_parts : AreParts parts
  pub lost : List Act
  pub acts_are : before_end acts ≡ joined parts ++ lost
  pub loses : MayLose end lost ⊎ HasClose w.seen
  -- the writer's pass gained Writes and Sizes, and last a Leave at most; the reader's pass gained Reads
  pub gained : List Entry
  pub writes : Answered viewer w.mine [] start w.seen messages parts gained
  pub read_last : IsReadAt end viewer gained w.seen
  pub wanting : IsWanting end last acts viewer w.mine gained gained start w.seen
  -- so what they ask together was done in its order, part by part
  pub all_parts : List Part
  pub heard_are : heard (messages ++ acts ∷ []) ≡ joined all_parts ++ lost
  pub done : Did viewer w.mine [] start w.seen all_parts gained
  pub leaves : List Entry
  pub leave : MayEnd end viewer leaves
  pub writer : own_entries w ≡ leaves ++ gained
  pub reads : List Entry
  pub are_reads : AreReads viewer reads
  pub reader : own_entries r ≡ reads
  -- what was sent is what the viewer was given
  pub text : IsSent end (first ++ joined_texts sent) (texts (delivered r.seen viewer))
  pub cause : WsCause end viewer w.seen
  -- whatever the end, the viewer has left
  pub gone : Contains w.seen (Leave viewer)

-- ---- its beginning

-- both passes are of one viewer of one session
pub record OfOneViewer (reader writer : ViewerState) : Type 0 where
  pub session : writer.session ≡ reader.session
  pub viewer : writer.viewer ≡ reader.viewer

-- both passes have seen the same, and added nothing; it is sound, and the viewer was given this text, which is no end
pub record IsStart (viewer : ℕ) (r w : View Entry) (first : List ℕ) : Type 0 where
  pub seen : r.seen ≡ w.seen
  pub some : 1 ≤ length r.seen
  pub none : (r.mine ≡ []) × (w.mine ≡ [])
  pub text : first ≡ texts (delivered r.seen viewer)
  pub going : ended r.seen viewer ≡ false

-- ---- before its end

-- so many messages were answered, each by one text, and the viewer isn't at its end
pub record SoFar (viewer : ℕ) (start : History) (r w : View Entry) (first : List ℕ) (received sent : List (List ℕ)) : Type 0 where
  pub seen : r.seen ≡ w.seen
  pub later : IsLater start w.seen
  pub counted : length sent ≡ length received
  pub messages : List (List Act)
  pub are : AreMessages received messages
  pub gained : List Entry
  pub only : written_by viewer gained ≡ gained
  pub writes : Answered viewer w.mine [] start w.seen messages [] gained
  pub writer : own_entries w ≡ gained
  pub reads : List Entry
  pub are_reads : AreReads viewer reads
  pub reader : own_entries r ≡ reads
  pub text : first ++ joined_texts sent ≡ texts (delivered r.seen viewer)
  pub going : ended r.seen viewer ≡ false

-- ---- one message

-- a message of these acts was answered: what the passes that knew r and w before know then, and what the viewer was given
-- more. Only a session that is closed loses acts, and then the viewer is at its end
pub record HasAnswered (viewer : ℕ) (r w r_now w_now : View Entry) (acts : List Act) (text : List ℕ) (over : Bool) : Type 0 where
  pub seen : r_now.seen ≡ w_now.seen
  pub goes_on : GoesOn w w_now
  pub parts : List Part
  pub are_parts : AreParts parts
  pub lost : List Act
  pub acts_are : acts ≡ joined parts ++ lost
  pub loses : (lost ≡ []) ⊎ ((over ≡ true) × HasClose w_now.seen)
  pub gained : List Entry
  pub found : History
  pub did : Did viewer w_now.mine (own_entries w) w.seen found parts gained
  pub was_read : WasRead viewer (written_by viewer (gained ++ own_entries w)) found w_now.seen
  pub own : own_entries w_now ≡ gained ++ own_entries w
  pub reads : List Entry
  pub are_reads : AreReads viewer reads
  pub reader : own_entries r_now ≡ reads ++ own_entries r
  pub more : List Instr
  pub given : delivered r_now.seen viewer ≡ delivered r.seen viewer ++ more
  pub text_is : text ≡ texts more
  pub over_is : ended r_now.seen viewer ≡ over

-- it ended at a message, or where none came; these are the texts that were sent then
abbrev pub IsSentAt : WsEnd → List (List ℕ) → List ℕ → Type 0
IsSentAt Ended sent text = sent ≡ text ∷ []
IsSentAt end sent text = sent ≡ []

pub record HasStopped (viewer : ℕ) (r w r_now w_now : View Entry) (left : Option (List (List ℕ))) (last : Option (List ℕ)) (sent : List (List ℕ)) (end : WsEnd) : Type 0 where
  pub goes_on : GoesOn w w_now
  pub acts : List Act
  pub ends : EndsAt end left last acts
  pub parts : List Part
  pub are_parts : AreParts parts
  pub lost : List Act
  pub acts_are : before_end acts ≡ joined parts ++ lost
  pub loses : MayLose end lost ⊎ HasClose w_now.seen
  pub gained : List Entry
  pub did : Did viewer w_now.mine (own_entries w) w.seen w_now.seen parts gained
  pub read_last : IsReadAt end viewer (written_by viewer (gained ++ own_entries w)) w_now.seen
  pub wanting : IsWanting end last acts viewer w_now.mine (gained ++ own_entries w) (written_by viewer (gained ++ own_entries w)) w.seen w_now.seen
  pub own : own_entries w_now ≡ gained ++ own_entries w
  pub reads : List Entry
  pub are_reads : AreReads viewer reads
  pub reader : own_entries r_now ≡ reads ++ own_entries r
  pub more : List Instr
  pub given : delivered r_now.seen viewer ≡ delivered r.seen viewer ++ more
  pub sent_is : IsSentAt end sent (texts more)
  pub cause : WsCause end viewer w_now.seen

-- .. and behind which messages
pub record HasRun (viewer : ℕ) (start : History) (r w : View Entry) (first : List ℕ) (left : Option (List (List ℕ))) (received sent : List (List ℕ)) (end : WsEnd) : Type 0 where
  pub r_then : View Entry
  pub w_then : View Entry
  pub answered : List (List ℕ)
  pub texts_then : List (List ℕ)
  pub so_far : SoFar viewer start r_then w_then first answered texts_then
  pub last : Option (List ℕ)
  pub texts_last : List (List ℕ)
  pub stopped : HasStopped viewer r_then w_then r w left last texts_last end
  pub received_are : received ≡ answered ++ listed last
  pub sent_are : sent ≡ texts_then ++ texts_last

-- ---- the end

-- the viewer leaves at the end, but where it had left
abbrev pub Leaves : WsEnd → ℕ → View Entry → View Entry → Type 0
Leaves Left viewer v w = w ≡ v
Leaves end viewer v w = LeftNow viewer v w

-- ---- one call

-- why a message can't be read
abbrev pub IsUnread : WsEnd → List ℕ → Type 0
IsUnread (Bad at) message = IsBad message at
IsUnread (Cut place) message = IsCut message place
IsUnread TooLong message = HasTooMany message
IsUnread NoMemory message = AsksRoom message
IsUnread end message = ⊥

abbrev pub HasRead : List ℕ → Result (List Act) WsEnd → Type 0
HasRead message (Ok acts) = IsMessage message acts
HasRead message (Err end) = IsUnread end message

-- the ends at which a call was refused
abbrev pub IsRefusal : WsEnd → Type 0
IsRefusal Left = Unit {0}
IsRefusal Worn = Unit {0}
IsRefusal NoMemory = Unit {0}
IsRefusal end = ⊥

-- it isn't a fault of the link
abbrev pub IsOwn : WsEnd → Type 0
IsOwn LinkFault = ⊥
IsOwn end = Unit {0}

-- why a part was refused, and why a read was
abbrev pub PutCause : WsEnd → ℕ → History → Type 0
PutCause NoMemory viewer seen = PartCause written.NoMemory viewer seen
PutCause end viewer seen = WsCause end viewer seen

abbrev pub ReadCause : WsEnd → ℕ → List Entry → History → History → Type 0
ReadCause NoMemory viewer written before seen = IsReadStopped viewer written before seen
ReadCause end viewer written before seen = WsCause end viewer seen

-- acts were done up to one that was refused, if any
pub record PutsSome (viewer : ℕ) (v w : View Entry) (acts lost : List Act) : Type 0 where
  pub parts : List Part
  pub are_parts : AreParts parts
  pub acts_are : acts ≡ joined parts ++ lost
  pub wrote : WritesParts viewer v w parts

-- only a session that is closed loses some and goes on
abbrev pub HasPut : ℕ → View Entry → View Entry → List Act → Result (Unit {0}) WsEnd → Type 0
HasPut viewer v w acts (Ok done) = (lost : List Act) × PutsSome viewer v w acts lost × ((lost ≡ []) ⊎ ((is_closed w.seen ≡ true) × HasClose w.seen))
HasPut viewer v w acts (Err end) = (lost : List Act) × PutsSome viewer v w acts lost × IsRefusal end × PutCause end viewer w.seen

-- a read between two meetings, which found all that the writer's pass had gained
abbrev pub ReadEnd : ℕ → View Entry → View Entry → View Entry → Result Bool WsEnd → Type 0
ReadEnd viewer w r_now w_now (Ok over) =
    (found : History) × IsLater w.seen found × WasRead viewer (written_by viewer (own_entries w)) found w_now.seen × (is_closed found ≡ true → over ≡ true) × (ended r_now.seen viewer ≡ over)
ReadEnd viewer w r_now w_now (Err end) = IsRefusal end × ReadCause end viewer (written_by viewer (own_entries w)) w.seen w_now.seen

pub record ReadsBehind (viewer : ℕ) (r w r_now w_now : View Entry) (text : List ℕ) (result : Result Bool WsEnd) : Type 0 where
  pub seen : r_now.seen ≡ w_now.seen
  pub goes_on : GoesOn w w_now
  pub mine : w_now.mine ≡ w.mine
  pub own : own_entries w_now ≡ own_entries w
  pub reads : List Entry
  pub are_reads : AreReads viewer reads
  pub reader : own_entries r_now ≡ reads ++ own_entries r
  pub more : List Instr
  pub given : delivered r_now.seen viewer ≡ delivered r.seen viewer ++ more
  pub text_is : text ≡ texts more
  pub end : ReadEnd viewer w r_now w_now result

-- a message was answered, or not
abbrev pub AnswerRun : ℕ → View Entry → View Entry → View Entry → View Entry → List ℕ → List ℕ → Result Bool WsEnd → Type 0
AnswerRun viewer r w r_now w_now message text (Ok over) = (acts : List Act) × IsMessage message acts × (asks_end acts ≡ false) × HasAnswered viewer r w r_now w_now acts text over
AnswerRun viewer r w r_now w_now message text (Err end) = (left : Option (List (List ℕ))) → HasStopped viewer r w r_now w_now left (Some message) [] end

-- .. and its answer was sent
abbrev pub NextRun : ℕ → View Entry → View Entry → View Entry → View Entry → Option (List (List ℕ)) → List (List ℕ) → List (List ℕ) → Result (Unit {0}) WsEnd → Type 0
NextRun viewer r w r_now w_now left received sent (Ok done) =
    (message : List ℕ) × (text : List ℕ) × (acts : List Act) × (received ≡ message ∷ []) × (sent ≡ text ∷ []) × IsMessage message acts × (asks_end acts ≡ false) × HasAnswered viewer r w r_now w_now acts text false
NextRun viewer r w r_now w_now left received sent (Err end) = (last : Option (List ℕ)) × (received ≡ listed last) × HasStopped viewer r w r_now w_now left last sent end

-- whether the viewer is at its end by a read's answer; or why it stops
abbrev pub over_of : Result ReadAnswer ReadRefusal → Result Bool WsEnd
over_of (Ok (Frames count stamp closed)) = Ok closed
over_of (Ok (Fresh stamp closed)) = Ok closed
over_of (Ok read_ended) = Ok true
over_of (Ok Empty) = Ok false
over_of (Ok (Hold waiting)) = Ok false
over_of (Err read_no_viewer) = Err Left
over_of (Err (read_worn entries)) = Err Worn
over_of (Err read_no_memory) = Err NoMemory

-- a write that is refused as Closed goes on
abbrev pub put_of : Result (Unit {0}) WriteRefusal → Result (Unit {0}) WsEnd
put_of (Ok done) = Ok tt
put_of (Err (written.Closed cause)) = Ok tt
put_of (Err written.NoViewer) = Err Left
put_of (Err (written.Worn entries)) = Err Worn
put_of (Err written.NoMemory) = Err NoMemory

-- a viewer at its end was answered last
abbrev pub go_on : Bool → Result (Unit {0}) WsEnd
go_on true = Err Ended
go_on false = Ok tt
