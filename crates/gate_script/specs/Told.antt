-- What is printed: the answers to calls, and the frames (this project's own).
use Rattle.std.specs.Prelude.{ℕ, Bool, if◌then◌else◌, List, [], ◌∷◌, ◌++◌, codes, decimal, flat_map, Option, Some, None, Result, Ok, Err}
use Rattle.gate_model.specs.declared.answer.Answer.{Answer}
use Rattle.gate_model.specs.declared.answer.Answer.TheVariants.{Feed as fed, Join as joined_as, Read as was_read, Write as was_written, Resize as was_resized, Take as was_taken, Leave as was_left, Close as was_closed}
use Rattle.gate_model.specs.declared.closed.Closed.{Closed}
use Rattle.gate_model.specs.declared.entry.Entry.{Entry}
use Rattle.gate_model.specs.declared.entry.Entry.TheVariants.{Start, Feed, Size, Join, Read}
use Rattle.gate_model.specs.declared.event.Event.{Event}
use Rattle.gate_model.specs.declared.event.Event.TheVariants.{Leave as leave_as}
use Rattle.gate_model.specs.declared.feed_refusal.FeedRefusal.{FeedRefusal}
use Rattle.gate_model.specs.declared.feed_refusal.FeedRefusal.TheVariants.{Closed as feed_closed, Worn as feed_worn}
use Rattle.gate_model.specs.declared.join_refusal.JoinRefusal.{JoinRefusal}
use Rattle.gate_model.specs.declared.join_refusal.JoinRefusal.TheVariants.{Closed as join_closed, Worn as join_worn, Forbidden, TooMany as too_many_viewers}
use Rattle.gate_model.specs.declared.joined.Joined.{Joined}
use Rattle.gate_model.specs.declared.no_viewer.NoViewer.{NoViewer}
use Rattle.gate_model.specs.declared.read_answer.ReadAnswer.{ReadAnswer}
use Rattle.gate_model.specs.declared.read_answer.ReadAnswer.TheVariants.{Frames, Fresh, Ended, Empty, Hold}
use Rattle.gate_model.specs.declared.read_refusal.ReadRefusal.{ReadRefusal}
use Rattle.gate_model.specs.declared.read_refusal.ReadRefusal.TheVariants.{NoViewer as read_no_viewer, Worn as read_worn}
use Rattle.gate_model.specs.declared.resize_refusal.ResizeRefusal.{ResizeRefusal}
use Rattle.gate_model.specs.declared.resize_refusal.ResizeRefusal.TheVariants.{NoViewer as resize_no_viewer, Closed as resize_closed, Denied, Same, Worn as resize_worn}
use Rattle.gate_model.specs.declared.write_refusal.WriteRefusal.{WriteRefusal}
use Rattle.gate_model.specs.declared.write_refusal.WriteRefusal.TheVariants.{NoViewer as write_no_viewer, Closed as write_closed, Worn as write_worn}
use Rattle.gate_model.specs.declared.written.Written.{Written}
use Rattle.gate_model.specs.text.Statuses.{not_found, session_closed, forbidden, too_many}
use Rattle.gate_model.specs.text.Text.{texts}
use Rattle.guac_framing.specs.declared.next.BadAt.{BadAt}
use Rattle.guac_framing.specs.declared.next.BadKind.{BadKind}
use Rattle.guac_framing.specs.declared.next.BadKind.TheVariants.{Digit, Length, Separator, Utf8, TooMany, TooLong}
use Rattle.canvas.specs.declared.dot.Dot.{Dot}
use Rattle.canvas.specs.declared.dot.Dot.TheVariants.{Outside, Clear, Painted}
use Rattle.gate_model.specs.session.History.{History}
use Rattle.gate_model.specs.session.Delivered.{delivered, given}
use Rattle.script_grammar.specs.declared.totals.Totals.{Totals}
use Rattle.script_grammar.specs.Hexadecimal.{digits_of}

abbrev pub blank_and : ℕ → List ℕ
blank_and n = 32 ∷ decimal n

-- a word, numbers with a blank before each, and a line feed
unfoldable pub answer_line : List ℕ → List ℕ → List ℕ
answer_line word ns = word ++ flat_map blank_and ns ++ 10 ∷ []

-- a viewer's number, or 0 for a frame, a blank, the text, and a line feed
unfoldable pub frames_line : ℕ → List ℕ → List ℕ
frames_line viewer text = decimal viewer ++ 32 ∷ text ++ 10 ∷ []

abbrev pub refused_line : ℕ → List ℕ
refused_line status = answer_line (codes "refused") (status ∷ [])

-- the answer to a call of the desk; there is none where the run ends with it
abbrev pub feed_answer : Result ℕ FeedRefusal → Option (List ℕ)
feed_answer (Ok stamp) = Some (answer_line (codes "synced") (stamp ∷ []))
feed_answer (Err (feed_closed cause)) = Some (refused_line session_closed)
feed_answer (Err refusal) = None

abbrev pub joined_line : Joined → List ℕ
joined_line joined = answer_line (codes "joined") (joined.viewer ∷ joined.stamp ∷ [])

abbrev pub join_answer : Result Joined JoinRefusal → Option (List ℕ)
join_answer (Ok joined) = Some (joined_line joined)
join_answer (Err (join_closed cause)) = Some (refused_line session_closed)
join_answer (Err Forbidden) = Some (refused_line forbidden)
join_answer (Err (too_many_viewers live joined)) = Some (refused_line too_many)
join_answer (Err refusal) = None

-- an answer to a read that gave something, and whether it ended with the closing instruction
unfoldable pub given_line : List ℕ → List ℕ → Bool → List ℕ
given_line word ns closed = word ++ flat_map blank_and ns ++ (if closed then codes " closed" else []) ++ 10 ∷ []

abbrev pub read_told : ReadAnswer → List ℕ
read_told (Frames count stamp closed) = given_line (codes "frames") (count ∷ stamp ∷ []) closed
read_told (Fresh stamp closed) = given_line (codes "fresh") (stamp ∷ []) closed
read_told Ended = answer_line (codes "ended") []
read_told Empty = answer_line (codes "empty") []
read_told (Hold waiting) = answer_line (codes "hold") []

abbrev pub read_answer : Result ReadAnswer ReadRefusal → Option (List ℕ)
read_answer (Ok answer) = Some (read_told answer)
read_answer (Err read_no_viewer) = Some (refused_line not_found)
read_answer (Err refusal) = None

-- the answer to a write of a text in which so many instructions have no meaning
abbrev pub written_line : Written → ℕ → List ℕ
written_line counts passed = answer_line (codes "written") (counts.keys ∷ counts.denied ∷ passed ∷ [])

abbrev pub write_answer : Result Written WriteRefusal → ℕ → Option (List ℕ)
write_answer (Ok counts) passed = Some (written_line counts passed)
write_answer (Err write_no_viewer) passed = Some (refused_line not_found)
write_answer (Err (write_closed cause)) passed = Some (refused_line session_closed)
write_answer (Err refusal) passed = None

-- the answer to a change of size
abbrev pub resize_answer : Result ℕ ResizeRefusal → Option (List ℕ)
resize_answer (Ok stamp) = Some (answer_line (codes "sized") (stamp ∷ []))
resize_answer (Err resize_no_viewer) = Some (refused_line not_found)
resize_answer (Err (resize_closed cause)) = Some (refused_line session_closed)
resize_answer (Err Denied) = Some (answer_line (codes "denied") [])
resize_answer (Err Same) = Some (answer_line (codes "unchanged") [])
resize_answer (Err refusal) = None

-- the bytes that a take handed out, or a dash where there were none
abbrev pub taken_text : List ℕ → List ℕ
taken_text [] = codes "-"
taken_text (b ∷ bytes) = digits_of (b ∷ bytes)

abbrev pub took_line : List ℕ → List ℕ
took_line bytes = codes "took " ++ taken_text bytes ++ 10 ∷ []

abbrev pub leave_answer : ℕ → Result (Unit {0}) NoViewer → Option (List ℕ)
leave_answer viewer (Ok done) = Some (answer_line (codes "left") (viewer ∷ []))
leave_answer viewer (Err refusal) = Some (refused_line not_found)

abbrev pub close_answer : Result (Unit {0}) Closed → Option (List ℕ)
close_answer (Ok done) = Some (answer_line (codes "closed") [])
close_answer (Err refusal) = Some (refused_line session_closed)

abbrev pub answer_to : Answer → Event → Option (List ℕ)
answer_to (fed result) event = feed_answer result
answer_to (joined_as result) event = join_answer result
answer_to (was_read result) event = read_answer result
answer_to (was_written result) event = write_answer result 0
answer_to (was_resized result) event = resize_answer result
answer_to (was_taken bytes closed) event = Some (took_line bytes)
answer_to (was_left result) (leave_as viewer) = leave_answer viewer result
answer_to (was_closed result) event = close_answer result
answer_to answer event = None

-- how many entries a full session has, where the call was refused for that
abbrev pub worn_by : Answer → Option ℕ
worn_by (fed (Err (feed_worn entries))) = Some entries
worn_by (joined_as (Err (join_worn entries))) = Some entries
worn_by (was_read (Err (read_worn entries))) = Some entries
worn_by (was_written (Err (write_worn entries))) = Some entries
worn_by (was_resized (Err (resize_worn entries))) = Some entries
worn_by answer = None

-- the frame that an entry after g made, or what it gave a viewer
abbrev pub framing : History → Entry → List ℕ
framing g (Start cols rows mode term faces entries stamp frame) = frames_line 0 (texts frame)
framing g (Feed bytes stamp frame) = frames_line 0 (texts frame)
framing g (Size viewer cols rows stamp frame) = frames_line 0 (texts frame)
framing g (Join viewer role first) = frames_line viewer (texts first)
framing g (Read viewer how) = frames_line viewer (texts (given g (delivered g viewer) viewer (Read viewer how)))
framing g e = []

-- what the entries that a call added, none or one, tell
abbrev pub framings : History → List Entry → List ℕ
framings g added = flat_map (framing g) added

-- where a text is bad, and why; where it is cut
abbrev pub kind_word : BadKind → List ℕ
kind_word Digit = codes "digit"
kind_word Length = codes "length"
kind_word Separator = codes "separator"
kind_word Utf8 = codes "utf8"
kind_word TooMany = codes "many"
kind_word TooLong = codes "long"

abbrev pub cut_line : ℕ → List ℕ
cut_line place = answer_line (codes "cut") (place ∷ [])

abbrev pub bad_text_line : BadAt → List ℕ
bad_text_line at = codes "bad" ++ 32 ∷ decimal at.place ++ 32 ∷ kind_word at.kind ++ 10 ∷ []

-- what a place shows
abbrev pub pixel_line : Dot → List ℕ
pixel_line Outside = answer_line (codes "pixel outside") []
pixel_line Clear = answer_line (codes "pixel clear") []
pixel_line (Painted colour) = answer_line (codes "pixel") (colour.red ∷ colour.green ∷ colour.blue ∷ [])

abbrev pub same_line : List ℕ
same_line = answer_line (codes "same") []

abbrev pub differ_line : List ℕ
differ_line = answer_line (codes "differ") []

-- what a run comes to, in seven answers
abbrev pub agree_words : Bool → List ℕ
agree_words agree = if agree then codes "agree yes" else codes "agree no"

abbrev pub totals_lines : Totals → ℕ → ℕ → ℕ → Bool → List ℕ
totals_lines totals joins stamp sum agree =
    answer_line (codes "feeds") (totals.feeds ∷ []) ++ answer_line (codes "joins") (joins ∷ []) ++ answer_line (codes "keys") (totals.keys ∷ [])
    ++ answer_line (codes "out") (totals.out ∷ []) ++ answer_line (codes "stamp") (stamp ∷ []) ++ answer_line (codes "sum") (sum ∷ []) ++ answer_line (agree_words agree) []

-- the last answers: a line outside the grammar, a full session
abbrev pub bad_line : ℕ → List ℕ
bad_line number = answer_line (codes "bad script line") (number ∷ [])

abbrev pub worn_line : ℕ → List ℕ
worn_line count = answer_line (codes "worn") (count ∷ [])
