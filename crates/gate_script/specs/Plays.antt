-- What the lines of orders do: from the moment and the history before to those after, with what they tell (this
-- project's own). The history has the newest entry first, and is empty before `start`.
use Rattle.std.specs.Prelude.{◌≡◌, ℕ, List, [], ◌∷◌, ◌++◌, zero, suc, ◌+◌, take, Bool, true, false, ◌&&◌, if◌then◌else◌, count_by, ◌⊎◌, codes, Option, Some, None, Result}
use Rattle.gate_model.specs.declared.act.Act.TheVariants.{Key as key_act, Sync as act_sync}
use Rattle.gate_model.specs.declared.answer.Answer.{Answer}
use Rattle.gate_model.specs.declared.answer.Answer.TheVariants.{Write as was_written}
use Rattle.gate_model.specs.declared.cause.Cause.TheVariants.{Stopped}
use Rattle.gate_model.specs.declared.entry.Entry.{Entry}
use Rattle.gate_model.specs.declared.event.Event.{Event}
use Rattle.gate_model.specs.declared.event.Event.TheVariants.{Feed as feed, Join as join_in, Read as read_as, Write as write_acts, Resize as resize_to, Take as take_most, Leave as leave_as, Close as close_for}
use Rattle.gate_model.specs.declared.faces.Faces.TheVariants.{Ascii}
use Rattle.gate_model.specs.declared.setup.Setup.{Setup}
use Rattle.gate_model.specs.declared.sharing.Share.{Share}
use Rattle.gate_model.specs.declared.act.Act.{Act}
use Rattle.gate_model.specs.declared.written.Written.{Written}
use Rattle.gate_model.specs.declared.write_refusal.WriteRefusal.{WriteRefusal}
use Rattle.gate_model.specs.declared.entry.Entry.TheVariants.{Feed as fed_entry, Write as write_entry}
use Rattle.gate_model.specs.picture.Layers.{Layer, Layers, Same, draw, nothing, visible}
use Rattle.gate_model.specs.session.History.{History, joined, newest, next_stamp}
use Rattle.gate_model.specs.session.Delivered.{delivered}
use Rattle.gate_model.specs.session.Output.{out, taken}
use Rattle.gate_model.specs.session.Rights.{is_live}
use Rattle.canvas.specs.declared.dot.Dot.{Dot}
use Rattle.canvas.specs.declared.dot.Dot.TheVariants.{Outside as outside, Clear as clear, Painted as painted}
use Rattle.canvas.specs.Standing.{dot_at}
use Rattle.script_grammar.specs.declared.reading.Reading.{Reading}
use Rattle.script_grammar.specs.declared.reading.Reading.TheVariants.{Whole, Cut, Bad, TooMany}
use Rattle.script_grammar.specs.Acts.{IsReading}
use Rattle.gate_model.specs.text.Statuses.{not_found}
use Rattle.gate_model.specs.session.Steps.{Legal, StartStep}
use Rattle.gate_model.specs.session.Calls.{Step}
use Rattle.gate_model.specs.session.Truth.{Faithful}
use Rattle.gate_model.specs.session.Whole.{Whole as IsWholeHistory}
use Rattle.script_grammar.specs.declared.size.Size.{Size}
use Rattle.script_grammar.specs.declared.line.Line.{Line}
use Rattle.script_grammar.specs.declared.line.Line.TheVariants.{Blank, Bad as Outside, At, Start, Server, Join, Read, Write, Resize, Take, Leave, Close, Pixel, Same as Alike, Acknowledge, Done, Press, Totals as TellTotals}
use Rattle.script_grammar.specs.declared.totals.Totals.{Totals}
use Rattle.script_grammar.specs.declared.order.Order.{Order}
use Rattle.script_grammar.specs.Lines.{line_in, told_by}
use Rattle.gate_script.specs.Told.{answer_line, answer_to, framings, refused_line, write_answer, cut_line, bad_text_line, pixel_line, same_line, differ_line, took_line, totals_lines}

pub record Play : Type 0 where
  pub now : ℕ
  pub history : History

-- nothing was done yet
abbrev pub opening : Play
opening = record { now = 0; history = [] }

-- the setup of a session: its terminal type is `linux`
abbrev pub setup_of : Size → Share → ℕ → Setup
setup_of size mode entries = record { cols = size.cols; rows = size.rows; mode = mode; term = codes "linux"; faces = Ascii; entries = entries }

-- a session was started
pub record Begins (setup : Setup) (p q : Play) (a f : List ℕ) : Type 0 where
  pub fresh : p.history ≡ []
  pub entry : Entry
  pub step : StartStep setup p.now entry
  pub after_it : q ≡ record { now = p.now; history = entry ∷ [] }
  pub answered : a ≡ answer_line (codes "started") (next_stamp 0 p.now ∷ [])
  pub framed : f ≡ framings [] (entry ∷ [])

-- a call of the desk was made: its rule lets it answer so and add these entries, none or one
pub record Calls (event : Event) (p q : Play) (answer f : List ℕ) : Type 0 where
  pub result : Answer
  pub added : List Entry
  pub step : Step p.history event result added
  pub told : answer_to result event ≡ Some answer
  pub after_it : q ≡ record { now = p.now; history = added ++ p.history }
  pub framed : f ≡ framings p.history added

-- nothing changed, and this was answered
pub record Answers (p q : Play) (answer a f : List ℕ) : Type 0 where
  pub same : q ≡ p
  pub answered : a ≡ answer
  pub framed : f ≡ []

-- what a viewer sees: all that it was given, drawn from nothing
abbrev pub seen : History → ℕ → Layers
seen h viewer = draw nothing (delivered h viewer)

-- a pixel of the visible layer of a viewer who is there
abbrev pub pixel_answer : History → ℕ → ℕ → ℕ → List ℕ
pixel_answer h viewer x y = if is_live h viewer then pixel_line (dot_at (seen h viewer visible) x y) else refused_line not_found

-- whether two viewers who are there see the same in every layer
abbrev pub Compares : History → ℕ → ℕ → List ℕ → Type 0
Compares h one other a =
    (((is_live h one && is_live h other) ≡ false) × (a ≡ refused_line not_found))
    ⊎ (((is_live h one && is_live h other) ≡ true) × ((Same (seen h one) (seen h other) × (a ≡ same_line)) ⊎ ((Same (seen h one) (seen h other) → ⊥) × (a ≡ differ_line))))

-- how often the host sent bytes
abbrev pub feeds : History → ℕ
feeds [] = 0
feeds (fed_entry bytes stamp frame ∷ g) = feeds g + 1
feeds (e ∷ g) = feeds g

-- how many presses of keys were written
abbrev pub is_press : Act → Bool
is_press (key_act keysym pressed) = pressed
is_press act = false

abbrev pub presses : History → ℕ
presses [] = 0
presses (write_entry viewer acts ∷ g) = presses g + count_by is_press acts
presses (e ∷ g) = presses g

-- the totals are those of the history
pub record AreTotals (totals : Totals) (h : History) : Type 0 where
  pub feeds : totals.feeds ≡ feeds h
  pub keys : totals.keys ≡ presses h
  pub out : totals.out ≡ taken h

-- red, green and blue of all places of a layer, added up
abbrev pub colour_sum : Dot → ℕ
colour_sum outside = 0
colour_sum clear = 0
colour_sum (painted colour) = colour.red + colour.green + colour.blue

abbrev pub row_sum : Layer → ℕ → ℕ → ℕ
row_sum l y zero = 0
row_sum l y (suc x) = row_sum l y x + colour_sum (dot_at l x y)

abbrev pub rows_sum : Layer → ℕ → ℕ
rows_sum l zero = 0
rows_sum l (suc y) = rows_sum l y + row_sum l y l.width

-- .. of what viewer 1 sees on the visible layer, while the viewer is there
abbrev pub sum_seen : History → ℕ
sum_seen h = if is_live h 1 then rows_sum (seen h 1 visible) (seen h 1 visible).height else 0

-- each viewer who is there sees what viewer 1 sees, while that one is there
abbrev pub Agree : History → Type 0
Agree h = (viewer : ℕ) → (is_live h 1 && is_live h viewer) ≡ true → Same (seen h 1) (seen h viewer)

abbrev pub TellsTotals : Totals → History → List ℕ → Type 0
TellsTotals totals h a = (Agree h × (a ≡ totals_lines totals (joined h) (newest h) (sum_seen h) true)) ⊎ ((Agree h → ⊥) × (a ≡ totals_lines totals (joined h) (newest h) (sum_seen h) false))

-- the acts of a text were written, or refused
pub record Writes (viewer : ℕ) (acts : List Act) (passed : ℕ) (p q : Play) (a f : List ℕ) : Type 0 where
  pub result : Result Written WriteRefusal
  pub added : List Entry
  pub step : Step p.history (write_acts viewer acts) (was_written result) added
  pub told : write_answer result passed ≡ Some a
  pub after_it : q ≡ record { now = p.now; history = added ++ p.history }
  pub framed : f ≡ framings p.history added

-- what a text does that says this
abbrev pub DoesReading : Reading → ℕ → Play → Play → List ℕ → List ℕ → Type 0
DoesReading (Whole acts passed) viewer p q a f = Writes viewer acts passed p q a f
DoesReading (Cut place) viewer p q a f = Answers p q (cut_line place) a f
DoesReading (Bad at) viewer p q a f = Answers p q (bad_text_line at) a f
DoesReading TooMany viewer p q a f = ⊥

-- the acknowledgement of the newest stamp
abbrev pub acknowledgement : History → List Act
acknowledgement h = act_sync (newest h) ∷ []

-- the press of a key
abbrev pub press : ℕ → List Act
press keysym = key_act keysym true ∷ []

-- the call that a line makes
abbrev pub event_of : Line → Play → Option Event
event_of (Server bytes) p = Some (feed bytes p.now)
event_of (Join asked) p = Some (join_in asked)
event_of (Read viewer) p = Some (read_as viewer)
event_of (Resize viewer size) p = Some (resize_to viewer size.cols size.rows)
event_of (Take most) p = Some (take_most most)
event_of (Leave viewer) p = Some (leave_as viewer)
event_of Close p = Some (close_for Stopped)
event_of (Acknowledge viewer) p = Some (write_acts viewer (acknowledgement p.history))
event_of (Press viewer keysym) p = Some (write_acts viewer (press keysym))
event_of line p = None

-- one line
abbrev pub Does : Line → Play → Play → List ℕ → List ℕ → Type 0
Does Blank p q a f = Answers p q [] a f
Does Outside p q a f = ⊥
Does (At now) p q a f = Answers record { now = now; history = p.history } q (answer_line (codes "now") (now ∷ [])) a f
Does (Start size mode entries) p q a f = Begins (setup_of size mode entries) p q a f
Does (Server bytes) p q a f = Calls (feed bytes p.now) p q a f
Does (Join asked) p q a f = Calls (join_in asked) p q a f
Does (Read viewer) p q a f = Calls (read_as viewer) p q a f
Does (Write viewer text) p q a f = (reading : Reading) × IsReading text reading × DoesReading reading viewer p q a f
Does (Resize viewer size) p q a f = Calls (resize_to viewer size.cols size.rows) p q a f
Does (Take most) p q a f = Calls (take_most most) p q a f
Does (Leave viewer) p q a f = Calls (leave_as viewer) p q a f
Does Close p q a f = Calls (close_for Stopped) p q a f
Does (Pixel viewer x y) p q a f = Answers p q (pixel_answer p.history viewer x y) a f
Does (Alike one other) p q a f = (answer : List ℕ) × Compares p.history one other answer × Answers p q answer a f
Does (Acknowledge viewer) p q a f = Writes viewer (acknowledgement p.history) 0 p q a f
Does Done p q a f = Answers p q (answer_line (codes "done") (newest p.history ∷ [])) a f
Does (Press viewer keysym) p q a f = Writes viewer (press keysym) 0 p q a f
Does (TellTotals totals) p q a f = (answer : List ℕ) × TellsTotals totals p.history answer × Answers p q answer a f

-- the bytes that an answer names, where it is that of a take
abbrev pub Prints : Line → List ℕ → List ℕ → Type 0
Prints (Take most) a bytes = a ≡ took_line bytes
Prints line a bytes = bytes ≡ []

-- an order after some orders, which led to p, told `before_a` and `before_f`, and took `before_bytes`. Its
-- frames are told, and its answer where the order says so.
pub record Then (order : Order) (p q : Play) (before_a before_f before_bytes a f bytes : List ℕ) : Type 0 where
  pub answer : List ℕ
  pub own_f : List ℕ
  pub own_bytes : List ℕ
  pub does : Does (line_in order) p q answer own_f
  pub prints : Prints (line_in order) answer own_bytes
  pub answered : a ≡ before_a ++ told_by order answer
  pub framed : f ≡ before_f ++ own_f
  pub joined : bytes ≡ before_bytes ++ own_bytes

-- orders, the newest first, from the opening on: what they tell, and the bytes that their takes name
abbrev pub Plays : List Order → Play → List ℕ → List ℕ → List ℕ → Type 0
Plays [] q a f bytes = (q ≡ opening) × (a ≡ []) × (f ≡ []) × (bytes ≡ [])
Plays (order ∷ orders) q a f bytes = (p : Play) × (before_a before_f before_bytes : List ℕ) × Plays orders p before_a before_f before_bytes × Then order p q before_a before_f before_bytes a f bytes

-- a history that is legal, true and whole; before `start` it is empty
abbrev pub IsLawful : History → Type 0
IsLawful [] = Unit {0}
IsLawful (e ∷ g) = Legal (e ∷ g) × Faithful (e ∷ g) × IsWholeHistory (e ∷ g)

-- the orders were done, and told a and f; the history is legal, true and whole; and the bytes that the takes
-- name are, joined, the first ones that the history sends to the host, as many as it took
pub record Tells (lines : List Order) (p : Play) (a f : List ℕ) : Type 0 where
  pub bytes : List ℕ
  pub plays : Plays lines p a f bytes
  pub lawful : IsLawful p.history
  pub sent_on : bytes ≡ take (taken p.history) (out p.history)
