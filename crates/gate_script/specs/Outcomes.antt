-- How a run ends: what it read and what it wrote, for each status (this project's own).
use Rattle.std.specs.Prelude.{◌≡◌, ℕ, ◌+◌, List, [], ◌∷◌, ◌++◌, length, Option, Some, ◌⊎◌}
use Rattle.gate_model.specs.declared.answer.Answer.{Answer}
use Rattle.gate_model.specs.declared.event.Event.{Event}
use Rattle.gate_model.specs.Sequences.{IsLater, BeginsWith}
use Rattle.gate_model.specs.session.Calls.{Step}
use Rattle.gate_outside.specs.Edge.{AtEnd, came, gained}
use Rattle.gate_model.specs.declared.act.Act.{Act}
use Rattle.gate_model.specs.declared.event.Event.TheVariants.{Write as write_acts}
use Rattle.script_grammar.specs.declared.text_form.TextForm.{TextForm}
use Rattle.script_grammar.specs.declared.form.Form.{Form}
use Rattle.script_grammar.specs.declared.form.Form.TheVariants.{Text, Load, Clip, Play as play_form}
use Rattle.script_grammar.specs.declared.totals.Totals.{Totals}
use Rattle.script_load.specs.Words.{drawn}
use Rattle.script_load.specs.Rounds.{load_orders}
use Rattle.gate_model.specs.session.Output.{untaken}
use Rattle.script_grammar.specs.declared.line.Line.{Line}
use Rattle.script_grammar.specs.declared.line.Line.TheVariants.{Bad, Write}
use Rattle.script_grammar.specs.declared.order.Order.{Order}
use Rattle.script_grammar.specs.declared.reading.Reading.TheVariants.{Whole, TooMany}
use Rattle.script_grammar.specs.Acts.{IsReading}
use Rattle.script_grammar.specs.Grammar.{whole_lines, all_lines}
use Rattle.script_grammar.specs.Lines.{line_in, told_by}
use Rattle.gate_script.specs.declared.refused.Refused.{Refused}
use Rattle.gate_script.specs.declared.refused.Refused.TheVariants.{BadLine, Worn}
use Rattle.gate_script.specs.Clipping.{ClipOutcome}
use Rattle.gate_script.specs.PlayOutcomes.{PlayOutcome}
use Rattle.gate_script.specs.Told.{bad_line, worn_line, worn_by}
use Rattle.gate_script.specs.Plays.{AreTotals, Play, Does, Plays, event_of, Tells}

-- the orders are some first ones of those that the bytes read make: of the whole pieces, or at the end of
-- the input of all of them
abbrev pub AreFirst : TextForm → List ℕ → Option (List ℕ) → List Order → Type 0
AreFirst form bytes left lines = IsLater lines (whole_lines form bytes) ⊎ (AtEnd left × IsLater lines (all_lines form bytes))

-- every order that the bytes make was done, and all that they tell was written
pub record Finished (form : TextForm) (bytes a f : List ℕ) : Type 0 where
  pub play : Play
  pub tells : Tells (all_lines form bytes) play a f

-- a read fault: every order of the whole pieces was done
pub record Interrupted (form : TextForm) (bytes a f : List ℕ) : Type 0 where
  pub play : Play
  pub tells : Tells (whole_lines form bytes) play a f

-- the text of a write line has too many instructions
abbrev pub IsTooLong : Line → Type 0
IsTooLong (Write viewer text) = IsReading text TooMany
IsTooLong line = ⊥

-- the call that a line makes
abbrev pub Makes : Line → Play → Event → Type 0
Makes (Write viewer text) p event = (acts : List Act) × (passed : ℕ) × IsReading text (Whole acts passed) × (event ≡ write_acts viewer acts)
Makes line p event = event_of line p ≡ Some event

-- the rule of the line's call refuses it with this answer
pub record Answered (line : Line) (p : Play) (result : Answer) : Type 0 where
  pub event : Event
  pub makes : Makes line p event
  pub step : Step p.history event result []

-- why the next order ended the run: its line is outside the grammar, and this is its number; or the
-- session is full, and has so many entries
abbrev pub IsRefused : Refused → Order → List Order → Play → Type 0
IsRefused (BadLine number) order orders p = ((line_in order ≡ Bad) ⊎ IsTooLong (line_in order)) × (number ≡ length orders + 1)
IsRefused (Worn entries) order orders p = (result : Answer) × Answered (line_in order) p result × (worn_by result ≡ Some entries)

-- the last answer then
abbrev pub last_line : Refused → List ℕ
last_line (BadLine number) = bad_line number
last_line (Worn entries) = worn_line entries

-- the next order was refused after these, of which all was written
pub record Refuses (form : TextForm) (bytes a f : List ℕ) (left : Option (List ℕ)) (refused : Refused) : Type 0 where
  pub lines : List Order
  pub next : Order
  pub play : Play
  pub first : AreFirst form bytes left (next ∷ lines)
  pub tells : Tells lines play a f
  pub is_refused : IsRefused refused next lines play

-- the last answer of the run was written after all the others
pub record Ends (form : TextForm) (bytes a f : List ℕ) (left : Option (List ℕ)) (refused : Refused) : Type 0 where
  pub written : List ℕ
  pub refuses : Refuses form bytes written f left refused
  pub answers_are : a ≡ written ++ last_line refused

-- want of memory: some first orders were done, and all that they tell was written
pub record Halted (form : TextForm) (bytes a f : List ℕ) (left : Option (List ℕ)) : Type 0 where
  pub lines : List Order
  pub play : Play
  pub first : AreFirst form bytes left lines
  pub tells : Tells lines play a f

-- all was written of the orders before the newest one, then a front of its frames, and after all of these
-- a front of its answer
pub record CutInNewest (order : Order) (orders : List Order) (q : Play) (a f : List ℕ) : Type 0 where
  pub before : Play
  pub before_a : List ℕ
  pub before_f : List ℕ
  pub before_bytes : List ℕ
  pub plays : Plays orders before before_a before_f before_bytes
  pub answer : List ℕ
  pub framing : List ℕ
  pub does : Does (line_in order) before q answer framing
  pub own_a : List ℕ
  pub own_f : List ℕ
  pub answer_begins : BeginsWith (told_by order answer) own_a
  pub framing_begins : BeginsWith framing own_f
  pub in_order : (own_a ≡ []) ⊎ (own_f ≡ framing)
  pub answered : a ≡ before_a ++ own_a
  pub framed : f ≡ before_f ++ own_f

-- of no orders nothing was written
abbrev pub EndsInNewest : List Order → Play → List ℕ → List ℕ → Type 0
EndsInNewest [] q a f = (a ≡ []) × (f ≡ [])
EndsInNewest (order ∷ orders) q a f = CutInNewest order orders q a f

-- a fault of a sink: each sink has a front of what some first orders tell, and just the newest of them is
-- cut short
pub record CutShort (form : TextForm) (bytes a f : List ℕ) (left : Option (List ℕ)) : Type 0 where
  pub lines : List Order
  pub play : Play
  pub answers : List ℕ
  pub framings : List ℕ
  pub first : AreFirst form bytes left lines
  pub tells : Tells lines play answers framings
  pub answers_begin : BeginsWith answers a
  pub framings_begin : BeginsWith framings f
  pub newest : EndsInNewest lines play a f

-- a fault of the answers' sink in the last answer of the run: all that the orders tell was written, and then a
-- front of that answer
pub record LastCutShort (form : TextForm) (bytes a f : List ℕ) (left : Option (List ℕ)) : Type 0 where
  pub refused : Refused
  pub written : List ℕ
  pub refuses : Refuses form bytes written f left refused
  pub own_a : List ℕ
  pub answer_begins : BeginsWith (last_line refused) own_a
  pub answered : a ≡ written ++ own_a

abbrev pub WriteFault : TextForm → List ℕ → List ℕ → List ℕ → Option (List ℕ) → Type 0
WriteFault form bytes a f left = CutShort form bytes a f left ⊎ LastCutShort form bytes a f left

-- what a call read and wrote, where the ends tell it
pub record Ran (left left' wrote wrote' framed framed' : Option (List ℕ)) (P : List ℕ → List ℕ → List ℕ → Type 0) : Type 0 where
  pub bytes : List ℕ
  pub a : List ℕ
  pub f : List ℕ
  pub read : left ≡ came bytes left'
  pub answered : wrote' ≡ gained wrote a
  pub framed_on : framed' ≡ gained framed f
  pub holds : P bytes a f

-- what a call wrote that reads nothing
pub record WroteSo (wrote wrote' framed framed' : Option (List ℕ)) (P : List ℕ → List ℕ → Type 0) : Type 0 where
  pub a : List ℕ
  pub f : List ℕ
  pub answered : wrote' ≡ gained wrote a
  pub framed_on : framed' ≡ gained framed f
  pub holds : P a f

-- the statuses of a run over lines
abbrev pub IsStatus : ℕ → Type 0
IsStatus status = (status ≡ 0) ⊎ (status ≡ 3) ⊎ (status ≡ 4) ⊎ (status ≡ 5) ⊎ (status ≡ 6) ⊎ (status ≡ 7)

-- what each status says of the bytes read, the answers and the frames, where the form does lines
pub record LinesOutcome (status : ℕ) (form : TextForm) (left : Option (List ℕ)) (bytes a f : List ℕ) : Type 0 where
  pub done : status ≡ 0 → AtEnd left × Finished form bytes a f
  pub bad_script : status ≡ 3 → (number : ℕ) × Ends form bytes a f left (BadLine number)
  pub read_fault : status ≡ 4 → Interrupted form bytes a f
  pub write_fault : status ≡ 5 → WriteFault form bytes a f left
  pub memory : status ≡ 6 → Halted form bytes a f left
  pub worn : status ≡ 7 → (entries : ℕ) × Ends form bytes a f left (Worn entries)
  pub only : IsStatus status

-- every line that the words drawn make was done, and takes until nothing waited; and all that they tell was
-- written: of the answers the last seven, whose totals are those of the history
pub record Loaded (seed rounds : ℕ) (a f : List ℕ) : Type 0 where
  pub takes : ℕ
  pub totals : Totals
  pub play : Play
  pub tells : Tells (load_orders (drawn seed) rounds takes totals) play a f
  pub are_totals : AreTotals totals play.history
  pub all_taken : untaken play.history ≡ []

-- the orders are some first ones of those of a load
abbrev pub AreFirstLoads : ℕ → ℕ → List Order → Type 0
AreFirstLoads seed rounds orders = (takes : ℕ) × (totals : Totals) × IsLater orders (load_orders (drawn seed) rounds takes totals)

-- a fault of a sink, in the newest of some first orders
pub record LoadCutShort (seed rounds : ℕ) (a f : List ℕ) : Type 0 where
  pub lines : List Order
  pub play : Play
  pub answers : List ℕ
  pub framings : List ℕ
  pub first : AreFirstLoads seed rounds lines
  pub tells : Tells lines play answers framings
  pub answers_begin : BeginsWith answers a
  pub framings_begin : BeginsWith framings f
  pub newest : EndsInNewest lines play a f

-- want of memory, after some first orders
pub record LoadHalted (seed rounds : ℕ) (a f : List ℕ) : Type 0 where
  pub lines : List Order
  pub play : Play
  pub first : AreFirstLoads seed rounds lines
  pub tells : Tells lines play a f

-- what each status says of the answers and the frames of a load, which reads nothing. Other statuses don't come.
pub record LoadOutcome (status seed rounds : ℕ) (bytes a f : List ℕ) : Type 0 where
  pub nothing_read : bytes ≡ []
  pub done : status ≡ 0 → Loaded seed rounds a f
  pub write_fault : status ≡ 5 → LoadCutShort seed rounds a f
  pub memory : status ≡ 6 → LoadHalted seed rounds a f
  pub only : (status ≡ 0) ⊎ (status ≡ 5) ⊎ (status ≡ 6)

-- .. by the form of the words
abbrev pub Outcome : ℕ → Form → Option (List ℕ) → List ℕ → List ℕ → List ℕ → Type 0
Outcome status (Text form) left bytes a f = LinesOutcome status form left bytes a f
Outcome status (Load seed rounds) left bytes a f = LoadOutcome status seed rounds bytes a f
Outcome status (play_form told) left bytes a f = PlayOutcome status told left bytes a f
Outcome status Clip left bytes a f = ClipOutcome status left bytes a f
