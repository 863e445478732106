-- Where a run of `load` stands, and how each of its calls ends. What the sinks held when the run began comes
-- first, and then what they hold.
use Rattle.std.specs.Prelude.{◌≡◌, ℕ, zero, suc, ◌+◌, ◌-◌, ◌≤◌, Bool, true, false, List, [], ◌∷◌, length, Result, Ok, Err}
use Rattle.gate_model.specs.Limits.{most_entries}
use Rattle.gate_model.specs.session.History.{History}
use Rattle.gate_model.specs.session.Output.{out, taken, untaken}
use Rattle.script_grammar.specs.declared.line.Line.{Line}
use Rattle.script_grammar.specs.declared.line.Line.TheVariants.{Start, Server, Take as take_up_to, Press as press_key, Totals as tell_totals}
use Rattle.script_grammar.specs.declared.order.Order.{Order}
use Rattle.script_grammar.specs.declared.order.Order.TheVariants.{Told, Untold}
use Rattle.script_grammar.specs.declared.totals.Totals.{Totals}
use Rattle.script_grammar.specs.Lines.{line_in}
use Rattle.script_load.specs.Words.{drawn}
use Rattle.script_load.specs.Rounds.{IsRoundLine, load_orders}
use Rattle.gate_script.specs.declared.kind.Kind.{Kind}
use Rattle.gate_script.specs.declared.kind.Kind.TheVariants.{Feed, Press, Take, Other}
use Rattle.gate_script.specs.declared.level.Level.{Level}
use Rattle.gate_script.specs.declared.load.Load.{Load}
use Rattle.gate_script.specs.declared.sight.Sight.TheVariants.{Played}
use Rattle.gate_script.specs.declared.stop.Stop.{Stop}
use Rattle.gate_script.specs.declared.stop.Stop.TheVariants.{Refused}
use Rattle.gate_script.specs.Plays.{AreTotals, feeds}
use Rattle.gate_script.specs.Sinks.{Sinks}
use Rattle.gate_script.specs.Running.{AllDone, At, StoppedIn}

-- what a line adds to
abbrev pub kind_of : Line → Kind
kind_of (Server bytes) = Feed
kind_of (press_key viewer keysym) = Press
kind_of (take_up_to most) = Take
kind_of line = Other

-- how many entries a history has, and how many bytes wait for the host
pub record IsLevel (level : Level) (h : History) : Type 0 where
  pub entries : level.entries ≡ length h
  pub pending : level.pending ≡ length (out h) - taken h

-- the totals after a line of this kind
abbrev pub counted : Totals → Kind → Level → Level → Totals
counted totals Feed before after = record totals { feeds = totals.feeds + (after.entries - before.entries) }
counted totals Press before after = record totals { keys = totals.keys + (after.entries - before.entries) }
counted totals Take before after = record totals { out = totals.out + (before.pending - after.pending) }
counted totals Other before after = totals

-- the line may be the next one: the first starts a session of 2^40 entries, and each other one is a round's
abbrev pub MayFollow : Bool → Line → Type 0
MayFollow true line = IsRoundLine line
MayFollow false (Start size mode entries) = entries ≡ most_entries
MayFollow false line = ⊥

abbrev pub is_some_list : List Order → Bool
is_some_list [] = false
is_some_list (order ∷ orders) = true

-- so it is of all orders
abbrev pub AreLoads : List Order → Type 0
AreLoads [] = Unit {0}
AreLoads (order ∷ orders) = MayFollow (is_some_list orders) (line_in order) × AreLoads orders

-- the run has done the orders, and the totals are those of the history
pub record LoadAt (orders : List Order) (l : Load) (began now : Sinks) : Type 0 where
  pub at : At Played orders l.run began now
  pub totals : AreTotals l.totals at.play.history
  pub loads : AreLoads orders

-- no line of a load is refused
abbrev pub LoadStopped : List Order → Stop → Sinks → Sinks → Type 0
LoadStopped all (Refused refused) began now = ⊥
LoadStopped all stop began now = StoppedIn all stop began now

abbrev pub LoadEnds : List Order → Result (Unit {0}) Stop → Load → Sinks → Sinks → Type 0
LoadEnds all (Ok done) l began now = LoadAt all l began now
LoadEnds all (Err stop) l began now = LoadStopped all stop began now

-- so many takes behind some orders
abbrev pub takes_behind : List Order → ℕ → List Order
takes_behind orders zero = orders
takes_behind orders (suc takes) = Untold (take_up_to 65536) ∷ takes_behind orders takes

-- nothing waits for the host
pub record LoadTaken (orders : List Order) (l : Load) (began now : Sinks) : Type 0 where
  pub stands : LoadAt orders l began now
  pub all_taken : untaken stands.at.play.history ≡ []

-- takes were done until nothing waited, or stopped
abbrev pub TakesEnd : List Order → Result (Unit {0}) Stop → Load → Sinks → Sinks → Type 0
TakesEnd orders (Ok done) l began now = (takes : ℕ) × LoadTaken (takes_behind orders takes) l began now
TakesEnd orders (Err stop) l began now = (takes : ℕ) × LoadStopped (takes_behind orders takes) stop began now

-- the totals were told, which left the history as it was
pub record TotalsAreTold (orders : List Order) (totals : Totals) (h : History) (began now : Sinks) : Type 0 where
  pub done : AllDone (Told (tell_totals totals) ∷ orders) began now
  pub same : done.play.history ≡ h

abbrev pub TotalsEnd : List Order → Totals → History → Result (Unit {0}) Stop → Sinks → Sinks → Type 0
TotalsEnd orders totals h (Ok done) began now = TotalsAreTold orders totals h began now
TotalsEnd orders totals h (Err stop) began now = LoadStopped (Told (tell_totals totals) ∷ orders) stop began now

-- how a whole load ends
pub record LoadIsDone (seed rounds : ℕ) (began now : Sinks) : Type 0 where
  pub takes : ℕ
  pub totals : Totals
  pub done : AllDone (load_orders (drawn seed) rounds takes totals) began now
  pub are_totals : AreTotals totals done.play.history
  pub all_taken : untaken done.play.history ≡ []

abbrev pub LoadRunEnds : ℕ → ℕ → Result (Unit {0}) Stop → Sinks → Sinks → Type 0
LoadRunEnds seed rounds (Ok done) began now = LoadIsDone seed rounds began now
LoadRunEnds seed rounds (Err stop) began now = (takes : ℕ) × (totals : Totals) × LoadStopped (load_orders (drawn seed) rounds takes totals) stop began now
