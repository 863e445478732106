-- What a desk's fields keep, as contracts see it.
use Rattle.desk_core.specs.Desk.{DeskState, IsKept}
use Rattle.desk_core.specs.declared.desk.Desk.TheInside.{Inside}

abbrev pub state : Inside → DeskState
state d = record {
  setup = d.setup;
  host = d.host;
  outgoing = d.outgoing;
  frames = d.frames;
  drawing = d.drawing;
  book = d.book;
  past = d.log.past;
  entries = d.log.entries;
  cause = d.cause;
}

-- the desk stands for some history
abbrev pub StandsFor : Inside → Type 0
StandsFor d = IsKept (state d)
