-- A desk may go to another thread, and so may what shares it (`Crosses.antt`).
use denote.Param.Send.{IsSend, sendable, view_send}
use denote.Param.SendFields.{declared_send}
use Rattle.std.proofs.Crossing.{crosses}
use Rattle.std.proofs.MapsCrossing as maps
use Rattle.lru.proofs.Crosses.{KeyRef-send, List-send, Deed-send}
use Rattle.screen_grid.specs.contracts.grid.Grid as grid
use Rattle.tab_stops.specs.contracts.stops.TabStops as stops
use Rattle.vt_screen.specs.contracts.pen.Pen as pen
use Rattle.vt_screen.specs.contracts.saved.Saved as saved
use Rattle.vt_screen.specs.contracts.state.State as state
use Rattle.vt_screen.specs.contracts.state.State.TheInside as whole_state
use Rattle.vt_screen.specs.contracts.screen.Screen as screen
use Rattle.vt_screen.specs.contracts.screen.Screen.TheInside as whole_screen
use Rattle.glyph_cache.specs.contracts.cache.Cache as cache
use Rattle.desk_core.specs.contracts.desk.Desk as desk
use Rattle.desk_core.specs.contracts.desk.Desk.TheInside as whole_desk
use Rattle.desk_core.specs.contracts.drawing.Drawing as drawing
use Rattle.desk_core.specs.contracts.host.Host as host
use Rattle.desk_core.specs.contracts.log.Log as log
use Rattle.desk_core.specs.contracts.outgoing.Outgoing as outgoing
use Rattle.desk_core.specs.contracts.frames.Frames as frames
use Rattle.gate_model.specs.contracts.cell.Cell as cell
use Rattle.gate_model.specs.contracts.cell.Half as half
use Rattle.gate_model.specs.contracts.faces.Faces as faces
use Rattle.gate_model.specs.contracts.setup.Setup as setup
use Rattle.viewer_book.specs.contracts.book.Book as book
use Rattle.shared_desk.specs.contracts.held.Held as held

half_send : IsSend half.the_row
half_send = search sendable depth 20

faces_send : IsSend faces.the_row
faces_send = search sendable depth 20

cell_send : IsSend cell.the_row
cell_send = search (half_send, sendable) depth 20

grid_send : IsSend grid.the_row
grid_send = search (cell_send, sendable, crosses) depth 20

stops_send : IsSend stops.the_row
stops_send = search (sendable, crosses) depth 20

pen_send : IsSend pen.the_row
pen_send = search sendable depth 20

saved_send : IsSend saved.the_row
saved_send = search (pen_send, sendable) depth 20

-- field by field, in the order of the struct
whole_state_send : IsSend whole_state.the_row
whole_state_send = declared_send whole_state.the_type (
  search sendable,
  (
    search sendable,
    (
      grid_send,
      (
        search sendable,
        (
          search sendable,
          (
            search sendable,
            (
              search sendable,
              (
                search sendable,
                (
                  search (stops_send, sendable),
                  (
                    search (pen_send, sendable),
                    (
                      search (saved_send, sendable) depth 20,
                      (
                        search sendable depth 20,
                        (
                          search sendable depth 20,
                          (
                            search (faces_send, sendable),
                            (
                              search sendable depth 20,
                              tt,
                            ),
                          ),
                        ),
                      ),
                    ),
                  ),
                ),
              ),
            ),
          ),
        ),
      ),
    ),
  ),
)

state_send : IsSend state.the_row
state_send = view_send whole_state.the_row _ _ _ _ whole_state_send

whole_screen_send : IsSend whole_screen.the_row
whole_screen_send = declared_send whole_screen.the_type (state_send, tt)

screen_send : IsSend screen.the_row
screen_send = view_send whole_screen.the_row _ _ _ _ whole_screen_send

host_send : IsSend host.the_row
host_send = declared_send host.the_type (
  search sendable depth 20 fits 10000,
  (
    search sendable depth 20 fits 10000,
    (
      search sendable depth 40 fits 10000,
      (
        search (screen_send, sendable) depth 10,
        tt,
      ),
    ),
  ),
)

cache_send : IsSend cache.the_row
cache_send = search (sendable, crosses, maps.crosses, KeyRef-send, List-send, Deed-send) depth 30

drawing_send : IsSend drawing.the_row
drawing_send = search (cache_send, sendable, crosses) depth 30

setup_send : IsSend setup.the_row
setup_send = search (faces_send, sendable, crosses, maps.crosses) depth 30

log_send : IsSend log.the_row
log_send = search (sendable, crosses) depth 30

outgoing_send : IsSend outgoing.the_row
outgoing_send = search (sendable, crosses) depth 30

frames_send : IsSend frames.the_row
frames_send = search (sendable, crosses) depth 30

book_send : IsSend book.the_row
book_send = search (sendable, crosses) depth 30

whole_desk_send : IsSend whole_desk.the_row
whole_desk_send = declared_send whole_desk.the_type (
  search (setup_send, sendable) depth 10,
  (
    search (host_send, sendable) depth 10,
    (
      search (outgoing_send, sendable),
      (
        search (frames_send, sendable),
        (
          search (drawing_send, sendable),
          (
            search (book_send, sendable),
            (
              search (log_send, sendable),
              (
                search sendable depth 20,
                tt,
              ),
            ),
          ),
        ),
      ),
    ),
  ),
)

pub desk_send : IsSend desk.the_row
desk_send = view_send whole_desk.the_row _ _ _ _ whole_desk_send

pub held_send : IsSend held.the_row
held_send = search (desk_send, sendable) depth 20 fits 10000
