use Rattle.std.proofs.lemmas.Result.{on_ok_weaker}
use Rattle.join_snapshot.proofs.maker.draw_picture.Goals as goal

pub returns : goal.returns
returns c =
    on_ok_weaker c.draw_places.result (λ added. record { between = c.fill_blanks.new.list.items; later = c.fill_blanks.new.wanted; led = c.in_ok-fill_blanks.ensures; added = added }) c.draw_places.ensures
