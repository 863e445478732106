use Rattle.std.proofs.Common.{arith, ap, length, ◌∙◌, List, Bool}
use Rattle.tab_stops.proofs.Resizing.{stops_joined}
use Rattle.tab_stops.proofs.stops.TabStops.resized.Goals as goal

pub returns : goal.returns
returns c = stops_joined c.args.columns c.min-kept.result c.args.self.now c.deref.result.now c.deref-2.result.now c.in_ok-held.held.items c.extend_from_slice.new.self.items
    (c.deref.ensures.value ∙ c.self.view_is)
    (c.deref-2.ensures.value ∙ (c.first.view_is ∙ c.in_ok-first.ensures))
    (omega (arith, c.min-kept.ensures, c.len.ensures, c.len-2.ensures, ap length c.deref.ensures.value, ap length c.deref-2.ensures.value, c.deref.ensures.len, c.deref-2.ensures.len))
    c.in_ok-held.ensures.items
    c.in_ok-extend_from_slice.ensures.items
