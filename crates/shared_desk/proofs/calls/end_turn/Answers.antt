use Rattle.shared_desk.proofs.Turns.{counted_entry, counted_value, ends_sound}
use Rattle.shared_desk.proofs.calls.end_turn.Goals as goal

pub pass_on-requires-clause-added : goal.pass_on-requires-clause-added
pass_on-requires-clause-added g c = λ added. counted_entry g.N.Adds.adds _ _ c.entries_are_few.ensures (c.requires.ends.added added)

pub pass_on-requires-clause-same : goal.pass_on-requires-clause-same
pass_on-requires-clause-same g c = λ same. counted_value _ _ c.entries_are_few.ensures (c.requires.ends.same same)

pub returns-clause-pass : goal.returns-clause-pass
returns-clause-pass g c = record { places = c.pass_on.ensures.places; sound = ends_sound c.desks_are_whole.ensures g.N.Adds.adds c.args.appended _ _ _ c.pass_on.ensures.added c.pass_on.ensures.same c.requires.ends.same }
