use Rattle.std.proofs.Common.{rules}
use Rattle.guac_handshake.proofs.Touching.{begin_answered, begin_granted, begin_may, begin_named, join_answered, join_granted, join_may, join_named, join_refuses, named}
use Rattle.guac_handshake.proofs.asking.ask.Goals as goal

pub returns-in-Begin-clause-answers : goal.returns-in-Begin-clause-answers
returns-in-Begin-clause-answers g c =
    let b = c.begin.ensures.begins in
    record {
      kind = begin_may g.D.Door.id_of (g.D.Door.view c.args.door.now) (g.D.Door.view c.begin.new.self) _ _ _ c.in-Begin.is c.begin.ensures.kind b.conflict b.helper;
      named = begin_named g.D.Door.id_of (g.D.Door.view c.args.door.now) (g.D.Door.view c.begin.new.self) _ _ _ c.in-Begin.is b.sessions;
      sessions = begin_answered g.D.Door.id_of _ _ _ _ _ c.in-Begin.is b.sessions;
      out = b.out;
      asked = search rules;
      helper = b.helper;
    }

pub returns-in-Join-clause-answers : goal.returns-in-Join-clause-answers
returns-in-Join-clause-answers g c =
    let j = c.join.ensures.joins in
    record {
      kind = join_may g.D.Door.id_of (g.D.Door.view c.args.door.now) (g.D.Door.view c.join.new.self) _ _ _ _ _ c.in-Join.is c.as_str.ensures (join_refuses _ _ _ _ _ c.join.ensures.kind j.absent j.ids j.history);
      named = join_named g.D.Door.id_of (g.D.Door.view c.args.door.now) (g.D.Door.view c.join.new.self) _ _ _ _ _ _ _ c.in-Join.is c.as_str.ensures c.join.ensures.welcome;
      sessions = join_answered g.D.Door.id_of _ _ _ _ _ _ _ c.in-Join.is (named _ _ _ _ _ c.join.ensures.welcome) j.ids;
      out = j.out;
      asked = search rules;
      helper = search rules;
    }

pub returns-in-Begin-clause-granted : goal.returns-in-Begin-clause-granted
returns-in-Begin-clause-granted g c = begin_granted (g.D.Door.begun c.begin.new.self) (g.D.Door.joined c.begin.new.self) _ _ _ c.in-Begin.is c.begin.ensures.begun

pub returns-in-Join-clause-granted : goal.returns-in-Join-clause-granted
returns-in-Join-clause-granted g c = join_granted g.D.Door.id_of (g.D.Door.begun c.join.new.self) (g.D.Door.joined c.join.new.self) _ _ _ _ _ _ c.in-Join.is c.join.ensures.welcome
