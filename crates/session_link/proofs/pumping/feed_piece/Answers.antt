use Rattle.session_link.proofs.Pumped.{fed_piece, refused_closed, refused_memory, refused_worn}
use Rattle.session_link.proofs.pumping.feed_piece.Goals as goal

pub returns-in-Ok-clause-step : goal.returns-in-Ok-clause-step
returns-in-Ok-clause-step g c = fed_piece _ _ c.args.piece.now c.args.now _ c.in-Ok.ensures.called

pub returns-in-Err-Closed-clause-step : goal.returns-in-Err-Closed-clause-step
returns-in-Err-Closed-clause-step g c = refused_closed _ _ c.args.piece.now c.args.now _ c.requires c.in-Err-Closed.ensures.called c.in-Err-Closed.cause c.in-Err-Closed.field-0-is

pub returns-in-Err-Worn-clause-step : goal.returns-in-Err-Worn-clause-step
returns-in-Err-Worn-clause-step g c = refused_worn _ _ c.args.piece.now c.args.now _ c.requires c.in-Err-Worn.ensures.called _ c.in-Err-Worn.field-0-is

pub returns-in-Err-NoMemory-clause-step : goal.returns-in-Err-NoMemory-clause-step
returns-in-Err-NoMemory-clause-step g c = refused_memory _ _ c.args.piece.now c.args.now _ c.requires c.in-Err-NoMemory.ensures.called c.in-Err-NoMemory.field-0-is
