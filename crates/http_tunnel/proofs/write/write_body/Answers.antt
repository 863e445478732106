use Rattle.std.proofs.Common.{refl, inl, inr}
use Rattle.http_tunnel.proofs.Writing.{body_written, no_body, no_room}
use Rattle.http_tunnel.proofs.write.write_body.Goals as goal

pub write_wish-requires : goal.write_wish-requires
write_wish-requires g c = c.in-Ok.ensures.3

pub returns-in-Ok-clause-wrote : goal.returns-in-Ok-clause-wrote
returns-in-Ok-clause-wrote g c = let b = c.in-Ok.ensures in body_written _ _ _ _ b.0 _ c.write_wish.result b.1 b.2 c.write_wish.ensures.wrote

pub returns-in-Err-Form-clause-wrote : goal.returns-in-Err-Form-clause-wrote
returns-in-Err-Form-clause-wrote g c = inl (refl, refl, no_body _ _ c.in-Err-Form.field-0-is c.in-Err-Form.ensures)

pub returns-in-Err-NoMemory-clause-wrote : goal.returns-in-Err-NoMemory-clause-wrote
returns-in-Err-NoMemory-clause-wrote g c = inr (inl (refl, refl, no_room _ _ c.in-Err-NoMemory.field-0-is c.in-Err-NoMemory.ensures))
