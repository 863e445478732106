use Rattle.std.proofs.Common.{ap, arith, ◌∙◌, length}
use Rattle.share_links.proofs.Making.{long_id}
use Rattle.share_links.proofs.answering.name_in.Goals as goal

pub unwrap-requires : goal.unwrap-requires
unwrap-requires c = c.extend_from_slice.ensures.succeeds (omega (arith, c.push_reserved.ensures.len, c.push_reserved.ensures.capacity, c.requires.room, ap length c.requires.empty, long_id _ _ (c.as_bytes.ensures.value ∙ c.encode_lower-text.ensures.text)))
