use Rattle.std.proofs.Common.{List, ℕ, ◌++◌, take, ap, sym, ◌∙◌, arith}
use Rattle.clip_stream.specs.Sources.{unread_of}
use Rattle.clip_stream.proofs.Steps.{counted_all, feeds}
use Rattle.clip_stream.proofs.paster.Paster.feed.Goals as goal

pub returns-clause-fed : goal.returns-clause-fed
returns-clause-fed c more =
    let s = c.args.self.now in
    let bytes = take c.fill.result c.args.bytes.now in
    ap (λ t. s.clip.waiting ++ t)
    (ap (unread_of s.is_raw s.kept s.clip.clip s.held) (counted_all s.is_ended (bytes ++ more) c.requires)
    ∙ feeds s.is_raw s.clip.clip s.kept s.held c.fill.new.self bytes more (omega arith) c.fill.ensures.moved
    ∙ ap (unread_of s.is_raw s.kept s.clip.clip c.fill.new.self) (sym (counted_all s.is_ended more c.requires)))
