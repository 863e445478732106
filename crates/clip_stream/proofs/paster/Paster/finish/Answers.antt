use Rattle.std.proofs.Common.{◌++◌, ap, sym}
use Rattle.clip_stream.specs.Sources.{unread_of}
use Rattle.clip_stream.proofs.Steps.{counted_none}
use Rattle.clip_stream.proofs.paster.Paster.finish.Goals as goal

pub returns-clause-none_comes : goal.returns-clause-none_comes
returns-clause-none_comes c more =
    let s = c.args.self.now in
    ap (λ x. s.clip.waiting ++ unread_of s.is_raw s.kept s.clip.clip s.held x) (sym (counted_none s.is_ended))
