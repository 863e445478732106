use Rattle.desk_core.proofs.DataRuns.{byte_showed}
use Rattle.desk_core.proofs.host.Host.show_byte.Goals as goal

pub returns : goal.returns
returns c = byte_showed c.args.self.now c.feed-pair.new.self c.apply.new.screen c.apply-2.new.screen c.feed-pair.result.first c.feed-pair.result.second
    c.args.bytes.now c.args.into.now.items c.apply.new.into.items c.apply-2.new.into.items c.requires c.feed-pair.ensures.controls c.feed-pair.ensures.state
    c.apply.ensures.screen c.in_ok-apply.ensures.appended c.apply-2.ensures.screen c.in_ok-apply-2.ensures.appended
