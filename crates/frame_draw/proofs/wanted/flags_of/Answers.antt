use Rattle.std.proofs.lemmas.Result.{IfOk-weaker}
use Rattle.frame_draw.proofs.Marking.{marked_left}
use Rattle.frame_draw.proofs.wanted.flags_of.Goals as goal

pub returns-in-Listed-clause-told : goal.returns-in-Listed-clause-told
returns-in-Listed-clause-told c =
    IfOk-weaker c.flags_of_list.result _ _
    (λ flags. marked_left c.args.cols c.args.total c.args.wanted _ c.in-Listed.list.now flags.items c.in-Listed.is (λ copies left. left))
    c.flags_of_list.ensures.told
