use Rattle.std.proofs.Common.{rules}
use Rattle.pic_push.proofs.RegionLaws.{level_by}
use Rattle.pic_push.proofs.region.level_on.Goals as goal

pub returns : goal.returns
returns c =
    level_by c.args.low c.args.size c.args.cell _ _ _ _ c.outside.result c.outside-2.result (search rules) (search rules) (search rules) (search rules)
    c.outside.ensures.most c.outside.ensures.none c.outside.ensures.one c.outside-2.ensures.most c.outside-2.ensures.none c.outside-2.ensures.one
