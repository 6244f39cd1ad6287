use Rattle.std.proofs.Common.{◌≤◌}
use Rattle.pic_num.specs.Limits.{most_side}
use Rattle.pic_walk.specs.Extent.{extent_of, IsExtent}
use Rattle.pic_walk.proofs.PointLaws.{point_is, point_within}
use Rattle.pic_walk.proofs.point_reader.point_of.Goals as goal

pub returns-clause-value : goal.returns-clause-value
returns-clause-value c =
    let size : IsExtent (extent_of c.args.cells) = rw c.extent.ensures.value at c.extent.ensures.size in
    let small : c.args.cells.side ≤ most_side = rw c.sub.ensures at c.side.ensures.most in
    point_is c.args.cells c.args.numbers size small c.requires

pub returns-clause-limits : goal.returns-clause-limits
returns-clause-limits c =
    let size : IsExtent (extent_of c.args.cells) = rw c.extent.ensures.value at c.extent.ensures.size in
    rw (returns-clause-value c) (point_within c.args.cells c.args.numbers size c.requires)
