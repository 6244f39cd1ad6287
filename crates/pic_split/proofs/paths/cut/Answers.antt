use Rattle.std.proofs.Common.{◌+◌, ◌^◌, arith}
use Rattle.pic_num.specs.Space.{spot}
use Rattle.pic_split.proofs.CrossingLaws.{at_most_more}
use Rattle.pic_split.proofs.paths.cut.Goals as goal

pub cell_after-requires-in-Three : goal.cell_after-requires-in-Three
cell_after-requires-in-Three c =
    at_most_more (spot c.cell_after-third.result) (2 ^ 30 + 2 ^ 15 + 1 + 1) (2 ^ 30 + 2 ^ 16) (omega arith)
    (c.cell_after-third.ensures.size (2 ^ 30 + 2 ^ 15 + 1) (c.cell_after-next-in-Three.ensures.size (2 ^ 30 + 2 ^ 15) c.requires.cell))
