use Rattle.std.proofs.Common.{arith}
use Rattle.pic_num.specs.Space.{triple}
use Rattle.pic_block.proofs.CellLaws.{index_of_below}
use Rattle.pic_grid.specs.Parts.{part_with}
use Rattle.pic_grid.proofs.parts.part_in.Goals as goal

pub returns-then-count_in-eq1 : goal.returns-then-count_in-eq1
returns-then-count_in-eq1 c =
    let below = index_of_below (triple c.args.parts) (part_with (triple c.args.layers) (triple c.args.cell)) c.requires.within in
    omega (arith, below, c.count_in.ensures)
