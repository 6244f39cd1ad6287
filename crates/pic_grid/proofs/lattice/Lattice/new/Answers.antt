use Rattle.pic_num.specs.Space.{triple}
use Rattle.pic_grid.proofs.PartLaws.{joined_zeros}
use Rattle.pic_grid.proofs.lattice.Lattice.new.Goals as goal

pub returns : goal.returns
returns c =
    let zeros = joined_zeros c.args.cells.n (triple c.args.parts) c.in_ok-blocks.blocks.items c.layers_of-layers.ensures.cells c.requires
    c.in_ok-blocks.ensures.zeros in
    λ i. record { cells = c.args.cells.n; side = c.args.cells.side; parts = triple c.args.parts; values = zeros i }
