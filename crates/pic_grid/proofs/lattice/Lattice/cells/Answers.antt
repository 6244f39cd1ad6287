use Rattle.std.proofs.Common.{◌≡◌, ◌*◌, length, subst}
use Rattle.pic_num.specs.Space.{triple}
use Rattle.pic_block.specs.Cells.{count_of}
use Rattle.pic_grid.specs.Lattice.{Field}
use Rattle.pic_grid.specs.Parts.{value_in}
use Rattle.pic_grid.proofs.LatticeLaws.{length-values_of}
use Rattle.pic_grid.proofs.lattice.Lattice.cells.Goals as goal

pub returns-clause-shape : goal.returns-clause-shape
returns-clause-shape c =
    let size = length-values_of c.self.inside.cells.n (value_in c.self.inside.cells.n (triple c.self.inside.parts) c.self.inside.blocks.items) in
    subst (λ (f : Field). length f.values ≡ 3 * count_of f.cells) c.self.view_is size
