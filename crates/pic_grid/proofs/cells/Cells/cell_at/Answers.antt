use Rattle.std.proofs.Common.{◌≡◌, subst}
use Rattle.pic_num.specs.Space.{triple}
use Rattle.pic_block.specs.Cells.{Grid, index_of, cell_of}
use Rattle.pic_block.proofs.CellLaws.{index_of-cell_of}
use Rattle.pic_grid.proofs.cells.Cells.cell_at.Goals as goal

pub returns-clause-number : goal.returns-clause-number
returns-clause-number c =
    let n = triple c.self.inside.n in
    subst (λ (g : Grid). index_of g.n (cell_of n c.args.index) ≡ c.args.index) c.self.view_is (index_of-cell_of n c.args.index)
