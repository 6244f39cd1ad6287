use Rattle.std.proofs.Common.{Ok, ap, sym}
use Rattle.pic_block.specs.Cells.{Grid}
use Rattle.pic_settings.specs.Keys.{grid}
use Rattle.pic_walk.proofs.WalkLaws.{goes_on, exits}
use Rattle.pic_settings.proofs.GridLaws.{allowed}
use Rattle.pic_settings.proofs.grid.read_grid.Goals as goal

pub returns-in_err-table-clause-walks : goal.returns-in_err-table-clause-walks
unfolding grid
returns-in_err-table-clause-walks c =
    exits _ _ c.from_residual.ensures.1 c.in_err-table.ensures

pub returns-in_err-cells-clause-walks : goal.returns-in_err-cells-clause-walks
unfolding grid
returns-in_err-cells-clause-walks c =
    goes_on _ _ _ c.in_ok-table.ensures.answer (exits _ _ c.from_residual-in_err-cells.ensures.1 c.in_err-cells.ensures.walks)

pub returns-in_err-tiles-clause-walks : goal.returns-in_err-tiles-clause-walks
unfolding grid
returns-in_err-tiles-clause-walks c =
    goes_on _ _ _ c.in_ok-table.ensures.answer (goes_on _ _ _ c.in_ok-cells.ensures.walks.answer
    (exits _ _ c.from_residual-in_err-tiles.ensures.1 c.in_err-tiles.ensures.walks))

pub returns-in_err-sub-clause-walks : goal.returns-in_err-sub-clause-walks
unfolding grid
returns-in_err-sub-clause-walks c =
    goes_on _ _ _ c.in_ok-table.ensures.answer (goes_on _ _ _ c.in_ok-cells.ensures.walks.answer
    (goes_on _ _ _ c.in_ok-tiles.ensures.walks.answer
    (exits _ _ c.from_residual-in_err-sub.ensures.1 c.in_err-sub.ensures.walks)))

pub returns-clause-walks : goal.returns-clause-walks
unfolding grid
returns-clause-walks c =
    goes_on _ _ _ c.in_ok-table.ensures.answer (goes_on _ _ _ c.in_ok-cells.ensures.walks.answer
    (goes_on _ _ _ c.in_ok-tiles.ensures.walks.answer
    (goes_on _ _ _ c.in_ok-sub.ensures.walks.answer
    (record { answer = ap (λ (g : Grid). Ok (g, c.in_ok-tiles.tiles)) (sym c.new.ensures) }))))

pub returns-clause-tiled : goal.returns-clause-tiled
returns-clause-tiled c = rw c.new.ensures c.in_ok-tiles.ensures.tiled

pub returns-clause-cells : goal.returns-clause-cells
returns-clause-cells c = rw c.new.ensures c.in_ok-cells.ensures.bounds

pub returns-clause-allowed : goal.returns-clause-allowed
returns-clause-allowed c =
    rw c.new.ensures (allowed c.args.version c.in_ok-cells.cells c.in_ok-sub.sub c.in_ok-cells.ensures.few c.in_ok-sub.ensures.allowed)
