use Rattle.std.proofs.Common.{lit<}
use Rattle.pic_walk.proofs.WalkLaws.{goes_on, exits, exits_as}
use Rattle.pic_settings.specs.Keys.{tiles}
use Rattle.pic_settings.proofs.GridLaws.{tiles_within}
use Rattle.pic_settings.proofs.TileLaws.{tiled_size}
use Rattle.pic_settings.proofs.grid.read_tiles.Goals as goal

pub returns-in_err-tiles-clause-walks : goal.returns-in_err-tiles-clause-walks
unfolding tiles
returns-in_err-tiles-clause-walks c = exits _ _ c.from_residual.ensures.1 c.in_err-tiles.ensures.walks

pub check_few_tiles-requires : goal.check_few_tiles-requires
check_few_tiles-requires c =
    let tiled = c.in_ok-tiles.ensures.tiled in
    tiled_size _ _ c.requires.cells (tiled 0 (lit< tt)) (tiled 1 (lit< tt)) (tiled 2 (lit< tt))

pub returns-in_err-check_few_tiles-clause-walks : goal.returns-in_err-check_few_tiles-clause-walks
unfolding tiles
returns-in_err-check_few_tiles-clause-walks c =
    goes_on _ _ _ c.in_ok-tiles.ensures.walks.answer
    (exits_as _ c.from_residual-in_err-check_few_tiles.ensures.1 c.in_err-check_few_tiles.ensures.walks)

pub returns-clause-walks : goal.returns-clause-walks
unfolding tiles
returns-clause-walks c =
    goes_on _ _ _ c.in_ok-tiles.ensures.walks.answer (record { answer = c.in_ok-check_few_tiles.ensures.walks.answer })

pub returns-clause-tiled : goal.returns-clause-tiled
returns-clause-tiled c = tiles_within _ _ c.in_ok-tiles.ensures.tiled c.in_ok-check_few_tiles.ensures.few
