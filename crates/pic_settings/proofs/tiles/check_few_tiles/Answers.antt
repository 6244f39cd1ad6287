use Rattle.std.proofs.Common.{◌<◌, ◌^◌, refl, arith}
use Rattle.pic_walk.proofs.WalkLaws.{goes_on, exits}
use Rattle.pic_settings.specs.Tiles.{few_tiles}
use Rattle.pic_settings.proofs.GridLaws.{passed}
use Rattle.pic_settings.proofs.tiles.check_few_tiles.Goals as goal

pub returns-in_err-check_within-clause-walks : goal.returns-in_err-check_within-clause-walks
unfolding few_tiles
returns-in_err-check_within-clause-walks c =
    let few : c.tiles_in_all.result < 2 ^ 64 = omega arith in
    let count = rw c.tiles_in_all.ensures at (passed c.tiles_in_all.result c.from-count.result few c.from-count.ensures) in
    exits _ _ c.from_residual.ensures.1 (rw (c.new.ensures, count) at c.in_err-check_within.ensures.walks)

pub returns-clause-walks : goal.returns-clause-walks
unfolding few_tiles
returns-clause-walks c =
    let few : c.tiles_in_all.result < 2 ^ 64 = omega arith in
    let count = rw c.tiles_in_all.ensures at (passed c.tiles_in_all.result c.from-count.result few c.from-count.ensures) in
    goes_on _ _ _ (rw (c.new.ensures, count) at c.in_ok-check_within.ensures.walks.answer) (record { answer = refl })
