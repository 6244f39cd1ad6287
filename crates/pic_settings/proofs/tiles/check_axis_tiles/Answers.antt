use Rattle.std.proofs.Common.{ℤ, ◌<◌, ◌%◌, ◌^◌, unsigned_abs, Ok, ap, sym, arith}
use Rattle.std.proofs.lemmas.Int.{ints, to_z-of_z}
use mir.Syntax.{w64}
use Rattle.pic_walk.proofs.LimitLaws.{widened}
use Rattle.pic_walk.proofs.WalkLaws.{goes_on, exits}
use Rattle.pic_settings.specs.Tiles.{tiles_of_axis}
use Rattle.pic_settings.proofs.GridLaws.{passed, tile_limits}
use Rattle.pic_settings.proofs.tiles.check_axis_tiles.Goals as goal

pub returns-in_err-check_within-clause-walks : goal.returns-in_err-check_within-clause-walks
unfolding tiles_of_axis
returns-in_err-check_within-clause-walks c =
    let limits = tile_limits c.args.cells _ c.new.result (omega arith) c.from-half.ensures c.new.ensures in
    let same = widened c.args.tiles c.from.result c.ranges.tiles c.from.ensures in
    exits _ _ c.from_residual.ensures.1 (rw (limits, same) at c.in_err-check_within.ensures.walks)

pub returns-in_err-check_within-2-clause-walks : goal.returns-in_err-check_within-2-clause-walks
unfolding tiles_of_axis
returns-in_err-check_within-2-clause-walks c =
    let limits = tile_limits c.args.cells _ c.new.result (omega arith) c.from-half.ensures c.new.ensures in
    let same = widened c.args.tiles c.from.result c.ranges.tiles c.from.ensures in
    let kept = to_z-of_z w64 c.args.tiles c.ranges.tiles in
    let is = rw kept at c.from-2.ensures in
    let small : c.args.cells % unsigned_abs c.args.tiles < 2 ^ 64 = omega (arith, ints) in
    let left = passed _ c.from-2.result small is in
    goes_on _ _ _ (rw (limits, same) at c.in_ok-check_within.ensures.walks.answer)
    (exits _ _ c.from_residual-in_err-check_within-2.ensures.1 (rw (c.new-2.ensures, left) at c.in_err-check_within-2.ensures.walks))

pub returns-clause-walks : goal.returns-clause-walks
unfolding tiles_of_axis
returns-clause-walks c =
    let limits = tile_limits c.args.cells _ c.new.result (omega arith) c.from-half.ensures c.new.ensures in
    let same = widened c.args.tiles c.from.result c.ranges.tiles c.from.ensures in
    let kept = to_z-of_z w64 c.args.tiles c.ranges.tiles in
    let is = rw kept at c.from-2.ensures in
    let small : c.args.cells % unsigned_abs c.args.tiles < 2 ^ 64 = omega (arith, ints) in
    let left = passed _ c.from-2.result small is in
    goes_on _ _ _ (rw (limits, same) at c.in_ok-check_within.ensures.walks.answer)
    (goes_on _ _ _ (rw (c.new-2.ensures, left) at c.in_ok-check_within-2.ensures.walks.answer)
    (record { answer = ap (λ (z : ℤ). Ok (unsigned_abs z)) (sym kept) }))
