use Rattle.std.proofs.Common.{◌-◌, ◌+◌, ◌*◌, ◌%◌, ◌/◌, ℕ, arith, ◌∙◌, get_or}
use Rattle.std.proofs.lemmas.List.{length-set}
use Rattle.pic_tile.specs.Tiling.{neighbour_of}
use Rattle.pic_tile.proofs.AllTilesLaws.{neighbour_below}
use Rattle.pic_core.proofs.BesideLaws.{middle_is, found_more}
use Rattle.pic_core.proofs.around.middles.Goals as goal

pub overflow_add-all : goal.overflow_add-all
overflow_add-all c =
    let m = c.args.map.now.tiles in
    let t = c.args.tile in
    let y = c.beside-ys.ensures (c.loop-row.row % 3) (omega arith) in
    let z = c.beside-zs.ensures (c.loop-row.row / 3) (omega (arith, c.loop-row-test.true)) in
    let y_below = neighbour_below m t (10 + c.loop-row.row % 3 * 3) c.requires in
    let z_below = neighbour_below m t (4 + c.loop-row.row / 3 * 9) c.requires in
    let count = c.count-most.ensures.value in
    let most = c.count-most.ensures.most in
    omega (arith, y, z, y_below, z_below, count, most)

pub overflow_sub-all : goal.overflow_sub-all
overflow_sub-all c =
    let m = c.args.map.now.tiles in
    let t = c.args.tile in
    let sum = middle_is m t c.requires c.loop-row.row (get_or c.beside-ys.result (c.loop-row.row % 3) 0) (get_or c.beside-zs.result (c.loop-row.row / 3) 0)
    c.loop-row-test.true (c.beside-ys.ensures (c.loop-row.row % 3) (omega arith))
    (c.beside-zs.ensures (c.loop-row.row / 3) (omega (arith, c.loop-row-test.true))) in
    omega (arith, sum)

pub loop-row-preserved : goal.loop-row-preserved
loop-row-preserved c =
    let m = c.args.map.now.tiles in
    let t = c.args.tile in
    let y = get_or c.beside-ys.result (c.loop-row.row % 3) 0 in
    let z = get_or c.beside-zs.result (c.loop-row.row / 3) 0 in
    let long = c.loop-row.invariant.long in
    let sum = middle_is m t c.requires c.loop-row.row y z c.loop-row-test.true (c.beside-ys.ensures (c.loop-row.row % 3) (omega arith))
    (c.beside-zs.ensures (c.loop-row.row / 3) (omega (arith, c.loop-row-test.true))) in
    record {
      long = length-set c.loop-row.all c.loop-row.row (y + z - t) ∙ long;
      found = found_more (λ (k : ℕ). neighbour_of m t (1 + k * 3)) c.loop-row.all c.loop-row.row (y + z - t) (omega (arith, long, c.loop-row-test.true))
          c.loop-row.invariant.found (omega (arith, sum));
    }
