use Rattle.std.proofs.Common.{◌≡◌, ◌-◌, ◌+◌, ◌*◌, ℕ, arith, ◌∙◌, get_or, slice_set, subst}
use Rattle.std.proofs.lemmas.List.{length-set}
use Rattle.pic_tile.specs.Tiling.{neighbour_of}
use Rattle.pic_core.proofs.BesideLaws.{row_fits, in_row, found_three}
use Rattle.pic_core.proofs.around.neighbours.Goals as goal

pub overflow_add-all : goal.overflow_add-all
overflow_add-all c =
    let fits = row_fits c.args.map.now.tiles c.args.tile c.requires c.beside.result c.middles-middles.result c.beside.ensures c.middles-middles.ensures
    c.loop-row.row 0 c.loop-row-test.true (omega arith) c.count-most.result c.count-most.ensures.value c.count-most.ensures.most in
    let sum = fits.0 in
    omega (arith, sum)

pub overflow_sub-all : goal.overflow_sub-all
overflow_sub-all c =
    let fits = row_fits c.args.map.now.tiles c.args.tile c.requires c.beside.result c.middles-middles.result c.beside.ensures c.middles-middles.ensures
    c.loop-row.row 0 c.loop-row-test.true (omega arith) c.count-most.result c.count-most.ensures.value c.count-most.ensures.most in
    fits.1

pub overflow_add-all-in-loop-row : goal.overflow_add-all-in-loop-row
overflow_add-all-in-loop-row c =
    let fits = row_fits c.args.map.now.tiles c.args.tile c.requires c.beside.result c.middles-middles.result c.beside.ensures c.middles-middles.ensures
    c.loop-row.row 1 c.loop-row-test.true (omega arith) c.count-most.result c.count-most.ensures.value c.count-most.ensures.most in
    let sum = fits.0 in
    omega (arith, sum)

pub overflow_sub-all-in-loop-row : goal.overflow_sub-all-in-loop-row
overflow_sub-all-in-loop-row c =
    let fits = row_fits c.args.map.now.tiles c.args.tile c.requires c.beside.result c.middles-middles.result c.beside.ensures c.middles-middles.ensures
    c.loop-row.row 1 c.loop-row-test.true (omega arith) c.count-most.result c.count-most.ensures.value c.count-most.ensures.most in
    fits.1

pub overflow_add-all-in-loop-row-3 : goal.overflow_add-all-in-loop-row-3
overflow_add-all-in-loop-row-3 c =
    let fits = row_fits c.args.map.now.tiles c.args.tile c.requires c.beside.result c.middles-middles.result c.beside.ensures c.middles-middles.ensures
    c.loop-row.row 2 c.loop-row-test.true (omega arith) c.count-most.result c.count-most.ensures.value c.count-most.ensures.most in
    let sum = fits.0 in
    omega (arith, sum)

pub overflow_sub-all-in-loop-row-2 : goal.overflow_sub-all-in-loop-row-2
overflow_sub-all-in-loop-row-2 c =
    let fits = row_fits c.args.map.now.tiles c.args.tile c.requires c.beside.result c.middles-middles.result c.beside.ensures c.middles-middles.ensures
    c.loop-row.row 2 c.loop-row-test.true (omega arith) c.count-most.result c.count-most.ensures.value c.count-most.ensures.most in
    fits.1

pub loop-row-preserved : goal.loop-row-preserved
loop-row-preserved c =
    let m = c.args.map.now.tiles in
    let t = c.args.tile in
    let k = c.loop-row.row in
    let middle = get_or c.middles-middles.result k 0 in
    let a = get_or c.beside.result 0 0 in
    let b = get_or c.beside.result 1 0 in
    let d = get_or c.beside.result 2 0 in
    let long = c.loop-row.invariant.long in
    let first =
    in_row m t c.requires c.beside.result c.middles-middles.result c.beside.ensures c.middles-middles.ensures k 0 c.loop-row-test.true (omega arith) in
    let second =
    in_row m t c.requires c.beside.result c.middles-middles.result c.beside.ensures c.middles-middles.ensures k 1 c.loop-row-test.true (omega arith) in
    let third =
    in_row m t c.requires c.beside.result c.middles-middles.result c.beside.ensures c.middles-middles.ensures k 2 c.loop-row-test.true (omega arith) in
    record {
      long =
          length-set (slice_set (slice_set c.loop-row.all (k * 3) (a + middle - t)) (k * 3 + 1) (b + middle - t)) (k * 3 + 2) (d + middle - t)
          ∙ length-set (slice_set c.loop-row.all (k * 3) (a + middle - t)) (k * 3 + 1) (b + middle - t)
          ∙ length-set c.loop-row.all (k * 3) (a + middle - t) ∙ long;
      found = found_three (neighbour_of m t) c.loop-row.all k (a + middle - t) (b + middle - t) (d + middle - t)
          (omega (arith, long, c.loop-row-test.true)) c.loop-row.invariant.found
          (let same : k * 3 + 0 ≡ k * 3 = omega arith in subst (λ (j : ℕ). a + middle - t ≡ neighbour_of m t j) same (omega (arith, first)))
          (omega (arith, second)) (omega (arith, third));
    }
