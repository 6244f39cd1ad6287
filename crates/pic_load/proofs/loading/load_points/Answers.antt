use Rattle.std.proofs.Common.{◌<◌, length, slice_index_or, refl, arith}
use Rattle.pic_deck.specs.Species.{no_point}
use Rattle.pic_load.proofs.LoadLaws.{so_far, one_more, placed_more}
use Rattle.pic_load.proofs.loading.load_points.Goals as goal

pub add-requires : goal.add-requires
add-requires c =
    let size = so_far _ _ c.args.species c.loop-point.point-index (λ i. slice_index_or c.args.points.now i no_point) c.loop-point.invariant.filled in
    omega (arith, size, c.requires)

pub loop-point-preserved : goal.loop-point-preserved
loop-point-preserved c =
    let inv = c.loop-point.invariant in
    let k = c.loop-point.point-index in
    let points = c.args.points.now in
    let point = slice_index_or points k no_point in
    let below : k < length points = omega arith in
    record {
      filled = one_more c.args.particles.now.items _ _ c.args.species k (λ i. slice_index_or points i no_point) point inv.filled c.in_ok-add.ensures refl;
      placed = λ n m kinds are placed.
          placed_more n m _ _ _ c.args.species point kinds (are.each k below).place (are.each k below).speed c.in_ok-add.ensures
          (inv.placed n m kinds are placed);
    }
