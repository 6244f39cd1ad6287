use Rattle.std.proofs.Common.{◌^◌}
use Rattle.std.specs.Prelude.{slice_index}
use Rattle.pic_num.specs.Space.{triple}
use Rattle.pic_grid.specs.Gather.{weighted, laid_out}
use Rattle.pic_grid.specs.Sums.{sum_below}
use Rattle.pic_laws.proofs.SlowSums.{IsSumOf}
use Rattle.pic_laws.proofs.slow.layer.Given as goal

abbrev pub invariant-loop-y : goal.invariant-loop-y
invariant-loop-y l =
    IsSumOf (λ y. sum_below (slice_index l.cells 0) (λ x. weighted l.side (triple l.cells) (triple l.offset) (laid_out (triple l.cells) l.values)
    (triple l.point)
    (record { x = x; y = y; z = l.z }))) l.y (2 ^ 93) l.total
