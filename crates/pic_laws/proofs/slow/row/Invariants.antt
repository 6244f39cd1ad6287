use Rattle.std.proofs.Common.{◌^◌}
use Rattle.std.specs.Prelude.{slice_index}
use Rattle.pic_num.specs.Space.{triple}
use Rattle.pic_grid.specs.Gather.{weighted, laid_out}
use Rattle.pic_laws.proofs.SlowSums.{IsSumOf}
use Rattle.pic_laws.proofs.slow.row.Given as goal

abbrev pub invariant-loop-x : goal.invariant-loop-x
invariant-loop-x l =
    IsSumOf (λ x. weighted l.side (triple l.cells) (triple l.offset) (laid_out (triple l.cells) l.values) (triple l.point)
    (record { x = x; y = slice_index l.first 1; z = slice_index l.first 2 }))
    l.x (2 ^ 86) l.total
