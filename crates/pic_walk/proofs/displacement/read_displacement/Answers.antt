use Rattle.std.proofs.Common.{refl, arith}
use Rattle.pic_walk.specs.Bounds.{fastest}
use Rattle.pic_walk.specs.Displacement.{displacement}
use Rattle.pic_walk.proofs.FillLaws.{along_most, signed_fit}
use Rattle.pic_walk.proofs.WalkLaws.{goes_on, exits}
use Rattle.pic_walk.proofs.displacement.read_displacement.Goals as goal

pub returns-in_err-by-clause-walks : goal.returns-in_err-by-clause-walks
unfolding displacement
returns-in_err-by-clause-walks c =
    exits _ _ c.from_residual.ensures.1 (rw c.way_limits.ensures.value at c.in_err-by.ensures.walks)

pub returns-in_err-v-clause-walks : goal.returns-in_err-v-clause-walks
unfolding displacement
returns-in_err-v-clause-walks c =
    goes_on _ _ _ (rw c.way_limits.ensures.value at c.in_ok-by.ensures.walks.answer)
    (exits _ _ c.from_residual-in_err-v.ensures.1 (rw c.velocity_limits.ensures.value at c.in_err-v.ensures.walks))

pub returns-clause-walks : goal.returns-clause-walks
unfolding displacement
returns-clause-walks c =
    goes_on _ _ _ (rw c.way_limits.ensures.value at c.in_ok-by.ensures.walks.answer)
    (goes_on _ _ _ (rw c.velocity_limits.ensures.value at c.in_ok-v.ensures.walks.answer)
    (record { answer = refl }))

pub need_signed_three-requires : goal.need_signed_three-requires
need_signed_three-requires c = rw c.way_limits.ensures.value (signed_fit c.args.cells.side (omega (arith, c.way_limits.ensures.most)))

pub need_signed_three-requires-2 : goal.need_signed_three-requires-2
need_signed_three-requires-2 c = rw c.velocity_limits.ensures.value
    (signed_fit (fastest c.args.cells.side) (omega (arith, c.velocity_limits.ensures.most)))

pub returns-clause-limits : goal.returns-clause-limits
returns-clause-limits c = record {
  way = along_most c.args.cells.side _ (rw c.way_limits.ensures.value at c.in_ok-by.ensures.bounds);
  speed = along_most (fastest c.args.cells.side) _ (rw c.velocity_limits.ensures.value at c.in_ok-v.ensures.bounds);
}
