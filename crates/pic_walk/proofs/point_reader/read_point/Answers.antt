use Rattle.std.proofs.Common.{Ok, ap, sym}
use Rattle.pic_walk.specs.Points.{point}
use Rattle.pic_walk.proofs.WalkLaws.{goes_on, exits}
use Rattle.pic_walk.proofs.point_reader.read_point.Goals as goal

pub returns-in_err-numbers-clause-walks : goal.returns-in_err-numbers-clause-walks
unfolding point
returns-in_err-numbers-clause-walks c = λ done.
    exits _ _ c.from_residual.ensures.1 (rw c.point_limits.ensures at c.in_err-numbers.ensures.walks)

pub returns-clause-walks : goal.returns-clause-walks
unfolding point
returns-clause-walks c = λ done.
    goes_on _ _ _ (rw c.point_limits.ensures at c.in_ok-numbers.ensures.walks.answer) (record { answer = ap Ok (sym c.point_of.ensures.value) })
