use Rattle.std.proofs.Common.{sym}
use Rattle.std.proofs.lemmas.Int.{to_z-of_z}
use mir.Syntax.{w128}
use Rattle.pic_walk.proofs.LimitLaws.{within_in, within_out}
use Rattle.pic_walk.proofs.WalkLaws.{refuses}
use Rattle.pic_walk.proofs.numbers.check_within.Goals as goal

pub returns-then-allow-clause-walks : goal.returns-then-allow-clause-walks
returns-then-allow-clause-walks c =
    let same = to_z-of_z w128 c.args.value c.ranges.value in
    record { answer = within_in _ _ _ (sym (rw same at c.if-allow.ensures)) }

pub returns-else-allow-clause-walks : goal.returns-else-allow-clause-walks
returns-else-allow-clause-walks c =
    let same = to_z-of_z w128 c.args.value c.ranges.value in
    refuses _ _ _ (rw same at c.limit_fault.ensures) (within_out _ _ _ (sym (rw same at c.if-allow.ensures)))
