use Rattle.std.proofs.Common.{arith}
use Rattle.pic_push.proofs.UnreachedLaws.{none_in_row, none_in_layer, none_after}
use Rattle.pic_push.proofs.reach.Reach.after.Goals as goal

pub returns-then-y-self-clause-skipped : goal.returns-then-y-self-clause-skipped
returns-then-y-self-clause-skipped c = λ d. none_in_row c.args.self.now c.args.at.now d c.requires.steps (omega (arith, c.if-x-self.false))

pub returns-then-z-self-clause-skipped : goal.returns-then-z-self-clause-skipped
returns-then-z-self-clause-skipped c = λ d.
    none_in_layer c.args.self.now c.args.at.now d c.requires.steps (omega (arith, c.if-x-self.false)) (omega (arith, c.if-y-self.false))

pub returns-clause-skipped : goal.returns-clause-skipped
returns-clause-skipped c = λ d more none.
    none_after c.args.self.now c.args.at.now d c.requires.steps (omega (arith, c.if-x-self.false)) (omega (arith, c.if-y-self.false))
    (omega (arith, c.if-z-self.false)) more
