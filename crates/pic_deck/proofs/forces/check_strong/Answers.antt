use Rattle.std.proofs.Common.{refl, rules}
use Rattle.std.proofs.lemmas.Int.{to_z-of_z}
use mir.Syntax.{w128}
use mir.Val.{SFits}
use Rattle.pic_deck.specs.Keys.{force_allowed}
use Rattle.pic_walk.proofs.WalkLaws.{refuses}
use Rattle.pic_deck.proofs.forces.check_strong.Goals as goal

pub returns-in-Some-clause-walks : goal.returns-in-Some-clause-walks
unfolding force_allowed
returns-in-Some-clause-walks c =
    let fits : SFits w128 c.in-Some.force = search rules in
    rw c.in-Some.is (refuses _ _ _ (rw (c.new.ensures.path, c.new-limits.ensures, to_z-of_z w128 _ fits) at c.limit_fault.ensures) refl)

pub returns-in-None-clause-walks : goal.returns-in-None-clause-walks
unfolding force_allowed
returns-in-None-clause-walks c = rw c.in-None.is (record { answer = refl })
