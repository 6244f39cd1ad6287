use Rattle.std.proofs.Common.{sym}
use Rattle.pic_walk.specs.Walk.{elements}
use Rattle.pic_walk.proofs.WalkLaws.{refuses, there, lacks}
use Rattle.pic_walk.proofs.numbers.read_elements.Goals as goal

pub returns-in-Some : goal.returns-in-Some
unfolding elements
returns-in-Some c = record { answer = there _ _ _ (sym c.in-Some.ensures) }

pub returns-in-None : goal.returns-in-None
unfolding elements
returns-in-None c = refuses _ _ _ c.kind_fault.ensures (lacks _ _ (sym c.in-None.ensures))
