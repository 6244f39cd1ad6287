use Rattle.std.proofs.Common.{refl}
use Rattle.pic_walk.specs.FillKind.{alone}
use Rattle.pic_walk.proofs.WalkLaws.{refuses}
use Rattle.pic_walk.proofs.fill_kind.alone.Goals as goal

pub returns-in-Some : goal.returns-in-Some
unfolding alone
returns-in-Some c = rw c.in-Some.is (refuses _ _ _ (rw (c.new.ensures.path, c.key.ensures) at c.unknown_fault.ensures) refl)

pub returns-in-None : goal.returns-in-None
unfolding alone
returns-in-None c = rw c.in-None.is (record { answer = refl })
