use Rattle.std.proofs.Common.{sym, refl}
use Rattle.pic_walk.specs.Walk.{optional}
use Rattle.pic_walk.proofs.WalkLaws.{given_some, given_none}
use Rattle.pic_walk.proofs.tables.optional_three.Goals as goal

pub returns-in-Some : goal.returns-in-Some
unfolding optional
returns-in-Some c = given_some _ _ _ _ _ (sym c.in-Some.ensures) (rw (c.any.ensures, c.new.ensures.path) at c.read_numbers.ensures.walks)

pub returns-in-None : goal.returns-in-None
unfolding optional
returns-in-None c = given_none _ _ _ _ (sym c.in-None.ensures) (record { answer = refl })
