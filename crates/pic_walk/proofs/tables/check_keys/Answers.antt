use Rattle.std.proofs.Common.{sym}
use Rattle.pic_walk.proofs.TableLaws.{unknown_is, known_is}
use Rattle.pic_walk.proofs.WalkLaws.{refuses}
use Rattle.pic_walk.proofs.tables.check_keys.Goals as goal

pub returns-in-Some-clause-walks : goal.returns-in-Some-clause-walks
returns-in-Some-clause-walks c =
    refuses _ _ _ (rw (c.new.ensures.path, c.as_str.ensures.value) at c.unknown_fault.ensures) (unknown_is _ _ _ _ (sym c.in-Some.ensures.first))

pub returns-in-None-clause-walks : goal.returns-in-None-clause-walks
returns-in-None-clause-walks c = record { answer = known_is _ _ _ (sym c.in-None.ensures.first) }
