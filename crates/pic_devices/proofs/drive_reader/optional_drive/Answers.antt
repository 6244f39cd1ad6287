use Rattle.std.proofs.Common.{Ok, ap, sym, ◌∙◌}
use Rattle.pic_walk.specs.Walk.{optional}
use Rattle.pic_walk.proofs.TableLaws.{key_at-top}
use Rattle.pic_walk.proofs.WalkLaws.{given_some, given_none}
use Rattle.pic_devices.proofs.drive_reader.optional_drive.Goals as goal

pub returns-in-Some-clause-walks : goal.returns-in-Some-clause-walks
unfolding optional
returns-in-Some-clause-walks c = given_some _ _ _ _ _ (sym c.in-Some.ensures) (rw key_at-top c.read_drive.ensures.walks)

pub returns-in-None-clause-walks : goal.returns-in-None-clause-walks
unfolding optional
returns-in-None-clause-walks c =
    given_none _ _ _ _ (sym c.in-None.ensures) (record { answer = ap Ok (sym (c.from_vec.ensures ∙ c.new.ensures.items)) })
