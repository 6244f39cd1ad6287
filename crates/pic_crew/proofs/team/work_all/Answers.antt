use denote.Exit.{no}
use denote.Param.Send.{arg_sync, param_sync}
use Rattle.std.proofs.Common.{rules, sym, arith}
use Rattle.std.proofs.lemmas.List.Elements.{length_all_zip}
use Rattle.pic_crew.specs.Teams.{HasWorked}
use Rattle.pic_crew.proofs.CrossLaws.{crew_sync}
use Rattle.pic_crew.proofs.TeamLaws.{all_can, all_done, crews_share}
use Rattle.pic_crew.proofs.team.work_all.Goals as goal

pub each_share-requires-clause-shared : goal.each_share-requires-clause-shared
each_share-requires-clause-shared g c κs within = crews_share c.args.yard.now

pub each_share-requires-clause-can : goal.each_share-requires-clause-can
each_share-requires-clause-can g c κs within = (let few = c.requires.few in omega (arith, few), all_can c.args.yard.now c.args.seats.now c.requires.new)

pub returns-clause-count : goal.returns-clause-count
returns-clause-count g c = sym (length_all_zip (HasWorked c.args.yard.now) c.args.seats.now c.each_share.new.items c.each_share.ensures)

pub returns-clause-done : goal.returns-clause-done
returns-clause-done g c = all_done c.args.yard.now c.args.seats.now c.each_share.new.items c.requires.new c.each_share.ensures

pub each_share-requires-sync-W : goal.each_share-requires-sync-W
each_share-requires-sync-W g c κs within =
    param_sync _ _ (arg_sync _ no _ (crew_sync _ _ (param_sync 1 g.row.G (search rules))))
