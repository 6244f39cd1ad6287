use Rattle.std.proofs.Common.{sym}
use Rattle.toml.proofs.Views.{table_get}
use Rattle.pic_walk.specs.Walk.{needed}
use Rattle.pic_walk.proofs.WalkLaws.{refuses, there, lacks}
use Rattle.pic_walk.proofs.tables.needed_value.Goals as goal

pub returns-in-Some : goal.returns-in-Some
unfolding needed
returns-in-Some c =
    let found = table_get c.get.result c.args.key.now c.args.table.now.entries c.get.ensures.value in
    record { answer = there _ _ _ (sym (rw c.in-Some.is at found)) }

pub returns-in-None : goal.returns-in-None
unfolding needed
returns-in-None c =
    let found = table_get c.get.result c.args.key.now c.args.table.now.entries c.get.ensures.value in
    refuses _ _ _ (rw c.new.ensures.path at c.missing_fault.ensures) (lacks _ _ (sym (rw c.in-None.is at found)))
