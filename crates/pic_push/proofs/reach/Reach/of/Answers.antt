use Rattle.std.proofs.Common.{rules}
use Rattle.std.proofs.lemmas.Int.{to_z-of_z}
use mir.Syntax.{w32}
use mir.Val.{SFits}
use Rattle.pic_num.specs.Space.{spot}
use Rattle.pic_push.proofs.ReachLaws.{steps_are}
use Rattle.pic_push.proofs.reach.Reach.of.Goals as goal

pub returns : goal.returns
returns c =
    let low = spot c.args.zone.low in
    let cell = spot c.args.cell in
    let lx : SFits w32 low.x = search rules in
    let ly : SFits w32 low.y = search rules in
    let lz : SFits w32 low.z = search rules in
    let cx : SFits w32 cell.x = search rules in
    let cy : SFits w32 cell.y = search rules in
    let cz : SFits w32 cell.z = search rules in
    record {
      x = steps_are low.x cell.x _ _ _ _ (to_z-of_z w32 low.x lx) (to_z-of_z w32 cell.x cx) c.steps_on.ensures;
      y = steps_are low.y cell.y _ _ _ _ (to_z-of_z w32 low.y ly) (to_z-of_z w32 cell.y cy) c.steps_on-2.ensures;
      z = steps_are low.z cell.z _ _ _ _ (to_z-of_z w32 low.z lz) (to_z-of_z w32 cell.z cz) c.steps_on-3.ensures;
    }
