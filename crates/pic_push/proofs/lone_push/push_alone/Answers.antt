use Rattle.std.proofs.Common.{sym, ap, ◌∙◌}
use Rattle.pic_boris.specs.Pushes.{shift_of, halting_of}
use Rattle.pic_block.specs.Cells.{Grid}
use Rattle.pic_grid.specs.PushPhase.{moved}
use Rattle.pic_tile.specs.Frame.{felt_in}
use Rattle.pic_push.proofs.SendLaws.{after_is, stays}
use Rattle.pic_push.proofs.lone_push.push_alone.Goals as goal

pub returns-in-Ok : goal.returns-in-Ok
returns-in-Ok c =
    let f = c.args.frame.now in
    let w = felt_in f in
    let x = c.args.particle.now in
    let s = shift_of c.in-Ok.by in
    let is = c.cells-in-Ok.ensures.frame in
    let side = c.sub.ensures ∙ ap (λ (g : Grid). g.side) c.cells.ensures.value ∙ sym is.e.side in
    let cells = ap (λ (g : Grid). g.n) c.cells-in-Ok.ensures.value ∙ sym is.e.cells_are in
    c.moved.ensures ∙ (λ i. moved (side i) (cells i) x s) ∙ sym (after_is w x s c.in-Ok.ensures.pushed)

pub returns-in-Err : goal.returns-in-Err
returns-in-Err c = stays (felt_in c.args.frame.now) c.args.particle.now (halting_of c.in-Err.field-0) c.in-Err.ensures.pushed
