use Rattle.pic_step.proofs.PlasmaLaws.{parts_of_map}
use Rattle.pic_step.proofs.plasma.smooth_for.Goals as goal

pub new-requires : goal.new-requires
new-requires c = rw (c.cells.ensures, c.tiles.ensures.value) (parts_of_map _ c.tiles.ensures.limits)
