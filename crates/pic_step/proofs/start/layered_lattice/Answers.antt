use Rattle.pic_step.proofs.PlasmaLaws.{parts_of_layers}
use Rattle.pic_step.proofs.start.layered_lattice.Goals as goal

pub new-requires : goal.new-requires
new-requires c = parts_of_layers c.cells-cells.result c.numbers.result c.numbers.ensures.value c.numbers.ensures.limits
