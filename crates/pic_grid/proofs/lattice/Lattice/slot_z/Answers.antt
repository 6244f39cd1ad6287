use Rattle.std.proofs.Common.{◌*◌, ◌≤◌, sym, subst, arith}
use Rattle.pic_num.specs.Space.{Triple, triple}
use Rattle.pic_num.specs.Limits.{most_cells_of_axis}
use Rattle.pic_num.proofs.SizeLaws.{times_at_most}
use Rattle.pic_block.specs.Cells.{IsSize}
use Rattle.pic_grid.proofs.PartLaws.{parts_limits, part_size_limits}
use Rattle.pic_grid.proofs.lattice.Lattice.slot_z.Goals as goal

pub overflow_mul-parts_x : goal.overflow_mul-parts_x
overflow_mul-parts_x c =
    let parts = triple c.self.inside.parts in
    let few = parts_limits c.self.inside.cells.n parts c.self.invariant.lattice.cells c.self.invariant.lattice.parts_fit in
    let most : parts.x * parts.y ≤ most_cells_of_axis * most_cells_of_axis = times_at_most parts.x parts.y _ _ few.x_most few.y_most in
    record { fits = omega (arith, most) }

pub slot_on-requires-clause-part_step : goal.slot_on-requires-clause-part_step
slot_on-requires-clause-part_step c =
    let parts = triple c.self.inside.parts in
    let few = parts_limits c.self.inside.cells.n parts c.self.invariant.lattice.cells c.self.invariant.lattice.parts_fit in
    times_at_most parts.x parts.y _ _ few.x_most few.y_most

pub slot_on-requires-clause-place_step : goal.slot_on-requires-clause-place_step
slot_on-requires-clause-place_step c =
    let layers = triple c.self.inside.layers in
    let few : IsSize layers = subst (λ (m : Triple). IsSize m) (sym c.self.invariant.lattice.layers)
    (part_size_limits c.self.inside.cells.n (triple c.self.inside.parts) c.self.invariant.lattice.cells c.self.invariant.lattice.parts_fit) in
    times_at_most layers.x layers.y _ _ few.x_most few.y_most
