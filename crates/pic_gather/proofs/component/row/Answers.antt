use Rattle.std.proofs.Common.{ℕ, ℤ, ◌∙◌}
use Rattle.std.proofs.lemmas.Int.{to_z-of_z}
use mir.Syntax.{w64}
use Rattle.pic_num.specs.Limits.{most_force}
use Rattle.pic_grid.specs.Lattice.{value_at}
use Rattle.pic_gather.specs.Forces.{row_sum}
use Rattle.pic_gather.proofs.MixLaws.{mixed, held_row, whole_row}
use Rattle.pic_gather.proofs.component.row.Goals as goal

pub returns : goal.returns
unfolding row_sum
returns c =
    let f = c.args.force.now in
    let axis = c.args.axis in
    let on = c.requires.x_on in
    let at : ℕ → ℤ = λ j. value_at f axis (record { x = j; y = c.args.y; z = c.args.z }) in
    let low_is = to_z-of_z w64 c.value-low.result (record { sfits = c.value-low.type_inv }) ∙ c.value-low.ensures.value in
    let high_is = to_z-of_z w64 c.value-high.result (record { sfits = c.value-high.type_inv }) ∙ c.value-high.ensures.value in
    let held = to_z-of_z w64 c.mix.result (record { sfits = c.mix.type_inv }) in
    record {
      value = held ∙ mixed f.side f.cells.x at c.args.x _ _ c.mix.result on low_is high_is c.mix.ensures.value;
      size = whole_row _ _ _ c.mix.type_inv on.whole (c.mix.ensures.size most_force (held_row _ _ c.value-low.type_inv c.value-low.ensures.size) (held_row _ _ c.value-high.type_inv c.value-high.ensures.size));
    }
