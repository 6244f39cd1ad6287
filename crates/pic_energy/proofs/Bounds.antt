-- The condition of the energies on a field, from its list of values.
use Rattle.std.proofs.Common.{◌≡◌, pos, ◌*◌, length, arith}
use Rattle.std.specs.Prelude.{All}
use Rattle.pic_num.specs.Limits.{most_value, most_force}
use Rattle.pic_num.specs.Multiplier.{Multiplier}
use Rattle.pic_num.specs.Rounding.{scaled}
use Rattle.pic_num.specs.Sizes.{IsAtMost}
use Rattle.pic_block.specs.Cells.{count_of, place_of}
use Rattle.pic_block.proofs.CellLaws.{place_of_below}
use Rattle.pic_grid.specs.Lattice.{Field}
use Rattle.pic_energy.specs.Energies.{IsBounded}

-- a field whose list of values is bounded
pub bounded_of_values : (by : Multiplier) (f : Field) → length f.values ≡ 3 * count_of f.cells
    → All (λ v. IsAtMost v most_value) f.values → All (λ v. IsAtMost (scaled v by) most_force) f.values → IsBounded by f
bounded_of_values by f shape values forces = record {
  values = λ a p within. values (place_of f.cells a p) (pos 0) (omega (arith, shape, place_of_below f.cells a p within));
  forces = λ a p within. forces (place_of f.cells a p) (pos 0) (omega (arith, shape, place_of_below f.cells a p within));
}
