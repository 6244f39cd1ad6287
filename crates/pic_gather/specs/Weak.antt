-- Lattices whose values are weak, in cells of few sub-cells: sums of them under the weights of a
-- point fit a word of 64 bits.
use Rattle.std.specs.Prelude.{◌≡◌, ℕ, ◌^◌, ◌<◌, ◌≤◌}
use Rattle.pic_grid.specs.Lattice.{Field}
use Rattle.pic_grid.specs.Parts.{layered, IsWeakLayer}
use Rattle.pic_grid.specs.declared.pair.Pair.{Pair}

-- the longest side of a cell of few sub-cells
abbrev pub most_weak_side : ℕ
most_weak_side = 2 ^ 12

-- the layers of a pair of z are weak, in such cells
pub record AreWeakLayers (f : Field) (z : Pair) : Type 0 where
  pub few : f.side ≤ most_weak_side
  pub low : IsWeakLayer f z.low
  pub high : IsWeakLayer f z.high

-- all layers of z are, and each is a part of its own
pub record IsWeak (f : Field) : Type 0 where
  pub parts : f.parts ≡ layered f.cells
  pub few : f.side ≤ most_weak_side
  pub layers : (z : ℕ) → z < f.cells.z → IsWeakLayer f z
