-- How a charge is spread over the eight nodes around it, layer by layer (first order weights: Birdsall
-- and Langdon, "Plasma Physics via Computer Simulation"): what is added to every node is an amount
-- times a weight on each axis.
use Rattle.std.specs.Prelude.{◌≡◌, ℤ, pos, ℕ, ◌+◌, ◌*◌, ◌<◌, ◌≤◌, ◌+ℤ◌, ◌*ℤ◌}
use Rattle.pic_num.specs.Limits.{most_side}
use Rattle.pic_num.specs.Sizes.{IsAtMost}
use Rattle.pic_num.specs.Space.{Triple}
use Rattle.pic_block.specs.Cells.{IsWithin}
use Rattle.pic_grid.specs.Lattice.{NodeValues, node_at}
use Rattle.pic_grid.specs.declared.pair.Pair.{Pair}

-- an amount times a weight on each axis
unfoldable pub spread : ℤ → (ℕ → ℕ) → (ℕ → ℕ) → (ℕ → ℕ) → Triple → ℤ
spread amount f g h p = amount *ℤ pos (f p.x * g p.y * h p.z)

-- the two cells of a pair are among n, and its weights add up to no more than the longest side
pub record CanSpread (n : ℕ) (w : Pair) : Type 0 where
  pub low : w.low < n
  pub high : w.high < n
  pub most : w.low_weight + w.high_weight ≤ most_side

-- every node is at most `most` in size
pub record NodesAtMost (nodes : NodeValues) (most : ℕ) : Type 0 where
  pub at_node : (p : Triple) → IsWithin p nodes.cells → IsAtMost (node_at nodes p) most

-- f is added to every node
pub record Adds (before after : NodeValues) (f : Triple → ℤ) : Type 0 where
  pub cells : after.cells ≡ before.cells
  pub values : (p : Triple) → IsWithin p before.cells → node_at after p ≡ node_at before p +ℤ f p
