-- The charge of the nodes, summed in 64 bits: a number for each node, and when no number can leave them.
use Rattle.std.specs.Prelude.{◌≤◌, ℤ, ℕ, ◌*◌, ◌^◌, List, All}
use Rattle.pic_num.specs.declared.motion.Kind.{Kind}
use Rattle.pic_num.specs.Sizes.{IsAtMost}
use Rattle.pic_num.specs.Space.{Triple}
use Rattle.pic_grid.specs.Lattice.{NodeValues}
use Rattle.pic_charge.specs.Spread.{NodesAtMost}

-- the nodes that have these numbers
abbrev pub nodes_in : Triple → List ℤ → NodeValues
nodes_in n sums = record { cells = n; values = sums }

-- the number of every node is at most `most` in size
abbrev pub SumsAtMost : Triple → List ℤ → ℕ → Type 0
SumsAtMost n sums most = NodesAtMost (nodes_in n sums) most

-- the charge of each node is small, whichever of so many particles give it: no species' charge is larger
-- than the greatest, which is low, and that of all particles adds up to no more than 2^62
pub record StaySmall (side : ℕ) (kinds : List Kind) (count : ℕ) : Type 0 where
  pub greatest : ℕ
  pub low : greatest ≤ 2 ^ 13
  pub charges : All (λ (k : Kind). IsAtMost k.charge greatest) kinds
  pub sums : count * (12 * greatest * (side * side * side)) ≤ 2 ^ 62
