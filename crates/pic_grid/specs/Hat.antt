-- Linear weights by distance (first order, "cloud in cell": Birdsall and Langdon, "Plasma Physics
-- via Computer Simulation"): the side of a cell less the distance, where that is above 0.
use Rattle.std.specs.Prelude.{◌≡◌, ℤ, pos, ℕ, ◌+◌, ◌-◌, ◌*◌, ◌^◌, ◌<◌, ◌≤◌, ◌==◌, if◌then◌else◌, min, unsigned_abs, ◌-ℤ◌}
use Rattle.pic_num.specs.Space.{Triple}
use Rattle.pic_grid.specs.Sums.{sum_below, sum_cells}

-- the weight of the point p for the place g on the unbounded line
unfoldable pub hat : ℕ → ℤ → ℤ → ℤ
hat side p g = pos (side - unsigned_abs (p -ℤ g))

-- the distance of two points of the line (one of the two differences stops at 0)
abbrev pub gap : ℕ → ℕ → ℕ
gap p g = (p - g) + (g - p)

-- the same weight on a periodic axis of length len, by the shorter way round
unfoldable pub periodic_hat : ℕ → ℕ → ℕ → ℕ → ℕ
periodic_hat side len p g = side - min (gap p g) (len - gap p g)

-- v at the number i, and 0 elsewhere
abbrev pub only_at : ℕ → ℕ → ℕ → ℕ
only_at i v j = if j == i then v else 0

-- the weight of a point for a node of a grid of n cells: the product over the three axes
unfoldable pub weight : ℕ → Triple → Triple → Triple → ℕ
weight side n point node =
    periodic_hat side (n.x * side) point.x (node.x * side)
    * periodic_hat side (n.y * side) point.y (node.y * side)
    * periodic_hat side (n.z * side) point.z (node.z * side)

-- a grid of at least two cells on each axis
pub record HasTwo (n : Triple) : Type 0 where
  pub x : 2 ≤ n.x
  pub y : 2 ≤ n.y
  pub z : 2 ≤ n.z

-- a position in the box of a grid of n cells
pub record IsInBox (side : ℕ) (n point : Triple) : Type 0 where
  pub x : point.x < n.x * side
  pub y : point.y < n.y * side
  pub z : point.z < n.z * side

-- on an axis of at least two cells the weights of a point for all nodes add up to the side of a cell
abbrev pub HatsAddUp : Type 0
HatsAddUp =
    (side n p : ℕ)
    → 0 < side
    → 2 ≤ n
    → p < n * side
    → sum_below n (λ i. pos (periodic_hat side (n * side) p (i * side))) ≡ pos side

-- the weights of a point for all nodes of a grid add up to the cube of a cell's side
abbrev pub WeightsAddUp : Type 0
WeightsAddUp =
    (side : ℕ) (n point : Triple)
    → 0 < side
    → HasTwo n
    → IsInBox side n point
    → sum_cells n (λ p. pos (weight side n point p)) ≡ pos (side ^ 3)
