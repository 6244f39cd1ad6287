-- The places that a point is gathered from: on each axis two cells where the places are the nodes,
-- and two where they stand in the middle between the nodes (K. S. Yee, IEEE Trans. Antennas Propag.
-- 14, 1966, 302). In a lattice with a part for each layer of z the number of a place in its layer
-- is the number of its axis times the number of the layer's cells, and what the cell adds on x and
-- y.
use Rattle.std.specs.Prelude.{◌≡◌, ℕ, ◌*◌, ◌/◌, ◌≤◌}
use Rattle.pic_num.specs.Limits.{most_side}
use Rattle.pic_num.specs.Space.{Triple, Spot, AreAtMost}
use Rattle.pic_grid.specs.Lattice.{Field, value_at}
use Rattle.pic_grid.specs.Pair.{IsPair, IsPairOf}
use Rattle.pic_gather.specs.Forces.{gathered_by}
use Rattle.pic_gather.specs.declared.sides.Side.{Side}
use Rattle.pic_gather.specs.declared.sides.Sides.{Sides}
use Rattle.pic_gather.specs.declared.sides.Places.{Places}

-- what the two cells of a pair add on an axis of n cells, of side sub-cells each, where one cell
-- further adds step
pub record IsSide (side n step : ℕ) (w : Side) : Type 0 where
  pub pair : IsPair side n w.pair
  pub low : w.low ≡ w.pair.low * step
  pub high : w.high ≡ w.pair.high * step

-- the same on the axes of a layer
abbrev pub IsSideX : Field → Side → Type 0
IsSideX f = IsSide f.side f.cells.x 1

abbrev pub IsSideY : Field → Side → Type 0
IsSideY f = IsSide f.side f.cells.y f.cells.x

-- and on all axes
pub record AreSidesOf (f : Field) (w : Sides) : Type 0 where
  pub x : IsSideX f w.x
  pub y : IsSideY f w.y
  pub z : IsPair f.side f.cells.z w.z

-- and the pair is that of a point
pub record IsSideOf (side n step offset point : ℕ) (w : Side) : Type 0 where
  pub on : IsSide side n step w
  pub of : IsPairOf side n offset point w.pair

-- the sides on the three axes of a lattice of n cells, whose places stand offset above the nodes
pub record AreSides (side : ℕ) (n : Triple) (offset : ℕ) (point : Triple) (w : Sides) : Type 0 where
  pub x : IsSideOf side n.x 1 offset point.x w.x
  pub y : IsSideOf side n.y n.x offset point.y w.y
  pub z : IsPairOf side n.z offset point.z w.z

-- a point's places, under a side that is none too long
pub record ArePlacesOf (side : ℕ) (n point : Triple) (w : Places) : Type 0 where
  pub most : side ≤ most_side
  pub nodes : AreSides side n 0 point w.nodes
  pub middles : AreSides side n (side / 2) point w.middles

-- what is gathered from a field at a point, by its sides on a component's own axis and on the two
-- others
abbrev pub Gathers : Field → Sides → Sides → Spot → Type 0
Gathers f own others gathered =
    (a b : ℕ) (point : Triple) → AreSides f.side f.cells a point own
    → AreSides f.side f.cells b point others
    → gathered ≡ gathered_by f.side f.cells a b (value_at f) point

-- where what is gathered so is at most so large in size on each axis, a condition holds
abbrev pub IsWithinWhere : Field → Sides → Sides → ℕ → Type 0 → Type 0
IsWithinWhere f own others most holds =
    (a b : ℕ) (point : Triple) → AreSides f.side f.cells a point own
    → AreSides f.side f.cells b point others
    → AreAtMost (gathered_by f.side f.cells a b (value_at f) point) most → holds
