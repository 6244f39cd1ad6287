use Rattle.std.specs.Prelude.{ℕ, ℤ, pos, ◌≡◌, ◌⊎◌, ◌+ℤ◌, ◌*ℤ◌, ◌≤ℤ◌, List, [], ◌∷◌}
use Rattle.pic_num.specs.declared.axis.Axis.{Axis}
use Rattle.pic_num.specs.Space.{Spot, along}

-- one straight piece of a path, and the cell that it lies in; nothing is wrapped
pub record Piece : Type 0 where
  pub from : Spot
  pub to : Spot
  pub cell : Spot

-- a coordinate lies in the closed cell c of an axis
pub record IsInside (side : ℕ) (c p : ℤ) : Type 0 where
  pub low : (c *ℤ pos side) ≤ℤ p
  pub high : p ≤ℤ (c *ℤ pos side +ℤ pos side)

-- a piece has both ends in its closed cell
pub record IsInCell (side : ℕ) (s : Piece) : Type 0 where
  pub from : (a : Axis) → IsInside side (along a s.cell) (along a s.from)
  pub to : (a : Axis) → IsInside side (along a s.cell) (along a s.to)

-- on each axis a piece's cell is that of c or that of e
pub record IsOfCells (c e : Spot) (s : Piece) : Type 0 where
  pub either : (a : Axis) → (along a s.cell ≡ along a c) ⊎ (along a s.cell ≡ along a e)

-- the pieces lead from a point to a point without a gap, each in its closed cell, and on each axis
-- that is the cell of c or that of e
pub data Leads (side : ℕ) (c e : Spot) : Spot → List Piece → Spot → Type 0 where
  arrived : {p : Spot} → Leads side c e p [] p
  onward : {r : Spot} {ss : List Piece} (s : Piece) → IsInCell side s → IsOfCells c e s → Leads side c e s.to ss r → Leads side c e s.from (s ∷ ss) r
