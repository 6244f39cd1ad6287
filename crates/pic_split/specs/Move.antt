-- The moves of a step, and the pieces that they are cut into.
use Rattle.std.specs.Prelude.{ℕ, ◌*◌, List, [], ◌∷◌, Option, Some, None}
use Rattle.pic_num.specs.Push.{plus}
use Rattle.pic_num.specs.Rounding.{residue}
use Rattle.pic_num.specs.Space.{Triple, Spot}
use Rattle.pic_grid.specs.Path.{floor_cell}
use Rattle.pic_grid.specs.Segment.{Piece, Leads}

-- a point that isn't wrapped, as a position in the box of n cells
abbrev pub wrapped_point : ℕ → Triple → Spot → Triple
wrapped_point side n p = record {
  x = residue p.x (n.x * side);
  y = residue p.y (n.y * side);
  z = residue p.z (n.z * side);
}

-- pieces that lead from a point by a move, without a gap and each in its closed cell
abbrev pub LeadBy : ℕ → Spot → Spot → List Piece → Type 0
LeadBy side p d pieces =
    Leads side (floor_cell side p) (floor_cell side (plus p d)) p pieces (plus p d)

-- the piece of a path that has one alone
abbrev pub lone_piece : List Piece → Option Piece
lone_piece [] = None
lone_piece (s ∷ []) = Some s
lone_piece (s ∷ t ∷ ss) = None
