-- The law of continuity: charge is kept exactly, at every node of the periodic grid (J. Villasenor
-- and O. Buneman, Comput. Phys. Commun. 69, 1992, 306).
use Rattle.std.specs.Prelude.{◌≡◌, ℤ, pos, ℕ, ◌<◌, ◌-ℤ◌, ◌*ℤ◌}
use Rattle.pic_num.specs.Push.{plus}
use Rattle.pic_num.specs.Space.{Triple, Spot, unwrapped, AreAtMost}
use Rattle.pic_block.specs.Cells.{IsWithin}
use Rattle.pic_grid.specs.Current.{wrapped}
use Rattle.pic_grid.specs.Differences.{div_e}
use Rattle.pic_grid.specs.Flux.{path_flux}
use Rattle.pic_grid.specs.Hat.{weight, HasTwo, IsInBox}
use Rattle.pic_grid.specs.Path.{path}
use Rattle.pic_split.specs.Move.{wrapped_point}

-- A particle of charge q moves from a position of the box by d, at most the side of a cell on each
-- axis, and is wrapped into the box again. At every node the divergence of its path's current is
-- the charge that the node loses: the charge's share there before the move less that after it. Both
-- sides are 12 times the amount, as the flux is. It holds of every side of a cell, every path
-- (with ties, with pieces of length 0, over the edges of the box) and every grid of at least two
-- cells on each axis.
abbrev pub Continuity : Type 0
Continuity =
    (side : ℕ) (n : Triple) (q : ℤ) (from : Triple) (d : Spot) (node : Triple)
    → 0 < side
    → HasTwo n
    → IsWithin node n
    → IsInBox side n from
    → AreAtMost d side
    → div_e n (λ a p. wrapped n (path_flux side q (path side (unwrapped from) d) a) p) node
    ≡ pos 12 *ℤ q *ℤ pos (weight side n from node)
    -ℤ pos 12 *ℤ q *ℤ pos (weight side n (wrapped_point side n (plus (unwrapped from) d)) node)
