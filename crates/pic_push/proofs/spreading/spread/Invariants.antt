use Rattle.std.proofs.Common.{ℕ, ◌-◌, Option, Some, None}
use Rattle.std.specs.Prelude.{MatchOption}
use Rattle.std.proofs.Math.IntN.{ℤ}
use Rattle.pic_num.specs.declared.axis.Axis.{Axis}
use Rattle.pic_num.specs.Space.{Spot}
use Rattle.pic_tile.specs.Directions.{directions}
use Rattle.pic_tile.specs.Tile.{TileValue}
use Rattle.pic_flux.specs.CellFlux.{edge_flux}
use Rattle.pic_push.specs.declared.reach.Direction.{Direction}
use Rattle.pic_push.specs.Gains.{Gains}
use Rattle.pic_push.specs.Reach.{direction_number, AreSteps}
use Rattle.pic_push.proofs.GainLaws.{Spread}
use Rattle.pic_push.proofs.spreading.spread.Given as goal

-- the directions before one have gained the flux, or all where there is none
abbrev pub Before : (Axis → Spot → ℤ) → TileValue → Option Direction → TileValue → Type 0
Before f old next now = MatchOption next (Gains f old now) (λ at. AreSteps at × Spread f old (direction_number at) now)

abbrev pub invariant-loop-next : goal.invariant-loop-next
invariant-loop-next l = Before (edge_flux l.flux) l.initial.tile l.next l.tile

-- how many numbers of directions are left
abbrev pub numbers_left : Option Direction → ℕ
numbers_left None = 0
numbers_left (Some at) = directions - direction_number at

abbrev pub decreases-loop-next : goal.decreases-loop-next
decreases-loop-next l = numbers_left l.next
