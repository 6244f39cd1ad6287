use Rattle.std.proofs.Common.{◌≡◌, ℕ, ◌+◌, ◌<◌, Option, Some, None, sym, subst, arith}
use Rattle.std.proofs.Math.IntN.{ℤ}
use Rattle.std.specs.Prelude.{IfSome}
use Rattle.pic_num.specs.declared.axis.Axis.{Axis}
use Rattle.pic_num.specs.Space.{Spot}
use Rattle.pic_flux.specs.CellFlux.{edge_flux}
use Rattle.pic_tile.specs.declared.parcel.Parcel.{Parcel}
use Rattle.pic_tile.specs.Directions.{directions}
use Rattle.pic_tile.specs.Tile.{TileValue, parcel_at}
use Rattle.pic_push.specs.declared.reach.Direction.{Direction}
use Rattle.pic_push.specs.Gains.{GainsAt, IsClear}
use Rattle.pic_push.specs.Reach.{first_direction, direction_number, AreSteps}
use Rattle.pic_push.proofs.GainLaws.{Spread, spread_none, spread_more, spread_past, spread_all}
use Rattle.pic_push.proofs.UnreachedLaws.{none_before}
use Rattle.pic_push.proofs.spreading.spread.Invariants.{Before}
use Rattle.pic_push.proofs.spreading.spread.Goals as goal

-- one direction more
step : (f : Axis → Spot → ℤ) (old : TileValue) (i : ℕ) (now now' : TileValue) (next : Option Direction) → Spread f old i now → GainsAt f i now now'
    → IfSome next AreSteps → IfSome next (λ t. i < direction_number t)
    → ((d : ℕ) (p : Parcel) → d < directions → i < d → IfSome next (λ t. d < direction_number t) → parcel_at old d ≡ Some p → IsClear f p.flux)
    → Before f old next now'
step f old i now now' None before at steps more clear =
    spread_all f old (i + 1) now' (λ d p few past is. clear d p few (omega (arith, past)) tt is) (spread_more f old i now now' before at)
step f old i now now' (Some t) before at steps more clear = (
  steps,
  spread_past f old (i + 1) (direction_number t) now' (omega (arith, more)) (λ d p few past below is. clear d p few (omega (arith, past)) below is)
      (spread_more f old i now now' before at),
)

pub loop-next-init : goal.loop-next-init
loop-next-init c =
    let r = c.args.reach.now in
    let h = c.requires.reach in
    let f = edge_flux c.args.flux.now in
    let tile = c.args.tile.now in
    let steps : AreSteps (first_direction r) = record { x = omega (arith, h.x_first); y = omega (arith, h.y_first); z = omega (arith, h.z_first) } in
    let spread : Spread f tile (direction_number (first_direction r)) tile =
    spread_none f tile (direction_number (first_direction r)) (λ d p few below is. c.requires.clear d p few (none_before r d h below) is) in
    subst (λ (t : Direction). AreSteps t × Spread f tile (direction_number t) tile) (sym c.first.ensures) (steps, spread)

pub loop-next-preserved : goal.loop-next-preserved
loop-next-preserved c =
    let f = edge_flux c.args.flux.now in
    let old = c.args.tile.now in
    let number = direction_number c.in-Some.at in
    let after = c.after-next.ensures in
    let before = subst (λ (o : Option Direction). Before f old o c.loop-next.tile) c.in-Some.is c.loop-next.invariant in
    let gains : GainsAt f number c.loop-next.tile c.add_outside.new.tile =
    subst (λ (n : ℕ). GainsAt f n c.loop-next.tile c.add_outside.new.tile) c.number.ensures.value c.add_outside.ensures in
    step f old number c.loop-next.tile c.add_outside.new.tile c.after-next.result before.1 gains after.steps after.more
    (λ d p few past below is. c.requires.clear d p few (after.skipped d past below) is)

pub returns : goal.returns
returns c = subst (λ (o : Option Direction). Before (edge_flux c.args.flux.now) c.args.tile.now o c.loop-next.tile) c.in_default.is c.loop-next.invariant
