-- A tile while it is pushed: the parcel of no step is held apart, and its particles are taken out.
use Rattle.std.specs.Prelude.{◌≡◌, ℕ, ◌<◌, List, [], Some, None, Option}
use Rattle.pic_num.specs.declared.motion.Particle.{Particle}
use Rattle.pic_grid.specs.PushPhase.{Surroundings}
use Rattle.pic_tile.specs.declared.parcel.Parcel.{Parcel}
use Rattle.pic_tile.specs.Directions.{directions, here}
use Rattle.pic_tile.specs.Layers.{IsLayers}
use Rattle.pic_tile.specs.Parcels.{IsParcel, no_flux}
use Rattle.pic_tile.specs.Pushed.{IsSent}
use Rattle.pic_tile.specs.Tile.{TileValue, parcel_at}
use Rattle.pic_tile.specs.Tiling.{Tiling}

-- the parcel of a direction before the push: nobody in it but in that of no step, no flux, no stop
pub record IsFreshParcel (m : Tiling) (tile d : ℕ) (p : Parcel) : Type 0 where
  pub dir_is : p.dir ≡ d
  pub empty : (d ≡ here → ⊥) → p.chain ≡ []
  pub flux : IsLayers m tile d no_flux p.flux
  pub quiet : p.stop ≡ None

pub record HasFresh (m : Tiling) (tile d : ℕ) (found : Option Parcel) : Type 0 where
  pub parcel : Parcel
  pub there : found ≡ Some parcel
  pub is : IsFreshParcel m tile d parcel

-- a tile before the push of its particles, the parcel of no step held apart
pub record IsHeldApart (m : Tiling) (own : Parcel) (t : TileValue) : Type 0 where
  pub apart : parcel_at t here ≡ None
  pub own_is : IsFreshParcel m t.number here own
  pub others : (d : ℕ) → d < directions → (d ≡ here → ⊥) → HasFresh m t.number d (parcel_at t d)

-- a tile after it, that parcel still held apart
pub record IsSentOut (w : Surroundings) (m : Tiling) (particles : List Particle) (tile : ℕ)
    (own : Parcel) (t : TileValue) : Type 0 where
  pub number_is : t.number ≡ tile
  pub apart : parcel_at t here ≡ None
  pub own_is : IsParcel w m particles tile here own
  pub others :
      (d : ℕ) → d < directions → (d ≡ here → ⊥) → IsSent w m particles tile d (parcel_at t d)
