-- What parcels gain of a flux.
use Rattle.std.specs.Prelude.{◌≡◌, ℕ, ℤ, pos, ◌<◌, Option, Some, None}
use Rattle.pic_num.specs.declared.axis.Axis.{Axis}
use Rattle.pic_num.specs.Space.{Spot}
use Rattle.pic_block.specs.Block.{BlockValues, IsShaped, InZone}
use Rattle.pic_flux.specs.Adds.{Adds}
use Rattle.pic_tile.specs.declared.parcel.Parcel.{Parcel}
use Rattle.pic_tile.specs.Directions.{directions}
use Rattle.pic_tile.specs.Tile.{TileValue, parcel_at}

-- a parcel gains the flux f at every edge of its layers, and nothing else of it changes
pub record Gained (f : Axis → Spot → ℤ) (old new : Parcel) : Type 0 where
  pub dir_is : new.dir ≡ old.dir
  pub chain_is : new.chain ≡ old.chain
  pub stop_is : new.stop ≡ old.stop
  pub shape : IsShaped old.flux new.flux
  pub adds : Adds old.flux new.flux f

-- a parcel is there that has
pub record HasGained (f : Axis → Spot → ℤ) (old : Parcel) (found : Option Parcel) : Type 0 where
  pub parcel : Parcel
  pub there : found ≡ Some parcel
  pub gained : Gained f old parcel

-- a tile's parcel of one direction gains the flux, if it is there, and the others stay
pub record GainsAt (f : Axis → Spot → ℤ) (d : ℕ) (old new : TileValue) : Type 0 where
  pub gained : (p : Parcel) → parcel_at old d ≡ Some p → HasGained f p (parcel_at new d)
  pub none : parcel_at old d ≡ None → parcel_at new d ≡ None
  pub others : (e : ℕ) → (e ≡ d → ⊥) → parcel_at new e ≡ parcel_at old e
  pub number_is : new.number ≡ old.number

-- all parcels of a tile gain it
pub record Gains (f : Axis → Spot → ℤ) (old new : TileValue) : Type 0 where
  pub gained :
      (d : ℕ) (p : Parcel)
      → d < directions
      → parcel_at old d ≡ Some p
      → HasGained f p (parcel_at new d)
  pub none : (d : ℕ) → d < directions → parcel_at old d ≡ None → parcel_at new d ≡ None
  pub number_is : new.number ≡ old.number

-- no flux of f passes the edges of a block
pub record IsClear (f : Axis → Spot → ℤ) (b : BlockValues) : Type 0 where
  pub at : (a : Axis) (c : Spot) → InZone b.low b.size c → f a c ≡ pos 0
