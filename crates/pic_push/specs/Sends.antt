-- What the push of one particle does to the parcels of its tile.
use Rattle.std.specs.Prelude.{◌≡◌, ℕ, ℤ, ◌<◌, ◌+◌, ◌^◌, ◌∷◌, ◌==◌, if◌then◌else◌, Option, Some, None, IsSome}
use Rattle.pic_num.specs.declared.axis.Axis.{Axis}
use Rattle.pic_num.specs.declared.motion.Particle.{Particle}
use Rattle.pic_num.specs.Space.{Triple, Spot}
use Rattle.pic_block.specs.Block.{IsShaped, AllAtMost}
use Rattle.pic_grid.specs.PushPhase.{Surroundings, push_of, halt_of}
use Rattle.pic_grid.specs.Traces.{trace_of, most_flux}
use Rattle.pic_flux.specs.Adds.{Adds}
use Rattle.pic_tile.specs.StopOf.{lesser}
use Rattle.pic_tile.specs.declared.parcel.Parcel.{Parcel}
use Rattle.pic_tile.specs.Directions.{directions, here}
use Rattle.pic_tile.specs.Layers.{layers_from, layers_size}
use Rattle.pic_tile.specs.Leaving.{way, after_its_push}
use Rattle.pic_tile.specs.Tile.{TileValue, parcel_at}
use Rattle.pic_tile.specs.Tiling.{Tiling}

-- the parcel of the direction d after a particle went into that of the direction dir
abbrev pub received : Particle → ℕ → ℕ → Parcel → Parcel
received x dir d p = if dir == d then record p { chain = x ∷ p.chain } else p

-- a particle goes into a tile's parcel of a direction, that of no step being held apart
pub record Receives (x : Particle) (dir : ℕ) (old new : TileValue) : Type 0 where
  pub others :
      (d : ℕ) (p : Parcel)
      → (d ≡ here → ⊥)
      → parcel_at old d ≡ Some p
      → parcel_at new d ≡ Some (received x dir d p)
  pub none : parcel_at old here ≡ None → parcel_at new here ≡ None
  pub number_is : new.number ≡ old.number

-- the flux that a particle's push sends
abbrev pub trace : Surroundings → Particle → Axis → Spot → ℤ
trace w x a c = trace_of w.side w.kinds x (push_of w x) a c

-- the push of a particle changes the parcel of a direction: the particle goes into it where it
-- leads that way, its flux is added, and in that of no step stands what stops the push
pub record Sends (w : Surroundings) (m : Tiling) (x : Particle) (d : ℕ)
    (old new : Parcel) : Type 0 where
  pub dir_is : new.dir ≡ old.dir
  pub chain_is : new.chain ≡ (if way w m x == d then after_its_push w x ∷ old.chain else old.chain)
  pub shape : IsShaped old.flux new.flux
  pub adds : Adds old.flux new.flux (trace w x)
  pub stop_is :
      new.stop ≡ (if d == here then lesser old.stop (halt_of x (push_of w x)) else old.stop)

-- a parcel is there that is so changed
pub record HasSent (w : Surroundings) (m : Tiling) (x : Particle) (d : ℕ) (old : Parcel)
    (found : Option Parcel) : Type 0 where
  pub parcel : Parcel
  pub there : found ≡ Some parcel
  pub sent : Sends w m x d old parcel

-- so are all parcels of a tile but that of no step, which is held apart
pub record SendsOut (w : Surroundings) (m : Tiling) (x : Particle)
    (old new : TileValue) : Type 0 where
  pub others :
      (d : ℕ) (p : Parcel)
      → d < directions
      → (d ≡ here → ⊥)
      → parcel_at old d ≡ Some p
      → HasSent w m x d p (parcel_at new d)
  pub none : parcel_at old here ≡ None → parcel_at new here ≡ None
  pub number_is : new.number ≡ old.number

-- a parcel has the layers of its direction, from a tile of these layers, and at most so much flux at
-- each of their edges
pub record HasLayers (bound : ℕ) (low : Spot) (size : Triple) (d : ℕ) (p : Parcel) : Type 0 where
  pub low_is : p.flux.low ≡ layers_from size low d
  pub size_is : p.flux.size ≡ layers_size size d
  pub most : AllAtMost bound p.flux

-- a tile has all its parcels but that of no step, which is held apart
pub record HasParcelsWithin (bound : ℕ) (low : Spot) (size : Triple) (t : TileValue) : Type 0 where
  pub whole : (d : ℕ) → d < directions → (d ≡ here → ⊥) → IsSome (parcel_at t d)
  pub room :
      (d : ℕ) (p : Parcel) → d < directions → parcel_at t d ≡ Some p → HasLayers bound low size d p
  pub apart : parcel_at t here ≡ None

-- there is room for the flux of a path more
abbrev pub HasHeadroom : Spot → Triple → ℕ → Parcel → Type 0
HasHeadroom low size d p = HasLayers most_flux low size d p

abbrev pub HasParcels : Spot → Triple → TileValue → Type 0
HasParcels low size t = HasParcelsWithin most_flux low size t

-- what the flux of the first pieces of a path is at most at an edge
abbrev pub most_path_flux : ℕ
most_path_flux = 2 ^ 62

-- what flux is at most at an edge while that of a path's pieces is added
abbrev pub most_sent : ℕ
most_sent = most_flux + most_path_flux
