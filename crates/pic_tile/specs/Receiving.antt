-- A receiver's tile while the parcels that come to it are merged: that of no step first, the others
-- in any order.
use Rattle.std.specs.Prelude.{◌≡◌, ℕ, ℤ, ◌<◌, ◌≤◌, List, [], ◌++◌, length, Bool, true, false, Some, None, IsSome, if◌then◌else◌}
use Rattle.std.specs.List.{All, flat_map, range_with_len}
use Rattle.pic_num.specs.declared.axis.Axis.{Axis}
use Rattle.pic_num.specs.declared.motion.Particle.{Particle}
use Rattle.pic_num.specs.Limits.{most_side, most_particles}
use Rattle.pic_num.specs.Sizes.{IsAtMost}
use Rattle.pic_num.specs.Space.{Triple, triple}
use Rattle.pic_block.specs.Block.{BlockValues, IsShaped, inner_at}
use Rattle.pic_block.specs.BlockLayers.{AddsLayers}
use Rattle.pic_block.specs.Cells.{IsWithin, count_of}
use Rattle.pic_grid.specs.Hat.{IsInBox, HasTwo}
use Rattle.pic_grid.specs.PushPhase.{Surroundings}
use Rattle.pic_grid.specs.Species.{IsKind}
use Rattle.pic_grid.specs.Sums.{sum_below}
use Rattle.pic_grid.specs.Traces.{traces, most_flux}
use Rattle.pic_tile.specs.Same.{Same}
use Rattle.pic_tile.specs.StopOf.{IsStopOf}
use Rattle.pic_tile.specs.declared.parcel.Parcel.{Parcel}
use Rattle.pic_tile.specs.Directions.{directions, here}
use Rattle.pic_tile.specs.Empty.{zero_block, empty_parcel}
use Rattle.pic_tile.specs.Layers.{layers_begin, layers_from, lowest_cell, sender_of, pick, given_at}
use Rattle.pic_tile.specs.LayerSum.{AreSharedOut}
use Rattle.pic_tile.specs.Leaving.{going}
use Rattle.pic_tile.specs.Tile.{TileValue, parcel_at, chain_at, flux_at, stop_at}
use Rattle.pic_tile.specs.Tiling.{Tiling, cells_of}

-- One merge.

-- what is left of a parcel whose flux is added to that block: no particles, and no flux over the
-- layers of the block's own tile
abbrev pub emptied : BlockValues → Parcel → Parcel
emptied b parcel =
    let low = layers_from b.size b.low parcel.dir in
    record parcel { chain = []; flux = zero_block low parcel.flux.size }

-- a tile before and after a parcel is merged into it: that of no step is put in its place; of any
-- other the particles and the flux go to that of no step, and the rest of it stays in its own place
pub record Merged (parcel : Parcel) (old new : TileValue) : Type 0 where
  pub number : new.number ≡ old.number
  pub there : IsSome (parcel_at new here)
  pub first : parcel.dir ≡ here → parcel_at new here ≡ Some parcel
  pub chain : Same (chain_at new here) (parcel.chain ++ chain_at old here)
  pub shape : (parcel.dir ≡ here → ⊥) → IsShaped (flux_at old here) (flux_at new here)
  pub flux : (parcel.dir ≡ here → ⊥)
      → AddsLayers (flux_at old here) (flux_at new here) parcel.flux
      (layers_begin (flux_at old here).size parcel.dir)
  pub stop : (parcel.dir ≡ here → ⊥) → stop_at new here ≡ stop_at old here
  pub left : (parcel.dir ≡ here → ⊥)
      → parcel_at new parcel.dir ≡ Some (emptied (flux_at old here) parcel)
  pub others : (d : ℕ) → (d ≡ here → ⊥) → (d ≡ parcel.dir → ⊥) → parcel_at new d ≡ parcel_at old d

-- After the merges of the directions done, where the tile t began its push with the particles
-- start t.

-- the particles that come to the tile r by those directions, after their push
unfoldable pub coming : Surroundings → Tiling → (ℕ → List Particle) → (ℕ → Bool) → ℕ → List Particle
coming w m start done r =
    flat_map (λ d. if done d then going w m d (start (sender_of m d r)) else [])
    (range_with_len 0 directions)

-- the flux that they bring to the edge on the axis a that lies q above the tile's lowest
unfoldable pub brought : Surroundings → Tiling → (ℕ → List Particle) → (ℕ → Bool) → ℕ → Axis → Triple
    → ℤ
brought w m start done r a q =
    sum_below directions
    (λ d. let s = sender_of m d r in pick (done d) (given_at m s d (traces w (start s) a) q))

-- the tile's parcel of no step has all that they bring, and what stops the tile's own push
pub record HasMerged (w : Surroundings) (m : Tiling) (start : ℕ → List Particle) (done : ℕ → Bool)
    (r : ℕ) (parcel : Parcel) : Type 0
  where
    pub chain : Same parcel.chain (coming w m start done r)
    pub low : parcel.flux.low ≡ lowest_cell m r
    pub size : parcel.flux.size ≡ m.size
    pub flux : (a : Axis) (q : Triple) → IsWithin q m.size
        → inner_at parcel.flux a q ≡ brought w m start done r a q
    pub halt : IsStopOf w (start r) parcel.stop

-- the tile r: the direction of no step is the first to be done, and its parcel has all; the others
-- that are done are empty, and those that aren't have no parcel yet
pub record IsReceiving (w : Surroundings) (m : Tiling) (start : ℕ → List Particle) (done : ℕ → Bool)
    (r : ℕ) (t : TileValue) : Type 0
  where
    pub number : t.number ≡ r
    pub first : (d : ℕ) → d < directions → done d ≡ true → done here ≡ true
    pub there : done here ≡ true → IsSome (parcel_at t here)
    pub own : (parcel : Parcel) → parcel_at t here ≡ Some parcel → HasMerged w m start done r parcel
    pub empty : (d : ℕ) → d < directions → (d ≡ here → ⊥) → done d ≡ true
        → parcel_at t d ≡ Some (empty_parcel m.size (lowest_cell m r) d)
    pub bare : (d : ℕ) → d < directions → done d ≡ false → parcel_at t d ≡ None

-- one direction more is done
pub record IsOneMore (k : ℕ) (done more : ℕ → Bool) : Type 0 where
  pub before : done k ≡ false
  pub now : more k ≡ true
  pub others : (d : ℕ) → (d ≡ k → ⊥) → more d ≡ done d

-- all directions are done
abbrev pub AreAllDone : (ℕ → Bool) → Type 0
AreAllDone done = (d : ℕ) → d < directions → done d ≡ true

-- what sums of flux are taken of: particles within the limits, shared out over the tiles of a map,
-- and of the tile r the edge that lies q above its lowest
pub record AreSummed (w : Surroundings) (m : Tiling) (start : ℕ → List Particle)
    (particles : List Particle) (r : ℕ) (q : Triple) : Type 0
  where
    pub some : 0 < m.side
    pub most : m.side ≤ most_side
    pub side : w.side ≡ m.side
    pub cells : w.cells ≡ cells_of m
    pub kinds : All IsKind w.kinds
    pub thick : HasTwo m.size
    pub tile : r < count_of m.tiles
    pub within : IsWithin q m.size
    pub shared : AreSharedOut m start particles
    pub inside : All (λ x. IsInBox m.side (cells_of m) (triple x.x)) particles

-- whichever directions are done first, the flux that has come to an edge is at most what that of
-- all particles can be at one
abbrev pub SumsKeepTheBound : Type 0
SumsKeepTheBound =
    (w : Surroundings) (m : Tiling) (start : ℕ → List Particle) (particles : List Particle)
    → (done : ℕ → Bool) (r : ℕ) (a : Axis) (q : Triple)
    → AreSummed w m start particles r q
    → length particles ≤ most_particles
    → IsAtMost (brought w m start done r a q) most_flux
