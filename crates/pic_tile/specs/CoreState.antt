-- The state of a push of all tiles, between its atomic steps. A tile is claimed, and its particles are
-- pushed; its claimer posts the parcel of each direction to the tile that it leads to. When all that
-- lead to a tile are posted, they are merged, and the tile is shut.
use Rattle.std.specs.Prelude.{◌≡◌, ℕ, ◌+◌, ◌*◌, ◌<◌, ◌≤◌, List, ◌++◌, length, map, IsPermutation, Bool}
use Rattle.std.specs.Prelude.{true, false, ◌&&◌, nat_lt, Option, None, slice_index_or}
use Rattle.std.specs.List.{All, range_with_len, flat_map}
use Rattle.pic_num.specs.declared.motion.Particle.{Particle}
use Rattle.pic_num.specs.Limits.{least_side, most_side, most_particles}
use Rattle.pic_block.specs.Cells.{count_of}
use Rattle.pic_grid.specs.PushPhase.{CanShare}
use Rattle.pic_tile.specs.InOrder.{in_order, AreOrdered}
use Rattle.pic_tile.specs.Totals.{together}
use Rattle.pic_tile.specs.declared.parcel.Parcel.{Parcel}
use Rattle.pic_tile.specs.Directions.{directions, here}
use Rattle.pic_tile.specs.Frame.{FrameValue, IsPushFrame, felt_in}
use Rattle.pic_tile.specs.Held.{chains_of}
use Rattle.pic_tile.specs.Layers.{sender_of}
use Rattle.pic_tile.specs.Parcels.{AreFreshTiles}
use Rattle.pic_tile.specs.Pushed.{IsSent}
use Rattle.pic_tile.specs.Receiving.{IsReceiving, AreAllDone}
use Rattle.pic_tile.specs.Tile.{TileValue, parcel_at, chain_of, chain_at, tile_in}
use Rattle.pic_tile.specs.Tiling.{IsMap, cells_of, neighbour_of}

-- The frame, the tiles as they were at the start, and what there is now: by tile what it has, or after
-- its claim what its claimer has; by receiver and direction the parcel that is posted there; by tile
-- what has been merged into it. The marks say which tiles are claimed, which parcels are posted and
-- merged, and which tiles are shut.
pub record CoreState : Type 0 where
  pub frame : FrameValue
  pub opening : List TileValue
  pub tiles : List TileValue
  pub mail : List (Option Parcel)
  pub received : List TileValue
  pub claimed : List Bool
  pub posted : List Bool
  pub merged : List Bool
  pub shut : List Bool

-- how many tiles there are
abbrev pub tile_count : CoreState → ℕ
tile_count s = count_of s.frame.map.tiles

-- where the parcel of the direction d to the tile r has its place, and its marks
abbrev pub slot_of : ℕ → ℕ → ℕ
slot_of r d = r * directions + d

abbrev pub mark : List Bool → ℕ → Bool
mark marks at = slice_index_or marks at false

abbrev pub is_claimed : CoreState → ℕ → Bool
is_claimed s t = mark s.claimed t

-- of the parcel of the direction d to the tile r
abbrev pub is_posted : CoreState → ℕ → ℕ → Bool
is_posted s r d = mark s.posted (slot_of r d)

abbrev pub is_merged : CoreState → ℕ → ℕ → Bool
is_merged s r d = mark s.merged (slot_of r d)

-- the directions whose parcels to r are merged
abbrev pub merged_into : CoreState → ℕ → ℕ → Bool
merged_into s r d = nat_lt d directions && is_merged s r d

abbrev pub is_shut : CoreState → ℕ → Bool
is_shut s r = mark s.shut r

abbrev pub mail_at : CoreState → ℕ → ℕ → Option Parcel
mail_at s r d = slice_index_or s.mail (slot_of r d) None

-- At the start.

-- the particles of fresh tiles, in the order of their identities
abbrev pub all_particles : List TileValue → List Particle
all_particles tiles = in_order (together (chains_of tiles))

-- tiles of a frame that can be pushed: all of them, fresh, with particles within the limits, whose
-- identities are 0, 1, ..
pub record IsOpening (f : FrameValue) (tiles : List TileValue) : Type 0 where
  pub fresh : AreFreshTiles f.map (all_particles tiles) tiles
  pub ordered : AreOrdered (all_particles tiles)
  pub can : All (CanShare f.map.side (cells_of f.map) f.kinds) (all_particles tiles)
  pub few : length (all_particles tiles) ≤ most_particles

-- what the frame and its map keep
pub record IsSoundFrame (f : FrameValue) : Type 0 where
  pub frame : IsPushFrame f
  pub map : IsMap f.map
  pub least : least_side ≤ f.map.side
  pub most : f.map.side ≤ most_side

-- the particles with which a tile starts
abbrev pub first_particles : CoreState → ℕ → List Particle
first_particles s t = chain_at (tile_in s.opening t) here

-- The census.

-- the particles of a tile's parcels, one parcel after another
abbrev pub held_in : TileValue → List Particle
held_in t = flat_map (λ d. chain_at t d) (range_with_len 0 directions)

-- the particles of all tiles and parcels
unfoldable pub held : CoreState → List Particle
held s = flat_map held_in s.tiles ++ (flat_map chain_of s.mail ++ flat_map held_in s.received)

-- the identities in all tiles and parcels, one after another, are a rearrangement of 0, 1, .., n - 1,
-- where there were n particles at the start
pub record HasCensus (s : CoreState) : Type 0 where
  pub rearranged : IsPermutation (range_with_len 0 (length (all_particles s.opening))) (map (λ x. x.id) (held s))

-- Where each parcel is, and with what.

-- there is one place for each tile and each parcel
pub record HasPlaces (s : CoreState) : Type 0 where
  pub tiles : length s.tiles ≡ tile_count s
  pub mail : length s.mail ≡ tile_count s * directions
  pub received : length s.received ≡ tile_count s
  pub claimed : length s.claimed ≡ tile_count s
  pub posted : length s.posted ≡ tile_count s * directions
  pub merged : length s.merged ≡ tile_count s * directions
  pub shut : length s.shut ≡ tile_count s

-- what came before: a parcel is posted by a claimer, one is merged when all of its receiver are posted,
-- and a tile is shut when all of its own are merged
pub record IsInTurn (s : CoreState) : Type 0 where
  pub came : (r d : ℕ) → r < tile_count s → d < directions → is_posted s r d ≡ true → is_claimed s (sender_of s.frame.map d r) ≡ true
  pub ready : (r d : ℕ) → r < tile_count s → d < directions → is_merged s r d ≡ true → AreAllDone (λ e. is_posted s r e)
  pub over : (r : ℕ) → r < tile_count s → is_shut s r ≡ true → AreAllDone (λ d. is_merged s r d)

-- the parcel of the direction d from the tile t to r is in one place: from the claim of t with its
-- claimer, posted in its slot, then merged into r; until it is merged it has what the push sends. A
-- tile that isn't claimed is as at the start.
pub record IsInPlace (s : CoreState) : Type 0 where
  pub waits : (t : ℕ) → t < tile_count s → is_claimed s t ≡ false → tile_in s.tiles t ≡ tile_in s.opening t
  pub held : (t d : ℕ) → t < tile_count s → d < directions → is_claimed s t ≡ true
      → is_posted s (neighbour_of s.frame.map.tiles t d) d ≡ false
      → IsSent (felt_in s.frame) s.frame.map (first_particles s t) t d (parcel_at (tile_in s.tiles t) d)
  pub gone : (t d : ℕ) → t < tile_count s → d < directions → is_posted s (neighbour_of s.frame.map.tiles t d) d ≡ true
      → parcel_at (tile_in s.tiles t) d ≡ None
  pub clear : (r d : ℕ) → r < tile_count s → d < directions → is_posted s r d ≡ false → mail_at s r d ≡ None
  pub sent : (r d : ℕ) → r < tile_count s → d < directions → is_posted s r d ≡ true → is_merged s r d ≡ false
      → IsSent (felt_in s.frame) s.frame.map (first_particles s (sender_of s.frame.map d r)) (sender_of s.frame.map d r) d (mail_at s r d)
  pub taken : (r d : ℕ) → r < tile_count s → d < directions → is_merged s r d ≡ true → mail_at s r d ≡ None
  pub receives : (r : ℕ) → r < tile_count s
      → IsReceiving (felt_in s.frame) s.frame.map (first_particles s) (merged_into s r) r (tile_in s.received r)

-- a state that events can lead to
pub record Stands (s : CoreState) : Type 0 where
  pub frame : IsSoundFrame s.frame
  pub opening : IsOpening s.frame s.opening
  pub places : HasPlaces s
  pub turn : IsInTurn s
  pub place : IsInPlace s
  pub census : HasCensus s

-- all tiles are shut
abbrev pub AreAllShut : CoreState → Type 0
AreAllShut s = (r : ℕ) → r < tile_count s → is_shut s r ≡ true
