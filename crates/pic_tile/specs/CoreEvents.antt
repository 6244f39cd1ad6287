-- The events that change the state of a push of all tiles: where each can come, and what it changes.
use Rattle.std.specs.Prelude.{◌≡◌, ℕ, ◌<◌, ◌⊎◌, true, false, Some, None, slice_set}
use Rattle.pic_tile.specs.declared.parcel.Parcel.{Parcel}
use Rattle.pic_tile.specs.CoreState.{CoreState, tile_count, slot_of, is_claimed, is_posted, is_merged, is_shut, mail_at, first_particles}
use Rattle.pic_tile.specs.Directions.{directions, here}
use Rattle.pic_tile.specs.Frame.{felt_in}
use Rattle.pic_tile.specs.Pushed.{IsPushed}
use Rattle.pic_tile.specs.Receiving.{Merged, AreAllDone}
use Rattle.pic_tile.specs.Tile.{TileValue, parcel_at, with_parcel, tile_in}
use Rattle.pic_tile.specs.Tiling.{neighbour_of}

-- A claim: t is a tile that isn't claimed. Its particles are pushed.
pub record CanClaim (s : CoreState) (t : ℕ) : Type 0 where
  pub tile : t < tile_count s
  pub free : is_claimed s t ≡ false

abbrev pub after_claim : CoreState → ℕ → TileValue → CoreState
after_claim s t u = record s { claimed = slice_set s.claimed t true; tiles = slice_set s.tiles t u }

pub record Claims (s : CoreState) (t : ℕ) (new : CoreState) : Type 0 where
  pub tile : TileValue
  pub number : tile.number ≡ t
  pub pushed : IsPushed (felt_in s.frame) s.frame.map (first_particles s t) tile
  pub is : new ≡ after_claim s t tile

-- A post: t is claimed, and its parcel of the direction d isn't posted yet. It goes to the neighbour.
pub record CanPost (s : CoreState) (t d : ℕ) : Type 0 where
  pub tile : t < tile_count s
  pub dir : d < directions
  pub claimed : is_claimed s t ≡ true
  pub free : is_posted s (neighbour_of s.frame.map.tiles t d) d ≡ false

abbrev pub after_post : CoreState → ℕ → ℕ → CoreState
after_post s t d =
    let slot = slot_of (neighbour_of s.frame.map.tiles t d) d in
    record s {
      posted = slice_set s.posted slot true;
      mail = slice_set s.mail slot (parcel_at (tile_in s.tiles t) d);
      tiles = slice_set s.tiles t (with_parcel (tile_in s.tiles t) d None);
    }

-- A merge: all parcels that lead to r are posted, that of the direction d isn't merged, and d is the
-- direction of no step or that is merged.
pub record CanMerge (s : CoreState) (r d : ℕ) : Type 0 where
  pub tile : r < tile_count s
  pub dir : d < directions
  pub ready : AreAllDone (λ e. is_posted s r e)
  pub free : is_merged s r d ≡ false
  pub order : (d ≡ here) ⊎ (is_merged s r here ≡ true)

abbrev pub after_merge : CoreState → ℕ → ℕ → TileValue → CoreState
after_merge s r d u =
    let slot = slot_of r d in
    record s {
      merged = slice_set s.merged slot true;
      mail = slice_set s.mail slot None;
      received = slice_set s.received r u;
    }

pub record Merges (s : CoreState) (r d : ℕ) (new : CoreState) : Type 0 where
  pub parcel : Parcel
  pub tile : TileValue
  pub there : mail_at s r d ≡ Some parcel
  pub merged : Merged parcel (tile_in s.received r) tile
  pub is : new ≡ after_merge s r d tile

-- A shutting: all parcels of r are merged, and r isn't shut.
pub record CanShut (s : CoreState) (r : ℕ) : Type 0 where
  pub tile : r < tile_count s
  pub all : AreAllDone (λ d. is_merged s r d)
  pub free : is_shut s r ≡ false

abbrev pub after_shut : CoreState → ℕ → CoreState
after_shut s r = record s { shut = slice_set s.shut r true }
