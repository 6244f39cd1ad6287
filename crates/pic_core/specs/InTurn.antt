-- The order in which one worker lets all events come: tile by tile it claims and posts, and as soon as
-- all that lead to a tile are posted, it merges them and shuts the tile.
use Rattle.std.specs.Prelude.{◌≡◌, ℕ, zero, suc, ◌+◌, ◌<◌, ◌==◌, nat_lt, Bool, true, ◌&&◌, ◌||◌, if◌then◌else◌, List, [], ◌∷◌, ◌++◌}
use Rattle.std.specs.List.{flat_map, range_with_len}
use Rattle.pic_block.specs.Cells.{count_of}
use Rattle.pic_tile.specs.CoreState.{CoreState, tile_count, slot_of, is_claimed, is_posted, is_merged, is_shut}
use Rattle.pic_tile.specs.Directions.{directions, here}
use Rattle.pic_tile.specs.Layers.{sender_of}
use Rattle.pic_tile.specs.Tiling.{Tiling, neighbour_of}
use Rattle.pic_core.specs.declared.event.Event.{Event}
use Rattle.pic_core.specs.declared.event.Event.TheVariants.{Claim, Post, Merge, Shut}

-- how many posts come before that of the direction d to the tile r: the posts come tile by tile, each
-- tile's by direction
abbrev pub turn_of : Tiling → ℕ → ℕ → ℕ
turn_of m r d = slot_of (sender_of m d r) d

-- whether f holds of each number below n
unfoldable pub all_below : ℕ → (ℕ → Bool) → Bool
all_below zero f = true
all_below (suc n) f = all_below n f && f n

-- whether all that lead to the tile r are among the first posts, so many
abbrev pub is_complete : Tiling → ℕ → ℕ → Bool
is_complete m posts r = all_below directions (λ d. nat_lt (turn_of m r d) posts)

-- The events.

-- the merge of a direction, but for that of no step
abbrev pub merging_at : ℕ → ℕ → List Event
merging_at r d = if d == here then [] else Merge r d ∷ []

abbrev pub merging : ℕ → ℕ → List Event
merging r until = flat_map (merging_at r) (range_with_len 0 until)

-- all merges of a tile, that of no step first, and its shutting
abbrev pub finishing : ℕ → List Event
finishing r = Merge r here ∷ (merging r directions ++ (Shut r ∷ []))

-- a post, and where it is the last that leads to its tile the merges and the shutting of that
abbrev pub posting : Tiling → ℕ → ℕ → List Event
posting m t d =
    let to = neighbour_of m.tiles t d in
    Post t d ∷ (if is_complete m (slot_of t d + 1) to then finishing to else [])

-- a claim, and the posts of that tile by direction
abbrev pub tiling : Tiling → ℕ → List Event
tiling m t = Claim t ∷ flat_map (posting m t) (range_with_len 0 directions)

-- all events
abbrev pub in_turn : Tiling → List Event
in_turn m = flat_map (tiling m) (range_with_len 0 (count_of m.tiles))

-- The states in between.

-- the first tiles are claimed, so many, and the first posts have come; the tiles are shut to which all
-- that lead are among the first `closed` of the posts, and nothing is merged into others
pub record IsAt (claims posts closed : ℕ) (s : CoreState) : Type 0 where
  pub claimed : (t : ℕ) → t < tile_count s → is_claimed s t ≡ nat_lt t claims
  pub posted : (r d : ℕ) → r < tile_count s → d < directions → is_posted s r d ≡ nat_lt (turn_of s.frame.map r d) posts
  pub merged : (r d : ℕ) → r < tile_count s → d < directions → is_merged s r d ≡ is_complete s.frame.map closed r
  pub shut : (r : ℕ) → r < tile_count s → is_shut s r ≡ is_complete s.frame.map closed r

-- so it is but for the tile to which the tile t has just posted the last that leads there: of those
-- the directions done are merged
pub record IsFinishing (t d : ℕ) (done : ℕ → Bool) (s : CoreState) : Type 0 where
  pub claimed : (i : ℕ) → i < tile_count s → is_claimed s i ≡ nat_lt i (t + 1)
  pub posted : (r e : ℕ) → r < tile_count s → e < directions → is_posted s r e ≡ nat_lt (turn_of s.frame.map r e) (slot_of t d + 1)
  pub others : (r e : ℕ) → r < tile_count s → e < directions → (r ≡ neighbour_of s.frame.map.tiles t d → ⊥)
      → is_merged s r e ≡ is_complete s.frame.map (slot_of t d) r
  pub own : (e : ℕ) → e < directions → is_merged s (neighbour_of s.frame.map.tiles t d) e ≡ done e
  pub shut : (r : ℕ) → r < tile_count s → is_shut s r ≡ is_complete s.frame.map (slot_of t d) r
  pub all : is_complete s.frame.map (slot_of t d + 1) (neighbour_of s.frame.map.tiles t d) ≡ true

-- the directions that are done when that of no step and those below d are
abbrev pub up_to : ℕ → ℕ → Bool
up_to d e = e == here || nat_lt e d
