-- The three axes of a grid.
use Rattle.std.proofs.Common.{◌≡◌, ℤ, pos, ℕ, ◌+◌, ◌<◌, ◌≤◌, ◌≢◌, List, [], ◌∷◌, ◌++◌, length, get_or}
use Rattle.std.proofs.Common.{set, take, drop, slice_index, ap, ◌∙◌, lit<, ◌/◌, ◌^◌, ◌==◌, true, false, Ok, arith}
use Rattle.std.specs.Prelude.{codes}
use Rattle.std.proofs.lemmas.Bool.Decides.{nat_tests}
use Rattle.std.proofs.Math.Nat.{le_trans}
use Rattle.std.proofs.lemmas.Int.{ints, to_z-of_z}
use mir.Syntax.{w64, w128}
use mir.Val.{SFits, to_z, of_z}
use Rattle.std.proofs.lemmas.List.{length-take-le, get_or-set_same, get_or-set_other}
use borrow.Author.Count.{below_more}
use Rattle.toml.specs.View.{view, items_view}
use Rattle.toml.specs.declared.value.Value.{Value}
use Rattle.pic_walk.specs.declared.limits.Limits.{Limits}
use Rattle.pic_walk.specs.Path.{element_at}
use Rattle.pic_walk.specs.Limits.{from_to, MeetsLimits, FitsU32, limits_at}
use Rattle.toml.specs.Data.{Members}
use Rattle.pic_walk.specs.Walk.{◌>>=◌, each, need, whole}
use Rattle.pic_walk.proofs.ArrayLaws.{each_at}
use Rattle.pic_walk.proofs.FillLaws.{three_fit, at_least, at_most}
use Rattle.pic_num.specs.Limits.{allowance_of}
use Rattle.pic_num.specs.Space.{triple}
use Rattle.pic_num.specs.Versions.{IsSideOf, IsGridOf}
use Rattle.pic_num.proofs.VersionLaws.{within_scheme}
use Rattle.pic_block.specs.Cells.{IsCells, count_of}
use Rattle.pic_grid.specs.Tiles.{IsTiled, AreTiles}
use Rattle.pic_settings.specs.Keys.{cell_limits, bit_limits, next_tiles, axis_tiles, side_in}

pub cells_fit : (version : ℕ) (k : ℕ) → k < 3 → FitsU32 (limits_at (cell_limits version) k)
cells_fit version = three_fit 2 (allowance_of version).cells (omega (arith, (within_scheme version).cells))

pub few_within : (version : ℕ) (ns : List ℕ) → ((k : ℕ) → k < 3 → MeetsLimits (limits_at (cell_limits version) k) (pos (slice_index ns k)))
    → (k : ℕ) → k < 3 → slice_index ns k ≤ (allowance_of version).cells
few_within version ns inside = at_most 2 (allowance_of version).cells ns inside

pub cells_within : (version : ℕ) (ns : List ℕ) → ((k : ℕ) → k < 3 → MeetsLimits (limits_at (cell_limits version) k) (pos (slice_index ns k)))
    → IsCells (triple ns)
cells_within version ns inside =
    let least = at_least 2 (allowance_of version).cells ns inside in
    let few : (k : ℕ) → k < 3 → slice_index ns k ≤ 128 = (λ k h. le_trans (few_within version ns inside k h) (within_scheme version).cells) in
    record {
      x_least = least 0 (lit< tt);
      x_most = few 0 (lit< tt);
      y_least = least 1 (lit< tt);
      y_most = few 1 (lit< tt);
      z_least = least 2 (lit< tt);
      z_most = few 2 (lit< tt);
    }

-- cells and a side that a version allows
pub allowed : (version : ℕ) (ns : List ℕ) (side : ℕ) → ((k : ℕ) → k < 3 → slice_index ns k ≤ (allowance_of version).cells) → IsSideOf version side
    → IsGridOf version (triple ns) side
allowed version ns side few sides = record { x = few 0 (lit< tt); y = few 1 (lit< tt); z = few 2 (lit< tt); sides = sides }

-- the powers of two of a side
pub bits_fit : (version : ℕ) → FitsU32 (bit_limits version)
bits_fit version = record { low = omega (arith, ints); high = omega (arith, ints, (within_scheme version).greatest_bits) }

pub bits_least : (version bits : ℕ) → MeetsLimits (bit_limits version) (pos bits) → (allowance_of version).least_bits ≤ bits
bits_least version bits inside = omega (arith, ints, inside.low)

pub bits_most : (version bits : ℕ) → MeetsLimits (bit_limits version) (pos bits) → bits ≤ (allowance_of version).greatest_bits
bits_most version bits inside = omega (arith, ints, inside.high)

-- version 1 has one side, a further one tells it
pub side_of_first : (version : ℕ) (t : Members) → version ≡ 1 → side_in version t ≡ Ok (2 ^ (allowance_of version).least_bits)
unfolding side_in
side_of_first version t one =
    let same : (version == 1) ≡ true = grind (arith, nat_tests) in
    rw same

pub side_of_further : (version : ℕ) (t : Members) → version ≢ 1
    → side_in version t ≡ need (whole (bit_limits version)) (codes "sub") (codes "grid") t >>= (λ bits. Ok (2 ^ bits))
unfolding side_in
side_of_further version t further =
    let other : (version == 1) ≡ false = grind (arith, nat_tests) in
    rw other

-- the tiles of each axis are those of the grid, where they are 512 at most
pub tiles_within : (ns ts : List ℕ) → ((k : ℕ) → k < 3 → IsTiled (slice_index ns k) (slice_index ts k)) → count_of (triple ts) ≤ 512
    → AreTiles (triple ns) (triple ts)
tiles_within ns ts tiled most = record { x = tiled 0 (lit< tt); y = tiled 1 (lit< tt); z = tiled 2 (lit< tt); most = most }

-- the tiles of the next axis
pub next_axis_tiles : (ns : List ℕ) (path : List ℕ) (ts : List ℕ) (vs : List Value) (i : ℕ) (d : Value) → i < length vs → i ≤ length ts
    → each (next_tiles ns) path (take i ts) (items_view (drop i vs))
    ≡ axis_tiles (slice_index ns i) (element_at path i) (view (get_or vs i d))
    >>= (λ a. each (next_tiles ns) path (take i ts ++ a ∷ []) (items_view (drop (i + 1) vs)))
unfolding next_tiles
next_axis_tiles ns path ts vs i d h room =
    let same : length (take i ts) ≡ i = length-take-le i ts room in
    let step = each_at (next_tiles ns) path (take i ts) vs i d h in
    rw same at step

-- one more axis is tiled
pub more_tiled : (ns ts : List ℕ) (i t : ℕ) → i < length ts → ((k : ℕ) → k < i → IsTiled (slice_index ns k) (slice_index ts k)) → IsTiled (slice_index ns i) t
    → (k : ℕ) → k < i + 1 → IsTiled (slice_index ns k) (slice_index (set ts i t) k)
more_tiled ns ts i t room below here =
    below_more (λ k. IsTiled (slice_index ns k) (slice_index (set ts i t) k)) i
    (λ k h. let other : k ≢ i = (λ e. omega (arith, e)) in rw (get_or-set_other ts i k t 0 other) (below k h))
    (rw (get_or-set_same ts i t 0 room) here)

-- a number passed on in 128 bits
pub passed : (n : ℕ) (z : ℤ) → n < 2 ^ 64 → z ≡ pos n → to_z w128 (of_z w128 z) ≡ pos n
passed n z small e =
    let big : SFits w128 (pos n) = record { sfits = omega (arith, small) } in
    rw e (to_z-of_z w128 (pos n) big)

-- the limits of an axis's tiles
pub tile_limits : (n : ℕ) (z : ℤ) (l : Limits) → n < 2 ^ 32 → z ≡ pos (n / 2) → l ≡ from_to (pos 1) (to_z w64 (of_z w64 z)) → l ≡ from_to (pos 1) (pos (n / 2))
tile_limits n z l small e is =
    let half : SFits w64 (pos (n / 2)) = record { sfits = omega (arith, small) } in
    is ∙ rw e (ap (from_to (pos 1)) (to_z-of_z w64 (pos (n / 2)) half))
