-- Particles on a lattice and particles drawn at random, beside the numbers that they are read from.
use Rattle.std.proofs.Common.{◌≡◌, ℕ, zero, suc, ◌*◌, ◌<◌, ◌≤◌, ◌^◌, List, [], ◌∷◌, length, get_or, slice_index, slice_index_or, lit<, refl, arith}
use Rattle.std.proofs.Math.IntN.{ℤ, pos}
use Rattle.std.specs.Prelude.{neg_ℤ}
use Rattle.std.proofs.lemmas.Int.{ints}
use Rattle.pic_num.specs.declared.axis.Axis.{Axis}
use Rattle.pic_num.specs.declared.axis.Axis.TheVariants.{X, Y, Z}
use Rattle.pic_num.specs.Sizes.{IsAtMost}
use Rattle.pic_num.specs.Space.{triple, along, spot}
use Rattle.pic_walk.specs.Extent.{extent_of, IsExtent}
use Rattle.pic_block.specs.Cells.{Grid}
use Rattle.pic_grid.specs.Hat.{IsInBox}
use Rattle.pic_walk.specs.declared.limits.Limits.{Limits}
use Rattle.pic_walk.specs.Limits.{MeetsLimits, FitsU32, FitsI32, from_to, below, limits_at, thrice}
use Rattle.pic_walk.specs.Sites.{place_limits}
use Rattle.pic_walk.proofs.PointLaws.{as_speed, kept_small}

pub thrice_at : (l : Limits) (k : ℕ) → k < 3 → limits_at (thrice l) k ≡ l
unfolding limits_at
thrice_at l zero h = refl
thrice_at l (suc zero) h = refl
thrice_at l (suc (suc zero)) h = refl
thrice_at l (suc (suc (suc k))) h = absurd (omega (arith, h))

-- what holds of some limits holds of them thrice
pub all_thrice : (P : Limits → Type 0) (l : Limits) → P l → (k : ℕ) → k < 3 → P (limits_at (thrice l) k)
all_thrice P l is k h = rw (thrice_at l k h) is

-- a number within limits of 32 bits is kept by a cast
pub kept : (l : Limits) (z : ℤ) → FitsI32 l → MeetsLimits l z → as_speed z ≡ z
kept l z fits inside = kept_small z (omega (arith, ints, fits.low, fits.high, inside.low, inside.high))

-- three numbers, one by one
pub three_numbers : (zs : List ℤ) → length zs ≡ 3 → get_or zs 0 (pos 0) ∷ get_or zs 1 (pos 0) ∷ get_or zs 2 (pos 0) ∷ [] ≡ zs
three_numbers [] e = absurd (omega (arith, e))
three_numbers (a ∷ []) e = absurd (omega (arith, e))
three_numbers (a ∷ b ∷ []) e = absurd (omega (arith, e))
three_numbers (a ∷ b ∷ c ∷ []) e = refl
three_numbers (a ∷ b ∷ c ∷ d ∷ zs) e = absurd (omega (arith, e))

pub kept_three : (ls : List Limits) (zs : List ℤ) → length zs ≡ 3 → ((k : ℕ) → k < 3 → FitsI32 (limits_at ls k))
    → ((k : ℕ) → k < 3 → MeetsLimits (limits_at ls k) (slice_index_or zs k (pos 0)))
    → as_speed (get_or zs 0 (pos 0)) ∷ as_speed (get_or zs 1 (pos 0)) ∷ as_speed (get_or zs 2 (pos 0)) ∷ [] ≡ zs
kept_three ls zs size fits inside =
    rw (
      kept (limits_at ls 0) (get_or zs 0 (pos 0)) (fits 0 (lit< tt)) (inside 0 (lit< tt)),
      kept (limits_at ls 1) (get_or zs 1 (pos 0)) (fits 1 (lit< tt)) (inside 1 (lit< tt)),
      kept (limits_at ls 2) (get_or zs 2 (pos 0)) (fits 2 (lit< tt)) (inside 2 (lit< tt)),
    ) (three_numbers zs size)

pub kept_bounds : (ls : List Limits) (zs : List ℤ) → length zs ≡ 3 → ((k : ℕ) → k < 3 → FitsI32 (limits_at ls k))
    → ((k : ℕ) → k < 3 → MeetsLimits (limits_at ls k) (slice_index_or zs k (pos 0)))
    → (k : ℕ) → k < 3
    → MeetsLimits (limits_at ls k) (slice_index_or (as_speed (get_or zs 0 (pos 0)) ∷ as_speed (get_or zs 1 (pos 0)) ∷ as_speed
    (get_or zs 2 (pos 0)) ∷ []) k (pos 0))
kept_bounds ls zs size fits inside k h = rw (kept_three ls zs size fits inside) (inside k h)

most : (m : ℕ) (z : ℤ) → MeetsLimits (from_to (neg_ℤ (pos m)) (pos m)) z → IsAtMost z m
most m z inside = record { size = omega (arith, ints, inside.low, inside.high) }

-- three numbers of the same size
pub along_most : (m : ℕ) (zs : List ℤ) → ((k : ℕ) → k < 3 → MeetsLimits (limits_at (thrice (from_to (neg_ℤ (pos m)) (pos m))) k) (slice_index_or zs k (pos 0)))
    → (a : Axis) → IsAtMost (along a (spot zs)) m
unfolding limits_at
along_most m zs inside X = most m _ (inside 0 (lit< tt))
along_most m zs inside Y = most m _ (inside 1 (lit< tt))
along_most m zs inside Z = most m _ (inside 2 (lit< tt))

-- three numbers that are no larger, and no smaller
pub at_most : (low high : ℕ) (ns : List ℕ) → ((k : ℕ) → k < 3 → MeetsLimits (limits_at (thrice (from_to (pos low) (pos high))) k) (pos (slice_index ns k)))
    → (k : ℕ) → k < 3 → slice_index ns k ≤ high
at_most low high ns inside k h =
    let is : MeetsLimits (from_to (pos low) (pos high)) (pos (slice_index ns k)) = rw (thrice_at _ k h) at (inside k h) in
    omega (arith, ints, is.high)

pub at_least : (low high : ℕ) (ns : List ℕ) → ((k : ℕ) → k < 3 → MeetsLimits (limits_at (thrice (from_to (pos low) (pos high))) k) (pos (slice_index ns k)))
    → (k : ℕ) → k < 3 → low ≤ slice_index ns k
at_least low high ns inside k h =
    let is : MeetsLimits (from_to (pos low) (pos high)) (pos (slice_index ns k)) = rw (thrice_at _ k h) at (inside k h) in
    omega (arith, ints, is.low)

pub places_fit : (g : Grid) → IsExtent (extent_of g) → (k : ℕ) → k < 3 → FitsU32 (limits_at (place_limits g) k)
unfolding limits_at
places_fit g extent zero h = record { low = omega (arith, ints); high = omega (arith, ints, extent.x_most) }
places_fit g extent (suc zero) h = record { low = omega (arith, ints); high = omega (arith, ints, extent.y_most) }
places_fit g extent (suc (suc zero)) h = record { low = omega (arith, ints); high = omega (arith, ints, extent.z_most) }
places_fit g extent (suc (suc (suc k))) h = absurd (omega (arith, h))

pub place_in : (g : Grid) (ns : List ℕ) → IsExtent (extent_of g)
    → ((k : ℕ) → k < 3 → MeetsLimits (limits_at (place_limits g) k) (pos (slice_index ns k)))
    → IsInBox g.side g.n (triple ns)
unfolding limits_at
place_in g ns extent inside =
    let x : MeetsLimits (below (g.n.x * g.side)) (pos (slice_index ns 0)) = inside 0 (lit< tt) in
    let y : MeetsLimits (below (g.n.y * g.side)) (pos (slice_index ns 1)) = inside 1 (lit< tt) in
    let z : MeetsLimits (below (g.n.z * g.side)) (pos (slice_index ns 2)) = inside 2 (lit< tt) in
    record {
      x = omega (arith, ints, x.high, extent.x_some);
      y = omega (arith, ints, y.high, extent.y_some);
      z = omega (arith, ints, z.high, extent.z_some);
    }

fits_small : (low high : ℕ) → high < 2 ^ 32 → FitsU32 (from_to (pos low) (pos high))
fits_small low high h = record { low = omega (arith, ints); high = omega (arith, ints, h) }

pub three_fit : (low high : ℕ) → high < 2 ^ 32 → (k : ℕ) → k < 3 → FitsU32 (limits_at (thrice (from_to (pos low) (pos high))) k)
three_fit low high h = all_thrice FitsU32 _ (fits_small low high h)

pub signed_fit : (m : ℕ) → m < 2 ^ 31 → (k : ℕ) → k < 3 → FitsI32 (limits_at (thrice (from_to (neg_ℤ (pos m)) (pos m))) k)
signed_fit m h = all_thrice FitsI32 _ (record { low = omega (arith, ints, h); high = omega (arith, ints, h) })
