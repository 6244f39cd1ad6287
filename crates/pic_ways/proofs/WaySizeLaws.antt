-- How large the flux of ways is, and that it is 0 beyond the margin of the box.
use Rattle.std.proofs.Common.{◌≡◌, ℕ, zero, suc, ◌+◌, ◌-◌, ◌*◌, ◌<◌, ◌≤◌, List, [], ◌∷◌, length}
use Rattle.std.proofs.Common.{take, Option, Some, None, unsigned_abs, inl, inr, refl, ◌∙◌, arith}
use Rattle.std.proofs.Math.IntN.{ℤ, pos, negsuc, ◌+ℤ◌, ◌-ℤ◌}
use Rattle.std.specs.Prelude.{◌≤ℤ◌, ◌<ℤ◌, All}
use Rattle.std.proofs.lemmas.Int.{ints, by_lt_z}
use Rattle.std.proofs.lemmas.List.Elements.{All-head, All-tail}
use Rattle.pic_num.specs.declared.axis.Axis.{Axis}
use Rattle.pic_num.specs.declared.axis.Axis.TheVariants.{X, Y, Z}
use Rattle.pic_num.specs.Limits.{most_charge, most_particles, most_side, most_flux_of}
use Rattle.pic_num.specs.Push.{plus}
use Rattle.pic_num.specs.Sizes.{IsAtMost}
use Rattle.pic_num.specs.Space.{Triple, Spot, triple, spot, along, unwrapped}
use Rattle.pic_num.proofs.SizeLaws.{times_at_most}
use Rattle.pic_block.specs.Block.{BlockValues, InZone, AllAtMost}
use Rattle.pic_grid.specs.Current.{wrapped}
use Rattle.pic_grid.specs.Flux.{path_flux}
use Rattle.pic_grid.specs.Hat.{HasTwo}
use Rattle.pic_grid.specs.Path.{floor_cell, path}
use Rattle.pic_grid.specs.Segment.{Piece, IsInCell, Leads, arrived, onward}
use Rattle.pic_grid.specs.Sums.{sum_over}
use Rattle.pic_grid.specs.Ways.{ways}
use Rattle.pic_grid.proofs.ApartLaws.{IsApart, path_apart}
use Rattle.pic_grid.proofs.FluxLaws.{front_flux_size, path_flux_most}
use Rattle.pic_flux.specs.Adds.{SumsBelow}
use Rattle.pic_split.proofs.ContinuityLaws.{near_start, near_end}
use Rattle.pic_split.proofs.ImageHatLaws.{IsNear}
use Rattle.pic_split.proofs.ImageLaws.{wrapped-add, wrapped-zero, wrapped-over}
use Rattle.pic_split.proofs.ImageSizeLaws.{wrapped_under, path_images}
use Rattle.pic_split.proofs.LeadLaws.{move_along, path_leads}
use Rattle.pic_split.proofs.WayLaws.{path_ways}
use Rattle.pic_ways.specs.declared.way.Way.{Way}
use Rattle.pic_ways.specs.Margin.{margin_low, margin_size}
use Rattle.pic_ways.specs.Way.{IsWay, IsWithinLimits, way_flux, flux_of_ways, current_of_ways}

-- Sums over lists.

-- of terms that are at most so large
pub sum_most : {A : Type 0} (f : A → ℤ) (xs : List A) (most : ℕ) → All (λ x. IsAtMost (f x) most) xs → unsigned_abs (sum_over f xs) ≤ length xs * most
unfolding sum_over
sum_most f [] most small = omega (arith, ints)
sum_most f (x ∷ xs) most small =
    let first = (All-head (λ y. IsAtMost (f y) most) x xs small).size in
    let rest = sum_most f xs most (All-tail (λ y. IsAtMost (f y) most) x xs small) in
    let all : length (x ∷ xs) * most ≡ length xs * most + most = omega arith in
    omega (arith, ints, first, rest, all)

-- of terms that are all 0
pub sum_none : {A : Type 0} (f : A → ℤ) (xs : List A) → All (λ x. f x ≡ pos 0) xs → sum_over f xs ≡ pos 0
unfolding sum_over
sum_none f [] none = refl
sum_none f (x ∷ xs) none =
    (λ t. All-head (λ y. f y ≡ pos 0) x xs none t +ℤ sum_none f xs (All-tail (λ y. f y ≡ pos 0) x xs none) t)

-- The size of the sum over the images of an edge is at most the sum of the sizes.
pub wrapped_size : (n : Triple) (f : Spot → ℤ) (p : Triple) → pos (unsigned_abs (wrapped n f p)) ≤ℤ wrapped n (λ c. pos (unsigned_abs (f c))) p
wrapped_size n f p =
    let size = λ (c : Spot). pos (unsigned_abs (f c)) in
    let less = λ (c : Spot). pos 0 -ℤ f c in
    let over = wrapped_under n f size p (λ c. omega (arith, ints)) in
    let under = wrapped_under n less size p (λ c. omega (arith, ints)) in
    let both = wrapped-add n f less p in
    let none : wrapped n (λ c. f c +ℤ less c) p ≡ pos 0 = (λ t. wrapped n (λ c. nothing (f c) t) p) ∙ wrapped-zero n p in
    omega (arith, ints, over, under, both, none)
  where
    nothing : (z : ℤ) → z +ℤ (pos 0 -ℤ z) ≡ pos 0
    nothing z = omega (arith, ints)

-- what a charge within the limits carries along a side
carried_most : (side q : ℕ) → side ≤ most_side → q ≤ most_charge → q * side * (12 * (side * side)) ≤ most_flux_of 1
carried_most side q most charge =
    let square = times_at_most side side most_side most_side most most in
    let first = times_at_most q side most_charge most_side charge most in
    let all = times_at_most (q * side) (12 * (side * side)) (most_charge * most_side) (12 * (most_side * most_side)) first (omega (arith, square)) in
    omega (arith, all)

-- pieces that lead somewhere lie each in its cell
pub leads_inside : (side : ℕ) {c e p : Spot} {ss : List Piece} {r : Spot} → Leads side c e p ss r → All (IsInCell side) ss
leads_inside side arrived k d below = absurd (omega (arith, below))
leads_inside side (onward s at of rest) zero d below = at
leads_inside side (onward s at of rest) (suc k) d below = leads_inside side rest k d (omega (arith, below))

-- One way.
module _ (side : ℕ) (n : Triple) (w : Way) (above : 0 < side) (most : side ≤ most_side) (is : IsWay side n w) where
  abbrev from : Spot
  from = unwrapped (triple w.from)

  abbrev pieces : List Piece
  pieces = path side from (spot w.by)

  -- its path goes at most a side along each axis
  pub short : (a : Axis) → ways a pieces ≤ side
  short a = let far = path_ways side from (spot w.by) a above is.by in let size = move_along side a (spot w.by) is.by in omega (arith, far, size)

  -- the flux of its path's first pieces
  pub front_most : (k : ℕ) (a : Axis) (c : Spot) → unsigned_abs (path_flux side w.charge (take k pieces) a c) ≤ most_flux_of 1
  front_most k a c =
      let size = front_flux_size side w.charge pieces a c side k (short a) in
      let all = carried_most side (unsigned_abs w.charge) most is.charge.size in
      omega (arith, size, all)

  -- and of all of them
  pub way_most : (a : Axis) (c : Spot) → unsigned_abs (way_flux side (Some w) a c) ≤ most_flux_of 1
  unfolding way_flux
  way_most a c =
      let size = path_flux_most side w.charge pieces a c side (short a) in
      let all = carried_most side (unsigned_abs w.charge) most is.charge.size in
      omega (arith, size, all)

  -- its current
  pub current_most : (a : Axis) (p : Triple) → HasTwo n → IsAtMost (wrapped n (way_flux side (Some w) a) p) (most_flux_of 1)
  unfolding way_flux
  current_most a p two =
      let one = wrapped_size n (path_flux side w.charge pieces a) p in
      let images = path_images side n w.charge pieces a p two in
      let far = times_at_most (unsigned_abs w.charge) (ways a pieces) (unsigned_abs w.charge) side (omega arith) (short a) in
      let product = times_at_most (unsigned_abs w.charge * ways a pieces) (12 * (side * side)) (unsigned_abs w.charge * side) (12 * (side * side)) far
      (omega arith) in
      let all = carried_most side (unsigned_abs w.charge) most is.charge.size in
      record { size = omega (arith, ints, one, images, product, all) }

  -- beyond the margin it has no flux
  beyond : (a b : Axis) (c : Spot) → IsApart (along b (floor_cell side from)) (along b c)
      → IsApart (along b (floor_cell side (plus from (spot w.by)))) (along b c) → way_flux side (Some w) a c ≡ pos 0
  unfolding way_flux
  beyond a b c start end =
      path_apart side w.charge (floor_cell side from) (floor_cell side (plus from (spot w.by))) a b c start end
      (path_leads side from (spot w.by) above is.by)

  out_under : (m : ℕ) (c j : ℤ) → IsNear m c → j <ℤ negsuc 0 → IsApart c j
  out_under m c j near low = let least = near.low in inl (omega (arith, ints, low, least))

  out_over : (m : ℕ) (c j : ℤ) → IsNear m c → (pos m +ℤ pos 2) ≤ℤ j → IsApart c j
  out_over m c j near high = let greatest = near.high in inr (omega (arith, ints, high, greatest))

  pub way_beyond : (a : Axis) (c : Spot) → (InZone margin_low (margin_size n) c → ⊥) → way_flux side (Some w) a c ≡ pos 0
  way_beyond a c out =
      let start = near_start side n (triple w.from) above is.from in
      let end = near_end side n (triple w.from) (spot w.by) above is.from is.by in
      by_lt_z c.x (negsuc 0) (λ under. beyond a X c (out_under n.x _ c.x start.x under) (out_under n.x _ c.x end.x under))
      (λ x_low. by_lt_z c.x (pos n.x +ℤ pos 2)
      (λ x_high. by_lt_z c.y (negsuc 0) (λ under. beyond a Y c (out_under n.y _ c.y start.y under) (out_under n.y _ c.y end.y under))
      (λ y_low. by_lt_z c.y (pos n.y +ℤ pos 2)
      (λ y_high. by_lt_z c.z (negsuc 0) (λ under. beyond a Z c (out_under n.z _ c.z start.z under) (out_under n.z _ c.z end.z under))
      (λ z_low. by_lt_z c.z (pos n.z +ℤ pos 2)
      (λ z_high. absurd (out (record {
        x_low = x_low;
        x_high = omega (arith, ints, x_high);
        y_low = y_low;
        y_high = omega (arith, ints, y_high);
        z_low = z_low;
        z_high = omega (arith, ints, z_high);
      })))
      (λ over. beyond a Z c (out_over n.z _ c.z start.z over) (out_over n.z _ c.z end.z over))))
      (λ over. beyond a Y c (out_over n.y _ c.y start.y over) (out_over n.y _ c.y end.y over))))
      (λ over. beyond a X c (out_over n.x _ c.x start.x over) (out_over n.x _ c.x end.x over)))

-- Of a way that may be there, and of all ways.
module _ (side : ℕ) (n : Triple) (above : 0 < side) (most : side ≤ most_side) where
  pub some_most : (o : Option Way) → IsWithinLimits side n o → (a : Axis) (p : Triple) → HasTwo n → IsAtMost (wrapped n (way_flux side o a) p) (most_flux_of 1)
  unfolding way_flux
  some_most None is a p two = let none = wrapped-zero n p in record { size = omega (arith, ints, none) }
  some_most (Some w) is a p two = current_most side n w above most is a p two

  pub some_beyond : (o : Option Way) → IsWithinLimits side n o → (a : Axis) (c : Spot) → (InZone margin_low (margin_size n) c → ⊥) → way_flux side o a c ≡ pos 0
  unfolding way_flux
  some_beyond None is a c out = refl
  some_beyond (Some w) is a c out = way_beyond side n w above most is a c out

  pub currents_most : {A : Type 0} (way : A → Option Way) (xs : List A) → All (λ x. IsWithinLimits side n (way x)) xs → (a : Axis) (p : Triple) → HasTwo n
      → unsigned_abs (current_of_ways side n way xs a p) ≤ length xs * most_flux_of 1
  unfolding current_of_ways
  currents_most way xs are a p two =
      sum_most (λ x. wrapped n (way_flux side (way x) a) p) xs (most_flux_of 1) (λ k d below. some_most (way _) (are k d below) a p two)

  pub fluxes_beyond : {A : Type 0} (way : A → Option Way) (xs : List A) → All (λ x. IsWithinLimits side n (way x)) xs → (a : Axis) (c : Spot)
      → (InZone margin_low (margin_size n) c → ⊥) → flux_of_ways side way xs a c ≡ pos 0
  unfolding flux_of_ways
  fluxes_beyond way xs are a c out = sum_none (λ x. way_flux side (way x) a c) xs (λ k d below. some_beyond (way _) (are k d below) a c out)

-- their flux wraps to their current
pub wraps : {A : Type 0} (side : ℕ) (n : Triple) (way : A → Option Way) (xs : List A) (a : Axis) (p : Triple)
    → wrapped n (flux_of_ways side way xs a) p ≡ current_of_ways side n way xs a p
unfolding flux_of_ways current_of_ways
wraps side n way xs a p = wrapped-over n (λ x. way_flux side (way x) a) xs p

-- there is room for a path's flux beside that of all particles but one
pub room_for : (b : BlockValues) (f : Axis → Spot → ℤ) → AllAtMost (most_flux_of (most_particles - 1)) b
    → ((a : Axis) (c : Spot) → unsigned_abs (f a c) ≤ most_flux_of 1)
    → SumsBelow b f
room_for b f room small = record {
  at = λ a c inside. let x = (room.at_most a c inside).size in let y = small a c in omega (arith, ints, x, y);
}
