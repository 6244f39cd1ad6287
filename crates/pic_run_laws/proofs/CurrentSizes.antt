-- How large the current of a push can be at an edge of the grid.
use Rattle.std.proofs.Common.{ℕ, ℤ, pos, ◌*◌, ◌^◌, ◌<◌, ◌≤◌, ◌+ℤ◌, ◌-ℤ◌, List, length, All, unsigned_abs, ◌==◌, Bool, true, false, cond, sym, subst, arith}
use Rattle.std.proofs.lemmas.Int.{ints}
use Rattle.pic_num.specs.declared.axis.Axis.{Axis}
use Rattle.pic_num.specs.declared.motion.Particle.{Particle}
use Rattle.pic_num.specs.Limits.{most_side, most_particles, most_flux_of}
use Rattle.pic_num.specs.Sizes.{IsAtMost}
use Rattle.pic_num.specs.Space.{Triple, Spot}
use Rattle.pic_block.specs.Cells.{IsWithin}
use Rattle.pic_grid.specs.Current.{sum_images, wrapped, current}
use Rattle.pic_grid.specs.PushPhase.{Surroundings}
use Rattle.pic_grid.specs.Species.{IsKind}
use Rattle.pic_grid.specs.Traces.{traces}
use Rattle.pic_filter.specs.Smoothing.{smoothed, filtered}
use Rattle.pic_filter.proofs.SizeLaws.{smoothed_small}
use Rattle.pic_push.proofs.TraceSizeLaws.{flux_size}
use Rattle.pic_step.proofs.BeyondLaws.{current_is}

images_size : (n : ℕ) (f : ℤ → ℤ) (i m : ℕ) → ((c : ℤ) → unsigned_abs (f c) ≤ m) → unsigned_abs (sum_images n f i) ≤ 3 * m
unfolding sum_images
images_size n f i m small =
    let down = small (pos i -ℤ pos n) in
    let here = small (pos i) in
    let up = small (pos i +ℤ pos n) in
    omega (arith, ints, down, here, up)

wrapped_size : (n : Triple) (f : Spot → ℤ) (p : Triple) (m : ℕ) → ((c : Spot) → unsigned_abs (f c) ≤ m) → unsigned_abs (wrapped n f p) ≤ 3 * (3 * (3 * m))
unfolding wrapped
wrapped_size n f p m small =
    images_size n.z (λ z. sum_images n.y (λ y. sum_images n.x (λ x. f (record { x = x; y = y; z = z })) p.x) p.y) p.z (3 * (3 * m)) (λ z.
    images_size n.y (λ y. sum_images n.x (λ x. f (record { x = x; y = y; z = z })) p.x) p.y (3 * m) (λ y.
    images_size n.x (λ x. f (record { x = x; y = y; z = z })) p.x m (λ x. small (record { x = x; y = y; z = z }))))

pub current_size : (w : Surroundings) (particles : List Particle) (a : Axis) (p : Triple) → 0 < w.side → w.side ≤ most_side → All IsKind w.kinds
    → length particles ≤ most_particles → IsAtMost (current w particles a p) (2 ^ 90)
current_size w particles a p some side kinds few =
    let flux = flux_size w particles most_particles some side kinds few in
    let whole = wrapped_size w.cells (traces w particles a) p (most_flux_of most_particles) (λ c. (flux.at_most a c).size) in
    subst (λ (j : ℤ). IsAtMost j (2 ^ 90)) (sym (current_is w particles a p)) (record { size = omega (arith, whole) })

-- a filtered current is at most 64 times as large
pub filtered_size : (filter : ℕ) (n : Triple) (j : Triple → ℤ) (p : Triple) → ((q : Triple) → IsAtMost (j q) (2 ^ 90)) → IsWithin p n
    → IsAtMost (filtered filter n j p) (2 ^ 96)
unfolding filtered
filtered_size filter n j p small within = go (filter == 0)
  where
    go : (plain : Bool) → IsAtMost (cond plain j (smoothed n j) p) (2 ^ 96)
    go true = let h = small p in record { size = omega (arith, h.size) }
    go false = smoothed_small n j (2 ^ 90) (λ q w. small q) p within
