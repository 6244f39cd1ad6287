-- Laws of either filter, of none and of the binomial one.
use Rattle.std.proofs.Common.{◌≡◌, ℕ, ◌==◌, Bool, true, false, cond, refl}
use Rattle.std.proofs.Math.IntN.{ℤ, ◌-ℤ◌}
use Rattle.pic_num.specs.declared.axis.Axis.{Axis}
use Rattle.pic_num.specs.Space.{Triple}
use Rattle.pic_grid.specs.Differences.{div_e}
use Rattle.pic_filter.specs.Smoothing.{smoothed, filtered}
use Rattle.pic_filter.proofs.AlongLaws.{smoothed_minus}
use Rattle.pic_filter.proofs.DivergenceLaws.{div_e-smoothed}
use Rattle.pic_filter.proofs.SameLaws.{AreSame, smoothed_same}

pub filtered_same : (filter : ℕ) (n : Triple) (f g : Triple → ℤ) → AreSame n f g → AreSame n (filtered filter n f) (filtered filter n g)
unfolding filtered
filtered_same filter n f g same = go (filter == 0)
  where
    go : (t : Bool) → AreSame n (cond t f (smoothed n f)) (cond t g (smoothed n g))
    go true = same
    go false = smoothed_same n f g same

pub filtered_minus : (filter : ℕ) (n : Triple) (f g : Triple → ℤ) (p : Triple)
    → filtered filter n (λ q. f q -ℤ g q) p ≡ filtered filter n f p -ℤ filtered filter n g p
unfolding filtered
filtered_minus filter n f g p = go (filter == 0)
  where
    go : (t : Bool) → cond t (λ q. f q -ℤ g q) (smoothed n (λ q. f q -ℤ g q)) p ≡ cond t f (smoothed n f) p -ℤ cond t g (smoothed n g) p
    go true = refl
    go false = smoothed_minus n f g p

-- the divergence of a filtered lattice is the filtered divergence
pub div_e-filtered : (filter : ℕ) (n : Triple) (j : Axis → Triple → ℤ) (p : Triple)
    → div_e n (λ a. filtered filter n (j a)) p ≡ filtered filter n (div_e n j) p
unfolding filtered
div_e-filtered filter n j p = go (filter == 0)
  where
    go : (t : Bool) → div_e n (λ a. cond t (j a) (smoothed n (j a))) p ≡ cond t (div_e n j) (smoothed n (div_e n j)) p
    go true = refl
    go false = div_e-smoothed n j p
