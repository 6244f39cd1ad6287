-- The divergence of a filtered lattice.
use Rattle.std.proofs.Common.{◌≡◌, sym, ◌∙◌, arith}
use Rattle.std.proofs.Math.IntN.{ℤ, ◌+ℤ◌, ◌-ℤ◌}
use Rattle.std.proofs.lemmas.Int.{ints}
use Rattle.pic_num.specs.declared.axis.Axis.{Axis}
use Rattle.pic_num.specs.declared.axis.Axis.TheVariants.{X, Y, Z}
use Rattle.pic_num.specs.Space.{Triple}
use Rattle.pic_grid.specs.Differences.{down, div_e}
use Rattle.pic_filter.specs.Smoothing.{smoothed, smoothed_each}
use Rattle.pic_filter.proofs.AlongLaws.{smoothed_plus, smoothed_minus, smoothed_down}

module _ (n : Triple) (g : Axis → Triple → ℤ) (p : Triple)
  where
    -- what leaves a node on an axis less what comes in there, filtered
    leaves : (a : Axis) → smoothed n (g a) p -ℤ smoothed n (g a) (down n a p) ≡ smoothed n (λ q. g a q -ℤ g a (down n a q)) p
    leaves a =
        (λ i. smoothed n (g a) p -ℤ smoothed_down a n (g a) p i)
        ∙ sym (smoothed_minus n (g a) (λ q. g a (down n a q)) p)

    pub div_e-smoothed : div_e n (smoothed_each n g) p ≡ smoothed n (div_e n g) p
    div_e-smoothed =
        let x = leaves X in
        let y = smoothed_down Y n (g Y) p in
        let z = smoothed_down Z n (g Z) p in
        let one = smoothed_plus n (λ q. g X q -ℤ g X (down n X q)) (g Y) p in
        let two = smoothed_minus n (λ q. g X q -ℤ g X (down n X q) +ℤ g Y q) (λ q. g Y (down n Y q)) p in
        let three = smoothed_plus n (λ q. g X q -ℤ g X (down n X q) +ℤ g Y q -ℤ g Y (down n Y q)) (g Z) p in
        let four = smoothed_minus n (λ q. g X q -ℤ g X (down n X q) +ℤ g Y q -ℤ g Y (down n Y q) +ℤ g Z q) (λ q. g Z (down n Z q)) p in
        omega (arith, ints, x, y, z, one, two, three, four)
