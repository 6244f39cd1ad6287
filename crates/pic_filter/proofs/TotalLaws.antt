-- The sum of filtered numbers over the whole grid.
use Rattle.std.proofs.Common.{◌≡◌, ℕ, zero, suc, ◌+◌, ◌-◌, ◌%◌, refl, sym, ◌∙◌, ap, arith}
use Rattle.std.proofs.Math.IntN.{ℤ, pos, ◌+ℤ◌, ◌*ℤ◌}
use Rattle.std.proofs.Math.Nat.{mod-eq_of_lt, mod-add-mod, add-mod_right}
use Rattle.std.proofs.lemmas.Int.{ints}
use Rattle.pic_num.specs.declared.axis.Axis.{Axis}
use Rattle.pic_num.specs.declared.axis.Axis.TheVariants.{X, Y, Z}
use Rattle.pic_num.specs.Space.{Triple}
use Rattle.pic_grid.specs.Sums.{sum_below, sum_cells}
use Rattle.pic_grid.proofs.SumLaws.{sum_same}
use Rattle.pic_filter.specs.Smoothing.{weighted, smoothed_along, smoothed}

-- the sum with the first number apart
first_apart : (n : ℕ) (f : ℕ → ℤ) → sum_below (suc n) f ≡ f 0 +ℤ sum_below n (λ i. f (i + 1))
unfolding sum_below
first_apart zero f = omega (arith, ints)
first_apart (suc n) f =
    let h = first_apart n f in
    let last : f (suc n) ≡ f (n + 1) = (let e : suc n ≡ n + 1 = omega arith in ap f e) in
    omega (arith, ints, h, last)

-- round the grid all numbers are summed, from whichever on
sum_up : (n : ℕ) (f : ℕ → ℤ) → sum_below n (λ i. f ((i + 1) % n)) ≡ sum_below n f
unfolding sum_below
sum_up zero f = refl
sum_up (suc n) f =
    let before = sum_same n (λ i. f ((i + 1) % suc n)) (λ i. f (i + 1)) (λ i below. ap f (mod-eq_of_lt (omega (arith, below)))) in
    let whole : n + 1 ≡ 0 + suc n = omega arith in
    let zero_is : 0 % suc n ≡ 0 = mod-eq_of_lt (omega arith) in
    let last : f ((n + 1) % suc n) ≡ f 0 = ap f (ap (λ (m : ℕ). m % suc n) whole ∙ add-mod_right 0 (suc n) ∙ zero_is) in
    let apart = first_apart n f in
    omega (arith, ints, before, last, apart)

sum_down : (n : ℕ) (f : ℕ → ℤ) → sum_below n (λ i. f ((i + (n - 1)) % n)) ≡ sum_below n f
sum_down n f =
    sym (sum_up n (λ i. f ((i + (n - 1)) % n)))
    ∙ sum_same n (λ i. f (((i + 1) % n + (n - 1)) % n)) f (λ i below.
    let whole : i + 1 + (n - 1) ≡ i + n = omega (arith, below) in
    ap f (mod-add-mod (i + 1) n (n - 1) ∙ ap (λ (m : ℕ). m % n) whole ∙ add-mod_right i n ∙ mod-eq_of_lt below))

-- a sum of three by their weights
sum_weighted : (n : ℕ) (f g h : ℕ → ℤ) → sum_below n (λ i. weighted (f i) (g i) (h i)) ≡ weighted (sum_below n f) (sum_below n g) (sum_below n h)
unfolding sum_below
sum_weighted zero f g h = refl
sum_weighted (suc n) f g h = let k = sum_weighted n f g h in omega (arith, ints, k)

-- round the grid: four times the sum
sum_round : (n : ℕ) (f : ℕ → ℤ) → sum_below n (λ i. weighted (f ((i + (n - 1)) % n)) (f i) (f ((i + 1) % n))) ≡ pos 4 *ℤ sum_below n f
sum_round n f =
    let all = sum_weighted n (λ i. f ((i + (n - 1)) % n)) f (λ i. f ((i + 1) % n)) in
    let below = sum_down n f in
    let above = sum_up n f in
    omega (arith, ints, all, below, above)

-- four times each number
sum_four : (n : ℕ) (f : ℕ → ℤ) → sum_below n (λ i. pos 4 *ℤ f i) ≡ pos 4 *ℤ sum_below n f
unfolding sum_below
sum_four zero f = refl
sum_four (suc n) f = let h = sum_four n f in omega (arith, ints, h)

-- along one axis the filter makes four times as much of everything
total_along : (a : Axis) (n : Triple) (g : Triple → ℤ) → sum_cells n (smoothed_along a n g) ≡ pos 4 *ℤ sum_cells n g
unfolding sum_cells smoothed_along
total_along X n g =
    (λ i. sum_below n.z (λ z. sum_below n.y (λ y. sum_round n.x (λ x. g (record { x = x; y = y; z = z })) i)))
    ∙ (λ i. sum_below n.z (λ z. sum_four n.y (λ y. sum_below n.x (λ x. g (record { x = x; y = y; z = z }))) i))
    ∙ sum_four n.z (λ z. sum_below n.y (λ y. sum_below n.x (λ x. g (record { x = x; y = y; z = z }))))
total_along Y n g =
    let line : ℕ → ℕ → ℤ = λ z y. sum_below n.x (λ x. g (record { x = x; y = y; z = z })) in
    (λ i. sum_below n.z (λ z. sum_below n.y (λ y. sum_weighted n.x
    (λ x. g (record { x = x; y = (y + (n.y - 1)) % n.y; z = z })) (λ x. g (record { x = x; y = y; z = z }))
    (λ x. g (record { x = x; y = (y + 1) % n.y; z = z })) i)))
    ∙ (λ i. sum_below n.z (λ z. sum_round n.y (line z) i))
    ∙ sum_four n.z (λ z. sum_below n.y (line z))
total_along Z n g =
    let line : ℕ → ℕ → ℤ = λ z y. sum_below n.x (λ x. g (record { x = x; y = y; z = z })) in
    (λ i. sum_below n.z (λ z. sum_below n.y (λ y. sum_weighted n.x
    (λ x. g (record { x = x; y = y; z = (z + (n.z - 1)) % n.z })) (λ x. g (record { x = x; y = y; z = z }))
    (λ x. g (record { x = x; y = y; z = (z + 1) % n.z })) i)))
    ∙ (λ i. sum_below n.z (λ z. sum_weighted n.y (line ((z + (n.z - 1)) % n.z)) (line z) (line ((z + 1) % n.z)) i))
    ∙ sum_round n.z (λ z. sum_below n.y (line z))

-- and along all three 64 times
pub sum_cells-smoothed : (n : Triple) (g : Triple → ℤ) → sum_cells n (smoothed n g) ≡ pos 64 *ℤ sum_cells n g
unfolding smoothed
sum_cells-smoothed n g =
    let third = total_along Z n (smoothed_along Y n (smoothed_along X n g)) in
    let second = total_along Y n (smoothed_along X n g) in
    let first = total_along X n g in
    omega (arith, ints, third, second, first)
