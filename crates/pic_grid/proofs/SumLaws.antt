-- Laws of sums over the numbers below one.
use Rattle.std.proofs.Common.{◌≡◌, ℕ, zero, suc, ◌+◌, ◌*◌, ◌^◌, ◌<◌, ap, sym, refl, ◌∙◌, arith}
use Rattle.std.proofs.Math.IntN.{ℤ, ◌+ℤ◌, ◌*ℤ◌}
use Rattle.std.proofs.Math.Nat.{pow-suc, pow-zero}
use Rattle.std.proofs.lemmas.Int.{ints}
use Rattle.pic_num.proofs.ProductLaws.{+ℤ-*ℤ, zero-*ℤ}
use Rattle.pic_grid.specs.Sums.{sum_below}

-- sums of equal numbers are equal
pub sum_same : (n : ℕ) (f g : ℕ → ℤ) → ((j : ℕ) → j < n → f j ≡ g j) → sum_below n f ≡ sum_below n g
unfolding sum_below
sum_same zero f g same = refl
sum_same (suc n) f g same = λ i. sum_same n f g (λ j below. same j (omega (arith, below))) i +ℤ same n (omega arith) i

-- the sum of sums is the sum of both
pub sum_plus : (n : ℕ) (f g : ℕ → ℤ) → sum_below n (λ j. f j +ℤ g j) ≡ sum_below n f +ℤ sum_below n g
unfolding sum_below
sum_plus zero f g = refl
sum_plus (suc n) f g = let h = sum_plus n f g in omega (arith, ints, h)

-- a common factor of a sum
pub sum_times : (n : ℕ) (f : ℕ → ℤ) (k : ℤ) → sum_below n (λ j. f j *ℤ k) ≡ sum_below n f *ℤ k
unfolding sum_below
sum_times zero f k = sym (zero-*ℤ k)
sum_times (suc n) f k = ap (λ (t : ℤ). t +ℤ f n *ℤ k) (sum_times n f k) ∙ sym (+ℤ-*ℤ (sum_below n f) (f n) k)

-- the sum with one number more
pub sum_below_more : (f : ℕ → ℤ) (n : ℕ) → sum_below (n + 1) f ≡ sum_below n f +ℤ f n
unfolding sum_below
sum_below_more f n = ap (λ m. sum_below m f) (let e : n + 1 ≡ suc n = omega arith in e)

-- a cube by its factors
pub cube_is : (s : ℕ) → s * s * s ≡ s ^ 3
cube_is s =
    let none : s ^ 0 ≡ 1 = pow-zero s in
    let first : s ≡ s ^ 1 = sym (pow-suc s 0 ∙ ap (λ t. t * s) none ∙ omega arith) in
    ap (λ t. t * s) (ap (λ t. t * s) first ∙ sym (pow-suc s 1)) ∙ sym (pow-suc s 2)
