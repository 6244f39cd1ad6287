-- The filter along one axis after another: the axes can change places, sums and differences are filtered
-- number by number, and the neighbour of a filtered number is the neighbour filtered.
use Rattle.std.proofs.Common.{◌≡◌, ℕ, ◌+◌, ◌-◌, ◌%◌, refl, sym, ◌∙◌, ap, arith}
use Rattle.std.proofs.Math.IntN.{ℤ, pos, ◌+ℤ◌, ◌-ℤ◌, ◌*ℤ◌}
use Rattle.std.proofs.Math.Nat.{mod-add-mod}
use Rattle.std.proofs.lemmas.Int.{ints}
use Rattle.pic_num.specs.declared.axis.Axis.{Axis}
use Rattle.pic_num.specs.declared.axis.Axis.TheVariants.{X, Y, Z}
use Rattle.pic_num.specs.Space.{Triple}
use Rattle.pic_grid.specs.Differences.{up, down}
use Rattle.pic_filter.specs.Smoothing.{smoothed_along, smoothed}

-- two axes change places
x_after_y : (n : Triple) (g : Triple → ℤ) (p : Triple) → smoothed_along X n (smoothed_along Y n g) p ≡ smoothed_along Y n (smoothed_along X n g) p
unfolding smoothed_along
x_after_y n g p = omega (arith, ints)

x_after_z : (n : Triple) (g : Triple → ℤ) (p : Triple) → smoothed_along X n (smoothed_along Z n g) p ≡ smoothed_along Z n (smoothed_along X n g) p
unfolding smoothed_along
x_after_z n g p = omega (arith, ints)

y_after_z : (n : Triple) (g : Triple → ℤ) (p : Triple) → smoothed_along Y n (smoothed_along Z n g) p ≡ smoothed_along Z n (smoothed_along Y n g) p
unfolding smoothed_along
y_after_z n g p = omega (arith, ints)

-- so the last one can be the first
pub turned_round : (n : Triple) (g : Triple → ℤ) (p : Triple)
    → smoothed_along X n (smoothed_along Y n (smoothed_along Z n g)) p ≡ smoothed n g p
unfolding smoothed
turned_round n g p =
    x_after_y n (smoothed_along Z n g) p
    ∙ (λ i. smoothed_along Y n (λ q. x_after_z n g q i) p)
    ∙ y_after_z n (smoothed_along X n g) p

-- sums and differences along an axis,
along_plus : (a : Axis) (n : Triple) (f g : Triple → ℤ) (p : Triple)
    → smoothed_along a n (λ q. f q +ℤ g q) p ≡ smoothed_along a n f p +ℤ smoothed_along a n g p
unfolding smoothed_along
along_plus a n f g p = omega (arith, ints)

along_minus : (a : Axis) (n : Triple) (f g : Triple → ℤ) (p : Triple)
    → smoothed_along a n (λ q. f q -ℤ g q) p ≡ smoothed_along a n f p -ℤ smoothed_along a n g p
unfolding smoothed_along
along_minus a n f g p = omega (arith, ints)

-- and along all three
pub smoothed_plus : (n : Triple) (f g : Triple → ℤ) (p : Triple) → smoothed n (λ q. f q +ℤ g q) p ≡ smoothed n f p +ℤ smoothed n g p
unfolding smoothed
smoothed_plus n f g p =
    (λ i. smoothed_along Z n (smoothed_along Y n (λ q. along_plus X n f g q i)) p)
    ∙ (λ i. smoothed_along Z n (λ q. along_plus Y n (smoothed_along X n f) (smoothed_along X n g) q i) p)
    ∙ along_plus Z n (smoothed_along Y n (smoothed_along X n f)) (smoothed_along Y n (smoothed_along X n g)) p

pub smoothed_minus : (n : Triple) (f g : Triple → ℤ) (p : Triple) → smoothed n (λ q. f q -ℤ g q) p ≡ smoothed n f p -ℤ smoothed n g p
unfolding smoothed
smoothed_minus n f g p =
    (λ i. smoothed_along Z n (smoothed_along Y n (λ q. along_minus X n f g q i)) p)
    ∙ (λ i. smoothed_along Z n (λ q. along_minus Y n (smoothed_along X n f) (smoothed_along X n g) q i) p)
    ∙ along_minus Z n (smoothed_along Y n (smoothed_along X n f)) (smoothed_along Y n (smoothed_along X n g)) p

-- one layer up and one down, round the grid, is none
turned : (x n : ℕ) → ((x + (n - 1)) % n + 1) % n ≡ ((x + 1) % n + (n - 1)) % n
turned x n =
    let same : x + (n - 1) + 1 ≡ x + 1 + (n - 1) = omega arith in
    mod-add-mod (x + (n - 1)) n 1 ∙ ap (λ (m : ℕ). m % n) same ∙ sym (mod-add-mod (x + 1) n (n - 1))

up_down : (n : Triple) (a : Axis) (p : Triple) → up n a (down n a p) ≡ down n a (up n a p)
up_down n X p = λ i. record { x = turned p.x n.x i; y = p.y; z = p.z }
up_down n Y p = λ i. record { x = p.x; y = turned p.y n.y i; z = p.z }
up_down n Z p = λ i. record { x = p.x; y = p.y; z = turned p.z n.z i }

-- the neighbour along an axis,
along_down : (b a : Axis) (n : Triple) (g : Triple → ℤ) (p : Triple)
    → smoothed_along b n g (down n a p) ≡ smoothed_along b n (λ q. g (down n a q)) p
unfolding smoothed_along
along_down X X n g p = λ i. g (down n X (down n X p)) +ℤ pos 2 *ℤ g (down n X p) +ℤ g (up_down n X p i)
along_down X Y n g p = refl
along_down X Z n g p = refl
along_down Y X n g p = refl
along_down Y Y n g p = λ i. g (down n Y (down n Y p)) +ℤ pos 2 *ℤ g (down n Y p) +ℤ g (up_down n Y p i)
along_down Y Z n g p = refl
along_down Z X n g p = refl
along_down Z Y n g p = refl
along_down Z Z n g p = λ i. g (down n Z (down n Z p)) +ℤ pos 2 *ℤ g (down n Z p) +ℤ g (up_down n Z p i)

-- and along all three
pub smoothed_down : (a : Axis) (n : Triple) (g : Triple → ℤ) (p : Triple) → smoothed n g (down n a p) ≡ smoothed n (λ q. g (down n a q)) p
unfolding smoothed
smoothed_down a n g p =
    along_down Z a n (smoothed_along Y n (smoothed_along X n g)) p
    ∙ (λ i. smoothed_along Z n (λ q. along_down Y a n (smoothed_along X n g) q i) p)
    ∙ (λ i. smoothed_along Z n (smoothed_along Y n (λ q. along_down X a n g q i)) p)
