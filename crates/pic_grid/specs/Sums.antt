-- Sums: over a list, over the numbers below one, over all cells of a grid.
use Rattle.std.specs.Prelude.{ℤ, pos, ℕ, zero, suc, ◌+ℤ◌, List, [], ◌∷◌}
use Rattle.pic_num.specs.Space.{Triple}

-- the sum of f over a list
unfoldable pub sum_over : {A : Type 0} → (A → ℤ) → List A → ℤ
sum_over f [] = pos 0
sum_over f (x ∷ xs) = f x +ℤ sum_over f xs

-- the sum of f over the numbers below n
unfoldable pub sum_below : ℕ → (ℕ → ℤ) → ℤ
sum_below zero f = pos 0
sum_below (suc n) f = sum_below n f +ℤ f n

-- the sum of f over all cells of a grid
unfoldable pub sum_cells : Triple → (Triple → ℤ) → ℤ
sum_cells n f =
    sum_below n.z (λ z. sum_below n.y (λ y. sum_below n.x (λ x. f (record { x = x; y = y; z = z }))))
