-- The weights of a point over all places of a grid add up to the cube of a cell's side, on the grid
-- of the nodes and on each shifted one; so a constant is gathered as it is.
use Rattle.std.proofs.Common.{◌≡◌, ℕ, ◌+◌, ◌-◌, ◌*◌, ◌^◌, ◌<◌, ◌≤◌, ◌⊎◌, ◌∙◌, [], ◌∷◌, ap, sym, inl, inr, arith}
use Rattle.std.proofs.Math.IntN.{ℤ, pos, ◌*ℤ◌}
use Rattle.std.proofs.Math.Nat.{one-le-pow}
use Rattle.std.proofs.lemmas.Bool.{cases_lt}
use Rattle.std.proofs.lemmas.Int.{ints}
use Rattle.pic_num.proofs.ProductLaws.{one-*ℤ}
use Rattle.pic_num.proofs.Ring.{ring, reads}
use Rattle.pic_num.proofs.RoundingLaws.{rounded-whole}
use Rattle.pic_num.specs.Rounding.{rounded}
use Rattle.pic_num.specs.Space.{Triple}
use Rattle.pic_grid.specs.Gather.{shifted_weight, weighted, gathered, IsOffset}
use Rattle.pic_grid.specs.Hat.{periodic_hat, weight, HasTwo, IsInBox}
use Rattle.pic_grid.specs.Sums.{sum_below, sum_cells}
use Rattle.pic_grid.proofs.HatLaws.{times_one, hats_add_up}
use Rattle.pic_grid.proofs.SumLaws.{sum_same, sum_times, cube_is}

first_out : (c : ℤ) (a b d : ℕ) → c *ℤ pos (a * b * d) ≡ pos a *ℤ (c *ℤ (pos b *ℤ pos d))
first_out c a b d = ring (c ∷ pos a ∷ pos b ∷ pos d ∷ []) (search reads depth 40 fits 9000) tt

second_out : (f c : ℤ) (b d : ℕ) → f *ℤ (c *ℤ (pos b *ℤ pos d)) ≡ pos b *ℤ (f *ℤ (c *ℤ pos d))
second_out f c b d = ring (f ∷ c ∷ pos b ∷ pos d ∷ []) (search reads depth 40 fits 9000) tt

third_out : (f g c : ℤ) (d : ℕ) → g *ℤ (f *ℤ (c *ℤ pos d)) ≡ pos d *ℤ (g *ℤ (f *ℤ c))
third_out f g c d = ring (f ∷ g ∷ c ∷ pos d ∷ []) (search reads depth 40 fits 9000) tt

-- the sum of products of numbers by axis is the product of their sums
pub cells_product : (n : Triple) (c : ℤ) (f g h : ℕ → ℕ)
    → sum_cells n (λ p. c *ℤ pos (f p.x * g p.y * h p.z))
    ≡ sum_below n.z (λ z. pos (h z)) *ℤ (sum_below n.y (λ y. pos (g y)) *ℤ (sum_below n.x (λ x. pos (f x)) *ℤ c))
unfolding sum_cells
cells_product n c f g h =
    let along_x = sum_below n.x (λ x. pos (f x)) in
    let along_y = sum_below n.y (λ y. pos (g y)) in
    let row : (y z : ℕ) → sum_below n.x (λ x. c *ℤ pos (f x * g y * h z)) ≡ along_x *ℤ (c *ℤ (pos (g y) *ℤ pos (h z))) =
    λ y z. (λ i. sum_below n.x (λ x. first_out c (f x) (g y) (h z) i))
    ∙ sum_times n.x (λ x. pos (f x)) (c *ℤ (pos (g y) *ℤ pos (h z))) in
    let layer : (z : ℕ) → sum_below n.y (λ y. sum_below n.x (λ x. c *ℤ pos (f x * g y * h z))) ≡ along_y *ℤ (along_x *ℤ (c *ℤ pos (h z))) =
    λ z. (λ i. sum_below n.y (λ y. (row y z ∙ second_out along_x c (g y) (h z)) i))
    ∙ sum_times n.y (λ y. pos (g y)) (along_x *ℤ (c *ℤ pos (h z))) in
    (λ i. sum_below n.z (λ z. (layer z ∙ third_out along_x along_y c (h z)) i))
    ∙ sum_times n.z (λ z. pos (h z)) (along_y *ℤ (along_x *ℤ c))

-- a shifted place is as far from a point as the node is from the point shifted back
pub periodic_hat-shifted : (s c p g o : ℕ) → o ≤ p → p < c → g + o < c → periodic_hat s c p (g + o) ≡ periodic_hat s c (p - o) g
unfolding periodic_hat
periodic_hat-shifted s c p g o low inside there = omega (arith, low, inside, there)

-- or shifted back round the axis
pub periodic_hat-wrapped : (s c p g o : ℕ) → p < o → p < c → g + o < c → periodic_hat s c p (g + o) ≡ periodic_hat s c (p + c - o) g
unfolding periodic_hat
periodic_hat-wrapped s c p g o high inside there = omega (arith, high, inside, there)

-- the weights of a point for all shifted places of an axis add up to the side of a cell
pub shifted_add_up : (s n o p : ℕ) → 0 < s → 2 ≤ n → o < s → p < n * s
    → sum_below n (λ i. pos (periodic_hat s (n * s) p (i * s + o))) ≡ pos s
shifted_add_up s n o p some two small inside = go (cases_lt p o)
  where
    there : (i : ℕ) → i < n → i * s + o < n * s
    there i below = let h = times_one s i n (omega (arith, below)) in omega (arith, h, small)

    go : (p < o) ⊎ (o ≤ p) → sum_below n (λ i. pos (periodic_hat s (n * s) p (i * s + o))) ≡ pos s
    go (inl high) =
        sum_same n (λ i. pos (periodic_hat s (n * s) p (i * s + o))) (λ i. pos (periodic_hat s (n * s) (p + n * s - o) (i * s)))
        (λ i below. ap pos (periodic_hat-wrapped s (n * s) p (i * s) o high inside (there i below)))
        ∙ hats_add_up s n (p + n * s - o) some two (omega (arith, high, inside))
    go (inr low) =
        sum_same n (λ i. pos (periodic_hat s (n * s) p (i * s + o))) (λ i. pos (periodic_hat s (n * s) (p - o) (i * s)))
        (λ i below. ap pos (periodic_hat-shifted s (n * s) p (i * s) o low inside (there i below)))
        ∙ hats_add_up s n (p - o) some two (omega (arith, low, inside))

cubed : (s : ℕ) (c : ℤ) → pos s *ℤ (pos s *ℤ (pos s *ℤ c)) ≡ c *ℤ pos (s * s * s)
cubed s c = ring (pos s ∷ c ∷ []) (search reads depth 40 fits 9000) tt

-- a constant times the shifted weights of a point adds up to the constant times the cube of the side
pub shifted_weights_add_up : (side : ℕ) (n offset point : Triple) (c : ℤ)
    → 0 < side → HasTwo n → IsOffset side offset → IsInBox side n point
    → sum_cells n (λ p. weighted side n offset (λ q. c) point p) ≡ c *ℤ pos (side ^ 3)
unfolding shifted_weight
shifted_weights_add_up side n offset point c some two small inside =
    cells_product n c
    (λ x. periodic_hat side (n.x * side) point.x (x * side + offset.x))
    (λ y. periodic_hat side (n.y * side) point.y (y * side + offset.y))
    (λ z. periodic_hat side (n.z * side) point.z (z * side + offset.z))
    ∙ (λ i. shifted_add_up side n.z offset.z point.z some two.z small.z inside.z i
    *ℤ (shifted_add_up side n.y offset.y point.y some two.y small.y inside.y i
    *ℤ (shifted_add_up side n.x offset.x point.x some two.x small.x inside.x i *ℤ c)))
    ∙ cubed side c
    ∙ ap (λ (t : ℕ). c *ℤ pos t) (cube_is side)

pub weights_add_up : (side : ℕ) (n point : Triple)
    → 0 < side → HasTwo n → IsInBox side n point
    → sum_cells n (λ p. pos (weight side n point p)) ≡ pos (side ^ 3)
unfolding weight
weights_add_up side n point some two inside =
    (λ i. sum_cells n (λ p. one p i))
    ∙ cells_product n (pos 1)
    (λ x. periodic_hat side (n.x * side) point.x (x * side))
    (λ y. periodic_hat side (n.y * side) point.y (y * side))
    (λ z. periodic_hat side (n.z * side) point.z (z * side))
    ∙ (λ i. hats_add_up side n.z point.z some two.z inside.z i
    *ℤ (hats_add_up side n.y point.y some two.y inside.y i
    *ℤ (hats_add_up side n.x point.x some two.x inside.x i *ℤ pos 1)))
    ∙ cubed side (pos 1)
    ∙ ap (λ (t : ℕ). pos 1 *ℤ pos t) (cube_is side)
    ∙ one-*ℤ (pos (side ^ 3))
  where
    one : (p : Triple) → pos (weight side n point p) ≡ pos 1 *ℤ pos (weight side n point p)
    one p = sym (one-*ℤ (pos (weight side n point p)))

pub constant_is_gathered : (side : ℕ) (n offset point : Triple) (value : ℤ)
    → 0 < side → HasTwo n → IsOffset side offset → IsInBox side n point
    → gathered side n offset (λ p. value) point ≡ value
unfolding gathered
constant_is_gathered side n offset point value some two small inside =
    let above : 1 ≤ side ^ 3 = one-le-pow 3 side some in
    ap (λ (t : ℤ). rounded t (pos (side ^ 3))) (shifted_weights_add_up side n offset point value some two small inside)
    ∙ rounded-whole value (pos (side ^ 3)) (omega (arith, ints, above))
