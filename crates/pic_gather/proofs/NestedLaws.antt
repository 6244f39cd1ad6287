-- The sum over all places, with the weights of each axis drawn out.
use Rattle.std.proofs.Common.{◌≡◌, ℕ, ◌+◌, ◌*◌, ◌^◌, [], ◌∷◌, sym, ◌∙◌, ap}
use Rattle.std.proofs.Math.IntN.{ℤ, pos, ◌*ℤ◌}
use Rattle.pic_num.specs.declared.axis.Axis.{Axis}
use Rattle.pic_num.specs.Rounding.{rounded}
use Rattle.pic_num.specs.Space.{Triple}
use Rattle.pic_num.proofs.ProductLaws.{*ℤ_assoc}
use Rattle.pic_num.proofs.Ring.{ring, reads}
use Rattle.pic_grid.specs.Lattice.{Field, value_at}
use Rattle.pic_grid.specs.Gather.{gathered, shifted_weight}
use Rattle.pic_grid.specs.Hat.{periodic_hat}
use Rattle.pic_grid.specs.Sums.{sum_below, sum_cells}
use Rattle.pic_grid.proofs.SumLaws.{sum_same, sum_times}
use Rattle.pic_grid.specs.declared.pair.Pair.{Pair}
use Rattle.pic_gather.specs.Forces.{row_sum, layer_sum, whole_sum}
use Rattle.pic_grid.specs.Pair.{IsPairOf}

drawn_out : (c : ℤ) (a b d : ℕ) → c *ℤ pos (a * b * d) ≡ c *ℤ pos a *ℤ (pos b *ℤ pos d)
drawn_out c a b d = ring (c ∷ pos a ∷ pos b ∷ pos d ∷ []) (search reads depth 40 fits 9000) tt

pub cells_nested : (n : Triple) (force : Triple → ℤ) (f g h : ℕ → ℕ)
    → sum_cells n (λ p. force p *ℤ pos (f p.x * g p.y * h p.z))
    ≡ sum_below n.z (λ z. sum_below n.y (λ y. sum_below n.x (λ x. force (record { x = x; y = y; z = z }) *ℤ pos (f x)) *ℤ pos (g y)) *ℤ pos (h z))
unfolding sum_cells
cells_nested n force f g h =
    let along : ℕ → ℕ → ℤ = λ y z. sum_below n.x (λ x. force (record { x = x; y = y; z = z }) *ℤ pos (f x)) in
    let row : (y z : ℕ) → sum_below n.x (λ x. force (record { x = x; y = y; z = z }) *ℤ pos (f x * g y * h z)) ≡ along y z *ℤ (pos (g y) *ℤ pos (h z)) =
    λ y z. (λ i. sum_below n.x (λ x. drawn_out (force (record { x = x; y = y; z = z })) (f x) (g y) (h z) i))
    ∙ sum_times n.x (λ x. force (record { x = x; y = y; z = z }) *ℤ pos (f x)) (pos (g y) *ℤ pos (h z)) in
    let layer : (z : ℕ) → sum_below n.y (λ y. sum_below n.x (λ x. force (record { x = x; y = y; z = z }) *ℤ pos (f x * g y * h z)))
    ≡ sum_below n.y (λ y. along y z *ℤ pos (g y)) *ℤ pos (h z) =
    λ z. (λ i. sum_below n.y (λ y. (row y z ∙ sym (*ℤ_assoc (along y z) (pos (g y)) (pos (h z)))) i))
    ∙ sum_times n.y (λ y. along y z *ℤ pos (g y)) (pos (h z)) in
    λ i. sum_below n.z (λ z. layer z i)

-- a component is gathered as the sum under the weights of the point's pairs, rounded once
pub gathered_is : (f : Field) (a : Axis) (offset point : Triple) (x y z : Pair)
    → IsPairOf f.side f.cells.x offset.x point.x x → IsPairOf f.side f.cells.y offset.y point.y y → IsPairOf f.side f.cells.z offset.z point.z z
    → gathered f.side f.cells offset (value_at f a) point ≡ rounded (whole_sum f a x y z) (pos (f.side ^ 3))
unfolding gathered shifted_weight row_sum layer_sum whole_sum
gathered_is f a offset point in_x in_y in_z of_x of_y of_z =
    let n = f.cells in
    let hat_x : ℕ → ℕ = λ j. periodic_hat f.side (n.x * f.side) point.x (j * f.side + offset.x) in
    let hat_y : ℕ → ℕ = λ j. periodic_hat f.side (n.y * f.side) point.y (j * f.side + offset.y) in
    let hat_z : ℕ → ℕ = λ j. periodic_hat f.side (n.z * f.side) point.z (j * f.side + offset.z) in
    let row : (y z : ℕ) → sum_below n.x (λ x. value_at f a (record { x = x; y = y; z = z }) *ℤ pos (hat_x x)) ≡ row_sum f a in_x y z =
    λ y z. sum_same n.x _ _ (λ j below. ap (λ (w : ℕ). value_at f a (record { x = j; y = y; z = z }) *ℤ pos w) (of_x.weights j below)) in
    let row_by : ℕ → ℕ → ℤ = λ y z. sum_below n.x (λ x. value_at f a (record { x = x; y = y; z = z }) *ℤ pos (hat_x x)) in
    let layer : (z : ℕ) → sum_below n.y (λ y. row_by y z *ℤ pos (hat_y y)) ≡ layer_sum f a in_x in_y z =
    λ z. sum_same n.y _ _ (λ j below. λ i. row j z i *ℤ pos (of_y.weights j below i)) in
    let all : sum_below n.z (λ z. sum_below n.y (λ y. row_by y z *ℤ pos (hat_y y)) *ℤ pos (hat_z z)) ≡ whole_sum f a in_x in_y in_z =
    sum_same n.z _ _ (λ j below. λ i. layer j i *ℤ pos (of_z.weights j below i)) in
    ap (λ (s : ℤ). rounded s (pos (f.side ^ 3))) (cells_nested n (value_at f a) hat_x hat_y hat_z ∙ all)
