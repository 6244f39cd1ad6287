-- Forces that agree at every cell of the grid are gathered alike.
use Rattle.std.proofs.Common.{◌≡◌, ℕ, ◌^◌, ap}
use Rattle.std.proofs.Math.IntN.{ℤ, pos, ◌*ℤ◌}
use Rattle.pic_num.specs.declared.axis.Axis.{Axis}
use Rattle.pic_num.specs.declared.axis.Axis.TheVariants.{X, Y, Z}
use Rattle.pic_num.specs.Rounding.{rounded}
use Rattle.pic_num.specs.Space.{Triple}
use Rattle.pic_block.specs.Cells.{IsWithin}
use Rattle.pic_grid.specs.Gather.{gathered, weighted, shifted_weight, gathered_e, gathered_b, offset_e, offset_b}
use Rattle.pic_grid.specs.Sums.{sum_cells}
use Rattle.pic_grid.proofs.SumLaws.{sum_same}

-- sums over cells of functions that agree there are equal
pub sum_cells_same : (n : Triple) (f g : Triple → ℤ) → ((p : Triple) → IsWithin p n → f p ≡ g p) → sum_cells n f ≡ sum_cells n g
unfolding sum_cells
sum_cells_same n f g same =
    sum_same n.z _ _ (λ z in_z. sum_same n.y _ _ (λ y in_y. sum_same n.x _ _ (λ x in_x.
    same (record { x = x; y = y; z = z }) (record { x = in_x; y = in_y; z = in_z }))))

pub gathered_same : (side : ℕ) (n offset : Triple) (f g : Triple → ℤ) (point : Triple)
    → ((p : Triple) → IsWithin p n → f p ≡ g p)
    → gathered side n offset f point ≡ gathered side n offset g point
unfolding gathered
gathered_same side n offset f g point same =
    ap (λ (s : ℤ). rounded s (pos (side ^ 3)))
    (sum_cells_same n (weighted side n offset f point) (weighted side n offset g point)
    (λ p inside. ap (λ (v : ℤ). v *ℤ pos (shifted_weight side n offset point p)) (same p inside)))

pub gathered_e_same : (side : ℕ) (n : Triple) (f g : Axis → Triple → ℤ) (point : Triple)
    → ((a : Axis) (p : Triple) → IsWithin p n → f a p ≡ g a p)
    → gathered_e side n f point ≡ gathered_e side n g point
gathered_e_same side n f g point same =
    let x = gathered_same side n (offset_e side X) (f X) (g X) point (same X) in
    let y = gathered_same side n (offset_e side Y) (f Y) (g Y) point (same Y) in
    let z = gathered_same side n (offset_e side Z) (f Z) (g Z) point (same Z) in
    λ i. record { x = x i; y = y i; z = z i }

pub gathered_b_same : (side : ℕ) (n : Triple) (f g : Axis → Triple → ℤ) (point : Triple)
    → ((a : Axis) (p : Triple) → IsWithin p n → f a p ≡ g a p)
    → gathered_b side n f point ≡ gathered_b side n g point
gathered_b_same side n f g point same =
    let x = gathered_same side n (offset_b side X) (f X) (g X) point (same X) in
    let y = gathered_same side n (offset_b side Y) (f Y) (g Y) point (same Y) in
    let z = gathered_same side n (offset_b side Z) (f Z) (g Z) point (same Z) in
    λ i. record { x = x i; y = y i; z = z i }
