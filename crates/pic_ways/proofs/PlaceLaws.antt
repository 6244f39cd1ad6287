-- Places of a lattice that are written one after another.
use Rattle.std.proofs.Common.{◌≡◌, ◌≢◌, ℕ, ◌+◌, ◌*◌, ◌<◌, ◌≤◌, length, arith}
use Rattle.std.proofs.Math.IntN.{ℤ}
use Rattle.pic_num.specs.declared.axis.Axis.{Axis}
use Rattle.pic_num.specs.Space.{Triple}
use Rattle.pic_block.specs.Cells.{IsWithin, count_of, place_of}
use Rattle.pic_block.proofs.CellLaws.{places_more}
use Rattle.pic_grid.specs.Lattice.{Field, value_at, with_value}
use Rattle.pic_grid.proofs.LatticeLaws.{value_at-same, value_at-other}

-- one place more is written
pub written_more : (Q : Axis → Triple → ℤ → Type 0) (g : Field) (i : ℕ) (a : Axis) (p : Triple) (v : ℤ) → place_of g.cells a p ≡ i → IsWithin p g.cells
    → length g.values ≡ 3 * count_of g.cells → Q a p v
    → ((b : Axis) (q : Triple) → IsWithin q g.cells → place_of g.cells b q < i → Q b q (value_at g b q))
    → (b : Axis) (q : Triple) → IsWithin q g.cells → place_of g.cells b q < i + 1 → Q b q (value_at (with_value g a p v) b q)
written_more Q g i a p v at w shape is below =
    places_more g.cells (λ b q. Q b q (value_at (with_value g a p v) b q)) i a p at w
    (λ b q h less.
    let other : place_of g.cells b q ≢ place_of g.cells a p = (λ e. omega (arith, e, at, less)) in
    rw (value_at-other g a p v b q other) (below b q h less))
    (rw (value_at-same g a p v w shape) is)

-- the places behind it stay
pub left_behind : (g : Field) (i : ℕ) (a : Axis) (p : Triple) (v : ℤ) (b : Axis) (q : Triple) → place_of g.cells a p ≡ i → i + 1 ≤ place_of g.cells b q
    → value_at (with_value g a p v) b q ≡ value_at g b q
left_behind g i a p v b q at behind =
    let other : place_of g.cells b q ≢ place_of g.cells a p = (λ e. omega (arith, e, at, behind)) in
    value_at-other g a p v b q other
