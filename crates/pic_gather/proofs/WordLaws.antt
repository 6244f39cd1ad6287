-- The words of a point's three components are what is gathered there.
use Rattle.std.proofs.Common.{◌≡◌, ℕ, ℤ, pos, ◌^◌, sym, ◌∙◌, to_z, of_z}
use mir.Syntax.{w64}
use mir.Val.{SFits}
use Rattle.std.proofs.lemmas.Int.{to_z-of_z}
use Rattle.pic_num.specs.declared.axis.Axis.{Axis}
use Rattle.pic_num.specs.declared.axis.Axis.TheVariants.{X, Y, Z}
use Rattle.pic_num.specs.Rounding.{rounded}
use Rattle.pic_num.specs.Space.{Triple}
use Rattle.pic_grid.specs.Gather.{gathered}
use Rattle.pic_grid.specs.Lattice.{Field, value_at}
use Rattle.pic_grid.specs.Pair.{IsPairOf}
use Rattle.pic_grid.specs.declared.pair.Pair.{Pair}
use Rattle.pic_gather.specs.Forces.{whole_sum}
use Rattle.pic_gather.specs.Sides.{AreSides, Gathers}
use Rattle.pic_gather.specs.declared.sides.Sides.{Sides}
use Rattle.pic_gather.proofs.NestedLaws.{gathered_is}

-- a number is a word, and the mean of a component over three pairs
pub record IsWordOf (f : Field) (axis : Axis) (x y z : Pair) (r : ℤ) : Type 0 where
  pub fits : SFits w64 r
  pub value : r ≡ rounded (whole_sum f axis x y z) (pos (f.side ^ 3))

-- so its word is what is gathered by these pairs at their point
pub word_is : (f : Field) (axis : Axis) (offset point : Triple) (x y z : Pair) (r : ℤ)
    → IsPairOf f.side f.cells.x offset.x point.x x → IsPairOf f.side f.cells.y offset.y point.y y → IsPairOf f.side f.cells.z offset.z point.z z
    → IsWordOf f axis x y z r → to_z w64 (of_z w64 r) ≡ gathered f.side f.cells offset (value_at f axis) point
word_is f axis offset point x y z r of_x of_y of_z is =
    to_z-of_z w64 r (record { sfits = is.fits.sfits }) ∙ is.value ∙ sym (gathered_is f axis offset point x y z of_x of_y of_z)

module _ (f : Field) (own others : Sides) (a b : ℕ) (p : Triple) (at_own : AreSides f.side f.cells a p own) (at_others : AreSides f.side f.cells b p others)
  where
    pub x_is : (r : ℤ) → IsWordOf f X own.x.pair others.y.pair others.z r
        → to_z w64 (of_z w64 r) ≡ gathered f.side f.cells (record { x = a; y = b; z = b }) (value_at f X) p
    x_is r = word_is f X (record { x = a; y = b; z = b }) p own.x.pair others.y.pair others.z r at_own.x.of at_others.y.of at_others.z

    pub y_is : (r : ℤ) → IsWordOf f Y others.x.pair own.y.pair others.z r
        → to_z w64 (of_z w64 r) ≡ gathered f.side f.cells (record { x = b; y = a; z = b }) (value_at f Y) p
    y_is r = word_is f Y (record { x = b; y = a; z = b }) p others.x.pair own.y.pair others.z r at_others.x.of at_own.y.of at_others.z

    pub z_is : (r : ℤ) → IsWordOf f Z others.x.pair others.y.pair own.z r
        → to_z w64 (of_z w64 r) ≡ gathered f.side f.cells (record { x = b; y = b; z = a }) (value_at f Z) p
    z_is r = word_is f Z (record { x = b; y = b; z = a }) p others.x.pair others.y.pair own.z r at_others.x.of at_others.y.of at_own.z

-- the words of the three components are what is gathered
pub gathers : (f : Field) (own others : Sides) (x y z : ℤ) → IsWordOf f X own.x.pair others.y.pair others.z x
    → IsWordOf f Y others.x.pair own.y.pair others.z y → IsWordOf f Z others.x.pair others.y.pair own.z z
    → Gathers f own others (record { x = to_z w64 (of_z w64 x); y = to_z w64 (of_z w64 y); z = to_z w64 (of_z w64 z) })
gathers f own others x y z on_x on_y on_z = λ a b p at_own at_others i. record {
  x = x_is f own others a b p at_own at_others x on_x i;
  y = y_is f own others a b p at_own at_others y on_y i;
  z = z_is f own others a b p at_own at_others z on_z i;
}
