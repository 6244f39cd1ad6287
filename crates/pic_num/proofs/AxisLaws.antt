-- Axes and their numbers.
use Rattle.std.proofs.Common.{◌≡◌, ◌<◌, refl, arith}
use Rattle.pic_num.specs.declared.axis.Axis.{Axis}
use Rattle.pic_num.specs.declared.axis.Axis.TheVariants.{X, Y, Z}
use Rattle.pic_num.specs.Space.{axis_number}

pub axis_below : (a : Axis) → axis_number a < 3
axis_below X = omega arith
axis_below Y = omega arith
axis_below Z = omega arith

pub same_axis_number : (a b : Axis) → axis_number a ≡ axis_number b → a ≡ b
same_axis_number X X e = refl
same_axis_number Y Y e = refl
same_axis_number Z Z e = refl
same_axis_number X Y e = absurd (omega arith)
same_axis_number X Z e = absurd (omega arith)
same_axis_number Y X e = absurd (omega arith)
same_axis_number Y Z e = absurd (omega arith)
same_axis_number Z X e = absurd (omega arith)
same_axis_number Z Y e = absurd (omega arith)
