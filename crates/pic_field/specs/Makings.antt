-- What is made of a block from a field.
use Rattle.std.specs.Prelude.{ℤ, ◌-ℤ◌, ⊤}
use Rattle.pic_num.specs.declared.axis.Axis.{Axis}
use Rattle.pic_num.specs.Rounding.{scaled}
use Rattle.pic_num.specs.Space.{Triple, Spot}
use Rattle.pic_block.specs.Block.{BlockValues, outer_of}
use Rattle.pic_grid.specs.Lattice.{Field, value_at}
use Rattle.pic_field.specs.FieldPhases.{most_raised}
use Rattle.pic_field.specs.Lines.{AreSmall}
use Rattle.pic_field.specs.declared.making.Making.{Making}
use Rattle.pic_field.specs.declared.making.Making.TheVariants.{Scaled, Less}

-- what becomes of a value of the block whose lowest cell is low
abbrev pub made_by : Making → Field → Spot → Axis → Triple → ℤ → ℤ
made_by (Scaled by) f low a p v = scaled (value_at f a (outer_of low p)) by
made_by Less f low a p v = v -ℤ value_at f a (outer_of low p)

-- the values at the places of P can be made so: they are small where they count
abbrev pub CanMake : Making → (Axis → Triple → Type 0) → BlockValues → Type 0
CanMake (Scaled by) P b = ⊤
CanMake Less P b = AreSmall most_raised P b
