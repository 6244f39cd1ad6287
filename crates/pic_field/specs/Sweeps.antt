-- What a sweep over a block reads and makes.
use Rattle.std.specs.Prelude.{ℕ, ℤ, ◌-◌, List}
use Rattle.pic_num.specs.declared.axis.Axis.{Axis}
use Rattle.pic_num.specs.declared.axis.Axis.TheVariants.{Z}
use Rattle.pic_num.specs.Space.{Triple, Spot}
use Rattle.pic_field.specs.Beside.{next_to, plane_room}
use Rattle.pic_field.specs.Lines.{line_start, swept}
use Rattle.pic_field.specs.Planes.{span_of, AreLineRows, IsScaledPlane, IsNextPlane}
use Rattle.pic_field.specs.Rows.{read_by}
use Rattle.pic_field.specs.declared.plane.Line.{Line}
use Rattle.pic_field.specs.declared.plane.Strip.{Strip}
use Rattle.pic_field.specs.declared.sweep.Sweep.{Sweep}

-- the cells of the grid
abbrev pub sweep_cells : Sweep → Triple
sweep_cells s = s.from.field.now.cells

-- what the sweep makes of a value of the block whose lowest cell is low
abbrev pub made : Sweep → Spot → Axis → Triple → ℤ → ℤ
made s low = swept s.up (sweep_cells s) (read_by s.from) low

-- the rows that it reads along the line at the layers y and z, of count cells,
abbrev pub AreRowsOf : Sweep → Spot → ℕ → ℕ → ℕ → Line → Line → Line → Type 0
AreRowsOf s low y z count own by_y by_z =
    AreLineRows s.up (sweep_cells s) (read_by s.from) (line_start low y z) count own by_y by_z

-- the plane that it reads in the layer z of a strip, of lines of count cells,
abbrev pub IsPlaneOf : Sweep → Spot → Strip → ℕ → ℕ → List Line → Type 0
IsPlaneOf s low strip z count plane =
    IsScaledPlane (sweep_cells s) (read_by s.from)
    (plane_room s.up (sweep_cells s) (line_start low strip.from z)) (span_of s.up count)
    (strip.to - strip.from) plane

-- and in the layer beside it
abbrev pub IsPlaneBeside : Sweep → Spot → Strip → ℕ → ℕ → List Line → Type 0
IsPlaneBeside s low strip z count plane =
    IsNextPlane (sweep_cells s) (read_by s.from)
    (next_to s.up (sweep_cells s) Z (plane_room s.up (sweep_cells s) (line_start low strip.from z)))
    (span_of s.up count) (strip.to - strip.from) plane
