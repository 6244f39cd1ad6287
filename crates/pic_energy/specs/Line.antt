-- The lines of a report that tell of a run: this project's profile. Numbers are plain decimal, axes
-- are 0, 1 and 2, and each line ends with a line feed.
use Rattle.std.specs.Prelude.{ℤ, ℕ, List, ◌++◌, codes}
use Rattle.std.specs.Fmt.{decimal, signed_decimal}
use Rattle.pic_num.specs.declared.motion.What.{What}
use Rattle.pic_num.specs.declared.motion.What.TheVariants.{Speed, Turn, Far}
use Rattle.pic_num.specs.declared.axis.Axis.{Axis}
use Rattle.pic_num.specs.Space.{Triple, triple, axis_number}
use Rattle.pic_grid.specs.declared.stop.Phase.{Phase}
use Rattle.pic_grid.specs.declared.stop.Phase.TheVariants.{Half1, Half2, Electric}
use Rattle.pic_grid.specs.declared.stop.Bound.{Bound}
use Rattle.pic_grid.specs.declared.stop.Bound.TheVariants.{Value, Force}
use Rattle.pic_grid.specs.declared.stop.Stop.TheVariants.{Field, Push}
use Rattle.pic_grid.specs.declared.stop.EndMark.{EndMark}
use Rattle.pic_grid.specs.declared.stop.EndMark.TheVariants.{Done, Stopped}
use Rattle.pic_energy.specs.declared.amounts.Energies.{Energies}

-- the line of a frame: its step and its energies
unfoldable pub frame_line : ℕ → Energies → List ℕ
frame_line step e =
    codes "frame "
    ++ decimal step
    ++ codes " kinetic "
    ++ decimal e.kinetic
    ++ codes " electric "
    ++ decimal e.electric
    ++ codes " magnetic "
    ++ decimal e.magnetic
    ++ codes "\n"

-- the words for the phases of a step
unfoldable pub phase_word : Phase → List ℕ
phase_word Half1 = codes "half1"
phase_word Half2 = codes "half2"
phase_word Electric = codes "electric"

-- the words for the bounds of a field value
unfoldable pub bound_word : Bound → List ℕ
bound_word Value = codes "value"
bound_word Force = codes "force"

-- the words for what stops a push
unfoldable pub what_word : What → List ℕ
what_word Speed = codes "speed"
what_word Turn = codes "turn"
what_word Far = codes "far"

-- a run that is done
unfoldable pub done_line : ℕ → List ℕ
done_line steps = codes "done " ++ decimal steps ++ codes "\n"

-- a run that a field value stopped: the step, the phase, the bound that is passed, the axis, the
-- cell, and the value or force value
unfoldable pub field_line : ℕ → Phase → Bound → Axis → Triple → ℤ → List ℕ
field_line step phase bound axis cell value =
    codes "stopped "
    ++ decimal step
    ++ codes " field "
    ++ phase_word phase
    ++ codes " "
    ++ bound_word bound
    ++ codes " "
    ++ decimal (axis_number axis)
    ++ codes " "
    ++ decimal cell.x
    ++ codes " "
    ++ decimal cell.y
    ++ codes " "
    ++ decimal cell.z
    ++ codes " "
    ++ signed_decimal value
    ++ codes "\n"

-- a run that the push of a particle stopped: the step, the particle, what is too large, the axis and
-- the number there
unfoldable pub particle_line : ℕ → ℕ → What → Axis → ℤ → List ℕ
particle_line step id what axis value =
    codes "stopped "
    ++ decimal step
    ++ codes " particle "
    ++ decimal id
    ++ codes " "
    ++ what_word what
    ++ codes " "
    ++ decimal (axis_number axis)
    ++ codes " "
    ++ signed_decimal value
    ++ codes "\n"

-- the last line of a run
unfoldable pub end_line : EndMark → List ℕ
end_line (Done steps) = done_line steps
end_line (Stopped step (Field phase bound axis cell value)) = field_line step phase bound axis (triple cell) value
end_line (Stopped step (Push id what axis value)) = particle_line step id what axis value
