-- The text of the frames and of the end record of a dump, version 1: this project's profile. All numbers
-- are big-endian.
use Rattle.std.specs.Prelude.{ℤ, ℕ, List, [], ◌∷◌, ◌++◌}
use Rattle.std.specs.List.{flat_map}
use Rattle.pic_num.specs.declared.motion.Particle.{Particle}
use Rattle.pic_num.specs.declared.motion.What.{What}
use Rattle.pic_num.specs.declared.motion.What.TheVariants.{Speed, Turn, Far}
use Rattle.pic_num.specs.declared.axis.Axis.{Axis}
use Rattle.pic_num.specs.Bytes.{u32_bytes, i32_bytes, u128_bytes, i128_bytes}
use Rattle.pic_num.specs.Space.{Triple, triple, Spot, spot, axis_number}
use Rattle.pic_grid.specs.declared.stop.Phase.{Phase}
use Rattle.pic_grid.specs.declared.stop.Phase.TheVariants.{Half1, Half2, Electric}
use Rattle.pic_grid.specs.declared.stop.Bound.{Bound}
use Rattle.pic_grid.specs.declared.stop.Bound.TheVariants.{Value, Force}
use Rattle.pic_grid.specs.declared.stop.Stop.TheVariants.{Field as FieldStop, Push}
use Rattle.pic_grid.specs.declared.stop.EndMark.{EndMark}
use Rattle.pic_grid.specs.declared.stop.EndMark.TheVariants.{Done, Stopped}
use Rattle.pic_grid.specs.Lattice.{Field}
use Rattle.pic_energy.specs.declared.amounts.Energies.{Energies}

-- the marks of a frame, F, and of the end record, E
abbrev pub frame_tag : ℕ
frame_tag = 70

abbrev pub end_tag : ℕ
end_tag = 69

-- the mark of a frame, and its step
unfoldable pub start_bytes : ℕ → List ℕ
start_bytes step = frame_tag ∷ [] ++ u32_bytes step

-- the values of a field, in the order of places
unfoldable pub values_bytes : List ℤ → List ℕ
values_bytes values = flat_map i128_bytes values

unfoldable pub position_bytes : Triple → List ℕ
position_bytes p = u32_bytes p.x ++ u32_bytes p.y ++ u32_bytes p.z

unfoldable pub velocity_bytes : Spot → List ℕ
velocity_bytes v = i32_bytes v.x ++ i32_bytes v.y ++ i32_bytes v.z

-- a particle: its position and its velocity. Its identity is its place in the list, and its species
-- follows from the numbers in the header.
unfoldable pub particle_bytes : Particle → List ℕ
particle_bytes particle = position_bytes (triple particle.x) ++ velocity_bytes (spot particle.v)

-- the particles in their order
unfoldable pub particles_bytes : List Particle → List ℕ
particles_bytes particles = flat_map particle_bytes particles

unfoldable pub energies_bytes : Energies → List ℕ
energies_bytes e = u128_bytes e.kinetic ++ u128_bytes e.electric ++ u128_bytes e.magnetic

-- E, B and the particles
unfoldable pub state_bytes : Field → Field → List Particle → List ℕ
state_bytes e b particles = values_bytes e.values ++ values_bytes b.values ++ particles_bytes particles

-- a frame: its start, its state, and the energies
unfoldable pub frame_bytes : ℕ → Field → Field → List Particle → Energies → List ℕ
frame_bytes step e b particles energies = start_bytes step ++ state_bytes e b particles ++ energies_bytes energies

-- the numbers of the field phases (2 is the push)
abbrev pub phase_code : Phase → ℕ
phase_code Half1 = 1
phase_code Half2 = 3
phase_code Electric = 4

abbrev pub bound_code : Bound → ℕ
bound_code Value = 1
bound_code Force = 2

abbrev pub what_code : What → ℕ
what_code Speed = 1
what_code Turn = 2
what_code Far = 3

-- the end of a run that is done: the mark, kind 0, and the steps
unfoldable pub done_bytes : ℕ → List ℕ
done_bytes steps = end_tag ∷ [] ++ 0 ∷ [] ++ u32_bytes steps

-- of one that a field value stopped: the mark, kind 1, the step, the phase, the bound, the axis, the
-- cell, and the value or force value
unfoldable pub field_stop_bytes : ℕ → Phase → Bound → Axis → Triple → ℤ → List ℕ
field_stop_bytes step phase bound axis cell value =
    end_tag ∷ []
    ++ 1 ∷ []
    ++ u32_bytes step
    ++ phase_code phase ∷ []
    ++ bound_code bound ∷ []
    ++ axis_number axis ∷ []
    ++ u32_bytes cell.x
    ++ u32_bytes cell.y
    ++ u32_bytes cell.z
    ++ i128_bytes value

-- of one that the push of a particle stopped: the mark, kind 2, the step, the particle, what is too
-- large, the axis, and the number there
unfoldable pub push_stop_bytes : ℕ → ℕ → What → Axis → ℤ → List ℕ
push_stop_bytes step id what axis value =
    end_tag ∷ []
    ++ 2 ∷ []
    ++ u32_bytes step
    ++ u32_bytes id
    ++ what_code what ∷ []
    ++ axis_number axis ∷ []
    ++ i128_bytes value

-- the end record
unfoldable pub end_bytes : EndMark → List ℕ
end_bytes (Done steps) = done_bytes steps
end_bytes (Stopped step (FieldStop phase bound axis cell value)) = field_stop_bytes step phase bound axis (triple cell) value
end_bytes (Stopped step (Push id what axis value)) = push_stop_bytes step id what axis value
