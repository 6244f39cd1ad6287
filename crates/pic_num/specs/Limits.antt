-- The limits of the scheme: this project's profile. What each version of decks and dumps allows is one
-- table, `allowance_of`: the narrower limits of version 1 have names that end in `_1`.
use Rattle.std.specs.Prelude.{ℕ, ℤ, pos, negsuc, ◌-◌, ◌*◌, ◌^◌, ◌==◌, if◌then◌else◌}
use Rattle.pic_num.specs.declared.limits.Allowance.{Allowance}

-- a grid has 2 to 128 cells on an axis, so at most 2097152 in all
abbrev pub fewest_cells_of_axis : ℕ
fewest_cells_of_axis = 2

abbrev pub most_cells_of_axis : ℕ
most_cells_of_axis = 128

abbrev pub most_cells : ℕ
most_cells = 2097152

abbrev pub most_cells_of_axis_1 : ℕ
most_cells_of_axis_1 = 64

-- the side of a cell has 2^8 to 2^14 sub-cells
abbrev pub fewest_bits : ℕ
fewest_bits = 8

abbrev pub most_bits : ℕ
most_bits = 14

abbrev pub least_side : ℕ
least_side = 2 ^ fewest_bits

abbrev pub most_side : ℕ
most_side = 2 ^ most_bits

abbrev pub bits_1 : ℕ
bits_1 = 12

abbrev pub side_1 : ℕ
side_1 = 2 ^ bits_1

-- a run has at most 16 species and 4194304 particles
abbrev pub most_species : ℕ
most_species = 16

abbrev pub most_particles : ℕ
most_particles = 4194304

abbrev pub most_particles_1 : ℕ
most_particles_1 = 1048576

-- the greatest version of decks and dumps that is accepted
abbrev pub most_version : ℕ
most_version = 2

-- the filter of the current: none, or the binomial one
abbrev pub most_filter : ℕ
most_filter = 1

-- a run has at most 16 driven loops of current
abbrev pub most_loops : ℕ
most_loops = 16

-- the wave of a loop has 1 to 64 numbers, each at most 2^60 in size
abbrev pub most_wave : ℕ
most_wave = 64

abbrev pub most_drive : ℕ
most_drive = 2 ^ 60

-- what a version of decks and dumps allows: version 1 less than the scheme, version 2 all of it
abbrev pub allowance_of : ℕ → Allowance
allowance_of version =
    if version == 1 then record {
      cells = most_cells_of_axis_1;
      particles = most_particles_1;
      least_bits = bits_1;
      greatest_bits = bits_1;
      filter = 0;
      loops = 0;
    }
    else record {
      cells = most_cells_of_axis;
      particles = most_particles;
      least_bits = fewest_bits;
      greatest_bits = most_bits;
      filter = most_filter;
      loops = most_loops;
    }

-- a run has at most 1000000 steps, and so many from one frame to the next
abbrev pub most_steps : ℕ
most_steps = 1000000

-- a multiplier n / 2^k has an n of at most 2^31 - 1 in size, and a k of at most 62
abbrev pub most_numerator : ℕ
most_numerator = 2 ^ 31 - 1

abbrev pub most_shift : ℕ
most_shift = 62

-- the name of a species has at most 32 bytes
abbrev pub most_letters : ℕ
most_letters = 32

-- a species' charge is -2^15 to 2^15 - 1, its mass 1 to 65536
abbrev pub least_charge : ℤ
least_charge = negsuc 32767

abbrev pub greatest_charge : ℤ
greatest_charge = pos 32767

abbrev pub most_charge : ℕ
most_charge = 2 ^ 15

abbrev pub most_mass : ℕ
most_mass = 65536

-- a value of E and B is at most 2^90 in size, and its force value at most 2^44
abbrev pub most_value : ℕ
most_value = 2 ^ 90

abbrev pub most_force : ℕ
most_force = 2 ^ 44

-- a multiple of a value is at most 2^121 in size, which leaves room to add some
abbrev pub most_scaled : ℕ
most_scaled = 2 ^ 121

-- a velocity is in this part of a sub-cell per step
abbrev pub velocity_unit : ℕ
velocity_unit = 4096

-- a velocity after the half kick is at most 2^40 in size, a turn at most 2^24
abbrev pub most_speed : ℕ
most_speed = 2 ^ 40

abbrev pub most_turn : ℕ
most_turn = 2 ^ 24

-- the most that the paths of so many particles can carry through an edge, in twelfths of a charge
-- times a cubic sub-cell: each goes at most a cell along it, under the whole weight. Below 2^83 for
-- all particles, and below 2^81 for those of version 1.
abbrev pub most_flux_of : ℕ → ℕ
most_flux_of particles = particles * most_charge * (12 * (most_side * most_side * most_side))
