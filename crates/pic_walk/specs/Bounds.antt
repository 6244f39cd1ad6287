-- The limits of a deck beside those of the scheme, this project's profile: of velocities and ways, as
-- functions of the version and the side of a cell.
use Rattle.std.specs.Prelude.{ℕ, ◌^◌, ◌-◌, ◌*◌}
use Rattle.pic_num.specs.Limits.{velocity_unit, allowance_of}

-- the bytes of a deck
abbrev pub most_bytes : ℕ
most_bytes = 1048576

-- the rows of a field
abbrev pub most_rows : ℕ
most_rows = 1048576

-- the velocity of a particle on an axis, either way: a cell a step
abbrev pub fastest : ℕ → ℕ
fastest side = velocity_unit * side

-- the way from one site of a lattice to the next, on an axis: as many cells as an axis may have
abbrev pub widest_gap : ℕ → ℕ → ℕ
widest_gap version side = (allowance_of version).cells * side

-- the seed and the stream of a generator
abbrev pub most_seed : ℕ
most_seed = 2 ^ 63 - 1

-- the mean velocity of particles drawn at random, on an axis, either way: half a cell a step
abbrev pub fastest_drift : ℕ → ℕ
fastest_drift side = 2048 * side

-- the spread of their velocities on an axis: a sixteenth of a cell a step
abbrev pub widest_spread : ℕ → ℕ
widest_spread side = 256 * side
