-- The 27 directions of a tile: on each axis one step down, none or one up. Their numbers are this
-- project's profile.
use Rattle.std.specs.Prelude.{ℕ, ◌+◌, ◌-◌, ◌/◌, ◌%◌}
use Rattle.pic_num.specs.Space.{Triple}

abbrev pub directions : ℕ
directions = 27

-- the direction without a step
abbrev pub here : ℕ
here = 13

-- the steps of a direction: on each axis 0 is a step down, 1 none, 2 a step up
abbrev pub steps_of : ℕ → Triple
steps_of d = record { x = d % 3; y = d / 3 % 3; z = d / 9 }

-- the direction that leads back
abbrev pub opposite : ℕ → ℕ
opposite d = 26 - d

-- where a step leads from i round a ring of n places
unfoldable pub ring_step : ℕ → ℕ → ℕ → ℕ
ring_step n step i = (i + step + (n - 1)) % n
