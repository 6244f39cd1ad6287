-- Positions and velocities that are drawn at random, this project's profile. A position is uniform in
-- the box. A velocity is a mean and a spread times the sum of twelve uniform numbers less its mean,
-- which is nearly normal, with the variance 1 (J. O. Irwin and P. Hall, Biometrika 19, 1927).
use Rattle.std.specs.Prelude.{◌≤◌, ℕ, ℤ, pos, ◌*◌, ◌/◌, ◌-◌, ◌^◌, ◌<◌, ◌+ℤ◌, ◌-ℤ◌, ◌*ℤ◌, List, [], ◌∷◌, map, sum, slice_index, slice_index_or}
use Rattle.std.specs.List.{range_with_len}
use Rattle.rand_pcg.specs.Lcg.{Lcg}
use Rattle.pic_num.specs.declared.axis.Axis.{Axis}
use Rattle.pic_num.specs.Rounding.{rounded}
use Rattle.pic_num.specs.Sizes.{IsAtMost}
use Rattle.pic_num.specs.Space.{spot, along}
use Rattle.pic_block.specs.Cells.{Grid}
use Rattle.pic_deck.specs.Species.{fastest_drift, widest_spread}
use Rattle.pic_load.specs.Generator.{after, word}

-- a word as a number from 0 to below len
abbrev pub scaled_word : ℕ → ℕ → ℕ
scaled_word w len = w * len / 2 ^ 32

-- a position in the box of a grid, by the next three words
unfoldable pub drawn_place : Grid → Lcg → List ℕ
drawn_place grid g =
    scaled_word (word 0 g) (grid.n.x * grid.side)
    ∷ scaled_word (word 1 g) (grid.n.y * grid.side)
    ∷ scaled_word (word 2 g) (grid.n.z * grid.side)
    ∷ []

-- the sum of the next words
unfoldable pub sum_of_words : ℕ → Lcg → ℕ
sum_of_words n g = sum (map (λ i. word i g) (range_with_len 0 n))

-- the mean of the sum of twelve words
abbrev pub mean_of_twelve : ℕ
mean_of_twelve = 6 * (2 ^ 32 - 1)

-- the sum of the next twelve words less its mean, in units of 2^-32
unfoldable pub deviate : Lcg → ℤ
deviate g = pos (sum_of_words 12 g) -ℤ pos mean_of_twelve

-- a velocity on an axis, by the next twelve words
unfoldable pub drawn_speed : Lcg → ℤ → ℕ → ℤ
drawn_speed g drift spread = drift +ℤ rounded (pos spread *ℤ deviate g) (pos (2 ^ 32))

-- a velocity, by the next thirty-six words
unfoldable pub drawn_velocity : Lcg → List ℤ → List ℕ → List ℤ
drawn_velocity g drift spread =
    drawn_speed g (slice_index_or drift 0 (pos 0)) (slice_index spread 0)
    ∷ drawn_speed (after 12 g) (slice_index_or drift 1 (pos 0)) (slice_index spread 1)
    ∷ drawn_speed (after 24 g) (slice_index_or drift 2 (pos 0)) (slice_index spread 2)
    ∷ []

-- a mean and a spread within the limits of a deck whose cells have this side
pub record IsSpread (side : ℕ) (drift : List ℤ) (spread : List ℕ) : Type 0 where
  pub mean : (a : Axis) → IsAtMost (along a (spot drift)) (fastest_drift side)
  pub width : (k : ℕ) → k < 3 → slice_index spread k ≤ widest_spread side
