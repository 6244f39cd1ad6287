-- The pushes whose numbers are small, which are computed in 64 bits.
use Rattle.std.specs.Prelude.{ℕ, ◌^◌}
use Rattle.pic_num.specs.Multiplier.{Multiplier}
use Rattle.pic_num.specs.Push.{each, plus}
use Rattle.pic_num.specs.Rounding.{scaled}
use Rattle.pic_num.specs.Space.{Spot, AreAtMost}

-- a gathered field is small up to 2^28 in size by axis
abbrev pub most_small_field : ℕ
most_small_field = 2 ^ 28

-- a velocity after half of the kick is small up to 2^26 in size by axis, a turn up to 2^19
abbrev pub most_small_speed : ℕ
most_small_speed = 2 ^ 26

abbrev pub most_small_turn : ℕ
most_small_turn = 2 ^ 19

-- the numbers of a push are small: both fields, the velocity after half of the kick, and the turn
pub record IsSmallPush (v e b : Spot) (kick turn : Multiplier) : Type 0 where
  pub electric : AreAtMost e most_small_field
  pub magnetic : AreAtMost b most_small_field
  pub speed : AreAtMost (plus v (each (λ c. scaled c kick) e)) most_small_speed
  pub turn_by : AreAtMost (each (λ c. scaled c turn) b) most_small_turn
