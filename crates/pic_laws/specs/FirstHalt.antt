-- What halts a push, with no walk along tests and axes: of the three vectors that are tested the
-- first that passes its limit on an axis, and the first axis on which it does. The order of tests
-- and of axes is this project's profile.
use Rattle.std.specs.Prelude.{◌≡◌, ◌↔◌, ℕ, pos, ◌<◌, unsigned_abs, Ok, Err}
use Rattle.pic_num.specs.declared.axis.Axis.{Axis}
use Rattle.pic_num.specs.declared.motion.What.{What}
use Rattle.pic_num.specs.declared.motion.What.TheVariants.{Speed, Turn, Far}
use Rattle.pic_num.specs.Limits.{velocity_unit, most_speed, most_turn}
use Rattle.pic_num.specs.Multiplier.{Multiplier}
use Rattle.pic_num.specs.Push.{Shift, Halting, each, plus, turned, pushed}
use Rattle.pic_num.specs.Rounding.{rounded, scaled}
use Rattle.pic_num.specs.Sizes.{IsAtMost}
use Rattle.pic_num.specs.Space.{Spot, along, axis_number}

-- half of the electric kick
abbrev pub half_kick : Spot → Multiplier → Spot
half_kick e kick = each (λ c. scaled c kick) e

-- the velocity behind the first half of the kick
abbrev pub kicked : Spot → Spot → Multiplier → Spot
kicked v e kick = plus v (half_kick e kick)

-- the turn by the magnetic field
abbrev pub turn_by : Spot → Multiplier → Spot
turn_by b turn = each (λ c. scaled c turn) b

-- the new velocity: kicked, turned and kicked again
abbrev pub new_velocity : Spot → Spot → Spot → Multiplier → Multiplier → Spot
new_velocity v e b kick turn = plus (turned (kicked v e kick) (turn_by b turn)) (half_kick e kick)

-- where a velocity leads in one step, in sub-cells
abbrev pub move_of : Spot → Spot
move_of v = each (λ c. rounded c (pos velocity_unit)) v

-- the vector that a test looks at: the kicked velocity, the turn, or the move
abbrev pub tested_vector : Spot → Spot → Spot → Multiplier → Multiplier → What → Spot
tested_vector v e b kick turn Speed = kicked v e kick
tested_vector v e b kick turn Turn = turn_by b turn
tested_vector v e b kick turn Far = move_of (new_velocity v e b kick turn)

-- what a component may be at most in size: a move goes no further than the side of a cell
abbrev pub limit_of : ℕ → What → ℕ
limit_of side Speed = most_speed
limit_of side Turn = most_turn
limit_of side Far = side

-- the tests in their order
abbrev pub test_number : What → ℕ
test_number Speed = 0
test_number Turn = 1
test_number Far = 2

-- the vector of a test passes its limit on an axis
abbrev pub PassesLimit : ℕ → (What → Spot) → What → Axis → Type 0
PassesLimit side vectors what a = limit_of side what < unsigned_abs (along a (vectors what))

-- it keeps to its limit there
abbrev pub KeepsLimit : ℕ → (What → Spot) → What → Axis → Type 0
KeepsLimit side vectors what a = IsAtMost (along a (vectors what)) (limit_of side what)

-- a test and an axis come before others: the test is earlier, or it is the same one and the axis is
-- less
pub data IsEarlier (what : What) (a : Axis) (other : What) (b : Axis) : Type 0 where
  earlier_test : test_number what < test_number other → IsEarlier what a other b
  less_axis : what ≡ other → axis_number a < axis_number b → IsEarlier what a other b

-- a halt names a test and an axis on which its vector passes its limit, and the component there; at
-- none that come before them does a vector pass its limit
pub record IsFirstHalt (side : ℕ) (vectors : What → Spot) (h : Halting) : Type 0 where
  pub passes : PassesLimit side vectors h.what h.axis
  pub value : h.value ≡ along h.axis (vectors h.what)
  pub first : (what : What) (a : Axis) → IsEarlier what a h.what h.axis
      → KeepsLimit side vectors what a

-- no vector passes its limit on any axis, and the shift is the new velocity and its move
pub record IsWholePush (side : ℕ) (v e b : Spot) (kick turn : Multiplier) (s : Shift) : Type 0 where
  pub keeps : (what : What) (a : Axis) → KeepsLimit side (tested_vector v e b kick turn) what a
  pub velocity : s.v ≡ new_velocity v e b kick turn
  pub move : s.d ≡ move_of s.v

-- for every side, velocity, field and multiplier: a halt is the answer exactly where it is the
-- first, and a shift exactly where nothing halts the push and it is what the push gives
abbrev pub LawOfTheFirstHalt : Type 0
LawOfTheFirstHalt =
    (side : ℕ) (v e b : Spot) (kick turn : Multiplier)
    → ((h : Halting) → (pushed side v e b kick turn ≡ Err h)
    ↔ IsFirstHalt side (tested_vector v e b kick turn) h)
    × ((s : Shift) → (pushed side v e b kick turn ≡ Ok s) ↔ IsWholePush side v e b kick turn s)
