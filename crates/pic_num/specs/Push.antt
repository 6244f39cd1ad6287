-- The Boris push in leapfrog (Boris 1970; Birdsall and Langdon, "Plasma Physics via Computer
-- Simulation", chapter 4): half of the electric kick, the turn by the magnetic field, the other
-- half of the kick. The roundings, the units and the three tests are this project's profile.
-- Velocities are in 1/4096 sub-cell per step; a cell has `side` sub-cells.
use Rattle.std.specs.Prelude.{ℤ, pos, ℕ, ◌^◌, ◌+ℤ◌, ◌-ℤ◌, ◌*ℤ◌, unsigned_abs, nat_lt, if◌then◌else◌, [], ◌∷◌, Option, Some, None, Result, Ok, Err}
use Rattle.std.specs.Option.{option_or}
use Rattle.pic_num.specs.declared.axis.Axis.{Axis}
use Rattle.pic_num.specs.declared.axis.Axis.TheVariants.{X, Y, Z}
use Rattle.pic_num.specs.declared.motion.What.{What}
use Rattle.pic_num.specs.declared.motion.What.TheVariants.{Speed, Turn, Far}
use Rattle.pic_num.specs.First.{first_of}
use Rattle.pic_num.specs.Limits.{velocity_unit, most_speed, most_turn}
use Rattle.pic_num.specs.Multiplier.{Multiplier}
use Rattle.pic_num.specs.Rounding.{rounded, scaled}
use Rattle.pic_num.specs.Space.{Spot, along}

-- what a push gives: the new velocity, and the move in sub-cells, not yet wrapped
pub record Shift : Type 0 where
  pub v : Spot
  pub d : Spot

-- what stops it: the first test that fails, the first axis on which it does, and the number there
pub record Halting : Type 0 where
  pub what : What
  pub axis : Axis
  pub value : ℤ

abbrev pub each : (ℤ → ℤ) → Spot → Spot
each f p = record { x = f p.x; y = f p.y; z = f p.z }

abbrev pub plus : Spot → Spot → Spot
plus p q = record { x = p.x +ℤ q.x; y = p.y +ℤ q.y; z = p.z +ℤ q.z }

unfoldable pub cross : Spot → Spot → Spot
cross p q = record { x = p.y *ℤ q.z -ℤ p.z *ℤ q.y; y = p.z *ℤ q.x -ℤ p.x *ℤ q.z; z = p.x *ℤ q.y -ℤ p.y *ℤ q.x }

unfoldable pub dot : Spot → Spot → ℤ
dot p q = p.x *ℤ q.x +ℤ p.y *ℤ q.y +ℤ p.z *ℤ q.z

-- Boris's first turn: v + (v x t) / 2^20, the turn t being in units of 2^-20
unfoldable pub half_turned : Spot → Spot → Spot
half_turned v t = plus v (each (λ c. rounded c (pos (2 ^ 20))) (cross v t))

-- Boris's whole turn, v + (v' x t) 2 / (1 + t.t) with v' the half turned velocity
unfoldable pub turned : Spot → Spot → Spot
turned v t =
    plus v (each (λ c. rounded (pos (2 ^ 21) *ℤ c) (pos (2 ^ 40) +ℤ dot t t)) (cross (half_turned v t) t))

-- the first axis on which p is above most in size fails the test
unfoldable pub first_above : What → ℕ → Spot → Option Halting
first_above what most p =
    first_of
    (λ a. if nat_lt most (unsigned_abs (along a p)) then Some (record { what = what; axis = a; value = along a p }) else None)
    (X ∷ Y ∷ Z ∷ [])

-- a value, unless something stopped it
abbrev pub unless : {A S : Type 0} → Option S → A → Result A S
unless None a = Ok a
unless (Some s) a = Err s

-- the push of a velocity v by the gathered e and b with a species' kick and turn: the new velocity
-- and the move, or the first of Speed, Turn and Far that fails, on its first axis
unfoldable pub pushed : ℕ → Spot → Spot → Spot → Multiplier → Multiplier → Result Shift Halting
pushed side v e b kick turn =
    let half_kick = each (λ c. scaled c kick) e in
    let kicked = plus v half_kick in
    let turn_by = each (λ c. scaled c turn) b in
    let new_v = plus (turned kicked turn_by) half_kick in
    let move = each (λ c. rounded c (pos velocity_unit)) new_v in
    let halt =
    option_or (first_above Speed most_speed kicked)
    (option_or (first_above Turn most_turn turn_by) (first_above Far side move)) in
    unless halt (record { v = new_v; d = move })
