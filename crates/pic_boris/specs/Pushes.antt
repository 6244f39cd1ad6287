-- What the push answers, against its definition (Boris 1970; Birdsall and Langdon, "Plasma Physics
-- via Computer Simulation", chapter 4; the units and the tests are this project's profile).
use Rattle.std.specs.Prelude.{◌≡◌, ℕ, pos, Result, Ok, Err}
use Rattle.pic_num.specs.declared.motion.What.TheVariants.{Far}
use Rattle.pic_num.specs.Limits.{velocity_unit}
use Rattle.pic_num.specs.Push.{Shift, Halting, each, first_above, unless}
use Rattle.pic_num.specs.Rounding.{rounded}
use Rattle.pic_num.specs.Space.{Spot, spot, AreAtMost}
use Rattle.pic_num.specs.Velocity.{IsKeptVelocity}
use Rattle.pic_boris.specs.declared.moved.Moved.{Moved}
use Rattle.pic_boris.specs.declared.halt.Halt.{Halt}

-- what an answer of the code stands for
abbrev pub shift_of : Moved → Shift
shift_of m = record { v = spot m.v; d = spot m.d }

abbrev pub halting_of : Halt → Halting
halting_of h = record { what = h.what; axis = h.axis; value = h.value }

-- the code answers what the definition says
abbrev pub Pushes : Result Shift Halting → Result Moved Halt → Type 0
Pushes told (Ok m) = told ≡ Ok (shift_of m)
Pushes told (Err h) = told ≡ Err (halting_of h)

-- where a velocity leads, or that it leads further than the side of a cell
abbrev pub arrived : ℕ → Spot → Result Shift Halting
arrived side v =
    let move = each (λ c. rounded c (pos velocity_unit)) v in
    unless (first_above Far side move) (record { v = v; d = move })

-- the new velocity and the move of a push stay within their limits
pub record IsInLimits (side : ℕ) (m : Moved) : Type 0 where
  pub v : IsKeptVelocity side (spot m.v)
  pub d : AreAtMost (spot m.d) side
