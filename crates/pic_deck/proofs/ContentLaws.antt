-- What the particles of a species have in common, beside the numbers that it is read from.
use Rattle.std.proofs.Common.{◌≡◌, ℕ, arith}
use Rattle.std.proofs.Math.IntN.{ℤ, pos, negsuc}
use Rattle.std.proofs.lemmas.Int.{ints}
use Rattle.pic_num.specs.Multiplier.{Multiplier}
use Rattle.pic_grid.specs.Species.{IsKind}
use Rattle.pic_walk.specs.Limits.{MeetsLimits, from_to}
use Rattle.pic_walk.proofs.PointLaws.{as_speed, kept_small}

pub kept_charge : (z : ℤ) → MeetsLimits (from_to (negsuc 32767) (pos 32767)) z → as_speed z ≡ z
kept_charge z inside = kept_small z (omega (arith, ints, inside.low, inside.high))

-- the limits of a charge and a mass are those of a species
pub IsKind-from : (charge : ℤ) (mass : ℕ) (kick turn : Multiplier) → MeetsLimits (from_to (negsuc 32767) (pos 32767)) charge
    → MeetsLimits (from_to (pos 1) (pos 65536)) (pos mass)
    → IsKind (record { charge = charge; mass = mass; kick = kick; turn = turn })
IsKind-from charge mass kick turn c m = record {
  charge_low = c.low;
  charge_high = c.high;
  mass_low = omega (arith, ints, m.low);
  mass_high = omega (arith, ints, m.high);
}
