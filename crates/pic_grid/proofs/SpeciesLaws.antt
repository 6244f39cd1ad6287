-- How large the charge of a species is, and of a particle.
use Rattle.std.proofs.Common.{◌^◌, ◌≤◌, List, length, get_or, All, inl, inr, sym, subst, unsigned_abs, arith}
use Rattle.std.proofs.lemmas.Bool.{cases_lt}
use Rattle.std.proofs.lemmas.Int.{ints}
use Rattle.std.proofs.lemmas.List.{get_or_past}
use Rattle.pic_num.specs.declared.motion.Particle.{Particle}
use Rattle.pic_num.specs.declared.motion.Kind.{Kind}
use Rattle.pic_num.specs.Limits.{most_charge}
use Rattle.pic_num.specs.Sizes.{IsAtMost}
use Rattle.pic_grid.specs.PushPhase.{kind_of, no_kind}
use Rattle.pic_grid.specs.Species.{IsKind}

-- a species' charge is at most 2^15 in size
pub kind_most : (k : Kind) → IsKind k → unsigned_abs k.charge ≤ 2 ^ 15
kind_most k limits = let low = limits.charge_low in let high = limits.charge_high in omega (arith, ints, low, high)

-- so is that of a particle, whatever its species
pub charge_most : (kinds : List Kind) (x : Particle) → All (λ (k : Kind). IsAtMost k.charge most_charge) kinds
    → unsigned_abs (kind_of kinds x).charge ≤ most_charge
charge_most kinds x limits = elim (cases_lt x.species (length kinds)) [
  | inl below ↦ (limits x.species no_kind below).size
  | inr past ↦ subst (λ (k : Kind). unsigned_abs k.charge ≤ 2 ^ 15) (sym (get_or_past kinds x.species no_kind past)) (omega arith)
]

pub kind_of_most : (kinds : List Kind) (x : Particle) → All IsKind kinds → unsigned_abs (kind_of kinds x).charge ≤ most_charge
kind_of_most kinds x limits = charge_most kinds x (λ i k below. record { size = kind_most (get_or kinds i k) (limits i k below) })
