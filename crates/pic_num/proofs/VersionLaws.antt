-- What a version allows is within the limits of the scheme.
use Rattle.std.proofs.Common.{◌≡◌, ℕ, ◌==◌, ◌^◌, ◌≤◌, inl, inr, ap, sym, ◌∙◌, subst, arith}
use Rattle.std.proofs.lemmas.Bool.{cases_Bool}
use Rattle.std.proofs.Math.Nat.{le_trans}
use Rattle.std.proofs.Math.Pow.{pow_mono}
use Rattle.pic_num.specs.declared.limits.Allowance.{Allowance}
use Rattle.pic_num.specs.Limits.{allowance_of, fewest_cells_of_axis, most_cells_of_axis, most_particles}
use Rattle.pic_num.specs.Limits.{fewest_bits, most_bits, least_side, most_side, most_filter}
use Rattle.pic_num.specs.Sub.{bits_of, bits_of-side}
use Rattle.pic_num.specs.Versions.{IsSideOf}

-- an allowance within the limits of the scheme
pub record IsWithinScheme (a : Allowance) : Type 0 where
  pub fewest : fewest_cells_of_axis ≤ a.cells
  pub cells : a.cells ≤ most_cells_of_axis
  pub some : 1 ≤ a.particles
  pub particles : a.particles ≤ most_particles
  pub least_bits : fewest_bits ≤ a.least_bits
  pub sides : a.least_bits ≤ a.greatest_bits
  pub greatest_bits : a.greatest_bits ≤ most_bits
  pub filter : a.filter ≤ most_filter

-- what holds of the two allowances holds of that of any version
by_version : (P : Allowance → Type 0) → P (allowance_of 1) → P (allowance_of 2) → (version : ℕ) → P (allowance_of version)
by_version P one two version = elim (cases_Bool (version == 1)) [
  | inl is ↦ rw is one
  | inr other ↦ rw other two
]

pub within_scheme : (version : ℕ) → IsWithinScheme (allowance_of version)
within_scheme = by_version IsWithinScheme
    (record {
      fewest = omega arith;
      cells = omega arith;
      some = omega arith;
      particles = omega arith;
      least_bits = omega arith;
      sides = omega arith;
      greatest_bits = omega arith;
      filter = omega arith;
    })
    (record {
      fewest = omega arith;
      cells = omega arith;
      some = omega arith;
      particles = omega arith;
      least_bits = omega arith;
      sides = omega arith;
      greatest_bits = omega arith;
      filter = omega arith;
    })

-- the side of so many bits as a version allows
pub side_of_bits : (version bits : ℕ) → (allowance_of version).least_bits ≤ bits → bits ≤ (allowance_of version).greatest_bits → IsSideOf version (2 ^ bits)
side_of_bits version bits least most =
    let scheme = within_scheme version in
    let same = bits_of-side bits (le_trans scheme.least_bits least) (le_trans most scheme.greatest_bits) in
    record {
      power = ap (λ (k : ℕ). 2 ^ k) (sym same);
      least = subst (λ (k : ℕ). (allowance_of version).least_bits ≤ k) (sym same) least;
      most = subst (λ (k : ℕ). k ≤ (allowance_of version).greatest_bits) (sym same) most;
    }

-- a side that a version allows is one of the scheme
pub side_least : (version side : ℕ) → IsSideOf version side → least_side ≤ side
side_least version side is = subst (λ (s : ℕ). least_side ≤ s) (sym is.power) (pow_mono (le_trans (within_scheme version).least_bits is.least))

pub side_most : (version side : ℕ) → IsSideOf version side → side ≤ most_side
side_most version side is = subst (λ (s : ℕ). s ≤ most_side) (sym is.power) (pow_mono (le_trans is.most (within_scheme version).greatest_bits))

-- version 1 has one side
pub side_of_version_1 : (side : ℕ) → IsSideOf 1 side → side ≡ 4096
side_of_version_1 side is =
    let bits : bits_of side ≡ 12 = omega (arith, is.least, is.most) in
    is.power ∙ ap (λ (k : ℕ). 2 ^ k) bits
