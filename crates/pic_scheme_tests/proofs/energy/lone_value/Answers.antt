use Rattle.std.proofs.Common.{ℕ, ℤ, pos, ◌*◌, ◌^◌, ◌<◌, ◌≤◌, length, replicate, inl, inr, sym, ap, subst, ◌∙◌, arith, to_z, of_z}
use Rattle.std.specs.Prelude.{unsigned_abs}
use Rattle.std.proofs.Math.Nat.{mul-le-mul_left}
use Rattle.std.proofs.lemmas.Bool.{cases_eq}
use Rattle.std.proofs.lemmas.Grind.{get_or-set_at}
use Rattle.std.proofs.lemmas.Int.{unsigned_abs-mul}
use Rattle.std.proofs.lemmas.List.{get_or-set_other, get_or-replicate, length-replicate}
use mir.Syntax.{w128}
use Rattle.pic_num.specs.Multiplier.{Multiplier}
use Rattle.pic_num.specs.Rounding.{scaled}
use Rattle.pic_num.specs.Sizes.{IsAtMost}
use Rattle.pic_num.specs.Space.{Triple}
use Rattle.pic_num.specs.declared.axis.Axis.{Axis}
use Rattle.pic_num.specs.declared.axis.Axis.TheVariants.{X}
use Rattle.pic_num.proofs.RoundingLaws.{scaled-no_larger}
use Rattle.pic_num.proofs.SizeLaws.{code_at_most, codes}
use Rattle.pic_block.specs.Cells.{IsWithin, count_of, place_of}
use Rattle.pic_block.proofs.CellLaws.{place_of_below}
use Rattle.pic_grid.specs.Lattice.{Field, value_at, with_value}
use Rattle.pic_energy.specs.Energies.{IsBounded}
use Rattle.pic_scheme_tests.proofs.energy.lone_value.Goals as goal

-- a field of zeros
abbrev zeros : ℕ → Triple → Triple → Field
zeros side n parts = record { cells = n; side = side; parts = parts; values = replicate (3 * count_of n) (pos 0) }

-- zeros but for one small value are small
all_small : (side : ℕ) (n parts : Triple) (a : Axis) (p : Triple) (v : ℤ) → IsAtMost v (2 ^ 44) → (b : Axis) (q : Triple) → IsWithin q n
    → IsAtMost (value_at (with_value (zeros side n parts) a p v) b q) (2 ^ 44)
all_small side n parts a p v small b q within =
    let count = 3 * count_of n in
    let i = place_of n a p in
    let j = place_of n b q in
    let below : j < count = place_of_below n b q within in
    elim (cases_eq j i) [
      | inl same ↦
          (let size = length-replicate {A = ℤ} count (pos 0) in
          let inside : i < length (replicate count (pos 0)) = omega (arith, size, same, below) in
          subst (λ (z : ℤ). IsAtMost z (2 ^ 44)) (sym (get_or-set_at (replicate count (pos 0)) i j v (pos 0) same inside)) small)
      | inr other ↦
          (let zero_is = get_or-set_other (replicate count (pos 0)) i j v (pos 0) other ∙ get_or-replicate count j (pos 0) (pos 0) below in
          subst (λ (z : ℤ). IsAtMost z (2 ^ 44)) (sym zero_is) (record { size = omega arith }))
    ]

-- a multiplier of at most 1 makes no value larger
scaled_small : (v : ℤ) (by : Multiplier) → unsigned_abs by.n ≤ 1 → IsAtMost v (2 ^ 44) → IsAtMost (scaled v by) (2 ^ 44)
scaled_small v by one small =
    let product = unsigned_abs-mul v by.n in
    let least : unsigned_abs v * unsigned_abs by.n ≤ unsigned_abs v * 1 = mul-le-mul_left (unsigned_abs v) one in
    let no_larger = scaled-no_larger v by in
    let size = small.size in
    record { size = omega (arith, product, least, no_larger, size) }

bounded : (side : ℕ) (n parts : Triple) (a : Axis) (p : Triple) (v : ℤ) (by : Multiplier) → unsigned_abs by.n ≤ 1 → IsAtMost v (2 ^ 44)
    → IsBounded by (with_value (zeros side n parts) a p v)
bounded side n parts a p v by one small = record {
  values = λ b q within. (let size = (all_small side n parts a p v small b q within).size in record { size = omega (arith, size) });
  forces = λ b q within. scaled_small (value_at (with_value (zeros side n parts) a p v) b q) by one (all_small side n parts a p v small b q within);
}

pub returns : goal.returns
returns c = λ by one.
    let v = to_z w128 (of_z w128 c.args.value) in
    let small : IsAtMost (to_z w128 (of_z w128 c.args.value)) (2 ^ 44) = code_at_most (search codes depth 6) tt in
    let field = c.set.ensures.after ∙ ap (λ (f : Field). with_value f X _ v) c.in_ok-field.ensures in
    subst (IsBounded by) (sym field) (bounded _ _ _ X _ v by one small)
