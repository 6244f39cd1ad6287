-- The energies of a frame are numbers of 128 bits.
use Rattle.std.proofs.Common.{ℕ, ℤ, pos, ◌*◌, ◌^◌, ◌<◌, ◌≤◌, ◌-ℤ◌, ◌≤ℤ◌, ◌<ℤ◌, List, length, get_or, unsigned_abs, All, inl, inr, ap, arith}
use Rattle.std.proofs.Math.Nat.{mul-le-mul_right}
use Rattle.std.proofs.lemmas.Bool.{cases_lt}
use Rattle.std.proofs.lemmas.Int.{ints}
use Rattle.std.proofs.lemmas.List.{get_or_past}
use Rattle.std.proofs.lemmas.List.Elements.{All-get_or}
use Rattle.std.proofs.lemmas.List.Sums.{sum_by-le}
use Rattle.pic_num.specs.declared.axis.Axis.TheVariants.{X, Y, Z}
use Rattle.pic_num.specs.declared.motion.Kind.{Kind}
use Rattle.pic_num.specs.declared.motion.Particle.{Particle}
use Rattle.pic_num.specs.Limits.{most_mass, most_side, most_particles, most_force}
use Rattle.pic_num.specs.Multiplier.{Multiplier}
use Rattle.pic_num.specs.Rounding.{scaled}
use Rattle.pic_num.specs.Sizes.{IsAtMost}
use Rattle.pic_num.specs.Space.{Triple, spot}
use Rattle.pic_num.specs.Velocity.{too_fast, IsKeptVelocity}
use Rattle.pic_num.proofs.SizeLaws.{times_at_most}
use Rattle.pic_block.specs.Cells.{IsCells, count_of}
use Rattle.pic_grid.specs.PushPhase.{kind_of, no_kind}
use Rattle.pic_energy.specs.Energies.{square_of, speed_square, kinetic_of, kinetic_sum, square_sum, HasMass}
use Rattle.pic_record.specs.Readable.{IsReadableField}

-- the most that a kept velocity is, in size
abbrev pub most_kept : ℕ
most_kept = 67110912

pub kept_size : (side : ℕ) (v : ℤ) → side ≤ most_side → (pos 0 -ℤ pos (too_fast side)) ≤ℤ v → v <ℤ pos (too_fast side) → IsAtMost v most_kept
kept_size side v small least most = record { size = omega (arith, ints, small, least, most) }

square_most : (v : ℤ) (n : ℕ) → IsAtMost v n → square_of v ≤ n * n
unfolding square_of
square_most v n small = times_at_most (unsigned_abs v) (unsigned_abs v) n n small.size small.size

-- the kinetic energy
mass_most : (kinds : List Kind) (p : Particle) → All HasMass kinds → (kind_of kinds p).mass ≤ most_mass
mass_most kinds p masses = elim (cases_lt p.species (length kinds)) [
  | inl inside ↦ (All-get_or HasMass kinds p.species no_kind inside masses).most
  | inr past ↦ (let none = ap (λ (k : Kind). k.mass) (get_or_past kinds p.species no_kind past) in omega (arith, none))
]

abbrev most_kinetic : ℕ
most_kinetic = most_mass * (3 * (most_kept * most_kept))

kinetic_most : (kinds : List Kind) (side : ℕ) (p : Particle) → All HasMass kinds → side ≤ most_side → IsKeptVelocity side (spot p.v)
    → kinetic_of kinds p ≤ most_kinetic
unfolding kinetic_of
kinetic_most kinds side p masses small kept =
    let v = spot p.v in
    let x = square_most v.x most_kept (kept_size side v.x small (kept.least X) (kept.most X)) in
    let y = square_most v.y most_kept (kept_size side v.y small (kept.least Y) (kept.most Y)) in
    let z = square_most v.z most_kept (kept_size side v.z small (kept.least Z) (kept.most Z)) in
    times_at_most (kind_of kinds p).mass (speed_square v) most_mass (3 * (most_kept * most_kept)) (mass_most kinds p masses) (omega (arith, x, y, z))

pub kinetic_fits : (kinds : List Kind) (side : ℕ) (ps : List Particle) → All HasMass kinds → side ≤ most_side → length ps ≤ most_particles
    → All (λ (p : Particle). IsKeptVelocity side (spot p.v)) ps → kinetic_sum kinds ps < 2 ^ 128
unfolding kinetic_sum
kinetic_fits kinds side ps masses small few kept =
    let each = sum_by-le (kinetic_of kinds) most_kinetic ps (λ i d below. kinetic_most kinds side (get_or ps i d) masses small (kept i d below)) in
    let all = mul-le-mul_right most_kinetic few in
    omega (arith, each, all)

-- the energy of a field
cells_most : (n : Triple) → IsCells n → count_of n ≤ 128 * 128 * 128
cells_most n is = times_at_most (n.x * n.y) n.z (128 * 128) 128 (times_at_most n.x n.y 128 128 is.x_most is.y_most) is.z_most

pub squares_fit : (n : Triple) (by : Multiplier) (values : List ℤ) → IsCells n → IsReadableField n by values → square_sum by values < 2 ^ 128
unfolding square_sum
squares_fit n by values cells is =
    let square = most_force * most_force in
    let each = sum_by-le (λ v. square_of (scaled v by)) square values (λ i d below. square_most (scaled (get_or values i d) by) most_force
    (is.moderate i d below).force) in
    let few = cells_most n cells in
    let count = is.count in
    let most : length values ≤ 3 * (128 * 128 * 128) = omega (arith, few, count) in
    let all = mul-le-mul_right square most in
    omega (arith, each, all)
