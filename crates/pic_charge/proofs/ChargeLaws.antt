-- Laws of the charge of the particles.
use Rattle.std.proofs.Common.{◌≡◌, ℕ, ◌+◌, ◌*◌, ◌<◌, ◌≤◌, List, [], length, get_or, take, All, inl, inr, refl, sym, ◌∙◌, ap, subst, unsigned_abs, arith}
use Rattle.std.proofs.Math.IntN.{ℤ, pos, ◌+ℤ◌, ◌*ℤ◌}
use Rattle.std.proofs.Math.Nat.{le_trans}
use Rattle.std.proofs.lemmas.Bool.{cases_lt}
use Rattle.std.proofs.lemmas.Int.{ints, unsigned_abs-mul}
use Rattle.std.proofs.lemmas.List.{get_or_past}
use Rattle.pic_num.specs.declared.motion.Particle.{Particle}
use Rattle.pic_num.specs.declared.motion.Kind.{Kind}
use Rattle.pic_num.specs.Limits.{most_charge, most_particles, most_side}
use Rattle.pic_num.specs.Sizes.{IsAtMost}
use Rattle.pic_num.proofs.SizeLaws.{times_at_most}
use Rattle.pic_num.specs.Space.{Triple, triple}
use Rattle.pic_block.specs.Cells.{IsWithin}
use Rattle.pic_grid.specs.Hat.{periodic_hat, weight}
use Rattle.pic_grid.specs.Lattice.{NodeValues, node_at}
use Rattle.pic_grid.specs.PushPhase.{kind_of, no_kind}
use Rattle.pic_grid.specs.Species.{IsKind}
use Rattle.pic_grid.specs.Sums.{sum_over}
use Rattle.pic_grid.proofs.HatLaws.{hat_most}
use Rattle.pic_grid.proofs.OverLaws.{sum_over_more, sum_over_bound}
use Rattle.pic_grid.proofs.SpeciesLaws.{kind_most}
use Rattle.pic_charge.specs.Charge.{share, charge_of, most_node_charge, IsCharged}
use Rattle.pic_charge.specs.Spread.{NodesAtMost, Adds}

-- a side that was looked up is none too long
pub short_side : (side sub : ℕ) → sub ≡ side → sub ≤ most_side → side ≤ most_side
short_side side sub is most = omega (arith, is, most)

-- no particles
pub charge_of-nil : (side : ℕ) (n : Triple) (kinds : List Kind) (node : Triple) → charge_of side n kinds [] node ≡ pos 0
unfolding charge_of sum_over
charge_of-nil side n kinds node = refl

-- a loop's step: one particle more
pub charge_of_more : (side : ℕ) (n : Triple) (kinds : List Kind) (xs : List Particle) (i : ℕ) (d : Particle) (node : Triple) → i < length xs
    → charge_of side n kinds (take (i + 1) xs) node ≡ charge_of side n kinds (take i xs) node +ℤ share side n kinds (get_or xs i d) node
unfolding charge_of
charge_of_more side n kinds xs i d node below = sum_over_more (λ x. share side n kinds x node) xs i d below

-- the cube of a number that is at most another
pub cube_most : (side most : ℕ) → side ≤ most → side * side * side ≤ most * most * most
cube_most side most short = times_at_most (side * side) side (most * most) most (times_at_most side side most most short short) short

-- a weight is at most the cube of the side
pub weight_most : (side : ℕ) (n point node : Triple) → weight side n point node ≤ side * side * side
unfolding weight
weight_most side n point node =
    let on_x : ℕ = periodic_hat side (n.x * side) point.x (node.x * side) in
    let on_y : ℕ = periodic_hat side (n.y * side) point.y (node.y * side) in
    let on_z : ℕ = periodic_hat side (n.z * side) point.z (node.z * side) in
    times_at_most (on_x * on_y) on_z (side * side) side
    (times_at_most on_x on_y side side (hat_most side (n.x * side) point.x (node.x * side)) (hat_most side (n.y * side) point.y (node.y * side)))
    (hat_most side (n.z * side) point.z (node.z * side))

-- species within their limits are charged within theirs
pub all_charged : (kinds : List Kind) → All IsKind kinds → All IsCharged kinds
all_charged kinds limits i k below = record { size = kind_most (get_or kinds i k) (limits i k below) }

-- what bounds the charge of each species bounds that of a particle, whatever its species
pub charge_within : (kinds : List Kind) (x : Particle) (q : ℕ) → All (λ (k : Kind). IsAtMost k.charge q) kinds
    → unsigned_abs (kind_of kinds x).charge ≤ q
charge_within kinds x q limits = elim (cases_lt x.species (length kinds)) [
  | inl below ↦ (limits x.species no_kind below).size
  | inr past ↦ subst (λ (k : Kind). unsigned_abs k.charge ≤ q) (sym (get_or_past kinds x.species no_kind past)) (omega arith)
]

-- a particle's share is at most 12 times the greatest charge times the cube of the side
pub share_size : (side : ℕ) (n : Triple) (kinds : List Kind) (x : Particle) (node : Triple) (q : ℕ) → All (λ (k : Kind). IsAtMost k.charge q) kinds
    → unsigned_abs (share side n kinds x node) ≤ 12 * q * (side * side * side)
unfolding share
share_size side n kinds x node q limits =
    let charge : ℤ = (kind_of kinds x).charge in
    let w : ℕ = weight side n (triple x.x) node in
    let small = charge_within kinds x q limits in
    let twelve : unsigned_abs (pos 12 *ℤ charge) ≤ 12 * q = omega (arith, ints, small) in
    rw (unsigned_abs-mul (pos 12 *ℤ charge) (pos w))
    (times_at_most (unsigned_abs (pos 12 *ℤ charge)) w (12 * q) (side * side * side) twelve (weight_most side n (triple x.x) node))

-- the charge of a node is at most that for each particle
pub charge_of_size : (side : ℕ) (n : Triple) (kinds : List Kind) (xs : List Particle) (node : Triple) (q : ℕ) → All (λ (k : Kind). IsAtMost k.charge q) kinds
    → unsigned_abs (charge_of side n kinds xs node) ≤ length xs * (12 * q * (side * side * side))
unfolding charge_of
charge_of_size side n kinds xs node q limits =
    sum_over_bound (λ x. share side n kinds x node) xs (12 * q * (side * side * side)) (λ x. share_size side n kinds x node q limits)

-- with no longer side and no more particles than the limits it is no larger than that of a node can be
pub charge_of_most : (side : ℕ) (n : Triple) (kinds : List Kind) (xs : List Particle) (node : Triple) → side ≤ most_side → All IsCharged kinds
    → length xs ≤ most_particles → IsAtMost (charge_of side n kinds xs node) most_node_charge
charge_of_most side n kinds xs node short limits few =
    let size = charge_of_size side n kinds xs node most_charge limits in
    let cube = cube_most side most_side short in
    let each = times_at_most (12 * most_charge) (side * side * side) (12 * most_charge) (most_side * most_side * most_side) (omega arith) cube in
    record {
      size = le_trans size
          (times_at_most (length xs) (12 * most_charge * (side * side * side)) most_particles
          (12 * most_charge * (most_side * most_side * most_side)) few each);
    }

-- the nodes hold the charge of particles
pub record HoldsCharge (side : ℕ) (n : Triple) (kinds : List Kind) (xs : List Particle) (nodes : NodeValues) : Type 0 where
  pub cells : nodes.cells ≡ n
  pub values : (p : Triple) → IsWithin p n → node_at nodes p ≡ charge_of side n kinds xs p

pub holds_none : (side : ℕ) (n : Triple) (kinds : List Kind) (nodes : NodeValues) → nodes.cells ≡ n
    → ((p : Triple) → IsWithin p n → node_at nodes p ≡ pos 0)
    → HoldsCharge side n kinds [] nodes
holds_none side n kinds nodes same zeros = record { cells = same; values = λ p within. zeros p within ∙ sym (charge_of-nil side n kinds p) }

pub holds_more : (side : ℕ) (n : Triple) (kinds : List Kind) (xs : List Particle) (i : ℕ) (d : Particle) (old new : NodeValues) → i < length xs
    → HoldsCharge side n kinds (take i xs) old
    → Adds old new (share side n kinds (get_or xs i d))
    → HoldsCharge side n kinds (take (i + 1) xs) new
holds_more side n kinds xs i d old new below so_far added = record {
  cells = added.cells ∙ so_far.cells;
  values = λ p within.
      let inside : IsWithin p old.cells = subst (λ (m : Triple). IsWithin p m) (sym so_far.cells) within in
      added.values p inside
      ∙ ap (λ (t : ℤ). t +ℤ share side n kinds (get_or xs i d) p) (so_far.values p within)
      ∙ sym (charge_of_more side n kinds xs i d p below);
}

-- there is room for a particle more
pub holds_room : (side : ℕ) (n : Triple) (kinds : List Kind) (xs : List Particle) (nodes : NodeValues) → side ≤ most_side → All IsCharged kinds
    → length xs ≤ most_particles → HoldsCharge side n kinds xs nodes → NodesAtMost nodes most_node_charge
holds_room side n kinds xs nodes short limits few holds = record {
  at_node = λ p within.
      let inside : IsWithin p n = subst (λ (m : Triple). IsWithin p m) holds.cells within in
      subst (λ (z : ℤ). IsAtMost z most_node_charge) (sym (holds.values p inside)) (charge_of_most side n kinds xs p short limits few);
}
