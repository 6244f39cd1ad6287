-- Sums of 64 bits, and how large they can be.
use Rattle.std.proofs.Common.{◌≡◌, ℕ, ◌+◌, ◌*◌, ◌^◌, ◌≤◌, List, [], length, replicate, take, slice_index_or, slice_set, refl, sym, ◌∙◌, ap, subst, arith}
use Rattle.std.proofs.Math.IntN.{ℤ, pos, ◌+ℤ◌}
use Rattle.std.proofs.Math.Nat.{le_trans}
use Rattle.std.proofs.lemmas.List.{get_or-set_same, get_or-replicate, length-take}
use mir.Syntax.{w64, w128}
use mir.Val.{to_z, of_z}
use Rattle.pic_num.specs.declared.motion.Particle.{Particle}
use Rattle.pic_num.specs.declared.motion.Kind.{Kind}
use Rattle.pic_num.proofs.SizeLaws.{codes, code_is, times_at_most}
use Rattle.pic_num.specs.Sizes.{IsAtMost}
use Rattle.pic_num.specs.Space.{Triple}
use Rattle.pic_block.specs.Cells.{IsWithin, count_of, index_of}
use Rattle.pic_block.proofs.CellLaws.{index_of_below}
use Rattle.pic_grid.specs.Lattice.{NodeValues, node_at, with_node}
use Rattle.pic_grid.specs.Hat.{only_at}
use Rattle.pic_charge.specs.Spread.{spread, Adds}
use Rattle.pic_charge.specs.Sums.{nodes_in, SumsAtMost, StaySmall}
use Rattle.pic_charge.proofs.ChargeLaws.{cube_most, charge_of_size, HoldsCharge, holds_none}
use Rattle.pic_charge.proofs.NodeLaws.{node_added}

-- a sum as the code computes it
abbrev held : ℤ → ℤ → ℤ
held x v = to_z w64 (of_z w64 (to_z w64 (of_z w64 x) +ℤ to_z w64 (of_z w64 v)))

held_is : (x v : ℤ) → IsAtMost x (2 ^ 62 + 3 * 2 ^ 59) → IsAtMost v (2 ^ 59) → held x v ≡ x +ℤ v
held_is x v h k = code_is (search codes depth 8) tt

-- an amount that is added at the place of a node
pub sum_added : (n : Triple) (xs : List ℤ) (q : Triple) (place : ℕ) (amount : ℤ) → IsAtMost amount (2 ^ 59) → length xs ≡ count_of n → IsWithin q n
    → SumsAtMost n xs (2 ^ 62 + 3 * 2 ^ 59) → place ≡ index_of n q
    → Adds (nodes_in n xs) (nodes_in n (slice_set xs place (held (slice_index_or xs place (pos 0)) amount)))
    (spread amount (only_at q.x 1) (only_at q.y 1) (only_at q.z 1))
sum_added n xs q place amount size long within room at =
    let old : NodeValues = nodes_in n xs in
    let new : NodeValues = nodes_in n (slice_set xs place (held (slice_index_or xs place (pos 0)) amount)) in
    let sum : ℤ = node_at old q +ℤ amount in
    let is : held (node_at old q) amount ≡ sum = held_is (node_at old q) amount (room.at_node q within) size in
    let after : new ≡ with_node old q sum =
    (λ i. nodes_in n (slice_set xs (at i) (held (slice_index_or xs (at i) (pos 0)) amount))) ∙ (λ i. with_node old q (is i)) in
    let below = index_of_below n q within in
    node_added old new q amount sum after
    (ap (λ (f : NodeValues). node_at f q) after ∙ get_or-set_same xs (index_of n q) sum (pos 0) (omega (arith, long, below)))
    within

widened_is : (x : ℤ) → IsAtMost x (2 ^ 62) → to_z w128 (of_z w128 (to_z w64 (of_z w64 x))) ≡ x
widened_is x small = code_is (search codes depth 8) tt

-- a sum as the code widens it
pub sum_written : (n : Triple) (xs : List ℤ) (i : ℕ) (q : Triple) (v : ℤ) → SumsAtMost n xs (2 ^ 62) → IsWithin q n → index_of n q ≡ i
    → v ≡ to_z w64 (of_z w64 (slice_index_or xs i (pos 0)))
    → to_z w128 (of_z w128 v) ≡ node_at (nodes_in n xs) q
sum_written n xs i q v small within at is =
    (λ j. to_z w128 (of_z w128 (is j)))
    ∙ (λ j. to_z w128 (of_z w128 (to_z w64 (of_z w64 (slice_index_or xs (sym at j) (pos 0))))))
    ∙ widened_is (node_at (nodes_in n xs) q) (small.at_node q within)

-- sums of zeros are the charge of no particles
pub sums_none : (side : ℕ) (n : Triple) (kinds : List Kind) (count : ℕ) (sums : List ℤ) → sums ≡ replicate count (pos 0) → count ≡ count_of n
    → HoldsCharge side n kinds [] (nodes_in n sums)
sums_none side n kinds count sums zeros long =
    holds_none side n kinds (nodes_in n sums) refl (λ p within.
    let below = index_of_below n p within in
    ap (λ xs. slice_index_or xs (index_of n p) (pos 0)) zeros ∙ get_or-replicate count (index_of n p) (pos 0) (pos 0) (omega (arith, long, below)))

-- there is room for a particle more
pub sums_room : (side : ℕ) (n : Triple) (kinds : List Kind) (xs : List Particle) (i : ℕ) (sums : List ℤ) → StaySmall side kinds (length xs)
    → HoldsCharge side n kinds (take i xs) (nodes_in n sums) → SumsAtMost n sums (2 ^ 62)
sums_room side n kinds xs i sums small holds = record {
  at_node = λ p within.
      let each : ℕ = 12 * small.greatest * (side * side * side) in
      let size = charge_of_size side n kinds (take i xs) p small.greatest small.charges in
      let fewer = length-take i xs in
      let all = times_at_most (length (take i xs)) each (length xs) each (omega (arith, fewer)) (omega arith) in
      subst (λ (z : ℤ). IsAtMost z (2 ^ 62)) (sym (holds.values p within)) (record { size = le_trans size (le_trans all small.sums) });
}

-- what a particle of a small charge gives at most
pub most_at_most : (side charge : ℕ) → side ≤ 2 ^ 14 → charge ≤ 2 ^ 13 → 12 * charge * (side * side * side) ≤ 2 ^ 59
most_at_most side charge short low =
    let all = times_at_most (12 * charge) (side * side * side) (12 * 2 ^ 13) (2 ^ 14 * 2 ^ 14 * 2 ^ 14) (omega (arith, low)) (cube_most side (2 ^ 14) short) in
    omega (arith, all)
