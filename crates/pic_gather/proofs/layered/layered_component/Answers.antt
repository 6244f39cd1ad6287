use Rattle.std.proofs.Common.{◌≡◌, ℤ, pos, ◌*◌, ◌^◌, ◌≤◌, slice_index, ap, ◌∙◌, arith}
use Rattle.std.proofs.Math.Nat.{mul-le-mul}
use Rattle.std.proofs.lemmas.Int.{to_z-of_z}
use mir.Syntax.{w64, w128}
use Rattle.pic_num.specs.Limits.{most_force}
use Rattle.pic_num.specs.Rounding.{rounded}
use Rattle.pic_num.specs.Sizes.{IsAtMost}
use Rattle.pic_num.specs.Space.{Triple}
use Rattle.pic_gather.proofs.LayeredLaws.{list_of, low_force, high_force, low_weak, high_weak, row_is}
use Rattle.pic_gather.proofs.MixLaws.{mix, weak_row, row_most, held_row, held_sum, whole_row, four_mixed, four_size, cube_of}
use Rattle.pic_gather.proofs.HalfLaws.{held}
use Rattle.pic_gather.specs.Forces.{row_sum, whole_sum}
use Rattle.pic_gather.proofs.layered.layered_component.Goals as goal
use Rattle.pic_gather.proofs.layered.layered_component.Goals.{After-row-high_high}

pub row-low_low-requires-clause-low : goal.row-low_low-requires-clause-low
row-low_low-requires-clause-low c =
    let l = list_of _ _ _ _ _ _ c.requires.low c.requires.on.z.low c.requires.small c.number.ensures (c.numbers.ensures.value ∙ c.cells.ensures.value) in
    let y = c.requires.on.y in
    low_force _ _ _ _ _ l c.args.at.x c.requires.on.x _ _ y.pair.low y.low

pub row-low_low-requires-clause-high : goal.row-low_low-requires-clause-high
row-low_low-requires-clause-high c =
    let l = list_of _ _ _ _ _ _ c.requires.low c.requires.on.z.low c.requires.small c.number.ensures (c.numbers.ensures.value ∙ c.cells.ensures.value) in
    let y = c.requires.on.y in
    high_force _ _ _ _ _ l c.args.at.x c.requires.on.x _ _ y.pair.low y.low

pub row-high_low-requires-clause-low : goal.row-high_low-requires-clause-low
row-high_low-requires-clause-low c =
    let l = list_of _ _ _ _ _ _ c.requires.low c.requires.on.z.low c.requires.small c.number.ensures (c.numbers.ensures.value ∙ c.cells.ensures.value) in
    let y = c.requires.on.y in
    low_force _ _ _ _ _ l c.args.at.x c.requires.on.x _ _ y.pair.high y.high

pub row-high_low-requires-clause-high : goal.row-high_low-requires-clause-high
row-high_low-requires-clause-high c =
    let l = list_of _ _ _ _ _ _ c.requires.low c.requires.on.z.low c.requires.small c.number.ensures (c.numbers.ensures.value ∙ c.cells.ensures.value) in
    let y = c.requires.on.y in
    high_force _ _ _ _ _ l c.args.at.x c.requires.on.x _ _ y.pair.high y.high

pub row-low_high-requires-clause-low : goal.row-low_high-requires-clause-low
row-low_high-requires-clause-low c =
    let l = list_of _ _ _ _ _ _ c.requires.high c.requires.on.z.high c.requires.small c.number.ensures (c.numbers.ensures.value ∙ c.cells.ensures.value) in
    let y = c.requires.on.y in
    low_force _ _ _ _ _ l c.args.at.x c.requires.on.x _ _ y.pair.low y.low

pub row-low_high-requires-clause-high : goal.row-low_high-requires-clause-high
row-low_high-requires-clause-high c =
    let l = list_of _ _ _ _ _ _ c.requires.high c.requires.on.z.high c.requires.small c.number.ensures (c.numbers.ensures.value ∙ c.cells.ensures.value) in
    let y = c.requires.on.y in
    high_force _ _ _ _ _ l c.args.at.x c.requires.on.x _ _ y.pair.low y.low

pub row-high_high-requires-clause-low : goal.row-high_high-requires-clause-low
row-high_high-requires-clause-low c =
    let l = list_of _ _ _ _ _ _ c.requires.high c.requires.on.z.high c.requires.small c.number.ensures (c.numbers.ensures.value ∙ c.cells.ensures.value) in
    let y = c.requires.on.y in
    low_force _ _ _ _ _ l c.args.at.x c.requires.on.x _ _ y.pair.high y.high

pub row-high_high-requires-clause-high : goal.row-high_high-requires-clause-high
row-high_high-requires-clause-high c =
    let l = list_of _ _ _ _ _ _ c.requires.high c.requires.on.z.high c.requires.small c.number.ensures (c.numbers.ensures.value ∙ c.cells.ensures.value) in
    let y = c.requires.on.y in
    high_force _ _ _ _ _ l c.args.at.x c.requires.on.x _ _ y.pair.high y.high

pub row-low_low-requires-clause-most : goal.row-low_low-requires-clause-most
row-low_low-requires-clause-most c = omega (arith, c.requires.on.x.pair.whole, c.requires.most)

pub row-high_low-requires-clause-most : goal.row-high_low-requires-clause-most
row-high_low-requires-clause-most c = omega (arith, c.requires.on.x.pair.whole, c.requires.most)

pub row-low_high-requires-clause-most : goal.row-low_high-requires-clause-most
row-low_high-requires-clause-most c = omega (arith, c.requires.on.x.pair.whole, c.requires.most)

pub row-high_high-requires-clause-most : goal.row-high_high-requires-clause-most
row-high_high-requires-clause-most c = omega (arith, c.requires.on.x.pair.whole, c.requires.most)

pub wide_mix-sum-requires : goal.wide_mix-sum-requires
wide_mix-sum-requires c =
    let side = c.args.force.now.side in
    let most = c.requires.most in
    let x = c.requires.on.x.pair.whole in
    record {
      low_low_small = row_most _ side most (whole_row _ _ _ c.row-low_low.type_inv x c.row-low_low.ensures.size);
      high_low_small = row_most _ side most (whole_row _ _ _ c.row-high_low.type_inv x c.row-high_low.ensures.size);
      low_high_small = row_most _ side most (whole_row _ _ _ c.row-low_high.type_inv x c.row-low_high.ensures.size);
      high_high_small = row_most _ side most (whole_row _ _ _ c.row-high_high.type_inv x c.row-high_high.ensures.size);
      y_most = omega (arith, c.requires.on.y.pair.whole, most);
      z_most = omega (arith, c.requires.on.z.whole, most);
    }

pub overflow_mul-first : goal.overflow_mul-first
overflow_mul-first c =
    let x : slice_index c.numbers.result 0 ≤ 2 ^ 7 = omega (arith, c.numbers.ensures.limits.x_most, ap (λ (n : Triple). n.x) c.numbers.ensures.value) in
    let y : slice_index c.numbers.result 1 ≤ 2 ^ 7 = omega (arith, c.numbers.ensures.limits.y_most, ap (λ (n : Triple). n.y) c.numbers.ensures.value) in
    let all = mul-le-mul x y in record { fits = omega (arith, all) }

pub weak_sum-sum-requires-clause-low_low_small : goal.weak_sum-sum-requires-clause-low_low_small
weak_sum-sum-requires-clause-low_low_small c =
    let l = list_of _ _ _ _ _ _ c.requires.low c.requires.on.z.low c.requires.small c.number.ensures (c.numbers.ensures.value ∙ c.cells.ensures.value) in
    let x = c.requires.on.x in
    let y = c.requires.on.y in
    let weak = c.requires.weak c.if-weak.true in
    weak_row _ _ _ c.row-low_low.type_inv x.pair.whole weak.few (c.row-low_low.ensures.weak
    (low_weak _ _ _ _ _ l c.args.at.x x _ _ y.pair.low y.low weak.low) (high_weak _ _ _ _ _ l c.args.at.x x _ _ y.pair.low y.low weak.low))

pub weak_sum-sum-requires-clause-high_low_small : goal.weak_sum-sum-requires-clause-high_low_small
weak_sum-sum-requires-clause-high_low_small c =
    let l = list_of _ _ _ _ _ _ c.requires.low c.requires.on.z.low c.requires.small c.number.ensures (c.numbers.ensures.value ∙ c.cells.ensures.value) in
    let x = c.requires.on.x in
    let y = c.requires.on.y in
    let weak = c.requires.weak c.if-weak.true in
    weak_row _ _ _ c.row-high_low.type_inv x.pair.whole weak.few (c.row-high_low.ensures.weak
    (low_weak _ _ _ _ _ l c.args.at.x x _ _ y.pair.high y.high weak.low) (high_weak _ _ _ _ _ l c.args.at.x x _ _ y.pair.high y.high weak.low))

pub weak_sum-sum-requires-clause-low_high_small : goal.weak_sum-sum-requires-clause-low_high_small
weak_sum-sum-requires-clause-low_high_small c =
    let l = list_of _ _ _ _ _ _ c.requires.high c.requires.on.z.high c.requires.small c.number.ensures (c.numbers.ensures.value ∙ c.cells.ensures.value) in
    let x = c.requires.on.x in
    let y = c.requires.on.y in
    let weak = c.requires.weak c.if-weak.true in
    weak_row _ _ _ c.row-low_high.type_inv x.pair.whole weak.few (c.row-low_high.ensures.weak
    (low_weak _ _ _ _ _ l c.args.at.x x _ _ y.pair.low y.low weak.high) (high_weak _ _ _ _ _ l c.args.at.x x _ _ y.pair.low y.low weak.high))

pub weak_sum-sum-requires-clause-high_high_small : goal.weak_sum-sum-requires-clause-high_high_small
weak_sum-sum-requires-clause-high_high_small c =
    let l = list_of _ _ _ _ _ _ c.requires.high c.requires.on.z.high c.requires.small c.number.ensures (c.numbers.ensures.value ∙ c.cells.ensures.value) in
    let x = c.requires.on.x in
    let y = c.requires.on.y in
    let weak = c.requires.weak c.if-weak.true in
    weak_row _ _ _ c.row-high_high.type_inv x.pair.whole weak.few (c.row-high_high.ensures.weak
    (low_weak _ _ _ _ _ l c.args.at.x x _ _ y.pair.high y.high weak.high) (high_weak _ _ _ _ _ l c.args.at.x x _ _ y.pair.high y.high weak.high))

-- the four rows are those of the lattice,
record AreRows (c : After-row-high_high) : Type 0 where
  low_low : held c.row-low_low.result ≡ row_sum c.args.force.now c.args.axis c.args.at.x.pair c.args.at.y.pair.low c.args.at.z.low
  high_low : held c.row-high_low.result ≡ row_sum c.args.force.now c.args.axis c.args.at.x.pair c.args.at.y.pair.high c.args.at.z.low
  low_high : held c.row-low_high.result ≡ row_sum c.args.force.now c.args.axis c.args.at.x.pair c.args.at.y.pair.low c.args.at.z.high
  high_high : held c.row-high_high.result ≡ row_sum c.args.force.now c.args.axis c.args.at.x.pair c.args.at.y.pair.high c.args.at.z.high

rows : (c : After-row-high_high) → AreRows c
rows c =
    let x = c.args.at.x in
    let low = list_of _ _ _ _ _ _ c.requires.low c.requires.on.z.low c.requires.small c.number.ensures (c.numbers.ensures.value ∙ c.cells.ensures.value) in
    let high = list_of _ _ _ _ _ _ c.requires.high c.requires.on.z.high c.requires.small c.number.ensures (c.numbers.ensures.value ∙ c.cells.ensures.value) in
    let y = c.requires.on.y in
    record {
      low_low = to_z-of_z w64 c.row-low_low.result (record { sfits = c.row-low_low.type_inv })
          ∙ row_is _ _ _ _ _ low x c.requires.on.x _ _ y.pair.low y.low _ c.row-low_low.ensures.value;
      high_low = to_z-of_z w64 c.row-high_low.result (record { sfits = c.row-high_low.type_inv })
          ∙ row_is _ _ _ _ _ low x c.requires.on.x _ _ y.pair.high y.high _ c.row-high_low.ensures.value;
      low_high = to_z-of_z w64 c.row-low_high.result (record { sfits = c.row-low_high.type_inv })
          ∙ row_is _ _ _ _ _ high x c.requires.on.x _ _ y.pair.low y.low _ c.row-low_high.ensures.value;
      high_high = to_z-of_z w64 c.row-high_high.result (record { sfits = c.row-high_high.type_inv })
          ∙ row_is _ _ _ _ _ high x c.requires.on.x _ _ y.pair.high y.high _ c.row-high_high.ensures.value;
    }

-- and a mix of them is the sum over all places, no larger than the largest force times the cube of the side
module _ (c : After-row-high_high) (r : ℤ)
    (is : r ≡ mix (mix (held c.row-low_low.result) (held c.row-high_low.result) c.args.at.y.pair.low_weight c.args.at.y.pair.high_weight)
    (mix (held c.row-low_high.result) (held c.row-high_high.result) c.args.at.y.pair.low_weight c.args.at.y.pair.high_weight)
    c.args.at.z.low_weight c.args.at.z.high_weight)
  where
    sum_is : r ≡ whole_sum c.args.force.now c.args.axis c.args.at.x.pair c.args.at.y.pair c.args.at.z
    sum_is =
        let at = rows c in
        four_mixed c.args.force.now c.args.axis c.args.at.x.pair c.args.at.y.pair c.args.at.z _ _ _ _ r c.requires.on.y.pair c.requires.on.z is
        at.low_low at.high_low at.low_high at.high_high

    sum_size : IsAtMost r (most_force * 2 ^ c.args.cube.bits)
    sum_size =
        let x = c.requires.on.x.pair.whole in
        let small = four_size c.args.force.now c.args.axis c.args.at.x.pair c.args.at.y.pair c.args.at.z _ _ _ _ r c.requires.on.y.pair c.requires.on.z is
        (whole_row _ _ _ c.row-low_low.type_inv x c.row-low_low.ensures.size) (whole_row _ _ _ c.row-high_low.type_inv x c.row-high_low.ensures.size)
        (whole_row _ _ _ c.row-low_high.type_inv x c.row-low_high.ensures.size) (whole_row _ _ _ c.row-high_high.type_inv x c.row-high_high.ensures.size)
        in
        cube_of _ _ c.args.cube c.requires.cube small

pub weak_mean-requires-clause-forces : goal.weak_mean-requires-clause-forces
weak_mean-requires-clause-forces c =
    let at = (goal.at.weak_mean-requires-clause-forces c).After-row-high_high in
    let r = c.weak_sum-sum.result in
    held_row r _ c.weak_sum-sum.type_inv (sum_size at r c.weak_sum-sum.ensures.value)

pub returns-then-weak-clause-value : goal.returns-then-weak-clause-value
returns-then-weak-clause-value c =
    let at = (goal.at.returns-then-weak-clause-value c).After-row-high_high in
    let r = c.weak_sum-sum.result in
    let sum = to_z-of_z w64 r (record { sfits = c.weak_sum-sum.type_inv }) ∙ sum_is at r c.weak_sum-sum.ensures.value in
    to_z-of_z w64 c.weak_mean.result (record { sfits = c.weak_mean.type_inv }) ∙ c.weak_mean.ensures.value
    ∙ (λ i. rounded (sum i) (pos (c.requires.cube.cube i)))

pub mean-requires-clause-small : goal.mean-requires-clause-small
mean-requires-clause-small c =
    let at = (goal.at.mean-requires-clause-small c).After-row-high_high in
    let r = c.wide_mix-sum.result in
    held_sum r _ c.wide_mix-sum.type_inv (sum_size at r c.wide_mix-sum.ensures)

pub returns-clause-value : goal.returns-clause-value
returns-clause-value c =
    let at = (goal.at.returns-clause-value c).After-row-high_high in
    let r = c.wide_mix-sum.result in
    let sum = to_z-of_z w128 r (record { sfits = c.wide_mix-sum.type_inv }) ∙ sum_is at r c.wide_mix-sum.ensures in
    to_z-of_z w64 c.mean.result (record { sfits = c.mean.type_inv }) ∙ c.mean.ensures.value ∙ (λ i. rounded (sum i) (pos (c.requires.cube.cube i)))

pub returns-clause-size : goal.returns-clause-size
returns-clause-size c = held_row c.mean.result _ c.mean.type_inv c.mean.ensures.size
