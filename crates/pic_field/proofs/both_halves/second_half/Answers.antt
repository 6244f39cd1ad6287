use Rattle.std.proofs.Common.{◌≡◌, ◌+◌, ◌^◌, ◌<◌, ◌+ℤ◌, ◌-ℤ◌, ℤ, length, to_z, of_z, sym, ◌∙◌, ap, subst, arith}
use Rattle.std.proofs.lemmas.Nat.{le_or_l, le_or_r}
use mir.Syntax.{w128}
use Rattle.pic_num.specs.Rounding.{scaled}
use Rattle.pic_num.specs.Sizes.{IsAtMost}
use Rattle.pic_num.proofs.SizeLaws.{codes, code_is, at_most_more}
use Rattle.pic_field.specs.Rows.{row_at}
use Rattle.pic_field.proofs.RowLaws.{row_more, row_rest, small_more, wider}
use Rattle.pic_field.proofs.both_halves.second_half.Goals as goal

abbrev word : ℤ → ℤ
word z = to_z w128 (of_z w128 z)

-- a value after both half steps, from that between them and that before, as the code computes it
value_is : (v o : ℤ) → IsAtMost v (2 ^ 90) → IsAtMost o (2 ^ 90) → word (word (word v +ℤ word v) -ℤ word o) ≡ v +ℤ v -ℤ o
value_is v o between before = code_is (search codes depth 18) tt

held : (v : ℤ) → IsAtMost v (2 ^ 121) → word v ≡ v
held v small = code_is (search codes depth 6) tt

pub loop-i-preserved : goal.loop-i-preserved
loop-i-preserved c =
    let i = c.loop-i.i in
    let h = c.requires in
    let inv = c.loop-i.invariant in
    let as_it_was = inv.rest i (omega arith) in
    let as_it_was_before = inv.force_rest i (omega arith) in
    let between : IsAtMost (row_at c.loop-i.values i) (2 ^ 90) =
    subst (λ (v : ℤ). IsAtMost v (2 ^ 90)) (sym as_it_was) (h.small.at_most i c.loop-i-test.true) in
    let before : IsAtMost (row_at c.loop-i.force i) (2 ^ 90) =
    subst (λ (v : ℤ). IsAtMost v (2 ^ 90)) (sym as_it_was_before) (h.before.at_most i c.loop-i-test.true) in
    let inside : i < length c.loop-i.values = omega arith in
    let inside_force : i < length c.loop-i.force = omega (arith, h.length) in
    let read : word (row_at c.loop-i.values i) ≡ row_at c.loop-i.values i = held _ (at_most_more _ (2 ^ 90) (2 ^ 121) (omega arith) between) in
    record {
      values = row_more (λ k z. z ≡ row_at c.args.values.now k +ℤ row_at c.args.values.now k -ℤ row_at c.args.force.now k)
          c.loop-i.values i _ inside inv.values
          (value_is (row_at c.loop-i.values i) (row_at c.loop-i.force i) between before ∙ (λ j. as_it_was j +ℤ as_it_was j -ℤ as_it_was_before j));
      forced = row_more (λ k z. z ≡ scaled (row_at c.args.values.now k) c.args.by) c.loop-i.force i _ inside_force inv.forced
          (held c.scale_value.result c.scale_value.ensures.size ∙ c.scale_value.ensures.value
          ∙ ap (λ (z : ℤ). scaled z c.args.by) (read ∙ as_it_was));
      rest = row_rest c.args.values.now c.loop-i.values i _ inv.rest;
      force_rest = row_rest c.args.force.now c.loop-i.force i _ inv.force_rest;
      small = small_more _ c.loop-i.values i _ inside
          (wider c.loop-i.sizes _ i c.loop-i.values (le_or_l c.loop-i.sizes c.size_of-sizes.result) inv.small)
          (let more = le_or_r c.loop-i.sizes c.size_of-sizes.result in
          at_most_more _ (c.size_of-sizes.result + 1) _ (omega (arith, more)) c.size_of-sizes.ensures);
    }
