use Rattle.std.proofs.Common.{◌≡◌, ◌+◌, ◌<◌, ◌+ℤ◌, ◌-ℤ◌, ℤ, length, to_z, of_z, sym, ◌∙◌, subst, arith}
use Rattle.std.proofs.lemmas.Nat.{le_or_l, le_or_r}
use mir.Syntax.{w128}
use mir.Val.{SFits}
use Rattle.pic_num.specs.Sizes.{IsAtMost}
use Rattle.pic_num.proofs.SizeLaws.{codes, code_is, code_fits, at_most_more}
use Rattle.pic_field.specs.FieldPhases.{most_lessened}
use Rattle.pic_field.specs.Rows.{most_row, row_at, curl_of, curl_at}
use Rattle.pic_field.proofs.RowLaws.{row_more, row_rest, small_more, wider}
use Rattle.pic_field.proofs.row.curl_row.Goals as goal

-- the value at a place: the old one less the curl, as the code computes it
module _ (o a b c d : ℤ) (old : IsAtMost o most_lessened) (far_third : IsAtMost a most_row) (near_third : IsAtMost b most_row)
    (far_second : IsAtMost c most_row) (near_second : IsAtMost d most_row)
  where
    abbrev word : ℤ → ℤ
    word z = to_z w128 (of_z w128 z)

    abbrev curl : ℤ
    curl = word (word (word a -ℤ word b) -ℤ word c) +ℤ word d

    three_fit : SFits w128 (word (word a -ℤ word b) -ℤ word c)
    three_fit = code_fits w128 (search codes depth 18) tt

    curl_fits : SFits w128 curl
    curl_fits = code_fits w128 (search codes depth 20) tt

    value_fits : SFits w128 (word o -ℤ word curl)
    value_fits = code_fits w128 (search codes depth 24) tt

    value_is : word (word o -ℤ word curl) ≡ o -ℤ curl_of a b c d
    value_is = code_is (search codes depth 24) tt

pub overflow_sub-curl-in-loop-i : goal.overflow_sub-curl-in-loop-i
overflow_sub-curl-in-loop-i c =
    let i = c.loop-i.i in
    let h = c.requires in
    three_fit (row_at c.args.row.now i) _ _ _ _ (h.small.at_most i c.loop-i-test.true) (h.four.far_third.small.at_most i c.loop-i-test.true)
    (h.four.near_third.small.at_most i c.loop-i-test.true) (h.four.far_second.small.at_most i c.loop-i-test.true)
    (h.four.near_second.small.at_most i c.loop-i-test.true)

pub overflow_add-curl : goal.overflow_add-curl
overflow_add-curl c =
    let i = c.loop-i.i in
    let h = c.requires in
    curl_fits (row_at c.args.row.now i) _ _ _ _ (h.small.at_most i c.loop-i-test.true) (h.four.far_third.small.at_most i c.loop-i-test.true)
    (h.four.near_third.small.at_most i c.loop-i-test.true) (h.four.far_second.small.at_most i c.loop-i-test.true)
    (h.four.near_second.small.at_most i c.loop-i-test.true)

pub overflow_sub-value : goal.overflow_sub-value
overflow_sub-value c =
    let i = c.loop-i.i in
    let h = c.requires in
    let own : IsAtMost (row_at c.loop-i.row i) most_lessened =
    subst (λ (v : ℤ). IsAtMost v most_lessened) (sym (c.loop-i.invariant.rest i (omega arith))) (h.small.at_most i c.loop-i-test.true) in
    value_fits _ _ _ _ _ own (h.four.far_third.small.at_most i c.loop-i-test.true)
    (h.four.near_third.small.at_most i c.loop-i-test.true) (h.four.far_second.small.at_most i c.loop-i-test.true)
    (h.four.near_second.small.at_most i c.loop-i-test.true)

pub loop-i-preserved : goal.loop-i-preserved
loop-i-preserved c =
    let i = c.loop-i.i in
    let h = c.requires in
    let as_it_was = c.loop-i.invariant.rest i (omega arith) in
    let own : IsAtMost (row_at c.loop-i.row i) most_lessened =
    subst (λ (v : ℤ). IsAtMost v most_lessened) (sym as_it_was) (h.small.at_most i c.loop-i-test.true) in
    let value = value_is _ _ _ _ _ own (h.four.far_third.small.at_most i c.loop-i-test.true)
    (h.four.near_third.small.at_most i c.loop-i-test.true) (h.four.far_second.small.at_most i c.loop-i-test.true)
    (h.four.near_second.small.at_most i c.loop-i-test.true) in
    let inside : i < length c.loop-i.row = omega arith in
    record {
      values = row_more (λ k z. z ≡ row_at c.args.row.now k -ℤ curl_at c.args.four.now k)
          c.loop-i.row i _ inside c.loop-i.invariant.values (value ∙ (λ j. as_it_was j -ℤ curl_at c.args.four.now i));
      rest = row_rest c.args.row.now c.loop-i.row i _ c.loop-i.invariant.rest;
      small = small_more _ c.loop-i.row i _ inside
          (wider c.loop-i.sizes _ i c.loop-i.row (le_or_l c.loop-i.sizes c.size_of-sizes.result) c.loop-i.invariant.small)
          (let more = le_or_r c.loop-i.sizes c.size_of-sizes.result in
          at_most_more _ (c.size_of-sizes.result + 1) _ (omega (arith, more)) c.size_of-sizes.ensures);
    }
