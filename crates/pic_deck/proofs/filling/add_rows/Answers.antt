use Rattle.std.proofs.Common.{◌≡◌, ◌^◌, refl, get_or, ◌∙◌, arith}
use Rattle.std.proofs.Math.IntN.{◌+ℤ◌}
use Rattle.std.proofs.lemmas.Int.{ints, to_z-of_z}
use Rattle.std.proofs.lemmas.List.{length-set}
use mir.Syntax.{w64, w128}
use mir.Val.{to_z, of_z}
use Rattle.pic_num.specs.Sizes.{IsAtMost}
use Rattle.pic_num.specs.Space.{triple}
use Rattle.pic_num.proofs.SizeLaws.{codes, code_fits, code_is}
use Rattle.pic_block.specs.Cells.{IsWithin}
use Rattle.pic_grid.specs.Sums.{sum_over}
use Rattle.pic_walk.specs.Rows.{no_row}
use Rattle.pic_deck.proofs.InitialLaws.{row_step, value_size, value_64, fits_64}
use Rattle.pic_deck.proofs.filling.add_rows.Goals as goal

pub loop-row-init : goal.loop-row-init
unfolding sum_over
loop-row-init c = record {
  cells = refl;
  side = refl;
  parts = refl;
  shape = c.requires.shape;
  values = λ a p h. omega (arith, ints);
}

pub at-requires : goal.at-requires
at-requires c = rw c.loop-row.invariant.cells (c.requires.rows.each c.loop-row.row-index (omega arith)).within

pub set-requires : goal.set-requires
set-requires c = rw c.loop-row.invariant.cells (c.requires.rows.each c.loop-row.row-index (omega arith)).within

pub overflow_add-value : goal.overflow_add-value
overflow_add-value c =
    let inv = c.loop-row.invariant in
    let good = c.requires.rows.each c.loop-row.row-index (omega arith) in
    let value = c.from.ensures ∙ to_z-of_z w64 _ (fits_64 _ good.value) in
    let large = value_size c.args.to.now c.loop-row.to c.args.rows.now c.loop-row.row-index _ _ c.requires.rows (omega arith)
    good.within c.requires.size inv.values in
    let here : IsAtMost c.at.result (2 ^ 84) = rw c.at.ensures large in
    let more : IsAtMost c.from.result (2 ^ 63) = rw value (record { size = value_64 _ good.value }) in
    code_fits w128 (search codes depth 20) tt

pub loop-row-preserved : goal.loop-row-preserved
loop-row-preserved c =
    let inv = c.loop-row.invariant in
    let good = c.requires.rows.each c.loop-row.row-index (omega arith) in
    let value = c.from.ensures ∙ to_z-of_z w64 _ (fits_64 _ good.value) in
    let large = value_size c.args.to.now c.loop-row.to c.args.rows.now c.loop-row.row-index _ _ c.requires.rows (omega arith)
    good.within c.requires.size inv.values in
    let here : IsAtMost c.at.result (2 ^ 84) = rw c.at.ensures large in
    let more : IsAtMost c.from.result (2 ^ 63) = rw value (record { size = value_64 _ good.value }) in
    let sum : to_z w128 (of_z w128 (to_z w128 (of_z w128 c.at.result) +ℤ to_z w128 (of_z w128 c.from.result)))
    ≡ c.at.result +ℤ c.from.result = code_is (search codes depth 20) tt in
    let within : IsWithin (triple (get_or c.args.rows.now c.loop-row.row-index no_row).cell) c.loop-row.to.cells = rw inv.cells good.within in
    rw c.set.ensures.after (record {
      cells = inv.cells;
      side = inv.side;
      parts = inv.parts;
      shape = length-set _ _ _ ∙ inv.shape;
      values = row_step c.args.to.now c.loop-row.to c.args.rows.now c.loop-row.row-index _ (omega arith) inv.cells inv.shape
          within (sum ∙ (λ i. c.at.ensures i +ℤ value i)) inv.values;
    })
