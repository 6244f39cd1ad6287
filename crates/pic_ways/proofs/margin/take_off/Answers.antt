use Rattle.std.proofs.Common.{◌≡◌, ◌^◌, ◌∙◌, ap, sym, subst, arith}
use Rattle.std.proofs.Math.IntN.{ℤ, ◌-ℤ◌}
use Rattle.std.proofs.lemmas.List.{length-set}
use mir.Syntax.{w128}
use mir.Val.{to_z, of_z}
use Rattle.pic_num.specs.Sizes.{IsAtMost}
use Rattle.pic_num.specs.Space.{Triple, triple}
use Rattle.pic_num.proofs.SizeLaws.{codes, code_is}
use Rattle.pic_block.specs.Cells.{IsWithin, place_of}
use Rattle.pic_block.proofs.CellLaws.{place_of_below}
use Rattle.pic_grid.specs.Current.{wrapped}
use Rattle.pic_grid.specs.Lattice.{value_at}
use Rattle.pic_ways.specs.Margin.{edge_or_zero}
use Rattle.pic_ways.proofs.PlaceLaws.{written_more, left_behind}
use Rattle.pic_ways.proofs.margin.take_off.Goals as goal

pub loop-place-preserved : goal.loop-place-preserved
loop-place-preserved c =
    let inv = c.loop-place.invariant in
    let to = c.loop-place.to in
    let old = c.args.to.now in
    let from = c.args.from.now in
    let axis = c.place_at-axis.result.0 in
    let cell = triple c.place_at-axis.result.1 in
    let number : place_of to.cells axis cell ≡ c.loop-place.place = (rw inv.same at c.place_at-axis.ensures.number) in
    let within : IsWithin cell to.cells = (rw inv.same at c.place_at-axis.ensures.within) in
    let before : c.at.result ≡ value_at old axis cell = c.at.ensures ∙ inv.left axis cell within (omega (arith, number)) in
    let size : IsAtMost c.at.result (2 ^ 84) = subst (λ (v : ℤ). IsAtMost v (2 ^ 84)) (sym before)
    (c.requires.room.at_most axis cell (subst (λ (n : Triple). IsWithin cell n) inv.cells within)) in
    let less = c.sum_at.ensures.size in
    let plain : to_z w128 (of_z w128 (to_z w128 (of_z w128 c.at.result) -ℤ to_z w128 (of_z w128 c.sum_at.result))) ≡ c.at.result -ℤ c.sum_at.result =
    code_is (search codes depth 20) tt in
    let folded = c.sum_at.ensures.value ∙ ap (λ (n : Triple). wrapped n (edge_or_zero from axis) cell) inv.same in
    let value = plain ∙ (λ t. before t -ℤ folded t) in
    rw c.set.ensures.after (record {
      same = inv.same;
      cells = inv.cells;
      side = inv.side;
      parts = inv.parts;
      last = inv.last;
      shape = length-set _ _ _ ∙ inv.shape;
      done = written_more (λ a p v. v ≡ value_at old a p -ℤ wrapped to.cells (edge_or_zero from a) p) to c.loop-place.place axis cell _
          number within inv.shape value inv.done;
      left = λ a p h behind. left_behind to c.loop-place.place axis cell _ a p number behind ∙ inv.left a p h (omega (arith, behind));
    })

pub returns-clause-values : goal.returns-clause-values
returns-clause-values c = λ a p h.
    let inv = c.loop-place.invariant in
    let inside = subst (λ (n : Triple). IsWithin p n) (sym inv.cells) h in
    inv.done a p inside (let below = place_of_below _ a p inside in omega (arith, below, inv.last))
    ∙ ap (λ (n : Triple). value_at c.args.to.now a p -ℤ wrapped n (edge_or_zero c.args.from.now a) p) inv.cells
