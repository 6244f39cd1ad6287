use Rattle.std.proofs.Common.{◌≡◌, ◌∙◌, ap, sym, subst, arith}
use Rattle.std.proofs.lemmas.Int.{to_z-of_z}
use Rattle.std.proofs.lemmas.List.{length-set}
use mir.Syntax.{w128}
use Rattle.pic_num.specs.Space.{Triple, triple}
use Rattle.pic_block.specs.Cells.{IsWithin}
use Rattle.pic_block.proofs.CellLaws.{place_of_below}
use Rattle.pic_grid.specs.Current.{wrapped}
use Rattle.pic_ways.specs.Margin.{edge_or_zero}
use Rattle.pic_ways.proofs.PlaceLaws.{written_more}
use Rattle.pic_ways.proofs.margin.fold.Goals as goal

pub loop-place-preserved : goal.loop-place-preserved
loop-place-preserved c =
    let inv = c.loop-place.invariant in
    let to = c.loop-place.to in
    let from = c.args.from.now in
    let value = to_z-of_z w128 c.sum_at.result (record { sfits = c.sum_at.type_inv }) ∙ c.sum_at.ensures.value
    ∙ ap (λ (n : Triple). wrapped n (edge_or_zero from c.place_at-axis.result.0) (triple c.place_at-axis.result.1)) inv.same in
    rw c.set.ensures.after (record {
      same = inv.same;
      cells = inv.cells;
      side = inv.side;
      parts = inv.parts;
      last = inv.last;
      shape = length-set _ _ _ ∙ inv.shape;
      done = written_more (λ a p v. v ≡ wrapped to.cells (edge_or_zero from a) p) to c.loop-place.place _ _ _
          (rw inv.same at c.place_at-axis.ensures.number) (rw inv.same at c.place_at-axis.ensures.within) inv.shape value inv.done;
    })

pub returns-clause-values : goal.returns-clause-values
returns-clause-values c = λ a p h.
    let inv = c.loop-place.invariant in
    let inside = subst (λ (n : Triple). IsWithin p n) (sym inv.cells) h in
    inv.done a p inside (let below = place_of_below _ a p inside in omega (arith, below, inv.last))
    ∙ ap (λ (n : Triple). wrapped n (edge_or_zero c.args.from.now a) p) inv.cells
