use Rattle.std.proofs.Common.{◌∙◌, rules, arith}
use Rattle.std.proofs.lemmas.List.{length-set}
use mir.Syntax.{w64, w128}
use mir.Val.{SFits, to_z, of_z}
use Rattle.pic_num.specs.Space.{spot}
use Rattle.pic_block.proofs.CellLaws.{place_of_below}
use Rattle.pic_walk.proofs.LimitLaws.{widened}
use Rattle.pic_deck.specs.Initial.{IsUniform}
use Rattle.pic_deck.proofs.InitialLaws.{filled_step}
use Rattle.pic_deck.proofs.filling.fill_uniform.Goals as goal

pub loop-place-preserved : goal.loop-place-preserved
loop-place-preserved c =
    let inv = c.loop-place.invariant in
    let fits : SFits w64 c.number_along-number.result = search rules in
    let same = widened c.number_along-number.result c.from.result fits c.from.ensures in
    let uniform : IsUniform (spot c.args.numbers) c.place_at-axis.result.0 (to_z w128 (of_z w128 c.from.result)) = rw same
    (record { is = c.number_along-number.ensures.value; size = c.number_along-number.ensures.size }) in
    rw c.set.ensures.after (record {
      same = inv.same;
      cells = inv.cells;
      side = inv.side;
      parts = inv.parts;
      last = inv.last;
      shape = length-set _ _ _ ∙ inv.shape;
      done = filled_step (λ a v. IsUniform (spot c.args.numbers) a v) c.loop-place.to c.loop-place.place _ _ _
          (rw inv.same at c.place_at-axis.ensures.number) (rw inv.same at c.place_at-axis.ensures.within) inv.shape uniform inv.done;
    })

pub returns-clause-values : goal.returns-clause-values
returns-clause-values c = λ a p h. c.loop-place.invariant.done a p h (let below = place_of_below _ a p h in omega (arith, below, c.loop-place.invariant.last))
