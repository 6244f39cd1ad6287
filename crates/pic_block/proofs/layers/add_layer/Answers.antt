use Rattle.std.proofs.Common.{ℕ, ◌+◌, ◌*◌, ◌^◌, get_or, arith}
use Rattle.std.proofs.Math.IntN.{pos}
use Rattle.pic_num.specs.Sizes.{IsAtMost}
use Rattle.pic_block.proofs.BlockRowLaws.{flat_layer, flat_row, row_within, rows_more, rows_small}
use Rattle.pic_block.proofs.layers.add_layer.Goals as goal

pub add_rows-requires-clause-room : goal.add_rows-requires-clause-room
add_rows-requires-clause-room c = λ k i below axis.
    flat_row (λ (j : ℕ). IsAtMost (get_or c.args.to.now j (pos 0)) (2 ^ 120)) (c.args.at + i * c.args.apart) c.args.step c.args.count c.args.rows
    c.if-count-step.true (λ x y h g. c.requires.room x i y h axis g) k below

pub returns-then-count-step-clause-inside : goal.returns-then-count-step-clause-inside
returns-then-count-step-clause-inside c =
    let flat = flat_layer c.args.from.now c.args.to.now c.args.at c.args.apart c.args.step c.args.start c.args.from_apart c.args.count c.args.rows
    c.add_rows.new.to c.if-count-step.true (record { done = c.add_rows.ensures.inside; rest = c.add_rows.ensures.outside }) in
    flat.done

pub returns-then-count-step-clause-outside : goal.returns-then-count-step-clause-outside
returns-then-count-step-clause-outside c =
    let flat = flat_layer c.args.from.now c.args.to.now c.args.at c.args.apart c.args.step c.args.start c.args.from_apart c.args.count c.args.rows
    c.add_rows.new.to c.if-count-step.true (record { done = c.add_rows.ensures.inside; rest = c.add_rows.ensures.outside }) in
    flat.rest

pub add_rows-requires-in-loop-y-clause-room : goal.add_rows-requires-in-loop-y-clause-room
add_rows-requires-in-loop-y-clause-room c =
    let walk = c.loop-y.invariant in
    let y = c.loop-y._y in
    rows_small c.args.from.now c.args.to.now c.args.at c.args.apart c.args.step c.args.start c.args.from_apart c.args.count y c.loop-y.to c.loop-y.here
    c.loop-y.there walk.at walk.from c.requires.within (row_within y c.args.rows c.args.step c.args.apart c.loop-y-test.true c.requires.apart)
    walk.added (2 ^ 120) (λ x i j h axis below. c.requires.room x i j h axis (omega (arith, below, c.loop-y-test.true)))

pub loop-y-preserved : goal.loop-y-preserved
loop-y-preserved c =
    let walk = c.loop-y.invariant in
    let y = c.loop-y._y in
    record {
      at = omega (arith, walk.at);
      from = omega (arith, walk.from);
      added = rows_more c.args.from.now c.args.to.now c.args.at c.args.apart c.args.step c.args.start c.args.from_apart c.args.count y c.loop-y.to
          c.loop-y.here c.loop-y.there walk.at walk.from c.requires.within
          (row_within y c.args.rows c.args.step c.args.apart c.loop-y-test.true c.requires.apart) walk.added c.add_rows-in-loop-y.new.to
          c.add_rows-in-loop-y.ensures.inside c.add_rows-in-loop-y.ensures.outside;
    }

pub returns-clause-outside : goal.returns-clause-outside
returns-clause-outside c = λ k off.
    c.loop-y.invariant.added.rest k (λ x i y h axis below. off x i y h axis (omega (arith, below, c.loop-y-test.false, c.loop-y.auto._y-end)))
