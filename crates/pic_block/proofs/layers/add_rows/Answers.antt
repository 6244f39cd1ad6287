use Rattle.std.proofs.Common.{◌^◌, arith}
use Rattle.pic_block.proofs.BlockRowLaws.{first_row, layer_none, layer_small, three_rows}
use Rattle.pic_block.proofs.layers.add_rows.Goals as goal

pub add_row-requires-clause-room : goal.add_row-requires-clause-room
add_row-requires-clause-room c =
    let old = c.args.to.now in
    layer_small c.args.from.now old c.args.at c.args.apart c.args.start c.args.from_apart c.args.count 0 old c.args.at (2 ^ 120) (omega arith)
    c.requires.apart (layer_none c.args.from.now old c.args.at c.args.apart c.args.start c.args.from_apart c.args.count)
    (λ x h. c.requires.room x 0 h (omega arith))

pub add_row-requires-2-clause-room : goal.add_row-requires-2-clause-room
add_row-requires-2-clause-room c =
    let row = first_row c.args.from.now c.args.to.now c.args.at c.args.apart c.args.start c.args.from_apart c.args.count c.add_row.new.to
    c.requires.apart (record { done = c.add_row.ensures.inside; rest = c.add_row.ensures.outside }) in
    layer_small c.args.from.now c.args.to.now c.args.at c.args.apart c.args.start c.args.from_apart c.args.count 1 c.add_row.new.to _ (2 ^ 120)
    (omega arith) c.requires.apart row (λ x h. c.requires.room x 1 h (omega arith))

pub returns-clause-inside : goal.returns-clause-inside
returns-clause-inside c =
    let rows = three_rows c.args.from.now c.args.to.now c.args.at c.args.apart c.args.start c.args.from_apart c.args.count c.add_row.new.to
    c.add_row-2.new.to c.add_row-3.new.to c.requires.apart (record { done = c.add_row.ensures.inside; rest = c.add_row.ensures.outside })
    (record { done = c.add_row-2.ensures.inside; rest = c.add_row-2.ensures.outside })
    (record { done = c.add_row-3.ensures.inside; rest = c.add_row-3.ensures.outside }) in
    rows.done

pub returns-clause-outside : goal.returns-clause-outside
returns-clause-outside c =
    let rows = three_rows c.args.from.now c.args.to.now c.args.at c.args.apart c.args.start c.args.from_apart c.args.count c.add_row.new.to
    c.add_row-2.new.to c.add_row-3.new.to c.requires.apart (record { done = c.add_row.ensures.inside; rest = c.add_row.ensures.outside })
    (record { done = c.add_row-2.ensures.inside; rest = c.add_row-2.ensures.outside })
    (record { done = c.add_row-3.ensures.inside; rest = c.add_row-3.ensures.outside }) in
    rows.rest
