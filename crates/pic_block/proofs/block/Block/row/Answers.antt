use Rattle.std.proofs.Common.{◌+◌, ◌-◌, ◌<◌, subst, sym, ◌∙◌, ap, arith}
use Rattle.pic_num.specs.Space.{triple, spot}
use Rattle.pic_block.specs.Block.{BlockValues, inner_at}
use Rattle.pic_block.proofs.RowLaws.{row_value}
use Rattle.pic_block.proofs.block.Block.row.Goals as goal

pub returns-clause-values : goal.returns-clause-values
returns-clause-values c = λ x below.
    let b : BlockValues = record { low = spot c.self.inside.zone.low; size = triple c.self.inside.zone.size; values = c.self.inside.values.items } in
    let start = c.row_start-start.result in
    let inside : x < b.size.x = subst (λ (d : BlockValues). x < d.size.x) (sym c.self.view_is) below in
    let in_part : x < start + b.size.x - start = omega arith in
    row_value b c.as_slice-values.result.now start (start + b.size.x - start) c.args.axis x c.args.y c.args.z c.as_slice-values.ensures.value
    c.row_start-start.ensures.value in_part
    ∙ ap (λ (d : BlockValues). inner_at d c.args.axis (record { x = x; y = c.args.y; z = c.args.z })) c.self.view_is
