use Rattle.std.proofs.Common.{◌+◌, ◌*◌, ◌<◌, ◌≤◌, length, ◌∙◌, arith}
use Rattle.pic_num.specs.Space.{triple}
use Rattle.pic_block.proofs.RowLaws.{part_long}
use Rattle.pic_block.specs.Cells.{count_of}
use Rattle.pic_block.proofs.BlockRowLaws.{rows_of, rows_count}
use Rattle.pic_block.proofs.PlaceLaws.{first_place, next_place}
use Rattle.pic_grid.proofs.CopyLaws.{rows_none, rows_more, rows_all, as_long}
use Rattle.pic_grid.proofs.copying.copy_rows.Goals as goal

pub loop-row-init : goal.loop-row-init
loop-row-init c = record {
  place = first_place (rows_of (triple c.args.size)) _ _ c.first-place.ensures.axis c.first-place.ensures.inner;
  copied = rows_none c.args.from.now (triple c.args.low) (triple c.args.size) c.args.to.now;
}

pub loop-row-preserved : goal.loop-row-preserved
loop-row-preserved c =
    let n = triple c.args.size in
    let i = c.loop-row._row in
    let a = c.loop-row.place.axis in
    let r = triple c.loop-row.place.inner in
    let start = c.row_start-start.result in
    let below : i < 3 * count_of (rows_of n) = omega (arith, rows_count n, c.loop-row-test.true) in
    let within = c.loop-row.invariant.place.within below in
    let number = c.loop-row.invariant.place.number below in
    let fits : start + n.x ≤ length c.loop-row.to = omega (arith, c.row_start-start.ensures.end, c.loop-row.auto.to, c.requires.long) in
    record {
      place = next_place (rows_of n) i a r _ _ c.loop-row.invariant.place below c.following-place.ensures.within c.following-place.ensures.number;
      copied = rows_more c.args.from.now (triple c.args.low) n c.loop-row.to c.copy_row.new.to _ i start a r within number c.row_start-start.ensures.value
          (omega (arith, fits)) (c.copy_row.auto.to ∙ part_long c.loop-row.to start n.x fits)
          (as_long c.args.from.now a _ _ n.x c.copy_row.new.to (part_long c.loop-row.to start n.x fits) c.copy_row.ensures) c.loop-row.invariant.copied;
    }

pub returns : goal.returns
returns c =
    let n = triple c.args.size in
    rows_all c.args.from.now (triple c.args.low) n c.loop-row._row c.loop-row.to
    (omega (arith, rows_count n, c.loop-row-test.false, c.loop-row.auto._row-end)) c.loop-row.invariant.copied
