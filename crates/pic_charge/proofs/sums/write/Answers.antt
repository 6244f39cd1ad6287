use Rattle.std.proofs.Common.{◌<◌, sym, ◌∙◌, subst, arith}
use Rattle.pic_num.specs.Space.{triple}
use Rattle.pic_block.specs.Cells.{IsWithin, count_of}
use Rattle.pic_block.proofs.PlaceLaws.{first_place}
use Rattle.pic_grid.specs.Lattice.{node_at}
use Rattle.pic_charge.specs.Sums.{nodes_in}
use Rattle.pic_charge.proofs.NodeLaws.{written_none, written_more, written_all}
use Rattle.pic_charge.proofs.NodeWalkLaws.{node_within, node_number, node_behind}
use Rattle.pic_charge.proofs.SumLaws.{sum_written}
use Rattle.pic_charge.proofs.sums.write.Goals as goal

pub set-requires : goal.set-requires
set-requires c =
    let n = c.args.cells.n in
    subst (IsWithin (triple c.loop-i.place.inner)) (sym c.loop-i.invariant.written.cells)
    (node_within n c.loop-i.i c.loop-i.place.axis (triple c.loop-i.place.inner) c.loop-i.invariant.place
    (omega (arith, c.loop-i-test.true, c.count-i-end.ensures.value)))

pub following-place-requires : goal.following-place-requires
following-place-requires c =
    let n = c.args.cells.n in
    record {
      within = subst (IsWithin (triple c.loop-i.place.inner)) (sym c.numbers-size.ensures.value)
          (node_within n c.loop-i.i c.loop-i.place.axis (triple c.loop-i.place.inner) c.loop-i.invariant.place
          (omega (arith, c.loop-i-test.true, c.count-i-end.ensures.value)));
    }

pub loop-i-init : goal.loop-i-init
loop-i-init c = record {
  written = written_none c.args.cells.n (node_at (nodes_in c.args.cells.n c.args.sums.now)) c.args.to.now c.requires.same_cells;
  place = first_place c.args.cells.n _ _ c.first-place.ensures.axis c.first-place.ensures.inner;
}

pub loop-i-preserved : goal.loop-i-preserved
loop-i-preserved c =
    let n = c.args.cells.n in
    let i = c.loop-i.i in
    let a = c.loop-i.place.axis in
    let p = triple c.loop-i.place.inner in
    let place = c.loop-i.invariant.place in
    let below : i < count_of n = omega (arith, c.loop-i-test.true, c.count-i-end.ensures.value) in
    let at = node_number n i a p place below in
    let within = node_within n i a p place below in
    let next = c.following-place in
    record {
      written = written_more n (node_at (nodes_in n c.args.sums.now)) c.loop-i.to c.set.new.self i p _ c.loop-i.invariant.written c.set.ensures.after
          (c.set.ensures.stored ∙ sum_written n c.args.sums.now i p c.from.result c.requires.small within at c.from.ensures)
          at within;
      place = node_behind n (triple c.numbers-size.result) i a p next.result.axis (triple next.result.inner) c.numbers-size.ensures.value place below
          next.ensures.within next.ensures.number;
    }

pub returns : goal.returns
returns c = record {
  same_cells = c.loop-i.invariant.written.cells;
  values = written_all c.args.cells.n (node_at (nodes_in c.args.cells.n c.args.sums.now)) c.loop-i.to c.loop-i.i c.loop-i.invariant.written
      (omega (arith, c.loop-i-test.false, c.loop-i.auto.i-end, c.count-i-end.ensures.value));
}
