use Rattle.std.proofs.Common.{◌<◌, pos, sym, subst, arith}
use Rattle.pic_num.specs.Space.{triple}
use Rattle.pic_block.specs.Cells.{IsWithin, count_of}
use Rattle.pic_block.proofs.PlaceLaws.{first_place}
use Rattle.pic_charge.proofs.NodeLaws.{written_none, written_more, written_all}
use Rattle.pic_charge.proofs.NodeWalkLaws.{node_within, node_number, node_behind}
use Rattle.pic_charge.proofs.charges.clear.Goals as goal

pub set-requires : goal.set-requires
set-requires c =
    let n = c.args.cells.n in
    subst (IsWithin (triple c.loop.place.inner)) (sym c.loop.invariant.cleared.cells)
    (node_within n c.loop.counter c.loop.place.axis (triple c.loop.place.inner) c.loop.invariant.place
    (omega (arith, c.loop-test.true, c.count-end.ensures.value)))

pub following-place-requires : goal.following-place-requires
following-place-requires c =
    let n = c.args.cells.n in
    record {
      within = subst (IsWithin (triple c.loop.place.inner)) (sym c.numbers-size.ensures.value)
          (node_within n c.loop.counter c.loop.place.axis (triple c.loop.place.inner) c.loop.invariant.place
          (omega (arith, c.loop-test.true, c.count-end.ensures.value)));
    }

pub loop-init : goal.loop-init
loop-init c = record {
  cleared = written_none c.args.cells.n (λ _. pos 0) c.args.to.now c.requires;
  place = first_place c.args.cells.n _ _ c.first-place.ensures.axis c.first-place.ensures.inner;
}

pub loop-preserved : goal.loop-preserved
loop-preserved c =
    let n = c.args.cells.n in
    let i = c.loop.counter in
    let a = c.loop.place.axis in
    let p = triple c.loop.place.inner in
    let place = c.loop.invariant.place in
    let below : i < count_of n = omega (arith, c.loop-test.true, c.count-end.ensures.value) in
    let next = c.following-place in
    record {
      cleared = written_more n (λ _. pos 0) c.loop.to c.set.new.self i p (pos 0) c.loop.invariant.cleared c.set.ensures.after c.set.ensures.stored
          (node_number n i a p place below) (node_within n i a p place below);
      place = node_behind n (triple c.numbers-size.result) i a p next.result.axis (triple next.result.inner) c.numbers-size.ensures.value place below
          next.ensures.within next.ensures.number;
    }

pub returns : goal.returns
returns c = record {
  same_cells = c.loop.invariant.cleared.cells;
  values = written_all c.args.cells.n (λ _. pos 0) c.loop.to c.loop.counter c.loop.invariant.cleared
      (omega (arith, c.loop-test.false, c.loop.auto.counter-end, c.count-end.ensures.value));
}
