use Rattle.std.proofs.Common.{◌≡◌, ◌<◌, None, ap, sym, ◌∙◌, subst, arith}
use borrow.Author.Count.{below_more}
use Rattle.pic_num.specs.Space.{triple}
use Rattle.pic_block.specs.Cells.{IsWithin, cell_of, count_of}
use Rattle.pic_block.proofs.PlaceLaws.{first_place}
use Rattle.pic_grid.specs.Differences.{div_e}
use Rattle.pic_grid.specs.Lattice.{value_at, node_at}
use Rattle.pic_charge.specs.Gauss.{difference_at, first_break}
use Rattle.pic_charge.proofs.BreakLaws.{first_break_at, first_break_nowhere, none_exactly, least_where, none_unless}
use Rattle.pic_charge.proofs.NodeWalkLaws.{node_within, node_is, node_behind}
use Rattle.pic_charge.proofs.breaks.gauss.Goals as goal

pub difference-found-requires-clause-within : goal.difference-found-requires-clause-within
difference-found-requires-clause-within c =
    node_within c.args.cells.n c.loop.counter c.loop.place.axis (triple c.loop.place.inner) c.loop.invariant.place
    (omega (arith, c.loop-test.true, c.count-end.ensures.value))

pub following-place-requires : goal.following-place-requires
following-place-requires c = record {
  within = subst (IsWithin (triple c.loop.place.inner)) (sym c.numbers-size.ensures.value)
      (node_within c.args.cells.n c.loop.counter c.loop.place.axis (triple c.loop.place.inner) c.loop.invariant.place
      (omega (arith, c.loop-test.true, c.count-end.ensures.value)));
}

pub loop-init : goal.loop-init
loop-init c = record {
  none = λ j below. absurd (omega (arith, below));
  place = first_place c.args.cells.n _ _ c.first-place.ensures.axis c.first-place.ensures.inner;
}

-- where a break is found, it is the first
found_first : (c : goal.Then-is_some) → c.difference-found.result ≡ first_break c.args.cells.n (div_e c.args.cells.n (value_at c.args.e.now))
    (node_at c.args.rho.now)
found_first c =
    let div = div_e c.args.cells.n (value_at c.args.e.now) in
    let rho = node_at c.args.rho.now in
    let n = c.args.cells.n in
    let below : c.loop.counter < count_of n = omega (arith, c.loop-test.true, c.count-end.ensures.value) in
    first_break_at c.args.cells.n div rho c.difference-found.result c.loop.counter (sym c.is_some.ensures ∙ c.if-is_some.true)
    (c.difference-found.ensures
    ∙ ap (difference_at div rho) (node_is n c.loop.counter c.loop.place.axis (triple c.loop.place.inner) c.loop.invariant.place below))
    below c.loop.invariant.none

pub returns-then-is_some-clause-value : goal.returns-then-is_some-clause-value
returns-then-is_some-clause-value c = found_first c

pub returns-then-is_some-clause-none : goal.returns-then-is_some-clause-none
returns-then-is_some-clause-none c = none_exactly c.args.cells.n (div_e c.args.cells.n (value_at c.args.e.now))
    (node_at c.args.rho.now) c.difference-found.result (found_first c)

pub returns-then-is_some-clause-least : goal.returns-then-is_some-clause-least
returns-then-is_some-clause-least c = least_where c.args.cells.n (div_e c.args.cells.n (value_at c.args.e.now))
    (node_at c.args.rho.now) c.difference-found.result (found_first c)

pub loop-preserved : goal.loop-preserved
loop-preserved c =
    let div = div_e c.args.cells.n (value_at c.args.e.now) in
    let rho = node_at c.args.rho.now in
    let n = c.args.cells.n in
    let i = c.loop.counter in
    let a = c.loop.place.axis in
    let p = triple c.loop.place.inner in
    let place = c.loop.invariant.place in
    let below : i < count_of n = omega (arith, c.loop-test.true, c.count-end.ensures.value) in
    let none = none_unless c.difference-found.result (sym c.is_some.ensures ∙ c.if-is_some.false) in
    let next = c.following-place in
    record {
      none = below_more (λ j. difference_at div rho (cell_of n j) ≡ None) i c.loop.invariant.none
          (sym (c.difference-found.ensures ∙ ap (difference_at div rho) (node_is n i a p place below)) ∙ none);
      place = node_behind n (triple c.numbers-size.result) i a p next.result.axis (triple next.result.inner) c.numbers-size.ensures.value place below
          next.ensures.within next.ensures.number;
    }

pub returns : goal.returns
returns c =
    let div = div_e c.args.cells.n (value_at c.args.e.now) in
    let rho = node_at c.args.rho.now in
    let value = first_break_nowhere c.args.cells.n div rho c.loop.counter
    (omega (arith, c.loop-test.false, c.loop.auto.counter-end, c.count-end.ensures.value)) c.loop.invariant.none in
    record { value = value; none = none_exactly c.args.cells.n div rho None value; least = tt }
