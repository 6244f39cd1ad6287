use Rattle.std.proofs.Common.{◌≡◌, ℕ, ℤ, ◌+◌, ◌*◌, ◌<◌, List, length, take, drop, refl, sym, ap, subst, ◌∙◌, arith}
use Rattle.std.proofs.Math.Seq.{take-add}
use Rattle.std.proofs.lemmas.List.Sums.{sum_by-append}
use Rattle.pic_num.specs.Limits.{most_value, most_force}
use Rattle.pic_num.specs.Multiplier.{Multiplier}
use Rattle.pic_num.specs.Rounding.{scaled}
use Rattle.pic_num.specs.Sizes.{IsAtMost}
use Rattle.pic_num.specs.Space.{triple}
use Rattle.pic_block.specs.Cells.{count_of}
use Rattle.pic_block.proofs.PlaceLaws.{first_place}
use Rattle.pic_energy.specs.Energies.{square_of, square_sum}
use Rattle.pic_energy.proofs.WalkLaws.{IsRun, run_is, run_fits, run_all, run_behind}
use Rattle.pic_energy.proofs.summing.squares.Goals as goal
use Rattle.pic_energy.proofs.summing.squares.Goals.{After-run-run}

-- the run that is read, at a place of the lattice
record Read (c : After-run-run) : Type 0 where
  below : c.loop-done.done < 3 * count_of c.args.field.now.cells
  is : IsRun c.args.field.now c.loop-done.place.axis (triple c.loop-done.place.inner) c.run-run.result.now

read : (c : After-run-run) → Read c
read c =
    let count : 3 * c.count.result ≡ 3 * count_of c.args.field.now.cells =
    ap (λ k. 3 * k) (c.count.ensures.value ∙ ap count_of c.cells-cells.ensures.value) in
    let run = c.run-run.ensures in
    record {
      below = subst (λ k. c.loop-done.done < k) count c.loop-done-test.true;
      is = record { some = run.some; inside = run.inside; values = run.values };
    }

-- the sum up to a part, and that of the part
sum_on : (by : Multiplier) (values run : List ℤ) (done : ℕ) → run ≡ take (length run) (drop done values)
    → square_sum by (take done values) + square_sum by run ≡ square_sum by (take (done + length run) values)
unfolding square_sum
sum_on by values run done is =
    let f = λ (v : ℤ). square_of (scaled v by) in
    ap (λ part. square_sum by (take done values) + square_sum by part) is
    ∙ sym (ap (square_sum by) (take-add done (length run) values) ∙ sum_by-append f (take done values) (take (length run) (drop done values)))

pub squares_of-part-requires-clause-values : goal.squares_of-part-requires-clause-values
squares_of-part-requires-clause-values c =
    let k = read (goal.at.squares_of-part-requires-clause-values c).After-run-run in
    let place = c.loop-done.invariant.place in
    run_all c.args.field.now _ _ _ _ c.cells-cells.ensures.shape (place.number k.below) (place.within k.below) k.is (λ v. IsAtMost v most_value)
    c.requires.values

pub squares_of-part-requires-clause-forces : goal.squares_of-part-requires-clause-forces
squares_of-part-requires-clause-forces c =
    let k = read (goal.at.squares_of-part-requires-clause-forces c).After-run-run in
    let place = c.loop-done.invariant.place in
    run_all c.args.field.now _ _ _ _ c.cells-cells.ensures.shape (place.number k.below) (place.within k.below) k.is
    (λ v. IsAtMost (scaled v c.args.by) most_force) c.requires.forces

pub loop-done-init : goal.loop-done-init
unfolding square_sum
loop-done-init c = record {
  place = first_place c.args.field.now.cells _ _ c.first-place.ensures.axis c.first-place.ensures.inner;
  inside = omega arith;
  value = refl;
  most = omega arith;
}

pub loop-done-preserved : goal.loop-done-preserved
loop-done-preserved c =
    let k = read (goal.at.loop-done-preserved c).After-run-run in
    let f = c.args.field.now in
    let run = c.run-run.result.now in
    let done = c.loop-done.done in
    let before = c.loop-done.invariant in
    let shape = c.cells-cells.ensures.shape in
    let at = before.place.number k.below in
    let within = before.place.within k.below in
    let part = c.squares_of-part.ensures in
    let behind = c.behind_run-place.ensures in
    let size = c.numbers-size.ensures.value ∙ c.cells-cells.ensures.value in
    record {
      place = run_behind f _ _ done run shape at within k.is _ _ _ size behind.within behind.number;
      inside = run_fits f _ _ done run shape at within k.is;
      value = (λ i. before.value i + part.value i) ∙ sum_on c.args.by f.values run done (run_is f _ _ done run shape at within k.is);
      most = omega (arith, before.most, part.most);
    }
