use Rattle.std.proofs.Common.{◌≡◌, ◌+◌, ◌-◌, ◌%◌, ◌<◌, ◌≤◌, ℕ, length, take, drop, slice_index, refl, sym, ◌∙◌, ap, subst, arith}
use Rattle.std.proofs.Math.Nat.{mod-add-mod, mod-eq_of_lt}
use Rattle.pic_num.specs.declared.axis.Axis.TheVariants.{X, Z}
use Rattle.pic_num.specs.Sizes.{IsAtMost}
use Rattle.pic_num.specs.Space.{Triple, triple}
use Rattle.pic_block.specs.Cells.{IsWithin}
use Rattle.pic_grid.specs.Differences.{down}
use Rattle.pic_grid.specs.Lattice.{value_at}
use Rattle.pic_filter.specs.Kept.{kept_at, taken, row_cell}
use Rattle.pic_filter.specs.Runs.{most_of_three, three_at, AreThree, HoldThree}
use Rattle.pic_filter.specs.Smoothing.{most_to_smooth, smoothed_along}
use Rattle.pic_filter.proofs.KeptLaws.{taken_none, taken_run, taken_to_small, part_small, part_long, filled_long, round_next, row_within}
use Rattle.pic_filter.proofs.RunLaws.{three_hold, three_is}
use Rattle.pic_filter.proofs.SizeLaws.{along_small}
use Rattle.pic_filter.proofs.kept.take_in.Goals as goal
use Rattle.pic_filter.proofs.kept.take_in.Goals.{After-slots_round-on_z, After-min-more}

-- the cell before that of the line
before : (c : After-slots_round-on_z) → triple c.down.result ≡ down c.args.from.now.cells X (triple c.args.cell)
before c = c.down.ensures.value ∙ ap (λ (n : Triple). down n X (triple c.args.cell)) c.cells-cells.ensures.value

-- the line's numbers, filtered along z, are small
line_small : (c : After-slots_round-on_z) (k : ℕ)
    → IsAtMost (smoothed_along Z c.args.from.now.cells (value_at c.args.from.now c.args.axis) (row_cell c.args.from.now.cells (triple c.args.cell) k))
    most_of_three
line_small c k =
    let n = c.args.from.now.cells in
    along_small Z n (value_at c.args.from.now c.args.axis) most_to_smooth (c.requires.small.at_most c.args.axis) (row_cell n (triple c.args.cell) k)
    (row_within n (triple c.args.cell) k c.requires.within)

pub loop-done-init : goal.loop-done-init
loop-done-init c =
    let n = c.args.from.now.cells in
    let at = ap (λ (q : Triple). q.x) (before (goal.at.loop-done-init c).After-slots_round-on_z) in
    let x = slice_index c.down.result 0 in
    let below : x < n.x = subst (λ (m : Triple). x < m.x) c.cells-cells.ensures.value c.down.ensures.within.x in
    let same : x ≡ x + 0 = omega arith in
    record {
      at = sym (mod-eq_of_lt below) ∙ ap (λ (m : ℕ). m % n.x) (same ∙ ap (λ (m : ℕ). m + 0) at);
      below = below;
      most = omega arith;
      room = refl;
      taken = taken_none _ c.args.kept.now;
    }

-- where the loop stands: three runs from the layer x on, which have the numbers that are wanted
record Known (c : After-min-more) : Type 0 where
  some : 0 < c.min-more.result
  in_row : c.loop-done.done + c.min-more.result ≤ length c.args.kept.now
  inside : c.loop-done.x + c.min-more.result ≤ c.args.from.now.cells.x
  fits : c.loop-done.done + c.min-more.result ≤ length c.loop-done.kept
  hold : HoldThree most_to_smooth c.min-more.result c.three_runs-three.result
  values : (i : ℕ) → i < c.min-more.result
      → three_at c.three_runs-three.result i
      ≡ smoothed_along Z c.args.from.now.cells (value_at c.args.from.now c.args.axis) (record (triple c.args.cell) { x = c.loop-done.x + i })

known : (c : After-min-more) → Known c
known c =
    let f = c.args.from.now in
    let a = c.args.axis in
    let p = triple c.args.cell in
    let x = c.loop-done.x in
    let more = c.min-more.result in
    let three = c.three_runs-three.result in
    let z = c.slots_round-on_z.result in
    let round = c.slots_round-on_z.ensures.layers in
    let in_y : c.slot_y-on_y.result.index ≡ p.y = c.slot_y-on_y.ensures.index ∙ ap (λ (q : Triple). q.y) c.down.ensures.value in
    let are : AreThree f a x p.y z three = subst (λ (k : ℕ). AreThree f a k p.y z three) c.slot_x.ensures.index
    (subst (λ (k : ℕ). AreThree f a c.slot_x.result.index k z three) in_y c.three_runs-three.ensures) in
    let enough : more ≤ length three.own.now = omega arith in
    let in_row : c.loop-done.done + more ≤ length c.args.kept.now = omega arith in
    let own_some = are.own.some in
    let own_inside = are.own.inside in
    record {
      some = omega (arith, own_some);
      in_row = in_row;
      inside = omega (arith, own_inside, enough);
      fits = omega (arith, in_row, c.loop-done.invariant.room);
      hold = three_hold f a most_to_smooth x more p c.requires.small c.requires.within z round three are enough;
      values = three_is f a most_to_smooth x more p c.requires.small c.requires.within z round three are enough;
    }

pub down-requires : goal.down-requires
down-requires c = subst (λ (n : Triple). IsWithin (triple c.args.cell) n) (sym c.cells-cells.ensures.value) c.requires.within

pub slot_y-on_y-requires : goal.slot_y-on_y-requires
slot_y-on_y-requires c = subst (λ (n : Triple). slice_index c.down.result 1 < n.y) c.cells-cells.ensures.value c.down.ensures.within.y

pub three_runs-three-requires : goal.three_runs-three-requires
three_runs-three-requires c = record { x = c.slot_x.ensures.slot; y = c.slot_y-on_y.ensures.slot; z = c.slots_round-on_z.ensures.slots }

pub overflow_sub-count : goal.overflow_sub-count
overflow_sub-count c = c.loop-done.invariant.most

pub overflow_add-done : goal.overflow_add-done
overflow_add-done c =
    let in_row = (known (goal.at.overflow_add-done c).After-min-more).in_row in record { fits = omega (arith, in_row) }

pub slice_bounds-take_run-count : goal.slice_bounds-take_run-count
slice_bounds-take_run-count c = omega arith

pub overflow_add-done-in-loop-done : goal.overflow_add-done-in-loop-done
overflow_add-done-in-loop-done c =
    let in_row = (known (goal.at.overflow_add-done-in-loop-done c).After-min-more).in_row in record { fits = omega (arith, in_row) }

pub overflow_sub-more : goal.overflow_sub-more
overflow_sub-more c = let some = (known (goal.at.overflow_sub-more c).After-min-more).some in omega (arith, some)

pub up-requires : goal.up-requires
up-requires c =
    let k = known (goal.at.up-requires c).After-min-more in
    let inside = k.inside in
    let some = k.some in
    let cells = c.cells-cells.ensures.value in
    record {
      x = omega (arith, inside, some, ap (λ (t : Triple). t.x) cells);
      y = c.down.ensures.within.y;
      z = c.down.ensures.within.z;
    }

pub take_run-requires-clause-hold : goal.take_run-requires-clause-hold
take_run-requires-clause-hold c =
    let k = known (goal.at.take_run-requires-clause-hold c).After-min-more in
    subst (λ (count : ℕ). HoldThree most_to_smooth count c.three_runs-three.result)
    (sym (part_long c.loop-done.kept c.loop-done.done c.min-more.result k.fits)) k.hold

pub take_run-requires-clause-small : goal.take_run-requires-clause-small
take_run-requires-clause-small c =
    let here = (goal.at.take_run-requires-clause-small c).After-slots_round-on_z in
    part_small c.loop-done.kept c.loop-done.done _
    (taken_to_small _ c.loop-done.done c.args.kept.now c.loop-done.kept (λ k below. line_small here k) c.requires.kept_small c.loop-done.invariant.taken)

pub loop-done-preserved : goal.loop-done-preserved
loop-done-preserved c =
    let here = (goal.at.loop-done-preserved c).After-slots_round-on_z in
    let k = known (goal.at.loop-done-preserved c).After-min-more in
    let n = c.args.from.now.cells in
    let h = smoothed_along Z n (value_at c.args.from.now c.args.axis) in
    let p = triple c.args.cell in
    let q = down n X p in
    let x = c.loop-done.x in
    let done = c.loop-done.done in
    let more = c.min-more.result in
    let so = c.loop-done.invariant in
    let part : length c.take_run.new.kept ≡ more = c.take_run.auto.kept ∙ part_long c.loop-done.kept done more k.fits in
    let cells = ap (λ (t : Triple). t.x) c.cells-cells.ensures.value in
    let last : x + (more - 1) + 1 ≡ x + more = (let some = k.some in omega (arith, some)) in
    let sum : q.x + done + more ≡ q.x + (done + more) = omega arith in
    record {
      at = ap (λ (t : Triple). t.x) c.up.ensures.value
          ∙ ap (λ (m : ℕ). m % c.cells-cells.result.n.x) last
          ∙ ap (λ (m : ℕ). (x + more) % m) cells
          ∙ ap (λ (m : ℕ). (m + more) % n.x) so.at
          ∙ mod-add-mod (q.x + done) n.x more
          ∙ ap (λ (m : ℕ). m % n.x) sum;
      below = subst (λ (m : ℕ). slice_index c.up.result 0 < m) cells c.up.ensures.within.x;
      most = k.in_row;
      room = filled_long c.loop-done.kept c.take_run.new.kept done more k.fits part ∙ so.room;
      taken = taken_run (λ i. h (row_cell n p i)) done more c.args.kept.now c.loop-done.kept c.take_run.new.kept k.fits part so.taken
          (λ j below.
          let next : (q.x + (done + j)) % n.x ≡ x + j = round_next n.x q.x done x j so.at (let inside = k.inside in omega (arith, inside, below)) in
          c.take_run.ensures j (let long = part_long c.loop-done.kept done more k.fits in omega (arith, below, long))
          ∙ ap (taken (kept_at (take (done + more - done) (drop done c.loop-done.kept)) j))
          (k.values j below ∙ sym (ap (λ (m : ℕ). h (record p { x = m })) next)));
    }

pub returns-clause-small : goal.returns-clause-small
returns-clause-small c =
    let here = (goal.at.returns-clause-small c).After-slots_round-on_z in
    taken_to_small _ c.loop-done.done c.args.kept.now c.loop-done.kept (λ k below. line_small here k) c.requires.kept_small c.loop-done.invariant.taken
