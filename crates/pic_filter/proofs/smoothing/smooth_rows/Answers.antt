use Rattle.std.proofs.Common.{◌+◌, ◌*◌, ◌^◌, ◌<◌, ◌≤◌, ℕ, eqb, length, sym, ◌∙◌, ap, arith}
use Rattle.std.proofs.Math.Nat.{mul-le-mul}
use Rattle.std.proofs.lemmas.Bool.{eqb-false, OnFalse_from}
use Rattle.std.proofs.lemmas.List.{length-take-le}
use Rattle.pic_num.specs.Space.{Triple, triple}
use Rattle.pic_block.specs.Cells.{count_of, IsWithin}
use Rattle.pic_block.proofs.BlockRowLaws.{rows_of, rows_count}
use Rattle.pic_block.proofs.PlaceLaws.{first_place, next_place}
use Rattle.pic_block.proofs.RowLaws.{part_long}
use Rattle.pic_grid.specs.Lattice.{value_at}
use Rattle.pic_grid.proofs.CopyLaws.{rows_none, rows_more, rows_all, as_long}
use Rattle.pic_filter.specs.Smoothing.{smoothed_field}
use Rattle.pic_filter.proofs.KeptLaws.{front_small, none_are_small}
use Rattle.pic_filter.proofs.PlaceLaws.{row_begin, ready_first, ready_next}
use Rattle.pic_filter.proofs.RowLaws.{row_begins, row_ends}
use Rattle.pic_filter.proofs.smoothing.smooth_rows.Goals as goal
use Rattle.pic_filter.proofs.smoothing.smooth_rows.Goals.{In-loop-row}

-- the row is one of the block's, and its first cell one of the grid's
below : (c : In-loop-row) → c.loop-row._row < 3 * count_of (rows_of (triple c.args.size))
below c = omega (arith, rows_count (triple c.args.size), c.loop-row-test.true)

inside : (c : In-loop-row) → IsWithin (triple c.loop-row.place.inner) (rows_of (triple c.args.size))
inside c = c.loop-row.invariant.place.within (below c)

on_grid : (c : In-loop-row) → IsWithin (row_begin (triple c.args.low) (triple c.loop-row.place.inner)) c.args.from.now.cells
on_grid c =
    let w = inside c in
    record {
      x = omega (arith, c.requires.x, c.requires.some);
      y = omega (arith, c.requires.y, w.y);
      z = omega (arith, c.requires.z, w.z);
    }

-- so its values have a place in the block
fits : (c : In-loop-row) → c.loop-row.start + (triple c.args.size).x ≤ length c.loop-row.to
fits c =
    let n = triple c.args.size in
    let begin = c.loop-row.invariant.begin in
    let number = c.loop-row.invariant.place.number (below c) in
    let end = row_ends n c.loop-row.place.axis (triple c.loop-row.place.inner) c.loop-row._row (inside c) number in
    omega (arith, begin, end, c.loop-row.auto.to, c.requires.long)

pub loop-row-init : goal.loop-row-init
loop-row-init c =
    let cells = ap (λ (n : Triple). n.x) c.cells.ensures.value in
    let most = c.numbers.ensures.limits.x_most in record {
      place = first_place (rows_of (triple c.args.size)) _ _ c.first-place.ensures.axis c.first-place.ensures.inner;
      begin = omega arith;
      long = length-take-le ((triple c.args.size).x + 2) _ (omega (arith, cells, most));
      small = front_small _ ((triple c.args.size).x + 2) (none_are_small 130);
      ready = ready_first _ _ _ _ _ _ _ c.first-place.ensures.inner;
      done = rows_none (smoothed_field c.args.from.now) (triple c.args.low) (triple c.args.size) c.args.to.now;
    }

pub overflow_add-room : goal.overflow_add-room
overflow_add-room c = record { fits = omega (arith, c.numbers.ensures.limits.x_most, c.requires.x, ap (λ (n : Triple). n.x) c.cells.ensures.value) }

pub slice_bounds-room-end : goal.slice_bounds-room-end
slice_bounds-room-end c = omega (arith, c.numbers.ensures.limits.x_most, c.requires.x, ap (λ (n : Triple). n.x) c.cells.ensures.value)

pub slice_bounds-kept-end : goal.slice_bounds-kept-end
slice_bounds-kept-end c =
    let cells = ap (λ (n : Triple). n.x) c.cells.ensures.value in
    let most = c.numbers.ensures.limits.x_most in
    sym (length-take-le ((triple c.args.size).x + 2) _ (omega (arith, cells, most)))

pub overflow_mul-row-end : goal.overflow_mul-row-end
overflow_mul-row-end c =
    let y : (triple c.args.size).y ≤ 2 ^ 7 = omega (arith, c.numbers.ensures.limits.y_most, c.requires.y, ap (λ (n : Triple). n.y) c.cells.ensures.value) in
    let z : (triple c.args.size).z ≤ 2 ^ 7 = omega (arith, c.numbers.ensures.limits.z_most, c.requires.z, ap (λ (n : Triple). n.z) c.cells.ensures.value) in
    let all = mul-le-mul y z in record { fits = omega (arith, all) }

pub overflow_mul-row-end-2 : goal.overflow_mul-row-end-2
overflow_mul-row-end-2 c =
    let y : (triple c.args.size).y ≤ 2 ^ 7 = omega (arith, c.numbers.ensures.limits.y_most, c.requires.y, ap (λ (n : Triple). n.y) c.cells.ensures.value) in
    let z : (triple c.args.size).z ≤ 2 ^ 7 = omega (arith, c.numbers.ensures.limits.z_most, c.requires.z, ap (λ (n : Triple). n.z) c.cells.ensures.value) in
    let all = mul-le-mul y z in record { fits = omega (arith, all) }

pub overflow_add-cell : goal.overflow_add-cell
overflow_add-cell c =
    let in_y = (on_grid (goal.at.overflow_add-cell c).In-loop-row).y in
    let cells = ap (λ (n : Triple). n.y) c.cells.ensures.value in
    let most = c.numbers.ensures.limits.y_most in record { fits = omega (arith, in_y, cells, most) }

pub overflow_add-cell-in-loop-row : goal.overflow_add-cell-in-loop-row
overflow_add-cell-in-loop-row c =
    let in_z = (on_grid (goal.at.overflow_add-cell-in-loop-row c).In-loop-row).z in
    let cells = ap (λ (n : Triple). n.z) c.cells.ensures.value in
    let most = c.numbers.ensures.limits.z_most in record { fits = omega (arith, in_z, cells, most) }

pub make_ready-requires : goal.make_ready-requires
make_ready-requires c =
    let at = (goal.at.make_ready-requires c).In-loop-row in
    let h = c.loop-row.invariant in
    let y = (triple c.loop-row.place.inner).y in
    record {
      within = on_grid at;
      small = c.requires.small;
      kept_small = h.small;
      held = OnFalse_from (eqb y 0) _ (λ later. h.ready.held (below at) (omega (arith, eqb-false y 0 later)));
    }

pub overflow_add-start : goal.overflow_add-start
overflow_add-start c =
    let room = fits (goal.at.overflow_add-start c).In-loop-row in record { fits = omega (arith, room, c.loop-row.auto.to) }

pub slice_bounds-smooth_row-count : goal.slice_bounds-smooth_row-count
slice_bounds-smooth_row-count c = omega arith

pub slice_bounds-smooth_row-end : goal.slice_bounds-smooth_row-end
slice_bounds-smooth_row-end c = fits (goal.at.slice_bounds-smooth_row-end c).In-loop-row

pub smooth_row-requires : goal.smooth_row-requires
smooth_row-requires c =
    let at = (goal.at.smooth_row-requires c).In-loop-row in
    let n = triple c.args.size in
    let long = part_long c.loop-row.to c.loop-row.start n.x (fits at) in
    record {
      within = on_grid at;
      end = omega (arith, long, c.requires.x);
      room = c.make_ready.auto.kept ∙ c.loop-row.invariant.long ∙ ap (λ (m : ℕ). m + 2) (sym long);
      small = c.requires.small;
      kept_small = c.make_ready.ensures.small;
      held = c.make_ready.ensures.holds;
    }

pub following-place-requires : goal.following-place-requires
following-place-requires c = record { within = inside (goal.at.following-place-requires c).In-loop-row }

pub overflow_add-start-in-loop-row : goal.overflow_add-start-in-loop-row
overflow_add-start-in-loop-row c =
    let room = fits (goal.at.overflow_add-start-in-loop-row c).In-loop-row in record { fits = omega (arith, room, c.loop-row.auto.to) }

pub loop-row-preserved : goal.loop-row-preserved
loop-row-preserved c =
    let f = smoothed_field c.args.from.now in
    let n = triple c.args.size in
    let i = c.loop-row._row in
    let a = c.loop-row.place.axis in
    let r = triple c.loop-row.place.inner in
    let start = c.loop-row.start in
    let h = c.loop-row.invariant in
    let at = (goal.at.loop-row-preserved c).In-loop-row in
    let within = inside at in
    let number = h.place.number (below at) in
    let begin = h.begin in
    let long = part_long c.loop-row.to start n.x (fits at) in
    record {
      place = next_place (rows_of n) i a r _ _ h.place (below at) c.following-place.ensures.within c.following-place.ensures.number;
      begin = omega (arith, begin);
      long = c.smooth_row.auto.kept ∙ c.make_ready.auto.kept ∙ h.long;
      small = c.smooth_row.ensures.small;
      ready = ready_next c.args.from.now.cells (value_at c.args.from.now) (triple c.args.low) n i a r c.following-place.result.axis
          (triple c.following-place.result.inner) c.smooth_row.new.kept c.requires.y within c.following-place.ensures.within number
          c.following-place.ensures.number c.smooth_row.ensures.holds;
      done = rows_more f (triple c.args.low) n c.loop-row.to c.smooth_row.new.to _ i start a r within number (begin ∙ row_begins n a r i within number)
          (omega (arith, fits at)) (c.smooth_row.auto.to ∙ long) (as_long f a _ _ n.x c.smooth_row.new.to long c.smooth_row.ensures.row) h.done;
    }

pub returns : goal.returns
returns c =
    let n = triple c.args.size in
    rows_all (smoothed_field c.args.from.now) (triple c.args.low) n c.loop-row._row c.loop-row.to
    (omega (arith, rows_count n, c.loop-row-test.false, c.loop-row.auto._row-end)) c.loop-row.invariant.done
