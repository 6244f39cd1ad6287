use Rattle.std.proofs.Common.{rules, ◌≡◌, ◌+◌, ◌-◌, ◌%◌, ◌^◌, ◌<◌, ◌≤◌, ℕ, ℤ, pos, List, ◌++◌, length}
use Rattle.std.proofs.Common.{take, drop, slice_index, slice_index_or, sym, ◌∙◌, ap, subst, arith}
use Rattle.std.proofs.lemmas.List.{length-take-le, get_or-take}
use Rattle.pic_num.specs.declared.axis.Axis.{Axis}
use Rattle.pic_num.specs.declared.axis.Axis.TheVariants.{X, Y, Z}
use Rattle.pic_num.specs.Rounding.{scaled}
use Rattle.pic_num.specs.Space.{Triple}
use Rattle.pic_block.specs.Cells.{IsWithin}
use Rattle.pic_block.proofs.RowLaws.{part_long}
use Rattle.pic_grid.specs.Lattice.{value_at}
use Rattle.pic_field.specs.Rows.{most_row, read_by, row_at, start_cell, IsSmallRow, IsScaledRow}
use Rattle.pic_grid.proofs.CopyLaws.{filled_long}
use Rattle.pic_field.proofs.RowLaws.{row_none, round_on, run_small, more_scaled}
use Rattle.pic_field.proofs.plane.scale_rows.Goals as goal
use Rattle.pic_field.proofs.plane.scale_rows.Goals.{After-count_if-more_z}

pub loop-done-init : goal.loop-done-init
loop-done-init c =
    let f = c.args.from.now.field.now in
    let by = c.args.from.now.by in
    let first = c.args.span.first in
    let start = start_cell c.args.start in
    let cells : slice_index c.numbers.result 0 ≡ f.cells.x = ap (λ (m : Triple). m.x) (c.numbers.ensures.value ∙ c.cells.ensures.value) in
    record {
      at = c.after_run-x.ensures.value ∙ ap (λ (m : ℕ). (c.args.start.x + first) % m) cells;
      below = subst (λ (m : ℕ). c.after_run-x.result < m) cells c.after_run-x.ensures.below;
      least = omega arith;
      most = omega arith;
      room_x = search rules;
      room_y = search rules;
      room_z = search rules;
      of_x = row_none f.cells (read_by c.args.from.now) X start first c.args.to.now.x;
      of_y = λ is. row_none f.cells (read_by c.args.from.now) Y start first c.args.to.now.y;
      of_z = λ is. row_none f.cells (read_by c.args.from.now) Z start first c.args.to.now.z;
    }

within : (c : After-count_if-more_z) → IsWithin (start_cell c.args.start) c.args.from.now.field.now.cells
within c = record { x = c.requires.start.x; y = c.requires.start.y.within; z = c.requires.start.z.within }

-- the first so many values of a run on an axis
record Front (c : After-count_if-more_z) (a : Axis) (run : List ℤ) (more : ℕ) : Type 0 where
  inside : c.loop-done.x + more ≤ c.args.from.now.field.now.cells.x
  long : length (take more run) ≡ more
  values : (i : ℕ) → i < more
      → row_at (take more run) i ≡ value_at c.args.from.now.field.now a (record (start_cell c.args.start) { x = c.loop-done.x + i })

front : (c : After-count_if-more_z) (a : Axis) (run : List ℤ) (more : ℕ) → more ≤ length run
    → c.slot_x-here.result.index + length run ≤ c.args.from.now.field.now.cells.x
    → ((i : ℕ) → i < length run → slice_index_or run i (pos 0)
    ≡ value_at c.args.from.now.field.now a (record (start_cell c.args.start) { x = c.slot_x-here.result.index + i }))
    → Front c a run more
front c a run more in_run inside values = record {
  inside = omega (arith, inside, in_run, c.slot_x-here.ensures.index);
  long = length-take-le more run in_run;
  values = λ i below.
      get_or-take more run i (pos 0) below
      ∙ values i (omega (arith, below, in_run))
      ∙ ap (λ (m : ℕ). value_at c.args.from.now.field.now a (record (start_cell c.args.start) { x = m + i })) c.slot_x-here.ensures.index;
}

of_x : (c : After-count_if-more_z) → Front c X c.run_at-of_x.result.now c.min-more.result
of_x c = front c X c.run_at-of_x.result.now c.min-more.result (omega arith) c.run_at-of_x.ensures.inside c.run_at-of_x.ensures.values

-- the runs are equally long
in_y : (c : After-count_if-more_z) → c.min-more.result ≤ length c.run_at-of_y.result.now
in_y c = omega (arith, c.run_at-of_x.ensures.end, c.run_at-of_y.ensures.end)

in_z : (c : After-count_if-more_z) → c.min-more.result ≤ length c.run_at-of_z.result.now
in_z c = omega (arith, c.run_at-of_x.ensures.end, c.run_at-of_z.ensures.end)

of_y : (c : After-count_if-more_z) → Front c Y c.run_at-of_y.result.now c.count_if-more_y.result
of_y c =
    front c Y c.run_at-of_y.result.now c.count_if-more_y.result (omega (arith, in_y c, c.count_if-more_y.ensures.most)) c.run_at-of_y.ensures.inside
    c.run_at-of_y.ensures.values

of_z : (c : After-count_if-more_z) → Front c Z c.run_at-of_z.result.now c.count_if-more_z.result
of_z c =
    front c Z c.run_at-of_z.result.now c.count_if-more_z.result (omega (arith, in_z c, c.count_if-more_z.ensures.most)) c.run_at-of_z.ensures.inside
    c.run_at-of_z.ensures.values

-- they have room in their rows
fits : (c : After-count_if-more_z) → c.loop-done.done + c.min-more.result ≤ 129
fits c = omega (arith, c.requires.span.first, c.requires.span.few)

fits_x : (c : After-count_if-more_z) → c.loop-done.done + c.min-more.result ≤ length c.loop-done.to.x
fits_x c = omega (arith, fits c, c.loop-done.invariant.room_x)

fits_y : (c : After-count_if-more_z) → c.loop-done.done + c.count_if-more_y.result ≤ length c.loop-done.to.y
fits_y c = omega (arith, fits c, c.loop-done.invariant.room_y, c.count_if-more_y.ensures.most)

fits_z : (c : After-count_if-more_z) → c.loop-done.done + c.count_if-more_z.result ≤ length c.loop-done.to.z
fits_z c = omega (arith, fits c, c.loop-done.invariant.room_z, c.count_if-more_z.ensures.most)

-- they are small,
small : (c : After-count_if-more_z) (a : Axis) (run : List ℤ) (more : ℕ) → Front c a run more → IsSmallRow (2 ^ 90) (length (take more run)) (take more run)
small c a run more k =
    subst (λ (m : ℕ). IsSmallRow (2 ^ 90) m (take more run)) (sym k.long)
    (run_small c.args.from.now.field.now c.args.from.now.by a (start_cell c.args.start) c.loop-done.done more c.loop-done.x c.loop-done.invariant.at (within c)
    k.inside
    (take more run) k.values (2 ^ 90) c.requires.small)

-- and scaled they are the next of a row
next : (c : After-count_if-more_z) (a : Axis) (run : List ℤ) (more : ℕ) → Front c a run more → (row part rest : List ℤ) → c.loop-done.done ≤ length row
    → length part ≡ more → IsScaledRow c.args.from.now.field.now.cells (read_by c.args.from.now) a (start_cell c.args.start)
    c.args.span.first c.loop-done.done row
    → ((i : ℕ) → i < length (take more run) → row_at part i ≡ scaled (row_at (take more run) i) c.args.from.now.by)
    → IsSmallRow most_row (length (take more run)) part
    → IsScaledRow c.args.from.now.field.now.cells (read_by c.args.from.now) a (start_cell c.args.start) c.args.span.first (c.loop-done.done + more)
    (take c.loop-done.done row ++ (part ++ rest))
next c a run more k row part rest room long before values small =
    more_scaled c.args.from.now.field.now c.args.from.now.by a (start_cell c.args.start) c.loop-done.done more c.loop-done.x c.loop-done.invariant.at (within c)
    k.inside
    (take more run) k.values c.args.span.first row part rest room long before (λ i below. values i (omega (arith, below, k.long)))
    (subst (λ (m : ℕ). IsSmallRow most_row m part) k.long small)

pub slice_bounds-scale_row-end : goal.slice_bounds-scale_row-end
slice_bounds-scale_row-end c = let at = (goal.at.slice_bounds-scale_row-end c).After-count_if-more_z in sym (of_x at).long

pub scale_row-requires-clause-length : goal.scale_row-requires-clause-length
scale_row-requires-clause-length c =
    let at = (goal.at.scale_row-requires-clause-length c).After-count_if-more_z in
    part_long c.loop-done.to.x c.loop-done.done c.min-more.result (fits_x at) ∙ sym (of_x at).long

pub slice_bounds-scale_row-end-in-loop-done-2 : goal.slice_bounds-scale_row-end-in-loop-done-2
slice_bounds-scale_row-end-in-loop-done-2 c = let at = (goal.at.slice_bounds-scale_row-end-in-loop-done-2 c).After-count_if-more_z in sym (of_y at).long

pub scale_row-requires-in-loop-done-clause-length : goal.scale_row-requires-in-loop-done-clause-length
scale_row-requires-in-loop-done-clause-length c =
    let at = (goal.at.scale_row-requires-in-loop-done-clause-length c).After-count_if-more_z in
    part_long c.loop-done.to.y c.loop-done.done c.count_if-more_y.result (fits_y at) ∙ sym (of_y at).long

pub slice_bounds-scale_row-end-in-loop-done-4 : goal.slice_bounds-scale_row-end-in-loop-done-4
slice_bounds-scale_row-end-in-loop-done-4 c = let at = (goal.at.slice_bounds-scale_row-end-in-loop-done-4 c).After-count_if-more_z in sym (of_z at).long

pub scale_row-requires-in-loop-done-2-clause-length : goal.scale_row-requires-in-loop-done-2-clause-length
scale_row-requires-in-loop-done-2-clause-length c =
    let at = (goal.at.scale_row-requires-in-loop-done-2-clause-length c).After-count_if-more_z in
    part_long c.loop-done.to.z c.loop-done.done c.count_if-more_z.result (fits_z at) ∙ sym (of_z at).long

pub run_at-of_x-requires : goal.run_at-of_x-requires
run_at-of_x-requires c = record { x = c.slot_x-here.ensures.slot; y = c.requires.start.y; z = c.requires.start.z }

pub run_at-of_y-requires : goal.run_at-of_y-requires
run_at-of_y-requires c = record { x = c.slot_x-here.ensures.slot; y = c.requires.start.y; z = c.requires.start.z }

pub run_at-of_z-requires : goal.run_at-of_z-requires
run_at-of_z-requires c = record { x = c.slot_x-here.ensures.slot; y = c.requires.start.y; z = c.requires.start.z }

pub overflow_add-span : goal.overflow_add-span
overflow_add-span c = record { fits = omega arith }

pub overflow_add-span-in-loop-done : goal.overflow_add-span-in-loop-done
overflow_add-span-in-loop-done c = record { fits = omega arith }

pub overflow_sub-span : goal.overflow_sub-span
overflow_sub-span c = omega arith

pub overflow_add-done : goal.overflow_add-done
overflow_add-done c = record { fits = omega arith }

pub offset_bounds-to-done : goal.offset_bounds-to-done
offset_bounds-to-done c = record { fits = omega arith }

pub slice_bounds-scale_row-count : goal.slice_bounds-scale_row-count
slice_bounds-scale_row-count c = omega arith

pub overflow_add-done-in-loop-done : goal.overflow_add-done-in-loop-done
overflow_add-done-in-loop-done c = record { fits = omega arith }

pub offset_bounds-to-done-in-loop-done : goal.offset_bounds-to-done-in-loop-done
offset_bounds-to-done-in-loop-done c = record { fits = omega arith }

pub slice_bounds-scale_row-count-in-loop-done : goal.slice_bounds-scale_row-count-in-loop-done
slice_bounds-scale_row-count-in-loop-done c = omega arith

pub overflow_add-done-in-loop-done-2 : goal.overflow_add-done-in-loop-done-2
overflow_add-done-in-loop-done-2 c = record { fits = omega arith }

pub offset_bounds-to-done-in-loop-done-2 : goal.offset_bounds-to-done-in-loop-done-2
offset_bounds-to-done-in-loop-done-2 c = record { fits = omega arith }

pub slice_bounds-scale_row-count-in-loop-done-2 : goal.slice_bounds-scale_row-count-in-loop-done-2
slice_bounds-scale_row-count-in-loop-done-2 c = omega arith

pub overflow_add-done-in-loop-done-3 : goal.overflow_add-done-in-loop-done-3
overflow_add-done-in-loop-done-3 c = record { fits = omega arith }

pub scale_row-requires-clause-small : goal.scale_row-requires-clause-small
scale_row-requires-clause-small c =
    let at = (goal.at.scale_row-requires-clause-small c).After-count_if-more_z in small at X c.run_at-of_x.result.now c.min-more.result (of_x at)

pub scale_row-requires-in-loop-done-clause-small : goal.scale_row-requires-in-loop-done-clause-small
scale_row-requires-in-loop-done-clause-small c =
    let at = (goal.at.scale_row-requires-in-loop-done-clause-small c).After-count_if-more_z in
    small at Y c.run_at-of_y.result.now c.count_if-more_y.result (of_y at)

pub scale_row-requires-in-loop-done-2-clause-small : goal.scale_row-requires-in-loop-done-2-clause-small
scale_row-requires-in-loop-done-2-clause-small c =
    let at = (goal.at.scale_row-requires-in-loop-done-2-clause-small c).After-count_if-more_z in
    small at Z c.run_at-of_z.result.now c.count_if-more_z.result (of_z at)

pub loop-done-preserved : goal.loop-done-preserved
loop-done-preserved c =
    let here = (goal.at.loop-done-preserved c).After-count_if-more_z in
    let n = c.args.from.now.field.now.cells in
    let done = c.loop-done.done in
    let more = c.min-more.result in
    let more_y = c.count_if-more_y.result in
    let more_z = c.count_if-more_z.result in
    let h = c.loop-done.invariant in
    let to = c.loop-done.to in
    let cells : slice_index c.numbers.result 0 ≡ n.x = ap (λ (m : Triple). m.x) (c.numbers.ensures.value ∙ c.cells.ensures.value) in
    let part_x : length c.scale_row.new.to ≡ more = c.scale_row.auto.to ∙ part_long to.x done more (fits_x here) in
    let part_y : length c.scale_row-in-loop-done.new.to ≡ more_y = c.scale_row-in-loop-done.auto.to ∙ part_long to.y done more_y (fits_y here) in
    let part_z : length c.scale_row-in-loop-done-2.new.to ≡ more_z = c.scale_row-in-loop-done-2.auto.to ∙ part_long to.z done more_z (fits_z here) in
    let rest_y : List ℤ = drop (done + more_y - done) (drop done to.y) in
    let rest_z : List ℤ = drop (done + more_z - done) (drop done to.z) in
    let all_y : List ℤ = take done to.y ++ (c.scale_row-in-loop-done.new.to ++ rest_y) in
    let all_z : List ℤ = take done to.z ++ (c.scale_row-in-loop-done-2.new.to ++ rest_z) in
    record {
      at = c.after_run-x-in-loop-done.ensures.value
          ∙ ap (λ (m : ℕ). (c.loop-done.x + more) % m) cells
          ∙ round_on n.x c.args.start.x done c.loop-done.x more h.at;
      below = subst (λ (m : ℕ). c.after_run-x-in-loop-done.result < m) cells c.after_run-x-in-loop-done.ensures.below;
      least = omega arith;
      most = omega arith;
      room_x = filled_long to.x c.scale_row.new.to done more (fits_x here) part_x ∙ h.room_x;
      room_y = filled_long to.y c.scale_row-in-loop-done.new.to done more_y (fits_y here) part_y ∙ h.room_y;
      room_z = filled_long to.z c.scale_row-in-loop-done-2.new.to done more_z (fits_z here) part_z ∙ h.room_z;
      of_x = next here X c.run_at-of_x.result.now more (of_x here) to.x c.scale_row.new.to _ (omega (arith, fits_x here)) part_x h.of_x
          c.scale_row.ensures.values c.scale_row.ensures.small;
      of_y = λ is.
          subst (λ (m : ℕ). IsScaledRow c.args.from.now.field.now.cells (read_by c.args.from.now) Y (start_cell c.args.start) c.args.span.first
          (done + m) all_y)
          (c.count_if-more_y.ensures.all is)
          (next here Y c.run_at-of_y.result.now more_y (of_y here) to.y c.scale_row-in-loop-done.new.to rest_y (omega (arith, fits_y here)) part_y (h.of_y is)
          c.scale_row-in-loop-done.ensures.values c.scale_row-in-loop-done.ensures.small);
      of_z = λ is.
          subst (λ (m : ℕ). IsScaledRow c.args.from.now.field.now.cells (read_by c.args.from.now) Z (start_cell c.args.start) c.args.span.first
          (done + m) all_z)
          (c.count_if-more_z.ensures.all is)
          (next here Z c.run_at-of_z.result.now more_z (of_z here) to.z c.scale_row-in-loop-done-2.new.to rest_z (omega (arith, fits_z here)) part_z (h.of_z is)
          c.scale_row-in-loop-done-2.ensures.values c.scale_row-in-loop-done-2.ensures.small);
    }
