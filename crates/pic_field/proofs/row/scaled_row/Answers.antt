use Rattle.std.proofs.Common.{◌≡◌, ◌+◌, ◌%◌, ◌^◌, ◌<◌, ◌≤◌, ℕ, pos, length, take, slice_index, refl, sym, ◌∙◌, ap, subst, arith}
use Rattle.std.proofs.Math.Nat.{mod-eq_of_lt}
use Rattle.std.proofs.lemmas.List.{length-take-le, get_or-take}
use Rattle.pic_num.specs.Space.{Triple}
use Rattle.pic_block.specs.Cells.{IsWithin}
use Rattle.pic_block.proofs.RowLaws.{part_long}
use Rattle.pic_grid.specs.Lattice.{value_at}
use Rattle.pic_field.specs.Rows.{most_row, read_by, row_at, start_cell, IsSmallRow}
use Rattle.pic_grid.proofs.CopyLaws.{filled_long}
use Rattle.pic_field.proofs.RowLaws.{row_none, round_on, run_small, more_scaled}
use Rattle.pic_field.proofs.row.scaled_row.Goals as goal
use Rattle.pic_field.proofs.row.scaled_row.Goals.{After-min-more}

pub loop-done-init : goal.loop-done-init
loop-done-init c =
    let x = c.args.start.x in
    let same : x + 0 ≡ x = omega arith in
    record {
      at = sym (ap (λ (m : ℕ). m % c.args.from.now.field.now.cells.x) same ∙ mod-eq_of_lt c.requires.start.x);
      below = c.requires.start.x;
      most = omega arith;
      room = refl;
      row = row_none c.args.from.now.field.now.cells (read_by c.args.from.now) c.args.axis (start_cell c.args.start) 0 c.args.to.now;
    }

-- where the loop stands: the run fits the row, and is not empty
record Known (c : After-min-more) : Type 0 where
  cells : slice_index c.numbers.result 0 ≡ c.args.from.now.field.now.cells.x
  some : 1 ≤ c.min-more.result
  in_run : c.min-more.result ≤ length c.run_at-run.result.now
  in_row : c.loop-done.done + c.min-more.result ≤ c.args.count
  inside : c.loop-done.x + c.min-more.result ≤ c.args.from.now.field.now.cells.x
  long : length (take c.min-more.result c.run_at-run.result.now) ≡ c.min-more.result
  values : (i : ℕ) → i < c.min-more.result
      → row_at (take c.min-more.result c.run_at-run.result.now) i
      ≡ value_at c.args.from.now.field.now c.args.axis (record (start_cell c.args.start) { x = c.loop-done.x + i })

known : (c : After-min-more) → Known c
known c =
    let more = c.min-more.result in
    let in_run : more ≤ length c.run_at-run.result.now = omega arith in
    record {
      cells = ap (λ (n : Triple). n.x) (c.numbers.ensures.value ∙ c.cells.ensures.value);
      some = omega (arith, c.run_at-run.ensures.some);
      in_run = in_run;
      in_row = omega arith;
      inside = omega (arith, c.run_at-run.ensures.inside, c.slot_x.ensures.index);
      long = length-take-le more c.run_at-run.result.now in_run;
      values = λ i below.
          get_or-take more c.run_at-run.result.now i (pos 0) below
          ∙ c.run_at-run.ensures.values i (omega arith)
          ∙ ap (λ (m : ℕ). value_at c.args.from.now.field.now c.args.axis (record (start_cell c.args.start) { x = m + i })) c.slot_x.ensures.index;
    }

within : (c : After-min-more) → IsWithin (start_cell c.args.start) c.args.from.now.field.now.cells
within c = record { x = c.requires.start.x; y = c.requires.start.y.within; z = c.requires.start.z.within }

pub scale_row-requires-clause-small : goal.scale_row-requires-clause-small
scale_row-requires-clause-small c =
    let at = (goal.at.scale_row-requires-clause-small c).After-min-more in
    let k = known at in
    let more = c.min-more.result in
    let run = take more c.run_at-run.result.now in
    subst (λ (m : ℕ). IsSmallRow (2 ^ 90) m run) (sym k.long)
    (run_small c.args.from.now.field.now c.args.from.now.by c.args.axis (start_cell c.args.start) c.loop-done.done more c.loop-done.x
    c.loop-done.invariant.at (within at)
    k.inside run k.values (2 ^ 90) c.requires.small)

pub loop-done-preserved : goal.loop-done-preserved
loop-done-preserved c =
    let here = (goal.at.loop-done-preserved c).After-min-more in
    let k = known here in
    let n = c.args.from.now.field.now.cells in
    let done = c.loop-done.done in
    let more = c.min-more.result in
    let h = c.loop-done.invariant in
    let room : done ≤ length c.loop-done.to = omega arith in
    let fits : done + more ≤ length c.loop-done.to = omega arith in
    let part : length c.scale_row.new.to ≡ more = c.scale_row.auto.to ∙ part_long c.loop-done.to done more fits in
    record {
      at = c.after_run-x.ensures.value ∙ ap (λ (m : ℕ). (c.loop-done.x + more) % m) k.cells ∙ round_on n.x c.args.start.x done c.loop-done.x more h.at;
      below = subst (λ (m : ℕ). c.after_run-x.result < m) k.cells c.after_run-x.ensures.below;
      most = k.in_row;
      room = filled_long c.loop-done.to c.scale_row.new.to done more fits part ∙ h.room;
      row = more_scaled c.args.from.now.field.now c.args.from.now.by c.args.axis (start_cell c.args.start) done more c.loop-done.x h.at (within here) k.inside
          (take more c.run_at-run.result.now) k.values 0 c.loop-done.to c.scale_row.new.to _ room part h.row
          (λ i below. c.scale_row.ensures.values i (omega (arith, k.long)))
          (subst (λ (m : ℕ). IsSmallRow most_row m c.scale_row.new.to) k.long c.scale_row.ensures.small);
    }
