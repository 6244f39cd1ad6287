use Rattle.std.proofs.Common.{◌≡◌, ◌+◌, ◌-◌, ◌<◌, ◌≤◌, ◌-ℤ◌, ℕ, ℤ, pos, length, take, drop, ◌∙◌, ap, arith}
use Rattle.std.proofs.lemmas.List.{get_or-take}
use Rattle.pic_block.proofs.RowLaws.{part_long}
use Rattle.pic_grid.specs.Lattice.{value_at}
use Rattle.pic_grid.proofs.CopyLaws.{filled_long}
use Rattle.pic_field.specs.Rows.{row_at, start_cell}
use Rattle.pic_field.proofs.LessenedLaws.{run_values, run_rest}
use Rattle.pic_field.proofs.row.lessen_row.Goals as goal

pub loop-done-preserved : goal.loop-done-preserved
loop-done-preserved c =
    let done = c.loop-done.done in
    let more = c.min-more.result in
    let row = c.loop-done.row in
    let part = c.subtract.new.row in
    let h = c.loop-done.invariant in
    let fits : done + more ≤ length row = omega arith in
    let long : length part ≡ more = c.subtract.auto.row ∙ part_long row done more fits in
    let g : ℕ → ℤ → ℤ = λ k v. v -ℤ value_at c.args.by.now c.args.axis (record (start_cell c.args.start) { x = c.args.start.x + k }) in
    let made : (i : ℕ) → i < more → row_at part i ≡ g (done + i) (row_at (take (done + more - done) (drop done row)) i) =
    λ i below.
    let in_run : i < length c.run_at-run.result.now = omega arith in
    let at : c.slot_x-x.result.index + i ≡ c.args.start.x + (done + i) = omega (arith, c.slot_x-x.ensures.index) in
    let value = get_or-take more c.run_at-run.result.now i (pos 0) below
    ∙ c.run_at-run.ensures.values i in_run
    ∙ ap (λ (x : ℕ). value_at c.args.by.now c.args.axis (record (start_cell c.args.start) { x = x })) at in
    c.subtract.ensures i (omega (arith, below, part_long row done more fits))
    ∙ ap (λ (v : ℤ). row_at (take (done + more - done) (drop done row)) i -ℤ v) value in
    record {
      most = omega arith;
      long = filled_long row part done more fits long ∙ h.long;
      values = run_values g c.args.row.now row part done more fits long h.values h.rest made;
      rest = run_rest g c.args.row.now row part done more fits long h.values h.rest made;
    }
