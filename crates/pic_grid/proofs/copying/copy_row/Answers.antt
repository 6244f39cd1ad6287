use Rattle.std.proofs.Common.{◌≡◌, ◌+◌, ◌≤◌, ℤ, pos, List, length, slice_index_or, ◌∙◌, ap, arith}
use Rattle.std.proofs.lemmas.List.{length-take-le, get_or-take}
use Rattle.pic_num.specs.Space.{triple}
use Rattle.pic_grid.proofs.CopyLaws.{filled_long, run_more}
use Rattle.pic_grid.proofs.copying.copy_row.Goals as goal

pub loop-done-preserved : goal.loop-done-preserved
loop-done-preserved c =
    let done = c.loop-done.done in
    let more = c.min-more.result in
    let run = c.run-run.result.now in
    let part = c.copy_from_slice.new.self in
    let h = c.loop-done.invariant in
    let in_run : more ≤ length run = omega arith in
    let in_row : done + more ≤ length c.args.to.now = omega arith in
    let fits : done + more ≤ length c.loop-done.to = omega (arith, in_row, h.room) in
    let room : done ≤ length c.loop-done.to = omega (arith, fits) in
    let is = c.copy_from_slice.ensures.after in
    let long : length part ≡ more = ap length is ∙ length-take-le more run in_run in
    record {
      most = in_row;
      room = filled_long c.loop-done.to part done more fits long ∙ h.room;
      row = run_more c.args.from.now c.args.axis (triple c.args.cell) done more c.loop-done.to part _ h.row room long
          (λ i below. ap (λ (xs : List ℤ). slice_index_or xs i (pos 0)) is ∙ get_or-take more run i (pos 0) below
          ∙ c.run-run.ensures.values i (omega (arith, below, in_run)));
    }
