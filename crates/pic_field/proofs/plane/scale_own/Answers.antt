use Rattle.std.proofs.Common.{rules, ◌≡◌, ◌+◌, ◌%◌, ◌<◌, ℕ, ℤ, length, to_z, of_z, slice_index, refl, sym, ◌∙◌, ap, subst, arith}
use mir.Syntax.{w128}
use Rattle.pic_num.specs.declared.axis.Axis.TheVariants.{Y, Z}
use Rattle.pic_num.specs.Rounding.{scaled}
use Rattle.pic_num.specs.Sizes.{IsAtMost}
use Rattle.pic_num.specs.Space.{Triple}
use Rattle.pic_num.proofs.SizeLaws.{codes, code_is}
use Rattle.pic_grid.specs.Lattice.{value_at}
use Rattle.pic_field.specs.Rows.{most_row, read_by, start_cell, along_x}
use Rattle.pic_field.proofs.RowLaws.{with_edge}
use Rattle.pic_field.proofs.plane.scale_own.Goals as goal

pub scale_rows-requires : goal.scale_rows-requires
scale_rows-requires c = record { start = c.requires.start; span = c.requires.span; small = c.requires.small }

pub after_run-requires : goal.after_run-requires
after_run-requires c =
    let limit = c.numbers.ensures.limits.x_most in
    let number = ap (λ (n : Triple). n.x) c.numbers.ensures.value in
    let cells = ap (λ (n : Triple). n.x) c.cells.ensures.value in
    let below = c.requires.start.x in
    record {
      count = omega (arith, limit, number);
      x = omega (arith, number, cells, below);
      run = omega (arith, number, cells, c.requires.edge);
    }

pub slot_x-edge-requires : goal.slot_x-edge-requires
slot_x-edge-requires c =
    subst (λ (m : ℕ). c.after_run.result < m) (ap (λ (n : Triple). n.x) (c.numbers.ensures.value ∙ c.cells.ensures.value)) c.after_run.ensures.below

pub scaled_at-of_y-requires : goal.scaled_at-of_y-requires
scaled_at-of_y-requires c =
    record { x = c.slot_x-edge.ensures.slot; y = c.requires.start.y; z = c.requires.start.z; small = c.requires.small }

pub scaled_at-of_z-requires : goal.scaled_at-of_z-requires
scaled_at-of_z-requires c =
    record { x = c.slot_x-edge.ensures.slot; y = c.requires.start.y; z = c.requires.start.z; small = c.requires.small }

pub returns : goal.returns
returns c =
    let f = c.args.from.now.field.now in
    let by = c.args.from.now.by in
    let s = c.args.span in
    let at : Triple = start_cell c.args.start in
    let line = c.scale_rows.new.to in
    let cells : slice_index c.numbers.result 0 ≡ f.cells.x = ap (λ (m : Triple). m.x) (c.numbers.ensures.value ∙ c.cells.ensures.value) in
    let layer : c.slot_x-edge.result.index ≡ (at.x + s.edge) % f.cells.x =
    c.slot_x-edge.ensures.index ∙ c.after_run.ensures.value ∙ (λ i. (at.x + s.edge) % cells i) in
    let edge : record at { x = c.slot_x-edge.result.index } ≡ along_x f.cells at s.edge = λ i. record at { x = layer i } in
    let long_y : length line.y ≡ 129 = search rules in
    let long_z : length line.z ≡ 129 = search rules in
    let size_y : IsAtMost c.scaled_at-of_y.result most_row = c.scaled_at-of_y.ensures.size in
    let size_z : IsAtMost c.scaled_at-of_z.result most_row = c.scaled_at-of_z.ensures.size in
    let kept_y : to_z w128 (of_z w128 c.scaled_at-of_y.result) ≡ c.scaled_at-of_y.result = code_is (search codes depth 6) tt in
    let kept_z : to_z w128 (of_z w128 c.scaled_at-of_z.result) ≡ c.scaled_at-of_z.result = code_is (search codes depth 6) tt in
    record {
      x = c.scale_rows.ensures.x;
      y = with_edge f.cells (read_by c.args.from.now) Y at s line.y _ c.requires.span (omega (arith, long_y, c.requires.span.edge, c.requires.span.few))
          (c.scale_rows.ensures.y refl)
          (kept_y ∙ c.scaled_at-of_y.ensures.value ∙ ap (λ (p : Triple). scaled (value_at f Y p) by) edge)
          (subst (λ (v : ℤ). IsAtMost v most_row) (sym kept_y) size_y);
      z = with_edge f.cells (read_by c.args.from.now) Z at s line.z _ c.requires.span (omega (arith, long_z, c.requires.span.edge, c.requires.span.few))
          (c.scale_rows.ensures.z refl)
          (kept_z ∙ c.scaled_at-of_z.ensures.value ∙ ap (λ (p : Triple). scaled (value_at f Z p) by) edge)
          (subst (λ (v : ℤ). IsAtMost v most_row) (sym kept_z) size_z);
    }
