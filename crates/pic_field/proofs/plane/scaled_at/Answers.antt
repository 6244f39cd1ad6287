use Rattle.std.proofs.Common.{◌≡◌, ◌+◌, ◌^◌, ℕ, ℤ, pos, to_z, of_z, slice_index_or, sym, ◌∙◌, ap, subst, arith}
use mir.Syntax.{w128}
use Rattle.pic_num.specs.Rounding.{scaled}
use Rattle.pic_num.specs.Sizes.{IsAtMost}
use Rattle.pic_num.specs.Space.{Triple}
use Rattle.pic_num.proofs.SizeLaws.{codes, code_is}
use Rattle.pic_block.specs.Cells.{IsWithin}
use Rattle.pic_grid.specs.Lattice.{value_at}
use Rattle.pic_field.specs.Rows.{row_at}
use Rattle.pic_field.proofs.plane.scaled_at.Goals as goal

pub returns-clause-value : goal.returns-clause-value
returns-clause-value c =
    let f = c.args.from.now.field.now in
    let a = c.args.axis in
    let run = c.run_at-run.result.now in
    let kept : to_z w128 (of_z w128 c.scale_value.result) ≡ c.scale_value.result = code_is (search codes depth 6) tt in
    let cell : Triple = record { x = c.args.x.index; y = c.args.y.index; z = c.args.z.index } in
    let same : c.args.x.index + 0 ≡ c.args.x.index = omega arith in
    let here : row_at run 0 ≡ value_at f a cell =
    c.run_at-run.ensures.values 0 c.run_at-run.ensures.some ∙ ap (λ (m : ℕ). value_at f a (record cell { x = m })) same in
    let within : IsWithin cell f.cells = record { x = c.requires.x.within; y = c.requires.y.within; z = c.requires.z.within } in
    let small : IsAtMost (slice_index_or run 0 (pos 0)) (2 ^ 90) =
    subst (λ (v : ℤ). IsAtMost v (2 ^ 90)) (sym here) (c.requires.small.at_most a cell within) in
    let read : to_z w128 (of_z w128 (row_at run 0)) ≡ row_at run 0 = code_is (search codes depth 6) tt in
    kept ∙ c.scale_value.ensures.value ∙ ap (λ (v : ℤ). scaled v c.args.from.now.by) (read ∙ here)
