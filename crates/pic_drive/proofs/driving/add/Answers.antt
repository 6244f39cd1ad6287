use Rattle.std.proofs.Common.{◌≡◌, ℤ, ◌+ℤ◌, ◌^◌, to_z, of_z, ◌∙◌, ap, subst, sym}
use mir.Syntax.{w128}
use Rattle.pic_num.specs.Sizes.{IsAtMost}
use Rattle.pic_num.specs.Space.{triple}
use Rattle.pic_num.proofs.SizeLaws.{codes, code_is}
use Rattle.pic_drive.proofs.PlusLaws.{plus_one}
use Rattle.pic_drive.proofs.driving.add.Goals as goal

pub returns : goal.returns
returns c =
    let p = triple c.args.cell in
    let old : IsAtMost c.at.result (2 ^ 101) = subst (λ (v : ℤ). IsAtMost v (2 ^ 101)) (sym c.at.ensures)
    (c.requires.small.at_most c.args.axis p c.requires.within) in
    let value : IsAtMost c.args.value (2 ^ 60) = c.requires.value in
    let sum : to_z w128 (of_z w128 (to_z w128 (of_z w128 c.at.result) +ℤ to_z w128 (of_z w128 c.args.value))) ≡ c.at.result +ℤ c.args.value =
    code_is (search codes depth 20) tt in
    c.set.ensures.after
    ∙ plus_one c.args.to.now c.args.axis p c.args.value _ c.cells-shape.ensures.shape c.requires.within (sum ∙ ap (λ (v : ℤ). v +ℤ c.args.value) c.at.ensures)
