use Rattle.std.proofs.Common.{◌≡◌, ℤ, pos, ◌^◌, ◌+ℤ◌, to_z, of_z, ◌∙◌, ap}
use mir.Syntax.{w128}
use Rattle.pic_num.specs.Rounding.{rounded}
use Rattle.pic_num.proofs.SizeLaws.{codes, code_fits, code_is}
use Rattle.pic_boris.proofs.turning.half_part.Goals as goal

pub overflow_add-result : goal.overflow_add-result
overflow_add-result c = code_fits w128 (search codes depth 14) tt

pub returns : goal.returns
returns c =
    let w_is : to_z w128 (of_z w128 c.args.w) ≡ c.args.w = code_is (search codes depth 4) tt in
    code_is (search codes depth 14) tt
    ∙ ap (λ (z : ℤ). c.args.v +ℤ z) (c.rounded_shift.ensures.value ∙ ap (λ (z : ℤ). rounded z (pos (2 ^ 20))) w_is)
