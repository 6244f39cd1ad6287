use Rattle.std.proofs.Common.{◌≡◌, ◌-◌, ◌^◌, pos, ap, to_z, of_z, sym, ◌∙◌}
use mir.Syntax.{w32, w128}
use Rattle.pic_num.specs.Rounding.{rounded}
use Rattle.pic_num.specs.Sizes.{IsAtMost}
use Rattle.pic_num.proofs.SizeLaws.{codes, code_is}
use Rattle.pic_field.proofs.ShiftLaws.{scaled_one}
use Rattle.pic_field.proofs.row.scale_value.Goals as goal

pub returns-then-n-eq1-clause-value : goal.returns-then-n-eq1-clause-value
returns-then-n-eq1-clause-value c =
    let n_size : IsAtMost c.n.result (2 ^ 31 - 1) = c.n.ensures.size in
    let n_is : to_z w32 (of_z w32 c.n.result) ≡ c.n.result = code_is (search codes depth 4) tt in
    let one : c.args.by.n ≡ pos 1 = sym c.n.ensures.value ∙ sym n_is ∙ ap (to_z w32) c.if-n-eq1.true in
    let kept : to_z w128 (of_z w128 c.shifted.result) ≡ c.shifted.result = code_is (search codes depth 6) tt in
    let read : to_z w128 (of_z w128 c.args.v) ≡ c.args.v = code_is (search codes depth 6) tt in
    kept ∙ c.shifted.ensures.value ∙ (λ j. rounded (read j) (pos (2 ^ c.k-k.ensures.value j))) ∙ scaled_one c.args.v c.args.by one
