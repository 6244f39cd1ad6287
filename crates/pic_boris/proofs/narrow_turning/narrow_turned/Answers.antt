use Rattle.std.proofs.Common.{◌≡◌, pos, ◌^◌, ◌+ℤ◌, ◌*ℤ◌, to_z, of_z, ◌∙◌}
use mir.Syntax.{w64}
use Rattle.pic_num.proofs.SizeLaws.{codes, code_is}
use Rattle.pic_num.specs.Push.{cross, dot, half_turned, turned, each, plus}
use Rattle.pic_num.specs.Rounding.{rounded}
use Rattle.pic_boris.specs.Narrow.{narrow_spot}
use Rattle.pic_boris.proofs.narrow_turning.narrow_turned.Goals as goal

pub returns-clause-value : goal.returns-clause-value
unfolding turned
returns-clause-value c =
    let v = narrow_spot c.args.v in
    let t = narrow_spot c.args.t in
    let crossed : narrow_spot c.narrow_cross.result ≡ cross (half_turned v t) t =
    c.narrow_cross.ensures.value ∙ (λ i. cross (c.half_turned.ensures.value i) t) in
    let divisor : to_z w64 (of_z w64 c.divisor.result) ≡ pos (2 ^ 40) +ℤ dot t t = code_is (search codes depth 4) tt ∙ c.divisor.ensures.value in
    c.turned_to.ensures.value
    ∙ (λ i. plus v (c.quotients.ensures.value i))
    ∙ (λ i. plus v (each (λ k. rounded (pos (2 ^ 21) *ℤ k) (divisor i)) (crossed i)))
