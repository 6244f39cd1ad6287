use Rattle.std.proofs.Common.{◌≡◌, to_z, of_z}
use Rattle.std.proofs.Math.IntN.{◌+ℤ◌}
use mir.Syntax.{w128}
use Rattle.pic_num.proofs.SizeLaws.{codes, code_is}
use Rattle.pic_filter.proofs.kept.Kept.with.Goals as goal

pub returns : goal.returns
returns c =
    let k = c.args.self in
    let next = c.args.next in
    let one : to_z w128 (of_z w128 next) ≡ next = code_is (search codes depth 6) tt in
    let two : to_z w128 (of_z w128 (to_z w128 (of_z w128 k.one) +ℤ to_z w128 (of_z w128 next))) ≡ k.one +ℤ next = code_is (search codes depth 10) tt in
    let three : to_z w128 (of_z w128 (to_z w128 (of_z w128 k.two) +ℤ to_z w128 (of_z w128 (to_z w128 (of_z w128 k.one) +ℤ to_z w128 (of_z w128 next)))))
    ≡ k.two +ℤ (k.one +ℤ next) = code_is (search codes depth 14) tt in
    λ i. record { one = one i; two = two i; three = three i }
