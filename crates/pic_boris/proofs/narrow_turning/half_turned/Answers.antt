use Rattle.std.proofs.Common.{◌≡◌, pos, ◌+◌, ◌^◌, ◌∙◌, subst, sym, arith}
use Rattle.pic_num.specs.Push.{each, plus, half_turned}
use Rattle.pic_num.specs.Rounding.{rounded}
use Rattle.pic_num.specs.Space.{Spot, AreAtMost}
use Rattle.pic_boris.specs.Narrow.{narrow_spot}
use Rattle.pic_boris.proofs.TurnLaws.{half_turned_size, more_at_most}
use Rattle.pic_boris.proofs.narrow_turning.half_turned.Goals as goal

pub returns-clause-size : goal.returns-clause-size
unfolding half_turned
returns-clause-size c =
    let v = narrow_spot c.args.v in
    let t = narrow_spot c.args.t in
    let is : narrow_spot c.narrow_sum.result ≡ half_turned v t =
    c.narrow_sum.ensures.value
    ∙ (λ i. plus v (c.all_over_one.ensures.value i))
    ∙ (λ i. plus v (each (λ n. rounded n (pos (2 ^ 20))) (c.narrow_cross.ensures.value i))) in
    subst (λ (p : Spot). AreAtMost p (2 ^ 28)) (sym is)
    (more_at_most (half_turned v t) (2 ^ 26 + 2 ^ 26) (2 ^ 28) (omega arith)
    (half_turned_size v t (2 ^ 26) (2 ^ 19) (2 ^ 26) c.requires.v_small c.requires.t_small (omega arith)))
