use Rattle.std.proofs.Common.{◌≡◌, pos, ◌^◌, ◌*ℤ◌, to_z, of_z, ◌∙◌}
use mir.Syntax.{w128}
use Rattle.pic_num.specs.Push.{cross, half_turned, turned, each, plus}
use Rattle.pic_num.specs.Rounding.{rounded}
use Rattle.pic_num.specs.Space.{Spot}
use Rattle.pic_boris.specs.Vector.{spot_of}
use Rattle.pic_boris.proofs.TurnLaws.{whole_part_is}
use Rattle.pic_boris.proofs.turning.turned_by.Goals as goal

pub returns-clause-value : goal.returns-clause-value
unfolding turned
returns-clause-value c =
    let v = spot_of c.args.v in
    let t = spot_of c.args.t in
    let w = spot_of c.cross_of-w.result in
    let d = c.divisor-divisor.result in
    let small = c.divisor-divisor.ensures.size in
    let x = whole_part_is v.x w.x d c.whole_part.result c.requires.v_small.x c.cross_of-w.ensures.size.x small
    (record { sfits = c.whole_part.type_inv }) c.whole_part.ensures.value in
    let y = whole_part_is v.y w.y d c.whole_part-2.result c.requires.v_small.y c.cross_of-w.ensures.size.y small
    (record { sfits = c.whole_part-2.type_inv }) c.whole_part-2.ensures.value in
    let z = whole_part_is v.z w.z d c.whole_part-3.result c.requires.v_small.z c.cross_of-w.ensures.size.z small
    (record { sfits = c.whole_part-3.type_inv }) c.whole_part-3.ensures.value in
    let crossed : w ≡ cross (half_turned v t) t = c.cross_of-w.ensures.value ∙ (λ i. cross (c.turned_half.ensures.value i) t) in
    let told : Spot = record {
      x = to_z w128 (of_z w128 c.whole_part.result);
      y = to_z w128 (of_z w128 c.whole_part-2.result);
      z = to_z w128
          (of_z w128 c.whole_part-3.result);
    } in
    let parts : told ≡ plus v (each (λ c. rounded (pos (2 ^ 21) *ℤ c) d) w) = λ i. record { x = x i; y = y i; z = z i } in
    parts ∙ (λ i. plus v (each (λ k. rounded (pos (2 ^ 21) *ℤ k) (c.divisor-divisor.ensures.value i)) (crossed i)))
