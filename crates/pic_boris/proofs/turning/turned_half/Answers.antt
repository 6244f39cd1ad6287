use Rattle.std.proofs.Common.{◌≡◌, pos, ◌^◌, to_z, of_z, subst, sym, ◌∙◌, ◌+◌, arith}
use mir.Syntax.{w128}
use Rattle.pic_num.specs.Push.{half_turned, each, plus}
use Rattle.pic_num.specs.Rounding.{rounded}
use Rattle.pic_num.specs.Space.{Spot, AreAtMost}
use Rattle.pic_boris.specs.Vector.{spot_of}
use Rattle.pic_boris.proofs.TurnLaws.{half_part_is, half_turned_size, more_at_most}
use Rattle.pic_boris.proofs.turning.turned_half.Goals as goal

pub returns : goal.returns
unfolding half_turned
returns c =
    let v = spot_of c.args.v in
    let t = spot_of c.args.t in
    let w = spot_of c.cross_of-w.result in
    let x = half_part_is v.x w.x c.half_part.result c.requires.v_small.x c.cross_of-w.ensures.size.x
    (record { sfits = c.half_part.type_inv }) c.half_part.ensures in
    let y = half_part_is v.y w.y c.half_part-2.result c.requires.v_small.y c.cross_of-w.ensures.size.y
    (record { sfits = c.half_part-2.type_inv }) c.half_part-2.ensures in
    let z = half_part_is v.z w.z c.half_part-3.result c.requires.v_small.z c.cross_of-w.ensures.size.z
    (record { sfits = c.half_part-3.type_inv }) c.half_part-3.ensures in
    let told : Spot = record {
      x = to_z w128 (of_z w128 c.half_part.result);
      y = to_z w128 (of_z w128 c.half_part-2.result);
      z = to_z w128
          (of_z w128 c.half_part-3.result);
    } in
    let parts : told ≡ plus v (each (λ c. rounded c (pos (2 ^ 20))) w) = λ i. record { x = x i; y = y i; z = z i } in
    let is : told ≡ half_turned v t = parts ∙ (λ i. plus v (each (λ c. rounded c (pos (2 ^ 20))) (c.cross_of-w.ensures.value i))) in
    record {
      value = is;
      size = subst (λ (p : Spot). AreAtMost p (2 ^ 46)) (sym is) (more_at_most (half_turned v t) (2 ^ 40 + 2 ^ 45) (2 ^ 46) (omega arith)
          (half_turned_size v t (2 ^ 40) (2 ^ 24) (2 ^ 45) c.requires.v_small c.requires.t_small (omega arith)));
    }
