use Rattle.std.proofs.Common.{◌≡◌, ℤ, pos, ◌+ℤ◌, ◌*ℤ◌, to_z, of_z, subst, ◌∙◌}
use Rattle.std.specs.Prelude.{◌≤ℤ◌}
use mir.Syntax.{w32, w64}
use Rattle.std.proofs.lemmas.Int.{to_z-of_z}
use Rattle.pic_base_tests.proofs.deposits.is_inside.Goals as goal

pub returns : goal.returns
returns c =
    let p_is = to_z-of_z w32 c.args.p c.ranges.p in
    let c_is = to_z-of_z w32 c.args.c c.ranges.c in
    let low : to_z w64 (of_z w64 c.low_face.result) ≡ c.args.c *ℤ pos c.args.side =
    to_z-of_z w64 c.low_face.result (record { sfits = c.low_face.type_inv }) ∙ c.low_face.ensures.value ∙ (λ i. c_is i *ℤ pos c.args.side) in
    λ yes. record {
      low = subst (λ (z : ℤ). z ≤ℤ c.args.p) low (subst (λ (z : ℤ). to_z w64 (of_z w64 c.low_face.result) ≤ℤ z) p_is (c.is_between.ensures.low yes));
      high = subst (λ (z : ℤ). c.args.p ≤ℤ (z +ℤ pos c.args.side)) low
          (subst (λ (z : ℤ). z ≤ℤ (to_z w64 (of_z w64 c.low_face.result) +ℤ pos c.args.side)) p_is (c.is_between.ensures.high yes));
    }
