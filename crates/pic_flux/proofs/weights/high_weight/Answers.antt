use Rattle.std.proofs.Common.{◌≡◌, ℤ, pos, ◌^◌, ◌≤◌, ◌-ℤ◌, ◌*ℤ◌, ◌+ℤ◌, ℕ, unsigned_abs, to_z, of_z, ap, subst, sym, ◌∙◌, arith}
use Rattle.std.specs.Prelude.{◌≤ℤ◌}
use mir.Syntax.{w32, w64}
use mir.Val.{SFits}
use Rattle.std.proofs.lemmas.Int.{ints, to_z-of_z}
use Rattle.pic_num.specs.Sizes.{IsAtMost}
use Rattle.pic_flux.specs.Corners.{face_weight}
use Rattle.pic_flux.proofs.FluxSizeLaws.{cell_small}
use Rattle.pic_flux.proofs.weights.high_weight.Goals as goal

by_fits : (z : ℤ) → SFits w32 z → unsigned_abs z ≤ 2 ^ 31
by_fits z fits = omega (arith, ints, fits.sfits)

between : (z p : ℤ) (s : ℕ) → z ≤ℤ p → p ≤ℤ (z +ℤ pos s) → s ≤ 2 ^ 14 → IsAtMost (p -ℤ z) (2 ^ 14)
between z p s h k few = record { size = omega (arith, ints, h, k, few) }

pub returns : goal.returns
unfolding face_weight
returns c =
    let side_is : to_z w64 (of_z w64 c.from.result) ≡ pos c.args.sub =
    to_z-of_z w64 c.from.result (record { sfits = c.from.type_inv }) ∙ c.from.ensures ∙ ap pos c.side.ensures.value in
    let held = to_z-of_z w64 c.above.result (record { sfits = c.above.type_inv }) in
    let is : to_z w64 (of_z w64 c.above.result) ≡ c.args.p -ℤ c.args.c *ℤ pos c.args.sub =
    held ∙ c.above.ensures ∙ (λ i. to_z-of_z w32 c.args.p c.ranges.p i -ℤ to_z-of_z w32 c.args.c c.ranges.c i *ℤ side_is i) in
    record {
      value = is;
      size = subst (λ (z : ℤ). IsAtMost z (2 ^ 14)) (sym is)
          (between (c.args.c *ℤ pos c.args.sub) c.args.p c.args.sub c.requires.low c.requires.high c.side.ensures.most);
      cell = cell_small c.args.sub c.args.c c.args.p c.side.ensures.least c.side.ensures.most c.requires (by_fits c.args.p c.ranges.p);
    }
