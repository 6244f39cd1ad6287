use Rattle.std.proofs.Common.{◌≡◌, ◌^◌, ℤ, pos, ◌-ℤ◌, ◌*ℤ◌, to_z, of_z, sym, ap, ◌∙◌, subst, arith}
use mir.Syntax.{w32, w64}
use mir.Val.{SFits}
use Rattle.std.proofs.lemmas.Int.{ints, to_z-of_z}
use Rattle.pic_num.specs.Sizes.{IsAtMost}
use Rattle.pic_num.proofs.SizeLaws.{codes, code_fits, code_is}
use Rattle.pic_split.proofs.face.way_to.Goals as goal
use Rattle.pic_split.proofs.face.way_to.Goals.{After-from-3}

small : (x r : ℤ) → SFits w32 x → r ≡ to_z w32 (of_z w32 x) → IsAtMost r (2 ^ 31)
small x r fits e = subst (λ (z : ℤ). IsAtMost z (2 ^ 31)) (sym (e ∙ to_z-of_z w32 x fits)) (record { size = omega (arith, ints, fits.sfits) })

wide_is : (c : After-from-3)
    → to_z w64 (of_z w64 (to_z w64 (of_z w64 (to_z w64 (of_z w64 c.from.result) *ℤ to_z w64 (of_z w64 c.from-2.result)))
    -ℤ to_z w64 (of_z w64 c.from-3.result)))
    ≡ c.args.cell *ℤ pos c.args.side -ℤ c.args.p
wide_is c =
    let cell = small c.args.cell c.from.result c.ranges.cell c.from.ensures in
    let side : IsAtMost c.from-2.result (2 ^ 14) = subst (λ (z : ℤ). IsAtMost z (2 ^ 14)) (sym c.from-2.ensures) (record { size = c.requires.side }) in
    let p = small c.args.p c.from-3.result c.ranges.p c.from-3.ensures in
    code_is (search codes depth 16) tt
    ∙ (λ i. (c.from.ensures ∙ to_z-of_z w32 c.args.cell c.ranges.cell) i *ℤ c.from-2.ensures i -ℤ (c.from-3.ensures ∙ to_z-of_z w32 c.args.p c.ranges.p) i)

near : (c : After-from-3) → SFits w32 (c.args.cell *ℤ pos c.args.side -ℤ c.args.p)
near c = let size = c.requires.near in code_fits w32 (search codes depth 2) tt

pub overflow_mul-result : goal.overflow_mul-result
overflow_mul-result c =
    let cell = small c.args.cell c.from.result c.ranges.cell c.from.ensures in
    let side : IsAtMost c.from-2.result (2 ^ 14) = subst (λ (z : ℤ). IsAtMost z (2 ^ 14)) (sym c.from-2.ensures) (record { size = c.requires.side }) in
    code_fits w64 (search codes depth 8) tt

pub overflow_sub-result : goal.overflow_sub-result
overflow_sub-result c =
    let cell = small c.args.cell c.from.result c.ranges.cell c.from.ensures in
    let side : IsAtMost c.from-2.result (2 ^ 14) = subst (λ (z : ℤ). IsAtMost z (2 ^ 14)) (sym c.from-2.ensures) (record { size = c.requires.side }) in
    let p = small c.args.p c.from-3.result c.ranges.p c.from-3.ensures in
    code_fits w64 (search codes depth 10) tt

pub overflow_cast-result : goal.overflow_cast-result
overflow_cast-result c = subst (λ (z : ℤ). SFits w32 z) (sym (wide_is c)) (near c)

pub returns : goal.returns
returns c = ap (λ (z : ℤ). to_z w32 (of_z w32 z)) (wide_is c) ∙ to_z-of_z w32 (c.args.cell *ℤ pos c.args.side -ℤ c.args.p) (near c)
