use Rattle.std.proofs.Common.{◌≡◌, ◌+◌, ◌^◌, ℤ, to_z, of_z, sym, ap, ◌∙◌, subst}
use lib.Signed.{shr_z}
use mir.Syntax.{w32}
use Rattle.std.proofs.lemmas.Int.{to_z-of_z}
use Rattle.pic_num.specs.Sizes.{IsAtMost}
use Rattle.pic_num.proofs.SizeLaws.{codes, code_is}
use Rattle.pic_grid.specs.Path.{floor_of}
use Rattle.pic_split.proofs.CrossingLaws.{shift_floor, floor_most}
use Rattle.pic_split.proofs.face.cell_of.Goals as goal

pub returns : goal.returns
unfolding floor_of
returns c =
    let p = c.args.p in
    let side = c.args.sub in
    let p_is = to_z-of_z w32 p c.ranges.p in
    let floor : shr_z (to_z w32 (of_z w32 p)) (2 ^ c.bits.result) ≡ floor_of side p =
    (λ i. shr_z (p_is i) (sym c.bits.ensures.power i)) ∙ shift_floor p side in
    let most = floor_most side p c.side-side.ensures.least c.side-side.ensures.most c.requires in
    let held : to_z w32 (of_z w32 (floor_of side p)) ≡ floor_of side p = code_is (search codes depth 4) tt in
    let is = ap (λ (z : ℤ). to_z w32 (of_z w32 z)) floor ∙ held in
    record { value = is; size = subst (λ (z : ℤ). IsAtMost z (2 ^ 30 + 2 ^ 15)) (sym is) most }
