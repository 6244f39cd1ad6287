use Rattle.std.proofs.Common.{◌≡◌, pos, ◌<◌, unsigned_abs, to_z, of_z, subst, sym, ◌∙◌, ap}
use Rattle.std.proofs.lemmas.Int.{to_z-of_z}
use mir.Syntax.{w64}
use mir.Val.{SFits}
use Rattle.pic_num.specs.Rounding.{IsResidue, residue}
use Rattle.pic_num.proofs.RoundingLaws.{residue-is, residue-unique}
use Rattle.pic_num.proofs.rounding.wrap.Goals as goal

pub returns : goal.returns
unfolding residue
returns c =
    let fits : SFits w64 c.rem_euclid.result = record { sfits = c.rem_euclid.type_inv } in
    let p_fits : SFits w64 c.args.p = c.ranges.p in
    let from_fits : SFits w64 c.from.result = record { sfits = c.from.type_inv } in
    let from_is : c.from.result ≡ pos c.args.len = c.from.ensures in
    let is : unsigned_abs (to_z w64 (of_z w64 c.rem_euclid.result)) ≡ residue c.args.p c.args.len =
    simp to_z-of_z (ap unsigned_abs (simp from_is at (simp to_z-of_z at c.rem_euclid.ensures.value))) in
    let residue_of = residue-is c.args.p c.args.len c.requires in
    record {
      value = is;
      below = subst (λ r. r < c.args.len) (sym is) residue_of.below;
      residue = subst (IsResidue c.args.p c.args.len) (sym is) residue_of;
      only = λ r h. residue-unique c.args.p c.args.len r c.requires h ∙ sym is;
    }
