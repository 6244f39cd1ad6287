use Rattle.std.proofs.Common.{◌≡◌, ℤ, pos, ◌≤◌, ◌*ℤ◌, ◌+ℤ◌, unsigned_abs, to_z, of_z, subst, sym, ◌∙◌, arith}
use Rattle.std.proofs.lemmas.Int.{ints, to_z-of_z}
use mir.Syntax.{w128}
use mir.Val.{SFits}
use Rattle.pic_num.specs.Rounding.{IsRounded, rounded}
use Rattle.pic_num.proofs.RoundingLaws.{rounded-is, rounded-unique, rounded-no_larger}
use Rattle.pic_num.proofs.rounding.rdiv.Goals as goal

pub returns : goal.returns
unfolding rounded
returns c =
    let n_fits : SFits w128 c.args.n = c.ranges.n in
    let d_fits : SFits w128 c.args.d = c.ranges.d in
    let fits : SFits w128 c.div_euclid.result = record { sfits = c.div_euclid.type_inv } in
    let twice_n : SFits w128 (pos 2 *ℤ c.args.n) = omega (arith, ints) in
    let twice_d : SFits w128 (pos 2 *ℤ c.args.d) = omega (arith, ints) in
    let sum : SFits w128 (pos 2 *ℤ c.args.n +ℤ c.args.d) = omega (arith, ints) in
    let is : to_z w128 (of_z w128 c.div_euclid.result) ≡ rounded c.args.n c.args.d =
    simp to_z-of_z (simp to_z-of_z at c.div_euclid.ensures) in
    record {
      value = is;
      nearest = subst (IsRounded c.args.n c.args.d) (sym is) (rounded-is c.args.n c.args.d c.requires.d_above_zero);
      only = λ r h. rounded-unique c.args.n c.args.d r c.requires.d_above_zero h ∙ sym is;
      no_larger = subst (λ (z : ℤ). unsigned_abs z ≤ unsigned_abs c.args.n) (sym is) (rounded-no_larger c.args.n c.args.d c.requires.d_above_zero);
    }
