use Rattle.std.proofs.Common.{subst, sym, ◌∙◌, arith}
use Rattle.std.proofs.lemmas.Int.{ints, quot_is}
use mir.Syntax.{w128}
use mir.Val.{SFits}
use Rattle.std.specs.Prelude.{int_div}
use Rattle.pic_num.specs.Rounding.{IsTruncated, truncated}
use Rattle.pic_num.proofs.RoundingLaws.{truncated-is, truncated-unique, truncated-no_larger}
use Rattle.pic_num.proofs.rounding.trunc_div.Goals as goal

pub returns : goal.returns
unfolding truncated
returns c =
    let n_fits : SFits w128 c.args.n = c.ranges.n in
    let d_fits : SFits w128 c.args.d = c.ranges.d in
    let no_larger = truncated-no_larger c.args.n c.args.d c.requires.d_not_zero in
    let fits : SFits w128 (int_div c.args.n c.args.d) = omega (arith, ints, no_larger) in
    let is = quot_is w128 c.args.n c.args.d n_fits d_fits fits in
    record {
      value = is;
      towards_zero = subst (IsTruncated c.args.n c.args.d) (sym is) (truncated-is c.args.n c.args.d c.requires.d_not_zero);
      only = λ r h. truncated-unique c.args.n c.args.d r c.requires.d_not_zero h ∙ sym is;
    }
