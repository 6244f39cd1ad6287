use Rattle.std.proofs.Common.{ℤ, sym, ◌∙◌, subst}
use Rattle.pic_num.specs.Sizes.{IsAtMost}
use Rattle.pic_charge.specs.Charge.{most_node_charge}
use Rattle.pic_charge.proofs.ChargeLaws.{short_side, charge_of_most}
use Rattle.pic_charge.proofs.sums.charge_by.Goals as goal

pub returns-then-stay_small-clause-size : goal.returns-then-stay_small-clause-size
returns-then-stay_small-clause-size c = λ p within.
    let short = short_side _ _ c.sub-sub.ensures c.side-side.ensures.most in
    subst (λ (v : ℤ). IsAtMost v most_node_charge) (sym (c.write.ensures.values p within ∙ c.sum_up.ensures.values p within))
    (charge_of_most c.args.cells.side c.args.cells.n c.args.kinds.now c.args.particles.now p short c.requires.limits c.requires.few)
