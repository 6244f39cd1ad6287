use Rattle.std.proofs.Common.{ℤ, sym, subst}
use Rattle.pic_num.specs.Sizes.{IsAtMost}
use Rattle.pic_grid.specs.Lattice.{EachAtMost, value_at}
use Rattle.pic_grid.proofs.LatticeLaws.{value_at-field_of}
use Rattle.pic_filter.specs.Smoothing.{smoothed_each, most_to_smooth, most_smoothed}
use Rattle.pic_filter.proofs.SizeLaws.{smoothed_small}
use Rattle.pic_advance.proofs.filtering.filter_current.Goals as goal

pub returns-clause-small : goal.returns-clause-small
returns-clause-small g c = subst (EachAtMost most_smoothed) (sym c.smooth_values-filtered.ensures) (record {
  at_most = λ a p within. subst (λ (v : ℤ). IsAtMost v most_smoothed)
      (sym (value_at-field_of c.args.current.side c.args.current.cells c.args.to.parts (smoothed_each c.args.current.cells (value_at c.args.current))
      a p within))
      (smoothed_small c.args.current.cells (value_at c.args.current a) most_to_smooth (c.requires.small.at_most a) p within);
})
