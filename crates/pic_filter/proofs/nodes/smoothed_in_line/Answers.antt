use Rattle.std.proofs.Common.{◌*◌, ℤ, sym, ◌∙◌, ap, subst, lit≤}
use Rattle.pic_num.specs.declared.axis.Axis.TheVariants.{X}
use Rattle.pic_num.specs.Sizes.{IsAtMost}
use Rattle.pic_num.specs.Space.{triple}
use Rattle.pic_num.proofs.SizeLaws.{at_most_more}
use Rattle.pic_grid.specs.Lattice.{node_at}
use Rattle.pic_filter.specs.Runs.{most_across}
use Rattle.pic_filter.specs.Smoothing.{most_to_smooth, smoothed_along}
use Rattle.pic_filter.proofs.SizeLaws.{held, read, along_is, along_small}
use Rattle.pic_filter.proofs.nodes.smoothed_in_line.Goals as goal

pub returns : goal.returns
returns c =
    let n = c.args.cells.n in
    let g = node_at c.args.from.now in
    let p = triple c.args.node in
    let small = c.requires.small in
    let value = along_is X n g p _ _ _ _ (held c.weigh.result c.weigh.ensures.size ∙ c.weigh.ensures.value)
    (read n g (triple c.down.result) c.at.result small c.down.ensures.within c.at.ensures ∙ ap g c.down.ensures.value)
    (read n g p c.at-2.result small c.requires.within c.at-2.ensures)
    (read n g (triple c.up.result) c.at-3.result small c.up.ensures.within c.at-3.ensures ∙ ap g c.up.ensures.value) in
    record {
      value = value;
      size = subst (λ (v : ℤ). IsAtMost v most_across) (sym value)
          (at_most_more (smoothed_along X n g p) (4 * most_to_smooth) most_across (lit≤ tt) (along_small X n g most_to_smooth small p c.requires.within));
    }
