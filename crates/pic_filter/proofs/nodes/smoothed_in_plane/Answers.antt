use Rattle.std.proofs.Common.{◌*◌, ℤ, sym, ◌∙◌, ap, subst}
use Rattle.pic_num.specs.declared.axis.Axis.TheVariants.{X, Y}
use Rattle.pic_num.specs.Sizes.{IsAtMost}
use Rattle.pic_num.specs.Space.{triple}
use Rattle.pic_grid.specs.Lattice.{node_at}
use Rattle.pic_filter.specs.Runs.{most_across}
use Rattle.pic_filter.specs.Smoothing.{most_to_smooth, smoothed_along}
use Rattle.pic_filter.proofs.SizeLaws.{held, held_across, along_is, along_small}
use Rattle.pic_filter.proofs.nodes.smoothed_in_plane.Goals as goal

pub returns : goal.returns
returns c =
    let n = c.args.cells.n in
    let g = node_at c.args.from.now in
    let h = smoothed_along X n g in
    let p = triple c.args.node in
    let value = along_is Y n h p _ _ _ _ (held c.weigh.result c.weigh.ensures.size ∙ c.weigh.ensures.value)
    (held_across c.smoothed_in_line.result c.smoothed_in_line.ensures.size ∙ c.smoothed_in_line.ensures.value ∙ ap h c.down.ensures.value)
    (held_across c.smoothed_in_line-2.result c.smoothed_in_line-2.ensures.size ∙ c.smoothed_in_line-2.ensures.value)
    (held_across c.smoothed_in_line-3.result c.smoothed_in_line-3.ensures.size ∙ c.smoothed_in_line-3.ensures.value ∙ ap h c.up.ensures.value) in
    record {
      value = value;
      size = subst (λ (v : ℤ). IsAtMost v most_across) (sym value)
          (along_small Y n h (4 * most_to_smooth) (along_small X n g most_to_smooth c.requires.small) p c.requires.within);
    }
