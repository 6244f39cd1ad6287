use Rattle.std.proofs.Common.{◌∙◌, ap}
use Rattle.pic_num.specs.declared.axis.Axis.TheVariants.{X, Y, Z}
use Rattle.pic_num.specs.Space.{triple}
use Rattle.pic_grid.specs.Lattice.{node_at}
use Rattle.pic_filter.specs.Smoothing.{smoothed_along, smoothed}
use Rattle.pic_filter.proofs.SizeLaws.{held, held_across, along_is}
use Rattle.pic_filter.proofs.nodes.smoothed_at.Goals as goal

pub returns-clause-value : goal.returns-clause-value
unfolding smoothed
returns-clause-value c =
    let n = c.args.cells.n in
    let h = smoothed_along Y n (smoothed_along X n (node_at c.args.from.now)) in
    along_is Z n h (triple c.args.node) _ _ _ _ (held c.weigh.result c.weigh.ensures.size ∙ c.weigh.ensures.value)
    (held_across c.smoothed_in_plane.result c.smoothed_in_plane.ensures.size ∙ c.smoothed_in_plane.ensures.value ∙ ap h c.down.ensures.value)
    (held_across c.smoothed_in_plane-2.result c.smoothed_in_plane-2.ensures.size ∙ c.smoothed_in_plane-2.ensures.value)
    (held_across c.smoothed_in_plane-3.result c.smoothed_in_plane-3.ensures.size ∙ c.smoothed_in_plane-3.ensures.value ∙ ap h c.up.ensures.value)
