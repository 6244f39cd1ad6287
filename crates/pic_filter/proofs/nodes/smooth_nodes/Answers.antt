use Rattle.std.proofs.Common.{ℤ, sym, ◌∙◌, subst, arith}
use Rattle.pic_num.specs.Sizes.{IsAtMost}
use Rattle.pic_num.specs.Space.{triple}
use Rattle.pic_grid.specs.Lattice.{node_at}
use Rattle.pic_filter.specs.Smoothing.{most_to_smooth, most_smoothed, smoothed}
use Rattle.pic_filter.proofs.NodeLaws.{given_none, given_more, given_all}
use Rattle.pic_filter.proofs.SizeLaws.{held, smoothed_small}
use Rattle.pic_filter.proofs.nodes.smooth_nodes.Goals as goal

pub loop-index-init : goal.loop-index-init
loop-index-init c = given_none c.args.cells.n (smoothed c.args.cells.n (node_at c.args.from.now)) c.args.to.now c.requires.to_cells

pub loop-index-preserved : goal.loop-index-preserved
loop-index-preserved c =
    given_more c.args.cells.n (smoothed c.args.cells.n (node_at c.args.from.now)) c.loop-index.to c.set.new.self c.loop-index.index
    (triple c.cell_at-node.result) _
    c.loop-index.invariant c.set.ensures.after
    (c.set.ensures.stored ∙ held c.smoothed_at.result c.smoothed_at.ensures.size ∙ c.smoothed_at.ensures.value)
    c.cell_at-node.ensures.number c.cell_at-node.ensures.within

pub returns : goal.returns
returns c =
    let n = c.args.cells.n in
    let g = node_at c.args.from.now in
    let all = given_all n (smoothed n g) c.loop-index.to c.loop-index.index c.loop-index.invariant
    (omega (arith, c.loop-index-test.false, c.loop-index.auto.index-end, c.count-index-end.ensures.value)) in
    record {
      same_cells = c.loop-index.invariant.cells;
      values = all;
      small = λ p within. subst (λ (v : ℤ). IsAtMost v most_smoothed) (sym (all p within)) (smoothed_small n g most_to_smooth c.requires.small p within);
    }
