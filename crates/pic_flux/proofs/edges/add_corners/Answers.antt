use Rattle.std.proofs.Common.{sym, ap, subst}
use Rattle.pic_block.specs.Block.{BlockValues}
use Rattle.pic_block.specs.Fours.{base_cell}
use Rattle.pic_flux.specs.Adds.{Adds}
use Rattle.pic_flux.specs.CellFlux.{at_four}
use Rattle.pic_flux.proofs.EdgeLaws.{four_adds}
use Rattle.pic_flux.proofs.edges.add_corners.Goals as goal

pub returns-clause-shape : goal.returns-clause-shape
returns-clause-shape c = record {
  low = ap (λ (b : BlockValues). b.low) (sym c.add_four.ensures.values);
  size = ap (λ (b : BlockValues). b.size) (sym c.add_four.ensures.values);
}

pub returns-clause-values : goal.returns-clause-values
returns-clause-values c =
    let cell = base_cell c.args.at.now in
    subst (λ (b : BlockValues). Adds c.args.to.now b (at_four c.args.axis cell c.args.flux.now)) (sym c.add_four.ensures.values)
    (four_adds c.args.to.now c.args.axis cell c.args.found.now c.args.flux.now c.add_four.ensures.shape c.requires.found)
