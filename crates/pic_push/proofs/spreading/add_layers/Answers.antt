use Rattle.std.proofs.Common.{sym, subst, ◌∙◌}
use Rattle.pic_flux.specs.declared.edges.Layers.{Layers}
use Rattle.pic_flux.specs.CellFlux.{flux_cell, AreLayers}
use Rattle.pic_push.specs.Region.{layers_at}
use Rattle.pic_push.proofs.spreading.add_layers.Goals as goal

pub add_to_layers-requires-clause-layers : goal.add_to_layers-requires-clause-layers
add_to_layers-requires-clause-layers g c =
    let b = c.args.to.now in
    subst (λ (l : Layers). AreLayers b.low b.size (flux_cell c.args.flux.now) l)
    (sym (c.layers_at.ensures ∙ (λ i. layers_at (c.of.ensures i) (c.of-2.ensures i)))) c.requires.layers
