use Rattle.std.proofs.Common.{◌≤◌, List, sym, ap, subst}
use Rattle.std.proofs.Math.IntN.{ℤ}
use Rattle.pic_num.specs.Limits.{most_particles}
use Rattle.pic_num.specs.Sizes.{IsAtMost}
use Rattle.pic_block.specs.Block.{BlockValues, AllAtMost}
use Rattle.pic_block.specs.Cells.{Grid}
use Rattle.pic_block.proofs.ShapeLaws.{zeros_at_most}
use Rattle.pic_grid.specs.Current.{wrapped}
use Rattle.pic_filter.specs.Smoothing.{filter_in, most_to_smooth}
use Rattle.pic_deck.specs.declared.species.Species.{Species}
use Rattle.pic_deck.specs.Species.{particles_of}
use Rattle.pic_ways.specs.Margin.{margin_low, margin_size, edge_or_zero}
use Rattle.pic_displace.proofs.DisplaceLaws.{few_species, few_particles, all_of_species, all_ways_within}
use Rattle.pic_displace.proofs.StartLaws.{initial_small, displaced_now, now_current, current_fits, values_fit}
use Rattle.pic_displace.proofs.displacing.displace_in.Goals as goal

pub add_ways-requires-clause-few : goal.add_ways-requires-clause-few
add_ways-requires-clause-few c =
    subst (λ (ss : List Species). particles_of ss ≤ most_particles) (sym c.species.ensures.value) (few_species c.args.deck.now c.species.ensures.limits)

pub add_ways-requires-clause-count : goal.add_ways-requires-clause-count
add_ways-requires-clause-count c = few_particles c.args.deck.now c.args.particles.now c.requires.limits

pub add_ways-requires-clause-of : goal.add_ways-requires-clause-of
add_ways-requires-clause-of c =
    all_of_species c.args.deck.now c.species.result.now c.args.particles.now c.species.ensures.value c.requires.loaded c.species.ensures.limits
    c.requires.limits

pub add_ways-requires-clause-ways : goal.add_ways-requires-clause-ways
add_ways-requires-clause-ways c =
    all_ways_within c.args.deck.now c.cells-cells.result c.species.result.now c.args.particles.now c.cells-cells.ensures.value c.species.ensures.value
    c.requires.loaded c.species.ensures.limits c.requires.limits

pub add_ways-requires-clause-zeros : goal.add_ways-requires-clause-zeros
add_ways-requires-clause-zeros c =
    subst (λ (b : BlockValues). AllAtMost 0 b) (sym c.requires.room.flux) (zeros_at_most margin_low (margin_size c.args.deck.now.cells))

pub take_current_off-requires-clause-current : goal.take_current_off-requires-clause-current
take_current_off-requires-clause-current c = λ a p within.
    let d = c.args.deck.now in
    let ps = c.args.particles.now in
    subst (λ (v : ℤ). IsAtMost v most_to_smooth)
    (sym (now_current d ps c.species.ensures.limits c.requires.limits c.requires.loaded c.cells-cells.result c.species.result.now c.args.room.flux
    c.add_ways.new.to
    c.cells-cells.ensures.value c.species.ensures.value c.requires.room.flux c.add_ways.ensures.shape c.add_ways.ensures.values a p))
    (current_fits d ps c.species.ensures.limits c.requires.limits c.requires.loaded a p)

pub take_current_off-requires-clause-e : goal.take_current_off-requires-clause-e
take_current_off-requires-clause-e c = initial_small c.args.deck.now c.args.e.now c.species.ensures.limits c.requires.e

pub returns-clause-displaced : goal.returns-clause-displaced
returns-clause-displaced c =
    let d = c.args.deck.now in
    let ps = c.args.particles.now in
    let n = c.cells-cells.result.n in
    let off = c.take_current_off.ensures in
    displaced_now d ps n (filter_in c.args.room.smoothing) (λ a. wrapped n (edge_or_zero c.add_ways.new.to a)) c.args.e.now c.take_current_off.new.e
    c.requires.e
    (ap (λ (g : Grid). g.n) c.cells-cells.ensures.value) c.requires.room.filter_is
    (now_current d ps c.species.ensures.limits c.requires.limits c.requires.loaded c.cells-cells.result c.species.result.now c.args.room.flux c.add_ways.new.to
    c.cells-cells.ensures.value c.species.ensures.value c.requires.room.flux c.add_ways.ensures.shape c.add_ways.ensures.values)
    off.cells off.side off.parts off.shape off.values

pub returns-clause-small : goal.returns-clause-small
returns-clause-small c = values_fit c.args.deck.now c.args.particles.now c.species.ensures.limits c.requires.limits c.requires.loaded
