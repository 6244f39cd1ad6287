use Rattle.std.proofs.Common.{ap, ◌∙◌, subst}
use Rattle.pic_tile.specs.Exchanged.{least_stop}
use Rattle.pic_tile.specs.Tiling.{IsMap}
use Rattle.pic_step.proofs.PushTilesLaws.{has_pushed}
use Rattle.pic_step.proofs.push_phase.push_tiles.Goals as goal

pub returns-clause-pushed : goal.returns-clause-pushed
returns-clause-pushed g c =
    has_pushed c.args.plasma c.in_ok-plasma.plasma c.least_stop-stop.result c.in_ok-plasma.ensures c.map-map.ensures.frame
    (subst IsMap c.map-map.ensures.value c.tiles-tiles.ensures.limits) c.requires.side c.requires.opening c.requires.ready
    (c.least_stop-stop.ensures ∙ ap least_stop c.deref.ensures.value)
