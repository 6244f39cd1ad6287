use Rattle.std.proofs.Common.{List, sym, ap, ◌∙◌, subst}
use Rattle.pic_tile.specs.Tile.{TileValue}
use Rattle.pic_tile.specs.Tiling.{IsMap}
use Rattle.pic_step.specs.Kept.{seen}
use Rattle.pic_step.specs.StateView.{StateView}
use Rattle.pic_step.specs.Tiled.{AreTilesOf}
use Rattle.pic_step.proofs.KeptLaws.{tiled}
use Rattle.pic_step.proofs.state.State.tiles.Goals as goal

pub returns-clause-map : goal.returns-clause-map
returns-clause-map c = c.map-map.ensures.value ∙ ap (λ (v : StateView). v.map) c.self.view_is

pub returns-clause-tiles : goal.returns-clause-tiles
returns-clause-tiles c =
    let k = c.self.inside in
    let tiles = c.as_slice.result.now in
    let own = tiled k.step k.loops k.scales k.e k.b k.plasma (subst IsMap c.map-map.ensures.value c.tiles-tiles.ensures.limits) c.self.invariant in
    let listed = subst (λ (ts : List TileValue). AreTilesOf (seen k.step k.loops k.scales k.e k.b k.plasma) k.plasma.frame.map ts)
    (sym c.as_slice.ensures.value) own in
    subst (λ (v : StateView). AreTilesOf v.world v.map tiles) c.self.view_is listed
