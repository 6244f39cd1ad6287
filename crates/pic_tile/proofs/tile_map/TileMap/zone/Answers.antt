use Rattle.std.proofs.Common.{rules, ◌≡◌, ◌*◌, ◌<◌, [], ◌∷◌, slice_index_or, w32, to_z, sym, subst}
use Rattle.pic_num.specs.Space.{Spot, spot}
use Rattle.pic_block.specs.Cells.{count_of}
use Rattle.pic_tile.specs.Layers.{lowest_cell}
use Rattle.pic_tile.specs.Tiling.{Tiling, tiling_of}
use Rattle.pic_tile.specs.Zones.{IsTileZone}
use Rattle.pic_tile.proofs.ZoneLaws.{tile_zone}
use Rattle.pic_tile.proofs.tile_map.TileMap.zone.Goals as goal

pub returns-clause-tile : goal.returns-clause-tile
returns-clause-tile c =
    let p = c.place_in.result in
    let n = c.self.inside.layers in
    let m : Tiling = tiling_of c.self.inside.cells.side c.self.inside.tiles n in
    let below : c.args.tile < count_of m.tiles = search rules in
    let low : spot (to_z w32 (slice_index_or p 0 0 * slice_index_or n 0 0) ∷ to_z w32 (slice_index_or p 1 0 * slice_index_or n 1 0)
    ∷ to_z w32 (slice_index_or p 2 0 * slice_index_or n 2 0) ∷ [])
    ≡ lowest_cell m c.args.tile = search rules in
    subst (λ (s : Spot). IsTileZone s m.size) (sym low) (tile_zone m c.args.tile c.self.invariant.map below)
