use Rattle.std.proofs.Common.{rules, ◌≡◌, ℕ, ◌<◌, sym, subst}
use Rattle.pic_tile.specs.Directions.{directions, opposite}
use Rattle.pic_tile.specs.Tiling.{neighbour_of}
use Rattle.pic_tile.proofs.TilingLaws.{neighbour_back}
use Rattle.pic_tile.proofs.tile_map.TileMap.neighbour.Goals as goal

pub returns-clause-back : goal.returns-clause-back
returns-clause-back c =
    let n = c.args.self.now.tiles in
    let below : c.args.dir < directions = search rules in
    let value : c.number_in.result ≡ neighbour_of n c.args.tile c.args.dir = search rules in
    subst (λ (t : ℕ). neighbour_of n t (opposite c.args.dir) ≡ c.args.tile) (sym value) (neighbour_back n c.args.tile c.args.dir c.requires below)
