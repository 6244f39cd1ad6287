use Rattle.std.proofs.Common.{rules, ◌≡◌, ℕ, sym, ◌∙◌, subst}
use Rattle.pic_num.specs.Space.{triple}
use Rattle.pic_tile.specs.Tiling.{IsMap, IsInTile, owner_of}
use Rattle.pic_tile.proofs.TilingLaws.{owner_has, owner_only}
use Rattle.pic_tile.proofs.tile_map.TileMap.owner.Goals as goal

pub returns-clause-has : goal.returns-clause-has
returns-clause-has c =
    let map : IsMap c.args.self.now = search rules in
    let value : c.number_in.result ≡ owner_of c.args.self.now (triple c.args.cell) = search rules in
    subst (λ (t : ℕ). IsInTile c.args.self.now t (triple c.args.cell)) (sym value) (owner_has c.args.self.now (triple c.args.cell) map c.requires)

pub returns-clause-alone : goal.returns-clause-alone
returns-clause-alone c =
    let value : c.number_in.result ≡ owner_of c.args.self.now (triple c.args.cell) = search rules in
    λ tile below inside. sym (owner_only c.args.self.now tile (triple c.args.cell) inside) ∙ sym value
