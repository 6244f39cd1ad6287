use Rattle.std.proofs.Common.{◌≡◌, ◌<◌, [], ◌∷◌, length, ◌∙◌, sym, subst, arith}
use Rattle.std.specs.Prelude.{All}
use Rattle.std.proofs.lemmas.List.{get_or_default}
use Rattle.pic_grid.specs.PushPhase.{no_kind}
use Rattle.pic_tile.specs.Directions.{here}
use Rattle.pic_tile.specs.Parcels.{AreFreshTiles, IsFresh}
use Rattle.pic_tile.specs.Pushed.{IsOfTile}
use Rattle.pic_tile.specs.Tile.{TileValue, no_tile, tile_in, chain_at}
use Rattle.pic_tile.specs.Tiling.{Tiling}
use Rattle.pic_tiles_tests.proofs.SmallMapLaws.{CanBe, can_be}
use Rattle.pic_tiles_tests.proofs.pushes.pushed.Goals as goal

-- the tile that is pushed
record Known (c : goal.After-index_mut) : Type 0 where
  fresh : IsFresh c.args.map c.index_mut.result.now
  can : CanBe c.args.map c.in_ok-frame.frame.kinds c.index_mut.result.now

known : (c : goal.After-index_mut) → Known c
known c =
    let m = c.args.map in
    let ts = c.in_ok-tiles.tiles.items in
    let xs = c.args.particles.now in
    let kinds = c.in_ok-frame.frame.kinds in
    let all : AreFreshTiles m xs ts =
    subst (λ (n : Tiling). AreFreshTiles n xs ts) (c.map.ensures.value ∙ c.in_ok-frame.ensures.map) c.in_ok-tiles.ensures in
    let below : 0 < length ts = omega (arith, all.count, c.requires.some) in
    let is : tile_in ts 0 ≡ c.index_mut.result.now = get_or_default ts 0 no_tile c.index_mut.result.now below ∙ sym c.index_mut.ensures.value in
    record {
      fresh = subst (λ (t : TileValue). IsFresh m t) is (all.fresh 0 c.requires.some);
      can = subst (λ (t : TileValue). CanBe m kinds t) is
          (can_be m (no_kind ∷ []) kinds xs ts all c.requires.some c.in_ok-frame.ensures.kinds c.requires.can c.requires.few);
    }

pub push_tile-requires-clause-fresh : goal.push_tile-requires-clause-fresh
push_tile-requires-clause-fresh c = subst (λ (m : Tiling). IsFresh m c.index_mut.result.now) (sym c.in_ok-frame.ensures.map) (known c).fresh

pub push_tile-requires-clause-few : goal.push_tile-requires-clause-few
push_tile-requires-clause-few c = (known c).can.few

pub push_tile-requires-clause-particles : goal.push_tile-requires-clause-particles
push_tile-requires-clause-particles c =
    let t = c.index_mut.result.now in
    let kinds = c.in_ok-frame.frame.kinds in
    subst (λ (m : Tiling). All (IsOfTile m kinds t.number) (chain_at t here)) (sym c.in_ok-frame.ensures.map) (known c).can.own
