-- A claimed tile can be pushed.
use Rattle.std.proofs.Common.{◌≡◌, ◌≤◌, ℕ, All, length, sym, subst}
use Rattle.pic_num.specs.Limits.{most_particles}
use Rattle.pic_tile.specs.Directions.{here}
use Rattle.pic_tile.specs.Frame.{FrameValue}
use Rattle.pic_tile.specs.Pushed.{IsOfTile}
use Rattle.pic_tile.specs.Tile.{TileValue, chain_at, tile_in}
use Rattle.pic_tile.proofs.OpeningLaws.{opening_few, opening_own}
use Rattle.pic_yard.specs.declared.opening.Opening.{Opening}
use Rattle.pic_yard.specs.Claims.{ClaimValue}
use Rattle.pic_yard.specs.Draws.{IsUnworked}
use Rattle.pic_tile.specs.CoreState.{IsOpening}

module _ (o : Opening) (opens : IsOpening o.frame o.tiles.items) (claim : ClaimValue) (is : IsUnworked o claim) where
  pub work_few : length (chain_at claim.held here) ≤ most_particles
  work_few = subst (λ (t : TileValue). length (chain_at t here) ≤ most_particles) (sym is.held) (opening_few o.frame o.tiles.items opens claim.number)

  pub work_own : (f : FrameValue) → f ≡ o.frame → All (IsOfTile f.map f.kinds claim.held.number) (chain_at claim.held here)
  work_own f same =
      subst (λ (g : FrameValue). All (IsOfTile g.map g.kinds claim.held.number) (chain_at claim.held here)) (sym same)
      (subst (λ (t : TileValue). All (IsOfTile o.frame.map o.frame.kinds t.number) (chain_at t here)) (sym is.held)
      (subst (λ (k : ℕ). All (IsOfTile o.frame.map o.frame.kinds k) (chain_at (tile_in o.tiles.items claim.number) here))
      (sym (opens.fresh.numbers claim.number is.tile)) (opening_own o.frame o.tiles.items opens claim.number is.tile)))
