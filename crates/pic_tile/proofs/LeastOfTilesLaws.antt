-- The least of the stops of tiles is found.
use Rattle.std.proofs.Common.{◌≡◌, ℕ, zero, suc, ◌<◌, List, [], ◌∷◌, length, Option, Some, None, ◌⊎◌, inl, inr, refl, sym, ap, subst, arith}
use Rattle.std.proofs.lemmas.Option.{same_Some}
use Rattle.pic_num.proofs.LeastLaws.{Finds, finds_none, finds_both, finds_itself, keys_named, found_in, found_least}
use Rattle.pic_grid.specs.declared.stop.Stop.{Stop}
use Rattle.pic_tile.specs.StopOf.{identity_of}
use Rattle.pic_tile.specs.Directions.{here}
use Rattle.pic_tile.specs.Exchanged.{least_stop}
use Rattle.pic_tile.specs.LeastOfTiles.{StopsAt, LeastOfTilesIsFound}
use Rattle.pic_tile.specs.Tile.{TileValue, stop_at, tile_in}
use Rattle.pic_tile.proofs.StopLaws.{lesser_is}

-- a stop of some tile
abbrev IsOne : List TileValue → Stop → Type 0
IsOne tiles s = (r : ℕ) × StopsAt tiles r s

abbrev LeastOf : List TileValue → Option Stop → Type 0
LeastOf tiles o = Finds (IsOne tiles) identity_of (λ s. Some s) o

-- the stop of the first tile, or of another
out : (t : TileValue) (tiles : List TileValue) (s : Stop) → IsOne (t ∷ tiles) s → (stop_at t here ≡ Some s) ⊎ IsOne tiles s
out t tiles s there = go there.0 there.1.0 there.1.1
  where
    go : (r : ℕ) → r < length (t ∷ tiles) → stop_at (tile_in (t ∷ tiles) r) here ≡ Some s → (stop_at t here ≡ Some s) ⊎ IsOne tiles s
    go zero below is = inl is
    go (suc r) below is = inr (r, (omega (arith, below), is))

named : (s u : Stop) → Some s ≡ Some u → identity_of u ≡ identity_of s
named s u is = ap identity_of (sym (same_Some s u is))

least_of : (tiles : List TileValue) → LeastOf tiles (least_stop tiles)
unfolding least_stop
least_of [] = finds_none (λ s there. (let below = there.1.0 in absurd (omega (arith, below))))
least_of (t ∷ tiles) =
    subst (LeastOf (t ∷ tiles)) (lesser_is (stop_at t here) (least_stop tiles))
    (finds_both identity_of (keys_named First (IsOne tiles) identity_of named) left right (out t tiles)
    (stop_at t here) (least_stop tiles) (finds_itself identity_of (stop_at t here)) (least_of tiles))
  where
    First : Stop → Type 0
    First s = stop_at t here ≡ Some s

    left : (s : Stop) → First s → IsOne (t ∷ tiles) s
    left s is = (0, (omega arith, is))

    right : (s : Stop) → IsOne tiles s → IsOne (t ∷ tiles) s
    right s there = let below = there.1.0 in (suc there.0, (omega (arith, below), there.1.1))

pub least_found : LeastOfTilesIsFound
least_found tiles = record {
  none = λ e r below. go r below e (stop_at (tile_in tiles r) here) refl;
  some = λ s e. found_in (IsOne tiles) identity_of (least_stop tiles) s (least_of tiles) e;
  least = λ s t e r at. found_least (IsOne tiles) identity_of (least_stop tiles) s t (least_of tiles) e (r, at);
}
  where
    go : (r : ℕ) → r < length tiles → least_stop tiles ≡ None → (o : Option Stop) → stop_at (tile_in tiles r) here ≡ o → o ≡ None
    go r below e None is = refl
    go r below e (Some s) is = (least_of tiles).none e s (r, (below, is))
