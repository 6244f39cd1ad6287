-- The parcels of a tile, by its zone as the code has it and as its map has it.
use Rattle.std.proofs.Common.{◌≡◌, ℕ, subst}
use Rattle.pic_num.specs.Space.{Triple, Spot}
use Rattle.pic_tile.specs.declared.parcel.Parcel.{Parcel}
use Rattle.pic_tile.specs.Tile.{TileValue}
use Rattle.pic_push.specs.Sends.{HasHeadroom, HasParcels}

module _ (low low' : Spot) (size size' : Triple) (at : low ≡ low') (thick : size ≡ size')
  where
    pub same_parcels : (t : TileValue) → HasParcels low size t → HasParcels low' size' t
    same_parcels t has = subst (λ (s : Spot). HasParcels s size' t) at (subst (λ (n : Triple). HasParcels low n t) thick has)

    pub same_headroom : (d : ℕ) (p : Parcel) → HasHeadroom low size d p → HasHeadroom low' size' d p
    same_headroom d p room = subst (λ (s : Spot). HasHeadroom s size' d p) at (subst (λ (n : Triple). HasHeadroom low n d p) thick room)
