use Rattle.pic_yard.proofs.CensusLaws.{tile_parcels}
use Rattle.pic_yard.proofs.laws.a_tile_is_its_parcels.Goals as goal

pub returns : goal.returns
returns c = tile_parcels
