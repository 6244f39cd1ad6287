use Rattle.std.proofs.Common.{arith}
use Rattle.pic_tile.proofs.TileLaws.{dir_found}
use Rattle.pic_tile.proofs.tile.Tile.take_parcel.Goals as goal

pub returns-clause-dir : goal.returns-clause-dir
returns-clause-dir c =
    dir_found c.self.inside.parcels c.number-place.result c.args.dir c.index-self-place.result c.take.result
    c.self.invariant (omega (arith, c.self.invariant.long)) c.number-place.ensures.value c.take.ensures.value
