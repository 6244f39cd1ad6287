use Rattle.std.proofs.Common.{Option, None, refl}
use Rattle.pic_tile.specs.declared.parcel.Parcel.{Parcel}
use Rattle.pic_tile.proofs.TileLaws.{same_there}
use Rattle.pic_tile.proofs.tile.Tile.bare.Goals as goal

abbrev none : Option Parcel
none = None

pub invariant_of-result : goal.invariant_of-result
invariant_of-result c = record { long = refl; dirs = λ d parcel e. cc (same_there 27 d none) }

pub returns-clause-none : goal.returns-clause-none
returns-clause-none c = λ d. same_there 27 d none
