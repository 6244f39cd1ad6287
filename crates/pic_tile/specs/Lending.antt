-- A parcel is lent by the box that it lies in.
use Rattle.std.specs.Borrow.{Lends, MutBor, Fml}
use Rattle.pic_tile.specs.declared.parcel.Parcel.{Parcel}
use Rattle.pic_tile.specs.contracts.parcel.Parcel.{the_row as parcel_row}
use Rattle.pic_tile.specs.contracts.parcel.ParcelBox.{the_row}

-- the box ends with the parcel that was left behind the reference
abbrev pub LendsParcel : MutBor Parcel → MutBor Parcel → Fml
LendsParcel boxed r = Lends the_row parcel_row boxed r (λ parcel. parcel)
