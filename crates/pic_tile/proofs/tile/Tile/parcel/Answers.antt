use Rattle.std.proofs.Common.{Some, ap, ◌∙◌, sym, arith}
use Rattle.pic_tile.specs.declared.parcel.Parcel.{Parcel}
use Rattle.pic_tile.proofs.TileLaws.{dir_found}
use Rattle.pic_tile.proofs.tile.Tile.parcel.Goals as goal

pub returns-in-Some-clause-dir : goal.returns-in-Some-clause-dir
returns-in-Some-clause-dir c =
    ap (λ (p : Parcel). p.dir) c.deref.ensures
    ∙ dir_found c.self.inside.parcels c.number-at.result c.args.dir c.index-self-at.result (Some c.in-Some.parcel)
    c.self.invariant (omega (arith, c.self.invariant.long)) c.number-at.ensures.value (sym c.in-Some.is)
