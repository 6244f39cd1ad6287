-- The flux of a piece, computed once for all parcels of a tile.
use Rattle.std.proofs.Common.{◌≡◌, ℕ, ap, subst, ◌∙◌}
use Rattle.std.proofs.Math.IntN.{ℤ}
use Rattle.pic_num.specs.declared.axis.Axis.{Axis}
use Rattle.pic_num.specs.Space.{Spot}
use Rattle.pic_block.specs.Block.{AllAtMost}
use Rattle.pic_grid.specs.Flux.{flux}
use Rattle.pic_grid.specs.Segment.{Piece, IsInCell}
use Rattle.pic_flux.specs.declared.cell_flux.CellFlux.{CellFlux}
use Rattle.pic_flux.specs.CellFlux.{edge_flux, flux_cell, IsModest}
use Rattle.pic_tile.specs.declared.parcel.Parcel.{Parcel}
use Rattle.pic_tile.specs.Tile.{TileValue}
use Rattle.pic_push.specs.Reach.{IsReachOf}
use Rattle.pic_push.specs.Region.{CanGainAll}
use Rattle.pic_push.specs.Sends.{HasParcelsWithin, most_sent}
use Rattle.pic_push.proofs.UnreachedLaws.{piece_clear}

-- it is the piece's, whatever the charge is called
pub same_charge : (side : ℕ) (s : Piece) (f : CellFlux) (q q' : ℤ) → q' ≡ q → ((a : Axis) (e : Spot) → edge_flux f a e ≡ flux side q' s a e) → (a : Axis)
    (e : Spot) → edge_flux f a e ≡ flux side q s a e
same_charge side s f q q' is same a e = same a e ∙ ap (λ (v : ℤ). flux side v s a e) is

-- it can be added to them
pub can_take : (side : ℕ) (q : ℤ) (s : Piece) (f : CellFlux) (own : Parcel) (t : TileValue) → IsInCell side s
    → ((a : Axis) (e : Spot) → edge_flux f a e ≡ flux side q s a e) → flux_cell f ≡ s.cell → IsModest f
    → HasParcelsWithin most_sent own.flux.low own.flux.size t
    → AllAtMost most_sent own.flux → CanGainAll f own t
can_take side q s f own t inside same cell modest opened most =
    let b = own.flux in
    record {
      modest = modest;
      opened = opened;
      most = most;
      clear = λ r d p reach few out is.
          let none = piece_clear side q s b.low b.size r most_sent d p inside (subst (λ (e : Spot). IsReachOf b.low b.size e r) cell reach) few out
          (opened.room d p few is) in
          record { at = λ a e inside. same a e ∙ none.at a e inside };
    }
