-- The pieces of a path, sent one after the other.
use Rattle.std.proofs.Common.{◌≡◌, ℕ, ◌+◌, ◌^◌, ◌<◌, List, length, get_or, take, Option, Some, None, refl, sym, subst, ◌∙◌, arith}
use Rattle.std.proofs.Math.IntN.{ℤ}
use Rattle.pic_num.specs.declared.axis.Axis.{Axis}
use Rattle.pic_num.specs.Space.{Triple, Spot}
use Rattle.pic_block.specs.Block.{BlockValues, AllAtMost}
use Rattle.pic_block.proofs.BlockLaws.{all_at_most_more}
use Rattle.pic_block.proofs.ShapeLaws.{shaped_same}
use Rattle.pic_grid.specs.Flux.{flux, path_flux}
use Rattle.pic_grid.specs.Segment.{Piece}
use Rattle.pic_grid.specs.Sums.{sum_over}
use Rattle.pic_grid.specs.Traces.{IsFluxAtMost, most_flux}
use Rattle.pic_grid.proofs.OverLaws.{sum_over_more}
use Rattle.pic_flux.specs.Corners.{both}
use Rattle.pic_flux.proofs.AddsLaws.{adds_none, adds_grow}
use Rattle.pic_tile.specs.declared.parcel.Parcel.{Parcel}
use Rattle.pic_tile.specs.Directions.{directions, here}
use Rattle.pic_tile.specs.Tile.{TileValue, parcel_at}
use Rattle.pic_push.specs.Gains.{Gained, Gains}
use Rattle.pic_push.specs.Sends.{HasHeadroom, HasLayers, HasParcels, HasParcelsWithin, most_sent}
use Rattle.pic_push.proofs.GainLaws.{gained_same, gained_twice, gains_same, gains_twice}
use Rattle.pic_push.proofs.SendLaws.{some_gained}

-- the flux f has been sent into a parcel held apart, and into the others
pub record Sent (f : Axis → Spot → ℤ) (own : Parcel) (tile : TileValue) (own' : Parcel) (tile' : TileValue) : Type 0 where
  pub own_gained : Gained f own own'
  pub others : Gains f tile tile'

-- none yet
pub sent_none : (side : ℕ) (q : ℤ) (ss : List Piece) (own : Parcel) (tile : TileValue) → Sent (path_flux side q (take 0 ss)) own tile own tile
unfolding path_flux sum_over
sent_none side q ss own tile =
    let nothing : (p : Parcel) → Gained (path_flux side q (take 0 ss)) p p =
    λ p. record {
      dir_is = refl;
      chain_is = refl;
      stop_is = refl;
      shape = shaped_same p.flux;
      adds = adds_none p.flux (path_flux side q (take 0 ss)) (λ a c. refl);
    } in
    record {
      own_gained = nothing own;
      others = record {
        gained = λ d p below is. record { parcel = p; there = is; gained = nothing p };
        none = λ d below is. is;
        number_is = refl;
      };
    }

-- one piece more
pub sent_more : (side : ℕ) (q : ℤ) (ss : List Piece) (i : ℕ) (d : Piece) (own mid new : Parcel) (tile tile' tile'' : TileValue) → i < length ss
    → Sent (path_flux side q (take i ss)) own tile mid tile'
    → Gained (flux side q (get_or ss i d)) mid new
    → Gains (flux side q (get_or ss i d)) tile' tile''
    → Sent (path_flux side q (take (i + 1) ss)) own tile new tile''
unfolding path_flux both
sent_more side q ss i d own mid new tile tile' tile'' below h k l =
    let before = path_flux side q (take i ss) in
    let piece = flux side q (get_or ss i d) in
    let whole = path_flux side q (take (i + 1) ss) in
    let same : (a : Axis) (c : Spot) → both before piece a c ≡ whole a c = λ a c. sym (sum_over_more (λ s. flux side q s a c) ss i d below) in
    record {
      own_gained = gained_same (both before piece) whole own new same (gained_twice before piece own mid new h.own_gained k);
      others = gains_same (both before piece) whole tile tile'' same (gains_twice before piece tile tile' tile'' h.others l);
    }

-- the room that is left
pub layers_left : (f : Axis → Spot → ℤ) (low : Spot) (size : Triple) (d : ℕ) (old new : Parcel) → IsFluxAtMost (2 ^ 62) f → HasHeadroom low size d old
    → Gained f old new → HasLayers most_sent low size d new
layers_left f low size d old new small room h = record {
  low_is = sym h.shape.low ∙ room.low_is;
  size_is = sym h.shape.size ∙ room.size_is;
  most = adds_grow old.flux new.flux f most_flux (2 ^ 62) h.shape h.adds (λ a c. (small.at_most a c).size) room.most;
}

-- a path's pieces have the room that a path has
pub layers_more : (low : Spot) (size : Triple) (d : ℕ) (p : Parcel) → HasHeadroom low size d p → HasLayers most_sent low size d p
layers_more low size d p room = record {
  low_is = room.low_is;
  size_is = room.size_is;
  most = all_at_most_more p.flux most_flux most_sent (omega arith) room.most;
}

pub open_more : (low : Spot) (size : Triple) (t : TileValue) → HasParcels low size t → HasParcelsWithin most_sent low size t
open_more low size t opened = record {
  whole = opened.whole;
  room = λ d p few is. layers_more low size d p (opened.room d p few is);
  apart = opened.apart;
}

-- in the block of a parcel there is room for sums of any sizes that the code holds
pub wide_room : (b : BlockValues) → AllAtMost most_sent b → AllAtMost (2 ^ 100) b
wide_room b h = all_at_most_more b most_sent (2 ^ 100) (omega arith) h

one_some : (o : Option Parcel) (p q : Parcel) → o ≡ Some p → o ≡ Some q → p ≡ q
one_some o p q h k = cc

pub open_left : (f : Axis → Spot → ℤ) (low : Spot) (size : Triple) (old new : TileValue) → IsFluxAtMost (2 ^ 62) f → HasParcels low size old → Gains f old new
    → HasParcelsWithin most_sent low size new
open_left f low size old new small opened h = record {
  whole = λ d few other. some_gained f old new d h few (opened.whole d few other);
  room = λ d q few is. by_old d q few is (parcel_at old d) refl;
  apart = h.none here (omega arith) opened.apart;
}
  where
    by_old : (d : ℕ) (q : Parcel) → d < directions → parcel_at new d ≡ Some q → (o : Option Parcel) → parcel_at old d ≡ o → HasLayers most_sent low size d q
    by_old d q few is None none = let e : ◌≡◌ {A = Option Parcel} None (Some q) = sym (h.none d few none) ∙ is in cc
    by_old d q few is (Some p) at =
        let found = h.gained d p few at in
        subst (HasLayers most_sent low size d) (one_some (parcel_at new d) found.parcel q found.there is)
        (layers_left f low size d p found.parcel small (opened.room d p few at) found.gained)
