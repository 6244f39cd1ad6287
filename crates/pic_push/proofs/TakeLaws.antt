-- What parcels gain of a piece in a region of its tile.
use Rattle.std.proofs.Common.{◌≡◌, ℕ, ◌<◌, false, Some, refl, sym, ap, subst, ◌∙◌, arith}
use Rattle.std.proofs.Math.Decide.{ℕ_discrete}
use Rattle.std.proofs.lemmas.Bool.Decides.{nat_tests}
use Rattle.pic_num.specs.declared.axis.Axis.{Axis}
use Rattle.pic_num.specs.declared.axis.Axis.TheVariants.{X, Y, Z}
use Rattle.pic_num.specs.Space.{Triple, Spot, next_axis}
use Rattle.pic_flux.specs.declared.cell_flux.CellFlux.{CellFlux}
use Rattle.pic_flux.specs.CellFlux.{edge_flux, flux_cell, AreLayers}
use Rattle.pic_tile.specs.declared.parcel.Parcel.{Parcel}
use Rattle.pic_tile.specs.Directions.{directions, here}
use Rattle.pic_tile.specs.Layers.{layers_from}
use Rattle.pic_tile.specs.Tile.{TileValue, parcel_at}
use Rattle.pic_push.specs.Gains.{IsClear}
use Rattle.pic_push.specs.Reach.{spans, reaches}
use Rattle.pic_push.specs.Region.{up_on, up_beside, IsUp, AreUps, IsLastOn, layers_at, CanGain, CanGainAll}
use Rattle.pic_push.proofs.GainLaws.{no_parcel}
use Rattle.pic_push.proofs.RegionLaws.{AreUpTo, up_to, layers_are, reach_to, reached}
use Rattle.pic_push.proofs.TrackLaws.{wide_room}

-- the parcel of a direction that steps up where the last does, or not at all
pub can_gain : (f : CellFlux) (own : Parcel) (t : TileValue) (up last : ℕ) (p : Parcel) → CanGainAll f own t
    → IsLastOn last own.flux.low own.flux.size (flux_cell f) → last < directions → AreUpTo up last → up < directions → parcel_at t up ≡ Some p
    → CanGain last up f p.flux
can_gain f own t up last p h at last_few to few is =
    let room = h.opened.room up p few is in
    let layers = subst (λ (l : Spot). AreLayers l p.flux.size (flux_cell f) (layers_at last up)) (sym room.low_is)
    (subst (λ (m : Triple). AreLayers (layers_from own.flux.size own.flux.low up) m (flux_cell f) (layers_at last up)) (sym room.size_is)
    (layers_are up last own.flux.low own.flux.size (flux_cell f) to at)) in
    record { last_few = last_few; up_few = few; modest = h.modest; room = wide_room p.flux room.most; layers = layers }

-- the own one
pub own_gains : (f : CellFlux) (own : Parcel) (t : TileValue) (last : ℕ) → CanGainAll f own t → IsLastOn last own.flux.low own.flux.size (flux_cell f)
    → last < directions → AreUpTo here last → CanGain last here f own.flux
own_gains f own t last h at few to = record {
  last_few = few;
  up_few = omega arith;
  modest = h.modest;
  room = wide_room own.flux h.most;
  layers = layers_are here last own.flux.low own.flux.size (flux_cell f) to at;
}

-- no flux passes the parcels that aren't reached; the own one is held apart
pub unreached_clear : (f : CellFlux) (own : Parcel) (t : TileValue) (last d : ℕ) (p : Parcel) → CanGainAll f own t
    → IsLastOn last own.flux.low own.flux.size (flux_cell f) → AreUpTo here last → d < directions → ((d ≡ here → ⊥) → reaches (reach_to last) d ≡ false)
    → parcel_at t d ≡ Some p → IsClear (edge_flux f) p.flux
unreached_clear f own t last d p h at to few out is = elim (ℕ_discrete d here) [
  | yes same ↦ absurd (no_parcel p (sym h.opened.apart ∙ ap (parcel_at t) (sym same) ∙ is))
  | no away ↦ h.clear (reach_to last) d p (reached last own.flux.low own.flux.size (flux_cell f) to at) few (out away) is
]

-- The directions at a face and at an edge.

-- at a face
pub record AtFace (up : ℕ) : Type 0 where
  pub few : up < directions
  pub own : AreUpTo here up
  pub self : AreUpTo up up
  pub alone : (d : ℕ) → d < directions → (d ≡ here → ⊥) → (d ≡ up → ⊥) → reaches (reach_to up) d ≡ false

face_by : (a : Axis) → AtFace (up_on a)
unfolding reaches spans
face_by X = record {
  few = omega arith;
  own = up_to here (up_on X) refl refl refl;
  self = up_to (up_on X) (up_on X) refl refl refl;
  alone = λ d few own up. grind (arith, nat_tests);
}
face_by Y = record {
  few = omega arith;
  own = up_to here (up_on Y) refl refl refl;
  self = up_to (up_on Y) (up_on Y) refl refl refl;
  alone = λ d few own up. grind (arith, nat_tests);
}
face_by Z = record {
  few = omega arith;
  own = up_to here (up_on Z) refl refl refl;
  self = up_to (up_on Z) (up_on Z) refl refl refl;
  alone = λ d few own up. grind (arith, nat_tests);
}

pub face_of : (up : ℕ) → IsUp up → AtFace up
face_of up h = subst AtFace (sym h.is) (face_by h.axis)

-- at an edge
pub record AtEdge (second third far : ℕ) : Type 0 where
  pub second_few : second < directions
  pub third_few : third < directions
  pub far_few : far < directions
  pub own : AreUpTo here far
  pub second_to : AreUpTo second far
  pub third_to : AreUpTo third far
  pub self : AreUpTo far far
  pub third_apart : third ≡ second → ⊥
  pub far_apart : far ≡ second → ⊥
  pub far_apart_third : far ≡ third → ⊥
  pub alone :
      (d : ℕ) → d < directions → (d ≡ here → ⊥) → (d ≡ second → ⊥) → (d ≡ third → ⊥) → (d ≡ far → ⊥) → reaches (reach_to far) d ≡ false

edge_by : (a : Axis) → AtEdge (up_on (next_axis a)) (up_on (next_axis (next_axis a))) (up_beside a)
unfolding reaches spans
edge_by X = record {
  second_few = omega arith;
  third_few = omega arith;
  far_few = omega arith;
  own = up_to here (up_beside X) refl refl refl;
  second_to = up_to (up_on Y) (up_beside X) refl refl refl;
  third_to = up_to (up_on Z) (up_beside X) refl refl refl;
  self = up_to (up_beside X) (up_beside X) refl refl refl;
  third_apart = λ is. omega (arith, is);
  far_apart = λ is. omega (arith, is);
  far_apart_third = λ is. omega (arith, is);
  alone = λ d few own second third far. grind (arith, nat_tests);
}
edge_by Y = record {
  second_few = omega arith;
  third_few = omega arith;
  far_few = omega arith;
  own = up_to here (up_beside Y) refl refl refl;
  second_to = up_to (up_on Z) (up_beside Y) refl refl refl;
  third_to = up_to (up_on X) (up_beside Y) refl refl refl;
  self = up_to (up_beside Y) (up_beside Y) refl refl refl;
  third_apart = λ is. omega (arith, is);
  far_apart = λ is. omega (arith, is);
  far_apart_third = λ is. omega (arith, is);
  alone = λ d few own second third far. grind (arith, nat_tests);
}
edge_by Z = record {
  second_few = omega arith;
  third_few = omega arith;
  far_few = omega arith;
  own = up_to here (up_beside Z) refl refl refl;
  second_to = up_to (up_on X) (up_beside Z) refl refl refl;
  third_to = up_to (up_on Y) (up_beside Z) refl refl refl;
  self = up_to (up_beside Z) (up_beside Z) refl refl refl;
  third_apart = λ is. omega (arith, is);
  far_apart = λ is. omega (arith, is);
  far_apart_third = λ is. omega (arith, is);
  alone = λ d few own second third far. grind (arith, nat_tests);
}

pub edge_of : (second third far : ℕ) → AreUps second third far → AtEdge second third far
edge_of second third far h =
    subst (λ (s : ℕ). AtEdge s third far) (sym h.second_is)
    (subst (λ (t : ℕ). AtEdge (up_on (next_axis h.axis)) t far) (sym h.third_is)
    (subst (λ (f : ℕ). AtEdge (up_on (next_axis h.axis)) (up_on (next_axis (next_axis h.axis))) f) (sym h.far_is) (edge_by h.axis)))
