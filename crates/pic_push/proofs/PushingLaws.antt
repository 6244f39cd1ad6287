-- The loop over a tile's particles.
use Rattle.std.proofs.Common.{◌≡◌, ℕ, ◌<◌, ◌≤◌, List, [], ◌∷◌, ◌++◌, length, Option, Some, None, refl, sym, ap, ◌∙◌, subst, arith}
use Rattle.std.proofs.Common.{append_assoc, append-nil, length-append}
use Rattle.std.proofs.Math.Decide.{ℕ_discrete}
use Rattle.std.specs.Prelude.{All, IsSome}
use Rattle.std.proofs.lemmas.List.{get_or-set_other}
use Rattle.std.proofs.lemmas.List.Elements.{All-head, All-tail}
use Rattle.pic_num.specs.declared.motion.Kind.{Kind}
use Rattle.pic_num.specs.declared.motion.Particle.{Particle}
use Rattle.pic_num.specs.Limits.{most_side, most_particles}
use Rattle.pic_num.specs.Space.{Triple, Spot}
use Rattle.pic_grid.specs.PushPhase.{Surroundings}
use Rattle.pic_grid.specs.Species.{IsKind}
use Rattle.pic_tile.specs.declared.parcel.Parcel.{Parcel}
use Rattle.pic_tile.specs.Directions.{directions, here}
use Rattle.pic_tile.specs.Layers.{lowest_cell, IsLayers}
use Rattle.pic_tile.specs.Parcels.{IsParcel, IsFresh, no_flux}
use Rattle.pic_tile.specs.Tile.{TileValue, parcel_at, with_parcel, chain_of, flux_of, stop_of_parcel}
use Rattle.pic_tile.specs.Tiling.{Tiling}
use Rattle.pic_tile.proofs.ReceivingLaws.{some_there}
use Rattle.pic_tile.proofs.TileLaws.{none_left}
use Rattle.pic_tile.specs.Pushed.{IsOfTile, IsSent, IsPushed}
use Rattle.pic_push.specs.HeldApart.{IsFreshParcel, IsHeldApart, IsSentOut}
use Rattle.pic_push.specs.Sends.{Sends, SendsOut, HasHeadroom, HasParcels}
use Rattle.pic_push.proofs.GainLaws.{no_parcel}
use Rattle.pic_push.proofs.ParcelLaws.{parcel_more, parcel_none, parcel_room}

-- from a start on, those done have been sent, the rest follow
pub record Pushing (w : Surroundings) (m : Tiling) (kinds : List Kind) (start rest : List Particle) (tile : ℕ) (own : Parcel) (t : TileValue) : Type 0 where
  pub done : List Particle
  pub all : done ++ rest ≡ start
  pub sent : IsSentOut w m done tile own t
  pub left : All (IsOfTile m kinds tile) rest

pub pushing_none : (w : Surroundings) (m : Tiling) (kinds : List Kind) (start : List Particle) (own own' : Parcel) (t : TileValue) → IsHeldApart m own t
    → own' ≡ record own { chain = [] } → All (IsOfTile m kinds t.number) start → Pushing w m kinds start start t.number own' t
pushing_none w m kinds start own own' t opened taken left = record {
  done = [];
  all = refl;
  sent = record {
    number_is = refl;
    apart = opened.apart;
    own_is = parcel_none w m t.number here own own' opened.own_is taken;
    others = λ d below other.
        let found = opened.others d below other in record {
          parcel = found.parcel;
          there = found.there;
          is = parcel_none w m t.number d found.parcel found.parcel found.is (nobody found.parcel (found.is.empty other));
        };
  };
  left = left;
}
  where
    nobody : (p : Parcel) → p.chain ≡ [] → p ≡ record p { chain = [] }
    nobody p none = λ i. record p { chain = none i }

-- one more
pub pushing_more : (w : Surroundings) (m : Tiling) (kinds : List Kind) (start was rest : List Particle) (tile : ℕ)
    (own own' : Parcel) (t t' : TileValue) (x : Particle)
    → was ≡ x ∷ rest → Pushing w m kinds start was tile own t → Sends w m x here own own' → SendsOut w m x t t' → Pushing w m kinds start rest tile own' t'
pushing_more w m kinds start was rest tile own own' t t' x is before sends out =
    let done = before.done in
    let left : All (IsOfTile m kinds tile) (x ∷ rest) = subst (λ (ys : List Particle). All (IsOfTile m kinds tile) ys) is before.left in
    record {
      done = done ++ x ∷ [];
      all = append_assoc done (x ∷ []) rest ∙ ap (λ (ys : List Particle). done ++ ys) (sym is) ∙ before.all;
      sent = record {
        number_is = out.number_is ∙ before.sent.number_is;
        apart = out.none before.sent.apart;
        own_is = parcel_more w m done tile here x own own' before.sent.own_is sends;
        others = λ d below other.
            let found = before.sent.others d below other in
            let now = out.others d found.parcel below other found.there in record {
              parcel = now.parcel;
              there = now.there;
              is = parcel_more w m done tile d x found.parcel now.parcel found.is now.sent;
            };
      };
      left = All-tail (IsOfTile m kinds tile) x rest left;
    }

-- all
pub pushing_all : (w : Surroundings) (m : Tiling) (kinds : List Kind) (start rest : List Particle) (tile : ℕ) (own : Parcel) (t : TileValue) → rest ≡ []
    → Pushing w m kinds start rest tile own t → IsSentOut w m start tile own t
pushing_all w m kinds start rest tile own t none pushing =
    let whole : pushing.done ≡ start = sym (append-nil pushing.done) ∙ ap (λ (ys : List Particle). pushing.done ++ ys) (sym none) ∙ pushing.all in
    subst (λ (ys : List Particle). IsSentOut w m ys tile own t) whole pushing.sent

-- what the next push needs
pub next_of : (w : Surroundings) (m : Tiling) (kinds : List Kind) (start was rest : List Particle) (tile : ℕ) (own : Parcel) (t : TileValue) (x : Particle)
    → was ≡ x ∷ rest → Pushing w m kinds start was tile own t → IsOfTile m kinds t.number x
next_of w m kinds start was rest tile own t x is p =
    subst (λ (n : ℕ). IsOfTile m kinds n x) (sym p.sent.number_is)
    (All-head (IsOfTile m kinds tile) x rest (subst (λ (ys : List Particle). All (IsOfTile m kinds tile) ys) is p.left))

done_few : (w : Surroundings) (m : Tiling) (kinds : List Kind) (start rest : List Particle) (tile : ℕ) (own : Parcel) (t : TileValue)
    (p : Pushing w m kinds start rest tile own t) → length start ≤ most_particles → length p.done ≤ most_particles
done_few w m kinds start rest tile own t p few =
    let both = length-append p.done rest in let same = ap length p.all in omega (arith, both, same, few)

pub own_room : (w : Surroundings) (m : Tiling) (kinds : List Kind) (start rest : List Particle) (tile : ℕ) (own : Parcel) (t : TileValue)
    (low : Spot) (size : Triple)
    → 0 < w.side → w.side ≤ most_side → All IsKind w.kinds → length start ≤ most_particles → low ≡ lowest_cell m tile → size ≡ m.size
    → Pushing w m kinds start rest tile own t → HasHeadroom low size here own
own_room w m kinds start rest tile own t low size some side limits few at thick p =
    parcel_room w m p.done tile here low size own some side limits (done_few w m kinds start rest tile own t p few) at thick p.sent.own_is

pub still_open : (w : Surroundings) (m : Tiling) (kinds : List Kind) (start rest : List Particle) (tile : ℕ) (own : Parcel) (t : TileValue)
    (low : Spot) (size : Triple)
    → 0 < w.side → w.side ≤ most_side → All IsKind w.kinds → length start ≤ most_particles → low ≡ lowest_cell m tile → size ≡ m.size
    → Pushing w m kinds start rest tile own t → HasParcels low size t
still_open w m kinds start rest tile own t low size some side limits few at thick p = record {
  whole = λ d below other. subst (λ (o : Option Parcel). IsSome o) (sym (p.sent.others d below other).there) refl;
  room = λ d q below found. elim (ℕ_discrete d here) [
    | yes same ↦ absurd (no_parcel q (sym p.sent.apart ∙ ap (parcel_at t) (sym same) ∙ found))
    | no other ↦
        (let sent = p.sent.others d below other in
        subst (HasHeadroom low size d) (one_some (parcel_at t d) sent.parcel q sent.there found)
        (parcel_room w m p.done tile d low size sent.parcel some side limits (done_few w m kinds start rest tile own t p few) at thick sent.is))
  ];
  apart = p.sent.apart;
}
  where
    one_some : (o : Option Parcel) (x y : Parcel) → o ≡ Some x → o ≡ Some y → x ≡ y
    one_some o x y h k = cc

-- a tile opened: the parcel of no step is taken out
fresh_at : (m : Tiling) (t : TileValue) (d : ℕ) (p : Parcel) → IsFresh m t → d < directions → parcel_at t d ≡ Some p → p.dir ≡ d → IsFreshParcel m t.number d p
fresh_at m t d p fresh below at dir = record {
  dir_is = dir;
  empty = λ other. ap chain_of (sym at) ∙ fresh.ready.chains d below other;
  flux = subst (λ (o : Option Parcel). IsLayers m t.number d no_flux (flux_of o)) at (elim (ℕ_discrete d here) [
    | yes same ↦ subst (λ (e : ℕ). IsLayers m t.number e no_flux (flux_of (parcel_at t e))) (sym same) fresh.empty
    | no other ↦ fresh.ready.empty d below other
  ]);
  quiet = ap stop_of_parcel (sym at) ∙ fresh.quiet d below;
}

pub opened : (m : Tiling) (t u : TileValue) (own : Parcel) → IsFresh m t → ((d : ℕ) (p : Parcel) → parcel_at t d ≡ Some p → p.dir ≡ d)
    → u ≡ with_parcel t here None → Some own ≡ parcel_at t here → IsHeldApart m own u
opened m t u own fresh dirs taken found = record {
  apart = none_left t u here here taken refl;
  own_is = subst (λ (n : ℕ). IsFreshParcel m n here own) number (fresh_at m t here own fresh (omega arith) (sym found) (dirs here own (sym found)));
  others = λ d below other.
      let some = some_there (parcel_at t d) (fresh.ready.whole d below) in record {
        parcel = some.0;
        there = ap (λ (x : TileValue). parcel_at x d) taken ∙ get_or-set_other {A = Option Parcel} t.parcels here d None None other ∙ some.1;
        is = subst (λ (n : ℕ). IsFreshParcel m n d some.0) number (fresh_at m t d some.0 fresh below some.1 (dirs d some.0 some.1));
      };
}
  where
    number : t.number ≡ u.number
    number = sym (ap (λ (x : TileValue). x.number) taken)

-- and closed again
pub closed : (w : Surroundings) (m : Tiling) (particles : List Particle) (tile : ℕ) (own : Parcel) (t u : TileValue) → IsSentOut w m particles tile own t
    → u ≡ with_parcel t own.dir (Some own) → parcel_at u own.dir ≡ Some own → IsPushed w m particles u
closed w m particles tile own t u out put stored = record {
  sent = λ d below. subst (λ (n : ℕ). IsSent w m particles n d (parcel_at u d)) number (elim (ℕ_discrete d here) [
    | yes same ↦ record {
      parcel = own;
      there = ap (parcel_at u) (same ∙ sym out.own_is.dir_is) ∙ stored;
      is = subst (λ (e : ℕ). IsParcel w m particles tile e own) (sym same) out.own_is;
    }
    | no other ↦ subst (λ (o : Option Parcel). IsSent w m particles tile d o) (sym (still d other)) (out.others d below other)
  ]);
}
  where
    number : tile ≡ u.number
    number = sym out.number_is ∙ sym (ap (λ (x : TileValue). x.number) put)

    still : (d : ℕ) → (d ≡ here → ⊥) → parcel_at u d ≡ parcel_at t d
    still d other = ap (λ (x : TileValue). parcel_at x d) put
        ∙ get_or-set_other {A = Option Parcel} t.parcels own.dir d (Some own) None (λ same. other (same ∙ out.own_is.dir_is))
