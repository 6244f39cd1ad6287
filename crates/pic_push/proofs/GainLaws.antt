-- Parcels that gain flux, one direction after another.
use Rattle.std.proofs.Common.{◌≡◌, ℕ, ◌+◌, ◌<◌, ◌≤◌, ◌⊎◌, inl, inr, length, Option, Some, None, refl, sym, ap, ◌∙◌, subst, arith}
use Rattle.std.proofs.Math.IntN.{ℤ, ◌+ℤ◌}
use Rattle.std.proofs.Math.Decide.{ℕ_discrete}
use Rattle.std.proofs.lemmas.Bool.{cases_lt}
use Rattle.std.proofs.lemmas.List.{get_or_past, get_or-set_same, get_or-set_other}
use Rattle.pic_num.specs.declared.axis.Axis.{Axis}
use Rattle.pic_num.specs.Space.{Spot}
use Rattle.pic_num.proofs.ProductLaws.{plus_zero}
use Rattle.pic_block.specs.Block.{BlockValues, IsShaped, edge_at}
use Rattle.pic_block.proofs.BlockLaws.{shaped_twice}
use Rattle.pic_flux.specs.Adds.{Adds}
use Rattle.pic_flux.specs.Corners.{both}
use Rattle.pic_flux.proofs.AddsLaws.{adds_same, adds_twice}
use Rattle.pic_tile.specs.declared.parcel.Parcel.{Parcel}
use Rattle.pic_tile.specs.Directions.{directions}
use Rattle.pic_tile.specs.Tile.{TileValue, parcel_at, with_flux}
use Rattle.pic_push.specs.Gains.{Gained, HasGained, GainsAt, Gains, IsClear}

-- a parcel that no flux passes gains nothing
pub gains_nothing : (f : Axis → Spot → ℤ) (p : Parcel) → IsClear f p.flux → Gained f p p
gains_nothing f p clear = record {
  dir_is = refl;
  chain_is = refl;
  stop_is = refl;
  shape = record { low = refl; size = refl };
  adds = record { at = λ a c inside. plus_zero (edge_at p.flux a c) ∙ ap (λ (v : ℤ). edge_at p.flux a c +ℤ v) (sym (clear.at a c inside)) };
}

pub gains_clear : (f : Axis → Spot → ℤ) (t : TileValue) (d : ℕ) → ((p : Parcel) → parcel_at t d ≡ Some p → IsClear f p.flux) → GainsAt f d t t
gains_clear f t d clear = record {
  gained = λ p is. record { parcel = p; there = is; gained = gains_nothing f p (clear p is) };
  none = λ is. is;
  others = λ e other. refl;
  number_is = refl;
}

-- the parcel p of a direction is now one of another flux, which has gained f
pub record HasFlux (f : Axis → Spot → ℤ) (d : ℕ) (p : Parcel) (old new : TileValue) : Type 0 where
  pub flux : BlockValues
  pub shape : IsShaped p.flux flux
  pub adds : Adds p.flux flux f
  pub after : new ≡ with_flux old d p flux

-- what a call does to the flux that stands there
pub called_flux : (f : Axis → Spot → ℤ) (d : ℕ) (p : Parcel) (flux shown left : BlockValues) (old new : TileValue) → shown ≡ p.flux → left ≡ flux
    → IsShaped shown left → Adds shown left f → new ≡ with_flux old d p flux → HasFlux f d p old new
called_flux f d p flux shown left old new shows leaves shape adds after = record {
  flux = flux;
  shape = subst (λ (b : BlockValues). IsShaped b flux) shows (subst (IsShaped shown) leaves shape);
  adds = subst (λ (b : BlockValues). Adds b flux f) shows (subst (λ (b : BlockValues). Adds shown b f) leaves adds);
  after = after;
}

pub no_parcel : (p : Parcel) → ◌≡◌ {A = Option Parcel} None (Some p) → ⊥
no_parcel p h = cc

-- where a flux is changed in its place, its parcel gains
pub gains_changed : (f : Axis → Spot → ℤ) (d : ℕ) (old new : TileValue) → (parcel_at old d ≡ None → new ≡ old)
    → ((p : Parcel) → parcel_at old d ≡ Some p → HasFlux f d p old new) → GainsAt f d old new
gains_changed f d old new none some = by (parcel_at old d) refl
  where
    within : (p : Parcel) → parcel_at old d ≡ Some p → d < length old.parcels
    within p is = elim (cases_lt d (length old.parcels)) [
      | inl less ↦ less
      | inr more ↦ absurd (no_parcel p (sym (get_or_past {X = Option Parcel} old.parcels d None more) ∙ is))
    ]

    gained : (p : Parcel) → parcel_at old d ≡ Some p → HasGained f p (parcel_at new d)
    gained p is =
        let h = some p is in
        let now : Parcel = record p { flux = h.flux } in
        record {
          parcel = now;
          there = ap (λ (t : TileValue). parcel_at t d) h.after ∙ get_or-set_same {A = Option Parcel} old.parcels d (Some now) None (within p is);
          gained = record { dir_is = refl; chain_is = refl; stop_is = refl; shape = h.shape; adds = h.adds };
        }

    by : (o : Option Parcel) → parcel_at old d ≡ o → GainsAt f d old new
    by None is = subst (GainsAt f d old) (sym (none is)) (gains_clear f old d (λ p at. absurd (no_parcel p (sym is ∙ at))))
    by (Some p) is =
        let h = some p is in
        record {
          gained = gained;
          none = λ at. absurd (no_parcel p (sym at ∙ is));
          others = λ e other.
              ap (λ (t : TileValue). parcel_at t e) h.after
              ∙ get_or-set_other {A = Option Parcel} old.parcels d e (Some (record p { flux = h.flux })) None other;
          number_is = ap (λ (t : TileValue). t.number) h.after;
        }

-- an equal flux serves as well
pub gained_same : (f g : Axis → Spot → ℤ) (old new : Parcel) → ((a : Axis) (c : Spot) → f a c ≡ g a c) → Gained f old new → Gained g old new
gained_same f g old new same h = record {
  dir_is = h.dir_is;
  chain_is = h.chain_is;
  stop_is = h.stop_is;
  shape = h.shape;
  adds = adds_same old.flux new.flux f g same h.adds;
}

pub gains_same : (f g : Axis → Spot → ℤ) (old new : TileValue) → ((a : Axis) (c : Spot) → f a c ≡ g a c) → Gains f old new → Gains g old new
gains_same f g old new same h = record {
  gained = λ d p below is.
      let found = h.gained d p below is in
      record { parcel = found.parcel; there = found.there; gained = gained_same f g p found.parcel same found.gained };
  none = h.none;
  number_is = h.number_is;
}

-- one flux after another
pub gained_twice : (f g : Axis → Spot → ℤ) (old mid new : Parcel) → Gained f old mid → Gained g mid new → Gained (both f g) old new
gained_twice f g old mid new h k = record {
  dir_is = k.dir_is ∙ h.dir_is;
  chain_is = k.chain_is ∙ h.chain_is;
  stop_is = k.stop_is ∙ h.stop_is;
  shape = shaped_twice old.flux mid.flux new.flux h.shape k.shape;
  adds = adds_twice old.flux mid.flux new.flux f g h.shape h.adds k.adds;
}

pub gains_twice : (f g : Axis → Spot → ℤ) (old mid new : TileValue) → Gains f old mid → Gains g mid new → Gains (both f g) old new
gains_twice f g old mid new h k = record {
  gained = λ d p below is.
      let first = h.gained d p below is in
      let then = k.gained d first.parcel below first.there in
      record { parcel = then.parcel; there = then.there; gained = gained_twice f g p first.parcel then.parcel first.gained then.gained };
  none = λ d below is. k.none d below (h.none d below is);
  number_is = k.number_is ∙ h.number_is;
}

-- no flux at all
pub gains_still : (f : Axis → Spot → ℤ) (t : TileValue) → ((d : ℕ) (p : Parcel) → d < directions → parcel_at t d ≡ Some p → IsClear f p.flux) → Gains f t t
gains_still f t clear = record {
  gained = λ d p below is. record { parcel = p; there = is; gained = gains_nothing f p (clear d p below is) };
  none = λ d below is. is;
  number_is = refl;
}

-- all parcels have gained but those of the directions that `away` holds of, which are as they were
pub record GainsBut (f : Axis → Spot → ℤ) (away : ℕ → Type 0) (old now : TileValue) : Type 0 where
  pub either : (d : ℕ) → d < directions → away d ⊎ ((p : Parcel) → parcel_at old d ≡ Some p → HasGained f p (parcel_at now d))
  pub none : (d : ℕ) → parcel_at old d ≡ None → parcel_at now d ≡ None
  pub rest : (d : ℕ) → away d → parcel_at now d ≡ parcel_at old d
  pub number_is : now.number ≡ old.number

abbrev pub all_away : ℕ → Type 0
all_away d = d ≡ d

-- one direction more than those
abbrev pub but : ℕ → (ℕ → Type 0) → ℕ → Type 0
but e away d = (d ≡ e → ⊥) × away d

pub gains_none : (f : Axis → Spot → ℤ) (t : TileValue) → GainsBut f all_away t t
gains_none f t = record { either = λ d few. inl refl; none = λ d is. is; rest = λ d is. refl; number_is = refl }

pub gains_also : (f : Axis → Spot → ℤ) (away : ℕ → Type 0) (e : ℕ) (old mid new : TileValue) → away e → GainsBut f away old mid → GainsAt f e mid new
    → GainsBut f (but e away) old new
gains_also f away e old mid new there before at = record {
  either = λ d few. elim (ℕ_discrete d e) [
    | yes same ↦ inr (λ p is. subst (λ (k : ℕ). HasGained f p (parcel_at new k)) (sym same)
        (at.gained p (before.rest e there ∙ ap (parcel_at old) (sym same) ∙ is)))
    | no other ↦ elim (before.either d few) [
      | inl still ↦ inl (other, still)
      | inr done ↦ inr (λ p is. subst (λ (o : Option Parcel). HasGained f p o) (sym (at.others d other)) (done p is))
    ]
  ];
  none = λ d is. elim (ℕ_discrete d e) [
    | yes same ↦ ap (parcel_at new) same ∙ at.none (before.none e (ap (parcel_at old) (sym same) ∙ is))
    | no other ↦ at.others d other ∙ before.none d is
  ];
  rest = λ d still. at.others d still.0 ∙ before.rest d still.1;
  number_is = at.number_is ∙ before.number_is;
}

-- where no flux passes the others
pub gains_but : (f : Axis → Spot → ℤ) (away : ℕ → Type 0) (old now : TileValue)
    → ((d : ℕ) (p : Parcel) → d < directions → away d → parcel_at old d ≡ Some p → IsClear f p.flux) → GainsBut f away old now → Gains f old now
gains_but f away old now clear h = record {
  gained = λ d p few is. elim (h.either d few) [
    | inl still ↦ record { parcel = p; there = h.rest d still ∙ is; gained = gains_nothing f p (clear d p few still is) }
    | inr done ↦ done p is
  ];
  none = λ d few is. h.none d is;
  number_is = h.number_is;
}

-- where no flux passes some of the others, they have gained as well
pub gains_past : (f : Axis → Spot → ℤ) (away still : ℕ → Type 0) (old now : TileValue) → ((d : ℕ) → still d → away d)
    → ((d : ℕ) → d < directions → away d → still d ⊎ ((p : Parcel) → parcel_at old d ≡ Some p → IsClear f p.flux)) → GainsBut f away old now
    → GainsBut f still old now
gains_past f away still old now fewer clear h = record {
  either = λ d few. elim (h.either d few) [
    | inr done ↦ inr done
    | inl is ↦ elim (clear d few is) [
      | inl left ↦ inl left
      | inr none ↦ inr (λ p at. record { parcel = p; there = h.rest d is ∙ at; gained = gains_nothing f p (none p at) })
    ]
  ];
  none = h.none;
  rest = λ d is. h.rest d (fewer d is);
  number_is = h.number_is;
}

-- the parcels of the directions below i have gained, the others are as they were
abbrev pub Spread : (Axis → Spot → ℤ) → TileValue → ℕ → TileValue → Type 0
Spread f old i now = GainsBut f (λ d. i ≤ d) old now

-- where no flux passes those of the next directions
pub spread_past : (f : Axis → Spot → ℤ) (old : TileValue) (i j : ℕ) (now : TileValue) → i ≤ j
    → ((d : ℕ) (p : Parcel) → d < directions → i ≤ d → d < j → parcel_at old d ≡ Some p → IsClear f p.flux) → Spread f old i now → Spread f old j now
spread_past f old i j now more clear spread =
    gains_past f (λ d. i ≤ d) (λ d. j ≤ d) old now (λ d is. omega (arith, more, is))
    (λ d few is. elim (cases_lt d j) [ inl less ↦ inr (λ p at. clear d p few is less at) | inr past ↦ inl past ]) spread

-- nor those before the first
pub spread_none : (f : Axis → Spot → ℤ) (t : TileValue) (i : ℕ)
    → ((d : ℕ) (p : Parcel) → d < directions → d < i → parcel_at t d ≡ Some p → IsClear f p.flux) → Spread f t i t
spread_none f t i clear =
    spread_past f t 0 i t (omega arith) (λ d p few is. clear d p few)
    (gains_past f all_away (λ d. 0 ≤ d) t t (λ d is. refl) (λ d few is. inl (omega arith)) (gains_none f t))

-- one direction more
pub spread_more : (f : Axis → Spot → ℤ) (old : TileValue) (i : ℕ) (now now' : TileValue) → Spread f old i now → GainsAt f i now now' → Spread f old (i + 1) now'
spread_more f old i now now' before at =
    gains_past f (but i (λ d. i ≤ d)) (λ d. i + 1 ≤ d) old now' (λ d is. (apart d is, omega (arith, is))) (λ d few is. inl (above d is.0 is.1))
    (gains_also f (λ d. i ≤ d) i old now now' (omega arith) before at)
  where
    apart : (d : ℕ) → i + 1 ≤ d → d ≡ i → ⊥
    apart d is same = omega (arith, is, same)

    above : (d : ℕ) → (d ≡ i → ⊥) → i ≤ d → i + 1 ≤ d
    above d other is = elim (cases_lt i d) [ inl less ↦ omega (arith, less) | inr most ↦ absurd (other (omega (arith, is, most))) ]

-- where no flux passes those after the last
pub spread_all : (f : Axis → Spot → ℤ) (old : TileValue) (i : ℕ) (now : TileValue)
    → ((d : ℕ) (p : Parcel) → d < directions → i ≤ d → parcel_at old d ≡ Some p → IsClear f p.flux) → Spread f old i now → Gains f old now
spread_all f old i now clear spread = gains_but f (λ d. i ≤ d) old now clear spread
