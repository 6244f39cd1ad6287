-- The tile of a receiver when all has come, and what a merge asks for.
use Rattle.std.proofs.Common.{◌≡◌, ℕ, zero, suc, ◌*◌, ◌^◌, ◌<◌, ◌≤◌, ◌⊎◌, inl, inr, Bool, true, false}
use Rattle.std.proofs.Common.{List, length, Option, None, Some, refl, sym, ap, ◌∙◌, subst, arith}
use Rattle.std.proofs.Math.Decide.{ℕ_discrete}
use Rattle.std.proofs.Math.IntN.{ℤ}
use Rattle.std.specs.Prelude.{IsSome}
use Rattle.std.specs.List.{All}
use Rattle.std.proofs.lemmas.Int.{ints}
use Rattle.pic_tile.proofs.CutLaws.{empty_layers}
use Rattle.pic_num.specs.declared.axis.Axis.{Axis}
use Rattle.pic_num.specs.declared.motion.Particle.{Particle}
use Rattle.pic_num.specs.Limits.{most_side, most_particles}
use Rattle.pic_num.specs.Sizes.{IsAtMost}
use Rattle.pic_num.specs.Space.{Triple, Spot, triple}
use Rattle.pic_block.specs.Block.{BlockValues, AllAtMost, inner_of, inner_at, outer_of}
use Rattle.pic_block.specs.Cells.{IsWithin, count_of}
use Rattle.pic_block.proofs.BlockLaws.{inner_within, all_at_most_more}
use Rattle.pic_grid.specs.Current.{current}
use Rattle.pic_grid.specs.Hat.{IsInBox, HasTwo}
use Rattle.pic_grid.specs.PushPhase.{Surroundings}
use Rattle.pic_grid.specs.Species.{IsKind}
use Rattle.pic_grid.specs.Sums.{sum_below}
use Rattle.pic_grid.specs.Traces.{traces, most_flux, IsFluxAtMost}
use Rattle.pic_grid.proofs.SumLaws.{sum_same}
use Rattle.pic_tile.specs.declared.parcel.Parcel.{Parcel}
use Rattle.pic_tile.specs.Directions.{directions, here, steps_of}
use Rattle.pic_tile.specs.Layers.{IsLayers, layer_at, layers_size, lowest_cell, sender_of, at_some, pick, given_at}
use Rattle.pic_tile.specs.LayerSum.{AreSharedOut, LayersMakeTheCurrent}
use Rattle.pic_tile.specs.Parcels.{IsParcel, IsReady, no_flux}
use Rattle.pic_tile.specs.Receiving.{brought, HasMerged, IsReceiving, SumsKeepTheBound}
use Rattle.pic_tile.specs.Tile.{TileValue, parcel_at, chain_of, flux_of, flux_at}
use Rattle.pic_tile.specs.Tiling.{Tiling, IsMap, cells_of}
use Rattle.pic_tile.specs.Zones.{IsTileZone}
use Rattle.pic_tile.proofs.ReceivingLaws.{some_there}
use Rattle.pic_tile.proofs.ZoneLaws.{tile_zone}

-- where all directions are done, the tile is ready
pub ready_received : (w : Surroundings) (m : Tiling) (start : ℕ → List Particle) (done : ℕ → Bool) (r : ℕ) (t : TileValue)
    → ((d : ℕ) → d < directions → done d ≡ true) → IsReceiving w m start done r t → IsReady m t
ready_received w m start done r t all h =
    let own = some_there (parcel_at t here) (h.there (all here (omega arith))) in
    let had = h.own own.0 own.1 in
    let number : r ≡ t.number = sym h.number in
    record {
      whole = λ d below. elim (ℕ_discrete d here) [
        | yes same ↦ subst (λ (k : ℕ). IsSome (parcel_at t k)) (sym same) (h.there (all here (omega arith)))
        | no apart ↦ subst (λ (o : Option Parcel). IsSome o) (sym (h.empty d below apart (all d below))) refl
      ];
      low = ap (λ (o : Option Parcel). (flux_of o).low) own.1 ∙ had.low ∙ ap (lowest_cell m) number;
      size = ap (λ (o : Option Parcel). (flux_of o).size) own.1 ∙ had.size;
      chains = λ d below apart. ap chain_of (h.empty d below apart (all d below));
      empty = λ d below apart. subst (λ (k : ℕ). IsLayers m k d no_flux (flux_at t d)) number
          (subst (λ (o : Option Parcel). IsLayers m r d no_flux (flux_of o)) (sym (h.empty d below apart (all d below))) (empty_layers m r d));
    }

-- and the flux is the current, by the law of the layers
pub merged_is_current : LayersMakeTheCurrent → (w : Surroundings) (m : Tiling) (start : ℕ → List Particle) (done : ℕ → Bool) (r : ℕ) (parcel : Parcel)
    (particles : List Particle) (a : Axis) (q : Triple) → ((d : ℕ) → d < directions → done d ≡ true) → HasMerged w m start done r parcel
    → 0 < m.side → w.side ≡ m.side → w.cells ≡ cells_of m → HasTwo m.size → r < count_of m.tiles → IsWithin q m.size → AreSharedOut m start particles
    → All (λ x. IsInBox m.side (cells_of m) (triple x.x)) particles → inner_at parcel.flux a q ≡ current w particles a (outer_of (lowest_cell m r) q)
unfolding brought
merged_is_current law w m start done r parcel particles a q all has some side cells thick among within shared inside =
    let given : ℕ → ℤ = λ d. given_at m (sender_of m d r) d (traces w (start (sender_of m d r)) a) q in
    has.flux a q within
    ∙ sum_same directions (λ d. pick (done d) (given d)) given (λ d below. ap (λ (b : Bool). pick b (given d)) (all d below))
    ∙ law w m start particles r q a some side cells thick among within shared inside

-- How large the flux is.

some_small : (o : Option ℤ) (g : ℤ → ℤ) (most : ℕ) → ((j : ℤ) → IsAtMost (g j) most) → IsAtMost (at_some o g) most
some_small None g most small = record { size = omega (arith, ints) }
some_small (Some j) g most small = small j

three_small : (x y z : Option ℤ) (f : Spot → ℤ) (most : ℕ) → ((c : Spot) → IsAtMost (f c) most)
    → IsAtMost (at_some z (λ k. at_some y (λ j. at_some x (λ i. f (record { x = i; y = j; z = k }))))) most
three_small x y z f most small =
    some_small z (λ k. at_some y (λ j. at_some x (λ i. f (record { x = i; y = j; z = k })))) most
    (λ k. some_small y (λ j. at_some x (λ i. f (record { x = i; y = j; z = k }))) most
    (λ j. some_small x (λ i. f (record { x = i; y = j; z = k })) most (λ i. small (record { x = i; y = j; z = k }))))

-- what layers give is at most what they hold
pub given_small : (m : Tiling) (t d : ℕ) (f : Spot → ℤ) (q : Triple) (most : ℕ) → ((c : Spot) → IsAtMost (f c) most) → IsAtMost (given_at m t d f q) most
unfolding given_at
given_small m t d f q most small =
    let low = lowest_cell m t in
    let e = steps_of d in
    three_small (layer_at m.size.x low.x e.x q.x) (layer_at m.size.y low.y e.y q.y) (layer_at m.size.z low.z e.z q.z) f most small

pick_small : (b : Bool) (v : ℤ) (most : ℕ) → IsAtMost v most → IsAtMost (pick b v) most
pick_small true v most small = small
pick_small false v most small = record { size = omega (arith, ints) }

sum_small : (n : ℕ) (f : ℕ → ℤ) (most : ℕ) → ((d : ℕ) → IsAtMost (f d) most) → IsAtMost (sum_below n f) (n * most)
unfolding sum_below
sum_small zero f most small = record { size = omega (arith, ints) }
sum_small (suc n) f most small =
    let rest = (sum_small n f most small).size in
    let last = (small n).size in
    record { size = omega (arith, ints, rest, last) }

-- the flux of a parcel
pub parcel_small : (m : Tiling) (t d : ℕ) (f : Axis → Spot → ℤ) (b : BlockValues) (most : ℕ) → IsFluxAtMost most f → IsLayers m t d f b → AllAtMost most b
parcel_small m t d f b most small layers = record {
  at_most = λ a c inside. subst (λ (v : ℤ). IsAtMost v most) (sym (layers.values a c inside)) (small.at_most a c);
}

-- the sum of what has come
pub brought_small : (w : Surroundings) (m : Tiling) (start : ℕ → List Particle) (done : ℕ → Bool) (r : ℕ) (a : Axis) (q : Triple) (most : ℕ)
    → ((t : ℕ) → IsFluxAtMost most (traces w (start t))) → IsAtMost (brought w m start done r a q) (directions * most)
unfolding brought
brought_small w m start done r a q most small =
    sum_small directions (λ d. pick (done d) (given_at m (sender_of m d r) d (traces w (start (sender_of m d r)) a) q)) most
    (λ d. pick_small (done d) _ most (given_small m (sender_of m d r) d (traces w (start (sender_of m d r)) a) q most ((small (sender_of m d r)).at_most a)))

pub merged_small : (w : Surroundings) (m : Tiling) (start : ℕ → List Particle) (done : ℕ → Bool) (r : ℕ) (parcel : Parcel) (most : ℕ)
    → ((t : ℕ) → IsFluxAtMost most (traces w (start t))) → HasMerged w m start done r parcel → AllAtMost (directions * most) parcel.flux
merged_small w m start done r parcel most small has = record {
  at_most = λ a c inside.
      let q = inner_of parcel.flux.low c in
      let within : IsWithin q m.size = subst (IsWithin q) has.size (inner_within parcel.flux.low parcel.flux.size c inside) in
      subst (λ (v : ℤ). IsAtMost v (directions * most)) (sym (has.flux a q within)) (brought_small w m start done r a q most small);
}

-- by the law of the partial sums it is at most what the flux of all particles can be at one edge
pub merged_in_bound : SumsKeepTheBound → (w : Surroundings) (m : Tiling) (start : ℕ → List Particle) (particles : List Particle) (done : ℕ → Bool) (r : ℕ)
    (parcel : Parcel) → 0 < m.side → m.side ≤ most_side → w.side ≡ m.side → w.cells ≡ cells_of m → All IsKind w.kinds → HasTwo m.size → r < count_of m.tiles
    → AreSharedOut m start particles → All (λ x. IsInBox m.side (cells_of m) (triple x.x)) particles → length particles ≤ most_particles
    → HasMerged w m start done r parcel → AllAtMost most_flux parcel.flux
merged_in_bound law w m start particles done r parcel some side same cells limits thick among shared inside few has = record {
  at_most = λ a c within.
      let q = inner_of parcel.flux.low c in
      let inner : IsWithin q m.size = subst (IsWithin q) has.size (inner_within parcel.flux.low parcel.flux.size c within) in
      subst (λ (v : ℤ). IsAtMost v most_flux) (sym (has.flux a q inner))
      (law w m start particles done r a q (record {
        some = some;
        most = side;
        side = same;
        cells = cells;
        kinds = limits;
        thick = thick;
        tile = among;
        within = inner;
        shared = shared;
        inside = inside;
      }) few);
}

-- What a merge asks for holds while parcels are merged.

pub record MayMerge (p : Parcel) (t : TileValue) : Type 0 where
  pub free : parcel_at t p.dir ≡ None
  pub order : (p.dir ≡ here) ⊎ IsSome (parcel_at t here)
  pub zone : (p.dir ≡ here → ⊥) → IsTileZone (flux_at t here).low (flux_at t here).size
  pub layers : (p.dir ≡ here → ⊥) → p.flux.size ≡ layers_size (flux_at t here).size p.dir
  pub room : (p.dir ≡ here → ⊥) → AllAtMost (2 ^ 120) (flux_at t here)
  pub small : (p.dir ≡ here → ⊥) → AllAtMost (2 ^ 120) p.flux

pub may_merge : (w : Surroundings) (m : Tiling) (start : ℕ → List Particle) (done : ℕ → Bool) (r k : ℕ) (p : Parcel) (t : TileValue) (most : ℕ)
    → IsMap m → r < count_of m.tiles → k < directions → directions * most ≤ 2 ^ 120 → ((s : ℕ) → IsFluxAtMost most (traces w (start s)))
    → IsReceiving w m start done r t → done k ≡ false → (k ≡ here) ⊎ (done here ≡ true) → IsParcel w m (start (sender_of m k r)) (sender_of m k r) k p
    → MayMerge p t
may_merge w m start done r k p t most map among below bound small h undone order sent = record {
  free = subst (λ (j : ℕ). parcel_at t j ≡ None) (sym sent.dir_is) (h.bare k below undone);
  order = in_order order;
  zone = λ apart.
      let own = mine apart in
      let had = h.own own.0 own.1 in
      let zone = tile_zone m r map among in
      subst (λ (o : Option Parcel). IsTileZone (flux_of o).low (flux_of o).size) (sym own.1)
      (subst (λ (l : Spot). IsTileZone l own.0.flux.size) (sym had.low) (subst (λ (n : Triple). IsTileZone (lowest_cell m r) n) (sym had.size) zone));
  layers = λ apart.
      let own = mine apart in
      let had = h.own own.0 own.1 in
      sent.flux.size ∙ ap (layers_size m.size) (sym sent.dir_is) ∙ ap (λ (n : Triple). layers_size n p.dir) (sym had.size)
      ∙ ap (λ (o : Option Parcel). layers_size (flux_of o).size p.dir) (sym own.1);
  room = λ apart.
      let own = mine apart in
      let had = merged_small w m start done r own.0 most small (h.own own.0 own.1) in
      subst (λ (o : Option Parcel). AllAtMost (2 ^ 120) (flux_of o)) (sym own.1) (all_at_most_more own.0.flux (directions * most) (2 ^ 120) bound had);
  small = λ apart.
      let s = sender_of m k r in
      all_at_most_more p.flux most (2 ^ 120) (omega (arith, bound)) (parcel_small m s k (traces w (start s)) p.flux most (small s) sent.flux);
}
  where
    in_order : (k ≡ here) ⊎ (done here ≡ true) → (p.dir ≡ here) ⊎ IsSome (parcel_at t here)
    in_order (inl same) = inl (sent.dir_is ∙ same)
    in_order (inr first) = inr (h.there first)

    first_is : (k ≡ here) ⊎ (done here ≡ true) → (p.dir ≡ here → ⊥) → done here ≡ true
    first_is (inl same) apart = absurd (apart (sent.dir_is ∙ same))
    first_is (inr first) apart = first

    mine : (p.dir ≡ here → ⊥) → (own : Parcel) × (parcel_at t here ≡ Some own)
    mine apart = some_there (parcel_at t here) (h.there (first_is order apart))
