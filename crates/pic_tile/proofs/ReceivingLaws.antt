-- The tile of a receiver, from merge to merge: in any order its parcel of no step has all that has come.
use Rattle.std.proofs.Common.{◌≡◌, ℕ, ◌+◌, ◌-◌, ◌<◌, ◌⊎◌, inl, inr, Bool, true, false, cond, List}
use Rattle.std.proofs.Common.{[], ◌++◌, Option, None, Some, refl, sym, ap, ◌∙◌, subst, arith}
use Rattle.std.proofs.Math.IntN.{ℤ, pos, ◌+ℤ◌}
use Rattle.std.specs.Prelude.{IsSome}
use Rattle.std.specs.List.{sum_by}
use Rattle.std.proofs.lemmas.Bool.{false≢true}
use Rattle.std.proofs.lemmas.Int.{ints}
use Rattle.std.proofs.lemmas.List.Sums.{sum_by-append}
use Rattle.pic_block.specs.Block.{BlockValues, inner_at}
use Rattle.pic_block.specs.BlockLayers.{AddsLayers, layer_of, lowered_by}
use Rattle.pic_block.specs.Cells.{IsWithin, count_of}
use Rattle.pic_block.proofs.BlockLayerLaws.{IsOver, tells_over, layer_over}
use Rattle.pic_grid.specs.Hat.{HasTwo}
use Rattle.pic_num.specs.declared.axis.Axis.{Axis}
use Rattle.pic_num.specs.declared.motion.Particle.{Particle}
use Rattle.pic_num.specs.Space.{Triple}
use Rattle.pic_grid.specs.declared.stop.Stop.{Stop}
use Rattle.pic_grid.specs.PushPhase.{Surroundings}
use Rattle.pic_grid.specs.Traces.{traces}
use Rattle.pic_grid.proofs.SumLaws.{sum_same}
use Rattle.pic_tile.specs.Same.{Same}
use Rattle.pic_tile.specs.StopOf.{IsStopOf}
use Rattle.pic_tile.specs.Totals.{total_below}
use Rattle.std.proofs.Math.Decide.{ℕ_discrete}
use Rattle.pic_tile.proofs.SumLaws.{total_changed, sum_changed, sum_none, total_same, total_none, sum_by-flat_map}
use Rattle.pic_tile.specs.declared.parcel.Parcel.{Parcel}
use Rattle.pic_tile.specs.Directions.{directions, here}
use Rattle.pic_tile.specs.Empty.{zero_block, empty_parcel}
use Rattle.pic_tile.specs.Layers.{IsLayers, layers_begin, layers_from, layers_size, lowest_cell, sender_of, pick, given_at}
use Rattle.pic_tile.specs.Leaving.{going}
use Rattle.pic_tile.specs.Parcels.{IsParcel}
use Rattle.pic_tile.specs.Receiving.{Merged, emptied, coming, brought, HasMerged, IsReceiving, IsOneMore}
use Rattle.pic_tile.specs.Tile.{TileValue, parcel_at, chain_of, flux_of, stop_of_parcel, chain_at, flux_at}
use Rattle.pic_tile.specs.Tiling.{Tiling}
use Rattle.pic_tile.proofs.GiveLaws.{layers_give}
use Rattle.pic_tile.proofs.LeavingLaws.{neighbour_here}

-- the tile itself sends by the direction of no step
pub sender_here : (m : Tiling) (r : ℕ) → r < count_of m.tiles → sender_of m here r ≡ r
sender_here m r below = neighbour_here m.tiles r below

-- a parcel that is there
pub some_there : (o : Option Parcel) → IsSome o → (p : Parcel) × (o ≡ Some p)
some_there None h = absurd (false≢true h)
some_there (Some p) h = (p, refl)

false_if : (b : Bool) → (b ≡ true → ⊥) → b ≡ false
false_if true h = absurd (h refl)
false_if false h = refl

none_there : (o : Option Parcel) (p : Parcel) → o ≡ None → o ≡ Some p → ⊥
none_there o p h k = cc

-- a tile without parcels, of which nothing is done
pub receiving_none : (w : Surroundings) (m : Tiling) (start : ℕ → List Particle) (done : ℕ → Bool) (r : ℕ) (t : TileValue) → t.number ≡ r
    → ((d : ℕ) → d < directions → done d ≡ false) → ((d : ℕ) → d < directions → parcel_at t d ≡ None)
    → IsReceiving w m start done r t
receiving_none w m start done r t number undone none = record {
  number = number;
  first = λ d below is. absurd (false≢true (sym (undone d below) ∙ is));
  there = λ is. absurd (false≢true (sym (undone here (omega arith)) ∙ is));
  own = λ p is. absurd (none_there (parcel_at t here) p (none here (omega arith)) is);
  empty = λ d below apart is. absurd (false≢true (sym (undone d below) ∙ is));
  bare = λ d below is. none d below;
}

module _ (w : Surroundings) (m : Tiling) (start : ℕ → List Particle) (r : ℕ) where
  -- what comes by one direction, and the flux it brings
  abbrev sent : ℕ → List Particle
  sent d = going w m d (start (sender_of m d r))

  abbrev given : Axis → Triple → ℕ → ℤ
  given a q d = given_at m (sender_of m d r) d (traces w (start (sender_of m d r)) a) q

  abbrev weight : (ℕ → Bool) → (Particle → ℕ) → ℕ → ℕ
  weight done v d = sum_by v (cond (done d) (sent d) [])

  coming_weight : (done : ℕ → Bool) (v : Particle → ℕ) → sum_by v (coming w m start done r) ≡ total_below directions (weight done v)
  unfolding coming
  coming_weight done v = sum_by-flat_map v (λ d. cond (done d) (sent d) []) directions

  -- where nothing is done, nothing comes
  coming_none : (done : ℕ → Bool) → ((d : ℕ) → d < directions → done d ≡ false) → (v : Particle → ℕ) → sum_by v (coming w m start done r) ≡ 0
  coming_none done undone v =
      coming_weight done v
      ∙ total_same directions (weight done v) (λ d. 0) (λ d below. ap (λ b. sum_by v (cond b (sent d) [])) (undone d below)) ∙ total_none directions

  -- what comes with one direction more
  coming_more : (k : ℕ) (done more : ℕ → Bool) (v : Particle → ℕ) → k < directions → IsOneMore k done more
      → sum_by v (coming w m start more r) ≡ sum_by v (coming w m start done r) + sum_by v (sent k)
  coming_more k done more v below one =
      let changed = total_changed directions k (weight done v) (weight more v) below
      (λ d inside apart. ap (λ b. sum_by v (cond b (sent d) [])) (sym (one.others d apart))) in
      let before : weight done v k ≡ 0 = ap (λ b. sum_by v (cond b (sent k) [])) one.before in
      let now : weight more v k ≡ sum_by v (sent k) = ap (λ b. sum_by v (cond b (sent k) [])) one.now in
      omega (arith, changed, before, now, coming_weight done v, coming_weight more v)

  -- the same of flux
  brought_more : (k : ℕ) (done more : ℕ → Bool) (a : Axis) (q : Triple) → k < directions → IsOneMore k done more
      → brought w m start more r a q ≡ brought w m start done r a q +ℤ given a q k
  unfolding brought
  brought_more k done more a q below one =
      let changed = sum_changed directions k (λ d. pick (done d) (given a q d)) (λ d. pick (more d) (given a q d)) below
      (λ d inside apart. ap (λ b. pick b (given a q d)) (sym (one.others d apart))) in
      let before : pick (done k) (given a q k) ≡ pos 0 = ap (λ b. pick b (given a q k)) one.before in
      let now : pick (more k) (given a q k) ≡ given a q k = ap (λ b. pick b (given a q k)) one.now in
      omega (arith, ints, changed, before, now)

  brought_none : (done : ℕ → Bool) (a : Axis) (q : Triple) → ((d : ℕ) → d < directions → done d ≡ false) → brought w m start done r a q ≡ pos 0
  unfolding brought
  brought_none done a q undone =
      sum_same directions (λ d. pick (done d) (given a q d)) (λ d. pos 0) (λ d below. ap (λ b. pick b (given a q d)) (undone d below)) ∙ sum_none directions

  -- One merge: the chain,
  chain_more : (k : ℕ) (done more : ℕ → Bool) (p : Parcel) (before now : List Particle) → k < directions → IsOneMore k done more → Same p.chain (sent k)
      → Same before (coming w m start done r) → Same now (p.chain ++ before) → Same now (coming w m start more r)
  chain_more k done more p before now below one sent_is came joined = record {
    sums = λ v.
        let parts = sum_by-append v p.chain before in
        let more_is = coming_more k done more v below one in
        omega (arith, joined.sums v, parts, sent_is.sums v, came.sums v, more_is);
  }

  none_comes : (done : ℕ → Bool) → ((d : ℕ) → d < directions → done d ≡ false) → Same [] (coming w m start done r)
  none_comes done undone = record { sums = λ v. sym (coming_none done undone v) }

  -- the flux of a parcel that is the first,
  flux_first : (done more : ℕ → Bool) (s : ℕ) (b : BlockValues) (a : Axis) (q : Triple) → HasTwo m.size → IsOneMore here done more → s ≡ sender_of m here r
      → ((d : ℕ) → d < directions → done d ≡ false) → IsLayers m s here (traces w (start s)) b → IsWithin q m.size
      → inner_at b a q ≡ brought w m start more r a q
  flux_first done more s b a q thick one is undone layers within =
      let size : b.size ≡ m.size = layers.size in
      let over : IsOver (layers_begin m.size here) b.size q = record {
        above_x = omega arith;
        above_y = omega arith;
        above_z = omega arith;
        below_x = omega (arith, within.x, ap (λ (n : Triple). n.x) size);
        below_y = omega (arith, within.y, ap (λ (n : Triple). n.y) size);
        below_z = omega (arith, within.z, ap (λ (n : Triple). n.z) size);
      } in
      let laid = layer_over b.size b.values (layers_begin m.size here) a q (tells_over (layers_begin m.size here) b.size q over) in
      let x : q.x - 0 ≡ q.x = omega arith in
      let y : q.y - 0 ≡ q.y = omega arith in
      let z : q.z - 0 ≡ q.z = omega arith in
      let place : inner_at b a (lowered_by (layers_begin m.size here) q) ≡ inner_at b a q = (λ i. inner_at b a (record { x = x i; y = y i; z = z i })) in
      let gives = layers_give m s here (traces w (start s)) b a q thick within layers in
      let all = brought_more here done more a q (omega arith) one in
      let none = brought_none done a q undone in
      let same : given_at m s here (traces w (start s) a) q ≡ given a q here = ap (λ (t : ℕ). given_at m t here (traces w (start t) a) q) is in
      omega (arith, ints, sym place ∙ sym laid ∙ gives ∙ same, all, none)

  -- and of any other
  flux_more : (k : ℕ) (done more : ℕ → Bool) (old now b : BlockValues) (a : Axis) (q : Triple) → k < directions → HasTwo m.size → IsOneMore k done more
      → old.size ≡ m.size → inner_at old a q ≡ brought w m start done r a q → AddsLayers old now b (layers_begin old.size k)
      → IsLayers m (sender_of m k r) k (traces w (start (sender_of m k r))) b → IsWithin q m.size → inner_at now a q ≡ brought w m start more r a q
  flux_more k done more old now b a q below thick one size before added layers within =
      let sum = added.at a q (subst (IsWithin q) (sym size) within) in
      let begin = ap (λ (n : Triple). layer_of b.size b.values (layers_begin n k) a q) size in
      let gives = layers_give m (sender_of m k r) k (traces w (start (sender_of m k r))) b a q thick within layers in
      let all = brought_more k done more a q below one in
      omega (arith, ints, sum, before, begin, gives, all)

  -- what stands in the place of no step,
  module _ (k : ℕ) (done more : ℕ → Bool) (p : Parcel) (t u : TileValue) (thick : HasTwo m.size) (among : r < count_of m.tiles) (below : k < directions)
      (one : IsOneMore k done more) (receiving : IsReceiving w m start done r t)
      (sent_is : IsParcel w m (start (sender_of m k r)) (sender_of m k r) k p) (merged : Merged p t u)
    where
      undone : k ≡ here → (d : ℕ) → d < directions → done d ≡ false
      undone same d inside = false_if (done d) (λ is. false≢true (sym one.before ∙ ap done same ∙ receiving.first d inside is))

      own_first : k ≡ here → (q : Parcel) → parcel_at u here ≡ Some q → HasMerged w m start more r q
      own_first same q is =
          let found : Some p ≡ Some q = sym (merged.first (sent_is.dir_is ∙ same)) ∙ is in
          let s = sender_of m here r in
          let self : s ≡ r = sender_here m r among in
          let sent_here : IsParcel w m (start s) s here p =
          subst (λ (j : ℕ). IsParcel w m (start (sender_of m j r)) (sender_of m j r) j p) same sent_is in
          let one_here = subst (λ (j : ℕ). IsOneMore j done more) same one in
          let none : chain_at t here ≡ [] = ap chain_of (receiving.bare here (omega arith) (undone same here (omega arith))) in
          let came : Same (chain_at t here) (coming w m start done r) =
          subst (λ (xs : List Particle). Same xs (coming w m start done r)) (sym none) (none_comes done (undone same)) in
          let all = chain_more here done more p (chain_at t here) (chain_at u here) (omega arith) one_here sent_here.chain came merged.chain in
          let flux : p.flux ≡ q.flux = ap flux_of found in
          record {
            chain = subst (λ (xs : List Particle). Same xs (coming w m start more r)) (ap chain_of is) all;
            low = ap (λ (b : BlockValues). b.low) (sym flux) ∙ sent_here.flux.low ∙ ap (lowest_cell m) self;
            size = ap (λ (b : BlockValues). b.size) (sym flux) ∙ sent_here.flux.size;
            flux = λ a c within. ap (λ (b : BlockValues). inner_at b a c) (sym flux)
                ∙ flux_first done more s p.flux a c thick one_here refl (undone same) sent_here.flux within;
            halt = subst (λ (o : Option Stop). IsStopOf w (start r) o) (ap stop_of_parcel found)
                (subst (λ (j : ℕ). IsStopOf w (start j) p.stop) self (sent_here.halt refl));
          }

      own_more : (k ≡ here → ⊥) → done here ≡ true → (q : Parcel) → parcel_at u here ≡ Some q → HasMerged w m start more r q
      own_more apart first q is =
          let own = some_there (parcel_at t here) (receiving.there first) in
          let had = receiving.own own.0 own.1 in
          let other : p.dir ≡ here → ⊥ = λ e. apart (sym sent_is.dir_is ∙ e) in
          let came : Same (chain_at t here) (coming w m start done r) =
          subst (λ (xs : List Particle). Same xs (coming w m start done r)) (sym (ap chain_of own.1)) had.chain in
          let all = chain_more k done more p (chain_at t here) (chain_at u here) below one sent_is.chain came merged.chain in
          let flux : flux_at u here ≡ q.flux = ap flux_of is in
          let shape = merged.shape other in
          let size : (flux_at t here).size ≡ m.size = ap (λ (o : Option Parcel). (flux_of o).size) own.1 ∙ had.size in
          let added : AddsLayers (flux_at t here) (flux_at u here) p.flux (layers_begin (flux_at t here).size k) =
          subst (λ (j : ℕ). AddsLayers (flux_at t here) (flux_at u here) p.flux (layers_begin (flux_at t here).size j)) sent_is.dir_is (merged.flux other) in
          record {
            chain = subst (λ (xs : List Particle). Same xs (coming w m start more r)) (ap chain_of is) all;
            low = ap (λ (b : BlockValues). b.low) (sym flux) ∙ sym shape.low ∙ ap (λ (o : Option Parcel). (flux_of o).low) own.1 ∙ had.low;
            size = ap (λ (b : BlockValues). b.size) (sym flux) ∙ sym shape.size ∙ size;
            flux = λ a c within. ap (λ (b : BlockValues). inner_at b a c) (sym flux)
                ∙ flux_more k done more (flux_at t here) (flux_at u here) p.flux a c below thick one size
                (ap (λ (o : Option Parcel). inner_at (flux_of o) a c) own.1 ∙ had.flux a c within) added sent_is.flux within;
            halt = subst (λ (o : Option Stop). IsStopOf w (start r) o)
                (sym (sym (ap stop_of_parcel is) ∙ merged.stop other ∙ ap stop_of_parcel own.1)) had.halt;
          }

      -- and in the others
      dir_apart : (d : ℕ) → (d ≡ k → ⊥) → d ≡ p.dir → ⊥
      dir_apart d other e = other (e ∙ sent_is.dir_is)

      left_empty : (d : ℕ) → (d ≡ here → ⊥) → d ≡ k → done here ≡ true → parcel_at u d ≡ Some (empty_parcel m.size (lowest_cell m r) d)
      left_empty d apart same first =
          let own = some_there (parcel_at t here) (receiving.there first) in
          let had = receiving.own own.0 own.1 in
          let dir : p.dir ≡ d = sent_is.dir_is ∙ sym same in
          let other : p.dir ≡ here → ⊥ = λ e. apart (sym dir ∙ e) in
          let size : (flux_at t here).size ≡ m.size = ap (λ (o : Option Parcel). (flux_of o).size) own.1 ∙ had.size in
          let low : (flux_at t here).low ≡ lowest_cell m r = ap (λ (o : Option Parcel). (flux_of o).low) own.1 ∙ had.low in
          let layers : p.flux.size ≡ layers_size m.size d = sent_is.flux.size ∙ ap (layers_size m.size) (sym same) in
          let quiet : p.stop ≡ None = sent_is.none (λ e. other (sent_is.dir_is ∙ e)) in
          subst (λ (j : ℕ). parcel_at u j ≡ Some (emptied (flux_at t here) p)) dir (merged.left other)
          ∙ (λ i. Some (record {
            dir = dir i;
            chain = [];
            flux = zero_block (layers_from (size i) (low i) (dir i)) (layers i);
            stop = quiet i;
          }))

      first_done : (k ≡ here) ⊎ (done here ≡ true) → more here ≡ true
      first_done (inl same) = ap more (sym same) ∙ one.now
      first_done (inr first) = one.others here (λ e. false≢true (sym one.before ∙ ap done (sym e) ∙ first)) ∙ first

      own_all : (k ≡ here) ⊎ (done here ≡ true) → (q : Parcel) → parcel_at u here ≡ Some q → HasMerged w m start more r q
      own_all (inl same) q is = own_first same q is
      own_all (inr first) q is = own_more (λ e. false≢true (sym one.before ∙ ap done e ∙ first)) first q is

      -- where another direction than the first is done, so is the first
      first_before : (k ≡ here) ⊎ (done here ≡ true) → (k ≡ here → ⊥) → done here ≡ true
      first_before (inl same) apart = absurd (apart same)
      first_before (inr first) apart = first

      empty_all : (k ≡ here) ⊎ (done here ≡ true) → (d : ℕ) → d < directions → (d ≡ here → ⊥) → more d ≡ true
          → parcel_at u d ≡ Some (empty_parcel m.size (lowest_cell m r) d)
      empty_all order d inside apart is = elim (ℕ_discrete d k) [
        | yes same ↦ left_empty d apart same (first_before order (λ e. apart (same ∙ e)))
        | no other ↦ merged.others d apart (dir_apart d other) ∙ receiving.empty d inside apart (sym (one.others d other) ∙ is)
      ]

      bare_all : (k ≡ here) ⊎ (done here ≡ true) → (d : ℕ) → d < directions → more d ≡ false → parcel_at u d ≡ None
      bare_all order d inside is =
          let other : d ≡ k → ⊥ = λ e. false≢true (sym is ∙ ap more e ∙ one.now) in
          let apart : d ≡ here → ⊥ = λ e. false≢true (sym is ∙ ap more e ∙ first_done order) in
          merged.others d apart (dir_apart d other) ∙ receiving.bare d inside (sym (one.others d other) ∙ is)

      -- the tile after a merge
      pub receiving_more : (k ≡ here) ⊎ (done here ≡ true) → IsReceiving w m start more r u
      receiving_more order = record {
        number = merged.number ∙ receiving.number;
        first = λ d inside is. first_done order;
        there = λ is. merged.there;
        own = own_all order;
        empty = empty_all order;
        bare = bare_all order;
      }
