-- There are contents for each event: a tile after its push, and a tile after a merge.
use Rattle.std.proofs.Common.{◌≡◌, ℕ, ◌+◌, ◌<◌, ◌≤◌, ◌≤ℤ◌, ◌-ℤ◌, unsigned_abs, inl, inr, Bool, List, [], ◌∷◌, ◌++◌, length, map, Option}
use Rattle.std.proofs.Common.{None, Some, refl, sym, ap, ◌∙◌, subst, arith, append-nil}
use Rattle.std.proofs.Common.{eqb, eq-eqb, ne_eqb, if◌then◌else◌}
use Rattle.std.proofs.Math.IntN.{ℤ, pos, ◌+ℤ◌}
use Rattle.std.proofs.Math.Decide.{ℕ_discrete}
use Rattle.std.specs.Prelude.{IsSome, IsOk}
use Rattle.std.specs.List.{range_with_len}
use Rattle.std.proofs.lemmas.Bool.{cases_lt}
use Rattle.std.proofs.lemmas.Int.{ints}
use Rattle.std.proofs.lemmas.List.{get_or_past}
use Rattle.std.proofs.lemmas.List.Elements.{All-nil}
use Rattle.std.proofs.lemmas.List.FromFn.{get_or-map-range_with_len, length-map-range_with_len}
use Rattle.pic_num.specs.declared.axis.Axis.{Axis}
use Rattle.pic_num.specs.declared.motion.Particle.{Particle}
use Rattle.pic_num.specs.Space.{Triple, Spot}
use Rattle.pic_block.specs.Block.{BlockValues, inner_of, inner_at}
use Rattle.pic_block.specs.BlockLayers.{layer_of}
use Rattle.pic_block.specs.Cells.{IsWithin}
use Rattle.pic_block.proofs.BlockLaws.{inner_within}
use Rattle.pic_grid.specs.declared.stop.Stop.{Stop}
use Rattle.pic_grid.specs.Lattice.{values_of}
use Rattle.pic_grid.specs.PushPhase.{Surroundings, push_of, halt_of}
use Rattle.pic_grid.specs.Traces.{traces}
use Rattle.pic_grid.proofs.LatticeLaws.{value_at-field_of}
use Rattle.pic_tile.specs.declared.parcel.Parcel.{Parcel}
use Rattle.pic_tile.specs.Directions.{directions, here}
use Rattle.pic_tile.specs.Layers.{IsLayers, layers_begin, layers_from, layers_size, lowest_cell}
use Rattle.pic_tile.specs.Leaving.{going}
use Rattle.pic_tile.specs.Pushed.{IsPushed}
use Rattle.pic_tile.specs.Receiving.{Merged, emptied}
use Rattle.pic_tile.specs.StopOf.{IsStopOf, lesser}
use Rattle.pic_tile.specs.Tile.{TileValue, chain_of, flux_of, stop_of_parcel, chain_at, flux_at, parcel_at, stop_at}
use Rattle.pic_tile.specs.Tiling.{Tiling}
use Rattle.pic_tile.proofs.SameLaws.{same_is, same_refl}
use Rattle.pic_tile.proofs.StopLaws.{stop_none, stop_one, stop_append}

-- A block with these components.
abbrev filled : Spot → Triple → (Axis → Triple → ℤ) → BlockValues
filled low size g = record { low = low; size = size; values = values_of size g }

filled_at : (low : Spot) (size : Triple) (g : Axis → Triple → ℤ) (a : Axis) (p : Triple) → IsWithin p size
    → inner_at (filled low size g) a p ≡ g a p
filled_at low size g a p inside = value_at-field_of 0 size size g a p inside

-- the components that f has in a zone
abbrev over_zone : Spot → Triple → (Axis → Spot → ℤ) → BlockValues
over_zone low size f =
    filled low size (λ a p. f a (record { x = low.x +ℤ pos p.x; y = low.y +ℤ pos p.y; z = low.z +ℤ pos p.z }))

back_up : (low c : ℤ) → low ≤ℤ c → (low +ℤ pos (unsigned_abs (c -ℤ low))) ≡ c
back_up low c h = omega (arith, ints, h)

over_layers : (m : Tiling) (t d : ℕ) (f : Axis → Spot → ℤ)
    → IsLayers m t d f (over_zone (layers_from m.size (lowest_cell m t) d) (layers_size m.size d) f)
over_layers m t d f =
    let low = layers_from m.size (lowest_cell m t) d in
    let size = layers_size m.size d in
    record {
      low = refl;
      size = refl;
      values = λ a c zone.
          filled_at low size (λ a p. f a (record { x = low.x +ℤ pos p.x; y = low.y +ℤ pos p.y; z = low.z +ℤ pos p.z })) a (inner_of low c)
          (inner_within low size c zone)
          ∙ (λ i. f a (record { x = back_up low.x c.x zone.x_low i; y = back_up low.y c.y zone.y_low i; z = back_up low.z c.z zone.z_low i }));
    }

-- A stop of a push.
record HasStop (w : Surroundings) (particles : List Particle) : Type 0 where
  stop : Option Stop
  is : IsStopOf w particles stop

stop_there : (w : Surroundings) (xs : List Particle) → HasStop w xs
stop_there w [] = record { stop = None; is = stop_none w [] (All-nil (λ x. IsOk (push_of w x))) }
stop_there w (x ∷ xs) =
    let rest = stop_there w xs in
    record {
      stop = lesser (halt_of x (push_of w x)) rest.stop;
      is = stop_append w (x ∷ []) xs (halt_of x (push_of w x)) rest.stop (stop_one w x) rest.is;
    }

-- A tile with these parcels, so many.
abbrev tile_with : ℕ → (ℕ → Option Parcel) → ℕ → TileValue
tile_with number f n = record { number = number; parcels = map f (range_with_len 0 n) }

with_at : (number : ℕ) (f : ℕ → Option Parcel) (n d : ℕ) → d < n → parcel_at (tile_with number f n) d ≡ f d
with_at number f n d below = get_or-map-range_with_len f 0 n d d None below (omega arith)

with_past : (number : ℕ) (f : ℕ → Option Parcel) (n d : ℕ) → n ≤ d → parcel_at (tile_with number f n) d ≡ None
with_past number f n d past =
    get_or_past (map f (range_with_len 0 n)) d None (let long = length-map-range_with_len f 0 n in omega (arith, long, past))

-- The push of a tile.
pub record HasPushed (w : Surroundings) (m : Tiling) (particles : List Particle) (t : ℕ) : Type 0 where
  pub tile : TileValue
  pub number : tile.number ≡ t
  pub pushed : IsPushed w m particles tile

abbrev parcel_of : (w : Surroundings) (m : Tiling) (particles : List Particle) → ℕ → Option Stop → ℕ → Parcel
parcel_of w m particles t stop d =
    record {
      dir = d;
      chain = going w m d particles;
      flux = over_zone (layers_from m.size (lowest_cell m t) d) (layers_size m.size d) (traces w particles);
      stop = if eqb d here then stop else None;
    }

pub tile_pushed : (w : Surroundings) (m : Tiling) (particles : List Particle) (t : ℕ) → HasPushed w m particles t
tile_pushed w m particles t =
    let halt = stop_there w particles in
    let f : ℕ → Option Parcel = λ d. Some (parcel_of w m particles t halt.stop d) in
    record {
      tile = tile_with t f directions;
      number = refl;
      pushed = record {
        sent = λ d below. record {
          parcel = parcel_of w m particles t halt.stop d;
          there = with_at t f directions d below;
          is = record {
            dir_is = refl;
            chain = same_refl (going w m d particles);
            flux = over_layers m t d (traces w particles);
            halt = λ same. subst (λ (s : Option Stop). IsStopOf w particles s)
                (sym (ap (λ (b : Bool). if b then halt.stop else None) (eq-eqb d here same))) halt.is;
            none = λ apart. ap (λ (b : Bool). if b then halt.stop else None) (ne_eqb d here apart);
          };
        };
      };
    }

-- The merge of a parcel into a tile: that of no step comes first.
pub record HasMergedOne (parcel : Parcel) (old : TileValue) : Type 0 where
  pub tile : TileValue
  pub merged : Merged parcel old tile

none_some : (o : Option Parcel) (p : Parcel) → o ≡ Some p → IsSome o
none_some o p is = subst (λ (x : Option Parcel). IsSome x) (sym is) refl

module _ (parcel : Parcel) (old : TileValue) where
  abbrev many : ℕ
  many = directions + length old.parcels

  -- the parcel of no step is put in its place
  abbrev first_of : ℕ → Option Parcel
  first_of d = if eqb d here then Some parcel else parcel_at old d

  -- or it gets what the parcel brings
  abbrev grown : Parcel
  grown = record {
    dir = here;
    chain = parcel.chain ++ chain_at old here;
    flux = filled (flux_at old here).low (flux_at old here).size
        (λ a p. inner_at (flux_at old here) a p
        +ℤ layer_of parcel.flux.size parcel.flux.values (layers_begin (flux_at old here).size parcel.dir) a p);
    stop = stop_at old here;
  }

  abbrev other_of : ℕ → Option Parcel
  other_of d = if eqb d here then Some grown else (if eqb d parcel.dir then Some (emptied (flux_at old here) parcel) else parcel_at old d)

  -- where a tile differs from the old one at few directions
  stays : (f : ℕ → Option Parcel) (d : ℕ) → f d ≡ parcel_at old d → parcel_at (tile_with old.number f many) d ≡ parcel_at old d
  stays f d same = elim (cases_lt d many) [
    | inl below ↦ with_at old.number f many d below ∙ same
    | inr past ↦ with_past old.number f many d past ∙ sym (get_or_past old.parcels d None (omega (arith, past)))
  ]

  first_merged : parcel.dir ≡ here → parcel_at old here ≡ None → HasMergedOne parcel old
  first_merged is none =
      let new : TileValue = tile_with old.number first_of many in
      let at : parcel_at new here ≡ Some parcel = with_at old.number first_of many here (omega arith)
      ∙ ap (λ (b : Bool). if b then Some parcel else parcel_at old here) (eq-eqb here here refl) in
      record {
        tile = new;
        merged = record {
          number = refl;
          there = none_some (parcel_at new here) parcel at;
          first = λ same. at;
          chain = same_is (chain_at new here) (parcel.chain ++ chain_at old here)
              (ap chain_of at ∙ sym (append-nil parcel.chain) ∙ ap (λ (xs : List Particle). parcel.chain ++ xs) (sym (ap chain_of none)));
          shape = λ apart. absurd (apart is);
          flux = λ apart. absurd (apart is);
          stop = λ apart. absurd (apart is);
          left = λ apart. absurd (apart is);
          others = λ d apart differs.
              stays first_of d (ap (λ (b : Bool). if b then Some parcel else parcel_at old d) (ne_eqb d here apart));
        };
      }

  other_merged : parcel.dir < directions → (parcel.dir ≡ here → ⊥) → HasMergedOne parcel old
  other_merged inside apart =
      let new : TileValue = tile_with old.number other_of many in
      let dir : ℕ = parcel.dir in
      let left : Option Parcel = Some (emptied (flux_at old here) parcel) in
      let at : parcel_at new here ≡ Some grown = with_at old.number other_of many here (omega arith)
      ∙ ap (λ (b : Bool). if b then Some grown else (if eqb here dir then left else parcel_at old here)) (eq-eqb here here refl) in
      let shaped : (d : ℕ) → (d ≡ here → ⊥) → other_of d ≡ (if eqb d dir then left else parcel_at old d) =
      λ d differs. ap (λ (b : Bool). if b then Some grown else (if eqb d dir then left else parcel_at old d)) (ne_eqb d here differs) in
      record {
        tile = new;
        merged = record {
          number = refl;
          there = none_some (parcel_at new here) grown at;
          first = λ same. absurd (apart same);
          chain = same_is (chain_at new here) (parcel.chain ++ chain_at old here) (ap chain_of at);
          shape = λ ok. record { low = sym (ap (λ (o : Option Parcel). (flux_of o).low) at); size = sym (ap (λ (o : Option Parcel). (flux_of o).size) at) };
          flux = λ ok. record {
            at = λ a p within. ap (λ (o : Option Parcel). inner_at (flux_of o) a p) at
                ∙ filled_at (flux_at old here).low (flux_at old here).size
                (λ a p. inner_at (flux_at old here) a p
                +ℤ layer_of parcel.flux.size parcel.flux.values (layers_begin (flux_at old here).size parcel.dir) a p) a p within;
          };
          stop = λ ok. ap stop_of_parcel at;
          left = λ ok. with_at old.number other_of many dir (omega (arith, inside)) ∙ shaped dir apart
              ∙ ap (λ (b : Bool). if b then left else parcel_at old dir) (eq-eqb dir dir refl);
          others = λ d first differs.
              stays other_of d (shaped d first ∙ ap (λ (b : Bool). if b then left else parcel_at old d) (ne_eqb d dir differs));
        };
      }

  pub tile_merged : parcel.dir < directions → (parcel.dir ≡ here → parcel_at old here ≡ None) → HasMergedOne parcel old
  tile_merged inside none = elim (ℕ_discrete parcel.dir here) [
    | yes is ↦ first_merged is (none is)
    | no apart ↦ other_merged inside apart
  ]
