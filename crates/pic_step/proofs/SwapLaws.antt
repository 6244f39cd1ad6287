-- The flux of tiles changes places with other blocks: what it is then, and what the tiles are once it is
-- spent and back.
use Rattle.std.proofs.Common.{◌≡◌, ℕ, ℤ, pos, ◌+◌, ◌<◌, ◌≤◌, List, length, set, Option, None, IsSome}
use Rattle.std.proofs.Common.{refl, sym, ap, ◌∙◌, subst, arith, get_or-set_same, get_or-set_other}
use Rattle.std.proofs.Math.Decide.{ℕ_discrete}
use Rattle.std.proofs.Math.Nat.{mul-div_cancel_left}
use Rattle.std.proofs.lemmas.List.{length-set}
use Rattle.pic_num.specs.declared.axis.Axis.{Axis}
use Rattle.pic_block.specs.Block.{BlockValues, InZone, inner_of, edge_at, outer_of, no_block}
use Rattle.pic_block.specs.Cells.{IsWithin, count_of, index_of, cell_of}
use Rattle.pic_block.proofs.BlockLaws.{inner_within}
use Rattle.pic_grid.specs.Traces.{most_flux}
use Rattle.pic_num.specs.Sizes.{IsAtMost}
use Rattle.pic_num.specs.Space.{Triple, Spot, unwrapped}
use Rattle.pic_grid.specs.Lattice.{Field, EachAtMost, value_at, field_of}
use Rattle.pic_grid.specs.Parts.{part_size, part_with, corner_of, ArePartsOf, joined}
use Rattle.pic_grid.proofs.LatticeLaws.{value_at-field_of}
use Rattle.pic_grid.proofs.PartLaws.{value_at-joined}
use Rattle.pic_tile.specs.declared.parcel.Parcel.{Parcel}
use Rattle.pic_tile.specs.Directions.{directions, here}
use Rattle.pic_tile.specs.Layers.{lowest_cell, IsLayers}
use Rattle.pic_tile.specs.Parcels.{no_flux, IsReady, IsFresh}
use Rattle.pic_tile.specs.Tile.{TileValue, parcel_at, chain_of, flux_of, stop_of_parcel, chain_at, flux_at, stop_at, no_tile, tile_in}
use Rattle.pic_tile.specs.Tiling.{Tiling, IsMap, IsInTile, cells_of, owner_of}
use Rattle.pic_tile.proofs.ReceivingLaws.{some_there}
use Rattle.pic_tile.proofs.TilingLaws.{owner_below, owner_has}
use Rattle.pic_advance.specs.Blocks.{block_in}
use Rattle.pic_advance.proofs.TakenLaws.{HasBlocks, taken_among, taken_value}
use Rattle.pic_advance.proofs.ZoneLaws.{outer_within}
use Rattle.pic_step.specs.TileFlux.{HaveReceived, IsLent, IsSwapped, AreSwapped, AreSpent, flux_in}

-- the tiles before i have swapped, and the others and their blocks are as they were
pub record AreSwapping (start now : List TileValue) (bs cs : List BlockValues) (i : ℕ) : Type 0 where
  pub long : length now ≡ length start
  pub beside : length cs ≡ length bs
  pub rest : (j : ℕ) → i ≤ j → tile_in now j ≡ tile_in start j
  pub beside_rest : (j : ℕ) → i ≤ j → block_in cs j ≡ block_in bs j
  pub done : (j : ℕ) → j < i → IsSwapped (tile_in start j) (tile_in now j) (block_in bs j) (block_in cs j)

pub swapping_none : (tiles : List TileValue) (bs : List BlockValues) → AreSwapping tiles tiles bs bs 0
swapping_none tiles bs = record {
  long = refl;
  beside = refl;
  rest = λ j from. refl;
  beside_rest = λ j from. refl;
  done = λ j before. absurd (omega (arith, before));
}

moved : (t t' u u' : TileValue) (b b' c c' : BlockValues) → t ≡ t' → u ≡ u' → b ≡ b' → c ≡ c' → IsSwapped t u b c → IsSwapped t' u' b' c'
moved t t' u u' b b' c c' p q r s one =
    subst (λ (y : BlockValues). IsSwapped t' u' b' y) s
    (subst (λ (y : BlockValues). IsSwapped t' u' y c) r
    (subst (λ (x : TileValue). IsSwapped t' x b c) q
    (subst (λ (x : TileValue). IsSwapped x u b c) p one)))

pub swapping_more : (start now : List TileValue) (bs cs : List BlockValues) (i : ℕ) (t u : TileValue) (b c : BlockValues)
    → length bs ≡ length start → AreSwapping start now bs cs i → i < length start → t ≡ tile_in now i → b ≡ block_in cs i → IsSwapped t u b c
    → AreSwapping start (set now i u) bs (set cs i c) (i + 1)
swapping_more start now bs cs i t u b c same s below t_is b_is one =
    let t_was : t ≡ tile_in start i = t_is ∙ s.rest i (omega arith) in
    let b_was : b ≡ block_in bs i = b_is ∙ s.beside_rest i (omega arith) in
    let inside : i < length now = omega (arith, below, s.long) in
    let beside_inside : i < length cs = omega (arith, below, s.beside, same) in
    record {
      long = length-set now i u ∙ s.long;
      beside = length-set cs i c ∙ s.beside;
      rest = λ m from. get_or-set_other now i m u no_tile (λ e. absurd (omega (arith, e, from))) ∙ s.rest m (omega (arith, from));
      beside_rest = λ m from. get_or-set_other cs i m c no_block (λ e. absurd (omega (arith, e, from))) ∙ s.beside_rest m (omega (arith, from));
      done = λ m before. elim (ℕ_discrete m i) [
        | yes at ↦ moved _ _ _ _ _ _ _ _ (t_was ∙ ap (tile_in start) (sym at))
            (sym (ap (tile_in (set now i u)) at ∙ get_or-set_same now i u no_tile inside)) (b_was ∙ ap (block_in bs) (sym at))
            (sym (ap (block_in (set cs i c)) at ∙ get_or-set_same cs i c no_block beside_inside)) one
        | no apart ↦ moved _ _ _ _ _ _ _ _ refl (sym (get_or-set_other now i m u no_tile apart)) refl
            (sym (get_or-set_other cs i m c no_block apart)) (s.done m (let less : m < i = omega (arith, apart, before) in less))
      ];
    }

-- the parts of a map's cells, one for each tile, are the tiles
pub tile_size : (m : Tiling) → IsMap m → part_size (cells_of m) m.tiles ≡ m.size
tile_size m map =
    let x = mul-div_cancel_left m.size.x (let h = map.tiles.x_least in let k : 0 < m.tiles.x = omega (arith, h) in k) in
    let y = mul-div_cancel_left m.size.y (let h = map.tiles.y_least in let k : 0 < m.tiles.y = omega (arith, h) in k) in
    let z = mul-div_cancel_left m.size.z (let h = map.tiles.z_least in let k : 0 < m.tiles.z = omega (arith, h) in k) in
    λ i. record { x = x i; y = y i; z = z i }

-- tiles that have received all, and the blocks that stand for their flux
module _ (m : Tiling) (ts us : List TileValue) (bs js : List BlockValues) (map : IsMap m) (had : HaveReceived m ts) (swapped : AreSwapped ts us bs js)
    (enough : length bs ≡ count_of m.tiles)
  where
    in_list : (r : ℕ) → r < count_of m.tiles → r < length ts
    in_list r below = let count = had.numbered.count in omega (arith, below, count)

    -- have the zones of the parts of a lattice, one for each tile,
    pub flux_zones : ArePartsOf (cells_of m) m.tiles js
    flux_zones = record {
      count = swapped.beside ∙ enough;
      zones = λ i below.
          let is = (swapped.each i (in_list i below)).block in
          let ready = had.ready i below in
          record {
            low = ap (λ (b : BlockValues). b.low) is ∙ ready.low ∙ ap (lowest_cell m) (had.numbered.numbers i below)
                ∙ (λ l. corner_of (sym (tile_size m map) l) (cell_of m.tiles i));
            size = ap (λ (b : BlockValues). b.size) is ∙ ready.size ∙ sym (tile_size m map);
          };
    }

    module _ (side : ℕ)
      where
        -- whose values are the flux of the tiles,
        pub flux_is : (a : Axis) (p : Triple) → IsWithin p (cells_of m)
            → value_at (joined (record { n = cells_of m; side = side }) m.tiles js) a p ≡ flux_in m ts a p
        flux_is a p within =
            let below = owner_below m p map.thick within in
            value_at-joined (record { n = cells_of m; side = side }) m.tiles js a p within
            ∙ ap (λ (s : Triple). edge_at (block_in js (index_of m.tiles (part_with s p))) a (unwrapped p)) (tile_size m map)
            ∙ ap (λ (b : BlockValues). edge_at b a (unwrapped p)) (swapped.each (owner_of m p) (in_list (owner_of m p) below)).block

        -- within the limits
        pub flux_small : EachAtMost most_flux (joined (record { n = cells_of m; side = side }) m.tiles js)
        flux_small = record {
          at_most = λ a p within.
              let r = owner_of m p in
              let below = owner_below m p map.thick within in
              let inside : IsInTile m r p = owner_has m p map within in
              let ready = had.ready r below in
              let low : (flux_at (tile_in ts r) here).low ≡ lowest_cell m r = ready.low ∙ ap (lowest_cell m) (had.numbered.numbers r below) in
              subst (λ (v : ℤ). IsAtMost v most_flux) (sym (flux_is a p within))
              ((had.small r below).at_most a (unwrapped p)
              (subst (λ (n : Triple). InZone (flux_at (tile_in ts r) here).low n (unwrapped p)) (sym ready.size)
              (subst (λ (l : Spot). InZone l m.size (unwrapped p)) (sym low) inside)));
        }

-- tiles that have swapped have their parcels of no step still
pub still_there : (t u : TileValue) (b c : BlockValues) → IsSome (parcel_at t here) → IsSwapped t u b c → IsSome (parcel_at u here)
still_there t u b c there one =
    let own = some_there (parcel_at t here) there in
    subst (λ (o : Option Parcel). IsSome o) (sym (one.tile.lent own.0 own.1).there) refl

-- a tile whose flux is swapped twice has the second block, and no stop
lent_again : (t u v : TileValue) (b k : BlockValues) → IsSome (parcel_at t here) → IsLent t u b → IsLent u v k → IsLent t v k
lent_again t u v b k there one two =
    let own = some_there (parcel_at t here) there in
    record {
      lent = λ p is.
          let first = one.lent p is in
          let second = two.lent (record p { flux = b; stop = None }) first.there in
          record {
            there = second.there;
            others = λ e apart. second.others e apart ∙ first.others e apart;
            number = second.number ∙ first.number;
          };
    }

-- with a block of zeros over its cells it is ready for its next push,
fresh_again : (m : Tiling) (t u : TileValue) (k : BlockValues) → IsReady m t
    → ((d : ℕ) → d < directions → (d ≡ here → ⊥) → stop_at t d ≡ None) → IsLent t u k → k.low ≡ lowest_cell m t.number → k.size ≡ m.size
    → ((a : Axis) (c : Spot) → InZone k.low k.size c → edge_at k a c ≡ pos 0) → IsFresh m u
fresh_again m t u k ready quiet lent low size zeros =
    let own = some_there (parcel_at t here) (ready.whole here (omega arith)) in
    let r = lent.lent own.0 own.1 in
    let flux : flux_at u here ≡ k = ap flux_of r.there in
    let u_low = ap (λ (b : BlockValues). b.low) flux ∙ low ∙ ap (lowest_cell m) (sym r.number) in
    let u_size = ap (λ (b : BlockValues). b.size) flux ∙ size in
    record {
      ready = record {
        whole = λ d below. elim (ℕ_discrete d here) [
          | yes same ↦ subst (λ (n : ℕ). IsSome (parcel_at u n)) (sym same) (subst (λ (o : Option Parcel). IsSome o) (sym r.there) refl)
          | no apart ↦ subst (λ (o : Option Parcel). IsSome o) (sym (r.others d apart)) (ready.whole d below)
        ];
        low = u_low;
        size = u_size;
        chains = λ d below apart. ap chain_of (r.others d apart) ∙ ready.chains d below apart;
        empty = λ d below apart. subst (λ (n : ℕ). IsLayers m n d no_flux (flux_at u d)) (sym r.number)
            (subst (λ (o : Option Parcel). IsLayers m t.number d no_flux (flux_of o)) (sym (r.others d apart)) (ready.empty d below apart));
      };
      empty = record {
        low = u_low;
        size = u_size;
        values = λ a c inside.
            ap (λ (b : BlockValues). edge_at b a c) flux ∙ zeros a c (subst (λ (b : BlockValues). InZone b.low b.size c) flux inside);
      };
      quiet = λ d below. elim (ℕ_discrete d here) [
        | yes same ↦ ap (stop_at u) same ∙ ap stop_of_parcel r.there
        | no apart ↦ ap stop_of_parcel (r.others d apart) ∙ quiet d below apart
      ];
    }

-- and has its particles as before
chain_again : (t u : TileValue) (k : BlockValues) → IsSome (parcel_at t here) → IsLent t u k → chain_at u here ≡ chain_at t here
chain_again t u k there lent =
    let own = some_there (parcel_at t here) there in
    ap chain_of (lent.lent own.0 own.1).there ∙ sym (ap chain_of own.1)

-- the blocks of a lattice of zeros are zeros
zeros_there : (n : Triple) (f : Field) (ks : List BlockValues) (side : ℕ) (parts : Triple) → HasBlocks n f ks → f ≡ field_of side n parts (λ a p. pos 0)
    → (i : ℕ) → i < length ks → (a : Axis) (c : Spot) → InZone (block_in ks i).low (block_in ks i).size c → edge_at (block_in ks i) a c ≡ pos 0
zeros_there n f ks side parts h is i below a c inside =
    let b = block_in ks i in
    let p = inner_of b.low c in
    let w = inner_within b.low b.size c inside in
    sym (taken_value n f ks h i a p below w)
    ∙ ap (λ (g : Field). value_at g a (outer_of b.low p)) is
    ∙ value_at-field_of side n parts (λ e q. pos 0) a (outer_of b.low p) (outer_within b.low b.size n p (taken_among n f ks h i below) w)

-- so tiles whose flux is spent and back are ready for the next push
pub swapped_back : (m : Tiling) (ts us vs : List TileValue) (bs js ks ds : List BlockValues) (f : Field) (side : ℕ) → IsMap m → HaveReceived m ts
    → AreSwapped ts us bs js → AreSwapped us vs ks ds → HasBlocks (cells_of m) f ks → f ≡ field_of side (cells_of m) m.tiles (λ a p. pos 0) → AreSpent m ts vs
swapped_back m ts us vs bs js ks ds f side map had one two h is = record {
  numbered = record {
    count = two.long ∙ one.long ∙ had.numbered.count;
    numbers = λ r below. number r below ∙ had.numbered.numbers r below;
  };
  fresh = λ r below.
      let zone = h.zones.zones r (subst (λ (n : ℕ). r < n) (sym (ap count_of parts)) below) in
      let size : part_size (cells_of m) f.parts ≡ m.size = (λ l. part_size (cells_of m) (parts l)) ∙ tile_size m map in
      fresh_again m (tile_in ts r) (tile_in vs r) (block_in ks r) (had.ready r below) (λ d. had.quiet r d below) (lent r below)
      (zone.low ∙ (λ l. corner_of (size l) (cell_of (parts l) r)) ∙ ap (lowest_cell m) (sym (had.numbered.numbers r below)))
      (zone.size ∙ size)
      (zeros_there (cells_of m) f ks side m.tiles h is r (in_blocks r below));
  chains = λ r below. chain_again (tile_in ts r) (tile_in vs r) (block_in ks r) (there r below) (lent r below);
}
  where
    parts : f.parts ≡ m.tiles
    parts = ap (λ (g : Field). g.parts) is

    there : (r : ℕ) → r < count_of m.tiles → IsSome (parcel_at (tile_in ts r) here)
    there r below = (had.ready r below).whole here (omega arith)

    in_blocks : (r : ℕ) → r < count_of m.tiles → r < length ks
    in_blocks r below =
        let count : length ks ≡ count_of m.tiles = h.zones.count ∙ ap count_of parts in
        omega (arith, below, count)

    lent : (r : ℕ) → r < count_of m.tiles → IsLent (tile_in ts r) (tile_in vs r) (block_in ks r)
    lent r below =
        let count = had.numbered.count in
        lent_again (tile_in ts r) (tile_in us r) (tile_in vs r) (block_in bs r) (block_in ks r) (there r below)
        (one.each r (omega (arith, below, count))).tile (two.each r (omega (arith, below, count, one.long))).tile

    number : (r : ℕ) → r < count_of m.tiles → (tile_in vs r).number ≡ (tile_in ts r).number
    number r below =
        let own = some_there (parcel_at (tile_in ts r) here) (there r below) in
        ((lent r below).lent own.0 own.1).number
