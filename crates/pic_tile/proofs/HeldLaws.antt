-- What all tiles have together: the list that is cut into them, and what arrives at each after a push.
use Rattle.std.proofs.Common.{◌≡◌, ℕ, ◌<◌, Bool, cond, nat_eq, All, List, [], length, map, filter, get_or}
use Rattle.std.proofs.Common.{sum_by, IsPermutation, ◌-◌, eq-eqb, ne_eqb, sym, ◌∙◌, ap, subst, arith}
use Rattle.std.proofs.Math.Decide.{ℕ_discrete}
use Rattle.std.specs.List.{range_with_len}
use Rattle.std.proofs.lemmas.List.{get_or-map, length-map}
use Rattle.std.proofs.lemmas.List.Elements.{All-weaker}
use Rattle.pic_num.specs.declared.motion.Particle.{Particle}
use Rattle.pic_num.specs.Space.{Triple, triple}
use Rattle.pic_block.specs.Cells.{count_of}
use Rattle.pic_grid.specs.Hat.{IsInBox, HasTwo}
use Rattle.pic_grid.specs.PushPhase.{Surroundings}
use Rattle.pic_tile.specs.Same.{Same}
use Rattle.pic_tile.specs.StandFor.{owned, StandFor}
use Rattle.pic_tile.specs.Totals.{total_below, together}
use Rattle.pic_tile.proofs.InOrderLaws.{same_census, census_rearranged}
use Rattle.pic_tile.proofs.SameLaws.{sum_by-map, sum_by-filter, same_length, same_sym}
use Rattle.pic_tile.proofs.StandForLaws.{Goes, regroup_total, stands_together}
use Rattle.pic_tile.proofs.SumLaws.{total_same}
use Rattle.pic_tile.specs.Directions.{directions, here, opposite}
use Rattle.pic_tile.specs.Held.{chains_of, HoldTheList}
use Rattle.pic_tile.specs.Layers.{sender_of}
use Rattle.pic_tile.specs.LayerSum.{AreSharedOut}
use Rattle.pic_tile.specs.Leaving.{way, after_its_push, going}
use Rattle.pic_tile.specs.Owners.{tile_of}
use Rattle.pic_tile.specs.Parcels.{AreFreshTiles}
use Rattle.pic_tile.specs.Tile.{TileValue, chain_at, no_tile, tile_in}
use Rattle.pic_tile.specs.Tiling.{Tiling, cells_of, neighbour_of}
use Rattle.pic_tile.proofs.AllTilesLaws.{sender_below}
use Rattle.pic_tile.proofs.LeavingLaws.{tile_below, way_below}
use Rattle.pic_tile.proofs.TilingLaws.{neighbour_back}

-- the chain of a tile among all
pub chain_in : (tiles : List TileValue) (i : ℕ) → i < length tiles → get_or (chains_of tiles) i [] ≡ chain_at (tile_in tiles i) here
chain_in tiles i below = get_or-map (λ (t : TileValue). chain_at t here) tiles i no_tile [] below

-- the chains of fresh tiles stand for the list
pub fresh_stand : (m : Tiling) (xs : List Particle) (ts : List TileValue) → 0 < m.side → HasTwo m.size → All (λ x. IsInBox m.side (cells_of m) (triple x.x)) xs
    → AreFreshTiles m xs ts → StandFor (tile_of m) (chains_of ts) xs
fresh_stand m xs ts some thick inside h =
    let long : length (chains_of ts) ≡ count_of m.tiles = length-map ts (λ (t : TileValue). chain_at t here) ∙ h.count in
    record {
      owners = All-weaker (λ x. IsInBox m.side (cells_of m) (triple x.x)) (λ x. tile_of m x < length (chains_of ts))
          (λ x one. subst (λ (n : ℕ). tile_of m x < n) (sym long) (tile_below m x some thick one)) xs inside;
      each = λ t within.
          let below : t < count_of m.tiles = subst (λ (n : ℕ). t < n) long within in
          subst (λ (c : List Particle). Same c (owned (tile_of m) t xs)) (sym (chain_in ts t (subst (λ (n : ℕ). t < n) (sym h.count) below)))
          (subst (λ (k : ℕ). Same (chain_at (tile_in ts t) here) (owned (tile_of m) k xs)) (h.numbers t below) (h.stand t below));
    }

-- so they have its particles
pub fresh_hold : (m : Tiling) (xs : List Particle) (ts : List TileValue) → 0 < m.side → HasTwo m.size → All (λ x. IsInBox m.side (cells_of m) (triple x.x)) xs
    → AreFreshTiles m xs ts → HoldTheList xs ts
fresh_hold m xs ts some thick inside h =
    let all = together (chains_of ts) in
    let same : Same all xs = stands_together (tile_of m) (chains_of ts) xs (fresh_stand m xs ts some thick inside h) in
    record {
      same = same;
      census = λ census.
          let one = (census_rearranged all).0 (same_census xs all (same_sym all xs same) census) in
          subst (λ (n : ℕ). IsPermutation (range_with_len 0 n) (map (λ x. x.id) all)) (same_length all xs same) one;
    }

-- What arrives.

-- the direction forth after the direction back
pub neighbour_forth : (n : Triple) (t d : ℕ) → t < count_of n → d < directions → neighbour_of n (neighbour_of n t (opposite d)) d ≡ t
neighbour_forth n t d below within =
    let turned : 26 - (26 - d) ≡ d = omega arith in
    subst (λ (e : ℕ). neighbour_of n (neighbour_of n t (opposite d)) e ≡ t) turned (neighbour_back n t (opposite d) below (omega arith))

same_tests : (a b c d : ℕ) → (a ≡ b → c ≡ d) → (c ≡ d → a ≡ b) → nat_eq a b ≡ nat_eq c d
same_tests a b c d to from = elim (ℕ_discrete a b) [
  | yes e ↦ eq-eqb a b e ∙ sym (eq-eqb c d (to e))
  | no apart ↦ ne_eqb a b apart ∙ sym (ne_eqb c d (λ e. apart (from e)))
]

-- the direction in which a push leads a particle leads to the tile of its new place
abbrev pub Leads : Surroundings → Tiling → Particle → Type 0
Leads w m x = tile_of m (after_its_push w x) ≡ neighbour_of m.tiles (tile_of m x) (way w m x)

-- a particle goes to a tile exactly where its own is the sender by its way
goes_to : (w : Surroundings) (m : Tiling) (r : ℕ) (x : Particle) → r < count_of m.tiles → tile_of m x < count_of m.tiles → Leads w m x
    → Goes directions (tile_of m) (way w m) (λ d. sender_of m d r) (λ y. nat_eq (tile_of m (after_its_push w y)) r) x
goes_to w m r x below own leads =
    let t = tile_of m x in
    let d = way w m x in
    let d_in = way_below w m x in
    let back = neighbour_back m.tiles t d own d_in in
    let forth = neighbour_forth m.tiles r d below d_in in
    record {
      way_below = d_in;
      goes_is = same_tests (tile_of m (after_its_push w x)) r t (sender_of m d r)
          (λ e. sym back ∙ ap (λ (s : ℕ). neighbour_of m.tiles s (opposite d)) (sym leads ∙ e))
          (λ e. leads ∙ ap (λ (s : ℕ). neighbour_of m.tiles s d) e ∙ forth);
    }

-- what all tiles send to one is, by any weight, what the list has there after the push
pub arrive : (w : Surroundings) (m : Tiling) (start : ℕ → List Particle) (xs : List Particle) (r : ℕ) (v : Particle → ℕ) → r < count_of m.tiles
    → AreSharedOut m start xs → All (λ x. tile_of m x < count_of m.tiles) xs → All (Leads w m) xs
    → total_below directions (λ d. sum_by v (going w m d (start (sender_of m d r)))) ≡ sum_by v (owned (tile_of m) r (map (after_its_push w) xs))
unfolding going owned
arrive w m start xs r v below shared own leads =
    let sent : (d : ℕ) → d < directions
    → sum_by v (going w m d (start (sender_of m d r))) ≡ sum_by (λ x. cond (nat_eq (way w m x) d) (v (after_its_push w x)) 0) (owned (tile_of m)
    (sender_of m d r) xs) =
    λ d within.
    let s = sender_of m d r in
    let by_way : Particle → Bool = λ x. nat_eq (way w m x) d in
    sum_by-map v (after_its_push w) (filter by_way (start s))
    ∙ sum_by-filter (λ x. v (after_its_push w x)) by_way (start s)
    ∙ (shared s (sender_below m d r below)).sums (λ x. cond (by_way x) (v (after_its_push w x)) 0) in
    let all : All (Goes directions (tile_of m) (way w m) (λ d. sender_of m d r) (λ y. nat_eq (tile_of m (after_its_push w y)) r)) xs =
    λ k d within. goes_to w m r (get_or xs k d) below (own k d within) (leads k d within) in
    total_same directions (λ d. sum_by v (going w m d (start (sender_of m d r))))
    (λ d. sum_by (λ x. cond (nat_eq (way w m x) d) (v (after_its_push w x)) 0) (owned (tile_of m) (sender_of m d r) xs)) sent
    ∙ regroup_total directions (tile_of m) (way w m) (λ d. sender_of m d r) (λ y. nat_eq (tile_of m (after_its_push w y)) r) xs (λ x. v
    (after_its_push w x)) all
    ∙ sym (sum_by-map (λ y. cond (nat_eq (tile_of m y) r) (v y) 0) (after_its_push w) xs)
    ∙ sym (sum_by-filter v (λ y. nat_eq (tile_of m y) r) (map (after_its_push w) xs))
