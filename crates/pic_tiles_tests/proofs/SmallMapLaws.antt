-- Small maps of tiles with few particles.
use Rattle.std.proofs.Common.{◌≡◌, ℕ, ◌<◌, ◌≤◌, Bool, true, false, cond, List, [], ◌∷◌, length, filter, refl, arith, eqb-true}
use Rattle.std.specs.Prelude.{All, nat_eq}
use Rattle.std.proofs.lemmas.List.Elements.{All-nil, All-cons, All-head, All-tail, All-weaker}
use Rattle.std.proofs.lemmas.List.Sums.{length-filter, count_by-le-length}
use Rattle.pic_num.specs.declared.motion.Kind.{Kind}
use Rattle.pic_num.specs.declared.motion.Particle.{Particle}
use Rattle.pic_num.specs.Limits.{most_particles}
use Rattle.pic_num.specs.Space.{Triple, triple}
use Rattle.pic_block.specs.Cells.{count_of}
use Rattle.pic_grid.specs.Hat.{IsInBox}
use Rattle.pic_grid.specs.PushPhase.{CanShare}
use Rattle.pic_grid.specs.Species.{IsKind}
use Rattle.pic_tile.specs.StandFor.{owned}
use Rattle.pic_tile.proofs.DiscreteLaws.{particle_discrete, all_same}
use Rattle.pic_tile.proofs.SameLaws.{same_sym, same_length}
use Rattle.pic_tile.specs.Directions.{here}
use Rattle.pic_tile.specs.Frame.{AreKinds}
use Rattle.pic_tile.specs.Owners.{tile_of}
use Rattle.pic_tile.specs.Parcels.{AreFreshTiles}
use Rattle.pic_tile.specs.Pushed.{IsOfTile}
use Rattle.pic_tile.specs.Tile.{TileValue, tile_in, chain_at}
use Rattle.pic_tile.specs.Tiling.{Tiling, cells_of}

-- one species
pub one_kind : (k : Kind) → IsKind k → AreKinds (k ∷ [])
one_kind k h = record { few = omega arith; limits = All-cons IsKind k [] h (All-nil IsKind) }

-- one particle, and three
pub can_one : (side : ℕ) (n : Triple) (kinds : List Kind) (x : Particle) → CanShare side n kinds x → All (CanShare side n kinds) (x ∷ [])
can_one side n kinds x h = All-cons (CanShare side n kinds) x [] h (All-nil (CanShare side n kinds))

pub can_three : (side : ℕ) (n : Triple) (kinds : List Kind) (x y z : Particle) → CanShare side n kinds x → CanShare side n kinds y
    → CanShare side n kinds z → All (CanShare side n kinds) (x ∷ y ∷ z ∷ [])
can_three side n kinds x y z a b c = let Can = CanShare side n kinds in
    All-cons Can x (y ∷ z ∷ []) a (All-cons Can y (z ∷ []) b (All-cons Can z [] c (All-nil Can)))

-- all are in the box
pub all_inside : (m : Tiling) (kinds : List Kind) (xs : List Particle) → All (CanShare m.side (cells_of m) kinds) xs
    → All (λ p. IsInBox m.side (cells_of m) (triple p.x)) xs
all_inside m kinds xs can = All-weaker (CanShare m.side (cells_of m) kinds) (λ p. IsInBox m.side (cells_of m) (triple p.x)) (λ p h. h.place) xs can

-- those of a tile are its own
owned_all : (m : Tiling) (kinds kinds' : List Kind) (t : ℕ) → length kinds' ≡ length kinds → (xs : List Particle)
    → All (CanShare m.side (cells_of m) kinds) xs → All (IsOfTile m kinds' t) (owned (tile_of m) t xs)
unfolding owned
owned_all m kinds kinds' t same [] all = All-nil (IsOfTile m kinds' t)
owned_all m kinds kinds' t same (x ∷ xs) all =
    go (nat_eq (tile_of m x) t) refl (owned_all m kinds kinds' t same xs (All-tail (CanShare m.side (cells_of m) kinds) x xs all))
  where
    rest : List Particle
    rest = filter (λ y. nat_eq (tile_of m y) t) xs

    go : (b : Bool) → nat_eq (tile_of m x) t ≡ b → All (IsOfTile m kinds' t) rest → All (IsOfTile m kinds' t) (cond b (x ∷ rest) rest)
    go true is others =
        let can = All-head (CanShare m.side (cells_of m) kinds) x xs all in
        let species = can.species in
        All-cons (IsOfTile m kinds' t) x rest
        (record { can = record { species = omega (arith, species, same); place = can.place }; tile_is = eqb-true (tile_of m x) t is }) others
    go false is others = others

pub record CanBe (m : Tiling) (kinds : List Kind) (t : TileValue) : Type 0 where
  pub few : length (chain_at t here) ≤ most_particles
  pub own : All (IsOfTile m kinds t.number) (chain_at t here)

-- so a tile of a map can be pushed
pub can_be : (m : Tiling) (kinds kinds' : List Kind) (xs : List Particle) (ts : List TileValue) → AreFreshTiles m xs ts → 0 < count_of m.tiles
    → length kinds' ≡ length kinds → All (CanShare m.side (cells_of m) kinds) xs → length xs ≤ most_particles → CanBe m kinds' (tile_in ts 0)
unfolding owned
can_be m kinds kinds' xs ts fresh some same can few =
    let t = tile_in ts 0 in
    let stand = fresh.stand 0 some in
    let mine = owned (tile_of m) t.number xs in
    let its = owned_all m kinds kinds' t.number same xs can in
    let long = same_length (chain_at t here) mine stand in
    let most : length mine ≤ length xs =
    omega (arith, length-filter (λ x. nat_eq (tile_of m x) t.number) xs, count_by-le-length (λ x. nat_eq (tile_of m x) t.number) xs) in
    record {
      few = omega (arith, long, most, few);
      own = all_same particle_discrete (IsOfTile m kinds' t.number) mine (chain_at t here) (same_sym (chain_at t here) mine stand) its;
    }
