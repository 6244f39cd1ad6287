-- Tiles that can be pushed: what a frame and the particles of an opening keep.
use Rattle.std.proofs.Common.{◌≡◌, ℕ, ◌<◌, ◌≤◌, Bool, true, false, nat_eq, cond, All, List, [], ◌∷◌}
use Rattle.std.proofs.Common.{length, filter, inl, inr, sym, ap, ◌∙◌, subst, arith, eq-eqb, ne_eqb}
use Rattle.std.proofs.Math.Decide.{ℕ_discrete}
use Rattle.std.proofs.lemmas.Bool.{cases_lt}
use Rattle.std.proofs.lemmas.List.{get_or_past}
use Rattle.std.proofs.lemmas.List.Elements.{All-nil, All-cons, All-head, All-tail, All-weaker}
use Rattle.pic_num.specs.declared.motion.Particle.{Particle}
use Rattle.pic_num.specs.Limits.{most_particles}
use Rattle.pic_num.specs.Space.{triple}
use Rattle.pic_block.specs.Cells.{Grid, count_of}
use Rattle.pic_grid.specs.Hat.{IsInBox}
use Rattle.pic_grid.specs.PushPhase.{CanShare}
use Rattle.pic_tile.specs.Same.{Same}
use Rattle.pic_tile.specs.StandFor.{owned}
use Rattle.pic_tile.proofs.DiscreteLaws.{particle_discrete, all_same}
use Rattle.pic_tile.proofs.SameLaws.{same_sym, same_length}
use Rattle.pic_tile.specs.CoreState.{IsOpening, IsSoundFrame, all_particles}
use Rattle.pic_tile.specs.Directions.{here}
use Rattle.pic_tile.specs.Frame.{FrameValue, felt_in}
use Rattle.pic_tile.specs.Owners.{tile_of}
use Rattle.pic_tile.specs.Pushed.{IsOfTile}
use Rattle.pic_tile.specs.Tile.{TileValue, chain_at, no_tile, tile_in}
use Rattle.pic_tile.specs.Tiling.{cells_of}

-- the particles of one tile, among all
owned_all : (f : FrameValue) (t : ℕ) (xs : List Particle) → All (CanShare f.map.side (cells_of f.map) f.kinds) xs
    → All (IsOfTile f.map f.kinds t) (owned (tile_of f.map) t xs)
unfolding owned
owned_all f t [] all = All-nil (IsOfTile f.map f.kinds t)
owned_all f t (x ∷ xs) all =
    let Can : Particle → Type 0 = λ y. CanShare f.map.side (cells_of f.map) f.kinds y in
    let Own : Particle → Type 0 = λ y. IsOfTile f.map f.kinds t y in
    let rest : All Own (filter (λ y. nat_eq (tile_of f.map y) t) xs) = owned_all f t xs (All-tail Can x xs all) in
    let can : Can x = All-head Can x xs all in
    elim (ℕ_discrete (tile_of f.map x) t) [
      | yes is ↦
          subst (λ (b : Bool). All Own (cond b (x ∷ filter (λ y. nat_eq (tile_of f.map y) t) xs) (filter (λ y. nat_eq (tile_of f.map y) t) xs)))
          (sym (eq-eqb (tile_of f.map x) t is))
          (All-cons Own x (filter (λ y. nat_eq (tile_of f.map y) t) xs) (record { can = can; tile_is = is }) rest)
      | no apart ↦
          subst (λ (b : Bool). All Own (cond b (x ∷ filter (λ y. nat_eq (tile_of f.map y) t) xs) (filter (λ y. nat_eq (tile_of f.map y) t) xs)))
          (sym (ne_eqb (tile_of f.map x) t apart)) rest
    ]

fewer : {X : Type 0} (p : X → Bool) (xs : List X) → length (filter p xs) ≤ length xs
fewer p [] = omega arith
fewer {X = X} p (x ∷ xs) = at (p x) (fewer p xs)
  where
    at : (b : Bool) → length (filter p xs) ≤ length xs → length (cond b (x ∷ filter p xs) (filter p xs)) ≤ length (x ∷ xs)
    at true h = omega (arith, h)
    at false h = omega (arith, h)

owned_few : (f : FrameValue) (t : ℕ) (xs : List Particle) → length (owned (tile_of f.map) t xs) ≤ length xs
unfolding owned
owned_few f t xs = fewer (λ x. nat_eq (tile_of f.map x) t) xs

module _ (f : FrameValue) (ts : List TileValue) (opens : IsOpening f ts) where
  chain_same : (t : ℕ) → t < count_of f.map.tiles → Same (chain_at (tile_in ts t) here) (owned (tile_of f.map) t (all_particles ts))
  chain_same t below =
      subst (λ (k : ℕ). Same (chain_at (tile_in ts t) here) (owned (tile_of f.map) k (all_particles ts))) (opens.fresh.numbers t below)
      (opens.fresh.stand t below)

  -- the particles of each tile are its own,
  pub opening_own : (t : ℕ) → t < count_of f.map.tiles → All (IsOfTile f.map f.kinds t) (chain_at (tile_in ts t) here)
  opening_own t below =
      let xs = all_particles ts in
      all_same particle_discrete (IsOfTile f.map f.kinds t) (owned (tile_of f.map) t xs) (chain_at (tile_in ts t) here)
      (same_sym (chain_at (tile_in ts t) here) (owned (tile_of f.map) t xs) (chain_same t below)) (owned_all f t xs opens.can)

  -- and not too many; a tile that isn't there has none
  pub opening_few : (t : ℕ) → length (chain_at (tile_in ts t) here) ≤ most_particles
  opening_few t = elim (cases_lt t (length ts)) [
    | inl inside ↦ (
        let below : t < count_of f.map.tiles = subst (λ (n : ℕ). t < n) opens.fresh.count inside in
        let long = same_length (chain_at (tile_in ts t) here) (owned (tile_of f.map) t (all_particles ts)) (chain_same t below) in
        let most = owned_few f t (all_particles ts) in
        let few = opens.few in
        omega (arith, long, most, few)
        )
    | inr past ↦
        subst (λ (u : TileValue). length (chain_at u here) ≤ most_particles) (sym (get_or_past ts t no_tile past)) (omega arith)
  ]

  -- they lie in the box
  pub opening_inside : All (λ x. IsInBox f.map.side (cells_of f.map) (triple x.x)) (all_particles ts)
  opening_inside =
      All-weaker (CanShare f.map.side (cells_of f.map) f.kinds) (λ x. IsInBox f.map.side (cells_of f.map) (triple x.x)) (λ x can. can.place)
      (all_particles ts) opens.can

-- what surrounds particles in a frame is over its map's grid
pub felt_side : (f : FrameValue) → IsSoundFrame f → (felt_in f).side ≡ f.map.side
felt_side f sound = sound.frame.e.side ∙ ap (λ (g : Grid). g.side) (sym sound.frame.map_is)

pub felt_cells : (f : FrameValue) → IsSoundFrame f → (felt_in f).cells ≡ cells_of f.map
felt_cells f sound = sound.frame.e.cells_are ∙ ap (λ (g : Grid). g.n) (sym sound.frame.map_is)
