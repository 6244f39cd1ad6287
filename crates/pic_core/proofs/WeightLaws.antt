-- What all tiles and parcels weigh together, by any weight of a particle: no event changes it.
use Rattle.std.proofs.Common.{◌≡◌, ℕ, ◌+◌, ◌<◌, List, [], ◌++◌, length, get_or}
use Rattle.std.proofs.Common.{flat_map, sum_by, slice_set, Option, None, refl, sym, ap, ◌∙◌, arith}
use Rattle.std.proofs.Math.Decide.{ℕ_discrete}
use Rattle.std.proofs.lemmas.List.{get_or-set_other}
use Rattle.std.proofs.lemmas.List.Sums.{sum_by-append, sum_by-set}
use Rattle.pic_num.specs.declared.motion.Particle.{Particle}
use Rattle.pic_tile.proofs.SumLaws.{total_changed}
use Rattle.pic_tile.specs.declared.parcel.Parcel.{Parcel}
use Rattle.pic_tile.specs.CoreState.{CoreState, held_in, held}
use Rattle.pic_tile.specs.Directions.{directions, here}
use Rattle.pic_tile.specs.Receiving.{Merged}
use Rattle.pic_tile.specs.Tile.{TileValue, parcel_at, with_parcel, chain_of, chain_at}
use Rattle.pic_tile.proofs.TileLaws.{none_left}
use Rattle.pic_push.proofs.IdentityLaws.{sum_by-flat, tile_weight, tile_weight_is}

-- the weight of a place for a parcel
abbrev pub mail_weight : (Particle → ℕ) → Option Parcel → ℕ
mail_weight v found = sum_by v (chain_of found)

-- the parts of the whole
pub weight_is : (v : Particle → ℕ) (s : CoreState)
    → sum_by v (held s) ≡ sum_by (tile_weight v) s.tiles + (sum_by (mail_weight v) s.mail + sum_by (tile_weight v) s.received)
unfolding held
weight_is v s =
    let tiles = sum_by-flat v held_in s.tiles in
    let mail = sum_by-flat v chain_of s.mail in
    let received = sum_by-flat v held_in s.received in
    let one = sum_by-append v (flat_map held_in s.tiles) (flat_map chain_of s.mail ++ flat_map held_in s.received) in
    let other = sum_by-append v (flat_map chain_of s.mail) (flat_map held_in s.received) in
    omega (arith, tiles, mail, received, one, other)

-- a post: a tile without a parcel
pub taken_weight : (v : Particle → ℕ) (t : TileValue) (d : ℕ) → d < directions
    → tile_weight v (with_parcel t d None) + sum_by v (chain_at t d) ≡ tile_weight v t
taken_weight v t d below =
    let left = with_parcel t d None in
    let f : ℕ → ℕ = λ e. sum_by v (chain_at t e) in
    let g : ℕ → ℕ = λ e. sum_by v (chain_at left e) in
    let changed = total_changed directions d f g below (λ e inside apart.
    ap (λ (found : Option Parcel). sum_by v (chain_of found)) (sym (get_or-set_other {A = Option Parcel} t.parcels d e None None apart))) in
    let none : g d ≡ 0 = ap (λ (found : Option Parcel). sum_by v (chain_of found)) (none_left t left d d refl refl) in
    let old = tile_weight_is v t in
    let new = tile_weight_is v left in
    omega (arith, changed, none, old, new)

-- a merge: a tile with the particles of a parcel more
pub merged_weight : (v : Particle → ℕ) (p : Parcel) (t u : TileValue) → p.dir < directions → parcel_at t p.dir ≡ None → Merged p t u
    → tile_weight v u ≡ tile_weight v t + sum_by v p.chain
merged_weight v p t u below free merged =
    let f : ℕ → ℕ = λ e. sum_by v (chain_at t e) in
    let g : ℕ → ℕ = λ e. sum_by v (chain_at u e) in
    let changed = total_changed directions here f g (omega arith) (λ e inside apart. still e apart) in
    let own = merged.chain.sums v in
    let both = sum_by-append v p.chain (chain_at t here) in
    let old = tile_weight_is v t in
    let new = tile_weight_is v u in
    omega (arith, changed, own, both, old, new)
  where
    still : (e : ℕ) → (e ≡ here → ⊥) → sum_by v (chain_at t e) ≡ sum_by v (chain_at u e)
    still e apart = elim (ℕ_discrete e p.dir) [
      | yes same ↦ (
          let other : p.dir ≡ here → ⊥ = λ i. apart (same ∙ i) in
          let before : chain_at t p.dir ≡ [] = ap chain_of free in
          let now : chain_at u p.dir ≡ [] = ap chain_of (merged.left other) in
          ap (λ (k : ℕ). sum_by v (chain_at t k)) same ∙ ap (sum_by v) (before ∙ sym now) ∙ ap (λ (k : ℕ). sum_by v (chain_at u k)) (sym same)
          )
      | no off ↦ ap (λ (found : Option Parcel). sum_by v (chain_of found)) (sym (merged.others e apart off))
    ]

-- a list of tiles or places of which one is changed
pub changed_weight : {X : Type 0} (f : X → ℕ) (xs : List X) (i : ℕ) (y d : X) → i < length xs
    → sum_by f (slice_set xs i y) + f (get_or xs i d) ≡ sum_by f xs + f y
changed_weight f xs i y d below = sum_by-set f xs i y d below
