-- The census: no event changes which identities there are.
use Rattle.std.proofs.Common.{◌≡◌, ℕ, ◌<◌, false, List, length, get_or, map, sum_by, IsPermutation, Some, None, refl, sym, ap, ◌∙◌, subst, arith}
use Rattle.std.specs.List.{range_with_len}
use Rattle.pic_num.specs.declared.motion.Particle.{Particle}
use Rattle.pic_tile.specs.Same.{Same}
use Rattle.pic_tile.proofs.SameLaws.{sum_by-map, permuted_same}
use Rattle.pic_tile.specs.declared.parcel.Parcel.{Parcel}
use Rattle.pic_tile.specs.CoreEvents.{CanClaim, CanPost, CanMerge, after_claim, after_post, after_merge}
use Rattle.pic_tile.specs.CoreState.{CoreState, HasCensus, HasPlaces, IsInPlace, IsOpening, tile_count, slot_of, mail_at, all_particles, first_particles, held}
use Rattle.pic_tile.specs.Directions.{directions}
use Rattle.pic_tile.specs.Frame.{felt_in}
use Rattle.pic_tile.specs.Pushed.{IsPushed}
use Rattle.pic_tile.specs.Receiving.{Merged}
use Rattle.pic_tile.specs.Tile.{TileValue, parcel_at, with_parcel, no_tile, tile_in}
use Rattle.pic_tile.specs.Tiling.{neighbour_of}
use Rattle.pic_tile.proofs.AllTilesLaws.{neighbour_below}
use Rattle.pic_push.proofs.IdentityLaws.{census_of, tile_weight, ready_weight, pushed_weight}
use Rattle.pic_core.proofs.SlotLaws.{slot_below, bounded}
use Rattle.pic_core.proofs.WeightLaws.{mail_weight, weight_is, taken_weight, merged_weight, changed_weight}

-- the same identities, by weights
pub kept_census : (s new : CoreState) → new.opening ≡ s.opening → ((v : ℕ → ℕ) → sum_by (λ x. v x.id) (held new) ≡ sum_by (λ x. v x.id) (held s))
    → HasCensus s → HasCensus new
kept_census s new opening weights h = record {
  rearranged =
      let n = length (all_particles s.opening) in
      let old = permuted_same (range_with_len 0 n) (map (λ x. x.id) (held s)) h.rearranged in
      let same : Same (map (λ x. x.id) (held new)) (range_with_len 0 n) = record {
        sums = λ v. sum_by-map v (λ (x : Particle). x.id) (held new) ∙ weights v ∙ sym (sum_by-map v (λ (x : Particle). x.id) (held s)) ∙ sym (old.sums v);
      } in
      subst (λ (ts : List TileValue). IsPermutation (range_with_len 0 (length (all_particles ts))) (map (λ x. x.id) (held new))) (sym opening)
      (census_of (held new) n same);
}

pub claim_census : (s : CoreState) (t : ℕ) (u : TileValue) → IsOpening s.frame s.opening → HasPlaces s → IsInPlace s → CanClaim s t
    → IsPushed (felt_in s.frame) s.frame.map (first_particles s t) u → HasCensus s → HasCensus (after_claim s t u)
claim_census s t u opens places place can pushed = kept_census s (after_claim s t u) refl (λ v.
    let by : Particle → ℕ = λ x. v x.id in
    let new = after_claim s t u in
    let inside : t < length s.tiles = subst (λ (n : ℕ). t < n) (sym places.tiles) can.tile in
    let changed = changed_weight (tile_weight by) s.tiles t u no_tile inside in
    let was : tile_in s.tiles t ≡ tile_in s.opening t = place.waits t can.tile can.free in
    let old : tile_weight by (tile_in s.tiles t) ≡ sum_by by (first_particles s t) =
    ap (tile_weight by) was ∙ ready_weight by (tile_in s.opening t) (opens.fresh.fresh t can.tile).ready.chains in
    let now = pushed_weight (felt_in s.frame) s.frame.map v (first_particles s t) u pushed in
    let one = weight_is by s in
    let other = weight_is by new in
    omega (arith, changed, old, now, one, other))

pub post_census : (s : CoreState) (t d : ℕ) → HasPlaces s → IsInPlace s → CanPost s t d → HasCensus s → HasCensus (after_post s t d)
post_census s t d places place can = kept_census s (after_post s t d) refl (λ v.
    let by : Particle → ℕ = λ x. v x.id in
    let new = after_post s t d in
    let to = neighbour_of s.frame.map.tiles t d in
    let to_in = neighbour_below s.frame.map.tiles t d can.tile in
    let slot = slot_of to d in
    let parcel = parcel_at (tile_in s.tiles t) d in
    let inside : t < length s.tiles = subst (λ (n : ℕ). t < n) (sym places.tiles) can.tile in
    let slot_in : slot < length s.mail = subst (λ (n : ℕ). slot < n) (sym places.mail) (slot_below to d (tile_count s) to_in can.dir) in
    let tiles = changed_weight (tile_weight by) s.tiles t (with_parcel (tile_in s.tiles t) d None) no_tile inside in
    let mail = changed_weight (mail_weight by) s.mail slot parcel None slot_in in
    let none : mail_weight by (mail_at s to d) ≡ 0 = ap (mail_weight by) (place.clear to d to_in can.dir can.free) in
    let taken = taken_weight by (tile_in s.tiles t) d can.dir in
    let one = weight_is by s in
    let other = weight_is by new in
    omega (arith, tiles, mail, none, taken, one, other))

pub merge_census : (s : CoreState) (r d : ℕ) (u : TileValue) (p : Parcel) → HasPlaces s → IsInPlace s → CanMerge s r d
    → mail_at s r d ≡ Some p → p.dir ≡ d → Merged p (tile_in s.received r) u → HasCensus s → HasCensus (after_merge s r d u)
merge_census s r d u p places place can there dir merged = kept_census s (after_merge s r d u) refl (λ v.
    let by : Particle → ℕ = λ x. v x.id in
    let new = after_merge s r d u in
    let slot = slot_of r d in
    let inside : r < length s.received = subst (λ (n : ℕ). r < n) (sym places.received) can.tile in
    let slot_in : slot < length s.mail = subst (λ (n : ℕ). slot < n) (sym places.mail) (slot_below r d (tile_count s) can.tile can.dir) in
    let received = changed_weight (tile_weight by) s.received r u no_tile inside in
    let mail = changed_weight (mail_weight by) s.mail slot None None slot_in in
    let weight : mail_weight by (mail_at s r d) ≡ sum_by by p.chain = ap (mail_weight by) there in
    let none : mail_weight by None ≡ 0 = refl in
    let off = bounded d (get_or s.merged slot false) can.dir ∙ can.free in
    let free : parcel_at (tile_in s.received r) p.dir ≡ None =
    subst (λ (k : ℕ). parcel_at (tile_in s.received r) k ≡ None) (sym dir) ((place.receives r can.tile).bare d can.dir off) in
    let more = merged_weight by p (tile_in s.received r) u (subst (λ (k : ℕ). k < directions) (sym dir) can.dir) free merged in
    let one = weight_is by s in
    let other = weight_is by new in
    omega (arith, received, mail, weight, none, more, one, other))
