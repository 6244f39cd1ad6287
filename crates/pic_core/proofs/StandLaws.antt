-- Each event leads to a state that stands.
use Rattle.std.proofs.Common.{◌≡◌, ℕ, true, List, slice_set, sum_by, Some, refl, sym, ap, ◌∙◌, subst, arith}
use Rattle.std.proofs.lemmas.List.{set-get_or}
use Rattle.pic_grid.specs.Traces.{most_flux, traces, IsFluxAtMost}
use Rattle.pic_num.specs.Limits.{most_particles}
use Rattle.pic_tile.specs.declared.parcel.Parcel.{Parcel}
use Rattle.pic_tile.specs.CoreEvents.{CanClaim, CanPost, CanMerge, CanShut, after_claim, after_post, after_merge, after_shut}
use Rattle.pic_tile.specs.CoreState.{CoreState, Stands, merged_into, mail_at, first_particles, held}
use Rattle.pic_tile.specs.Frame.{felt_in}
use Rattle.pic_tile.specs.Layers.{sender_of}
use Rattle.pic_tile.specs.Parcels.{IsParcel}
use Rattle.pic_tile.specs.Pushed.{IsPushed}
use Rattle.pic_tile.specs.Receiving.{Merged}
use Rattle.pic_tile.specs.Tile.{TileValue, no_tile, tile_in}
use Rattle.pic_tile.proofs.OpeningLaws.{opening_few, felt_side}
use Rattle.pic_tile.proofs.ReceivedLaws.{MayMerge, may_merge}
use Rattle.pic_push.proofs.TraceSizeLaws.{flux_size}
use Rattle.pic_core.proofs.CensusLaws.{claim_census, post_census, merge_census, kept_census}
use Rattle.pic_core.proofs.ClaimLaws.{claim_places, claim_turn, claim_place}
use Rattle.pic_core.proofs.MergeLaws.{sent_is, order_into, merge_sent, merge_places, merge_turn, merge_place, shut_places, shut_turn}
use Rattle.pic_core.proofs.PostLaws.{post_places, post_turn, post_place}
use Rattle.pic_core.proofs.SlotLaws.{bounded}

pub claim_stands : (s : CoreState) (t : ℕ) (u : TileValue) → Stands s → CanClaim s t → u.number ≡ t
    → IsPushed (felt_in s.frame) s.frame.map (first_particles s t) u → Stands (after_claim s t u)
claim_stands s t u h can number pushed = record {
  frame = h.frame;
  opening = h.opening;
  places = claim_places s t u h.places h.turn h.place can number pushed;
  turn = claim_turn s t u h.places h.turn h.place can number pushed;
  place = claim_place s t u h.places h.turn h.place can number pushed;
  census = claim_census s t u h.opening h.places h.place can pushed h.census;
}

pub post_stands : (s : CoreState) (t d : ℕ) → Stands s → CanPost s t d → Stands (after_post s t d)
post_stands s t d h can = record {
  frame = h.frame;
  opening = h.opening;
  places = post_places s t d h.places h.turn h.place can;
  turn = post_turn s t d h.places h.turn h.place can;
  place = post_place s t d h.places h.turn h.place can;
  census = post_census s t d h.places h.place can h.census;
}

-- the parcel that is merged is that of its direction, as its tile sent it
pub merged_parcel : (s : CoreState) (r d : ℕ) (p : Parcel) → Stands s → CanMerge s r d → mail_at s r d ≡ Some p
    → IsParcel (felt_in s.frame) s.frame.map (first_particles s (sender_of s.frame.map d r)) (sender_of s.frame.map d r) d p
merged_parcel s r d p h can there =
    let from = sender_of s.frame.map d r in
    sent_is s from from d (mail_at s r d) p (merge_sent s r d h.places h.turn h.place can) there

-- what a push of the tiles can send at most
pub sends_most : (s : CoreState) → Stands s → (t : ℕ) → IsFluxAtMost most_flux (traces (felt_in s.frame) (first_particles s t))
sends_most s h t =
    let side = felt_side s.frame h.frame in
    let least = h.frame.least in
    let most = h.frame.most in
    flux_size (felt_in s.frame) (first_particles s t) most_particles (omega (arith, side, least)) (omega (arith, side, most))
    h.frame.frame.kinds_are.limits (opening_few s.frame s.opening h.opening t)

-- what a merge asks for
pub can_be_merged : (s : CoreState) (r d : ℕ) (p : Parcel) → Stands s → CanMerge s r d → mail_at s r d ≡ Some p → MayMerge p (tile_in s.received r)
can_be_merged s r d p h can there =
    may_merge (felt_in s.frame) s.frame.map (first_particles s) (merged_into s r) r d p (tile_in s.received r) most_flux h.frame.map can.tile can.dir
    (omega arith) (sends_most s h) (h.place.receives r can.tile) (bounded d _ can.dir ∙ can.free) (order_into s r d can.order)
    (merged_parcel s r d p h can there)

pub merge_stands : (s : CoreState) (r d : ℕ) (u : TileValue) (p : Parcel) → Stands s → CanMerge s r d → mail_at s r d ≡ Some p
    → Merged p (tile_in s.received r) u → Stands (after_merge s r d u)
merge_stands s r d u p h can there merged = record {
  frame = h.frame;
  opening = h.opening;
  places = merge_places s r d h.places h.turn h.place can u p there merged h.frame;
  turn = merge_turn s r d h.places h.turn h.place can u p there merged h.frame;
  place = merge_place s r d h.places h.turn h.place can u p there merged h.frame;
  census = merge_census s r d u p h.places h.place can there (merged_parcel s r d p h can there).dir_is merged h.census;
}

shut_weight : (s : CoreState) (r : ℕ) (v : ℕ → ℕ) → sum_by (λ x. v x.id) (held (after_shut s r)) ≡ sum_by (λ x. v x.id) (held s)
unfolding held
shut_weight s r v = refl

-- the state after a shutting, as it is made
pub shut_made : (s : CoreState) (r : ℕ) (u : TileValue) → Stands s → CanShut s r → u ≡ tile_in s.received r
    → Stands (record s { shut = slice_set s.shut r true; received = slice_set s.received r u })
shut_made s r u h can still =
    let same : s.received ≡ slice_set s.received r u = sym (set-get_or {A = TileValue} s.received r no_tile) ∙ ap (slice_set s.received r) (sym still) in
    subst (λ (ts : List TileValue). Stands (record s { shut = slice_set s.shut r true; received = ts })) same (record {
      frame = h.frame;
      opening = h.opening;
      places = shut_places s r h.places h.turn can;
      turn = shut_turn s r h.places h.turn can;
      place = record {
        waits = h.place.waits;
        held = h.place.held;
        gone = h.place.gone;
        clear = h.place.clear;
        sent = h.place.sent;
        taken = h.place.taken;
        receives = h.place.receives;
      };
      census = kept_census s (after_shut s r) refl (shut_weight s r) h.census;
    })
