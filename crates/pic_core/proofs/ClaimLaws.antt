-- A claim: the state after it stands.
use Rattle.std.proofs.Common.{◌≡◌, ℕ, ◌<◌, inl, inr, Bool, true, false, length, Option, sym, ap, ◌∙◌, subst}
use Rattle.std.proofs.Math.Decide.{ℕ_discrete}
use Rattle.std.proofs.lemmas.List.{length-set, get_or-set_same, get_or-set_other}
use Rattle.pic_tile.specs.declared.parcel.Parcel.{Parcel}
use Rattle.pic_tile.specs.CoreEvents.{CanClaim, after_claim}
use Rattle.pic_tile.specs.CoreState.{CoreState, HasPlaces, IsInTurn, IsInPlace, tile_count, is_claimed, is_posted, first_particles}
use Rattle.pic_tile.specs.Directions.{directions}
use Rattle.pic_tile.specs.Frame.{felt_in}
use Rattle.pic_tile.specs.Layers.{sender_of}
use Rattle.pic_tile.specs.Pushed.{IsSent, IsPushed}
use Rattle.pic_tile.specs.Tile.{TileValue, parcel_at, no_tile, tile_in}
use Rattle.pic_tile.specs.Tiling.{neighbour_of}
use Rattle.pic_tile.proofs.AllTilesLaws.{neighbour_below}
use Rattle.pic_tile.proofs.TilingLaws.{neighbour_back}
use Rattle.pic_core.proofs.SlotLaws.{mark_keeps, mark_apart, mark_was, mark_or, not_both}

module _ (s : CoreState) (t : ℕ) (u : TileValue) (places : HasPlaces s) (turn : IsInTurn s) (place : IsInPlace s) (can : CanClaim s t)
    (number : u.number ≡ t) (pushed : IsPushed (felt_in s.frame) s.frame.map (first_particles s t) u)
  where
    abbrev new : CoreState
    new = after_claim s t u

    there : t < length s.claimed
    there = subst (λ (n : ℕ). t < n) (sym places.claimed) can.tile

    tile_there : t < length s.tiles
    tile_there = subst (λ (n : ℕ). t < n) (sym places.tiles) can.tile

    pub claim_places : HasPlaces new
    claim_places = record {
      tiles = length-set {A = TileValue} s.tiles t u ∙ places.tiles;
      mail = places.mail;
      received = places.received;
      claimed = length-set {A = Bool} s.claimed t true ∙ places.claimed;
      posted = places.posted;
      merged = places.merged;
      shut = places.shut;
    }

    pub claim_turn : IsInTurn new
    claim_turn = record {
      came = λ r d below within on. mark_keeps s.claimed t (sender_of s.frame.map d r) there (turn.came r d below within on);
      ready = turn.ready;
      over = turn.over;
    }

    other : (k : ℕ) → (k ≡ t → ⊥) → tile_in new.tiles k ≡ tile_in s.tiles k
    other k apart = get_or-set_other {A = TileValue} s.tiles t k u no_tile apart

    own : tile_in new.tiles t ≡ u
    own = get_or-set_same {A = TileValue} s.tiles t u no_tile tile_there

    abbrev Sent : ℕ → ℕ → Option Parcel → Type 0
    Sent k d found = IsSent (felt_in s.frame) s.frame.map (first_particles s k) k d found

    held : (k d : ℕ) → k < tile_count s → d < directions → is_claimed new k ≡ true → is_posted s (neighbour_of s.frame.map.tiles k d) d ≡ false
        → Sent k d (parcel_at (tile_in new.tiles k) d)
    held k d below within on free = elim (ℕ_discrete k t) [
      | yes same ↦
          subst (λ (j : ℕ). Sent j d (parcel_at (tile_in new.tiles j) d)) (sym same)
          (subst (λ (v : TileValue). Sent t d (parcel_at v d)) (sym own)
          (subst (λ (j : ℕ). IsSent (felt_in s.frame) s.frame.map (first_particles s t) j d (parcel_at u d)) number (pushed.sent d within)))
      | no apart ↦
          subst (λ (v : TileValue). Sent k d (parcel_at v d)) (sym (other k apart)) (place.held k d below within (before k apart on) free)
    ]
      where
        before : (k : ℕ) → (k ≡ t → ⊥) → is_claimed new k ≡ true → is_claimed s k ≡ true
        before k apart on = elim (mark_or s.claimed t k on) [ inl same ↦ absurd (apart same) | inr was ↦ was ]

    -- nothing of a tile that isn't claimed is posted
    unposted : (d : ℕ) → d < directions → is_posted s (neighbour_of s.frame.map.tiles t d) d ≡ true → ⊥
    unposted d within on =
        let tiles = s.frame.map.tiles in
        let back : sender_of s.frame.map d (neighbour_of tiles t d) ≡ t = neighbour_back tiles t d can.tile within in
        let came = turn.came (neighbour_of tiles t d) d (neighbour_below tiles t d can.tile) within on in
        not_both (is_claimed s t) (subst (λ (k : ℕ). is_claimed s k ≡ true) back came) can.free

    pub claim_place : IsInPlace new
    claim_place = record {
      waits = λ k below off. other k (mark_apart s.claimed t k there off) ∙ place.waits k below (mark_was s.claimed t k there off);
      held = held;
      gone = λ k d below within on. elim (ℕ_discrete k t) [
        | yes same ↦ absurd (unposted d within (subst (λ (j : ℕ). is_posted s (neighbour_of s.frame.map.tiles j d) d ≡ true) same on))
        | no apart ↦ ap (λ (v : TileValue). parcel_at v d) (other k apart) ∙ place.gone k d below within on
      ];
      clear = place.clear;
      sent = place.sent;
      taken = place.taken;
      receives = place.receives;
    }
