-- One worker's events: each is allowed when it comes, and where it leads.
use Rattle.std.proofs.Common.{◌≡◌, ℕ, ◌+◌, ◌*◌, ◌<◌, ◌⊎◌, inl, inr, Bool, true, false, nat_lt, List, length, slice_set, sym, ap, ◌∙◌, subst, arith}
use Rattle.std.proofs.Math.Decide.{ℕ_discrete}
use Rattle.pic_tile.specs.CoreEvents.{CanClaim, CanPost, CanMerge, CanShut, Claims, Merges, after_post, after_shut}
use Rattle.pic_tile.specs.CoreState.{CoreState, HasPlaces, AreAllShut, tile_count, slot_of, mark, is_posted, is_merged}
use Rattle.pic_tile.specs.Directions.{directions, here}
use Rattle.pic_tile.specs.Tiling.{neighbour_of}
use Rattle.pic_tile.proofs.AllTilesLaws.{neighbour_below}
use Rattle.pic_tile.proofs.TileLaws.{same_there}
use Rattle.pic_core.specs.InTurn.{IsAt, IsFinishing, turn_of, is_complete}
use Rattle.pic_core.specs.AtStart.{HasNotBegun}
use Rattle.pic_core.proofs.SlotLaws.{slot_dir, slot_tile, slot_below, mark_set, mark_other}
use Rattle.pic_core.proofs.TurnLaws.{lt_true, lt_false, lt_more, all_at, turn_is, turn_tile}
use Rattle.pic_core.proofs.TurnLaws.{turn_dir, complete_none, complete_all, complete_other, complete_before}

-- before the first event
pub at_start : (s : CoreState) → HasNotBegun s → IsAt 0 0 0 s
at_start s o = record {
  claimed = λ t below. ap (λ (ms : List Bool). mark ms t) o.claimed ∙ same_there (tile_count s) t false ∙ sym (lt_false t 0 (omega arith));
  posted = λ r d below within. ap (λ (ms : List Bool). mark ms (slot_of r d)) o.posted ∙ same_there (tile_count s * directions) (slot_of r d) false
      ∙ sym (lt_false (turn_of s.frame.map r d) 0 (omega arith));
  merged = λ r d below within. ap (λ (ms : List Bool). mark ms (slot_of r d)) o.merged ∙ same_there (tile_count s * directions) (slot_of r d) false
      ∙ sym (complete_none s.frame.map r);
  shut = λ r below. ap (λ (ms : List Bool). mark ms r) o.shut ∙ same_there (tile_count s) r false ∙ sym (complete_none s.frame.map r);
}

-- after the last
pub at_end : (s : CoreState) (n : ℕ) → n ≡ tile_count s → IsAt n (n * directions) (n * directions) s → AreAllShut s
at_end s n is at r below =
    at.shut r below ∙ ap (λ (k : ℕ). is_complete s.frame.map (k * directions) r) is ∙ complete_all s.frame.map r below

-- the next claim
pub next_claim : (s : CoreState) (t : ℕ) → t < tile_count s → IsAt t (t * directions) (t * directions) s → CanClaim s t
next_claim s t below at = record { tile = below; free = at.claimed t below ∙ lt_false t t (omega arith) }

pub claimed_next : (s new : CoreState) (t : ℕ) → HasPlaces s → t < tile_count s → IsAt t (t * directions) (t * directions) s → Claims s t new
    → IsAt (t + 1) (t * directions + 0) (t * directions + 0) new
claimed_next s new t places below at claims =
    let none : t * directions ≡ t * directions + 0 = omega arith in
    subst (λ (k : ℕ). IsAt (t + 1) k k new) none
    (subst (λ (z : CoreState). IsAt (t + 1) (t * directions) (t * directions) z) (sym claims.is) (record {
      claimed = λ i inside. elim (ℕ_discrete i t) [
        | yes same ↦
            ap (mark (slice_set s.claimed t true)) same ∙ mark_set s.claimed t (subst (λ (n : ℕ). t < n) (sym places.claimed) below)
            ∙ sym (lt_true i (t + 1) (omega (arith, same)))
        | no apart ↦ mark_other s.claimed t i apart ∙ at.claimed i inside ∙ sym (lt_more i t apart)
      ];
      posted = at.posted;
      merged = at.merged;
      shut = at.shut;
    }))

-- the next post
module _ (s : CoreState) (t d : ℕ) (below : t < tile_count s) (within : d < directions) (at : IsAt (t + 1) (slot_of t d) (slot_of t d) s) where
  abbrev to : ℕ
  to = neighbour_of s.frame.map.tiles t d

  to_below : to < tile_count s
  to_below = neighbour_below s.frame.map.tiles t d below

  pub next_post : CanPost s t d
  next_post = record {
    tile = below;
    dir = within;
    claimed = at.claimed t below ∙ lt_true t (t + 1) (omega arith);
    free = at.posted to d to_below within
        ∙ lt_false (turn_of s.frame.map to d) (slot_of t d) (let e = turn_is s.frame.map t d below within in omega (arith, e));
  }

  pub posted_all : HasPlaces s → (r e : ℕ) → r < tile_count s → e < directions
      → is_posted (after_post s t d) r e ≡ nat_lt (turn_of s.frame.map r e) (slot_of t d + 1)
  posted_all places r e inside among = elim (ℕ_discrete (slot_of r e) (slot_of to d)) [
    | yes same ↦ (
        let there : slot_of to d < length s.posted = subst (λ (n : ℕ). slot_of to d < n) (sym places.posted) (slot_below to d (tile_count s) to_below within) in
        let tile : r ≡ to = slot_tile r e to d among within same in
        let dir : e ≡ d = slot_dir r e to d among within same in
        let turn : turn_of s.frame.map r e ≡ slot_of t d = (λ i. turn_of s.frame.map (tile i) (dir i)) ∙ turn_is s.frame.map t d below within in
        ap (mark (slice_set s.posted (slot_of to d) true)) same ∙ mark_set s.posted (slot_of to d) there
        ∙ sym (lt_true (turn_of s.frame.map r e) (slot_of t d + 1) (omega (arith, turn)))
        )
    | no apart ↦ (
        let other : turn_of s.frame.map r e ≡ slot_of t d → ⊥ =
        λ same. apart (λ i. slot_of (turn_tile s.frame.map t d r e inside within among same i) (turn_dir s.frame.map t d r e within among same i)) in
        mark_other s.posted (slot_of to d) (slot_of r e) apart ∙ at.posted r e inside among
        ∙ sym (lt_more (turn_of s.frame.map r e) (slot_of t d) other)
        )
  ]

  abbrev new : CoreState
  new = after_post s t d

  -- where it isn't the last that leads to its tile, nothing is finished
  pub posted_next : HasPlaces s → is_complete s.frame.map (slot_of t d + 1) to ≡ false → IsAt (t + 1) (slot_of t d + 1) (slot_of t d + 1) new
  posted_next places more = record {
    claimed = at.claimed;
    posted = posted_all places;
    merged = λ r e inside among. at.merged r e inside among ∙ sym (still r inside);
    shut = λ r inside. at.shut r inside ∙ sym (still r inside);
  }
    where
      still : (r : ℕ) → r < tile_count s → is_complete s.frame.map (slot_of t d + 1) r ≡ is_complete s.frame.map (slot_of t d) r
      still r inside = elim (ℕ_discrete r to) [
        | yes same ↦
            ap (is_complete s.frame.map (slot_of t d + 1)) same ∙ more ∙ sym (complete_before s.frame.map t d below within)
            ∙ ap (is_complete s.frame.map (slot_of t d)) (sym same)
        | no apart ↦ complete_other s.frame.map t d r inside within apart
      ]

  -- where it is, that tile is finished
  pub posted_last : HasPlaces s → is_complete s.frame.map (slot_of t d + 1) to ≡ true → IsFinishing t d (λ e. false) new
  posted_last places all = record {
    claimed = at.claimed;
    posted = posted_all places;
    others = λ r e inside among apart. at.merged r e inside among;
    own = λ e among. at.merged to e to_below among ∙ complete_before s.frame.map t d below within;
    shut = at.shut;
    all = all;
  }

-- while a tile is finished
module _ (s : CoreState) (t d : ℕ) (done : ℕ → Bool) (below : t < tile_count s) (within : d < directions) (at : IsFinishing t d done s) where
  abbrev goal_tile : ℕ
  goal_tile = neighbour_of s.frame.map.tiles t d

  goal_below : goal_tile < tile_count s
  goal_below = neighbour_below s.frame.map.tiles t d below

  pub next_merge : (e : ℕ) → e < directions → done e ≡ false → (e ≡ here) ⊎ (done here ≡ true) → CanMerge s goal_tile e
  next_merge e among undone order = record {
    tile = goal_below;
    dir = among;
    ready = λ k inside. at.posted goal_tile k goal_below inside
        ∙ all_at directions (λ f. nat_lt (turn_of s.frame.map goal_tile f) (slot_of t d + 1)) k at.all inside;
    free = at.own e among ∙ undone;
    order = in_order order;
  }
    where
      in_order : (e ≡ here) ⊎ (done here ≡ true) → (e ≡ here) ⊎ (is_merged s goal_tile here ≡ true)
      in_order (inl same) = inl same
      in_order (inr first) = inr (at.own here (omega arith) ∙ first)

  pub merged_next : (e : ℕ) (more : ℕ → Bool) (next : CoreState) → HasPlaces s → e < directions → Merges s goal_tile e next
      → more e ≡ true → ((f : ℕ) → f < directions → (f ≡ e → ⊥) → more f ≡ done f) → IsFinishing t d more next
  merged_next e more next places among merges now others =
      subst (λ (z : CoreState). IsFinishing t d more z) (sym merges.is) (record {
        claimed = at.claimed;
        posted = at.posted;
        others = λ r f inside within_f apart.
            mark_other s.merged (slot_of goal_tile e) (slot_of r f) (λ same. apart (slot_tile r f goal_tile e within_f among same))
            ∙ at.others r f inside within_f apart;
        own = λ f inside. elim (ℕ_discrete f e) [
          | yes same ↦
              ap (λ (k : ℕ). mark (slice_set s.merged (slot_of goal_tile e) true) (slot_of goal_tile k)) same
              ∙ mark_set s.merged (slot_of goal_tile e) there ∙ sym (ap more same ∙ now)
          | no apart ↦
              mark_other s.merged (slot_of goal_tile e) (slot_of goal_tile f) (λ same. apart (slot_dir goal_tile f goal_tile e inside among same))
              ∙ at.own f inside
              ∙ sym (others f inside apart)
        ];
        shut = at.shut;
        all = at.all;
      })
    where
      there : slot_of goal_tile e < length s.merged
      there = subst (λ (n : ℕ). slot_of goal_tile e < n) (sym places.merged) (slot_below goal_tile e (tile_count s) goal_below among)

  pub next_shut : ((e : ℕ) → e < directions → done e ≡ true) → CanShut s goal_tile
  next_shut all = record {
    tile = goal_below;
    all = λ e inside. at.own e inside ∙ all e inside;
    free = at.shut goal_tile goal_below ∙ complete_before s.frame.map t d below within;
  }

  pub shut_next : (next : CoreState) → HasPlaces s → ((e : ℕ) → e < directions → done e ≡ true) → next ≡ after_shut s goal_tile
      → IsAt (t + 1) (slot_of t d + 1) (slot_of t d + 1) next
  shut_next next places all is =
      subst (λ (z : CoreState). IsAt (t + 1) (slot_of t d + 1) (slot_of t d + 1) z) (sym is) (record {
        claimed = at.claimed;
        posted = at.posted;
        merged = λ r e inside among. elim (ℕ_discrete r goal_tile) [
          | yes same ↦
              ap (λ (k : ℕ). is_merged s k e) same ∙ at.own e among ∙ all e among ∙ sym at.all
              ∙ ap (is_complete s.frame.map (slot_of t d + 1)) (sym same)
          | no apart ↦ at.others r e inside among apart ∙ sym (complete_other s.frame.map t d r inside within apart)
        ];
        shut = λ r inside. elim (ℕ_discrete r goal_tile) [
          | yes same ↦
              ap (mark (slice_set s.shut goal_tile true)) same
              ∙ mark_set s.shut goal_tile (subst (λ (n : ℕ). goal_tile < n) (sym places.shut) goal_below) ∙ sym at.all
              ∙ ap (is_complete s.frame.map (slot_of t d + 1)) (sym same)
          | no apart ↦ mark_other s.shut goal_tile r apart ∙ at.shut r inside ∙ sym (complete_other s.frame.map t d r inside within apart)
        ];
      })
