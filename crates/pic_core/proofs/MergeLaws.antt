-- A merge and a shutting: the state after each stands.
use Rattle.std.proofs.Common.{◌≡◌, ℕ, ◌*◌, ◌<◌, ◌⊎◌, inl, inr, Bool, true, false, ◌&&◌, nat_lt, length, Option, Some, None, sym, ap, ◌∙◌, subst, arith}
use Rattle.std.proofs.Math.Decide.{ℕ_discrete}
use Rattle.std.proofs.lemmas.Bool.{cases_lt}
use Rattle.std.proofs.lemmas.List.{length-set, get_or-set_same, get_or-set_other}
use Rattle.std.proofs.lemmas.Grind.{get_or-set_at}
use Rattle.pic_tile.specs.declared.parcel.Parcel.{Parcel}
use Rattle.pic_tile.specs.CoreEvents.{CanMerge, CanShut, after_merge, after_shut}
use Rattle.pic_tile.specs.CoreState.{CoreState, HasPlaces, IsInTurn, IsInPlace, IsSoundFrame, tile_count, slot_of}
use Rattle.pic_tile.specs.CoreState.{is_posted, is_merged, merged_into, is_shut, mail_at, first_particles}
use Rattle.pic_tile.specs.Directions.{directions, here}
use Rattle.pic_tile.specs.Frame.{felt_in}
use Rattle.pic_tile.specs.Layers.{sender_of}
use Rattle.pic_tile.specs.Parcels.{IsParcel}
use Rattle.pic_tile.specs.Pushed.{IsSent}
use Rattle.pic_tile.specs.Receiving.{Merged, IsReceiving, IsOneMore, AreAllDone}
use Rattle.pic_tile.specs.Tile.{TileValue, no_tile, tile_in}
use Rattle.pic_tile.proofs.ReceivingLaws.{receiving_more}
use Rattle.pic_core.proofs.SlotLaws.{slot_dir, slot_tile, slot_below, mark_set, mark_keeps, mark_apart, mark_was, mark_or, mark_other, bounded, beyond}

-- the parcel that is found is the one that was sent
pub sent_is : (s : CoreState) (k t d : ℕ) (found : Option Parcel) (p : Parcel) → IsSent (felt_in s.frame) s.frame.map (first_particles s k) t d found
    → found ≡ Some p
    → IsParcel (felt_in s.frame) s.frame.map (first_particles s k) t d p
sent_is s k t d found p sent is =
    let same : sent.parcel ≡ p = cc (sent.there, is) in
    subst (λ (q : Parcel). IsParcel (felt_in s.frame) s.frame.map (first_particles s k) t d q) same sent.is

-- that of no step is merged first
pub order_into : (s : CoreState) (r d : ℕ) → (d ≡ here) ⊎ (is_merged s r here ≡ true) → (d ≡ here) ⊎ (merged_into s r here ≡ true)
order_into s r d (inl same) = inl same
order_into s r d (inr first) = inr (bounded here (is_merged s r here) (omega arith) ∙ first)

module _ (s : CoreState) (r d : ℕ) (places : HasPlaces s) (turn : IsInTurn s) (place : IsInPlace s) (can : CanMerge s r d) where
  abbrev slot : ℕ
  slot = slot_of r d

  slot_in : slot < tile_count s * directions
  slot_in = slot_below r d (tile_count s) can.tile can.dir

  mark_there : slot < length s.merged
  mark_there = subst (λ (n : ℕ). slot < n) (sym places.merged) slot_in

  mail_there : slot < length s.mail
  mail_there = subst (λ (n : ℕ). slot < n) (sym places.mail) slot_in

  tile_there : r < length s.received
  tile_there = subst (λ (n : ℕ). r < n) (sym places.received) can.tile

  -- the parcel is there, with what was sent
  pub merge_sent : IsSent (felt_in s.frame) s.frame.map (first_particles s (sender_of s.frame.map d r)) (sender_of s.frame.map d r) d (mail_at s r d)
  merge_sent = place.sent r d can.tile can.dir (can.ready d can.dir) can.free

  module _ (u : TileValue) (p : Parcel) (there : mail_at s r d ≡ Some p) (merged : Merged p (tile_in s.received r) u) (sound : IsSoundFrame s.frame) where
    abbrev new : CoreState
    new = after_merge s r d u

    pub merge_places : HasPlaces new
    merge_places = record {
      tiles = places.tiles;
      mail = length-set {A = Option Parcel} s.mail slot None ∙ places.mail;
      received = length-set {A = TileValue} s.received r u ∙ places.received;
      claimed = places.claimed;
      posted = places.posted;
      merged = length-set {A = Bool} s.merged slot true ∙ places.merged;
      shut = places.shut;
    }

    ready : (q e : ℕ) → q < tile_count s → e < directions → is_merged new q e ≡ true → AreAllDone (λ k. is_posted s q k)
    ready q e below within on = elim (mark_or s.merged slot (slot_of q e) on) [
      | inl same ↦
          (let tile : q ≡ r = slot_tile q e r d within can.dir same in
          λ k inside. subst (λ (j : ℕ). is_posted s j k ≡ true) (sym tile) (can.ready k inside))
      | inr was ↦ turn.ready q e below within was
    ]

    pub merge_turn : IsInTurn new
    merge_turn = record {
      came = turn.came;
      ready = ready;
      over = λ q below on k inside. mark_keeps s.merged slot (slot_of q k) mark_there (turn.over q below on k inside);
    }

    mail_other : (q e : ℕ) → (slot_of q e ≡ slot → ⊥) → mail_at new q e ≡ mail_at s q e
    mail_other q e apart = get_or-set_other {A = Option Parcel} s.mail slot (slot_of q e) None None apart

    mail_own : (q e : ℕ) → slot_of q e ≡ slot → mail_at new q e ≡ None
    mail_own q e same = get_or-set_at {X = Option Parcel} s.mail slot (slot_of q e) None None same mail_there

    clear : (q e : ℕ) → q < tile_count s → e < directions → is_posted s q e ≡ false → mail_at new q e ≡ None
    clear q e below within off = elim (ℕ_discrete (slot_of q e) slot) [
      | yes same ↦ mail_own q e same
      | no apart ↦ mail_other q e apart ∙ place.clear q e below within off
    ]

    taken : (q e : ℕ) → q < tile_count s → e < directions → is_merged new q e ≡ true → mail_at new q e ≡ None
    taken q e below within on = elim (ℕ_discrete (slot_of q e) slot) [
      | yes same ↦ mail_own q e same
      | no apart ↦ mail_other q e apart ∙ place.taken q e below within (sym (mark_other s.merged slot (slot_of q e) apart) ∙ on)
    ]

    abbrev Sent : ℕ → ℕ → Option Parcel → Type 0
    Sent k e found = IsSent (felt_in s.frame) s.frame.map (first_particles s k) k e found

    sent : (q e : ℕ) → q < tile_count s → e < directions → is_posted s q e ≡ true → is_merged new q e ≡ false
        → Sent (sender_of s.frame.map e q) e (mail_at new q e)
    sent q e below within on off =
        subst (λ (found : Option Parcel). Sent (sender_of s.frame.map e q) e found)
        (sym (mail_other q e (mark_apart s.merged slot (slot_of q e) mark_there off)))
        (place.sent q e below within on (mark_was s.merged slot (slot_of q e) mark_there off))

    -- one direction more
    apart_slot : (q e : ℕ) → e < directions → (q ≡ r → e ≡ d → ⊥) → slot_of q e ≡ slot → ⊥
    apart_slot q e within apart same = apart (slot_tile q e r d within can.dir same) (slot_dir q e r d within can.dir same)

    others : (q e : ℕ) → (q ≡ r → e ≡ d → ⊥) → merged_into new q e ≡ merged_into s q e
    others q e apart = elim (cases_lt e directions) [
      | inl within ↦ ap (λ (b : Bool). nat_lt e directions && b) (mark_other s.merged slot (slot_of q e) (apart_slot q e within apart))
      | inr past ↦ beyond e (is_merged new q e) past ∙ sym (beyond e (is_merged s q e) past)
    ]

    one_more : IsOneMore d (merged_into s r) (merged_into new r)
    one_more = record {
      before = bounded d (is_merged s r d) can.dir ∙ can.free;
      now = bounded d (is_merged new r d) can.dir ∙ mark_set s.merged slot mark_there;
      others = λ e apart. others r e (λ tile dir. apart dir);
    }

    abbrev Receiving : ℕ → (ℕ → Bool) → TileValue → Type 0
    Receiving q done v = IsReceiving (felt_in s.frame) s.frame.map (first_particles s) done q v

    receives : (q : ℕ) → q < tile_count s → Receiving q (merged_into new q) (tile_in new.received q)
    receives q below = elim (ℕ_discrete q r) [
      | yes same ↦ subst (λ (k : ℕ). Receiving k (merged_into new k) (tile_in new.received k)) (sym same) mine
      | no apart ↦
          subst (λ (v : TileValue). Receiving q (merged_into new q) v) (sym (get_or-set_other {A = TileValue} s.received r q u no_tile apart))
          (subst (λ (done : ℕ → Bool). Receiving q done (tile_in s.received q)) (λ i e. sym (others q e (λ tile dir. apart tile)) i) (place.receives q below))
    ]
      where
        mine : Receiving r (merged_into new r) (tile_in new.received r)
        mine =
            let from = sender_of s.frame.map d r in
            let parcel = sent_is s from from d (mail_at s r d) p merge_sent there in
            let after = receiving_more (felt_in s.frame) s.frame.map (first_particles s) r d (merged_into s r) (merged_into new r) p (tile_in s.received r) u
            sound.map.thick can.tile can.dir one_more (place.receives r can.tile) parcel merged (order_into s r d can.order) in
            subst (λ (v : TileValue). Receiving r (merged_into new r) v) (sym (get_or-set_same {A = TileValue} s.received r u no_tile tile_there)) after

    pub merge_place : IsInPlace new
    merge_place = record {
      waits = place.waits;
      held = place.held;
      gone = place.gone;
      clear = clear;
      sent = sent;
      taken = taken;
      receives = receives;
    }

-- A shutting.
module _ (s : CoreState) (r : ℕ) (places : HasPlaces s) (turn : IsInTurn s) (can : CanShut s r) where
  abbrev closed : CoreState
  closed = after_shut s r

  pub shut_places : HasPlaces closed
  shut_places = record {
    tiles = places.tiles;
    mail = places.mail;
    received = places.received;
    claimed = places.claimed;
    posted = places.posted;
    merged = places.merged;
    shut = length-set {A = Bool} s.shut r true ∙ places.shut;
  }

  over : (q : ℕ) → q < tile_count s → is_shut closed q ≡ true → AreAllDone (λ d. is_merged s q d)
  over q below on = elim (mark_or s.shut r q on) [
    | inl same ↦ (λ d inside. subst (λ (k : ℕ). is_merged s k d ≡ true) (sym same) (can.all d inside))
    | inr was ↦ turn.over q below was
  ]

  pub shut_turn : IsInTurn closed
  shut_turn = record { came = turn.came; ready = turn.ready; over = over }
