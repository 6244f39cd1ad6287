-- A post: the state after it stands.
use Rattle.std.proofs.Common.{◌≡◌, ℕ, ◌*◌, ◌<◌, inl, inr, Bool, true, false, length, get_or, Option, None, refl, sym, ap, ◌∙◌, subst}
use Rattle.std.proofs.Math.Decide.{ℕ_discrete}
use Rattle.std.proofs.lemmas.List.{length-set, get_or-set_same, get_or-set_other}
use Rattle.std.proofs.lemmas.Grind.{get_or-set_at}
use Rattle.pic_tile.specs.declared.parcel.Parcel.{Parcel}
use Rattle.pic_tile.specs.CoreEvents.{CanPost, after_post}
use Rattle.pic_tile.specs.CoreState.{CoreState, HasPlaces, IsInTurn, IsInPlace, tile_count, slot_of, is_claimed, is_posted, is_merged, mail_at, first_particles}
use Rattle.pic_tile.specs.Directions.{directions}
use Rattle.pic_tile.specs.Frame.{felt_in}
use Rattle.pic_tile.specs.Layers.{sender_of}
use Rattle.pic_tile.specs.Pushed.{IsSent}
use Rattle.pic_tile.specs.Tile.{TileValue, parcel_at, with_parcel, no_tile, tile_in}
use Rattle.pic_tile.specs.Tiling.{neighbour_of}
use Rattle.pic_tile.proofs.AllTilesLaws.{neighbour_below}
use Rattle.pic_tile.proofs.TileLaws.{none_left}
use Rattle.pic_tile.proofs.TilingLaws.{neighbour_back}
use Rattle.pic_core.proofs.SlotLaws.{slot_dir, slot_tile, slot_below, mark_keeps, mark_apart, mark_was, mark_or, not_both}

module _ (s : CoreState) (t d : ℕ) (places : HasPlaces s) (turn : IsInTurn s) (place : IsInPlace s) (can : CanPost s t d) where
  abbrev to : ℕ
  to = neighbour_of s.frame.map.tiles t d

  abbrev slot : ℕ
  slot = slot_of to d

  abbrev new : CoreState
  new = after_post s t d

  abbrev left : TileValue
  left = with_parcel (tile_in s.tiles t) d None

  to_below : to < tile_count s
  to_below = neighbour_below s.frame.map.tiles t d can.tile

  back : sender_of s.frame.map d to ≡ t
  back = neighbour_back s.frame.map.tiles t d can.tile can.dir

  slot_in : slot < tile_count s * directions
  slot_in = slot_below to d (tile_count s) to_below can.dir

  mark_there : slot < length s.posted
  mark_there = subst (λ (n : ℕ). slot < n) (sym places.posted) slot_in

  mail_there : slot < length s.mail
  mail_there = subst (λ (n : ℕ). slot < n) (sym places.mail) slot_in

  tile_there : t < length s.tiles
  tile_there = subst (λ (n : ℕ). t < n) (sym places.tiles) can.tile

  pub post_places : HasPlaces new
  post_places = record {
    tiles = length-set {A = TileValue} s.tiles t left ∙ places.tiles;
    mail = length-set {A = Option Parcel} s.mail slot (parcel_at (tile_in s.tiles t) d) ∙ places.mail;
    received = places.received;
    claimed = places.claimed;
    posted = length-set {A = Bool} s.posted slot true ∙ places.posted;
    merged = places.merged;
    shut = places.shut;
  }

  came : (r e : ℕ) → r < tile_count s → e < directions → is_posted new r e ≡ true → is_claimed s (sender_of s.frame.map e r) ≡ true
  came r e below within on = elim (mark_or s.posted slot (slot_of r e) on) [
    | inl same ↦ (
        let tile : r ≡ to = slot_tile r e to d within can.dir same in
        let dir : e ≡ d = slot_dir r e to d within can.dir same in
        let sender : sender_of s.frame.map e r ≡ t = (λ i. sender_of s.frame.map (dir i) (tile i)) ∙ back in
        subst (λ (k : ℕ). is_claimed s k ≡ true) (sym sender) can.claimed
        )
    | inr was ↦ turn.came r e below within was
  ]

  pub post_turn : IsInTurn new
  post_turn = record {
    came = came;
    ready = λ r e below within on k inside. mark_keeps s.posted slot (slot_of r k) mark_there (turn.ready r e below within on k inside);
    over = turn.over;
  }

  other : (k : ℕ) → (k ≡ t → ⊥) → tile_in new.tiles k ≡ tile_in s.tiles k
  other k apart = get_or-set_other {A = TileValue} s.tiles t k left no_tile apart

  own : tile_in new.tiles t ≡ left
  own = get_or-set_same {A = TileValue} s.tiles t left no_tile tile_there

  -- the tile's other parcels stay
  other_dir : (k e : ℕ) → (k ≡ t → e ≡ d → ⊥) → parcel_at (tile_in new.tiles k) e ≡ parcel_at (tile_in s.tiles k) e
  other_dir k e apart = elim (ℕ_discrete k t) [
    | yes same ↦
        subst (λ (j : ℕ). parcel_at (tile_in new.tiles j) e ≡ parcel_at (tile_in s.tiles j) e) (sym same)
        (ap (λ (v : TileValue). parcel_at v e) own
        ∙ get_or-set_other {A = Option Parcel} (tile_in s.tiles t).parcels d e None None (apart same))
    | no off ↦ ap (λ (v : TileValue). parcel_at v e) (other k off)
  ]

  abbrev Sent : ℕ → ℕ → Option Parcel → Type 0
  Sent k e found = IsSent (felt_in s.frame) s.frame.map (first_particles s k) k e found

  held : (k e : ℕ) → k < tile_count s → e < directions → is_claimed s k ≡ true → is_posted new (neighbour_of s.frame.map.tiles k e) e ≡ false
      → Sent k e (parcel_at (tile_in new.tiles k) e)
  held k e below within on free =
      let at = slot_of (neighbour_of s.frame.map.tiles k e) e in
      let apart : k ≡ t → e ≡ d → ⊥ =
      λ tile dir. mark_apart s.posted slot at mark_there free (λ i. slot_of (neighbour_of s.frame.map.tiles (tile i) (dir i)) (dir i)) in
      subst (λ (found : Option Parcel). Sent k e found) (sym (other_dir k e apart))
      (place.held k e below within on (mark_was s.posted slot at mark_there free))

  -- what is taken is gone
  taken_out : (k e : ℕ) → k ≡ t → e ≡ d → parcel_at (tile_in new.tiles k) e ≡ None
  taken_out k e tile dir =
      subst (λ (j : ℕ). parcel_at (tile_in new.tiles j) e ≡ None) (sym tile)
      (ap (λ (v : TileValue). parcel_at v e) own ∙ none_left (tile_in s.tiles t) left d e refl dir)

  gone : (k e : ℕ) → k < tile_count s → e < directions → is_posted new (neighbour_of s.frame.map.tiles k e) e ≡ true
      → parcel_at (tile_in new.tiles k) e ≡ None
  gone k e below within on = elim (mark_or s.posted slot (slot_of (neighbour_of s.frame.map.tiles k e) e) on) [
    | inl same ↦ (
        let at = neighbour_of s.frame.map.tiles k e in
        let tile : at ≡ to = slot_tile at e to d within can.dir same in
        let dir : e ≡ d = slot_dir at e to d within can.dir same in
        let from : sender_of s.frame.map e at ≡ k = neighbour_back s.frame.map.tiles k e below within in
        taken_out k e (sym from ∙ (λ i. sender_of s.frame.map (dir i) (tile i)) ∙ back) dir
        )
    | inr was ↦ elim (ℕ_discrete k t) [
      | yes tile ↦ elim (ℕ_discrete e d) [
        | yes dir ↦ taken_out k e tile dir
        | no apart ↦ other_dir k e (λ i j. apart j) ∙ place.gone k e below within was
      ]
      | no apart ↦ other_dir k e (λ i j. apart i) ∙ place.gone k e below within was
    ]
  ]

  -- mail
  mail_other : (r e : ℕ) → (slot_of r e ≡ slot → ⊥) → mail_at new r e ≡ mail_at s r e
  mail_other r e apart = get_or-set_other {A = Option Parcel} s.mail slot (slot_of r e) (parcel_at (tile_in s.tiles t) d) None apart

  mail_own : (r e : ℕ) → slot_of r e ≡ slot → mail_at new r e ≡ parcel_at (tile_in s.tiles t) d
  mail_own r e same = get_or-set_at {X = Option Parcel} s.mail slot (slot_of r e) (parcel_at (tile_in s.tiles t) d) None same mail_there

  sent : (r e : ℕ) → r < tile_count s → e < directions → is_posted new r e ≡ true → is_merged s r e ≡ false
      → Sent (sender_of s.frame.map e r) e (mail_at new r e)
  sent r e below within on free = elim (ℕ_discrete (slot_of r e) slot) [
    | yes same ↦ (
        let tile : r ≡ to = slot_tile r e to d within can.dir same in
        let dir : e ≡ d = slot_dir r e to d within can.dir same in
        let sender : sender_of s.frame.map e r ≡ t = (λ i. sender_of s.frame.map (dir i) (tile i)) ∙ back in
        subst (λ (found : Option Parcel). Sent (sender_of s.frame.map e r) e found) (sym (mail_own r e same))
        (subst (λ (k : ℕ). Sent k e (parcel_at (tile_in s.tiles t) d)) (sym sender)
        (subst (λ (j : ℕ). Sent t j (parcel_at (tile_in s.tiles t) d)) (sym dir) (place.held t d can.tile can.dir can.claimed can.free)))
        )
    | no apart ↦
        subst (λ (found : Option Parcel). Sent (sender_of s.frame.map e r) e found) (sym (mail_other r e apart))
        (place.sent r e below within (sym (mark_off r e apart) ∙ on) free)
  ]
    where
      mark_off : (r e : ℕ) → (slot_of r e ≡ slot → ⊥) → is_posted new r e ≡ is_posted s r e
      mark_off r e apart = get_or-set_other {A = Bool} s.posted slot (slot_of r e) true false apart

  taken : (r e : ℕ) → r < tile_count s → e < directions → is_merged s r e ≡ true → mail_at new r e ≡ None
  taken r e below within on = mail_other r e (λ same.
      not_both (is_posted s to d)
      (subst (λ (k : ℕ). get_or s.posted k false ≡ true) same (turn.ready r e below within on e within)) can.free)
      ∙ place.taken r e below within on

  pub post_place : IsInPlace new
  post_place = record {
    waits = λ k below off.
        other k (λ same. not_both (is_claimed s t) can.claimed (subst (λ (j : ℕ). is_claimed s j ≡ false) same off)) ∙ place.waits k below off;
    held = held;
    gone = gone;
    clear = λ r e below within off.
        mail_other r e (mark_apart s.posted slot (slot_of r e) mark_there off)
        ∙ place.clear r e below within (mark_was s.posted slot (slot_of r e) mark_there off);
    sent = sent;
    taken = taken;
    receives = place.receives;
  }
