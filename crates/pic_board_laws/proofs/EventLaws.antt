-- Each event of the core, by the marks before it and after.
use Rattle.std.proofs.Common.{◌≡◌, ℕ, ◌*◌, ◌<◌, ◌⊎◌, inl, inr, Bool, true, false, List, [], ◌∷◌, length, slice_set, refl, sym, ap, ◌∙◌, subst, arith}
use Rattle.std.proofs.Math.Decide.{ℕ_discrete}
use Rattle.std.proofs.lemmas.List.{set-get_or}
use Rattle.pic_block.specs.Cells.{count_of}
use Rattle.pic_tile.specs.declared.parcel.Parcel.{Parcel}
use Rattle.pic_tile.specs.CoreEvents.{CanClaim, CanPost, CanMerge, CanShut, Claims, Merges, after_claim, after_post, after_merge, after_shut}
use Rattle.pic_tile.specs.CoreState.{CoreState, Stands, tile_count, slot_of, mark, is_claimed, is_posted, is_merged, is_shut, mail_at, first_particles}
use Rattle.pic_tile.specs.Directions.{directions, here}
use Rattle.pic_tile.specs.Frame.{FrameValue, felt_in}
use Rattle.pic_tile.specs.Layers.{sender_of}
use Rattle.pic_tile.specs.Pushed.{IsSent}
use Rattle.pic_tile.specs.Tile.{TileValue, no_tile, tile_in}
use Rattle.pic_tile.specs.Tiling.{neighbour_of}
use Rattle.pic_tile.proofs.HeldLaws.{neighbour_forth}
use Rattle.pic_tile.proofs.AllTilesLaws.{sender_below}
use Rattle.pic_core.specs.declared.event.Event.{Event}
use Rattle.pic_core.specs.declared.event.Event.TheVariants.{Claim, Post, Merge, Shut}
use Rattle.pic_core.specs.Events.{Ran}
use Rattle.pic_core.proofs.RunLaws.{ran_none, ran_event}
use Rattle.pic_core.proofs.SlotLaws.{slot_dir, slot_tile, slot_below, mark_set, mark_other, bounded}
use Rattle.pic_core.proofs.StandLaws.{claim_stands, post_stands, merge_stands, shut_made}
use Rattle.pic_yard.specs.declared.opening.Opening.{Opening}
use Rattle.pic_yard.specs.Contents.{tiles_in, from_of}
use Rattle.pic_yard.proofs.CountLaws.{at_else, at_here, at_other}
use Rattle.pic_yard.proofs.PostLaws.{which_pair, posts, posts_it, posts_other}
use Rattle.pic_board_laws.proofs.ContentLaws.{HasPushed, tile_pushed, HasMergedOne, tile_merged}

-- a core on the opening of a board, with these marks
pub record HasMarks (o : Opening) (c : CoreState) (claimed : ℕ → Bool) (posted merged : ℕ → ℕ → Bool) (shut : ℕ → Bool) : Type 0 where
  pub frame : c.frame ≡ o.frame
  pub opening : c.opening ≡ o.tiles.items
  pub claims : (t : ℕ) → t < tiles_in o → is_claimed c t ≡ claimed t
  pub posts : (r d : ℕ) → r < tiles_in o → d < directions → is_posted c r d ≡ posted r d
  pub merges : (r d : ℕ) → r < tiles_in o → d < directions → is_merged c r d ≡ merged r d
  pub shuts : (r : ℕ) → r < tiles_in o → is_shut c r ≡ shut r

-- functions that agree on all tiles and parcels
abbrev pub AreSame : ℕ → (ℕ → Bool) → (ℕ → Bool) → Type 0
AreSame n f g = (k : ℕ) → k < n → f k ≡ g k

abbrev pub ArePairsSame : ℕ → (ℕ → ℕ → Bool) → (ℕ → ℕ → Bool) → Type 0
ArePairsSame n f g = (r d : ℕ) → r < n → d < directions → f r d ≡ g r d

pub marks_same : (o : Opening) (c : CoreState) (f g : ℕ → Bool) (p q m n : ℕ → ℕ → Bool) (h k : ℕ → Bool)
    → AreSame (tiles_in o) f g → ArePairsSame (tiles_in o) p q → ArePairsSame (tiles_in o) m n → AreSame (tiles_in o) h k
    → HasMarks o c f p m h → HasMarks o c g q n k
marks_same o c f g p q m n h k claims posts merges shuts x = record {
  frame = x.frame;
  opening = x.opening;
  claims = λ t below. x.claims t below ∙ claims t below;
  posts = λ r d below inside. x.posts r d below inside ∙ posts r d below inside;
  merges = λ r d below inside. x.merges r d below inside ∙ merges r d below inside;
  shuts = λ r below. x.shuts r below ∙ shuts r below;
}

-- events lead from a core to one that has these marks
pub record Leads (o : Opening) (c : CoreState) (events : List Event) (claimed : ℕ → Bool) (posted merged : ℕ → ℕ → Bool)
    (shut : ℕ → Bool) : Type 0 where
  pub next : CoreState
  pub ran : Ran c events next
  pub stands : Stands next
  pub marks : HasMarks o next claimed posted merged shut

module _ (o : Opening) (c : CoreState) (stands : Stands c) (f : ℕ → Bool) (p m : ℕ → ℕ → Bool) (h : ℕ → Bool) (marks : HasMarks o c f p m h) where
  abbrev T : ℕ
  T = tiles_in o

  same_count : tile_count c ≡ T
  same_count = ap (λ (x : FrameValue). count_of x.map.tiles) marks.frame

  here_too : (r : ℕ) → r < T → r < tile_count c
  here_too r below = subst (λ (n : ℕ). r < n) (sym same_count) below

  pub no_event : Leads o c [] f p m h
  no_event = record { next = c; ran = ran_none c; stands = stands; marks = marks }

  -- one event
  leads_one : (e : Event) (next : CoreState) → Ran c (e ∷ []) next → Stands next → (g : ℕ → Bool) (q n : ℕ → ℕ → Bool) (k : ℕ → Bool)
      → HasMarks o next g q n k → Leads o c (e ∷ []) g q n k
  leads_one e next ran there g q n k have = record { next = next; ran = ran; stands = there; marks = have }

  -- a mark set in a list
  now_set : (ms : List Bool) (n k i : ℕ) (g : ℕ → Bool) → length ms ≡ n → k < n → mark ms i ≡ g i → mark (slice_set ms k true) i ≡ at_else k true g i
  now_set ms n k i g long below was = elim (ℕ_discrete i k) [
    | yes same ↦ ap (mark (slice_set ms k true)) same ∙ mark_set ms k (subst (λ (l : ℕ). k < l) (sym long) below) ∙ sym (at_here k i true g same)
    | no apart ↦ mark_other ms k i apart ∙ was ∙ sym (at_other k i true g apart)
  ]

  pair_set : (ms : List Bool) (r d x y : ℕ) (g : ℕ → ℕ → Bool) → length ms ≡ tile_count c * directions → r < T → d < directions → y < directions
      → mark ms (slot_of x y) ≡ g x y → mark (slice_set ms (slot_of r d) true) (slot_of x y) ≡ posts g r d x y
  pair_set ms r d x y g long below dir inside was = elim (which_pair r d x y) [
    | inl same ↦
        (λ i. mark (slice_set ms (slot_of r d) true) (slot_of (same.0 i) (same.1 i)))
        ∙ mark_set ms (slot_of r d) (subst (λ (l : ℕ). slot_of r d < l) (sym long) (slot_below r d (tile_count c) (here_too r below) dir))
        ∙ sym (posts_it g r d x y same)
    | inr apart ↦
        mark_other ms (slot_of r d) (slot_of x y) (λ e. apart (slot_tile x y r d inside dir e, slot_dir x y r d inside dir e))
        ∙ was ∙ sym (posts_other g r d x y apart)
  ]

  pub claim_leads : (t : ℕ) → t < T → f t ≡ false → Leads o c (Claim t ∷ []) (at_else t true f) p m h
  claim_leads t below free =
      let can : CanClaim c t = record { tile = here_too t below; free = marks.claims t below ∙ free } in
      let made : HasPushed (felt_in c.frame) c.frame.map (first_particles c t) t = tile_pushed (felt_in c.frame) c.frame.map (first_particles c t) t in
      let next : CoreState = after_claim c t made.tile in
      let there : Stands next = claim_stands c t made.tile stands can made.number made.pushed in
      let claims : Claims c t next = record { tile = made.tile; number = made.number; pushed = made.pushed; is = refl } in
      leads_one (Claim t) next (ran_event c (Claim t) next can claims there) there (at_else t true f) p m h (record {
        frame = marks.frame;
        opening = marks.opening;
        claims = λ i inside. now_set c.claimed (tile_count c) t i f stands.places.claimed (here_too t below) (marks.claims i inside);
        posts = marks.posts;
        merges = marks.merges;
        shuts = marks.shuts;
      })

  pub post_leads : (r d : ℕ) → r < T → d < directions → f (from_of o r d) ≡ true → p r d ≡ false
      → Leads o c (Post (from_of o r d) d ∷ []) f (posts p r d) m h
  unfolding from_of
  post_leads r d below dir claimed free =
      let t : ℕ = from_of o r d in
      let inside : t < T = sender_below o.frame.map d r below in
      let to : neighbour_of c.frame.map.tiles t d ≡ r =
      ap (λ (x : FrameValue). neighbour_of x.map.tiles t d) marks.frame ∙ neighbour_forth o.frame.map.tiles r d below dir in
      let can : CanPost c t d = record {
        tile = here_too t inside;
        dir = dir;
        claimed = marks.claims t inside ∙ claimed;
        free = ap (λ (k : ℕ). is_posted c k d) to ∙ marks.posts r d below dir ∙ free;
      } in
      let next : CoreState = after_post c t d in
      let there : Stands next = post_stands c t d stands can in
      leads_one (Post t d) next (ran_event c (Post t d) next can refl there) there f (posts p r d) m h (record {
        frame = marks.frame;
        opening = marks.opening;
        claims = marks.claims;
        posts = λ x y under within.
            ap (λ (k : ℕ). mark (slice_set c.posted (slot_of k d) true) (slot_of x y)) to
            ∙ pair_set c.posted r d x y p stands.places.posted below dir within (marks.posts x y under within);
        merges = marks.merges;
        shuts = marks.shuts;
      })

  pub merge_leads : (r d : ℕ) → r < T → d < directions → ((e : ℕ) → e < directions → p r e ≡ true) → m r d ≡ false
      → (d ≡ here) ⊎ (m r here ≡ true) → Leads o c (Merge r d ∷ []) f p (posts m r d) h
  merge_leads r d below dir all free order =
      let within : r < tile_count c = here_too r below in
      let unmerged : is_merged c r d ≡ false = marks.merges r d below dir ∙ free in
      let can : CanMerge c r d = record {
        tile = within;
        dir = dir;
        ready = λ e inside. marks.posts r e below inside ∙ all e inside;
        free = unmerged;
        order = turn order;
      } in
      let from : ℕ = sender_of c.frame.map d r in
      let sent : IsSent (felt_in c.frame) c.frame.map (first_particles c from) from d (mail_at c r d) =
      stands.place.sent r d within dir (marks.posts r d below dir ∙ all d dir) unmerged in
      let parcel : Parcel = sent.parcel in
      let is : parcel.dir ≡ d = sent.is.dir_is in
      let old : TileValue = tile_in c.received r in
      let made : HasMergedOne parcel old = tile_merged parcel old (subst (λ (k : ℕ). k < directions) (sym is) dir)
      (λ first. (stands.place.receives r within).bare here (omega arith)
      (bounded here (is_merged c r here) (omega arith) ∙ ap (λ (k : ℕ). is_merged c r k) (sym first ∙ is) ∙ unmerged)) in
      let next : CoreState = after_merge c r d made.tile in
      let there : Stands next = merge_stands c r d made.tile parcel stands can sent.there made.merged in
      let merges : Merges c r d next = record { parcel = parcel; tile = made.tile; there = sent.there; merged = made.merged; is = refl } in
      leads_one (Merge r d) next (ran_event c (Merge r d) next can merges there) there f p (posts m r d) h (record {
        frame = marks.frame;
        opening = marks.opening;
        claims = marks.claims;
        posts = marks.posts;
        merges = λ x y under inside. pair_set c.merged r d x y m stands.places.merged below dir inside (marks.merges x y under inside);
        shuts = marks.shuts;
      })
    where
      turn : (d ≡ here) ⊎ (m r here ≡ true) → (d ≡ here) ⊎ (is_merged c r here ≡ true)
      turn (inl first) = inl first
      turn (inr on) = inr (marks.merges r here below (omega arith) ∙ on)

  pub shut_leads : (r : ℕ) → r < T → ((e : ℕ) → e < directions → m r e ≡ true) → h r ≡ false
      → Leads o c (Shut r ∷ []) f p m (at_else r true h)
  shut_leads r below all free =
      let can : CanShut c r = record {
        tile = here_too r below;
        all = λ e inside. marks.merges r e below inside ∙ all e inside;
        free = marks.shuts r below ∙ free;
      } in
      let next : CoreState = after_shut c r in
      let there : Stands next =
      subst (λ (ts : List TileValue). Stands (record c { shut = slice_set c.shut r true; received = ts })) (set-get_or {A = TileValue} c.received r no_tile)
      (shut_made c r (tile_in c.received r) stands can refl) in
      leads_one (Shut r) next (ran_event c (Shut r) next can refl there) there f p m (at_else r true h) (record {
        frame = marks.frame;
        opening = marks.opening;
        claims = marks.claims;
        posts = marks.posts;
        merges = marks.merges;
        shuts = λ i inside. now_set c.shut (tile_count c) r i h stands.places.shut (here_too r below) (marks.shuts i inside);
      })
