-- A post keeps the rule of the board.
use Rattle.std.proofs.Common.{◌≡◌, ℕ, suc, ◌+◌, ◌%◌, ◌^◌, ◌<◌, ◌≤◌, List, ◌∷◌, ◌++◌, length, length-set, set, slice_index, Bool, true, false, eqb, eq-eqb}
use Rattle.std.proofs.Common.{ne_eqb, if◌then◌else◌, Some, None, inl, inr, refl, sym, ap, ◌∙◌, subst, arith, true≢false}
use Rattle.std.proofs.Math.Decide.{ℕ_discrete}
use Rattle.std.proofs.Math.Nat.{mod-eq_of_lt}
use mathlib.Core.Option.{Option, none, some, some-ne-none}
use lib.ListN.{get_elem?}
use Rattle.atomic_table.specs.Table.{State, Me, Act, chain, gives, Valid, Allows, stepped, homes_after, carried_after}
use Rattle.atomic_table.proofs.Lists.{set_here, set_else}
use Rattle.pic_yard.specs.Fronts.{seek}
use Rattle.pic_tile.specs.Directions.{directions, here}
use Rattle.pic_yard.specs.declared.opening.Opening.{Opening}
use Rattle.pic_yard.specs.declared.view.View.{View}
use Rattle.pic_yard.specs.Arrivals.{behind, IsAboutToPost, HasAllMail, Arrived}
use Rattle.pic_yard.specs.Contents.{Slot, vacant, tiles_in, to_of, from_of, HoldsParcel, slot_kinds}
use Rattle.pic_yard.specs.Marks.{Board, Marks, IsOwed, IsRight}
use Rattle.pic_yard.specs.Members.{count_below}
use Rattle.pic_yard.specs.Places.{IsHome, Places, Aways}
use Rattle.pic_yard.specs.Rule.{Rule, board_of, ticket_of}
use Rattle.pic_yard.specs.Sits.{slot_at, IsMine, a_box, a_home, of_right}
use Rattle.pic_yard.specs.Steps.{did_post}
use Rattle.pic_yard.specs.Tickets.{Tickets}
use Rattle.pic_yard.proofs.ArriveLaws.{ComesHome, GoesAway, post_places, post_aways, last_places, last_aways}
use Rattle.pic_yard.proofs.CountLaws.{count_le, count_all}
use Rattle.pic_yard.proofs.BehindLaws.{post_act, behind_here, behind_step, act_here, act_step, gone_box, gone_home, once_behind}
use Rattle.pic_yard.proofs.CollectLaws.{take_all, Collected, collect, cleared, homes_cleared, all_carried, slot_row, slot_place}
use Rattle.pic_yard.proofs.PlaceLaws.{SlotsHold, own_from}
use Rattle.pic_yard.proofs.PostLaws.{posts, OneArrives, post_marks, not_full, found_word, posts_other, count_posts}
use Rattle.pic_yard.proofs.TallyLaws.{one_step}
use Rattle.pic_yard.proofs.TicketLaws.{keep_numbers}
use Rattle.pic_yard.proofs.ViewLaws.{each_view, below_there}
use Rattle.pic_yard.proofs.WayLaws.{slots_hold, ways_of}
use Rattle.pic_yard.proofs.WordLaws.{word_now, word_still, found_or}

module _ (o : Opening) (s : State Slot View) (rule : Rule o s) (id : ℕ) (me : Me Slot View) (at : get_elem? s.views id ≡ some me.0)
    (r d : ℕ) (parcel : Slot) (slots : List (ℕ × Slot)) (load : IsAboutToPost o me r d parcel slots) where
  abbrev board : Board
  board = board_of o s rule.posted rule.shut

  abbrev hold : SlotsHold (slot_kinds o) board (to_of o)
  hold = slots_hold o s rule

  abbrev T : ℕ
  T = tiles_in o

  abbrev n : ℕ
  n = count_below (rule.posted r) directions

  abbrev owed : IsOwed T directions (ticket_of s) (from_of o) rule.posted rule.marks.claimer r d id
  owed = rule.marks.owes id me.0 at load.live r d load.owes

  abbrev box : ℕ
  box = slot_at r d

  abbrev home : ℕ
  home = slot_at r directions

  box_away : get_elem? s.homes box ≡ some none
  box_away = rule.aways.lent r d owed.tile owed.dir owed.sender owed.free

  home_away : d ≡ here → get_elem? s.homes home ≡ some none
  home_away is =
      let free : rule.posted r here ≡ false = ap (λ (k : ℕ). rule.posted r k) (sym is) ∙ owed.free in
      let own : from_of o r here ≡ r = own_from T directions here (to_of o) (from_of o) (ways_of o) r owed.tile in
      let less : r < ticket_of s = subst (λ (k : ℕ). k < ticket_of s) (ap (λ (k : ℕ). from_of o r k) is ∙ own) owed.sender in
      rule.aways.left r owed.tile less free

  home_apart : home ≡ box → ⊥
  home_apart same =
      let dir : d < directions = owed.dir in
      let e : directions ≡ d = slot_place directions r directions r d (omega arith) (omega (arith, dir)) same in omega (arith, e, dir)

  -- what is at home after the parcel is given
  abbrev one_home : List (Option Slot)
  one_home = set s.homes box (some parcel)

  abbrev two_home : List (Option Slot)
  two_home = set one_home home (some vacant)

  given : List (Option Slot)
  given = if eqb d here then two_home else one_home

  given_here : d ≡ here → given ≡ two_home
  unfolding given
  given_here is = ap (λ (b : Bool). if b then two_home else one_home) (eq-eqb d here is)

  given_step : (d ≡ here → ⊥) → given ≡ one_home
  unfolding given
  given_step apart = ap (λ (b : Bool). if b then two_home else one_home) (ne_eqb d here apart)

  -- and that is what the act does
  act_homes : homes_after s.homes me.1 (post_act d) ≡ given
  act_homes = elim (ℕ_discrete d here) [
    | yes is ↦
        ap (λ (a : Act Slot). homes_after s.homes me.1 a) (act_here d slots is)
        ∙ ap (λ (c : List (ℕ × Slot)). homes_after s.homes c (chain gives gives)) (load.first
        ∙ ap (λ (c : List (ℕ × Slot)). (box, parcel) ∷ c) (load.home is)) ∙ sym (given_here is)
    | no apart ↦
        ap (λ (a : Act Slot). homes_after s.homes me.1 a) (act_step d slots apart)
        ∙ ap (λ (c : List (ℕ × Slot)). homes_after s.homes c gives) load.first ∙ sym (given_step apart)
  ]

  act_carried : carried_after me.1 (post_act d) ≡ behind d slots
  act_carried = elim (ℕ_discrete d here) [
    | yes is ↦
        ap (λ (a : Act Slot). carried_after me.1 a) (act_here d slots is)
        ∙ ap (λ (c : List (ℕ × Slot)). carried_after c (chain gives gives)) load.first ∙ sym (behind_here d slots is)
    | no apart ↦
        ap (λ (a : Act Slot). carried_after me.1 a) (act_step d slots apart)
        ∙ ap (λ (c : List (ℕ × Slot)). carried_after c gives) load.first ∙ sym (behind_step d slots apart)
  ]

  act_valid : Valid s.homes me.1 (post_act d)
  act_valid = elim (ℕ_discrete d here) [
    | yes is ↦ subst (λ (a : Act Slot). Valid s.homes me.1 a) (sym (act_here d slots is)) (tt, tt)
    | no apart ↦ subst (λ (a : Act Slot). Valid s.homes me.1 a) (sym (act_step d slots apart)) tt
  ]

  given_long : length given ≡ length s.homes
  given_long = elim (ℕ_discrete d here) [
    | yes is ↦ ap (λ (hs : List (Option Slot)). length hs) (given_here is) ∙ length-set one_home home (some vacant) ∙ length-set s.homes box (some parcel)
    | no apart ↦ ap (λ (hs : List (Option Slot)). length hs) (given_step apart) ∙ length-set s.homes box (some parcel)
  ]

  one_there : get_elem? one_home box ≡ some (some parcel)
  one_there = set_here s.homes box (some parcel) (below_there s.homes box none box_away)

  abbrev Comes : List (Option Slot) → Type 0
  Comes later = ComesHome hold rule.marks.claimer r d id owed later

  comes : Comes given
  comes = elim (ℕ_discrete d here) [
    | yes is ↦
        let inside : home < length one_home = below_there one_home home none (set_else s.homes box home (some parcel) home_apart ∙ home_away is) in
        subst (λ (hs : List (Option Slot)). Comes hs) (sym (given_here is)) (record {
          box = record { value = parcel; there = set_else one_home home box (some vacant) (λ e. home_apart (sym e)) ∙ one_there; is = load.is };
          home = λ h. record { value = vacant; there = set_here one_home home (some vacant) inside; is = refl };
          others = λ k not_box not_home. set_else one_home home k (some vacant) (not_home is) ∙ set_else s.homes box k (some parcel) not_box;
        })
    | no apart ↦
        subst (λ (hs : List (Option Slot)). Comes hs) (sym (given_step apart)) (record {
          box = record { value = parcel; there = one_there; is = load.is };
          home = λ h. absurd (apart h);
          others = λ k not_box not_home. set_else s.homes box k (some parcel) not_box;
        })
  ]

  word : slice_index s.words (suc r) ≡ n
  word = found_word board s.words s.words s.views rule.marks id me.0 at load.live r d load.owes

  there : suc r < length s.words
  there = let e : length s.words ≡ suc T = rule.words in let b : r < T = owed.tile in omega (arith, e, b)

  next_word : (n + 1) % 2 ^ 64 ≡ suc n
  next_word =
      let a : n ≤ directions = count_le (rule.posted r) directions in mod-eq_of_lt (omega (arith, a)) ∙ omega arith

  words_are : OneArrives T r (suc n) s.words (set s.words (suc r) (suc n))
  words_are = record {
    now = word_now s.words (suc r) (suc n) there;
    others = λ x tile apart. word_still s.words (suc r) (suc x) (suc n) (λ e. apart (omega (arith, e)));
  }

  same_ticket : ticket_of (record s { words = set s.words (suc r) (suc n) }) ≡ ticket_of s
  same_ticket = word_still s.words (suc r) 0 (suc n) (λ e. omega (arith, e))

  abbrev after : View
  after = did_post directions r d n me.0

  abbrev now_posted : ℕ → ℕ → Bool
  now_posted = posts rule.posted r d

  opened_still : (i : ℕ) (x : View) → get_elem? (set s.views id after) i ≡ some x → x.live ≡ true → x.opening ≡ Some o
  opened_still = each_view (λ (i : ℕ) (x : View). x.opening ≡ Some o) s.views id after (λ alive. load.opened)
      (λ i x apart there alive. rule.opened i x there alive)

  -- the rule after the post, over what is then at home
  post_rule : (later : List (Option Slot)) → length later ≡ length s.homes
      → Places (slot_kinds o) (record board { posted = now_posted }) later → Aways (record board { posted = now_posted }) later
      → Rule o (record { words = set s.words (suc r) (suc n); homes = later; views = set s.views id after })
  post_rule later long places aways = record {
    posted = now_posted;
    shut = rule.shut;
    sound = rule.sound;
    opens = rule.opens;
    small = rule.small;
    words = length-set s.words (suc r) (suc n) ∙ rule.words;
    slots = long ∙ rule.slots;
    opened = opened_still;
    tickets = subst (λ (k : ℕ). Tickets T o.seats k (set s.views id after)) (sym same_ticket)
        (keep_numbers T o.seats (ticket_of s) s.views rule.tickets id me.0 at load.live after.owes after.rights);
    marks = subst (λ (k : ℕ). Marks (record board { ticket = k; posted = now_posted }) (set s.words (suc r) (suc n)) (set s.views id after)) (sym same_ticket)
        (post_marks board s.words (set s.words (suc r)
        (suc n)) s.views rule.marks id me.0 at load.live r d load.owes words_are);
    places = subst (λ (k : ℕ). Places (slot_kinds o) (record board { ticket = k; posted = now_posted }) later) (sym same_ticket) places;
    aways = subst (λ (k : ℕ). Aways (record board { ticket = k; posted = now_posted }) later) (sym same_ticket) aways;
    tally = one_step s.words s.views (suc r) n id me.0 after rule.tally there word at refl;
  }

  less_than_all : n < directions
  less_than_all =
      not_full board s.words s.words s.views rule.marks id me.0 at load.live r d load.owes

  -- the post that isn't the last
  counted_rule : suc n < directions → Rule o (stepped s (suc r) (suc n) id me.1 after (post_act d))
  counted_rule few = post_rule (homes_after s.homes me.1 (post_act d)) (ap (λ (hs : List (Option Slot)). length hs) act_homes ∙ given_long)
      (subst (λ (hs : List (Option Slot)). Places (slot_kinds o) (record board { posted = now_posted }) hs) (sym act_homes)
      (post_places hold rule.marks.claimer r d id owed few given comes))
      (subst (λ (hs : List (Option Slot)). Aways (record board { posted = now_posted }) hs) (sym act_homes)
      (post_aways hold rule.marks.claimer r d id owed few given comes))

  -- The last post: all slots of r are taken.

  abbrev mail_by : Bool → ℕ → Slot → Type 0
  mail_by true k y = y ≡ vacant
  mail_by false k y = HoldsParcel o (from_of o r k) k y

  abbrev mail_kind : ℕ → Slot → Type 0
  mail_kind k y = mail_by (eqb k directions) k y

  mail_home : (k : ℕ) (y : Slot) → k ≡ directions → mail_kind k y ≡ (y ≡ vacant)
  mail_home k y is = ap (λ (b : Bool). mail_by b k y) (eq-eqb k directions is)

  mail_box : (k : ℕ) (y : Slot) → (k ≡ directions → ⊥) → mail_kind k y ≡ HoldsParcel o (from_of o r k) k y
  mail_box k y apart = ap (λ (b : Bool). mail_by b k y) (ne_eqb k directions apart)

  module _ (full : suc n ≡ directions) where
    others_posted : (k : ℕ) → k < directions → (k ≡ d → ⊥) → rule.posted r k ≡ true
    others_posted k dir apart =
        sym (posts_other rule.posted r d r k (λ same. apart same.1))
        ∙ count_all (now_posted r) directions k (count_posts rule.posted r d directions owed.dir owed.free ∙ full) dir

    last_there : (k : ℕ) → k < suc directions → IsHome given (slot_at r k) (mail_kind k)
    last_there k below = elim (ℕ_discrete k directions) [
      | yes is ↦
          let empty : IsHome given home (λ (y : Slot). y ≡ vacant) = elim (ℕ_discrete d here) [
            | yes h ↦ comes.home h
            | no apart ↦
                let old : IsHome s.homes home (λ (y : Slot). y ≡ vacant) = rule.places.between r owed.tile (others_posted here (omega arith) (λ e. apart
                (sym e))) less_than_all in
                record { value = old.value; there = comes.others home home_apart (λ h same. apart h) ∙ old.there; is = old.is }
          ] in
          record {
            value = empty.value;
            there = ap (λ (q : ℕ). get_elem? given (slot_at r q)) is ∙ empty.there;
            is = subst (λ (A : Type 0). A) (sym (mail_home k empty.value is)) empty.is;
          }
      | no top ↦
          let dir : k < directions = omega (arith, below, top) in
          elim (ℕ_discrete k d) [
            | yes is ↦
                let here_it : IsHome given box (HoldsParcel o (from_of o r d) d) = comes.box in
                record {
                  value = here_it.value;
                  there = ap (λ (q : ℕ). get_elem? given (slot_at r q)) is ∙ here_it.there;
                  is = subst (λ (A : Type 0). A) (sym (mail_box k here_it.value top)) (subst (λ (q : ℕ). HoldsParcel o (from_of o r q) q here_it.value)
                      (sym is) here_it.is);
                }
            | no apart ↦
                let old : IsHome s.homes (slot_at r k) (HoldsParcel o (from_of o r k) k) = rule.places.full r k owed.tile dir
                (others_posted k dir apart) less_than_all in
                let way : d < directions = owed.dir in
                record {
                  value = old.value;
                  there = comes.others (slot_at r k) (λ e. apart (slot_place directions r k r d below (omega (arith, way)) e))
                      (λ h e. top (slot_place directions r k r directions below (omega arith) e)) ∙ old.there;
                  is = subst (λ (A : Type 0). A) (sym (mail_box k old.value top)) old.is;
                }
          ]
    ]

    takes : Collected given (suc directions) (slot_at r) mail_kind
    takes = collect given (suc directions) (slot_at r) mail_kind last_there (λ k l first second same. slot_place directions r k r l first second same) None

    abbrev Goes : List (Option Slot) → Type 0
    Goes later =
        GoesAway hold rule.marks.claimer r d id owed later

    goes : Goes (cleared given takes.list)
    goes = record {
      away = takes.away;
      others = λ q k apart below.
          let way : d < directions = owed.dir in
          takes.others (slot_at q k) (λ l less same. apart (slot_row directions q k r l below less same))
          ∙ comes.others (slot_at q k) (λ same. apart (slot_row directions q k r d below (omega (arith, way)) same))
          (λ h same. apart (slot_row directions q k r directions below (omega arith) same));
    }

    abbrev last_act : Act Slot
    last_act = chain (post_act d) (take_all takes.list)

    last_homes : homes_after s.homes me.1 last_act ≡ cleared given takes.list
    last_homes =
        homes_cleared (homes_after s.homes me.1 (post_act d)) (carried_after me.1 (post_act d)) takes.list
        ∙ ap (λ (hs : List (Option Slot)). cleared hs takes.list) act_homes

    last_carried : carried_after me.1 last_act ≡ takes.list ++ behind d slots
    last_carried = all_carried (carried_after me.1 (post_act d)) takes.list ∙ ap (λ (c : List (ℕ × Slot)). takes.list ++ c) act_carried

    last_valid : Valid s.homes me.1 last_act
    last_valid = (
      act_valid,
      subst (λ (hs : List (Option Slot)). Valid hs (carried_after me.1 (post_act d)) (take_all takes.list)) (sym act_homes)
          (takes.valid (carried_after me.1 (post_act d))),
    )

    last_rule : Rule o (stepped s (suc r) (suc n) id me.1 after last_act)
    last_rule = post_rule (homes_after s.homes me.1 last_act) (ap (λ (hs : List (Option Slot)). length hs) last_homes ∙ takes.long ∙ given_long)
        (subst (λ (hs : List (Option Slot)). Places (slot_kinds o) (record board { posted = now_posted }) hs) (sym last_homes)
        (last_places hold rule.marks.claimer r d id owed full (cleared given takes.list) goes))
        (subst (λ (hs : List (Option Slot)). Aways (record board { posted = now_posted }) hs) (sym last_homes)
        (last_aways hold rule.marks.claimer r d id owed full (cleared given takes.list) goes))

    -- none of the slots taken was with the seat
    not_mine : (k : ℕ) → k < suc directions → IsMine me.0 (slot_at r k) → (y : Slot) → seek (slot_at r k) (behind d slots) ≡ some y → ⊥
    not_mine k below (a_box q e way same is) y there =
        let row : r ≡ q = slot_row directions r k q e below (omega (arith, way)) same in
        let col : k ≡ e = slot_place directions r k q e below (omega (arith, way)) same in
        let o' : IsOwed T directions (ticket_of s) (from_of o) rule.posted rule.marks.claimer q e id = rule.marks.owes id me.0 at load.live q e is in
        let free : rule.posted r k ≡ false = (λ i. rule.posted (row i) (col i)) ∙ o'.free in
        let dir : k < directions = omega (arith, col, way) in
        elim (ℕ_discrete k d) [
          | yes it ↦ some-ne-none y (sym there ∙ ap (λ (l : ℕ). seek (slot_at r l) (behind d slots)) it
              ∙ gone_box o me r d parcel slots load home_apart)
          | no apart ↦ true≢false (sym (others_posted k dir apart) ∙ free)
        ]
    not_mine k below (a_home t same is) y there =
        let row : r ≡ t = slot_row directions r k t directions below (omega arith) same in
        let col : k ≡ directions = slot_place directions r k t directions below (omega arith) same in
        let o' : IsOwed T directions (ticket_of s) (from_of o) rule.posted rule.marks.claimer t here id = rule.marks.owes id me.0 at load.live t here is in
        let free : rule.posted r here ≡ false = ap (λ (q : ℕ). rule.posted q here) row ∙ o'.free in
        elim (ℕ_discrete here d) [
          | yes it ↦ some-ne-none y (sym there ∙ ap (λ (l : ℕ). seek (slot_at r l) (behind d slots)) col
              ∙ gone_home o me r d parcel slots load (sym it))
          | no apart ↦ true≢false (sym (others_posted here (omega arith) apart) ∙ free)
        ]
    not_mine k below (of_right q l less same is) y there =
        let row : r ≡ q = slot_row directions r k q l below less same in
        let right : IsRight T directions rule.posted rule.shut rule.marks.finisher q id = rule.marks.rights id me.0 at load.live q is in
        let all : n ≡ directions = ap (λ (t : ℕ). count_below (rule.posted t) directions) row ∙ right.all in omega (arith, all, full)

    slot_new : (k : ℕ) → k < suc directions → seek (slot_at r k) (behind d slots) ≡ none
    slot_new k below = elim (found_or (seek (slot_at r k) (behind d slots))) [
      | inl is ↦ is
      | inr hit ↦ absurd (not_mine k below (load.only (slot_at r k) hit.0 hit.1) hit.0 hit.1)
    ]

    last_told : HasAllMail o r (behind d slots) (carried_after me.1 last_act)
    last_told = subst (λ (c : List (ℕ × Slot)). HasAllMail o r (behind d slots) c) (sym last_carried) (record {
      parcel = takes.value;
      mail = λ k dir. takes.found k (omega (arith, dir)) (behind d slots);
      is = λ k dir. subst (λ (A : Type 0). A) (mail_box k (takes.value k) (λ e. omega (arith, e, dir))) (takes.is k (omega (arith, dir)));
      home =
          let empty : takes.value directions ≡ vacant = subst (λ (A : Type 0). A) (mail_home directions (takes.value directions) refl)
          (takes.is directions (omega arith)) in
          takes.found directions (omega arith) (behind d slots) ∙ ap (λ (y : Slot). some y) empty;
      others = λ slot not. takes.past slot not (behind d slots);
      fresh = slot_new;
      once = takes.apart (behind d slots) (once_behind o me r d parcel slots load) slot_new;
    })

  -- what a post needs of the table's state
  pub post_here : (u : View) × (a : Act Slot) × Valid s.homes me.1 a × Rule o (stepped s (suc r) ((slice_index s.words (suc r) + 1) % 2 ^ 64) id me.1 u a)
      × Arrived o r d slots me (slice_index s.words (suc r)) (u, carried_after me.1 a)
  post_here =
      let Here : ℕ → ℕ → Type 0 = λ x y. (u : View) × (a : Act Slot) × Valid s.homes me.1 a × Rule o (stepped s
      (suc r) y id me.1 u a) × Arrived o r d slots me x (u, carried_after me.1 a) in
      let result : Here n (suc n) = elim (ℕ_discrete (suc n) directions) [
        | yes full ↦ (
          after,
          last_act full,
          last_valid full,
          last_rule full,
          record {
            view = refl;
            few = less_than_all;
            counted = λ less. absurd (omega (arith, less, full));
            last = λ again. last_told full;
          },
        )
        | no apart ↦
            let few : suc n < directions = let a : n < directions = less_than_all in omega (arith, a, apart) in (
              after,
              post_act d,
              act_valid,
              counted_rule few,
              record {
                view = refl;
                few = less_than_all;
                counted = λ less. act_carried;
                last = λ full. absurd (apart full);
              },
            )
      ] in
      subst (λ (x : ℕ). Here x ((x + 1) % 2 ^ 64)) (sym word) (subst (λ (y : ℕ). Here n y) (sym next_word) result)

-- a post by a seat that owes the parcel and has it at hand
pub post_allowed : (o : Opening) (slots id : ℕ) (me : Me Slot View) (r d : ℕ) (parcel : Slot) (list : List (ℕ × Slot)) → IsAboutToPost o me r d parcel list
    → Allows (Rule o) slots id me (suc r) (λ n. (n + 1) % 2 ^ 64) (Arrived o r d list me)
post_allowed o slots id me r d parcel list load s rule wide at small = post_here o s rule id me at r d parcel list load
