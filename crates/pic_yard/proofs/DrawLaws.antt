-- A draw keeps the rule of the board.
use Rattle.std.proofs.Common.{
  ◌≡◌,
  ℕ,
  suc,
  ◌+◌,
  ◌%◌,
  ◌^◌,
  ◌<◌,
  ◌≤◌,
  List,
  ◌++◌,
  length,
  length-set,
  set,
  slice_index,
  sum,
  Bool,
  true,
  false,
  Some,
  None,
  inl,
  inr,
}
use Rattle.std.proofs.Common.{refl, sym, ap, ◌∙◌, subst, arith}
use Rattle.std.proofs.Math.Decide.{ℕ_discrete}
use Rattle.std.proofs.Math.Nat.{mod-eq_of_lt}
use mathlib.Core.Option.{Option, none, some, some-ne-none}
use native.Mathlib.Decide.{dec_le}
use lib.ListN.{get_elem?}
use Rattle.atomic_table.specs.Table.{State, Me, Act, keeps, Valid, Allows, stepped, homes_after, carried_after}
use Rattle.pic_yard.specs.Fronts.{seek}
use Rattle.pic_tile.specs.Directions.{directions, here}
use Rattle.pic_yard.specs.declared.opening.Opening.{Opening}
use Rattle.pic_yard.specs.declared.view.View.{View}
use Rattle.pic_yard.specs.Acts.{Apart}
use Rattle.pic_yard.specs.Contents.{Slot, tiles_in, to_of, from_of, tile_at, slot_kinds}
use Rattle.pic_yard.specs.Marks.{Board, IsOwed, IsRight, Marks}
use Rattle.pic_yard.specs.Tickets.{Tickets}
use Rattle.pic_yard.specs.Members.{count_below}
use Rattle.pic_yard.specs.Places.{Places, Aways}
use Rattle.pic_yard.specs.Rule.{Rule, board_of, steps_in, ticket_of}
use Rattle.pic_yard.specs.Sits.{slot_at, IsMine, a_box, a_home, of_right, Sits, Claimed, Drawn}
use Rattle.pic_yard.specs.Sits as claimed
use Rattle.pic_yard.specs.Steps.{did_claim, was_told}
use Rattle.pic_yard.proofs.CountLaws.{count_le, count_all}
use Rattle.pic_yard.proofs.CollectLaws.{take_all, Collected, which_place, cleared, homes_cleared, all_carried, slot_row, slot_place}
use Rattle.pic_yard.proofs.MarkLaws.{ArrivalsStay, claim_marks, told_marks}
use Rattle.pic_yard.proofs.PlaceLaws.{SlotsHold, claim_slot, claim_kind, claim_home, claim_box, kind_home}
use Rattle.pic_yard.proofs.PlaceLaws.{kind_box, claim_takes, claim_places, claim_aways, told_places}
use Rattle.pic_yard.proofs.PlaceLaws.{told_aways, own_from}
use Rattle.pic_yard.proofs.TallyLaws.{one_step}
use Rattle.pic_yard.proofs.TicketLaws.{draw_claims, draw_tells}
use Rattle.pic_yard.proofs.ViewLaws.{each_view}
use Rattle.pic_yard.proofs.WayLaws.{slots_hold, ways_of}
use Rattle.pic_yard.proofs.WordLaws.{word_now, word_still, found_or}

module _ (o : Opening) (s : State Slot View) (rule : Rule o s) (id : ℕ) (me : Me Slot View) (sits : Sits o me) (at : get_elem? s.views id ≡ some me.0) where
  abbrev board : Board
  board = board_of o s rule.posted rule.shut

  abbrev hold : SlotsHold (slot_kinds o) board (to_of o)
  hold = slots_hold o s rule

  abbrev T : ℕ
  T = tiles_in o

  abbrev n : ℕ
  n = ticket_of s

  pub next_word : (n + 1) % 2 ^ 64 ≡ suc n
  next_word =
      let told : ℕ → Bool = rule.tickets.told in
      let a : n ≤ T + count_below told o.seats = rule.tickets.bound in let b : count_below told o.seats ≤ o.seats = count_le told o.seats in
      let c : T + o.seats + 1 < 2 ^ 64 = rule.small in
      mod-eq_of_lt (omega (arith, a, b, c)) ∙ omega arith

  first_word : slice_index (set s.words 0 (suc n)) 0 ≡ suc n
  first_word = word_now s.words 0 (suc n) (let e : length s.words ≡ suc T = rule.words in omega (arith, e))

  arrivals : ArrivalsStay T s.words (set s.words 0 (suc n))
  arrivals r tile = word_still s.words 0 (suc r) (suc n) (λ e. omega (arith, e))

  -- all live views have the opening still
  pub opened_still : (u : View) → u.opening ≡ me.0.opening → (i : ℕ) (x : View) → get_elem? (set s.views id u) i ≡ some x → x.live ≡ true → x.opening ≡ Some o
  opened_still u same = each_view (λ (i : ℕ) (x : View). x.opening ≡ Some o) s.views id u (λ alive. same
      ∙ sits.opened) (λ i x apart there alive. rule.opened i x there alive)

  -- the ticket is one more, by a step of this seat
  one_more : (u : View) → u.steps ≡ suc me.0.steps → sum (set s.words 0 (suc n)) ≡ steps_in (set s.views id u)
  one_more u steps =
      one_step s.words s.views 0 n id me.0 u rule.tally (let e : length s.words ≡ suc T = rule.words in omega (arith, e)) refl at steps

  abbrev place : ℕ → ℕ
  place =
      claim_slot hold

  abbrev kind : ℕ → Slot → Type 0
  kind =
      claim_kind hold

  kind_is_home : kind directions ≡ (λ (y : Slot). y ≡ tile_at o n)
  kind_is_home =
      kind_home hold

  kind_is_box : (k : ℕ) → (k ≡ directions → ⊥) → kind k ≡ (λ (y : Slot). y ≡ None)
  kind_is_box =
      kind_box hold

  abbrev Takes : Type 0
  Takes = Collected s.homes (suc directions) place kind

  at_home : place directions ≡ slot_at n directions
  at_home =
      claim_home hold

  at_box : (k : ℕ) → (k ≡ directions → ⊥) → place k ≡ slot_at (to_of o n k) k
  at_box =
      claim_box hold

  module _ (tile : n < T) (got : Takes) where
    abbrev after : View
    after = did_claim (to_of o) directions n me.0

    abbrev act : Act Slot
    act = take_all got.list

    abbrev later : List (Option Slot)
    later = homes_after s.homes me.1 act

    same_homes : cleared s.homes got.list ≡ later
    same_homes = sym (homes_cleared s.homes me.1 got.list)

    -- the rule after a claim
    claim_rule : Rule o (stepped s 0 (suc n) id me.1 after act)
    claim_rule = record {
      posted = rule.posted;
      shut = rule.shut;
      sound = rule.sound;
      opens = rule.opens;
      small = rule.small;
      words = length-set s.words 0 (suc n) ∙ rule.words;
      slots = ap (λ (hs : List (Option Slot)). length hs) (sym same_homes) ∙ got.long ∙ rule.slots;
      opened = opened_still after refl;
      tickets = subst (λ (k : ℕ). Tickets T o.seats k (set s.views id after)) (sym first_word)
          (draw_claims T o.seats n s.views rule.tickets id me.0 at sits.live after.owes after.rights tile);
      marks = subst (λ (k : ℕ). Marks (record board { ticket = k }) (set s.words 0 (suc n)) (set s.views id after)) (sym first_word)
          (claim_marks board (to_of o) (ways_of o) s.words (set s.words 0
          (suc n)) s.views rule.marks id me.0 at sits.live arrivals tile);
      places = subst (λ (k : ℕ). Places (slot_kinds o) (record board { ticket = k }) later) (sym first_word)
          (subst (λ (hs : List (Option Slot)). Places (slot_kinds o) (record board { ticket = suc n }) hs) same_homes
          (claim_places hold tile got));
      aways = subst (λ (k : ℕ). Aways (record board { ticket = k }) later) (sym first_word)
          (subst (λ (hs : List (Option Slot)). Aways (record board { ticket = suc n }) hs) same_homes
          (claim_aways hold tile got));
      tally = one_more after refl;
    }

    -- no slot of the claim was with the seat before
    box_new : (k : ℕ) → k < directions → IsMine me.0 (slot_at (to_of o n k) k) → ⊥
    box_new k dir (a_box r d way same is) =
        let row : to_of o n k ≡ r = slot_row directions (to_of o n k) k r d (omega (arith, dir)) (omega (arith, way)) same in
        let col : k ≡ d = slot_place directions (to_of o n k) k r d (omega (arith, dir)) (omega (arith, way)) same in
        let owed : IsOwed T directions n (from_of o) rule.posted rule.marks.claimer r d id = rule.marks.owes id me.0 at sits.live r d is in
        let sent : from_of o r d ≡ n = (λ i. from_of o (sym row i) (sym col i)) ∙ (ways_of o).back n k tile dir in
        let less : from_of o r d < n = owed.sender in omega (arith, less, sent)
    box_new k dir (a_home t same is) =
        let col : k ≡ directions = slot_place directions (to_of o n k) k t directions (omega (arith, dir)) (omega arith) same in omega (arith, col, dir)
    box_new k dir (of_right r l below same is) =
        let row : to_of o n k ≡ r = slot_row directions (to_of o n k) k r l (omega (arith, dir)) below same in
        let right : IsRight T directions rule.posted rule.shut rule.marks.finisher r id = rule.marks.rights id me.0 at sits.live r is in
        let sent : from_of o r k ≡ n = ap (λ (q : ℕ). from_of o q k) (sym row) ∙ (ways_of o).back n k tile dir in
        let less : from_of o r k < n = rule.marks.came r k right.tile dir (count_all (rule.posted r) directions k right.all dir) in omega (arith, less, sent)

    home_new : IsMine me.0 (slot_at n directions) → ⊥
    home_new (a_box r d way same is) =
        let col : directions ≡ d = slot_place directions n directions r d (omega arith) (omega (arith, way)) same in omega (arith, col, way)
    home_new (a_home t same is) =
        let row : n ≡ t = slot_row directions n directions t directions (omega arith) (omega arith) same in
        let owed : IsOwed T directions n (from_of o) rule.posted rule.marks.claimer t here id = rule.marks.owes id me.0 at sits.live t here is in
        let own : from_of o t here ≡ t = own_from T directions here (to_of o) (from_of o) (ways_of o) t owed.tile in
        let less : from_of o t here < n = owed.sender in omega (arith, less, own, row)
    home_new (of_right r l below same is) =
        let row : n ≡ r = slot_row directions n directions r l (omega arith) below same in
        let right : IsRight T directions rule.posted rule.shut rule.marks.finisher r id = rule.marks.rights id me.0 at sits.live r is in
        let own : from_of o r here ≡ r = own_from T directions here (to_of o) (from_of o) (ways_of o) r right.tile in
        let less : from_of o r here < n = rule.marks.came r here right.tile (omega arith) (count_all (rule.posted r) directions here right.all
        (omega arith)) in
        omega (arith, less, own, row)

    slot_new : (k : ℕ) → k < suc directions → seek (place k) me.1 ≡ none
    slot_new k below = elim (found_or (seek (place k) me.1)) [
      | inl is ↦ is
      | inr hit ↦
          let mine : IsMine me.0 (place k) = sits.carries.only (place k) hit.0 hit.1 in
          elim (ℕ_discrete k directions) [
            | yes is ↦ absurd (home_new (subst (λ (q : ℕ). IsMine me.0 q) (ap place is ∙ at_home) mine))
            | no apart ↦ absurd (box_new k (omega (arith, below, apart)) (subst (λ (q : ℕ). IsMine me.0 q) (at_box k apart) mine))
          ]
    ]

    abbrev carried : List (ℕ × Slot)
    carried = carried_after me.1 act

    is_carried : carried ≡ got.list ++ me.1
    is_carried = all_carried me.1 got.list

    -- what it tells
    claim_told : Claimed o me n (after, carried)
    claim_told = record {
      view = refl;
      boxes = λ d dir.
          let apart : d ≡ directions → ⊥ = λ e. omega (arith, e, dir) in
          let none_there : got.value d ≡ None = subst (λ (P : Slot → Type 0). P (got.value d)) (kind_is_box d apart) (got.is d (omega (arith, dir))) in
          ap (λ (l : List (ℕ × Slot)). seek (slot_at (to_of o n d) d) l) is_carried ∙ ap (λ (q : ℕ). seek q (got.list ++ me.1)) (sym (at_box d apart))
          ∙ got.found d (omega (arith, dir)) me.1 ∙ ap (λ (y : Slot). some y) none_there;
      home =
          let there : got.value directions ≡ tile_at o n = subst (λ (P : Slot
          → Type 0). P (got.value directions)) kind_is_home (got.is directions (omega arith)) in
          ap (λ (l : List (ℕ × Slot)). seek (slot_at n directions) l) is_carried ∙ ap (λ (q : ℕ). seek q (got.list ++ me.1)) (sym at_home)
          ∙ got.found directions (omega arith) me.1 ∙ ap (λ (y : Slot). some y) there;
      others = λ slot not.
          ap (λ (l : List (ℕ × Slot)). seek slot l) is_carried
          ∙ got.past slot (λ k below same. elim (ℕ_discrete k directions) [
            | yes is ↦ not (claimed.claim_home (same ∙ ap place is ∙ at_home))
            | no apart ↦ not (claimed.claim_box k (omega (arith, below, apart)) (same ∙ at_box k apart))
          ]) me.1;
      fresh = λ d dir.
          ap (λ (q : ℕ). seek q me.1) (sym (at_box d (λ e. omega (arith, e, dir)))) ∙ slot_new d (omega (arith, dir));
      kept = λ slot y there.
          ap (λ (l : List (ℕ × Slot)). seek slot l) is_carried
          ∙ got.past slot (λ k below same. some-ne-none y (sym there ∙ ap (λ (q : ℕ). seek q me.1) same ∙ slot_new k below)) me.1 ∙ there;
      came = λ slot y there. elim (which_place (suc directions) place slot) [
        | inl hit ↦ elim (ℕ_discrete hit.0 directions) [
          | yes is ↦ inl (claimed.claim_home (hit.2 ∙ ap place is ∙ at_home))
          | no apart ↦ let below : hit.0 < suc directions = hit.1 in inl (claimed.claim_box hit.0 (omega (arith, below, apart)) (hit.2 ∙ at_box hit.0 apart))
        ]
        | inr not ↦ inr (sym (got.past slot not me.1) ∙ sym (ap (λ (l : List (ℕ × Slot)). seek slot l) is_carried) ∙ there)
      ];
      once = subst (λ (l : List (ℕ × Slot)). Apart l) (sym is_carried) (got.apart me.1 sits.carries.once slot_new);
    }

  -- the rule after a draw past the last tile
  told_rule : T ≤ n → me.0.told ≡ false → Rule o (stepped s 0 (suc n) id me.1 (was_told n me.0) keeps)
  told_rule past fresh =
      let after : View = was_told n me.0 in
      record {
        posted = rule.posted;
        shut = rule.shut;
        sound = rule.sound;
        opens = rule.opens;
        small = rule.small;
        words = length-set s.words 0 (suc n) ∙ rule.words;
        slots = rule.slots;
        opened = opened_still after refl;
        tickets = subst (λ (k : ℕ). Tickets T o.seats k (set s.views id after)) (sym first_word)
            (draw_tells T o.seats n s.views rule.tickets id me.0 at sits.live me.0.owes me.0.rights past fresh);
        marks = subst (λ (k : ℕ). Marks (record board { ticket = k }) (set s.words 0 (suc n)) (set s.views id after)) (sym first_word)
            (told_marks board (to_of o) (ways_of o) s.words (set s.words 0
            (suc n)) s.views rule.marks id me.0 at sits.live arrivals (suc n) true past);
        places = subst (λ (k : ℕ). Places (slot_kinds o) (record board { ticket = k }) s.homes) (sym first_word)
            (told_places hold past);
        aways = subst (λ (k : ℕ). Aways (record board { ticket = k }) s.homes) (sym first_word)
            (told_aways hold past);
        tally = one_more after refl;
      }

  drawn_before : me.0.drawn ≤ n
  drawn_before = (rule.tickets.each id me.0 at sits.live).drawn

  -- what a draw needs of the table's state
  pub draw_here : me.0.told ≡ false → (w : View) × (a : Act Slot) × Valid s.homes me.1 a
      × Rule o (stepped s 0 ((n + 1) % 2 ^ 64) id me.1 w a) × Drawn o me n (w, carried_after me.1 a)
  draw_here fresh = elim (dec_le T n) [
    | yes past ↦ (
      was_told n me.0,
      keeps,
      tt,
      subst (λ (x : ℕ). Rule o (stepped s 0 x id me.1 (was_told n me.0) keeps)) (sym next_word) (told_rule past fresh),
      record { later = drawn_before; claimed = λ tile. absurd (omega (arith, tile, past)); told = λ again. refl },
    )
    | no tile_there ↦
        let tile : n < T = omega (arith, tile_there) in
        let got : Takes = claim_takes hold tile None in (
          did_claim (to_of o) directions n me.0,
          take_all got.list,
          got.valid me.1,
          subst (λ (x : ℕ). Rule o (stepped s 0 x id me.1 (did_claim (to_of o) directions n me.0) (take_all got.list))) (sym next_word) (claim_rule tile got),
          record { later = drawn_before; claimed = λ below. claim_told tile got; told = λ past. absurd (omega (arith, tile, past)) },
        )
  ]

-- a draw by a seat that was not told that no tile is left
pub draw_allowed : (o : Opening) (slots id : ℕ) (me : Me Slot View) → Sits o me → me.0.told ≡ false
    → Allows (Rule o) slots id me 0 (λ n. (n + 1) % 2 ^ 64) (Drawn o me)
draw_allowed o slots id me sits fresh s rule wide at small = draw_here o s rule id me sits at fresh
