-- The census of a board under its rule.
use Rattle.std.proofs.Common.{◌≡◌, ℕ, suc, ◌+◌, ◌<◌, ◌⊎◌, Bool, true, false, not, ◌&&◌, ◌||◌, cond, eqb, eq-eqb, eqb-true, ne_eqb, nat_lt, List, [], ◌++◌}
use Rattle.std.proofs.Common.{length, get_or, map, flat_map, sum_by, Option, None, inl, inr, refl, sym, ap, ◌∙◌, subst, arith, true≢false}
use Rattle.std.specs.List.{range_with_len}
use Rattle.std.specs.Prelude.{IsSome}
use Rattle.std.proofs.lemmas.List.Sums.{sum_by-append}
use lib.ListN.{get_elem?}
use Rattle.pic_num.specs.declared.motion.Particle.{Particle}
use Rattle.pic_tile.specs.Same.{Same}
use Rattle.pic_tile.specs.Totals.{total_below}
use Rattle.pic_tile.proofs.SameLaws.{sum_by-map, sum_by-together, sum_by_agree}
use Rattle.pic_tile.proofs.StandForLaws.{stands_together}
use Rattle.pic_tile.proofs.SumLaws.{total_same, total_below_more, sum_by-flat_map}
use Rattle.pic_tile.specs.declared.parcel.Parcel.{Parcel}
use Rattle.pic_tile.specs.CoreState.{all_particles}
use Rattle.pic_tile.specs.Directions.{directions, here}
use Rattle.pic_tile.specs.Frame.{felt_in}
use Rattle.pic_tile.specs.Held.{chains_of}
use Rattle.pic_tile.specs.Leaving.{after_its_push, going}
use Rattle.pic_tile.specs.Owners.{tile_of}
use Rattle.pic_tile.specs.Receiving.{coming}
use Rattle.pic_tile.specs.Tile.{TileValue, parcel_at, chain_of, chain_at, no_tile, tile_in}
use Rattle.pic_tile.proofs.HeldLaws.{fresh_stand}
use Rattle.pic_tile.proofs.OpeningLaws.{opening_inside}
use Rattle.pic_tile.proofs.ReceivingLaws.{some_there}
use Rattle.pic_push.proofs.IdentityLaws.{census_of, sum_by-flat, ready_weight, going_weight, same_id}
use Rattle.atomic_table.specs.Table.{State}
use Rattle.pic_yard.specs.declared.opening.Opening.{Opening}
use Rattle.pic_yard.specs.declared.view.View.{View}
use Rattle.pic_yard.specs.Census.{kept_in, lying, sent, AreWithSeats, with_seats, HasBoardCensus}
use Rattle.pic_yard.specs.Contents.{Slot, vacant, tiles_in, to_of, from_of, start_at, IsTile, HoldsParcel, IsFinished}
use Rattle.pic_yard.specs.Marks.{Lists}
use Rattle.pic_yard.specs.Members.{In, count_below}
use Rattle.pic_yard.specs.Places.{IsHome, IsAway}
use Rattle.pic_yard.specs.Rule.{Rule, board_of, ticket_of}
use Rattle.pic_yard.specs.Sits.{slot_at}
use Rattle.pic_yard.proofs.BalanceLaws.{AreWeights, is_ready, is_out, below_test, test_below, balanced}
use Rattle.pic_yard.proofs.CountLaws.{count_all}
use Rattle.pic_yard.proofs.TotalLaws.{found_weight, found_at, list_total, total_blocks}
use Rattle.pic_yard.proofs.WayLaws.{ways_of}

module _ (o : Opening) (v : ℕ → ℕ) where
  -- the weight of a particle, of a tile at the start, and of the parcel that it sends
  abbrev by : Particle → ℕ
  by x = v x.id

  abbrev start_weight : ℕ → ℕ
  start_weight t = sum_by by (start_at o t)

  abbrev sent_weight : ℕ → ℕ → ℕ
  sent_weight t d = sum_by by (going (felt_in o.frame) o.frame.map d (start_at o t))

  -- a tile's parcels weigh what it weighs
  pub pushed_total : (t : ℕ) → total_below directions (λ d. sent_weight t d) ≡ start_weight t
  pushed_total t =
      let w = felt_in o.frame in
      let xs = start_at o t in
      going_weight w o.frame.map by xs ∙ sum_by_agree (λ x. v (after_its_push w x).id) by xs (λ k d below. ap v (same_id w (get_or xs k d)))

  parcel_kept : (t d : ℕ) (s : Slot) → HoldsParcel o t d s → sum_by by (kept_in s) ≡ sent_weight t d
  parcel_kept t d s p = ap (λ (y : Slot). sum_by by (kept_in y)) p.is ∙ p.content.chain.sums by

  finished_kept : (r : ℕ) (s : Slot) → IsFinished o r s → sum_by by (kept_in s) ≡ total_below directions (λ d. sent_weight (from_of o r d) d)
  unfolding coming from_of
  finished_kept r s f =
      let w = felt_in o.frame in
      let m = o.frame.map in
      ap (λ (y : Slot). sum_by by (kept_in y)) f.is
      ∙ ready_weight by f.tile (λ d below apart. ap chain_of (f.content.empty d below apart refl))
      ∙ own (f.content.there refl)
      ∙ sum_by-flat_map by (λ d. going w m d (start_at o (from_of o r d))) directions
    where
      own : IsSome (parcel_at f.tile here) → sum_by by (chain_at f.tile here) ≡ sum_by by (coming (felt_in o.frame) o.frame.map (start_at o) (λ d. true) r)
      own there =
          let found = some_there (parcel_at f.tile here) there in
          ap (λ (p : Option Parcel). sum_by by (chain_of p)) found.1 ∙ (f.content.own found.0 found.1).chain.sums by

-- a tile has at the start the identities of its parcels
pub tile_parcels : (o : Opening) (t : ℕ) → t < tiles_in o
    → Same (map (λ x. x.id) (start_at o t)) (map (λ x. x.id) (flat_map (λ d. sent o (to_of o t d) d) (range_with_len 0 directions)))
tile_parcels o t inside = record {
  sums = λ v.
      let weight : Particle → ℕ = λ x. v x.id in
      sum_by-map v (λ (x : Particle). x.id) (start_at o t)
      ∙ sym (pushed_total o v t)
      ∙ total_same directions (λ d. sent_weight o v t d) (λ d. sum_by weight (sent o (to_of o t d) d))
      (λ d dir. ap (λ (k : ℕ). sent_weight o v k d) (sym ((ways_of o).back t d inside dir)))
      ∙ sym (sum_by-flat_map weight (λ d. sent o (to_of o t d) d) directions)
      ∙ sym (sum_by-map v (λ (x : Particle). x.id) (flat_map (λ d. sent o (to_of o t d) d) (range_with_len 0 directions)));
}

module _ (o : Opening) (s : State Slot View) (rule : Rule o s) where
  abbrev is_with_seat : ℕ → ℕ → Bool
  is_with_seat = is_out directions (ticket_of s) (from_of o) rule.posted rule.shut

  abbrev holder : ℕ → ℕ → ℕ
  holder r d = cond (rule.posted r d) (rule.marks.finisher r) (rule.marks.claimer (from_of o r d))

  -- where all parcels for r are posted and it isn't shut, they are with a seat
  ready_out : (r d : ℕ) → count_below (rule.posted r) directions ≡ directions → rule.shut r ≡ false → is_with_seat r d ≡ true
  ready_out r d all open_yet =
      let owed : Bool = nat_lt (from_of o r d) (ticket_of s) && not (rule.posted r d) in
      λ i. (eq-eqb (count_below (rule.posted r) directions) directions all i && not (open_yet i)) || owed

  -- so is one of a claimed tile that isn't posted
  owed_out : (r d : ℕ) → from_of o r d < ticket_of s → rule.posted r d ≡ false → is_with_seat r d ≡ true
  owed_out r d claimed free =
      (λ i. is_ready directions rule.posted rule.shut r || (test_below (from_of o r d) (ticket_of s) claimed i && not (free i)))
      ∙ either (is_ready directions rule.posted rule.shut r)
    where
      either : (b : Bool) → (b || true) ≡ true
      either true = refl
      either false = refl

  out_ready : (r d : ℕ) → rule.posted r d ≡ true → is_with_seat r d ≡ true → (count_below (rule.posted r) directions ≡ directions) × (rule.shut r ≡ false)
  out_ready r d is out =
      let test : Bool = eqb (count_below (rule.posted r) directions) directions in
      let all : ((test && not (rule.shut r)) || (nat_lt (from_of o r d) (ticket_of s) && false)) ≡ true =
      subst (λ (b : Bool). ((test && not (rule.shut r)) || (nat_lt (from_of o r d) (ticket_of s) && not b)) ≡ true) is out in
      let both = parts test (rule.shut r) (nat_lt (from_of o r d) (ticket_of s)) all in
      (eqb-true (count_below (rule.posted r) directions) directions both.0, both.1)
    where
      parts : (a b c : Bool) → ((a && not b) || (c && false)) ≡ true → (a ≡ true) × (b ≡ false)
      parts true true true e = absurd (true≢false (sym e))
      parts true true false e = absurd (true≢false (sym e))
      parts true false c e = (refl, refl)
      parts false b true e = absurd (true≢false (sym e))
      parts false b false e = absurd (true≢false (sym e))

  out_owed : (r d : ℕ) → d < directions → rule.posted r d ≡ false → is_with_seat r d ≡ true → from_of o r d < ticket_of s
  out_owed r d dir free out =
      let none : is_ready directions rule.posted rule.shut r ≡ false =
      ap (λ (b : Bool). b && not (rule.shut r)) (ne_eqb (count_below (rule.posted r) directions) directions
      (λ all. true≢false (sym (count_all (rule.posted r) directions d all dir) ∙ free))) in
      let unready : (false || (nat_lt (from_of o r d) (ticket_of s) && not (rule.posted r d))) ≡ true =
      subst (λ (b : Bool). (b || (nat_lt (from_of o r d) (ticket_of s) && not (rule.posted r d))) ≡ true) none out in
      let claimed : (nat_lt (from_of o r d) (ticket_of s) && true) ≡ true =
      subst (λ (b : Bool). (nat_lt (from_of o r d) (ticket_of s) && not b) ≡ true) free unready in
      below_test (from_of o r d) (ticket_of s) (first (nat_lt (from_of o r d) (ticket_of s)) claimed)
    where
      first : (a : Bool) → (a && true) ≡ true → a ≡ true
      first true e = refl
      first false e = e

  -- a parcel that is with a seat is listed by it
  listed : (r d : ℕ) → r < tiles_in o → d < directions → is_with_seat r d ≡ true
      → Lists s.views (holder r d) (λ v. In (r, d) v.owes ⊎ In r v.rights)
  listed r d inside dir out = at (rule.posted r d) refl
    where
      at : (b : Bool) → rule.posted r d ≡ b
          → Lists s.views (cond b (rule.marks.finisher r) (rule.marks.claimer (from_of o r d))) (λ v. In (r, d) v.owes ⊎ In r v.rights)
      at true is =
          let ready = out_ready r d is out in
          let l = rule.marks.ready r inside ready.0 ready.1 in
          record { view = l.view; there = l.there; live = l.live; lists = inr l.lists }
      at false free =
          let l = rule.marks.owed r d inside dir (out_owed r d dir free out) free in
          record { view = l.view; there = l.there; live = l.live; lists = inl l.lists }

  with : AreWithSeats o s.views is_with_seat holder
  with = record {
    listed = listed;
    owed = λ j v there live r d had.
        let is = rule.marks.owes j v there live r d had in
        (owed_out r d is.sender is.free, ap (λ (b : Bool). cond b (rule.marks.finisher r) (rule.marks.claimer (from_of o r d))) is.free ∙ is.by);
    rights = λ j v there live r d had dir.
        let is = rule.marks.rights j v there live r had in (
          ready_out r d is.all is.open_yet,
          ap (λ (b : Bool). cond b (rule.marks.finisher r) (rule.marks.claimer (from_of o r d))) (count_all (rule.posted r) directions d is.all dir) ∙ is.by,
        );
  }

  module _ (v : ℕ → ℕ) where
    abbrev weight : Particle → ℕ
    weight x = v x.id

    abbrev lying_weight : ℕ → ℕ
    lying_weight i = found_weight (λ h. sum_by weight (lying h)) (get_elem? s.homes i)

    home_weight : (i : ℕ) (P : Slot → Type 0) (h : IsHome s.homes i P) → lying_weight i ≡ sum_by weight (kept_in h.value)
    home_weight i P h = ap (found_weight (λ y. sum_by weight (lying y))) h.there

    away_weight : (i : ℕ) → IsAway s.homes i → lying_weight i ≡ 0
    away_weight i away = ap (found_weight (λ y. sum_by weight (lying y))) away

    none_kept : (i : ℕ) → IsHome s.homes i (λ y. y ≡ None) → lying_weight i ≡ 0
    none_kept i h = home_weight i (λ y. y ≡ None) h ∙ ap (λ (y : Slot). sum_by weight (kept_in y)) h.is

    vacant_kept : (i : ℕ) → IsHome s.homes i (λ y. y ≡ vacant) → lying_weight i ≡ 0
    vacant_kept i h = home_weight i (λ y. y ≡ vacant) h ∙ ap (λ (y : Slot). sum_by weight (kept_in y)) h.is

    weights : AreWeights (board_of o s rule.posted rule.shut) (λ r d. lying_weight (slot_at r d))
        (λ r. lying_weight (slot_at r directions)) (start_weight o v) (sent_weight o v)
    weights =
        let p = rule.places in
        let a = rule.aways in
        record {
          bare = λ r d inside dir above. none_kept (slot_at r d) (p.bare r d inside dir above);
          full = λ r d inside dir is few.
              let h = p.full r d inside dir is few in
              home_weight (slot_at r d) (HoldsParcel o (from_of o r d) d) h ∙ parcel_kept o v (from_of o r d) d h.value h.is;
          emptied = λ r d inside dir closed. none_kept (slot_at r d) (p.emptied r d inside dir closed);
          opening = λ t inside above.
              let h = p.opening t inside above in
              home_weight (slot_at t directions) (IsTile o t) h
              ∙ ap (λ (y : Slot). sum_by weight (kept_in y)) h.is
              ∙ ready_weight weight (tile_in o.tiles.items t) (rule.opens.fresh.fresh t inside).ready.chains;
          between = λ t inside is few. vacant_kept (slot_at t directions) (p.between t inside is few);
          finished = λ r inside closed.
              let h = p.finished r inside closed in
              home_weight (slot_at r directions) (IsFinished o r) h ∙ finished_kept o v r h.value h.is;
          lent = λ r d inside dir claimed free. away_weight (slot_at r d) (a.lent r d inside dir claimed free);
          left = λ t inside claimed free. away_weight (slot_at t directions) (a.left t inside claimed free);
          held_boxes = λ r d inside dir all open_yet.
              let e : d < suc directions = omega (arith, dir) in
              away_weight (slot_at r d) (a.held r d inside e all open_yet);
          held_home = λ r inside all open_yet. away_weight (slot_at r directions) (a.held r directions inside (omega arith) all open_yet);
        }

    -- what lies in all slots
    lying_total : sum_by weight (flat_map lying s.homes)
        ≡ total_below (tiles_in o) (λ r. total_below directions (λ d. lying_weight (slot_at r d)) + lying_weight (slot_at r directions))
    lying_total =
        sum_by-flat weight lying s.homes
        ∙ list_total (λ h. sum_by weight (lying h)) s.homes
        ∙ ap (λ (n : ℕ). total_below n lying_weight) rule.slots
        ∙ total_blocks (tiles_in o) (suc directions) lying_weight
        ∙ total_same (tiles_in o) (λ r. total_below (suc directions) (λ k. lying_weight (slot_at r k)))
        (λ r. total_below directions (λ d. lying_weight (slot_at r d)) + lying_weight (slot_at r directions))
        (λ r below. total_below_more (λ k. lying_weight (slot_at r k)) directions)

    -- what is with all seats
    with_total : sum_by weight (with_seats o is_with_seat)
        ≡ total_below (tiles_in o) (λ r. total_below directions (λ d. cond (is_with_seat r d) (sent_weight o v (from_of o r d) d) 0))
    unfolding with_seats
    with_total =
        let one : ℕ → ℕ → List Particle = λ r d. cond (is_with_seat r d) (sent o r d) [] in
        sum_by-flat_map weight (λ r. flat_map (λ d. one r d) (range_with_len 0 directions)) (tiles_in o)
        ∙ total_same (tiles_in o) (λ r. sum_by weight (flat_map (λ d. one r d) (range_with_len 0 directions)))
        (λ r. total_below directions (λ d. cond (is_with_seat r d) (sent_weight o v (from_of o r d) d) 0))
        (λ r below. sum_by-flat_map weight (λ d. one r d) directions
        ∙ total_same directions (λ d. sum_by weight (one r d)) (λ d. cond (is_with_seat r d) (sent_weight o v (from_of o r d) d) 0)
        (λ d dir. if_weight (is_with_seat r d) (sent o r d)))
      where
        if_weight : (b : Bool) (xs : List Particle) → sum_by weight (cond b xs []) ≡ cond b (sum_by weight xs) 0
        if_weight true xs = refl
        if_weight false xs = refl

    -- what all tiles have at the start
    start_total : total_below (tiles_in o) (start_weight o v) ≡ sum_by weight (all_particles o.tiles.items)
    start_total =
        let ts = o.tiles.items in
        let f = o.frame in
        let some_side : 0 < f.map.side = (let least = rule.sound.least in omega (arith, least)) in
        let stand = fresh_stand f.map (all_particles ts) ts some_side rule.sound.map.thick (opening_inside f ts rule.opens) rule.opens.fresh in
        let same = stands_together (tile_of f.map) (chains_of ts) (all_particles ts) stand in
        let each : sum_by (λ t. sum_by weight (chain_at t here)) ts ≡ total_below (tiles_in o) (start_weight o v) =
        list_total (λ t. sum_by weight (chain_at t here)) ts
        ∙ total_same (length ts) (λ i. found_weight (λ t. sum_by weight (chain_at t here)) (get_elem? ts i)) (start_weight o v)
        (λ i below. found_at (λ t. sum_by weight (chain_at t here)) ts i no_tile below)
        ∙ ap (λ (n : ℕ). total_below n (start_weight o v)) rule.opens.fresh.count in
        sym each
        ∙ sym (sum_by-map (λ (xs : List Particle). sum_by weight xs) (λ (t : TileValue). chain_at t here) ts)
        ∙ sym (sum_by-together weight (chains_of ts))
        ∙ same.sums weight

    all_weight : sum_by weight (flat_map lying s.homes ++ with_seats o is_with_seat) ≡ sum_by weight (all_particles o.tiles.items)
    all_weight =
        let both = sum_by-append weight (flat_map lying s.homes) (with_seats o is_with_seat) in
        let balance =
        balanced (board_of o s rule.posted rule.shut) (to_of o) (ways_of o) rule.marks.came rule.marks.whole
        (λ r d. lying_weight (slot_at r d)) (λ r. lying_weight (slot_at r directions)) (start_weight o v) (sent_weight o v) weights
        (λ t below. pushed_total o v t) in
        omega (arith, both, balance, lying_total, with_total, start_total)

  pub census : HasBoardCensus o s
  census = record {
    out = is_with_seat;
    holder = holder;
    with = with;
    rearranged =
        let all : List Particle = flat_map lying s.homes ++ with_seats o is_with_seat in
        let xs = all_particles o.tiles.items in
        census_of all (length xs) (record {
          sums = λ v.
              sum_by-map v (λ (x : Particle). x.id) all ∙ all_weight v ∙ sym (sum_by-map v (λ (x : Particle). x.id) xs)
              ∙ ap (sum_by v) rule.opens.ordered.identities;
        });
  }
