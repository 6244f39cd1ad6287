-- For each state of the board there is a core that it stands for: events lead to it from the start.
use Rattle.std.proofs.Common.{◌≡◌, ℕ, zero, suc, ◌+◌, ◌*◌, ◌<◌, ◌≤◌, Bool, true, false, ◌&&◌, nat_lt, List, [], ◌++◌, map, None, refl, sym, ap, ◌∙◌, arith}
use Rattle.std.proofs.Math.Decide.{ℕ_discrete}
use Rattle.std.specs.Prelude.{replicate}
use Rattle.std.specs.List.{range_with_len}
use Rattle.std.proofs.lemmas.List.{get_or_past}
use Rattle.std.proofs.lemmas.List.FromFn.{get_or-map-range_with_len, length-map-range_with_len}
use native.Mathlib.Decide.{dec_le}
use Rattle.atomic_table.specs.Table.{State}
use Rattle.pic_tile.specs.CoreState.{CoreState, Stands, slot_of}
use Rattle.pic_tile.specs.Directions.{directions}
use Rattle.pic_tile.specs.Tile.{TileValue, no_tile, parcel_at, tile_in}
use Rattle.pic_tile.proofs.TileLaws.{same_there}
use Rattle.pic_core.specs.AtStart.{IsAtStart}
use Rattle.pic_core.specs.declared.event.Event.{Event}
use Rattle.pic_core.proofs.OpenLaws.{opened_stands}
use Rattle.pic_core.proofs.RunLaws.{ran_none, ran_append}
use Rattle.pic_core.proofs.TurnLaws.{lt_true, lt_false, lt_more}
use Rattle.pic_yard.specs.declared.opening.Opening.{Opening}
use Rattle.pic_yard.specs.declared.view.View.{View}
use Rattle.pic_yard.specs.Contents.{Slot, tiles_in, from_of}
use Rattle.pic_yard.specs.Rule.{Rule, ticket_of}
use Rattle.pic_yard.proofs.CountLaws.{at_else, at_here, at_other, count_all}
use Rattle.pic_yard.proofs.PostLaws.{posts, posts_it, posts_other, posts_row}
use Rattle.pic_board_laws.specs.Laws.{HasCore, TheBoardStandsForTheCore}
use Rattle.pic_board_laws.proofs.EventLaws.{HasMarks, Leads, marks_same, claim_leads, post_leads}
use Rattle.pic_board_laws.proofs.FinishLaws.{finish_leads}
use Rattle.pic_board_laws.proofs.StoodLaws.{below, below_more, stood_of}

and_on : (a b : Bool) → a ≡ true → (a && b) ≡ b
and_on a b is = ap (λ (c : Bool). c && b) is

and_off : (a b : Bool) → a ≡ false → (a && b) ≡ false
and_off a b is = ap (λ (c : Bool). c && b) is

module _ (o : Opening) (s : State Slot View) (rule : Rule o s) where
  abbrev T : ℕ
  T = tiles_in o

  abbrev n : ℕ
  n = ticket_of s

  -- The core before the first event.
  abbrev bare_tile : ℕ → TileValue
  bare_tile r = record { number = r; parcels = [] }

  abbrev start : CoreState
  start = record {
    frame = o.frame;
    opening = o.tiles.items;
    tiles = o.tiles.items;
    mail = replicate (T * directions) None;
    received = map bare_tile (range_with_len 0 T);
    claimed = replicate T false;
    posted = replicate (T * directions) false;
    merged = replicate (T * directions) false;
    shut = replicate T false;
  }

  bare_there : (r : ℕ) → r < T → tile_in start.received r ≡ bare_tile r
  bare_there r less = get_or-map-range_with_len bare_tile 0 T r r no_tile less (omega arith)

  at_start : IsAtStart o.frame o.tiles.items start
  at_start = record {
    frame = refl;
    opening = refl;
    tiles_are = refl;
    mail = refl;
    received = record {
      long = length-map-range_with_len bare_tile 0 T;
      numbers = λ r less. ap (λ (t : TileValue). t.number) (bare_there r less);
      none = λ r d less dir. ap (λ (t : TileValue). parcel_at t d) (bare_there r less) ∙ get_or_past [] d None (omega arith);
    };
    marks = record { claimed = refl; posted = refl; merged = refl; shut = refl };
  }

  -- Events lead from it to a core that has these marks.
  record Reaches (f : ℕ → Bool) (p m : ℕ → ℕ → Bool) (h : ℕ → Bool) : Type 0 where
    events : List Event
    way : Leads o start events f p m h

  abbrev no_tile_yet : ℕ → Bool
  no_tile_yet t = false

  abbrev no_parcel_yet : ℕ → ℕ → Bool
  no_parcel_yet r d = false

  begins : Reaches no_tile_yet no_parcel_yet no_parcel_yet no_tile_yet
  begins = record {
    events = [];
    way = record {
      next = start;
      ran = ran_none start;
      stands = opened_stands start at_start rule.sound rule.opens;
      marks = record {
        frame = refl;
        opening = refl;
        claims = λ t less. same_there T t false;
        posts = λ r d less dir. same_there (T * directions) (slot_of r d) false;
        merges = λ r d less dir. same_there (T * directions) (slot_of r d) false;
        shuts = λ r less. same_there T r false;
      };
    };
  }

  further : (f g : ℕ → Bool) (p q m k : ℕ → ℕ → Bool) (h l : ℕ → Bool) (more : List Event) → Reaches f p m h
      → ((c : CoreState) → Stands c → HasMarks o c f p m h → Leads o c more g q k l) → Reaches g q k l
  further f g p q m k h l more x go =
      let next : Leads o x.way.next more g q k l = go x.way.next x.way.stands x.way.marks in
      record {
        events = x.events ++ more;
        way = record {
          next = next.next;
          ran = ran_append start x.events more x.way.next next.next x.way.ran next.ran;
          stands = next.stands;
          marks = next.marks;
        };
      }

  alike : (f g : ℕ → Bool) (p q m k : ℕ → ℕ → Bool) (h l : ℕ → Bool) → Reaches f p m h
      → ((t : ℕ) → t < T → f t ≡ g t) → ((r d : ℕ) → r < T → d < directions → p r d ≡ q r d)
      → ((r d : ℕ) → r < T → d < directions → m r d ≡ k r d) → ((t : ℕ) → t < T → h t ≡ l t) → Reaches g q k l
  alike f g p q m k h l x claims posts merges shuts = record {
    events = x.events;
    way = record {
      next = x.way.next;
      ran = x.way.ran;
      stands = x.way.stands;
      marks = marks_same o x.way.next f g p q m k h l claims posts merges shuts x.way.marks;
    };
  }

  -- The tiles below the ticket are claimed.
  claims_to : (k : ℕ) → k ≤ T → Reaches (below k) no_parcel_yet no_parcel_yet no_tile_yet
  claims_to zero most =
      alike no_tile_yet (below 0) no_parcel_yet no_parcel_yet no_parcel_yet no_parcel_yet no_tile_yet no_tile_yet begins
      (λ t less. sym (lt_false t 0 (omega arith))) (λ r d less dir. refl) (λ r d less dir. refl) (λ t less. refl)
  claims_to (suc k) most =
      let before = claims_to k (omega (arith, most)) in
      let claimed : Reaches (at_else k true (below k)) no_parcel_yet no_parcel_yet no_tile_yet =
      further (below k) (at_else k true (below k)) no_parcel_yet no_parcel_yet no_parcel_yet no_parcel_yet no_tile_yet no_tile_yet _ before
      (λ c stands marks. claim_leads o c stands (below k) no_parcel_yet no_parcel_yet no_tile_yet marks k (omega (arith, most))
      (lt_false k k (omega arith))) in
      alike (at_else k true (below k)) (below (suc k)) no_parcel_yet no_parcel_yet no_parcel_yet no_parcel_yet no_tile_yet no_tile_yet claimed
      (λ t less. below_more k t) (λ r d less dir. refl) (λ r d less dir. refl) (λ t less. refl)

  all_claimed : Reaches (below n) no_parcel_yet no_parcel_yet no_tile_yet
  all_claimed = elim (dec_le n T) [
    | yes less ↦ claims_to n less
    | no past ↦
        alike (below T) (below n) no_parcel_yet no_parcel_yet no_parcel_yet no_parcel_yet no_tile_yet no_tile_yet (claims_to T (omega arith))
        (λ t less. lt_true t T less ∙ sym (lt_true t n (omega (arith, less, past)))) (λ r d less dir. refl) (λ r d less dir. refl) (λ t less. refl)
  ]

  -- The parcels are posted, tile by tile.
  abbrev posted_to : ℕ → ℕ → ℕ → Bool
  posted_to r q e = nat_lt q r && rule.posted q e

  -- those to the tile r of the directions below d too
  record IsPosting (r d : ℕ) : Type 0 where
    done : ℕ → ℕ → Bool
    way : Reaches (below n) done no_parcel_yet no_tile_yet
    others : (q : ℕ) → (q ≡ r → ⊥) → done q ≡ posted_to r q
    before : (e : ℕ) → e < d → done r e ≡ rule.posted r e
    after : (e : ℕ) → d ≤ e → done r e ≡ false

  post_next : (r d : ℕ) → r < T → d < directions → IsPosting r d → IsPosting r (suc d)
  post_next r d tile dir x = at (rule.posted r d) refl
    where
      at : (b : Bool) → rule.posted r d ≡ b → IsPosting r (suc d)
      at true is = record {
        done = posts x.done r d;
        way = further (below n) (below n) x.done (posts x.done r d) no_parcel_yet no_parcel_yet no_tile_yet no_tile_yet _ x.way
            (λ c stands marks. post_leads o c stands (below n) x.done no_parcel_yet no_tile_yet marks r d tile dir
            (lt_true (from_of o r d) n (rule.marks.came r d tile dir is)) (x.after d (omega arith)));
        others = λ q apart. posts_row x.done r d q apart ∙ x.others q apart;
        before = λ e less. elim (ℕ_discrete e d) [
          | yes same ↦ posts_it x.done r d r e (refl, same) ∙ sym (ap (rule.posted r) same ∙ is)
          | no apart ↦ posts_other x.done r d r e (λ both. apart both.1) ∙ x.before e (omega (arith, less, apart))
        ];
        after = λ e past.
            posts_other x.done r d r e (λ both. let same : e ≡ d = both.1 in omega (arith, past, same)) ∙ x.after e (omega (arith, past));
      }
      at false is = record {
        done = x.done;
        way = x.way;
        others = x.others;
        before = λ e less. elim (ℕ_discrete e d) [
          | yes same ↦ ap (x.done r) same ∙ x.after d (omega arith) ∙ sym (ap (rule.posted r) same ∙ is)
          | no apart ↦ x.before e (omega (arith, less, apart))
        ];
        after = λ e past. x.after e (omega (arith, past));
      }

  post_row : (r : ℕ) → r < T → IsPosting r 0 → (d : ℕ) → d ≤ directions → IsPosting r d
  post_row r tile x zero most = x
  post_row r tile x (suc d) most = post_next r d tile (omega (arith, most)) (post_row r tile x d (omega (arith, most)))

  -- one row more
  lt_next : (q r : ℕ) → (q ≡ r → ⊥) → nat_lt q (suc r) ≡ nat_lt q r
  lt_next q r apart = ap (λ (k : ℕ). nat_lt q k) (let e : suc r ≡ r + 1 = omega arith in e) ∙ lt_more q r apart

  posted_rows : (r : ℕ) → r ≤ T → Reaches (below n) (posted_to r) no_parcel_yet no_tile_yet
  posted_rows zero most =
      alike (below n) (below n) no_parcel_yet (posted_to 0) no_parcel_yet no_parcel_yet no_tile_yet no_tile_yet all_claimed
      (λ t less. refl) (λ q e less dir. sym (and_off (nat_lt q 0) (rule.posted q e) (lt_false q 0 (omega arith)))) (λ r d less dir. refl) (λ t less. refl)
  posted_rows (suc r) most =
      let tile : r < T = omega (arith, most) in
      let row : IsPosting r directions = post_row r tile (record {
        done = posted_to r;
        way = posted_rows r (omega (arith, most));
        others = λ q apart. refl;
        before = λ e less. absurd (omega (arith, less));
        after = λ e past. and_off (nat_lt r r) (rule.posted r e) (lt_false r r (omega arith));
      }) directions (omega arith) in
      alike (below n) (below n) row.done (posted_to (suc r)) no_parcel_yet no_parcel_yet no_tile_yet no_tile_yet row.way
      (λ t less. refl) (λ q e less dir. elim (ℕ_discrete q r) [
        | yes same ↦
            ap (λ (k : ℕ). row.done k e) same ∙ row.before e dir ∙ ap (λ (k : ℕ). rule.posted k e) (sym same)
            ∙ sym (and_on (nat_lt q (suc r)) (rule.posted q e) (lt_true q (suc r) (omega (arith, same))))
        | no apart ↦
            ap (λ (g : ℕ → Bool). g e) (row.others q apart) ∙ ap (λ (b : Bool). b && rule.posted q e) (sym (lt_next q r apart))
      ]) (λ r d less dir. refl) (λ t less. refl)

  all_posted : Reaches (below n) rule.posted no_parcel_yet no_tile_yet
  all_posted =
      alike (below n) (below n) (posted_to T) rule.posted no_parcel_yet no_parcel_yet no_tile_yet no_tile_yet (posted_rows T (omega arith))
      (λ t less. refl) (λ q e less dir. and_on (nat_lt q T) (rule.posted q e) (lt_true q T less)) (λ r d less dir. refl) (λ t less. refl)

  -- Tiles are merged and shut.
  abbrev shut_to : ℕ → ℕ → Bool
  shut_to r q = nat_lt q r && rule.shut q

  abbrev merged_to : ℕ → ℕ → ℕ → Bool
  merged_to r q e = shut_to r q

  shut_same : (r q : ℕ) → (q ≡ r → ⊥) → shut_to r q ≡ shut_to (suc r) q
  shut_same r q apart = ap (λ (b : Bool). b && rule.shut q) (sym (lt_next q r apart))

  shut_rows : (r : ℕ) → r ≤ T → Reaches (below n) rule.posted (merged_to r) (shut_to r)
  shut_rows zero most =
      let none : (q : ℕ) → false ≡ shut_to 0 q = λ q. sym (and_off (nat_lt q 0) (rule.shut q) (lt_false q 0 (omega arith))) in
      alike (below n) (below n) rule.posted rule.posted no_parcel_yet (merged_to 0) no_tile_yet (shut_to 0) all_posted
      (λ t less. refl) (λ r d less dir. refl) (λ q e less dir. none q) (λ q less. none q)
  shut_rows (suc r) most = at (rule.shut r) refl (shut_rows r (omega (arith, most)))
    where
      is_off : shut_to r r ≡ false
      is_off = and_off (nat_lt r r) (rule.shut r) (lt_false r r (omega arith))

      is_now : shut_to (suc r) r ≡ rule.shut r
      is_now = and_on (nat_lt r (suc r)) (rule.shut r) (lt_true r (suc r) (omega arith))

      at : (b : Bool) → rule.shut r ≡ b → Reaches (below n) rule.posted (merged_to r) (shut_to r)
          → Reaches (below n) rule.posted (merged_to (suc r)) (shut_to (suc r))
      at true is x =
          let tile : r < T = omega (arith, most) in
          let all : Reaches (below n) rule.posted (at_else r (λ e. true) (merged_to r)) (at_else r true (shut_to r)) =
          further (below n) (below n) rule.posted rule.posted (merged_to r) (at_else r (λ e. true) (merged_to r)) (shut_to r) (at_else r true (shut_to r)) _ x
          (λ c stands marks. finish_leads o (below n) rule.posted (merged_to r) (shut_to r) r tile
          (λ e dir. count_all (rule.posted r) directions e (rule.marks.whole r tile is) dir) (λ e dir. is_off) c stands marks is_off) in
          alike (below n) (below n) rule.posted rule.posted (at_else r (λ e. true) (merged_to r)) (merged_to (suc r))
          (at_else r true (shut_to r)) (shut_to (suc r)) all (λ t less. refl) (λ q d less dir. refl)
          (λ q e less dir. elim (ℕ_discrete q r) [
            | yes same ↦
                ap (λ (g : ℕ → Bool). g e) (at_here r q (λ e. true) (merged_to r) same) ∙ sym (ap (shut_to (suc r)) same ∙ is_now ∙ is)
            | no apart ↦
                ap (λ (g : ℕ → Bool). g e) (at_other r q (λ e. true) (merged_to r) apart) ∙ shut_same r q apart
          ])
          (λ q less. elim (ℕ_discrete q r) [
            | yes same ↦ at_here r q true (shut_to r) same ∙ sym (ap (shut_to (suc r)) same ∙ is_now ∙ is)
            | no apart ↦ at_other r q true (shut_to r) apart ∙ shut_same r q apart
          ])
      at false is x =
          let still : (q : ℕ) → shut_to r q ≡ shut_to (suc r) q = λ q. elim (ℕ_discrete q r) [
            | yes same ↦ ap (shut_to r) same ∙ is_off ∙ sym (ap (shut_to (suc r)) same ∙ is_now ∙ is)
            | no apart ↦ shut_same r q apart
          ] in
          alike (below n) (below n) rule.posted rule.posted (merged_to r) (merged_to (suc r)) (shut_to r) (shut_to (suc r)) x
          (λ t less. refl) (λ q d less dir. refl) (λ q e less dir. still q) (λ q less. still q)

  all_shut : Reaches (below n) rule.posted (λ r d. rule.shut r) rule.shut
  all_shut =
      let same : (q : ℕ) → q < T → shut_to T q ≡ rule.shut q = λ q less. and_on (nat_lt q T) (rule.shut q) (lt_true q T less) in
      alike (below n) (below n) rule.posted rule.posted (merged_to T) (λ r d. rule.shut r) (shut_to T) rule.shut (shut_rows T (omega arith))
      (λ t less. refl) (λ q d less dir. refl) (λ q e less dir. same q less) (λ q less. same q less)

  pub has_core : HasCore o s
  has_core = record {
    start = start;
    events = all_shut.events;
    core = all_shut.way.next;
    begins = at_start;
    ran = all_shut.way.ran;
    is = record {
      stood = stood_of o s rule.posted rule.shut rule.marks all_shut.way.next all_shut.way.marks;
      stands = all_shut.way.stands;
    };
  }

pub stands_for : TheBoardStandsForTheCore
stands_for o s rule = has_core o s rule
