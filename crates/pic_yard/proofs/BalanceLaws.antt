-- What lies in the slots and what is with seats weigh together what all tiles weighed at the start.
use Rattle.std.proofs.Common.{◌≡◌, ℕ, ◌+◌, ◌<◌, ◌≤◌, Bool, true, false, not, ◌&&◌, ◌||◌, cond, eqb, eq-eqb, ne_eqb, nat_lt, refl, sym, ap, ◌∙◌, arith}
use Rattle.std.proofs.Math.Decide.{ℕ_discrete}
use Rattle.std.proofs.lemmas.Bool.Decides.{nat_tests}
use Rattle.pic_tile.specs.Totals.{total_below}
use Rattle.pic_tile.proofs.SumLaws.{total_same, total_plus, total_none}
use Rattle.pic_yard.proofs.Ways.{AreWays}
use Rattle.pic_yard.specs.Marks.{Board}
use Rattle.pic_yard.specs.Members.{count_below}
use Rattle.pic_yard.proofs.CountLaws.{count_le, count_all}
use Rattle.pic_yard.proofs.TotalLaws.{total_swap, total_moved}

-- the tile has all its parcels and isn't shut
abbrev pub is_ready : ℕ → (ℕ → ℕ → Bool) → (ℕ → Bool) → ℕ → Bool
is_ready dirs posted shut r = eqb (count_below (posted r) dirs) dirs && not (shut r)

-- the parcel (r, d) is with a seat
abbrev pub is_out : ℕ → ℕ → (ℕ → ℕ → ℕ) → (ℕ → ℕ → Bool) → (ℕ → Bool) → ℕ → ℕ → Bool
is_out dirs ticket from posted shut r d = is_ready dirs posted shut r || (nat_lt (from r d) ticket && not (posted r d))

pub below_test : (a b : ℕ) → nat_lt a b ≡ true → a < b
below_test a b is = grind (arith, nat_tests)

above_test : (a b : ℕ) → nat_lt a b ≡ false → b ≤ a
above_test a b is = grind (arith, nat_tests)

pub test_below : (a b : ℕ) → a < b → nat_lt a b ≡ true
test_below a b is = grind (arith, nat_tests)

-- by any weight, what the mailbox (r, d) and the home slot of r have, what the tile t has at the
-- start, and what the parcel of the direction d has that t sends
pub record AreWeights (b : Board) (box : ℕ → ℕ → ℕ) (home start : ℕ → ℕ) (sent : ℕ → ℕ → ℕ) : Type 0 where
  pub bare : (r d : ℕ) → r < b.tiles → d < b.dirs → b.ticket ≤ b.from r d → box r d ≡ 0
  pub full : (r d : ℕ) → r < b.tiles → d < b.dirs → b.posted r d ≡ true → count_below (b.posted r) b.dirs < b.dirs → box r d ≡ sent (b.from r d) d
  pub emptied : (r d : ℕ) → r < b.tiles → d < b.dirs → b.shut r ≡ true → box r d ≡ 0
  pub opening : (t : ℕ) → t < b.tiles → b.ticket ≤ t → home t ≡ start t
  pub between : (t : ℕ) → t < b.tiles → b.posted t b.here ≡ true → count_below (b.posted t) b.dirs < b.dirs → home t ≡ 0
  pub finished : (r : ℕ) → r < b.tiles → b.shut r ≡ true → home r ≡ total_below b.dirs (λ d. sent (b.from r d) d)
  pub lent : (r d : ℕ) → r < b.tiles → d < b.dirs → b.from r d < b.ticket → b.posted r d ≡ false → box r d ≡ 0
  pub left : (t : ℕ) → t < b.tiles → t < b.ticket → b.posted t b.here ≡ false → home t ≡ 0
  pub held_boxes : (r d : ℕ) → r < b.tiles → d < b.dirs → count_below (b.posted r) b.dirs ≡ b.dirs → b.shut r ≡ false → box r d ≡ 0
  pub held_home : (r : ℕ) → r < b.tiles → count_below (b.posted r) b.dirs ≡ b.dirs → b.shut r ≡ false → home r ≡ 0

module _ (b : Board) (to : ℕ → ℕ → ℕ) (ways : AreWays b.tiles b.dirs b.here to b.from)
    (came : (r d : ℕ) → r < b.tiles → d < b.dirs → b.posted r d ≡ true → b.from r d < b.ticket)
    (whole : (r : ℕ) → r < b.tiles → b.shut r ≡ true → count_below (b.posted r) b.dirs ≡ b.dirs)
    (box : ℕ → ℕ → ℕ) (home start : ℕ → ℕ) (sent : ℕ → ℕ → ℕ) (w : AreWeights b box home start sent) where
  open b use {tiles, dirs, here, ticket, from, posted, shut}

  abbrev out : ℕ → ℕ → Bool
  out = is_out dirs ticket from posted shut

  -- the weight of a parcel, if it is with a seat, and if its tile is claimed
  abbrev out_weight : ℕ → ℕ → ℕ
  out_weight r d = cond (out r d) (sent (from r d) d) 0

  abbrev claimed_weight : ℕ → ℕ → ℕ
  claimed_weight t d = cond (nat_lt t ticket) (sent t d) 0

  abbrev waiting_weight : ℕ → ℕ
  waiting_weight t = cond (nat_lt t ticket) 0 (start t)

  -- while not all parcels for r are posted
  module _ (r : ℕ) (inside : r < tiles) (few : count_below (posted r) dirs < dirs) where
    not_ready : is_ready dirs posted shut r ≡ false
    not_ready = ap (λ (b : Bool). b && not (shut r)) (ne_eqb (count_below (posted r) dirs) dirs (λ e. omega (arith, e, few)))

    one_box : (d : ℕ) → d < dirs → box r d + out_weight r d ≡ claimed_weight (from r d) d
    one_box d dir = at (nat_lt (from r d) ticket) refl (posted r d) refl
      where
        value : (b : Bool) → out r d ≡ b → out_weight r d ≡ cond b (sent (from r d) d) 0
        value b is = ap (λ (c : Bool). cond c (sent (from r d) d) 0) is

        claim : (b : Bool) → nat_lt (from r d) ticket ≡ b → claimed_weight (from r d) d ≡ cond b (sent (from r d) d) 0
        claim b is = ap (λ (c : Bool). cond c (sent (from r d) d) 0) is

        at : (c : Bool) → nat_lt (from r d) ticket ≡ c → (p : Bool) → posted r d ≡ p → box r d + out_weight r d ≡ claimed_weight (from r d) d
        at true claimed true is =
            let with : out_weight r d ≡ 0 = value false (λ i. not_ready i || (claimed i && not (is i))) in
            let all : claimed_weight (from r d) d ≡ sent (from r d) d = claim true claimed in
            let lies : box r d ≡ sent (from r d) d = w.full r d inside dir is few in
            omega (arith, with, all, lies)
        at true claimed false is =
            let with : out_weight r d ≡ sent (from r d) d = value true (λ i. not_ready i || (claimed i && not (is i))) in
            let all : claimed_weight (from r d) d ≡ sent (from r d) d = claim true claimed in
            let lies : box r d ≡ 0 = w.lent r d inside dir (below_test (from r d) ticket claimed) is in
            omega (arith, with, all, lies)
        at false claimed p is =
            let with : out_weight r d ≡ 0 = value false (λ i. not_ready i || (claimed i && not (posted r d))) in
            let all : claimed_weight (from r d) d ≡ 0 = claim false claimed in
            let lies : box r d ≡ 0 = w.bare r d inside dir (above_test (from r d) ticket claimed) in
            omega (arith, with, all, lies)

    own_home : home r ≡ waiting_weight r
    own_home = at (nat_lt r ticket) refl (posted r here) refl
      where
        at : (c : Bool) → nat_lt r ticket ≡ c → (p : Bool) → posted r here ≡ p → home r ≡ waiting_weight r
        at true claimed true is = w.between r inside is few ∙ sym (ap (λ (c : Bool). cond c 0 (start r)) claimed)
        at true claimed false is = w.left r inside (below_test r ticket claimed) is ∙ sym (ap (λ (c : Bool). cond c 0 (start r)) claimed)
        at false claimed p is = w.opening r inside (above_test r ticket claimed) ∙ sym (ap (λ (c : Bool). cond c 0 (start r)) claimed)

  abbrev slots_weight : ℕ → ℕ
  slots_weight r = total_below dirs (λ d. box r d) + home r

  abbrev Counted : ℕ → Type 0
  Counted r = slots_weight r + total_below dirs (λ d. out_weight r d) ≡ waiting_weight r + total_below dirs (λ d. claimed_weight (from r d) d)

  few_counted : (r : ℕ) → r < tiles → count_below (posted r) dirs < dirs → Counted r
  few_counted r inside few =
      let both = total_plus dirs (λ d. box r d) (λ d. out_weight r d) in
      let each = total_same dirs (λ d. box r d + out_weight r d) (λ d. claimed_weight (from r d) d) (one_box r inside few) in
      let own = own_home r inside few in
      omega (arith, both, each, own)

  -- once all parcels for r are posted, the tiles that send them are claimed, and r is one of these
  module _ (r : ℕ) (inside : r < tiles) (all : count_below (posted r) dirs ≡ dirs) where
    sender_claimed : (d : ℕ) → d < dirs → nat_lt (from r d) ticket ≡ true
    sender_claimed d dir = test_below (from r d) ticket (came r d inside dir (count_all (posted r) dirs d all dir))

    own_claimed : nat_lt r ticket ≡ true
    own_claimed =
        let own : from r here ≡ r = sym (ap (λ (t : ℕ). from t here) (ways.stays r inside)) ∙ ways.back r here inside ways.here_below in
        ap (λ (t : ℕ). nat_lt t ticket) (sym own) ∙ sender_claimed here ways.here_below

    none_waits : waiting_weight r ≡ 0
    none_waits = ap (λ (c : Bool). cond c 0 (start r)) own_claimed

    all_claimed : total_below dirs (λ d. claimed_weight (from r d) d) ≡ total_below dirs (λ d. sent (from r d) d)
    all_claimed =
        total_same dirs (λ d. claimed_weight (from r d) d) (λ d. sent (from r d) d)
        (λ d dir. ap (λ (c : Bool). cond c (sent (from r d) d) 0) (sender_claimed d dir))

    no_boxes : ((d : ℕ) → d < dirs → box r d ≡ 0) → total_below dirs (λ d. box r d) ≡ 0
    no_boxes none = total_same dirs (λ d. box r d) (λ d. 0) none ∙ total_none dirs

    shut_counted : shut r ≡ true → Counted r
    shut_counted closed =
        let boxes = no_boxes (λ d dir. w.emptied r d inside dir closed) in
        let tile = w.finished r inside closed in
        let with : total_below dirs (λ d. out_weight r d) ≡ 0 =
        total_same dirs (λ d. out_weight r d) (λ d. 0)
        (λ d dir. ap (λ (c : Bool). cond c (sent (from r d) d) 0)
        (λ i. (eq-eqb (count_below (posted r) dirs) dirs all i && not (closed i)) || (nat_lt (from r d) ticket && not (count_all (posted r) dirs d all dir i)))
        ∙ not_both (nat_lt (from r d) ticket) (sent (from r d) d))
        ∙ total_none dirs in
        omega (arith, boxes, tile, with, none_waits, all_claimed)
      where
        not_both : (b : Bool) (x : ℕ) → cond (b && false) x 0 ≡ 0
        not_both true x = refl
        not_both false x = refl

    held_counted : shut r ≡ false → Counted r
    held_counted open_yet =
        let boxes = no_boxes (λ d dir. w.held_boxes r d inside dir all open_yet) in
        let tile = w.held_home r inside all open_yet in
        let with : total_below dirs (λ d. out_weight r d) ≡ total_below dirs (λ d. sent (from r d) d) =
        total_same dirs (λ d. out_weight r d) (λ d. sent (from r d) d)
        (λ d dir. ap (λ (c : Bool). cond c (sent (from r d) d) 0)
        (λ i. (eq-eqb (count_below (posted r) dirs) dirs all i && not (open_yet i)) || (nat_lt (from r d) ticket && not (posted r d)))) in
        omega (arith, boxes, tile, with, none_waits, all_claimed)

    all_counted : Counted r
    all_counted = at (shut r) refl
      where
        at : (b : Bool) → shut r ≡ b → Counted r
        at true closed = shut_counted closed
        at false open_yet = held_counted open_yet

  counted : (r : ℕ) → r < tiles → Counted r
  counted r inside = elim (ℕ_discrete (count_below (posted r) dirs) dirs) [
    | yes all ↦ all_counted r inside all
    | no apart ↦ few_counted r inside (let most = count_le (posted r) dirs in omega (arith, most, apart))
  ]

  -- what the claimed tiles send weighs what they weighed
  claimed_total : ((t : ℕ) → t < tiles → total_below dirs (λ d. sent t d) ≡ start t)
      → total_below tiles (λ r. total_below dirs (λ d. claimed_weight (from r d) d)) ≡ total_below tiles (λ t. cond (nat_lt t ticket) (start t) 0)
  claimed_total pushed =
      total_swap tiles dirs (λ r d. claimed_weight (from r d) d)
      ∙ total_same dirs (λ d. total_below tiles (λ r. claimed_weight (from r d) d)) (λ d. total_below tiles (λ t. claimed_weight t d))
      (λ d dir. total_moved tiles (λ t. to t d) (λ r. from r d) (λ r below. ways.from_below r d below dir) (λ t below. ways.to_below t d below dir)
      (λ t below. ways.back t d below dir) (λ r below. ways.forth r d below dir) (λ t. claimed_weight t d))
      ∙ sym (total_swap tiles dirs claimed_weight)
      ∙ total_same tiles (λ t. total_below dirs (λ d. claimed_weight t d)) (λ t. cond (nat_lt t ticket) (start t) 0)
      (λ t below. at t below (nat_lt t ticket))
    where
      at : (t : ℕ) → t < tiles → (b : Bool) → total_below dirs (λ d. cond b (sent t d) 0) ≡ cond b (start t) 0
      at t below true = pushed t below
      at t below false = total_none dirs

  pub balanced : ((t : ℕ) → t < tiles → total_below dirs (λ d. sent t d) ≡ start t)
      → total_below tiles slots_weight + total_below tiles (λ r. total_below dirs (λ d. out_weight r d)) ≡ total_below tiles start
  balanced pushed =
      let slots = total_plus tiles slots_weight (λ r. total_below dirs (λ d. out_weight r d)) in
      let each = total_same tiles (λ r. slots_weight r + total_below dirs (λ d. out_weight r d))
      (λ r. waiting_weight r + total_below dirs (λ d. claimed_weight (from r d) d)) counted in
      let parts = total_plus tiles waiting_weight (λ r. total_below dirs (λ d. claimed_weight (from r d) d)) in
      let claimed = claimed_total pushed in
      let both = total_plus tiles waiting_weight (λ t. cond (nat_lt t ticket) (start t) 0) in
      let whole = total_same tiles (λ t. waiting_weight t + cond (nat_lt t ticket) (start t) 0) start (λ t below. one_of (nat_lt t ticket) (start t)) in
      omega (arith, slots, each, parts, claimed, both, whole)
    where
      one_of : (b : Bool) (x : ℕ) → cond b 0 x + cond b x 0 ≡ x
      one_of true x = omega arith
      one_of false x = omega arith
