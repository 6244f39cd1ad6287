-- Giving back a finished tile keeps the rule of the board.
use Rattle.std.proofs.Common.{
  ◌≡◌,
  ℕ,
  zero,
  suc,
  ◌<◌,
  ◌≤◌,
  List,
  length,
  length-set,
  set,
  slice_index,
  if◌then◌else◌,
  Bool,
  true,
  Some,
  None,
  refl,
  sym,
  ap,
  ◌∙◌,
  subst,
  arith,
}
use Rattle.std.proofs.Math.Decide.{ℕ_discrete}
use mathlib.Core.Option.{Option, none, some}
use lib.ListN.{get_elem?}
use Rattle.atomic_table.specs.Table.{State, Me, Act, keeps, chain, gives, Valid, Allows, stepped, homes_after, carried_after}
use Rattle.atomic_table.proofs.Lists.{set_here, set_else}
use Rattle.pic_tile.specs.Directions.{directions}
use Rattle.pic_yard.specs.declared.opening.Opening.{Opening}
use Rattle.pic_yard.specs.declared.view.View.{View}
use Rattle.pic_yard.specs.Contents.{Slot, tiles_in, to_of, slot_kinds}
use Rattle.pic_yard.specs.Marks.{Board, Marks, IsRight}
use Rattle.pic_yard.specs.Members.{count_below}
use Rattle.pic_yard.specs.Places.{Places, Aways}
use Rattle.pic_yard.specs.Returns.{boxes_on, IsStacked, Returned}
use Rattle.pic_yard.specs.Rule.{Rule, board_of, ticket_of}
use Rattle.pic_yard.specs.Sits.{slot_at}
use Rattle.pic_yard.specs.Steps.{gave_back}
use Rattle.pic_yard.specs.Tickets.{Tickets}
use Rattle.pic_yard.proofs.BackLaws.{back_marks}
use Rattle.pic_yard.proofs.CountLaws.{at_else}
use Rattle.pic_yard.proofs.CollectLaws.{slot_row, slot_place}
use Rattle.pic_yard.proofs.PlaceLaws.{SlotsHold, ComesBack, back_places, back_aways}
use Rattle.pic_yard.proofs.PostLaws.{OneArrives}
use Rattle.pic_yard.proofs.TallyLaws.{one_step}
use Rattle.pic_yard.proofs.TicketLaws.{keep_numbers}
use Rattle.pic_yard.proofs.ViewLaws.{each_view, below_there}
use Rattle.pic_yard.proofs.WayLaws.{slots_hold}
use Rattle.pic_yard.proofs.WordLaws.{word_now, word_still}

-- the n slots that lie first are given back
unfoldable give_all : {S : Type 0} → ℕ → Act S
give_all zero = keeps
give_all (suc n) = chain gives (give_all n)

-- The first n mailboxes of r come home.

unfoldable boxes_home : ℕ → ℕ → List (Option Slot) → List (Option Slot)
boxes_home r zero homes = homes
boxes_home r (suc k) homes = boxes_home r k (set homes (slot_at r k) (some None))

give_homes : (r n : ℕ) (homes : List (Option Slot)) (slots : List (ℕ × Slot)) → homes_after homes (boxes_on r n slots) (give_all n) ≡ boxes_home r n homes
unfolding boxes_on boxes_home give_all
give_homes r zero homes slots = refl
give_homes r (suc k) homes slots = give_homes r k (set homes (slot_at r k) (some None)) slots

give_carried : (r n : ℕ) (slots : List (ℕ × Slot)) → carried_after (boxes_on r n slots) (give_all n) ≡ slots
unfolding boxes_on give_all
give_carried r zero slots = refl
give_carried r (suc k) slots = give_carried r k slots

give_valid : (r n : ℕ) (homes : List (Option Slot)) (slots : List (ℕ × Slot)) → Valid homes (boxes_on r n slots) (give_all n)
unfolding boxes_on give_all
give_valid r zero homes slots = tt
give_valid r (suc k) homes slots = (tt, give_valid r k (set homes (slot_at r k) (some None)) slots)

boxes_long : (r n : ℕ) (homes : List (Option Slot)) → length (boxes_home r n homes) ≡ length homes
unfolding boxes_home
boxes_long r zero homes = refl
boxes_long r (suc k) homes = boxes_long r k (set homes (slot_at r k) (some None)) ∙ length-set homes (slot_at r k) (some None)

boxes_else : (r n : ℕ) (homes : List (Option Slot)) (at : ℕ) → ((k : ℕ) → k < n → at ≡ slot_at r k → ⊥)
    → get_elem? (boxes_home r n homes) at ≡ get_elem? homes at
unfolding boxes_home
boxes_else r zero homes at not = refl
boxes_else r (suc k) homes at not =
    boxes_else r k (set homes (slot_at r k) (some None)) at (λ l below. not l (omega (arith, below)))
    ∙ set_else homes (slot_at r k) at (some None) (not k (omega arith))

boxes_there : (r n : ℕ) (homes : List (Option Slot)) → n ≤ directions → ((k : ℕ) → k < n → slot_at r k < length homes)
    → (k : ℕ) → k < n → get_elem? (boxes_home r n homes) (slot_at r k) ≡ some (some None)
unfolding boxes_home
boxes_there r zero homes most inside k below = absurd (omega (arith, below))
boxes_there r (suc m) homes most inside k below =
    let next : List (Option Slot) = set homes (slot_at r m) (some None) in
    elim (ℕ_discrete k m) [
      | yes is ↦
          let top : get_elem? (boxes_home r m next) (slot_at r m) ≡ some (some None) =
          boxes_else r m next (slot_at r m) (λ l less same.
          let e : m ≡ l = slot_place directions r m r l (omega (arith, most)) (omega (arith, most, less)) same in omega (arith, e, less))
          ∙ set_here homes (slot_at r m) (some None) (inside m (omega arith)) in
          ap (λ (q : ℕ). get_elem? (boxes_home r m next) (slot_at r q)) is ∙ top
      | no apart ↦
          boxes_there r m next (omega (arith, most))
          (λ l less. subst (λ (c : ℕ). slot_at r l < c) (sym (length-set homes (slot_at r m) (some None))) (inside l (omega (arith, less))))
          k (omega (arith, below, apart))
    ]

module _ (o : Opening) (s : State Slot View) (rule : Rule o s) (id : ℕ) (me : Me Slot View) (at : get_elem? s.views id ≡ some me.0)
    (r : ℕ) (tile : Slot) (slots : List (ℕ × Slot)) (stack : IsStacked o me r tile slots) where
  abbrev board : Board
  board = board_of o s rule.posted rule.shut

  abbrev hold : SlotsHold (slot_kinds o) board (to_of o)
  hold = slots_hold o s rule

  abbrev T : ℕ
  T = tiles_in o

  abbrev w : ℕ
  w = ticket_of s

  abbrev right : IsRight T directions rule.posted rule.shut rule.marks.finisher r id
  right = rule.marks.rights id me.0 at stack.live r stack.right

  abbrev home : ℕ
  home = slot_at r directions

  abbrev act : Act Slot
  act = chain gives (give_all directions)

  abbrev first_home : List (Option Slot)
  first_home = set s.homes home (some tile)

  abbrev given : List (Option Slot)
  given = boxes_home r directions first_home

  inside : (k : ℕ) → k < suc directions → slot_at r k < length s.homes
  inside k below = below_there s.homes (slot_at r k) none (rule.aways.held r k right.tile below right.all right.open_yet)

  act_homes : homes_after s.homes me.1 act ≡ given
  act_homes = ap (λ (c : List (ℕ × Slot)). homes_after s.homes c act) stack.first ∙ give_homes r directions first_home slots

  act_carried : carried_after me.1 act ≡ slots
  act_carried = ap (λ (c : List (ℕ × Slot)). carried_after c act) stack.first ∙ give_carried r directions slots

  act_valid : Valid s.homes me.1 act
  act_valid = subst (λ (c : List (ℕ × Slot)). Valid s.homes c act) (sym stack.first) (tt, give_valid r directions first_home slots)

  abbrev after : View
  after = gave_back r me.0

  abbrev now_shut : ℕ → Bool
  now_shut = at_else r true rule.shut

  abbrev Back : List (Option Slot) → Type 0
  Back later =
      ComesBack hold r later

  comes : Back given
  comes = record {
    boxes = λ d dir. record {
      value = None;
      there = boxes_there r directions first_home (omega arith)
          (λ k below. subst (λ (c : ℕ). slot_at r k < c) (sym (length-set s.homes home (some tile))) (inside k (omega (arith, below)))) d dir;
      is = refl;
    };
    home = record {
      value = tile;
      there = boxes_else r directions first_home home (λ k below same.
          let e : directions ≡ k = slot_place directions r directions r k (omega arith) (omega (arith, below)) same in omega (arith, e, below))
          ∙ set_here s.homes home (some tile) (inside directions (omega arith));
      is = stack.is;
    };
    others = λ q k apart below.
        boxes_else r directions first_home (slot_at q k) (λ l less same. apart (slot_row directions q k r l below (omega (arith, less)) same))
        ∙ set_else s.homes home (slot_at q k) (some tile) (λ same. apart (slot_row directions q k r directions below (omega arith) same));
  }

  there : suc r < length s.words
  there = let e : length s.words ≡ suc T = rule.words in let b : r < T = right.tile in omega (arith, e, b)

  -- all have arrived
  word : slice_index s.words (suc r) ≡ directions
  word =
      rule.marks.arrivals r right.tile
      ∙ ap (λ (b : Bool). if b then suc directions else count_below (rule.posted r) directions) right.open_yet ∙ right.all

  words_are : OneArrives T r (suc directions) s.words (set s.words (suc r) (suc directions))
  words_are = record {
    now = word_now s.words (suc r) (suc directions) there;
    others = λ x tile_x apart. word_still s.words (suc r) (suc x) (suc directions) (λ e. apart (omega (arith, e)));
  }

  same_ticket : ticket_of (record s { words = set s.words (suc r) (suc directions) }) ≡ w
  same_ticket = word_still s.words (suc r) 0 (suc directions) (λ e. omega (arith, e))

  back_rule : Rule o (stepped s (suc r) (suc directions) id me.1 after act)
  back_rule =
      let later : List (Option Slot) = homes_after s.homes me.1 act in
      record {
        posted = rule.posted;
        shut = now_shut;
        sound = rule.sound;
        opens = rule.opens;
        small = rule.small;
        words = length-set s.words (suc r) (suc directions) ∙ rule.words;
        slots = ap (λ (hs : List (Option Slot)). length hs) act_homes ∙ boxes_long r directions first_home ∙ length-set s.homes home (some tile) ∙ rule.slots;
        opened = each_view (λ (i : ℕ) (x : View). x.opening ≡ Some o) s.views id after (λ alive. stack.opened)
            (λ i x apart there alive. rule.opened i x there alive);
        tickets = subst (λ (k : ℕ). Tickets T o.seats k (set s.views id after)) (sym same_ticket)
            (keep_numbers T o.seats w s.views rule.tickets id me.0 at stack.live after.owes after.rights);
        marks = subst (λ (k : ℕ). Marks (record board { ticket = k; shut = now_shut }) (set s.words (suc r) (suc directions)) (set s.views id after))
            (sym same_ticket)
            (back_marks board s.words (set s.words (suc r)
            (suc directions)) s.views rule.marks id me.0 at stack.live r stack.right words_are);
        places = subst (λ (k : ℕ). Places (slot_kinds o) (record board { ticket = k; shut = now_shut }) later) (sym same_ticket)
            (subst (λ (hs : List (Option Slot)). Places (slot_kinds o) (record board { shut = now_shut }) hs) (sym act_homes)
            (back_places hold r right.tile right.all given comes));
        aways = subst (λ (k : ℕ). Aways (record board { ticket = k; shut = now_shut }) later) (sym same_ticket)
            (subst (λ (hs : List (Option Slot)). Aways (record board { shut = now_shut }) hs) (sym act_homes)
            (back_aways hold r right.tile right.all given comes));
        tally = one_step s.words s.views (suc r) directions id me.0 after rule.tally there word at refl;
      }

-- giving back by a seat that has the right to the tile, and has it finished at hand
pub back_allowed : (o : Opening) (slots id : ℕ) (me : Me Slot View) (r : ℕ) (tile : Slot) (list : List (ℕ × Slot)) → IsStacked o me r tile list
    → Allows (Rule o) slots id me (suc r) (λ n. suc directions) (λ n. Returned r list me)
back_allowed o slots id me r tile list stack s rule wide at small = (
  gave_back r me.0,
  chain gives (give_all directions),
  act_valid o s rule id me at r tile list stack,
  back_rule o s rule id me at r tile list stack,
  λ i. (gave_back r me.0, act_carried o s rule id me at r tile list stack i),
)
