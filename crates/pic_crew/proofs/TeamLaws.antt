-- New seats may work, and are done when each has.
use Rattle.std.proofs.Common.{◌≡◌, ℕ, ◌+◌, ◌<◌, ◌≤◌, List, [], ◌∷◌, ◌++◌, length, length-append, All, ◌∙◌, ap, subst, arith}
use Rattle.std.specs.List.{AllZip}
use Rattle.std.proofs.Math.Seq.{take-append_seam, drop-append_seam}
use Rattle.std.proofs.lemmas.List.Elements.{All-head, All-tail, All-take, All-drop, AllZip-get_or, length_all_zip}
use Rattle.atomic_table.specs.declared.shared.Seat.{Seat}
use Rattle.pic_yard.specs.declared.view.View.{View}
use Rattle.pic_yard.specs.declared.yard.Yard.{Yard}
use Rattle.pic_yard.specs.Contents.{Slot}
use Rattle.pic_yard.specs.Seats.{AreNewSeats, IsNewSeat}
use Rattle.pic_team.specs.Sharing.{CanShare}
use Rattle.pic_crew.specs.Teams.{AreDone, CanWork, HasWorked, most_workers}

can_work : (yard : Yard) (number : ℕ) (seat : Seat Slot View) → IsNewSeat yard number [] seat → CanWork yard seat
can_work yard number seat new = record {
  serves = new.serves;
  fresh = ap (λ (v : View). v.told) new.view;
  idle = record { owes = ap (λ (v : View). v.owes) new.view; rights = ap (λ (v : View). v.rights) new.view };
}

pub all_can : (yard : Yard) (seats : List (Seat Slot View)) → AreNewSeats yard seats → All (CanWork yard) seats
all_can yard seats new k seat below = can_work yard k _ (new k seat below)

pub all_done : (yard : Yard) (old new : List (Seat Slot View)) → AreNewSeats yard old → AllZip (HasWorked yard) old new → AreDone yard new
all_done yard old new fresh worked i seat below =
    let long : length old ≡ length new = length_all_zip (HasWorked yard) old new worked in
    let inside : i < length old = omega (arith, long, below) in
    let one : HasWorked yard _ _ = AllZip-get_or (HasWorked yard) old new i seat seat worked inside in
    record {
      serves = one.serves;
      ended = one.ended;
      number_is = one.same.number ∙ ap (λ (v : View). v.number) (fresh i seat inside).view;
    }

-- of seats that may work the first may, and so may the others
pub first_can : (yard : Yard) (seats others : List (Seat Slot View)) (seat : Seat Slot View) → seats ≡ seat ∷ others → All (CanWork yard) seats
    → CanWork yard seat
first_can yard seats others seat is can = All-head (CanWork yard) seat others (subst (λ (ss : List (Seat Slot View)). All (CanWork yard) ss) is can)

pub others_can : (yard : Yard) (seats others : List (Seat Slot View)) (seat : Seat Slot View) → seats ≡ seat ∷ others → All (CanWork yard) seats
    → All (CanWork yard) others
others_can yard seats others seat is can = All-tail (CanWork yard) seat others (subst (λ (ss : List (Seat Slot View)). All (CanWork yard) ss) is can)

-- the work of a board can be shared out
zip_append : {X : Type 0} (R : X → X → Type 0) (xs ys us vs : List X) → AllZip R xs us → AllZip R ys vs → AllZip R (xs ++ ys) (us ++ vs)
zip_append R [] ys [] vs p q = q
zip_append R [] ys (u ∷ us) vs p q = absurd p
zip_append R (x ∷ xs) ys [] vs p q = absurd p
zip_append R (x ∷ xs) ys (u ∷ us) vs p q = (p.0, zip_append R xs ys us vs p.1 q)

all_front : (yard : Yard) (xs ys : List (Seat Slot View)) → All (CanWork yard) (xs ++ ys) → All (CanWork yard) xs
all_front yard xs ys all = subst (All (CanWork yard)) (take-append_seam xs ys) (All-take (CanWork yard) (length xs) (xs ++ ys) all)

all_back : (yard : Yard) (xs ys : List (Seat Slot View)) → All (CanWork yard) (xs ++ ys) → All (CanWork yard) ys
all_back yard xs ys all = subst (All (CanWork yard)) (drop-append_seam xs ys) (All-drop (CanWork yard) (length xs) (xs ++ ys) all)

pub crews_share : (yard : Yard)
    → CanShare (λ i seats (us : List (Seat Slot View)). (i + length seats ≤ most_workers) × All (CanWork yard) seats)
    (λ i seats us new vs (answer : Unit {0}). AllZip (HasWorked yard) seats new) (λ a b. tt)
crews_share yard = record {
  front = λ i xs ys us vs beside can. (let all = length-append xs ys in let few = can.0 in omega (arith, all, few), all_front yard xs ys can.1);
  back = λ i xs ys us vs beside can. (let all = length-append xs ys in let few = can.0 in omega (arith, all, few), all_back yard xs ys can.1);
  whole = λ i xs ys xs' ys' us vs us' vs' a b beside p q. zip_append (HasWorked yard) xs ys xs' ys' p q;
}
