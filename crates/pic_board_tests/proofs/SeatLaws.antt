-- The seats of a board with one seat, and with two.
use Rattle.std.proofs.Common.{◌≡◌, ℕ, ◌+◌, ◌⊎◌, inl, inr, List, [], ◌∷◌, ◌++◌, length, length-append, refl, sym, ◌∙◌, ap, subst, arith}
use Rattle.std.proofs.Math.Decide.{ℕ_discrete}
use Rattle.std.proofs.lemmas.List.{get_or_append_left, get_or_push}
use Rattle.atomic_table.specs.declared.shared.Seat.{Seat}
use Rattle.pic_yard.specs.declared.view.View.{View}
use Rattle.pic_yard.specs.declared.yard.Yard.{Yard}
use Rattle.pic_yard.specs.Contents.{Slot}
use Rattle.pic_yard.specs.Members.{In}
use Rattle.pic_yard.specs.Seats.{AreNewSeats, HasAllNumbers, IsNewSeat}
use Rattle.pic_yard.specs.Steps.{took_in}
use Rattle.pic_yard.specs.Yards.{view_of}
use Rattle.pic_crew.specs.Teams.{CanWork, HasWorked}

-- the last of new seats, and those before it
pub last_new : (yard : Yard) (seats left : List (Seat Slot View)) (seat : Seat Slot View) → AreNewSeats yard seats → seats ≡ left ++ seat ∷ []
    → IsNewSeat yard (length left) [] seat
last_new yard seats left seat new is =
    let all = subst (λ (ss : List (Seat Slot View)). AreNewSeats yard ss) is new in
    let long = length-append left (seat ∷ []) in
    subst (λ (s : Seat Slot View). IsNewSeat yard (length left) [] s) (get_or_push left seat seat (length left) refl)
    (all (length left) seat (omega (arith, long)))

pub others_new : (yard : Yard) (seats left : List (Seat Slot View)) (seat : Seat Slot View) → AreNewSeats yard seats → seats ≡ left ++ seat ∷ []
    → AreNewSeats yard left
others_new yard seats left seat new is i d below =
    let all = subst (λ (ss : List (Seat Slot View)). AreNewSeats yard ss) is new in
    let long = length-append left (seat ∷ []) in
    subst (λ (s : Seat Slot View). IsNewSeat yard i [] s) (get_or_append_left left (seat ∷ []) d i below) (all i d (omega (arith, long, below)))

-- one seat fewer
pub fewer : (n : ℕ) (seats left : List (Seat Slot View)) (seat : Seat Slot View) → length seats ≡ n + 1 → seats ≡ left ++ seat ∷ [] → length left ≡ n
fewer n seats left seat count is =
    let long : length seats ≡ length left + 1 = ap (λ (ss : List (Seat Slot View)). length ss) is ∙ length-append left (seat ∷ []) in
    omega (arith, count, long)

pub can_work : (yard : Yard) (i : ℕ) (seat : Seat Slot View) → IsNewSeat yard i [] seat → CanWork yard seat
can_work yard i seat new = record {
  serves = new.serves;
  fresh = ap (λ (v : View). v.told) new.view;
  idle = record { owes = ap (λ (v : View). v.owes) new.view; rights = ap (λ (v : View). v.rights) new.view };
}

-- after its work it has its number
pub number_is : (yard : Yard) (i k : ℕ) (old new : Seat Slot View) → IsNewSeat yard i [] old → HasWorked yard old new → i ≡ k → (view_of new).number ≡ k
number_is yard i k old new first worked is = worked.same.number ∙ ap (λ (v : View). v.number) first.view ∙ is

pub all_one : (n : ℕ) (v : View) → n ≡ 1 → v.number ≡ 0 → HasAllNumbers n v
all_one n v one own x below = inl (let e : x ≡ 0 = omega (arith, one, below) in e ∙ sym own)

pub all_two : (n : ℕ) (v u w : View) → n ≡ 2 → v.number ≡ 0 → u.number ≡ 1 → w ≡ took_in v u → HasAllNumbers n w
all_two n v u w two own other is x below =
    subst (λ (y : View). (x ≡ y.number) ⊎ In x y.taken) (sym is)
    (elim (ℕ_discrete x 0) [
      | yes first ↦ inl (first ∙ sym own)
      | no apart ↦ inr (inl (let e : x ≡ 1 = omega (arith, two, below, apart) in e ∙ sym other))
    ])
