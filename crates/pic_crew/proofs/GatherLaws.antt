-- One seat takes in all others.
use Rattle.std.proofs.Common.{◌≡◌, ℕ, ◌+◌, inl, inr, List, [], ◌∷◌, ◌++◌, length, length-append, take, drop, refl, sym, ◌∙◌, ap, subst, arith}
use Rattle.std.proofs.Math.Decide.{ℕ_discrete}
use Rattle.std.proofs.lemmas.List.{append-nil, drop_all, get_or_append_left, get_or_push, take_all}
use Rattle.atomic_table.specs.declared.shared.Seat.{Seat}
use Rattle.pic_yard.specs.declared.view.View.{View}
use Rattle.pic_yard.specs.declared.yard.Yard.{Yard}
use Rattle.pic_yard.specs.Contents.{Slot}
use Rattle.pic_yard.specs.Seats.{IsThrough, HasNumber}
use Rattle.pic_yard.specs.Steps.{took_in}
use Rattle.pic_yard.specs.Yards.{Serves, view_of}
use Rattle.pic_yard.proofs.MemberLaws.{in_left}
use Rattle.pic_crew.specs.Teams.{AreDone, IsDone}
use Rattle.pic_crew.proofs.Turns.{IsGathering}

-- the last seat, and those before it
pub last_done : (yard : Yard) (seats left : List (Seat Slot View)) (seat : Seat Slot View) → AreDone yard seats → seats ≡ left ++ seat ∷ []
    → IsDone yard (length left) seat
last_done yard seats left seat done is =
    let all = subst (λ (ss : List (Seat Slot View)). AreDone yard ss) is done in
    let long = length-append left (seat ∷ []) in
    subst (λ (s : Seat Slot View). IsDone yard (length left) s) (get_or_push left seat seat (length left) refl) (all (length left) seat (omega (arith, long)))

pub others_done : (yard : Yard) (seats left : List (Seat Slot View)) (seat : Seat Slot View) → AreDone yard seats → seats ≡ left ++ seat ∷ []
    → AreDone yard left
others_done yard seats left seat done is i d below =
    let all = subst (λ (ss : List (Seat Slot View)). AreDone yard ss) is done in
    let long = length-append left (seat ∷ []) in
    subst (λ (s : Seat Slot View). IsDone yard i s) (get_or_append_left left (seat ∷ []) d i below) (all i d (omega (arith, long, below)))

-- one more is taken in
pub gathering_more : (yard : Yard) (n : ℕ) (seats left : List (Seat Slot View)) (other old new : Seat Slot View) → IsGathering yard n seats old
    → seats ≡ left ++ other ∷ [] → Serves yard new → view_of new ≡ took_in (view_of old) (view_of other) → IsGathering yard n left new
gathering_more yard n seats left other old new so_far is serves view =
    let last = last_done yard seats left other so_far.left is in
    let v = view_of old in
    let u = view_of other in
    let long : length seats ≡ length left + 1 = ap (λ (ss : List (Seat Slot View)). length ss) is ∙ length-append left (other ∷ []) in
    record {
      left = others_done yard seats left other so_far.left is;
      serves = serves;
      ended = subst (λ (w : View). IsThrough w) (sym view) (record {
        told = so_far.ended.told;
        idle = record { owes = so_far.ended.idle.owes; rights = so_far.ended.idle.rights };
      });
      numbers = λ x from below.
          subst (λ (w : View). HasNumber w x) (sym view)
          (elim (ℕ_discrete x (length left)) [
            | yes same ↦ inr (inl (same ∙ sym last.number_is))
            | no apart ↦ elim (so_far.numbers x (omega (arith, long, from, apart)) below) [
              | inl own ↦ inl own
              | inr had ↦ inr (inr (in_left x v.taken u.taken had))
            ]
          ]);
    }

-- a list whose places are all filled anew
pub whole_list : {A : Type 0} (n : ℕ) (new old : List A) → n ≡ length old → length new ≡ length old → take n (new ++ drop (length new) old) ≡ new
whole_list n new old size long =
    let none : drop (length new) old ≡ [] = drop_all (length new) old (omega (arith, long)) in
    ap (λ xs. take n (new ++ xs)) none ∙ ap (λ xs. take n xs) (append-nil new) ∙ take_all n new (omega (arith, size, long))
