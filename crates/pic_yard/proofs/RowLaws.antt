-- All seats of a board, made of the first.
use Rattle.std.proofs.Common.{◌≡◌, ℕ, zero, suc, ◌+◌, ◌-◌, ◌<◌, List, [], ◌∷◌, ◌++◌, length, length-append, Bool, false}
use Rattle.std.proofs.Common.{set, get_or, eqb, ne_eqb, eq-eqb, if◌then◌else◌, inl, refl, sym, ap, ◌∙◌, subst, arith}
use Rattle.std.proofs.Math.Decide.{ℕ_discrete}
use Rattle.std.proofs.lemmas.List.{get_or-set_same, get_or-set_other, length-set, get_or_append_left, get_or_push}
use Rattle.atomic_table.specs.declared.shared.Seat.{Seat}
use Rattle.pic_yard.specs.declared.opening.Opening.{Opening}
use Rattle.pic_yard.specs.declared.view.View.{View}
use Rattle.pic_yard.specs.declared.yard.Yard.{Yard}
use Rattle.pic_yard.specs.Contents.{Slot}
use Rattle.pic_yard.specs.Members.{without}
use Rattle.pic_yard.specs.Seats.{AreNewSeats, HasNext, IsNewSeat, gave_next, new_view, next_seat}
use Rattle.pic_yard.proofs.Turns.{AreMade}
use Rattle.pic_yard.specs.Steps.{ahead}
use Rattle.pic_yard.specs.Yards.{opening_of, view_of, Serves}

-- a lower number is none of those from k on
not_ahead : (x k n : ℕ) → x < k → without (eqb x) (ahead k n) ≡ ahead k n
unfolding ahead
not_ahead x k zero below = refl
not_ahead x k (suc n) below =
    let apart : eqb x k ≡ false = ne_eqb x k (omega (arith, below)) in
    ap (λ (b : Bool). if b then without (eqb x) (ahead (suc k) n) else k ∷ without (eqb x) (ahead (suc k) n)) apart
    ∙ ap (λ (xs : List ℕ). k ∷ xs) (not_ahead x (suc k) n (omega (arith, below)))

-- the next number of the first seat
one_ahead : (n k : ℕ) → k < n → ahead k (n - k) ≡ k ∷ ahead (suc k) (n - suc k)
unfolding ahead
one_ahead n k below =
    let is : n - k ≡ suc (n - suc k) = omega (arith, below) in
    ap (λ (m : ℕ). ahead k m) is

next_is : (o : Opening) (n k : ℕ) (v : View) → k < n → v ≡ new_view o 0 (ahead k (n - k)) → v ≡ new_view o 0 (k ∷ ahead (suc k) (n - suc k))
next_is o n k v below is = is ∙ ap (λ (xs : List ℕ). new_view o 0 xs) (one_ahead n k below)

pub has_next : (o : Opening) (n k : ℕ) (v : View) → k < n → v ≡ new_view o 0 (ahead k (n - k)) → HasNext v
has_next o n k v below is = subst (λ (u : View). HasNext u) (sym (next_is o n k v below is)) (inl refl)

gave : (o : Opening) (n k : ℕ) (v : View) → k < n → v ≡ new_view o 0 (ahead k (n - k)) → gave_next v ≡ new_view o 0 (ahead (suc k) (n - suc k))
gave o n k v below is =
    let rest = ahead (suc k) (n - suc k) in
    ap gave_next (next_is o n k v below is)
    ∙ ap (λ (b : Bool). new_view o 0 (if b then without (eqb k) rest else k ∷ without (eqb k) rest)) (eq-eqb k k refl)
    ∙ ap (λ (xs : List ℕ). new_view o 0 xs) (not_ahead k (suc k) (n - suc k) (omega arith))

made : (o : Opening) (n k : ℕ) (v : View) → k < n → v ≡ new_view o 0 (ahead k (n - k)) → next_seat v ≡ new_view o k []
made o n k v below is = ap next_seat (next_is o n k v below is)

pub made_more : (yard : Yard) (n k : ℕ) (seats : List (Seat Slot View)) (d first next : Seat Slot View) → AreMade yard n k seats → k < n
    → Serves yard first → view_of first ≡ gave_next (view_of (get_or seats 0 d)) → Serves yard next → view_of next ≡ next_seat (view_of (get_or seats 0 d))
    → AreMade yard n (k + 1) (set seats 0 first ++ next ∷ [])
made_more yard n k seats d first next so_far below serves view serves_next view_next =
    let o = opening_of yard in
    let long : length (set seats 0 first) ≡ k = length-set seats 0 first ∙ so_far.count in
    let some : 0 < k = so_far.some in
    let old : view_of (get_or seats 0 d) ≡ new_view o 0 (ahead k (n - k)) = (so_far.first d).view in
    record {
      count = let a = length-append (set seats 0 first) (next ∷ []) in omega (arith, a, long);
      some = omega arith;
      first = λ seat.
          let is : get_or (set seats 0 first ++ next ∷ []) 0 seat ≡ first =
          get_or_append_left (set seats 0 first) (next ∷ []) seat 0 (omega (arith, long, some))
          ∙ get_or-set_same seats 0 first seat (let c = so_far.count in omega (arith, c, some)) in
          subst (λ (s : Seat Slot View). IsNewSeat yard 0 (ahead (k + 1) (n - (k + 1))) s) (sym is)
          (record {
            serves = serves;
            view = view ∙ gave o n k (view_of (get_or seats 0 d)) below old ∙ ap (λ (m : ℕ). new_view o 0 (ahead m (n - m))) (omega arith);
          });
      others = λ i seat above under. elim (ℕ_discrete i k) [
        | yes same ↦
            let is : get_or (set seats 0 first ++ next ∷ []) i seat ≡ next = get_or_push (set seats 0 first) next seat i (long ∙ sym same) in
            subst (λ (s : Seat Slot View). IsNewSeat yard i [] s) (sym is)
            (record {
              serves = serves_next;
              view = view_next ∙ made o n k (view_of (get_or seats 0 d)) below old ∙ ap (λ (m : ℕ). new_view o m []) (sym same);
            })
        | no apart ↦
            let inside : i < k = omega (arith, under, apart) in
            let is : get_or (set seats 0 first ++ next ∷ []) i seat ≡ get_or seats i seat =
            get_or_append_left (set seats 0 first) (next ∷ []) seat i (omega (arith, long, inside))
            ∙ get_or-set_other seats 0 i first seat (omega (arith, above)) in
            subst (λ (s : Seat Slot View). IsNewSeat yard i [] s) (sym is) (so_far.others i seat above inside)
      ];
    }

pub all_made : (yard : Yard) (n : ℕ) (seats : List (Seat Slot View)) → AreMade yard n n seats → AreNewSeats yard seats
unfolding ahead
all_made yard n seats all i seat below = elim (ℕ_discrete i 0) [
  | yes is ↦
      let none : n - n ≡ 0 = omega arith in
      subst (λ (k : ℕ). IsNewSeat yard k [] (get_or seats k seat)) (sym is)
      (subst (λ (m : ℕ). IsNewSeat yard 0 (ahead n m) (get_or seats 0 seat)) none (all.first seat))
  | no apart ↦ let long = all.count in all.others i seat (omega (arith, apart)) (omega (arith, below, long))
]
