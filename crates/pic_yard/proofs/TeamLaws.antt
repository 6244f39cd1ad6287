-- The making and the taking in of a seat keep the rule of the board, and what holds at its end.
use Rattle.std.proofs.Common.{◌≡◌, ℕ, ◌<◌, ◌⊎◌, [], set, true, Some, inl, inr, refl, sym, ◌∙◌, subst, true≢false}
use mathlib.Core.Option.{some}
use lib.ListN.{get_elem?}
use Rattle.atomic_table.specs.Table.{State, Splits, Joins}
use Rattle.atomic_table.proofs.Lists.{set_else}
use Rattle.pic_yard.specs.declared.opening.Opening.{Opening}
use Rattle.pic_yard.specs.declared.view.View.{View}
use Rattle.pic_yard.specs.Contents.{Slot, tiles_in, to_of}
use Rattle.pic_yard.specs.Laws.{IsOver}
use Rattle.pic_yard.specs.Members.{In}
use Rattle.pic_yard.specs.Rule.{Rule, board_of, ticket_of}
use Rattle.pic_yard.specs.Steps.{gave_number, newcomer, took_in, spent_view}
use Rattle.pic_yard.proofs.NumberLaws.{number_given, seat_taken, all_taken}
use Rattle.pic_yard.proofs.SeatLaws.{split_marks, join_marks, all_shut}
use Rattle.pic_yard.proofs.TallyLaws.{steps_split, steps_join}
use Rattle.pic_yard.proofs.ViewLaws.{each_view, at_end}
use Rattle.pic_yard.proofs.WayLaws.{ways_of}

-- a seat gives away a number that was still to be made
pub split_allowed : (o : Opening) (id : ℕ) (v : View) (x : ℕ) → v.live ≡ true → v.opening ≡ Some o → In x v.unmade
    → Splits (Rule o) id v (gave_number x v) (newcomer v x)
split_allowed o id v x live opened is s rule at = record {
  posted = rule.posted;
  shut = rule.shut;
  sound = rule.sound;
  opens = rule.opens;
  small = rule.small;
  words = rule.words;
  slots = rule.slots;
  opened = λ i u there lives. elim (at_end (set s.views id (gave_number x v)) (newcomer v x) i u there) [
    | inl before ↦ each_view (λ (k : ℕ) (y : View). y.opening ≡ Some o) s.views id (gave_number x v) (λ alive. opened)
        (λ k y apart at' alive. rule.opened k y at' alive) i u before lives
    | inr last ↦ subst (λ (y : View). y.opening ≡ Some o) last.1 opened
  ];
  tickets = number_given (tiles_in o) o.seats (ticket_of s) s.views rule.tickets id v at live x is;
  marks = split_marks (board_of o s rule.posted rule.shut) s.words s.views rule.marks id v at live x;
  places = rule.places;
  aways = rule.aways;
  tally = rule.tally ∙ steps_split s.views id v (gave_number x v) (newcomer v x) at refl refl;
}

-- A seat takes in another, which was told that no tile is left and lists nothing. It is the other's
-- view as it is after the first is changed, which is another seat's.
pub join_allowed : (o : Opening) (id : ℕ) (v : View) (other : ℕ) (u : View) → v.live ≡ true → v.opening ≡ Some o → u.live ≡ true → u.told ≡ true
    → u.owes ≡ [] → u.rights ≡ [] → Joins (Rule o) id v other u (took_in v u) spent_view
join_allowed o id v other u live opened lives over no_owes no_rights s rule at apart at_other =
    let there : get_elem? s.views other ≡ some u = sym (set_else s.views id other (took_in v u) apart) ∙ at_other in
    record {
      posted = rule.posted;
      shut = rule.shut;
      sound = rule.sound;
      opens = rule.opens;
      small = rule.small;
      words = rule.words;
      slots = rule.slots;
      opened = each_view (λ (k : ℕ) (y : View). y.opening ≡ Some o) (set s.views id (took_in v u)) other spent_view (λ alive. absurd (true≢false (sym alive)))
          (λ k y ne at' alive. each_view (λ (l : ℕ) (z : View). z.opening ≡ Some o) s.views id (took_in v u) (λ yes_live. opened)
          (λ l z ne' at'' alive'. rule.opened l z at'' alive') k y at' alive);
      tickets = seat_taken (tiles_in o) o.seats (ticket_of s) s.views rule.tickets id v at live other u apart there lives over;
      marks = join_marks (board_of o s rule.posted rule.shut) s.words s.views rule.marks id v at live other u apart there no_owes no_rights;
      places = rule.places;
      aways = rule.aways;
      tally = rule.tally ∙ steps_join s.views id other v u (took_in v u) spent_view at at_other refl refl;
    }

-- a seat that has all numbers, was told that no tile is left, and lists nothing, is the last
pub over : (o : Opening) (s : State Slot View) (id : ℕ) (v : View) → Rule o s → get_elem? s.views id ≡ some v → v.live ≡ true → v.told ≡ true
    → ((x : ℕ) → x < o.seats → (x ≡ v.number) ⊎ In x v.taken) → v.owes ≡ [] → v.rights ≡ [] → IsOver o s
over o s id v rule at live told all no_owes no_rights =
    let alone = all_taken (tiles_in o) o.seats (ticket_of s) s.views rule.tickets id v at live told all in
    let closed = all_shut (board_of o s rule.posted rule.shut) s.words s.views rule.marks id v at live
    (to_of o) (ways_of o) alone.0 no_owes no_rights alone.1 in
    record { words = λ r tile. (closed r tile).1; finished = λ r tile. rule.places.finished r tile (closed r tile).0 }
