-- Histories of a board: each number is drawn once, and all steps are events of the core.
use Rattle.std.proofs.Common.{◌≡◌, ℕ, suc, ◌<◌, ◌≤◌, List, [], ◌∷◌, inl, inr, sym, ap, ◌∙◌, arith, slice_index}
use Rattle.atomic_table.specs.Table.{State}
use Rattle.pic_core.proofs.RunLaws.{ran_none, ran_append}
use Rattle.pic_yard.specs.declared.opening.Opening.{Opening}
use Rattle.pic_yard.specs.declared.view.View.{View}
use Rattle.pic_yard.specs.Contents.{Slot}
use Rattle.pic_yard.specs.Members.{In, Differ}
use Rattle.pic_yard.specs.Rule.{Rule, ticket_of}
use Rattle.pic_yard.proofs.MemberLaws.{in_parts, differ_both}
use Rattle.pic_board_laws.specs.BoardSteps.{IsStep, numbers_of, events_of}
use Rattle.pic_board_laws.specs.BoardSteps as steps
use Rattle.pic_board_laws.specs.Histories.{Follow, last_of, events_along, drawn_along, EachNumberIsDrawnOnce, NoTwoSeatsClaimOneTile}
use Rattle.pic_board_laws.specs.Laws.{LeadsTo, TheBoardRunsAsTheCore}
use Rattle.pic_board_laws.proofs.StepLaws.{goes_on}
use Rattle.pic_board_laws.proofs.StepWordLaws.{draw_ticket, post_ticket, back_ticket, split_words, join_words}

-- a step draws the number of the ticket or none, and the ticket passes what it draws
record DrawsTheTicket (o : Opening) (s next : State Slot View) (step : IsStep o s next) : Type 0 where
  rises : ticket_of s ≤ ticket_of next
  is : (x : ℕ) → In x (numbers_of o s next step) → x ≡ ticket_of s
  passed : (x : ℕ) → In x (numbers_of o s next step) → x < ticket_of next
  differ : Differ (numbers_of o s next step)

draws_the_ticket : (o : Opening) (s next : State Slot View) → Rule o s → (step : IsStep o s next) → DrawsTheTicket o s next step
draws_the_ticket o s next rule (steps.draws id me step) =
    let now : ticket_of next ≡ suc (ticket_of s) = draw_ticket o s next rule id me step in
    record {
      rises = omega (arith, now);
      is = λ x had. elim had [ inl same ↦ same | inr more ↦ elim more [ ] ];
      passed = λ x had. elim had [ inl same ↦ omega (arith, now, same) | inr more ↦ elim more [ ] ];
      differ = ((λ more. more), tt);
    }
draws_the_ticket o s next rule (steps.posts id me r d parcel slots step) =
    let now : ticket_of next ≡ ticket_of s = post_ticket o s next rule id me r d parcel slots step in
    record { rises = omega (arith, now); is = λ x had. elim had [ ]; passed = λ x had. elim had [ ]; differ = tt }
draws_the_ticket o s next rule (steps.returns id me r tile slots step) =
    let now : ticket_of next ≡ ticket_of s = back_ticket o s next rule id me r tile slots step in
    record { rises = omega (arith, now); is = λ x had. elim had [ ]; passed = λ x had. elim had [ ]; differ = tt }
draws_the_ticket o s next rule (steps.splits id v x step) =
    let now : ticket_of next ≡ ticket_of s = ap (λ (ws : List ℕ). slice_index ws 0) (split_words o s next rule id v x step) in
    record { rises = omega (arith, now); is = λ x had. elim had [ ]; passed = λ x had. elim had [ ]; differ = tt }
draws_the_ticket o s next rule (steps.joins id v other u step) =
    let now : ticket_of next ≡ ticket_of s = ap (λ (ws : List ℕ). slice_index ws 0) (join_words o s next rule id v other u step) in
    record { rises = omega (arith, now); is = λ x had. elim had [ ]; passed = λ x had. elim had [ ]; differ = tt }

-- what is drawn on the way isn't below the ticket
not_below : (o : Opening) (s : State Slot View) (more : List (State Slot View)) (way : Follow o s more) (x : ℕ) → In x (drawn_along o s more way)
    → ticket_of s ≤ x
not_below o s [] way x had = elim had [ ]
not_below o s (next ∷ more) way x had =
    let step = draws_the_ticket o s next way.0 way.1 in
    let up : ticket_of s ≤ ticket_of next = step.rises in
    elim (in_parts x (numbers_of o s next way.1) (drawn_along o next more way.2) had) [
      | inl now ↦ let same : x ≡ ticket_of s = step.is x now in omega (arith, same)
      | inr later ↦ let above : ticket_of next ≤ x = not_below o next more way.2 x later in omega (arith, up, above)
    ]

pub drawn_once : EachNumberIsDrawnOnce
drawn_once o s [] way = tt
drawn_once o s (next ∷ more) way =
    let step = draws_the_ticket o s next way.0 way.1 in
    differ_both (numbers_of o s next way.1) (drawn_along o next more way.2) step.differ (drawn_once o next more way.2)
    (λ x now later.
    let less : x < ticket_of next = step.passed x now in
    let above : ticket_of next ≤ x = not_below o next more way.2 x later in
    omega (arith, less, above))

pub drawn_apart : NoTwoSeatsClaimOneTile
drawn_apart o s rule = record {
  below = λ j v there live. (rule.tickets.each j v there live).drawn;
  claimed = λ j v there live r d had. (rule.marks.owes j v there live r d had).sender;
  apart = λ i j u v there live at lives r d q e had has same.
      sym (rule.marks.owes i u there live r d had).by ∙ ap rule.marks.claimer same ∙ (rule.marks.owes j v at lives q e has).by;
}

pub runs : TheBoardRunsAsTheCore
runs o s [] c x way = (c, ran_none c, x)
runs o s (next ∷ more) c x way =
    let one : LeadsTo o c (events_of o s next way.1) next = goes_on o s next c way.0 x way.1 in
    let rest : LeadsTo o one.0 (events_along o next more way.2) (last_of next more) = runs o next more one.0 one.2 way.2 in
    (rest.0, ran_append c (events_of o s next way.1) (events_along o next more way.2) one.0 rest.0 one.1 rest.1, rest.2)
