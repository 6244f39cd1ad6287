-- Each step of the board takes the core on by its events.
use Rattle.std.proofs.Common.{◌≡◌, ℕ, suc, ◌<◌, ◌≤◌, Bool, true, List, [], ◌∷◌, set, slice_index, if◌then◌else◌}
use Rattle.std.proofs.Common.{refl, sym, ap, ◌∙◌, subst, arith}
use Rattle.std.proofs.Math.Decide.{ℕ_discrete}
use native.Mathlib.Decide.{dec_le}
use Rattle.atomic_table.specs.Table.{State, Me}
use Rattle.pic_tile.specs.CoreState.{CoreState}
use Rattle.pic_tile.specs.Directions.{directions, here}
use Rattle.pic_core.specs.declared.event.Event.{Event}
use Rattle.pic_core.specs.declared.event.Event.TheVariants.{Claim, Post}
use Rattle.pic_core.specs.InTurn.{finishing}
use Rattle.pic_core.proofs.RunLaws.{ran_none}
use Rattle.pic_core.proofs.TurnLaws.{lt_true, lt_false}
use Rattle.pic_yard.specs.declared.opening.Opening.{Opening}
use Rattle.pic_yard.specs.declared.view.View.{View}
use Rattle.pic_yard.specs.Contents.{Slot, tiles_in, to_of, from_of}
use Rattle.pic_yard.specs.Marks.{Board, Marks, IsOwed, IsRight}
use Rattle.pic_yard.specs.Members.{count_below}
use Rattle.pic_yard.specs.Rule.{Rule, board_of, ticket_of}
use Rattle.pic_yard.specs.Sits.{Claimed}
use Rattle.pic_yard.specs.Steps.{did_claim, was_told, did_post, gave_back}
use Rattle.pic_yard.proofs.BackLaws.{back_marks}
use Rattle.pic_yard.proofs.CountLaws.{at_else, at_here, at_other, count_all}
use Rattle.pic_yard.proofs.MarkLaws.{ArrivalsStay, claim_marks, told_marks}
use Rattle.pic_yard.proofs.PostLaws.{posts, post_marks}
use Rattle.pic_yard.proofs.SeatLaws.{split_marks, join_marks}
use Rattle.pic_yard.proofs.WayLaws.{ways_of}
use Rattle.pic_board_laws.specs.BoardSteps.{IsDraw, IsPost, IsReturn, IsSplit, IsJoin, events_of}
use Rattle.pic_board_laws.specs.BoardSteps as steps
use Rattle.pic_board_laws.specs.Laws.{LeadsTo, TheBoardGoesOnAsTheCore}
use Rattle.pic_board_laws.specs.StandsFor.{StandsFor}
use Rattle.pic_board_laws.proofs.EventLaws.{HasMarks, Leads, marks_same, no_event, claim_leads, post_leads}
use Rattle.pic_board_laws.proofs.FinishLaws.{finish_leads}
use Rattle.pic_board_laws.proofs.StepWordLaws.{draw_words, draw_ticket, stay, found, post_words, post_ticket, post_arrives, back_words}
use Rattle.pic_board_laws.proofs.StepWordLaws.{back_ticket, back_arrives, split_words, join_words}
use Rattle.pic_board_laws.proofs.StoodLaws.{below, below_more, stood_of, marks_of}

-- the marks of a board, by the words and views that it has
abbrev MarksOf : Opening → ℕ → (ℕ → ℕ → Bool) → (ℕ → Bool) → List ℕ → List View → Type 0
MarksOf o ticket posted shut words views =
    Marks (record { tiles = tiles_in o; dirs = directions; here = here; ticket = ticket; from = from_of o; posted = posted; shut = shut }) words views

-- a core that events lead to with the marks of a board is one that the board stands for
arrives : (o : Opening) (next : State Slot View) (c : CoreState) (events : List Event) (ticket : ℕ) (posted : ℕ → ℕ → Bool) (shut : ℕ → Bool)
    (words : List ℕ) (views : List View) → next.words ≡ words → next.views ≡ views → ticket_of next ≡ ticket
    → MarksOf o ticket posted shut words views → Leads o c events (below ticket) posted (λ r d. shut r) shut → LeadsTo o c events next
arrives o next c events ticket posted shut words views same_words same_views same_ticket marks leads =
    let now : Marks (board_of o next posted shut) next.words next.views =
    subst (λ (k : ℕ). MarksOf o k posted shut next.words next.views) (sym same_ticket)
    (subst (λ (ws : List ℕ). MarksOf o ticket posted shut ws next.views) (sym same_words)
    (subst (λ (vs : List View). MarksOf o ticket posted shut words vs) (sym same_views) marks)) in (
      leads.next,
      leads.ran,
      record {
        stood = stood_of o next posted shut now leads.next
            (subst (λ (k : ℕ). HasMarks o leads.next (below k) posted (λ r d. shut r) shut) (sym same_ticket) leads.marks);
        stands = leads.stands;
      },
    )

module _ (o : Opening) (s next : State Slot View) (c : CoreState) (rule : Rule o s) (x : StandsFor o s c) where
  abbrev board : Board
  board = board_of o s rule.posted rule.shut

  abbrev n : ℕ
  n = ticket_of s

  abbrev T : ℕ
  T = tiles_in o

  abbrev merged : ℕ → ℕ → Bool
  merged r d = rule.shut r

  marks : HasMarks o c (below n) rule.posted merged rule.shut
  marks = marks_of o s rule.posted rule.shut rule.marks c x.stood

  -- a draw
  module _ (id : ℕ) (me : Me Slot View) (step : IsDraw o s next id me) where
    abbrev later : List ℕ
    later = set s.words 0 (suc n)

    words : next.words ≡ later
    words = draw_words o s next rule id me step

    ticket : ticket_of next ≡ suc n
    ticket = draw_ticket o s next rule id me step

    same : ArrivalsStay T s.words later
    same = stay o s next rule id me step

    draw_views : next.views ≡ set s.views id step.after
    draw_views = ap (λ (z : State Slot View). z.views) step.is

    -- of the number of a tile
    claims_it : n < T → LeadsTo o c (Claim n ∷ []) next
    claims_it tile =
        let told : Claimed o me n (step.after, _) = step.told.claimed tile in
        let after : View = did_claim (to_of o) directions n me.0 in
        let now = claim_marks board (to_of o) (ways_of o) s.words later s.views rule.marks id me.0 step.there step.sits.live same tile in
        let leads : Leads o c (Claim n ∷ []) (at_else n true (below n)) rule.posted merged rule.shut =
        claim_leads o c x.stands (below n) rule.posted merged rule.shut marks n tile (lt_false n n (omega arith)) in
        arrives o next c (Claim n ∷ []) (suc n) rule.posted rule.shut later (set s.views id after) words
        (draw_views ∙ ap (λ (v : View). set s.views id v) told.view) ticket now (record {
          next = leads.next;
          ran = leads.ran;
          stands = leads.stands;
          marks = marks_same o leads.next (at_else n true (below n)) (below (suc n)) rule.posted rule.posted merged merged rule.shut rule.shut
              (λ k less. below_more n k) (λ r d less dir. refl) (λ r d less dir. refl) (λ k less. refl) leads.marks;
        })

    -- or past the last tile
    claims_none : T ≤ n → LeadsTo o c [] next
    claims_none past =
        let earlier : (k : ℕ) → k < T → below n k ≡ below (suc n) k =
        λ k less. lt_true k n (omega (arith, less, past)) ∙ sym (lt_true k (suc n) (omega (arith, less, past))) in
        let after : View = was_told n me.0 in
        let now = told_marks board (to_of o) (ways_of o) s.words later s.views rule.marks id me.0 step.there step.sits.live same (suc n) true past in
        arrives o next c [] (suc n) rule.posted rule.shut later (set s.views id after) words
        (draw_views ∙ ap (λ (v : View). set s.views id v) (λ i. (step.told.told past i).0)) ticket now (record {
          next = c;
          ran = ran_none c;
          stands = x.stands;
          marks = marks_same o c (below n) (below (suc n)) rule.posted rule.posted merged merged rule.shut rule.shut
              earlier (λ r d less dir. refl) (λ r d less dir. refl) (λ k less. refl) marks;
        })

    pub draw_goes : LeadsTo o c (events_of o s next (steps.draws id me step)) next
    draw_goes = elim (dec_le T n) [
      | yes past ↦
          subst (λ (b : Bool). LeadsTo o c (if b then Claim n ∷ [] else []) next) (sym (lt_false n T past)) (claims_none past)
      | no there ↦
          let tile : n < T = omega (arith, there) in
          subst (λ (b : Bool). LeadsTo o c (if b then Claim n ∷ [] else []) next) (sym (lt_true n T tile)) (claims_it tile)
    ]

  -- a post
  module _ (id : ℕ) (me : Me Slot View) (r d : ℕ) (parcel : Slot) (slots : List (ℕ × Slot))
      (step : IsPost o s next id me r d parcel slots) where
    abbrev count : ℕ
    count = count_below (rule.posted r) directions

    abbrev owed : IsOwed T directions n (from_of o) rule.posted rule.marks.claimer r d id
    owed = rule.marks.owes id me.0 step.there step.ready.live r d step.ready.owes

    pub post_goes : LeadsTo o c (events_of o s next (steps.posts id me r d parcel slots step)) next
    post_goes =
        let later : List ℕ = set s.words (suc r) (suc count) in
        let after : View = did_post directions r d count me.0 in
        let now = post_marks board s.words later s.views rule.marks id me.0 step.there step.ready.live r d step.ready.owes
        (post_arrives o s next rule id me r d parcel slots step) in
        let view : step.after ≡ after = step.told.view ∙ ap (λ (k : ℕ). did_post directions r d k me.0) (found o s next rule id me r d parcel slots step) in
        arrives o next c (Post (from_of o r d) d ∷ []) n (posts rule.posted r d) rule.shut later (set s.views id after)
        (post_words o s next rule id me r d parcel slots step)
        (ap (λ (z : State Slot View). z.views) step.is ∙ ap (λ (v : View). set s.views id v) view) (post_ticket o s next rule id me r d parcel slots step) now
        (post_leads o c x.stands (below n) rule.posted merged rule.shut marks r d owed.tile owed.dir
        (lt_true (from_of o r d) n owed.sender) owed.free)

  -- a finished tile given back
  module _ (id : ℕ) (me : Me Slot View) (r : ℕ) (tile : Slot) (slots : List (ℕ × Slot))
      (step : IsReturn o s next id me r tile slots) where
    abbrev right : IsRight T directions rule.posted rule.shut rule.marks.finisher r id
    right = rule.marks.rights id me.0 step.there step.ready.live r step.ready.right

    pub back_goes : LeadsTo o c (finishing r) next
    back_goes =
        let later : List ℕ = set s.words (suc r) (suc directions) in
        let after : View = gave_back r me.0 in
        let closed : ℕ → Bool = at_else r true rule.shut in
        let now = back_marks board s.words later s.views rule.marks id me.0 step.there step.ready.live r step.ready.right
        (back_arrives o s next rule id me r tile slots step) in
        let leads : Leads o c (finishing r) (below n) rule.posted (at_else r (λ e. true) merged) closed =
        finish_leads o (below n) rule.posted merged rule.shut r right.tile (λ e dir. count_all (rule.posted r) directions e right.all dir)
        (λ e dir. right.open_yet) c x.stands marks right.open_yet in
        arrives o next c (finishing r) n rule.posted closed later (set s.views id after)
        (back_words o s next rule id me r tile slots step)
        (ap (λ (z : State Slot View). z.views) step.is ∙ ap (λ (v : View). set s.views id v) (λ i. (step.told i).0))
        (back_ticket o s next rule id me r tile slots step) now (record {
          next = leads.next;
          ran = leads.ran;
          stands = leads.stands;
          marks = marks_same o leads.next (below n) (below n) rule.posted rule.posted (at_else r (λ e. true) merged) (λ q d. closed q) closed closed
              (λ k less. refl) (λ q d less dir. refl) (λ q d less dir. row q d (ℕ_discrete q r)) (λ k less. refl) leads.marks;
        })
      where
        row : (q d : ℕ) → Dec (q ≡ r) → at_else r (λ e. true) merged q d ≡ at_else r true rule.shut q
        row q d (yes same) =
            ap (λ (g : ℕ → Bool). g d) (at_here r q (λ e. true) merged same) ∙ sym (at_here r q true rule.shut same)
        row q d (no apart) =
            ap (λ (g : ℕ → Bool). g d) (at_other r q (λ e. true) merged apart) ∙ sym (at_other r q true rule.shut apart)

  -- a seat made, and one taken in: no word changes, and no parcel is owed that was not
  stays : (views : List View) → next.words ≡ s.words → next.views ≡ views → MarksOf o n rule.posted rule.shut s.words views → LeadsTo o c [] next
  stays views words same now =
      arrives o next c [] n rule.posted rule.shut s.words views words same (ap (λ (ws : List ℕ). slice_index ws 0) words) now
      (no_event o c x.stands (below n) rule.posted merged rule.shut marks)

  pub split_goes : (id : ℕ) (v : View) (k : ℕ) → IsSplit o s next id v k → LeadsTo o c [] next
  split_goes id v k step =
      stays _ (split_words o s next rule id v k step) (ap (λ (z : State Slot View). z.views) step.is)
      (split_marks board s.words s.views rule.marks id v step.there step.live k)

  pub join_goes : (id : ℕ) (v : View) (other : ℕ) (u : View) → IsJoin o s next id v other u → LeadsTo o c [] next
  join_goes id v other u step =
      stays _ (join_words o s next rule id v other u step) (ap (λ (z : State Slot View). z.views) step.is)
      (join_marks board s.words s.views rule.marks id v step.there step.live other u step.apart step.taken step.owes step.rights)

pub goes_on : TheBoardGoesOnAsTheCore
goes_on o s next c rule x (steps.draws id me step) = draw_goes o s next c rule x id me step
goes_on o s next c rule x (steps.posts id me r d parcel slots step) = post_goes o s next c rule x id me r d parcel slots step
goes_on o s next c rule x (steps.returns id me r tile slots step) = back_goes o s next c rule x id me r tile slots step
goes_on o s next c rule x (steps.splits id v k step) = split_goes o s next c rule x id v k step
goes_on o s next c rule x (steps.joins id v other u step) = join_goes o s next c rule x id v other u step
