-- What each step of the board does to its words.
use Rattle.std.proofs.Common.{◌≡◌, ℕ, suc, ◌+◌, ◌%◌, ◌^◌, ◌<◌, List, set, slice_index, length, ap, ◌∙◌, arith}
use Rattle.std.proofs.Math.Nat.{mod-eq_of_lt}
use Rattle.atomic_table.specs.Table.{State, Me}
use Rattle.pic_tile.specs.Directions.{directions}
use Rattle.pic_yard.specs.declared.opening.Opening.{Opening}
use Rattle.pic_yard.specs.declared.view.View.{View}
use Rattle.pic_yard.specs.Contents.{Slot, tiles_in, from_of}
use Rattle.pic_yard.specs.Marks.{Board, IsOwed, IsRight}
use Rattle.pic_yard.specs.Members.{count_below}
use Rattle.pic_yard.specs.Rule.{Rule, board_of, ticket_of}
use Rattle.pic_yard.proofs.DrawLaws.{next_word}
use Rattle.pic_yard.proofs.MarkLaws.{ArrivalsStay}
use Rattle.pic_yard.proofs.PostLaws.{OneArrives, found_word}
use Rattle.pic_yard.proofs.WordLaws.{word_now, word_still}
use Rattle.pic_board_laws.specs.BoardSteps.{IsDraw, IsPost, IsReturn, IsSplit, IsJoin}

module _ (o : Opening) (s next : State Slot View) (rule : Rule o s) where
  abbrev board : Board
  board = board_of o s rule.posted rule.shut

  abbrev n : ℕ
  n = ticket_of s

  abbrev T : ℕ
  T = tiles_in o

  long : length s.words ≡ suc T
  long = rule.words

  -- a draw
  module _ (id : ℕ) (me : Me Slot View) (step : IsDraw o s next id me) where
    abbrev later : List ℕ
    later = set s.words 0 (suc n)

    pub draw_words : next.words ≡ later
    draw_words = ap (λ (z : State Slot View). z.words) step.is
        ∙ ap (λ (k : ℕ). set s.words 0 k) (next_word o s rule id me step.sits step.there)

    pub draw_ticket : ticket_of next ≡ suc n
    draw_ticket = ap (λ (ws : List ℕ). slice_index ws 0) draw_words ∙ word_now s.words 0 (suc n) (omega (arith, long))

    pub stay : ArrivalsStay T s.words later
    stay r tile = word_still s.words 0 (suc r) (suc n) (λ e. omega (arith, e))

  -- a post
  module _ (id : ℕ) (me : Me Slot View) (r d : ℕ) (parcel : Slot) (slots : List (ℕ × Slot))
      (step : IsPost o s next id me r d parcel slots) where
    abbrev count : ℕ
    count = count_below (rule.posted r) directions

    abbrev post_later : List ℕ
    post_later = set s.words (suc r) (suc count)

    pub owed : IsOwed T directions n (from_of o) rule.posted rule.marks.claimer r d id
    owed = rule.marks.owes id me.0 step.there step.ready.live r d step.ready.owes

    pub found : slice_index s.words (suc r) ≡ count
    found = found_word board s.words s.words s.views rule.marks id me.0 step.there step.ready.live r d step.ready.owes

    pub post_words : next.words ≡ post_later
    post_words =
        let few : slice_index s.words (suc r) < directions = step.told.few in
        let small : (slice_index s.words (suc r) + 1) % 2 ^ 64 ≡ suc (slice_index s.words (suc r)) = mod-eq_of_lt (omega (arith, few)) ∙ omega arith in
        ap (λ (z : State Slot View). z.words) step.is ∙ ap (λ (k : ℕ). set s.words (suc r) k) (small ∙ ap (λ (k : ℕ). suc k) found)

    pub post_ticket : ticket_of next ≡ n
    post_ticket = ap (λ (ws : List ℕ). slice_index ws 0) post_words ∙ word_still s.words (suc r) 0 (suc count) (λ e. omega (arith, e))

    pub post_arrives : OneArrives T r (suc count) s.words post_later
    post_arrives = record {
      now = word_now s.words (suc r) (suc count) (let tile : r < T = owed.tile in omega (arith, long, tile));
      others = λ k tile apart. word_still s.words (suc r) (suc k) (suc count) (λ e. apart (omega (arith, e)));
    }

  -- a finished tile given back
  module _ (id : ℕ) (me : Me Slot View) (r : ℕ) (tile : Slot) (slots : List (ℕ × Slot))
      (step : IsReturn o s next id me r tile slots) where
    abbrev back_later : List ℕ
    back_later = set s.words (suc r) (suc directions)

    pub right : IsRight T directions rule.posted rule.shut rule.marks.finisher r id
    right = rule.marks.rights id me.0 step.there step.ready.live r step.ready.right

    pub back_words : next.words ≡ back_later
    back_words = ap (λ (z : State Slot View). z.words) step.is

    pub back_ticket : ticket_of next ≡ n
    back_ticket = ap (λ (ws : List ℕ). slice_index ws 0) back_words ∙ word_still s.words (suc r) 0 (suc directions) (λ e. omega (arith, e))

    pub back_arrives : OneArrives T r (suc directions) s.words back_later
    back_arrives = record {
      now = word_now s.words (suc r) (suc directions) (let tile : r < T = right.tile in omega (arith, long, tile));
      others = λ k tile apart. word_still s.words (suc r) (suc k) (suc directions) (λ e. apart (omega (arith, e)));
    }

  -- a seat made, and one taken in
  pub split_words : (id : ℕ) (v : View) (x : ℕ) → IsSplit o s next id v x → next.words ≡ s.words
  split_words id v x step = ap (λ (z : State Slot View). z.words) step.is

  pub join_words : (id : ℕ) (v : View) (other : ℕ) (u : View) → IsJoin o s next id v other u → next.words ≡ s.words
  join_words id v other u step = ap (λ (z : State Slot View). z.words) step.is
