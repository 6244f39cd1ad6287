-- The marks of a board are those of a core that it stands for.
use Rattle.std.proofs.Common.{◌≡◌, ℕ, suc, ◌+◌, ◌<◌, ◌≤◌, Bool, true, false, nat_lt, nat_eq, if◌then◌else◌, refl}
use Rattle.std.proofs.Common.{sym, ap, ◌∙◌, arith, eq-eqb, ne_eqb, true≢false}
use Rattle.std.proofs.Math.Decide.{ℕ_discrete}
use Rattle.atomic_table.specs.Table.{State}
use Rattle.pic_core.proofs.TurnLaws.{lt_true, lt_more}
use Rattle.pic_tile.specs.CoreState.{CoreState, is_posted}
use Rattle.pic_tile.specs.Directions.{directions}
use Rattle.pic_yard.specs.declared.opening.Opening.{Opening}
use Rattle.pic_yard.specs.declared.view.View.{View}
use Rattle.pic_yard.specs.Contents.{Slot, tiles_in}
use Rattle.pic_yard.specs.Marks.{Marks}
use Rattle.pic_yard.specs.Members.{count_below}
use Rattle.pic_yard.specs.Rule.{board_of, ticket_of}
use Rattle.pic_yard.proofs.CountLaws.{at_else, at_here, at_other, count_le}
use Rattle.pic_board_laws.specs.StandsFor.{IsPosted, Stood, is_word_of_shut}
use Rattle.pic_board_laws.proofs.EventLaws.{HasMarks}

-- the numbers below one, and one more
abbrev pub below : ℕ → ℕ → Bool
below n k = nat_lt k n

pub below_more : (n k : ℕ) → at_else n true (below n) k ≡ below (suc n) k
below_more n k = elim (ℕ_discrete k n) [
  | yes same ↦ at_here n k true (below n) same ∙ sym (lt_true k (suc n) (omega (arith, same)))
  | no apart ↦
      at_other n k true (below n) apart ∙ sym (lt_more k n apart) ∙ ap (λ (i : ℕ). nat_lt k i) (let e : n + 1 ≡ suc n = omega arith in e)
]

both_ways : (a b : Bool) → (a ≡ true → b ≡ true) → (b ≡ true → a ≡ true) → a ≡ b
both_ways true b forth back = sym (forth refl)
both_ways false true forth back = back refl
both_ways false false forth back = refl

module _ (o : Opening) (s : State Slot View) (posted : ℕ → ℕ → Bool) (shut : ℕ → Bool)
    (marks : Marks (board_of o s posted shut) s.words s.views) (c : CoreState) where
  shut_word : (r : ℕ) → r < tiles_in o → is_word_of_shut s r ≡ shut r
  shut_word r below = at (shut r) refl
    where
      at : (b : Bool) → shut r ≡ b → is_word_of_shut s r ≡ shut r
      at true is =
          ap (λ (w : ℕ). nat_eq w (suc directions)) (marks.arrivals r below
          ∙ ap (λ (b : Bool). if b then suc directions else count_below (posted r) directions) is)
          ∙ eq-eqb (suc directions) (suc directions) refl ∙ sym is
      at false is =
          let few : count_below (posted r) directions ≤ directions = count_le (posted r) directions in
          ap (λ (w : ℕ). nat_eq w (suc directions)) (marks.arrivals r below
          ∙ ap (λ (b : Bool). if b then suc directions else count_below (posted r) directions) is)
          ∙ ne_eqb (count_below (posted r) directions) (suc directions) (λ e. omega (arith, few, e)) ∙ sym is

  posted_is : (r d : ℕ) → r < tiles_in o → d < directions → posted r d ≡ true → IsPosted o s r d
  posted_is r d below dir on = record {
    claimed = marks.came r d below dir on;
    unowed = λ j v there live owes. true≢false (sym on ∙ (marks.owes j v there live r d owes).free);
  }

  is_posted_too : (r d : ℕ) → r < tiles_in o → d < directions → IsPosted o s r d → posted r d ≡ true
  is_posted_too r d below dir is = at (posted r d) refl
    where
      at : (b : Bool) → posted r d ≡ b → b ≡ true
      at true e = refl
      at false e =
          let l = marks.owed r d below dir is.claimed e in
          absurd (is.unowed _ l.view l.there l.live l.lists)

  pub stood_of : HasMarks o c (below (ticket_of s)) posted (λ r d. shut r) shut → Stood o s c
  stood_of x = record {
    frame = x.frame;
    opening = x.opening;
    claimed = x.claims;
    posted = λ r d below dir. (
      λ on. posted_is r d below dir (sym (x.posts r d below dir) ∙ on),
      λ is. x.posts r d below dir ∙ is_posted_too r d below dir is,
    );
    merged = λ r d below dir. x.merges r d below dir ∙ sym (shut_word r below);
    shut = λ r below. x.shuts r below ∙ sym (shut_word r below);
  }

  pub marks_of : Stood o s c → HasMarks o c (below (ticket_of s)) posted (λ r d. shut r) shut
  marks_of x = record {
    frame = x.frame;
    opening = x.opening;
    claims = x.claimed;
    posts = λ r d below dir.
        both_ways (is_posted c r d) (posted r d) (λ on. is_posted_too r d below dir ((x.posted r d below dir).0 on))
        (λ on. (x.posted r d below dir).1 (posted_is r d below dir on));
    merges = λ r d below dir. x.merged r d below dir ∙ shut_word r below;
    shuts = λ r below. x.shut r below ∙ shut_word r below;
  }
