-- The arrival words and what the views list, through a post.
use Rattle.std.proofs.Common.{◌≡◌, ℕ, suc, ◌<◌, ◌≤◌, ◌⊎◌, List, ◌∷◌, slice_index, Bool, true, false, eqb, eqb-true, eq-eqb, if◌then◌else◌, set, inl, inr}
use Rattle.std.proofs.Common.{refl, sym, ap, ◌∙◌, subst, arith, true≢false}
use Rattle.std.proofs.Math.Decide.{ℕ_discrete}
use mathlib.Core.Option.{some}
use lib.ListN.{get_elem?}
use Rattle.pic_yard.specs.declared.view.View.{View}
use Rattle.pic_yard.specs.Members.{In, Differ, same_pair, count_below}
use Rattle.pic_yard.specs.Steps.{did_post}
use Rattle.pic_yard.specs.Marks.{Board, Lists, IsOwed, IsRight, Marks}
use Rattle.pic_yard.proofs.CountLaws.{at_else, at_here, at_other, count_le, count_more, count_all}
use Rattle.pic_yard.proofs.MemberLaws.{kept, was_in, unseen_in, differ_without, pair_other, pair_apart}
use Rattle.pic_yard.proofs.ViewLaws.{each_view, lists_still, lists_now}

abbrev pub IsPair : ℕ → ℕ → ℕ → ℕ → Type 0
IsPair r d x y = (x ≡ r) × (y ≡ d)

pub which_pair : (r d x y : ℕ) → IsPair r d x y ⊎ (IsPair r d x y → ⊥)
which_pair r d x y = elim (ℕ_discrete x r) [
  | yes first ↦ elim (ℕ_discrete y d) [ yes second ↦ inl (first, second) | no apart ↦ inr (λ is. apart is.1) ]
  | no apart ↦ inr (λ is. apart is.0)
]

-- the parcel (r, d) is posted, and those that were before
abbrev pub posts : (ℕ → ℕ → Bool) → ℕ → ℕ → ℕ → ℕ → Bool
posts posted r d = at_else r (at_else d true (posted r)) posted

pub posts_it : (posted : ℕ → ℕ → Bool) (r d x y : ℕ) → IsPair r d x y → posts posted r d x y ≡ true
posts_it posted r d x y is =
    ap (λ (f : ℕ → Bool). f y) (at_here r x (at_else d true (posted r)) posted is.0) ∙ at_here d y true (posted r) is.1

pub posts_row : (posted : ℕ → ℕ → Bool) (r d x : ℕ) → (x ≡ r → ⊥) → posts posted r d x ≡ posted x
posts_row posted r d x apart = at_other r x (at_else d true (posted r)) posted apart

pub posts_other : (posted : ℕ → ℕ → Bool) (r d x y : ℕ) → (IsPair r d x y → ⊥) → posts posted r d x y ≡ posted x y
posts_other posted r d x y apart = elim (ℕ_discrete x r) [
  | yes first ↦
      ap (λ (f : ℕ → Bool). f y) (at_here r x (at_else d true (posted r)) posted first)
      ∙ at_other d y true (posted r) (λ second. apart (first, second)) ∙ ap (λ (k : ℕ). posted k y) (sym first)
  | no differs ↦ ap (λ (f : ℕ → Bool). f y) (posts_row posted r d x differs)
]

-- one parcel more is posted for r, and as many as before for any other tile
pub count_posts : (posted : ℕ → ℕ → Bool) (r d dirs : ℕ) → d < dirs → posted r d ≡ false
    → count_below (posts posted r d r) dirs ≡ suc (count_below (posted r) dirs)
count_posts posted r d dirs below free =
    ap (λ (f : ℕ → Bool). count_below f dirs) (at_here r r (at_else d true (posted r)) posted refl) ∙ count_more (posted r) d dirs below free

pub count_row : (posted : ℕ → ℕ → Bool) (r d dirs x : ℕ) → (x ≡ r → ⊥) → count_below (posts posted r d x) dirs ≡ count_below (posted x) dirs
count_row posted r d dirs x apart = ap (λ (f : ℕ → Bool). count_below f dirs) (posts_row posted r d x apart)

if_false : {A : Type 0} (b : Bool) (x y : A) → b ≡ false → (if b then x else y) ≡ y
if_false b x y is = ap (λ (c : Bool). if c then x else y) is

-- all arrival words but that of r stay, and that of r has the number n
pub record OneArrives (tiles r n : ℕ) (words later : List ℕ) : Type 0 where
  pub now : slice_index later (suc r) ≡ n
  pub others : (x : ℕ) → x < tiles → (x ≡ r → ⊥) → slice_index later (suc x) ≡ slice_index words (suc x)

module _ (b : Board) (words later : List ℕ) (views : List View) (m : Marks b words views) (j : ℕ) (v : View)
    (there : get_elem? views j ≡ some v) (live : v.live ≡ true) (r d : ℕ) (is : In (r, d) v.owes) where
  open b use {tiles, dirs, ticket, from, posted, shut}

  abbrev n : ℕ
  n = count_below (posted r) dirs

  abbrev owed : IsOwed tiles dirs ticket from posted m.claimer r d j
  owed = m.owes j v there live r d is

  -- not all parcels for r were posted, so r isn't shut
  pub not_all : n ≡ dirs → ⊥
  not_all full = true≢false (sym (count_all (posted r) dirs d full owed.dir) ∙ owed.free)

  pub not_full : n < dirs
  not_full = let a : n ≤ dirs = count_le (posted r) dirs in omega (arith, a, not_all)

  pub not_shut : shut r ≡ false
  not_shut = choose (shut r) refl
    where
      choose : (b : Bool) → shut r ≡ b → b ≡ false
      choose true e = absurd (not_all (m.whole r owed.tile e))
      choose false e = refl

  pub found_word : slice_index words (suc r) ≡ n
  found_word = m.arrivals r owed.tile ∙ if_false (shut r) (suc dirs) n not_shut

  -- the rights after the post
  abbrev more_rights : List ℕ
  more_rights = if eqb (suc n) dirs then r ∷ v.rights else v.rights

  rights_stay : (x : ℕ) → In x v.rights → In x more_rights
  rights_stay x had = choose (eqb (suc n) dirs)
    where
      choose : (b : Bool) → In x (if b then r ∷ v.rights else v.rights)
      choose true = inr had
      choose false = had

  right_gained : suc n ≡ dirs → In r more_rights
  right_gained full = subst (λ (b : Bool). In r (if b then r ∷ v.rights else v.rights)) (sym (eq-eqb (suc n) dirs full)) (inl refl)

  rights_were : (x : ℕ) → In x more_rights → ((suc n ≡ dirs) × (x ≡ r)) ⊎ In x v.rights
  rights_were x had = choose (eqb (suc n) dirs) refl had
    where
      choose : (b : Bool) → eqb (suc n) dirs ≡ b → In x (if b then r ∷ v.rights else v.rights) → ((suc n ≡ dirs) × (x ≡ r)) ⊎ In x v.rights
      choose true e (inl same) = inl (eqb-true (suc n) dirs e, same)
      choose true e (inr more) = inr more
      choose false e more = inr more

  -- a right gained is a new one, since not all parcels for its tile were posted
  rights_differ : Differ more_rights
  rights_differ = choose (eqb (suc n) dirs)
    where
      choose : (b : Bool) → Differ (if b then r ∷ v.rights else v.rights)
      choose true = ((λ had. not_all (m.rights j v there live r had).all), m.once_right j v there live)
      choose false = m.once_right j v there live

  abbrev after : ℕ → ℕ → Bool
  after = posts posted r d

  abbrev finisher : ℕ → ℕ
  finisher = at_else r j m.finisher

  abbrev Owed : ℕ → View → Type 0
  Owed i x = (a b : ℕ) → In (a, b) x.owes → IsOwed tiles dirs ticket from after m.claimer a b i

  abbrev Rights : ℕ → View → Type 0
  Rights i x = (a : ℕ) → In a x.rights → IsRight tiles dirs after shut finisher a i

  owed_else : (i a b : ℕ) → (IsPair r d a b → ⊥) → IsOwed tiles dirs ticket from posted m.claimer a b i → IsOwed tiles dirs ticket from after m.claimer a b i
  owed_else i a b apart o = record { tile = o.tile; dir = o.dir; sender = o.sender; free = posts_other posted r d a b apart ∙ o.free; by = o.by }

  right_else : (i a : ℕ) → IsRight tiles dirs posted shut m.finisher a i → IsRight tiles dirs after shut finisher a i
  right_else i a o =
      let apart : a ≡ r → ⊥ = λ e. not_all (subst (λ (k : ℕ). count_below (posted k) dirs ≡ dirs) e o.all) in
      record { tile = o.tile; all = count_row posted r d dirs a apart ∙ o.all; open_yet = o.open_yet; by = at_other r a j m.finisher apart ∙ o.by }

  pub post_marks : OneArrives tiles r (suc n) words later → Marks (record b { posted = after }) later (set views j (did_post dirs r d n v))
  post_marks words_are =
      let u : View = did_post dirs r d n v in
      let mine_owed : Owed j u = λ a b had.
      let old : In (a, b) v.owes = was_in (same_pair r d) (a, b) v.owes had in
      owed_else j a b (pair_apart r d a b (unseen_in (same_pair r d) (a, b) v.owes had)) (m.owes j v there live a b old) in
      let mine_rights : Rights j u = λ a had. elim (rights_were a had) [
        | inl gained ↦ record {
          tile = subst (λ (k : ℕ). k < tiles) (sym gained.1) owed.tile;
          all = ap (λ (k : ℕ). count_below (after k) dirs) gained.1 ∙ count_posts posted r d dirs owed.dir owed.free ∙ gained.0;
          open_yet = ap shut gained.1 ∙ not_shut;
          by = at_here r a j m.finisher gained.1;
        }
        | inr old ↦ right_else j a (m.rights j v there live a old)
      ] in
      record {
        claimer = m.claimer;
        finisher = finisher;
        came = λ a b tile dir came. elim (which_pair r d a b) [
          | inl same ↦ subst (λ (k : ℕ). k < ticket) (λ i. from (sym same.0 i) (sym same.1 i)) owed.sender
          | inr apart ↦ m.came a b tile dir (sym (posts_other posted r d a b apart) ∙ came)
        ];
        arrivals = λ a tile. elim (ℕ_discrete a r) [
          | yes same ↦
              let word : slice_index later (suc r) ≡ (if shut r then suc dirs else count_below (after r) dirs) =
              words_are.now ∙ sym (count_posts posted r d dirs owed.dir owed.free)
              ∙ sym (if_false (shut r) (suc dirs) (count_below (after r) dirs) not_shut) in
              subst (λ (k : ℕ). slice_index later (suc k) ≡ (if shut k then suc dirs else count_below (after k) dirs)) (sym same) word
          | no apart ↦
              words_are.others a tile apart ∙ m.arrivals a tile
              ∙ ap (λ (c : ℕ). if shut a then suc dirs else c) (sym (count_row posted r d dirs a apart))
        ];
        whole = λ a tile closed.
            let apart : a ≡ r → ⊥ = λ e. true≢false (sym closed ∙ ap shut e ∙ not_shut) in
            count_row posted r d dirs a apart ∙ m.whole a tile closed;
        owed = λ a b tile dir sender free.
            let apart : IsPair r d a b → ⊥ = λ same. true≢false (sym (posts_it posted r d a b same) ∙ free) in
            let old : Lists views (m.claimer (from a b)) (λ x. In (a, b) x.owes) = m.owed a b tile dir sender (sym (posts_other posted r d a b apart)
            ∙ free) in
            lists_still views j v u (m.claimer (from a b)) (λ x. In (a, b) x.owes) there live
            (λ had. kept (same_pair r d) (a, b) v.owes had (pair_other r d a b apart)) old;
        ready = λ a tile all open_yet. elim (ℕ_discrete a r) [
          | yes same ↦
              let full : suc n ≡ dirs =
              sym (count_posts posted r d dirs owed.dir owed.free) ∙ subst (λ (k : ℕ). count_below (after k) dirs ≡ dirs) same all in
              lists_now views j v u (finisher a) (λ x. In a x.rights) there live (at_here r a j m.finisher same)
              (subst (λ (k : ℕ). In k more_rights) (sym same) (right_gained full))
          | no apart ↦
              let old : Lists views (m.finisher a) (λ x. In a x.rights) = m.ready a tile (sym (count_row posted r d dirs a apart) ∙ all) open_yet in
              lists_still views j v u (finisher a) (λ x. In a x.rights) there live (rights_stay a)
              (subst (λ (c : ℕ). Lists views c (λ x. In a x.rights)) (sym (at_other r a j m.finisher apart)) old)
        ];
        owes = each_view Owed views j u (λ lives. mine_owed)
            (λ i x else_one at lives a b had.
            let o : IsOwed tiles dirs ticket from posted m.claimer a b i = m.owes i x at lives a b had in
            owed_else i a b (λ same. else_one (sym o.by ∙ ap m.claimer (λ k. from (same.0 k) (same.1 k)) ∙ owed.by)) o);
        rights = each_view Rights views j u (λ lives. mine_rights) (λ i x else_one at lives a had. right_else i a (m.rights i x at lives a had));
        once_owed = each_view (λ i x. Differ x.owes) views j u (λ lives. differ_without (same_pair r d) v.owes (m.once_owed j v there live))
            (λ i x else_one at lives. m.once_owed i x at lives);
        once_right = each_view (λ i x. Differ x.rights) views j u (λ lives. rights_differ) (λ i x else_one at lives. m.once_right i x at lives);
      }
