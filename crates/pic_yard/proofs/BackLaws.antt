-- The arrival words and what the views list, where a finished tile is given back.
use Rattle.std.proofs.Common.{◌≡◌, ℕ, suc, List, slice_index, Bool, true, eqb, ne_eqb, if◌then◌else◌, set, refl, sym, ap, ◌∙◌, subst, true≢false}
use Rattle.std.proofs.Math.Decide.{ℕ_discrete}
use Rattle.std.proofs.lemmas.Bool.{eqb-false}
use mathlib.Core.Option.{some}
use lib.ListN.{get_elem?}
use Rattle.pic_yard.specs.declared.view.View.{View}
use Rattle.pic_yard.specs.Members.{In, Differ, count_below}
use Rattle.pic_yard.specs.Steps.{gave_back}
use Rattle.pic_yard.specs.Marks.{Board, IsOwed, IsRight, Marks}
use Rattle.pic_yard.proofs.CountLaws.{at_else, at_here, at_other}
use Rattle.pic_yard.proofs.MemberLaws.{kept, was_in, unseen_in, differ_without}
use Rattle.pic_yard.proofs.PostLaws.{OneArrives}
use Rattle.pic_yard.proofs.ViewLaws.{each_view, lists_still}

module _ (b : Board) (words later : List ℕ) (views : List View) (m : Marks b words views) (j : ℕ) (v : View)
    (there : get_elem? views j ≡ some v) (live : v.live ≡ true) (r : ℕ) (is : In r v.rights) where
  open b use {tiles, dirs, ticket, from, posted, shut}

  abbrev right : IsRight tiles dirs posted shut m.finisher r j
  right = m.rights j v there live r is

  abbrev after : ℕ → Bool
  after = at_else r true shut

  abbrev Owed : ℕ → View → Type 0
  Owed i x = (a b : ℕ) → In (a, b) x.owes → IsOwed tiles dirs ticket from posted m.claimer a b i

  abbrev Rights : ℕ → View → Type 0
  Rights i x = (a : ℕ) → In a x.rights → IsRight tiles dirs posted after m.finisher a i

  right_else : (i a : ℕ) → (a ≡ r → ⊥) → IsRight tiles dirs posted shut m.finisher a i → IsRight tiles dirs posted after m.finisher a i
  right_else i a apart o = record { tile = o.tile; all = o.all; open_yet = at_other r a true shut apart ∙ o.open_yet; by = o.by }

  pub back_marks : OneArrives tiles r (suc dirs) words later → Marks (record b { shut = after }) later (set views j (gave_back r v))
  back_marks words_are =
      let u : View = gave_back r v in
      record {
        claimer = m.claimer;
        finisher = m.finisher;
        came = m.came;
        arrivals = λ a tile. elim (ℕ_discrete a r) [
          | yes same ↦
              let word : slice_index later (suc r) ≡ (if after r then suc dirs else count_below (posted r) dirs) =
              words_are.now ∙ sym (ap (λ (b : Bool). if b then suc dirs else count_below (posted r) dirs) (at_here r r true shut refl)) in
              subst (λ (k : ℕ). slice_index later (suc k) ≡ (if after k then suc dirs else count_below (posted k) dirs)) (sym same) word
          | no apart ↦
              words_are.others a tile apart ∙ m.arrivals a tile
              ∙ ap (λ (b : Bool). if b then suc dirs else count_below (posted a) dirs) (sym (at_other r a true shut apart))
        ];
        whole = λ a tile closed. elim (ℕ_discrete a r) [
          | yes same ↦ ap (λ (k : ℕ). count_below (posted k) dirs) same ∙ right.all
          | no apart ↦ m.whole a tile (sym (at_other r a true shut apart) ∙ closed)
        ];
        owed = λ a b tile dir sender free.
            lists_still views j v u (m.claimer (from a b)) (λ x. In (a, b) x.owes) there live (λ had. had) (m.owed a b tile dir sender free);
        ready = λ a tile all open_yet.
            let apart : a ≡ r → ⊥ = λ e. true≢false (sym (at_here r a true shut e) ∙ open_yet) in
            lists_still views j v u (m.finisher a) (λ x. In a x.rights) there live
            (λ had. kept (eqb r) a v.rights had (ne_eqb r a (λ e. apart (sym e))))
            (m.ready a tile all (sym (at_other r a true shut apart) ∙ open_yet));
        owes = each_view Owed views j u (λ lives a b had. m.owes j v there live a b had) (λ i x else_one at lives a b had. m.owes i x at lives a b had);
        rights = each_view Rights views j u
            (λ lives a had.
            right_else j a (λ e. eqb-false r a (unseen_in (eqb r) a v.rights had) (sym e)) (m.rights j v there live a (was_in (eqb r) a v.rights had)))
            (λ i x else_one at lives a had.
            let o : IsRight tiles dirs posted shut m.finisher a i = m.rights i x at lives a had in
            right_else i a (λ e. else_one (sym o.by ∙ ap m.finisher e ∙ right.by)) o);
        once_owed = each_view (λ i x. Differ x.owes) views j u (λ lives. m.once_owed j v there live) (λ i x else_one at lives. m.once_owed i x at lives);
        once_right = each_view (λ i x. Differ x.rights) views j u (λ lives. differ_without (eqb r) v.rights (m.once_right j v there live))
            (λ i x else_one at lives. m.once_right i x at lives);
      }
