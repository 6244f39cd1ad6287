-- What the views list, where a seat is made, where one is taken in, and at the end.
use Rattle.std.proofs.Common.{◌≡◌, ℕ, suc, ◌<◌, List, [], ◌∷◌, ◌++◌, slice_index, Bool, true, false, if◌then◌else◌, set, inl, inr, refl, sym, ap, ◌∙◌, subst}
use Rattle.std.proofs.Common.{arith, true≢false}
use mathlib.Core.Option.{some, some-injective}
use lib.ListN.{get_elem?}
use Rattle.atomic_table.proofs.Lists.{at_longer, set_else}
use Rattle.pic_yard.specs.declared.view.View.{View}
use Rattle.pic_yard.specs.Members.{In, Differ, count_below}
use Rattle.pic_yard.specs.Steps.{gave_number, newcomer, took_in, spent_view}
use Rattle.pic_yard.specs.Marks.{Board, Lists, IsOwed, IsRight, Marks}
use Rattle.pic_yard.proofs.Ways.{AreWays}
use Rattle.pic_yard.proofs.CountLaws.{all_counted}
use Rattle.pic_yard.proofs.ViewLaws.{each_view, at_end, lists_still}

module _ (b : Board) (words : List ℕ) (views : List View) (m : Marks b words views) (j : ℕ) (v : View)
    (there : get_elem? views j ≡ some v) (live : v.live ≡ true) where
  open b use {tiles, dirs, here, ticket, from, posted, shut}

  abbrev Owed : ℕ → View → Type 0
  Owed i x = (a b : ℕ) → In (a, b) x.owes → IsOwed tiles dirs ticket from posted m.claimer a b i

  abbrev Rights : ℕ → View → Type 0
  Rights i x = (a : ℕ) → In a x.rights → IsRight tiles dirs posted shut m.finisher a i

  -- a seat is made
  pub split_marks : (x : ℕ) → Marks b words (set views j (gave_number x v) ++ newcomer v x ∷ [])
  split_marks x =
      let u : View = gave_number x v in
      let longer : (c : ℕ) (What : View → Type 0) → Lists (set views j u) c What → Lists (set views j u ++ newcomer v x ∷ []) c What = λ c What l.
      record { view = l.view; there = at_longer (set views j u) (newcomer v x ∷ []) c l.view l.there; live = l.live; lists = l.lists } in
      let all : (P : ℕ → View → Type 0) → (P j u) → ((i : ℕ) (y : View) → get_elem? views i ≡ some y → y.live ≡ true → P i y) → ((i : ℕ) → P i (newcomer v x))
      → (i : ℕ) (y : View) → get_elem? (set views j u ++ newcomer v x ∷ []) i ≡ some y → y.live ≡ true → P i y = λ P mine old new i y at lives.
      elim (at_end (set views j u) (newcomer v x) i y at) [
        | inl before ↦ each_view P views j u (λ alive. mine) (λ k z apart at' alive. old k z at' alive) i y before lives
        | inr last ↦ subst (λ (z : View). P i z) last.1 (new i)
      ] in
      record {
        claimer = m.claimer;
        finisher = m.finisher;
        came = m.came;
        arrivals = m.arrivals;
        whole = m.whole;
        owed = λ a b tile dir sender free.
            longer (m.claimer (from a b)) (λ y. In (a, b) y.owes)
            (lists_still views j v u (m.claimer (from a b)) (λ y. In (a, b) y.owes) there live (λ had. had) (m.owed a b tile dir sender free));
        ready = λ a tile full open_yet.
            longer (m.finisher a) (λ y. In a y.rights) (lists_still views j v u (m.finisher a) (λ y. In a y.rights) there live (λ had. had)
            (m.ready a tile full open_yet));
        owes = all Owed (λ a b had. m.owes j v there live a b had) (λ i y at lives a b had. m.owes i y at lives a b had) (λ i a b had. elim had [ ]);
        rights = all Rights (λ a had. m.rights j v there live a had) (λ i y at lives a had. m.rights i y at lives a had) (λ i a had. elim had [ ]);
        once_owed = all (λ i y. Differ y.owes) (m.once_owed j v there live) m.once_owed (λ i. tt);
        once_right = all (λ i y. Differ y.rights) (m.once_right j v there live) m.once_right (λ i. tt);
      }

  -- a seat that lists nothing is taken in
  pub join_marks : (i : ℕ) (w : View) → (i ≡ j → ⊥) → get_elem? views i ≡ some w → w.owes ≡ [] → w.rights ≡ []
      → Marks b words (set (set views j (took_in v w)) i spent_view)
  join_marks i w apart at no_owes no_rights =
      let u : View = took_in v w in
      let others : (c : ℕ) (What : View → Type 0) → (What v → What u) → (What w → ⊥) → Lists views c What
      → Lists (set (set views j u) i spent_view) c What = λ c What keeps never l.
      let not_it : c ≡ i → ⊥ = λ e.
      let found : get_elem? views i ≡ some l.view = subst (λ (k : ℕ). get_elem? views k ≡ some l.view) e l.there in
      never (subst What (some-injective l.view w (sym found ∙ at)) l.lists) in
      let now : Lists (set views j u) c What = lists_still views j v u c What there live keeps l in
      record { view = now.view; there = set_else (set views j u) i c spent_view not_it ∙ now.there; live = now.live; lists = now.lists } in
      let all : (P : ℕ → View → Type 0) → (P j u) → ((k : ℕ) (y : View) → get_elem? views k ≡ some y → y.live ≡ true → P k y)
      → (k : ℕ) (y : View) → get_elem? (set (set views j u) i spent_view) k ≡ some y → y.live ≡ true → P k y = λ P mine old.
      each_view P (set views j u) i spent_view (λ alive. absurd (true≢false (sym alive)))
      (λ k y differs at' lives. each_view P views j u (λ alive. mine) (λ l z ne at'' alive. old l z at'' alive) k y at' lives) in
      record {
        claimer = m.claimer;
        finisher = m.finisher;
        came = m.came;
        arrivals = m.arrivals;
        whole = m.whole;
        owed = λ a b tile dir sender free.
            others (m.claimer (from a b)) (λ y. In (a, b) y.owes) (λ had. had) (λ had. subst (λ (l : List (ℕ × ℕ)). In (a, b) l) no_owes had)
            (m.owed a b tile dir sender free);
        ready = λ a tile full open_yet.
            others (m.finisher a) (λ y. In a y.rights) (λ had. had) (λ had. subst (λ (l : List ℕ). In a l) no_rights had) (m.ready a tile full open_yet);
        owes = all Owed (λ a b had. m.owes j v there live a b had) (λ k y at' lives a b had. m.owes k y at' lives a b had);
        rights = all Rights (λ a had. m.rights j v there live a had) (λ k y at' lives a had. m.rights k y at' lives a had);
        once_owed = all (λ k y. Differ y.owes) (m.once_owed j v there live) m.once_owed;
        once_right = all (λ k y. Differ y.rights) (m.once_right j v there live) m.once_right;
      }

  -- Where all tiles are claimed, and the one live view lists nothing, all tiles are shut.
  pub all_shut : (to : ℕ → ℕ → ℕ) → AreWays tiles dirs here to from → tiles < ticket → v.owes ≡ [] → v.rights ≡ []
      → ((i : ℕ) (u : View) → get_elem? views i ≡ some u → u.live ≡ true → i ≡ j)
      → (r : ℕ) → r < tiles → (shut r ≡ true) × (slice_index words (suc r) ≡ suc dirs)
  all_shut to ways past no_owes no_rights only r tile =
      let lists_none : (c : ℕ) (What : View → Type 0) → (What v → ⊥) → Lists views c What → ⊥ = λ c What never l.
      let is : c ≡ j = only c l.view l.there l.live in
      let found : get_elem? views j ≡ some l.view = subst (λ (k : ℕ). get_elem? views k ≡ some l.view) is l.there in
      never (subst What (some-injective l.view v (sym found ∙ there)) l.lists) in
      let all : (d : ℕ) → d < dirs → posted r d ≡ true = λ d dir. is_true (posted r d) (λ free.
      let sender : from r d < tiles = ways.from_below r d tile dir in
      lists_none (m.claimer (from r d)) (λ y. In (r, d) y.owes) (λ had. subst (λ (l : List (ℕ × ℕ)). In (r, d) l) no_owes had)
      (m.owed r d tile dir (omega (arith, sender, past)) free)) in
      let full : count_below (posted r) dirs ≡ dirs = all_counted (posted r) dirs all in
      let closed : shut r ≡ true = is_true (shut r) (λ open_yet.
      lists_none (m.finisher r) (λ y. In r y.rights) (λ had. subst (λ (l : List ℕ). In r l) no_rights had) (m.ready r tile full open_yet)) in
      (closed, m.arrivals r tile ∙ ap (λ (b : Bool). if b then suc dirs else count_below (posted r) dirs) closed)
    where
      is_true : (b : Bool) → (b ≡ false → ⊥) → b ≡ true
      is_true true never = refl
      is_true false never = absurd (never refl)
