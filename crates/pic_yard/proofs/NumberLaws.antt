-- The numbers of the seats where a seat is made of one number of another, and where one takes in
-- another.
use Rattle.std.proofs.Common.{◌≡◌, ℕ, max, ◌<◌, ◌≤◌, ◌⊎◌, List, [], ◌∷◌, ◌++◌, length, Bool, true, eqb, eq-eqb, ne_eqb, if◌then◌else◌, set, inl, inr, refl}
use Rattle.std.proofs.Common.{sym, ap, ◌∙◌, subst, arith, true≢false}
use Rattle.std.proofs.lemmas.Bool.{eqb-false}
use Rattle.std.proofs.Math.Decide.{ℕ_discrete}
use mathlib.Core.Option.{some, some-injective}
use lib.ListN.{get_elem?}
use Rattle.atomic_table.proofs.Lists.{at_longer, set_else}
use Rattle.pic_yard.specs.declared.view.View.{View}
use Rattle.pic_yard.specs.Members.{In}
use Rattle.pic_yard.specs.Steps.{gave_number, newcomer, took_in, spent_view}
use Rattle.pic_yard.specs.Tickets.{HasNumbers, Tickets}
use Rattle.pic_yard.proofs.CountLaws.{at_else, at_here, at_other}
use Rattle.pic_yard.proofs.MemberLaws.{was_in, unseen_in, in_parts, in_left, in_right, differ_without, differ_both}
use Rattle.pic_yard.proofs.ViewLaws.{each_view, at_end, lists_still, lists_now}

-- the numbers of the seat i are kept by j from now on
abbrev handed : ℕ → ℕ → (ℕ → ℕ) → ℕ → ℕ
handed i j keeper x = if eqb (keeper x) i then j else keeper x

handed_to : (i j : ℕ) (keeper : ℕ → ℕ) (x : ℕ) → keeper x ≡ i → handed i j keeper x ≡ j
handed_to i j keeper x is = ap (λ (b : Bool). if b then j else keeper x) (eq-eqb (keeper x) i is)

handed_not : (i j : ℕ) (keeper : ℕ → ℕ) (x k : ℕ) → keeper x ≡ k → (k ≡ i → ⊥) → handed i j keeper x ≡ k
handed_not i j keeper x k is apart = ap (λ (b : Bool). if b then j else keeper x) (ne_eqb (keeper x) i (λ e. apart (sym is ∙ e))) ∙ is

max_left : (a b : ℕ) → a ≤ max a b
max_left a b = omega arith

max_most : (a b n : ℕ) → a ≤ n → b ≤ n → max a b ≤ n
max_most a b n first second = omega (arith, first, second)

module _ (tiles seats ticket : ℕ) (views : List View) (t : Tickets tiles seats ticket views) (j : ℕ) (v : View)
    (there : get_elem? views j ≡ some v) (live : v.live ≡ true) where
  abbrev Numbers : (ℕ → ℕ) → ℕ → View → Type 0
  Numbers keeper i x = HasNumbers tiles seats ticket keeper t.told i x

  -- a new seat of the number x
  pub number_given : (x : ℕ) → In x v.unmade → Tickets tiles seats ticket (set views j (gave_number x v) ++ newcomer v x ∷ [])
  number_given x is_unmade =
      let n : ℕ = length (set views j (gave_number x v)) in
      let h = t.each j v there live in
      let keeper : ℕ → ℕ = at_else x n t.keeper in
      let other : (y : ℕ) → (y ≡ x → ⊥) → keeper y ≡ t.keeper y = λ y apart. at_other x y n t.keeper apart in
      let old : (i : ℕ) (u : View) → get_elem? (set views j (gave_number x v)) i ≡ some u → u.live ≡ true → Numbers keeper i u =
      each_view (Numbers keeper) views j (gave_number x v)
      (λ lives. record {
        own = h.own;
        own_kept = other v.number (λ e. h.made (subst (λ (k : ℕ). In k v.unmade) (sym e) is_unmade)) ∙ h.own_kept;
        own_told = h.own_told;
        taken = h.taken;
        taken_kept = λ y had. other y (λ e. true≢false (sym (h.taken_told y had) ∙ ap t.told e ∙ h.unmade_told x is_unmade)) ∙ h.taken_kept y had;
        taken_told = h.taken_told;
        unmade = λ y had. h.unmade y (was_in (eqb x) y v.unmade had);
        unmade_kept = λ y had. other y (λ e. eqb-false x y (unseen_in (eqb x) y v.unmade had) (sym e)) ∙ h.unmade_kept y (was_in (eqb x) y v.unmade had);
        unmade_told = λ y had. h.unmade_told y (was_in (eqb x) y v.unmade had);
        made = λ had. h.made (was_in (eqb x) v.number v.unmade had);
        apart = h.apart;
        taken_differ = h.taken_differ;
        unmade_differ = differ_without (eqb x) v.unmade h.unmade_differ;
        drawn = h.drawn;
        past = h.past;
      })
      (λ i u apart at lives. let g = t.each i u at lives in
      let differs : (k : ℕ) → t.keeper k ≡ i → k ≡ x → ⊥ = λ k kept e. apart (sym kept ∙ ap t.keeper e ∙ h.unmade_kept x is_unmade) in
      record {
        own = g.own;
        own_kept = other u.number (differs u.number g.own_kept) ∙ g.own_kept;
        own_told = g.own_told;
        taken = g.taken;
        taken_kept = λ y had. other y (differs y (g.taken_kept y had)) ∙ g.taken_kept y had;
        taken_told = g.taken_told;
        unmade = g.unmade;
        unmade_kept = λ y had. other y (differs y (g.unmade_kept y had)) ∙ g.unmade_kept y had;
        unmade_told = g.unmade_told;
        made = g.made;
        apart = g.apart;
        taken_differ = g.taken_differ;
        unmade_differ = g.unmade_differ;
        drawn = g.drawn;
        past = g.past;
      }) in
      let new : Numbers keeper n (newcomer v x) = record {
        own = h.unmade x is_unmade;
        own_kept = at_here x x n t.keeper refl;
        own_told = h.unmade_told x is_unmade;
        taken = λ y had. elim had [ ];
        taken_kept = λ y had. elim had [ ];
        taken_told = λ y had. elim had [ ];
        unmade = λ y had. elim had [ ];
        unmade_kept = λ y had. elim had [ ];
        unmade_told = λ y had. elim had [ ];
        made = λ had. had;
        apart = λ had. had;
        taken_differ = tt;
        unmade_differ = tt;
        drawn = omega arith;
        past = λ told. absurd (true≢false (sym told));
      } in
      record {
        keeper = keeper;
        told = t.told;
        bound = t.bound;
        each = λ i u at lives.
            let split : (get_elem? (set views j (gave_number x v)) i ≡ some u) ⊎ ((i ≡ n) × (newcomer v x ≡ u)) = at_end (set views j (gave_number x v))
            (newcomer v x) i u at in
            elim split [
              | inl before ↦ old i u before lives
              | inr last ↦ subst (λ (k : ℕ). Numbers keeper k u) (sym last.0) (subst (λ (w : View). Numbers keeper n w) last.1 new)
            ];
        known = λ y below is.
            let What : View → Type 0 = λ w. (y ≡ w.number) ⊎ In y w.taken in
            let l = lists_still views j v (gave_number x v) (t.keeper y) What there live (λ had. had) (t.known y below is) in
            let same : keeper y ≡ t.keeper y = other y (λ e. true≢false (sym is ∙ ap t.told e ∙ h.unmade_told x is_unmade)) in
            record {
              view = l.view;
              there = subst (λ (k : ℕ). get_elem? (set views j (gave_number x v) ++ newcomer v x ∷ []) k ≡ some l.view) (sym same)
                  (at_longer (set views j (gave_number x v)) (newcomer v x ∷ []) (t.keeper y) l.view l.there);
              live = l.live;
              lists = l.lists;
            };
      }

  -- a seat that was told that no tile is left is taken in
  pub seat_taken : (i : ℕ) (u : View) → (i ≡ j → ⊥) → get_elem? views i ≡ some u → u.live ≡ true → u.told ≡ true
      → Tickets tiles seats ticket (set (set views j (took_in v u)) i spent_view)
  seat_taken i u apart at lives over =
      let h = t.each j v there live in let g = t.each i u at lives in
      let keeper : ℕ → ℕ = handed i j t.keeper in
      let stays : (x : ℕ) → t.keeper x ≡ j → keeper x ≡ j = λ x is. handed_not i j t.keeper x j is (λ e. apart (sym e)) in
      let comes : (x : ℕ) → t.keeper x ≡ i → keeper x ≡ j = λ x is. handed_to i j t.keeper x is in
      let mine : Numbers keeper j (took_in v u) = record {
        own = h.own;
        own_kept = stays v.number h.own_kept;
        own_told = h.own_told;
        taken = λ x had. elim had [
          | inl is ↦ subst (λ (k : ℕ). k < seats) (sym is) g.own
          | inr more ↦ elim (in_parts x v.taken u.taken more) [ inl a ↦ h.taken x a | inr b ↦ g.taken x b ]
        ];
        taken_kept = λ x had. elim had [
          | inl is ↦ comes x (ap t.keeper is ∙ g.own_kept)
          | inr more ↦ elim (in_parts x v.taken u.taken more) [ inl a ↦ stays x (h.taken_kept x a) | inr b ↦ comes x (g.taken_kept x b) ]
        ];
        taken_told = λ x had. elim had [
          | inl is ↦ ap t.told is ∙ g.own_told ∙ over
          | inr more ↦ elim (in_parts x v.taken u.taken more) [ inl a ↦ h.taken_told x a | inr b ↦ g.taken_told x b ]
        ];
        unmade = λ x had. elim (in_parts x v.unmade u.unmade had) [ inl a ↦ h.unmade x a | inr b ↦ g.unmade x b ];
        unmade_kept = λ x had. elim (in_parts x v.unmade u.unmade had) [ inl a ↦ stays x (h.unmade_kept x a) | inr b ↦ comes x (g.unmade_kept x b) ];
        unmade_told = λ x had. elim (in_parts x v.unmade u.unmade had) [ inl a ↦ h.unmade_told x a | inr b ↦ g.unmade_told x b ];
        made = λ had. elim (in_parts v.number v.unmade u.unmade had) [
          | inl a ↦ h.made a
          | inr b ↦ apart (sym (g.unmade_kept v.number b) ∙ h.own_kept)
        ];
        apart = λ had. elim had [
          | inl is ↦ apart (sym g.own_kept ∙ ap t.keeper (sym is) ∙ h.own_kept)
          | inr more ↦ elim (in_parts v.number v.taken u.taken more) [
            | inl a ↦ h.apart a
            | inr b ↦ apart (sym (g.taken_kept v.number b) ∙ h.own_kept)
          ]
        ];
        taken_differ = (
          (λ more. elim (in_parts u.number v.taken u.taken more) [
            | inl a ↦ apart (sym g.own_kept ∙ h.taken_kept u.number a)
            | inr b ↦ g.apart b
          ]),
          differ_both v.taken u.taken h.taken_differ g.taken_differ (λ x a b. apart (sym (g.taken_kept x b) ∙ h.taken_kept x a)),
        );
        unmade_differ = differ_both v.unmade u.unmade h.unmade_differ g.unmade_differ (λ x a b. apart (sym (g.unmade_kept x b) ∙ h.unmade_kept x a));
        drawn = max_most v.drawn u.drawn ticket h.drawn g.drawn;
        past = λ told. let a : tiles < v.drawn = h.past told in let b : v.drawn ≤ max v.drawn u.drawn = max_left v.drawn u.drawn in omega (arith, a, b);
      } in
      record {
        keeper = keeper;
        told = t.told;
        bound = t.bound;
        each = each_view (Numbers keeper) (set views j (took_in v u)) i spent_view
            (λ alive. absurd (true≢false (sym alive)))
            (λ k x differs at' alive. each_view (λ (l : ℕ) (y : View). (l ≡ i → ⊥) → Numbers keeper l y) views j (took_in v u)
            (λ yes_live not. mine)
            (λ l y ne there' alive' not. let f = t.each l y there' alive' in
            let same : (z : ℕ) → t.keeper z ≡ l → keeper z ≡ l = λ z is. handed_not i j t.keeper z l is not in
            record {
              own = f.own;
              own_kept = same y.number f.own_kept;
              own_told = f.own_told;
              taken = f.taken;
              taken_kept = λ z had. same z (f.taken_kept z had);
              taken_told = f.taken_told;
              unmade = f.unmade;
              unmade_kept = λ z had. same z (f.unmade_kept z had);
              unmade_told = f.unmade_told;
              made = f.made;
              apart = f.apart;
              taken_differ = f.taken_differ;
              unmade_differ = f.unmade_differ;
              drawn = f.drawn;
              past = f.past;
            })
            k x at' alive differs);
        known = λ x below is.
            let What : View → Type 0 = λ w. (x ≡ w.number) ⊎ In x w.taken in
            let l = t.known x below is in
            elim (ℕ_discrete (t.keeper x) i) [
              | yes its ↦
                  let found : get_elem? views i ≡ some l.view = subst (λ (k : ℕ). get_elem? views k ≡ some l.view) its l.there in
                  let had : What u = subst What (some-injective l.view u (sym found ∙ at)) l.lists in
                  let now : In x (took_in v u).taken = elim had [ inl own ↦ inl own | inr a ↦ inr (in_right x v.taken u.taken a) ] in
                  let m = lists_now views j v (took_in v u) (keeper x) What there live (comes x its) (inr now) in
                  record {
                    view = m.view;
                    there = set_else (set views j (took_in v u)) i (keeper x) spent_view (λ e. apart (sym e ∙ comes x its)) ∙ m.there;
                    live = m.live;
                    lists = m.lists;
                  }
              | no differs ↦
                  let same : keeper x ≡ t.keeper x = handed_not i j t.keeper x (t.keeper x) refl differs in
                  let m = lists_still views j v (took_in v u) (t.keeper x) What there live (λ had. elim had [
                    | inl own ↦ inl own
                    | inr a ↦ inr (inr (in_left x v.taken u.taken a))
                  ]) l in
                  record {
                    view = m.view;
                    there = set_else (set views j (took_in v u)) i (keeper x) spent_view (λ e. differs (sym same ∙ e))
                        ∙ ap (λ (k : ℕ). get_elem? (set views j (took_in v u)) k) same ∙ m.there;
                    live = m.live;
                    lists = m.lists;
                  }
            ];
      }

  -- Where a seat was told that no tile is left, and all numbers are its own or taken in, the ticket
  -- is past the last tile, and no other view is live.
  pub all_taken : v.told ≡ true → ((x : ℕ) → x < seats → (x ≡ v.number) ⊎ In x v.taken)
      → (tiles < ticket) × ((i : ℕ) (u : View) → get_elem? views i ≡ some u → u.live ≡ true → i ≡ j)
  all_taken told all =
      let h = t.each j v there live in
      let a : tiles < v.drawn = h.past told in let b : v.drawn ≤ ticket = h.drawn in (
        omega (arith, a, b),
        λ i u at lives. let g = t.each i u at lives in
            elim (all u.number g.own) [
              | inl is ↦ sym g.own_kept ∙ ap t.keeper is ∙ h.own_kept
              | inr had ↦ sym g.own_kept ∙ h.taken_kept u.number had
            ],
      )
