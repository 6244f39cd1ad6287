-- What lies in the slots, and which are away, through a post.
use Rattle.std.proofs.Common.{◌≡◌, ℕ, suc, ◌<◌, List, Bool, true, false, inl, inr, sym, ap, ◌∙◌, subst, arith, true≢false}
use Rattle.std.proofs.Math.Decide.{ℕ_discrete}
use mathlib.Core.Option.{Option, none, some}
use lib.ListN.{get_elem?}
use Rattle.pic_yard.specs.Marks.{Board, IsOwed}
use Rattle.pic_yard.specs.Members.{count_below}
use Rattle.pic_yard.specs.Places.{slot_in, IsHome, Kinds, Places, Aways}
use Rattle.pic_yard.proofs.CountLaws.{count_all}
use Rattle.pic_yard.proofs.CollectLaws.{slot_row, slot_place}
use Rattle.pic_yard.proofs.PlaceLaws.{SlotsHold, own_from, home_still}
use Rattle.pic_yard.proofs.PostLaws.{posts, IsPair, which_pair, posts_it, posts_other, count_posts, count_row}

module _ {S : Type 0} {kinds : Kinds S} {b : Board} {to : ℕ → ℕ → ℕ} (h : SlotsHold kinds b to) (claimer : ℕ → ℕ) (r d j : ℕ)
    (owed : IsOwed b.tiles b.dirs b.ticket b.from b.posted claimer r d j) where
  open b use {tiles, dirs, here, ticket, from, posted, shut}
  open h use {ways, homes, came, whole, places, aways}
  open owed use {tile as inside, dir, sender, free}

  abbrev after : ℕ → ℕ → Bool
  after = posts posted r d

  -- the parcel lies in its mailbox; with that of no step the home slot comes home too, and is vacant
  pub record ComesHome (later : List (Option S)) : Type 0 where
    pub box : IsHome later (slot_in dirs r d) (kinds.IsParcel (from r d) d)
    pub home : d ≡ here → IsHome later (slot_in dirs r dirs) kinds.IsVacant
    pub others : (at : ℕ) → (at ≡ slot_in dirs r d → ⊥) → (d ≡ here → at ≡ slot_in dirs r dirs → ⊥) → get_elem? later at ≡ get_elem? homes at

  -- all slots of r are away
  pub record GoesAway (later : List (Option S)) : Type 0 where
    pub away : (k : ℕ) → k < suc dirs → get_elem? later (slot_in dirs r k) ≡ some none
    pub others : (q k : ℕ) → (q ≡ r → ⊥) → k < suc dirs → get_elem? later (slot_in dirs q k) ≡ get_elem? homes (slot_in dirs q k)

  not_full : count_below (posted r) dirs ≡ dirs → ⊥
  not_full full = true≢false (sym (count_all (posted r) dirs d full dir) ∙ free)

  not_shut : (q : ℕ) → q < tiles → shut q ≡ true → q ≡ r → ⊥
  not_shut q tile closed is = not_full (ap (λ (k : ℕ). count_below (posted k) dirs) (sym is) ∙ whole q tile closed)

  was : (q e : ℕ) → (IsPair r d q e → ⊥) → (b : Bool) → after q e ≡ b → posted q e ≡ b
  was q e apart b is = sym (posts_other posted r d q e apart) ∙ is

  -- the claimed tiles, by a parcel that is posted now
  sent : (q e : ℕ) → q < tiles → e < dirs → after q e ≡ true → from q e < ticket
  sent q e tile way is = elim (which_pair r d q e) [
    | inl same ↦ subst (λ (k : ℕ). k < ticket) (λ i. from (sym same.0 i) (sym same.1 i)) sender
    | inr apart ↦ came q e tile way (was q e apart true is)
  ]

  own : (t : ℕ) → t < tiles → after t here ≡ true → t < ticket
  own t tile is = subst (λ (k : ℕ). k < ticket) (own_from tiles dirs here to from ways t tile) (sent t here tile ways.here_below is)

  module _ (few : suc (count_below (posted r) dirs) < dirs) (later : List (Option S)) (put : ComesHome later) where
    box_same : (q e : ℕ) → e < dirs → (IsPair r d q e → ⊥) → get_elem? later (slot_in dirs q e) ≡ get_elem? homes (slot_in dirs q e)
    box_same q e way apart = put.others (slot_in dirs q e)
        (λ same. apart (slot_row dirs q e r d (omega arith) (omega arith) same, slot_place dirs q e r d (omega arith) (omega arith) same))
        (λ h same. let k : e ≡ dirs = slot_place dirs q e r dirs (omega arith) (omega arith) same in omega (arith, k, way))

    home_same : (t : ℕ) → (d ≡ here → t ≡ r → ⊥) → get_elem? later (slot_in dirs t dirs) ≡ get_elem? homes (slot_in dirs t dirs)
    home_same t apart = put.others (slot_in dirs t dirs)
        (λ same. let k : dirs ≡ d = slot_place dirs t dirs r d (omega arith) (omega arith) same in omega (arith, k, dir))
        (λ h same. apart h (slot_row dirs t dirs r dirs (omega arith) (omega arith) same))

    fewer : (q : ℕ) → count_below (after q) dirs < dirs → count_below (posted q) dirs < dirs
    fewer q less = elim (ℕ_discrete q r) [
      | yes is ↦ let a : count_below (posted q) dirs ≡ count_below (posted r) dirs = ap (λ (k : ℕ). count_below (posted k) dirs) is in omega (arith, a, few)
      | no apart ↦ subst (λ (c : ℕ). c < dirs) (count_row posted r d dirs q apart) less
    ]

    pub post_places : Places kinds (record b { posted = after }) later
    post_places = record {
      bare = λ q e tile way above.
          let apart : IsPair r d q e → ⊥ = λ same. let at : from q e ≡ from r d = λ i. from (same.0 i) (same.1 i) in omega (arith, at, above, sender) in
          home_still homes later (slot_in dirs q e) kinds.IsEmpty (box_same q e way apart) (places.bare q e tile way above);
      full = λ q e tile way is less. elim (which_pair r d q e) [
        | inl same ↦ subst (λ (k : ℕ). IsHome later (slot_in dirs k e) (kinds.IsParcel (from k e) e)) (sym same.0)
            (subst (λ (k : ℕ). IsHome later (slot_in dirs r k) (kinds.IsParcel (from r k) k)) (sym same.1) put.box)
        | inr apart ↦ home_still homes later (slot_in dirs q e) (kinds.IsParcel (from q e) e) (box_same q e way apart)
            (places.full q e tile way (was q e apart true is) (fewer q less))
      ];
      emptied = λ q e tile way closed.
          home_still homes later (slot_in dirs q e) kinds.IsEmpty (box_same q e way (λ same. not_shut q tile closed same.0))
          (places.emptied q e tile way closed);
      opening = λ t tile above.
          let apart : d ≡ here → t ≡ r → ⊥ = λ h e.
          let at : from r d ≡ r = ap (λ (k : ℕ). from r k) h ∙ own_from tiles dirs here to from ways r inside in omega (arith, at, e, above, sender) in
          home_still homes later (slot_in dirs t dirs) (kinds.IsTile t) (home_same t apart) (places.opening t tile above);
      between = λ t tile is less. elim (which_pair r d t here) [
        | inl same ↦ subst (λ (k : ℕ). IsHome later (slot_in dirs k dirs) kinds.IsVacant) (sym same.0) (put.home (sym same.1))
        | inr apart ↦ home_still homes later (slot_in dirs t dirs) kinds.IsVacant (home_same t (λ h e. apart (e, sym h)))
            (places.between t tile (was t here apart true is) (fewer t less))
      ];
      finished = λ q tile closed.
          home_still homes later (slot_in dirs q dirs) (kinds.IsFinished q) (home_same q (λ h e. not_shut q tile closed e)) (places.finished q tile closed);
    }

    pub post_aways : Aways (record b { posted = after }) later
    post_aways = record {
      lent = λ q e tile way below off.
          let apart : IsPair r d q e → ⊥ = λ same. true≢false (sym (posts_it posted r d q e same) ∙ off) in
          box_same q e way apart ∙ aways.lent q e tile way below (was q e apart false off);
      left = λ t tile below off.
          let apart : IsPair r d t here → ⊥ = λ same. true≢false (sym (posts_it posted r d t here same) ∙ off) in
          home_same t (λ h e. apart (e, sym h)) ∙ aways.left t tile below (was t here apart false off);
      held = λ q k tile below full open_yet.
          let other : q ≡ r → ⊥ = λ e.
          let a : count_below (after q) dirs ≡ suc (count_below (posted r) dirs) = ap (λ (i : ℕ). count_below (after i) dirs) e
          ∙ count_posts posted r d dirs dir free in
          omega (arith, a, full, few) in
          put.others (slot_in dirs q k)
          (λ same. other (slot_row dirs q k r d below (omega arith) same))
          (λ h same. other (slot_row dirs q k r dirs below (omega arith) same))
          ∙ aways.held q k tile below (sym (count_row posted r d dirs q other) ∙ full) open_yet;
    }

  module _ (last : suc (count_below (posted r) dirs) ≡ dirs) (later : List (Option S)) (gone : GoesAway later) where
    all_posted : (e : ℕ) → e < dirs → after r e ≡ true
    all_posted e way = count_all (after r) dirs e (count_posts posted r d dirs dir free ∙ last) way

    not_less : (q : ℕ) → count_below (after q) dirs < dirs → q ≡ r → ⊥
    not_less q less is =
        let a : count_below (after q) dirs ≡ suc (count_below (posted r) dirs) = ap (λ (i : ℕ). count_below (after i) dirs) is
        ∙ count_posts posted r d dirs dir free in
        omega (arith, a, less, last)

    pub last_places : Places kinds (record b { posted = after }) later
    last_places = record {
      bare = λ q e tile way above.
          let apart : q ≡ r → ⊥ = λ is. let less : from q e < ticket = sent q e tile way (ap (λ (k : ℕ). after k e) is
          ∙ all_posted e way) in omega (arith, less, above) in
          home_still homes later (slot_in dirs q e) kinds.IsEmpty (gone.others q e apart (omega arith)) (places.bare q e tile way above);
      full = λ q e tile way is less.
          let apart : q ≡ r → ⊥ = not_less q less in
          home_still homes later (slot_in dirs q e) (kinds.IsParcel (from q e) e) (gone.others q e apart (omega arith))
          (places.full q e tile way (was q e (λ same. apart same.0) true is) (subst (λ (c : ℕ). c < dirs) (count_row posted r d dirs q apart) less));
      emptied = λ q e tile way closed.
          home_still homes later (slot_in dirs q e) kinds.IsEmpty (gone.others q e (not_shut q tile closed) (omega arith))
          (places.emptied q e tile way closed);
      opening = λ t tile above.
          let apart : t ≡ r → ⊥ = λ is. let less : r < ticket = own r inside (all_posted here ways.here_below) in omega (arith, less, is, above) in
          home_still homes later (slot_in dirs t dirs) (kinds.IsTile t) (gone.others t dirs apart (omega arith)) (places.opening t tile above);
      between = λ t tile is less.
          let apart : t ≡ r → ⊥ = not_less t less in
          home_still homes later (slot_in dirs t dirs) kinds.IsVacant (gone.others t dirs apart (omega arith))
          (places.between t tile (was t here (λ same. apart same.0) true is) (subst (λ (c : ℕ). c < dirs) (count_row posted r d dirs t apart) less));
      finished = λ q tile closed.
          home_still homes later (slot_in dirs q dirs) (kinds.IsFinished q) (gone.others q dirs (not_shut q tile closed) (omega arith))
          (places.finished q tile closed);
    }

    pub last_aways : Aways (record b { posted = after }) later
    last_aways = record {
      lent = λ q e tile way below off.
          let apart : q ≡ r → ⊥ = λ is. true≢false (sym (ap (λ (k : ℕ). after k e) is ∙ all_posted e way) ∙ off) in
          gone.others q e apart (omega arith) ∙ aways.lent q e tile way below (was q e (λ same. apart same.0) false off);
      left = λ t tile below off.
          let apart : t ≡ r → ⊥ = λ is. true≢false (sym (ap (λ (k : ℕ). after k here) is ∙ all_posted here ways.here_below) ∙ off) in
          gone.others t dirs apart (omega arith) ∙ aways.left t tile below (was t here (λ same. apart same.0) false off);
      held = λ q k tile below full open_yet. elim (ℕ_discrete q r) [
        | yes is ↦ subst (λ (i : ℕ). get_elem? later (slot_in dirs i k) ≡ some none) (sym is) (gone.away k below)
        | no apart ↦ gone.others q k apart below ∙ aways.held q k tile below (sym (count_row posted r d dirs q apart) ∙ full) open_yet
      ];
    }
