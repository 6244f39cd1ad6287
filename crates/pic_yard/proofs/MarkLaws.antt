-- The arrival words and what the views list, through a claim and through a draw past the last tile.
use Rattle.std.proofs.Common.{◌≡◌, ℕ, suc, ◌<◌, ◌≤◌, List, slice_index, Bool, true, false, set, inl, inr, refl, sym, ap, ◌∙◌, subst, arith}
use Rattle.std.proofs.Math.Decide.{ℕ_discrete}
use mathlib.Core.Option.{some}
use lib.ListN.{get_elem?}
use Rattle.pic_yard.specs.declared.view.View.{View}
use Rattle.pic_yard.specs.Members.{In, Differ}
use Rattle.pic_yard.specs.Steps.{now_has, boxes_of, did_claim}
use Rattle.pic_yard.specs.Marks.{Board, Lists, IsOwed, IsRight, Marks}
use Rattle.pic_yard.proofs.Ways.{AreWays}
use Rattle.pic_yard.proofs.CountLaws.{at_else, at_here, at_other}
use Rattle.pic_yard.proofs.MemberLaws.{in_left, in_right, in_parts, in_boxes, boxes_in, boxes_differ, differ_both}
use Rattle.pic_yard.proofs.ViewLaws.{each_view, lists_still, lists_now}

-- all arrival words stay
abbrev pub ArrivalsStay : ℕ → List ℕ → List ℕ → Type 0
ArrivalsStay tiles words later = (r : ℕ) → r < tiles → slice_index later (suc r) ≡ slice_index words (suc r)

module _ (b : Board) (to : ℕ → ℕ → ℕ) (ways : AreWays b.tiles b.dirs b.here to b.from)
    (words later : List ℕ) (views : List View) (m : Marks b words views) (j : ℕ) (v : View)
    (there : get_elem? views j ≡ some v) (live : v.live ≡ true) (stay : ArrivalsStay b.tiles words later) where
  open b use {tiles, dirs, ticket, from, posted, shut}

  abbrev Owed : (ℕ → ℕ) → ℕ → View → Type 0
  Owed claimer i x = (r d : ℕ) → In (r, d) x.owes → IsOwed tiles dirs (suc ticket) from posted claimer r d i

  abbrev Rights : ℕ → View → Type 0
  Rights i x = (r : ℕ) → In r x.rights → IsRight tiles dirs posted shut m.finisher r i

  -- what the view owed is of tiles claimed earlier, so no mailbox of this claim is among it
  apart_boxes : ticket < tiles → (x : ℕ × ℕ) → In x (boxes_of (to ticket) dirs) → In x v.owes → ⊥
  apart_boxes below x box old =
      let is : (x.1 < dirs) × (x.0 ≡ to ticket x.1) = boxes_in (to ticket) x.0 x.1 dirs box in
      let sender : from x.0 x.1 ≡ ticket = ap (λ (q : ℕ). from q x.1) is.1 ∙ ways.back ticket x.1 below is.0 in
      let less : from x.0 x.1 < ticket = (m.owes j v there live x.0 x.1 old).sender in
      omega (arith, sender, less)

  -- the number drawn is that of a tile
  pub claim_marks : ticket < tiles → Marks (record b { ticket = suc b.ticket }) later (set views j (did_claim to dirs ticket v))
  claim_marks below =
      let u : View = did_claim to dirs ticket v in
      let claimer : ℕ → ℕ = at_else ticket j m.claimer in
      let before : (t : ℕ) → t < ticket → claimer t ≡ m.claimer t = λ t less. at_other ticket t j m.claimer (λ e. omega (arith, less, e)) in
      let now : (t : ℕ) → t ≡ ticket → claimer t ≡ j = λ t is. at_here ticket t j m.claimer is in
      let boxes : List (ℕ × ℕ) = boxes_of (to ticket) dirs in
      record {
        claimer = claimer;
        finisher = m.finisher;
        came = λ r d tile dir is. let a : from r d < ticket = m.came r d tile dir is in omega arith;
        arrivals = λ r tile. stay r tile ∙ m.arrivals r tile;
        whole = m.whole;
        owed = λ r d tile dir sender free.
            let split : Dec (from r d ≡ ticket) = ℕ_discrete (from r d) ticket in
            elim split [
              | yes is ↦
                  let at : In (to (from r d) d, d) (boxes_of (to (from r d)) dirs) = in_boxes (to (from r d)) d dirs dir in
                  let box : In (r, d) boxes =
                  subst (λ (t : ℕ). In (r, d) (boxes_of (to t) dirs)) is (subst (λ (q : ℕ). In (q, d) (boxes_of (to (from r d)) dirs))
                  (ways.forth r d tile dir) at) in
                  lists_now views j v u (claimer (from r d)) (λ x. In (r, d) x.owes) there live (now (from r d) is) (in_left (r, d) boxes v.owes box)
              | no apart ↦
                  let less : from r d < ticket = omega (arith, sender, apart) in
                  let old : Lists views (m.claimer (from r d)) (λ x. In (r, d) x.owes) = m.owed r d tile dir less free in
                  lists_still views j v u (claimer (from r d)) (λ x. In (r, d) x.owes) there live (λ had. in_right (r, d) boxes v.owes had)
                  (subst (λ (c : ℕ). Lists views c (λ x. In (r, d) x.owes)) (sym (before (from r d) less)) old)
            ];
        ready = λ r tile all open_yet. lists_still views j v u (m.finisher r) (λ x. In r x.rights) there live (λ had. had) (m.ready r tile all open_yet);
        owes = each_view (Owed claimer) views j u
            (λ lives r d had. elim (in_parts (r, d) boxes v.owes had) [
              | inl box ↦
                  let is : (d < dirs) × (r ≡ to ticket d) = boxes_in (to ticket) r d dirs box in
                  let tile : r < tiles = subst (λ (q : ℕ). q < tiles) (sym is.1) (ways.to_below ticket d below is.0) in
                  let sender : from r d ≡ ticket = ap (λ (q : ℕ). from q d) is.1 ∙ ways.back ticket d below is.0 in
                  record {
                    tile = tile;
                    dir = is.0;
                    sender = omega (arith, sender);
                    free = not_true (posted r d) (λ came. let a : from r d < ticket = m.came r d tile is.0 came in omega (arith, a, sender));
                    by = now (from r d) sender;
                  }
              | inr old ↦ later_owed j r d (m.owes j v there live r d old)
            ])
            (λ i x apart at lives r d had. later_owed i r d (m.owes i x at lives r d had));
        rights = each_view Rights views j u (λ lives r had. m.rights j v there live r had) (λ i x apart at lives r had. m.rights i x at lives r had);
        once_owed = each_view (λ i x. Differ x.owes) views j u
            (λ lives. differ_both boxes v.owes (boxes_differ (to ticket) dirs) (m.once_owed j v there live) (apart_boxes below))
            (λ i x apart at lives. m.once_owed i x at lives);
        once_right = each_view (λ i x. Differ x.rights) views j u (λ lives. m.once_right j v there live) (λ i x apart at lives. m.once_right i x at lives);
      }
    where
      not_true : (b : Bool) → (b ≡ true → ⊥) → b ≡ false
      not_true true never = absurd (never refl)
      not_true false never = refl

      later_owed : (i r d : ℕ) → IsOwed tiles dirs ticket from posted m.claimer r d i
          → IsOwed tiles dirs (suc ticket) from posted (at_else ticket j m.claimer) r d i
      later_owed i r d o = let less : from r d < ticket = o.sender in
          record {
            tile = o.tile;
            dir = o.dir;
            sender = omega arith;
            free = o.free;
            by = at_other ticket (from r d) j m.claimer (λ e. omega
                (arith, less, e)) ∙ o.by;
          }

  -- the number drawn is past the last tile
  pub told_marks : (drawn : ℕ) (told : Bool) → tiles ≤ ticket
      → Marks (record b { ticket = suc b.ticket }) later (set views j (now_has v drawn told v.owes v.rights))
  told_marks drawn told past =
      let u : View = now_has v drawn told v.owes v.rights in
      record {
        claimer = m.claimer;
        finisher = m.finisher;
        came = λ r d tile dir is. let a : from r d < ticket = m.came r d tile dir is in omega arith;
        arrivals = λ r tile. stay r tile ∙ m.arrivals r tile;
        whole = m.whole;
        owed = λ r d tile dir sender free.
            let a : from r d < tiles = ways.from_below r d tile dir in
            lists_still views j v u (m.claimer (from r d)) (λ x. In (r, d) x.owes) there live (λ had. had) (m.owed r d tile dir (omega
            (arith, a, past)) free);
        ready = λ r tile all open_yet. lists_still views j v u (m.finisher r) (λ x. In r x.rights) there live (λ had. had) (m.ready r tile all open_yet);
        owes = each_view (Owed m.claimer) views j u
            (λ lives r d had. more_owed j r d (m.owes j v there live r d had))
            (λ i x apart at lives r d had. more_owed i r d (m.owes i x at lives r d had));
        rights = each_view Rights views j u (λ lives r had. m.rights j v there live r had) (λ i x apart at lives r had. m.rights i x at lives r had);
        once_owed = each_view (λ i x. Differ x.owes) views j u (λ lives. m.once_owed j v there live) (λ i x apart at lives. m.once_owed i x at lives);
        once_right = each_view (λ i x. Differ x.rights) views j u (λ lives. m.once_right j v there live) (λ i x apart at lives. m.once_right i x at lives);
      }
    where
      more_owed : (i r d : ℕ) → IsOwed tiles dirs ticket from posted m.claimer r d i → IsOwed tiles dirs (suc ticket) from posted m.claimer r d i
      more_owed i r d o = let less : from r d < ticket = o.sender in record { tile = o.tile; dir = o.dir; sender = omega arith; free = o.free; by = o.by }
