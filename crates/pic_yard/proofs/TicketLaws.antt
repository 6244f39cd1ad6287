-- The ticket and the numbers of the seats through a draw.
use Rattle.std.proofs.Common.{◌≡◌, ℕ, suc, ◌+◌, ◌<◌, ◌≤◌, ◌⊎◌, List, Bool, true, false, set, inl, refl, sym, ap, ◌∙◌, subst, arith}
use Rattle.std.proofs.Math.Decide.{ℕ_discrete}
use mathlib.Core.Option.{some}
use lib.ListN.{get_elem?}
use Rattle.pic_yard.specs.declared.view.View.{View}
use Rattle.pic_yard.specs.Marks.{Lists}
use Rattle.pic_yard.specs.Members.{In, count_below}
use Rattle.pic_yard.specs.Steps.{now_has}
use Rattle.pic_yard.specs.Tickets.{HasNumbers, Tickets}
use Rattle.pic_yard.proofs.ViewLaws.{each_view, lists_still, lists_now}
use Rattle.pic_yard.proofs.CountLaws.{at_else, at_here, at_other, stays_true, count_more}

-- a view that drew another number, and has other claims, rights and steps, keeps its numbers
numbers_with : (tiles seats ticket ticket' : ℕ) (keeper : ℕ → ℕ) (told : ℕ → Bool) (j : ℕ) (v : View) → HasNumbers tiles seats ticket keeper told j v
    → (drawn : ℕ) (owes : List (ℕ × ℕ)) (rights : List ℕ) (steps : ℕ) → drawn ≤ ticket' → (v.told ≡ true → tiles < drawn)
    → HasNumbers tiles seats ticket' keeper told j (record v { drawn = drawn; owes = owes; rights = rights; steps = steps })
numbers_with tiles seats ticket ticket' keeper told j v h drawn owes rights steps few past = record {
  own = h.own;
  own_kept = h.own_kept;
  own_told = h.own_told;
  taken = h.taken;
  taken_kept = h.taken_kept;
  taken_told = h.taken_told;
  unmade = h.unmade;
  unmade_kept = h.unmade_kept;
  unmade_told = h.unmade_told;
  made = h.made;
  apart = h.apart;
  taken_differ = h.taken_differ;
  unmade_differ = h.unmade_differ;
  drawn = few;
  past = past;
}

module _ (tiles seats ticket : ℕ) (views : List View) (t : Tickets tiles seats ticket views) (j : ℕ) (v : View)
    (there : get_elem? views j ≡ some v) (live : v.live ≡ true) (owes : List (ℕ × ℕ)) (rights : List ℕ) where
  abbrev Numbers : (ℕ → Bool) → ℕ → View → Type 0
  Numbers told i x = HasNumbers tiles seats (suc ticket) t.keeper told i x

  -- a number that is told is still known to be
  known_still : (drawn : ℕ) (told : Bool) (x : ℕ) → x < seats → t.told x ≡ true
      → Lists (set views j (now_has v drawn told owes rights)) (t.keeper x) (λ y. (x ≡ y.number) ⊎ In x y.taken)
  known_still drawn told x below is =
      lists_still views j v (now_has v drawn told owes rights) (t.keeper x) (λ y. (x ≡ y.number) ⊎ In x y.taken) there live (λ had. had) (t.known x below is)

  -- a draw of a tile's number
  pub draw_claims : ticket < tiles → Tickets tiles seats (suc ticket) (set views j (now_has v (suc ticket) v.told owes rights))
  draw_claims below =
      let h = t.each j v there live in
      record {
        keeper = t.keeper;
        told = t.told;
        bound = omega (arith, below);
        each = each_view (Numbers t.told) views j (now_has v (suc ticket) v.told owes rights)
            (λ lives. numbers_with tiles seats ticket (suc ticket) t.keeper t.told j v h (suc ticket) owes rights (suc v.steps) (omega arith)
            (λ told. let a : tiles < v.drawn = h.past told in let b : v.drawn ≤ ticket = h.drawn in omega arith))
            (λ i x apart at lives. let g = t.each i x at lives in
            numbers_with tiles seats ticket (suc ticket) t.keeper t.told i x g x.drawn x.owes x.rights x.steps
            (let b : x.drawn ≤ ticket = g.drawn in omega arith) g.past);
        known = known_still (suc ticket) v.told;
      }

  -- a draw past the last tile, of a seat that was not told so before
  pub draw_tells : tiles ≤ ticket → v.told ≡ false → Tickets tiles seats (suc ticket) (set views j (now_has v (suc ticket) true owes rights))
  draw_tells past before =
      let h = t.each j v there live in
      let told : ℕ → Bool = at_else v.number true t.told in
      let more : count_below told seats ≡ suc (count_below t.told seats) = count_more t.told v.number seats h.own (h.own_told ∙ before) in
      let most : ticket ≤ tiles + count_below t.told seats = t.bound in
      let other : (x : ℕ) → (x ≡ v.number → ⊥) → told x ≡ t.told x = λ x apart. at_other v.number x true t.told apart in
      record {
        keeper = t.keeper;
        told = told;
        bound = omega arith;
        each = each_view (Numbers told) views j (now_has v (suc ticket) true owes rights)
            (λ lives. record {
              own = h.own;
              own_kept = h.own_kept;
              own_told = at_here v.number v.number true t.told refl;
              taken = h.taken;
              taken_kept = h.taken_kept;
              taken_told = λ x is. stays_true v.number x t.told (h.taken_told x is);
              unmade = h.unmade;
              unmade_kept = h.unmade_kept;
              unmade_told = λ x is. other x (λ e. h.made (subst (λ (k : ℕ). In k v.unmade) e is)) ∙ h.unmade_told x is;
              made = h.made;
              apart = h.apart;
              taken_differ = h.taken_differ;
              unmade_differ = h.unmade_differ;
              drawn = omega arith;
              past = λ is. omega (arith, past);
            })
            (λ i x apart at lives. let g = t.each i x at lives in
            let differs : (k : ℕ) → t.keeper k ≡ i → k ≡ v.number → ⊥ = λ k is e. apart (sym is ∙ ap t.keeper e ∙ h.own_kept) in
            record {
              own = g.own;
              own_kept = g.own_kept;
              own_told = other x.number (differs x.number g.own_kept) ∙ g.own_told;
              taken = g.taken;
              taken_kept = g.taken_kept;
              taken_told = λ k is. stays_true v.number k t.told (g.taken_told k is);
              unmade = g.unmade;
              unmade_kept = g.unmade_kept;
              unmade_told = λ k is. other k (differs k (g.unmade_kept k is)) ∙ g.unmade_told k is;
              made = g.made;
              apart = g.apart;
              taken_differ = g.taken_differ;
              unmade_differ = g.unmade_differ;
              drawn = let b : x.drawn ≤ ticket = g.drawn in omega arith;
              past = g.past;
            });
        known = λ x below is. elim (ℕ_discrete x v.number) [
          | yes same ↦
              lists_now views j v (now_has v (suc ticket) true owes rights) (t.keeper x) (λ y. (x ≡ y.number) ⊎ In x y.taken) there live
              (ap t.keeper same ∙ h.own_kept) (inl same)
          | no apart ↦ known_still (suc ticket) true x below (sym (other x apart) ∙ is)
        ];
      }

-- a step that draws no number, and changes only claims and rights
pub keep_numbers : (tiles seats ticket : ℕ) (views : List View) (t : Tickets tiles seats ticket views) (j : ℕ) (v : View)
    → get_elem? views j ≡ some v → v.live ≡ true → (owes : List (ℕ × ℕ)) (rights : List ℕ)
    → Tickets tiles seats ticket (set views j (now_has v v.drawn v.told owes rights))
keep_numbers tiles seats ticket views t j v there live owes rights =
    let h = t.each j v there live in
    record {
      keeper = t.keeper;
      told = t.told;
      bound = t.bound;
      each = each_view (λ (i : ℕ) (x : View). HasNumbers tiles seats ticket t.keeper t.told i x) views j (now_has v v.drawn v.told owes rights)
          (λ lives. numbers_with tiles seats ticket ticket t.keeper t.told j v h v.drawn owes rights (suc v.steps) h.drawn h.past)
          (λ i x apart at lives. t.each i x at lives);
      known = λ x below is.
          lists_still views j v (now_has v v.drawn v.told owes rights) (t.keeper x) (λ y. (x ≡ y.number) ⊎ In x y.taken) there live (λ had. had)
          (t.known x below is);
    }
