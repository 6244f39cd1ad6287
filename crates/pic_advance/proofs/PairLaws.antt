-- Blocks in two rows, worked on in pairs, one after another and in two groups.
use Rattle.std.proofs.Common.{◌≡◌, ℕ, ◌+◌, ◌-◌, ◌<◌, ◌≤◌, List, ◌++◌, length, set, inl, inr}
use Rattle.std.proofs.Common.{refl, sym, ◌∙◌, ap, subst, arith, get_or-set_same, get_or-set_other, length-append}
use Rattle.std.proofs.Math.Decide.{ℕ_discrete}
use Rattle.std.proofs.lemmas.Bool.{cases_lt}
use Rattle.std.proofs.lemmas.List.{length-set}
use Rattle.pic_block.specs.Block.{BlockValues}
use Rattle.pic_block.specs.Block.{no_block}
use Rattle.pic_team.specs.Sharing.{IsBeside}
use Rattle.pic_advance.specs.Blocks.{block_in}
use Rattle.pic_advance.specs.Pairs.{AllPairs, EachPair}
use Rattle.pic_advance.proofs.EachLaws.{in_front, in_back}

-- the pairs before i are, as R says, what became of the first ones, and the others are these
pub record IsPairing (R : BlockValues → BlockValues → BlockValues → BlockValues → Type 0) (es js fs ks : List BlockValues) (i : ℕ) : Type 0 where
  pub long : length fs ≡ length es
  pub beside : length ks ≡ length js
  pub rest : (j : ℕ) → i ≤ j → block_in fs j ≡ block_in es j
  pub beside_rest : (j : ℕ) → i ≤ j → block_in ks j ≡ block_in js j
  pub done : (j : ℕ) → j < i → R (block_in es j) (block_in js j) (block_in fs j) (block_in ks j)

-- where pairs are cut in two, so are both rows
pub cut_front : (xs ys us vs : List BlockValues) → IsBeside xs us vs → length (us ++ vs) ≡ length (xs ++ ys) → length us ≡ length xs
cut_front xs ys us vs beside same =
    let all = length-append xs ys in
    omega (arith, beside, same, all)

pub cut_back : (xs ys us vs : List BlockValues) → IsBeside xs us vs → length (us ++ vs) ≡ length (xs ++ ys) → length vs ≡ length ys
cut_back xs ys us vs beside same =
    let front = cut_front xs ys us vs beside same in
    let all = length-append xs ys in
    let all_beside = length-append us vs in
    omega (arith, front, same, all, all_beside)

module _ (C : BlockValues → BlockValues → Type 0)
  where
    moved_can : (e e' j j' : BlockValues) → e ≡ e' → j ≡ j' → C e j → C e' j'
    moved_can e e' j j' p q can = subst (λ (x : BlockValues). C x j') p (subst (λ (y : BlockValues). C e y) q can)

    pub can_front : (xs ys us vs : List BlockValues) → IsBeside xs us vs → AllPairs C (xs ++ ys) (us ++ vs) → AllPairs C xs us
    can_front xs ys us vs beside can =
        let same = cut_front xs ys us vs beside can.long in
        let all = length-append xs ys in
        record {
          long = same;
          each = λ i below. moved_can _ _ _ _ (sym (in_front xs ys i below)) (sym (in_front us vs i (omega (arith, below, same))))
              (can.each i (omega (arith, below, all)));
        }

    pub can_back : (xs ys us vs : List BlockValues) → IsBeside xs us vs → AllPairs C (xs ++ ys) (us ++ vs) → AllPairs C ys vs
    can_back xs ys us vs beside can =
        let same = cut_front xs ys us vs beside can.long in
        let all = length-append xs ys in
        record {
          long = cut_back xs ys us vs beside can.long;
          each = λ i below. moved_can _ _ _ _ (sym (in_back xs ys (length xs + i) i refl))
              (sym (in_back us vs (length xs + i) i (omega (arith, same)))) (can.each (length xs + i) (omega (arith, below, all)));
        }

    -- what a walk's step asks for
    pub can_next : (R : BlockValues → BlockValues → BlockValues → BlockValues → Type 0) (es js fs ks : List BlockValues) (i : ℕ) (e j : BlockValues)
        → AllPairs C es js → IsPairing R es js fs ks i → i < length es → e ≡ block_in fs i → j ≡ block_in ks i → C e j
    can_next R es js fs ks i e j can d below e_is j_is =
        moved_can _ _ _ _ (sym (e_is ∙ d.rest i (omega arith))) (sym (j_is ∙ d.beside_rest i (omega arith))) (can.each i below)

module _ (R : BlockValues → BlockValues → BlockValues → BlockValues → Type 0)
  where
    -- what holds of a pair, before and after, holds where they are the same
    moved : (e e' j j' f f' k k' : BlockValues) → e ≡ e' → j ≡ j' → f ≡ f' → k ≡ k' → R e j f k → R e' j' f' k'
    moved e e' j j' f f' k k' p q r s one =
        subst (λ (y : BlockValues). R e' j' f' y) s
        (subst (λ (x : BlockValues). R e' j' x k) r
        (subst (λ (y : BlockValues). R e' y f k) q
        (subst (λ (x : BlockValues). R x j f k) p one)))

    pub pairing_none : (es js : List BlockValues) → IsPairing R es js es js 0
    pairing_none es js = record {
      long = refl;
      beside = refl;
      rest = λ j from. refl;
      beside_rest = λ j from. refl;
      done = λ j before. absurd (omega (arith, before));
    }

    -- what a walk's step leaves,
    pub pairing_more : (es js fs ks : List BlockValues) (i : ℕ) (e j f k : BlockValues) → length js ≡ length es → IsPairing R es js fs ks i
        → i < length es → e ≡ block_in fs i → j ≡ block_in ks i → R e j f k → IsPairing R es js (set fs i f) (set ks i k) (i + 1)
    pairing_more es js fs ks i e j f k same d below e_is j_is one =
        let e_was : e ≡ block_in es i = e_is ∙ d.rest i (omega arith) in
        let j_was : j ≡ block_in js i = j_is ∙ d.beside_rest i (omega arith) in
        let inside : i < length fs = omega (arith, below, d.long) in
        let beside_inside : i < length ks = omega (arith, below, d.beside, same) in
        record {
          long = length-set fs i f ∙ d.long;
          beside = length-set ks i k ∙ d.beside;
          rest = λ m from. get_or-set_other fs i m f no_block (λ s. absurd (omega (arith, s, from))) ∙ d.rest m (omega (arith, from));
          beside_rest = λ m from. get_or-set_other ks i m k no_block (λ s. absurd (omega (arith, s, from))) ∙ d.beside_rest m (omega (arith, from));
          done = λ m before. elim (ℕ_discrete m i) [
            | yes at ↦ moved _ _ _ _ _ _ _ _ (e_was ∙ ap (block_in es) (sym at)) (j_was ∙ ap (block_in js) (sym at))
                (sym (ap (block_in (set fs i f)) at ∙ get_or-set_same fs i f no_block inside))
                (sym (ap (block_in (set ks i k)) at ∙ get_or-set_same ks i k no_block beside_inside)) one
            | no apart ↦ moved _ _ _ _ _ _ _ _ refl refl (sym (get_or-set_other fs i m f no_block apart))
                (sym (get_or-set_other ks i m k no_block apart)) (d.done m (let less : m < i = omega (arith, apart, before) in less))
          ];
        }

    -- and the whole walk
    pub pairing_all : (es js fs ks : List BlockValues) (i : ℕ) → length js ≡ length es → i ≡ length es → IsPairing R es js fs ks i → EachPair R es js fs ks
    pairing_all es js fs ks i same all d = record {
      count = same;
      long = d.long;
      beside = d.beside;
      each = λ m below. d.done m (omega (arith, below, all));
    }

    pub pairs_append : (es es' js js' fs fs' ks ks' : List BlockValues) → EachPair R es js fs ks → EachPair R es' js' fs' ks'
        → EachPair R (es ++ es') (js ++ js') (fs ++ fs') (ks ++ ks')
    pairs_append es es' js js' fs fs' ks ks' p q =
        let same = p.count in
        let all = length-append es es' in
        let all_beside = length-append js js' in
        let new = length-append fs fs' in
        let new_beside = length-append ks ks' in
        record {
          count = omega (arith, all, all_beside, p.count, q.count);
          long = omega (arith, all, new, p.long, q.long);
          beside = omega (arith, all_beside, new_beside, p.beside, q.beside);
          each = λ i below. elim (cases_lt i (length es)) [
            | inl front ↦ moved _ _ _ _ _ _ _ _ (in_front es es' i front) (in_front js js' i (omega (arith, front, same)))
                (in_front fs fs' i (omega (arith, front, p.long))) (in_front ks ks' i (omega (arith, front, same, p.beside))) (p.each i front)
            | inr back ↦ (
                let k = i - length es in
                let at : i ≡ length es + k = omega (arith, back) in
                moved _ _ _ _ _ _ _ _
                (in_back es es' i k at) (in_back js js' i k (omega (arith, at, same)))
                (in_back fs fs' i k (omega (arith, at, p.long))) (in_back ks ks' i k (omega (arith, at, same, p.beside)))
                (q.each k (omega (arith, at, below, all)))
                )
          ];
        }
