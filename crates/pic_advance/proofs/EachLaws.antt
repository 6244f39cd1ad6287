-- Blocks one after another, and in two groups.
use Rattle.std.proofs.Common.{◌≡◌, ℕ, All, slice_index_or, ◌+◌, ◌-◌, ◌<◌, ◌≤◌, List, ◌++◌, length, set, Option, inl}
use Rattle.std.proofs.Common.{inr, refl, sym, ◌∙◌, ap, subst, arith, get_or-set_same, get_or-set_other, length-append}
use Rattle.std.proofs.Math.Decide.{ℕ_discrete}
use Rattle.std.proofs.Math.IntN.{pos}
use Rattle.std.proofs.Math.Seq.{get_or-append_right, take-append_seam, drop-append_seam}
use Rattle.std.proofs.lemmas.List.Elements.{All-take, All-drop}
use Rattle.std.proofs.lemmas.Bool.{cases_lt}
use Rattle.std.specs.Prelude.{replicate}
use Rattle.std.proofs.lemmas.List.{get_or_append_left, get_or-replicate, get_or_past, length-replicate}
use Rattle.pic_block.specs.Block.{BlockValues, no_block}
use Rattle.pic_grid.specs.declared.stop.Stop.{Stop}
use Rattle.pic_advance.specs.Blocks.{block_in, EachBlock, earlier, earliest}
use Rattle.pic_advance.proofs.EarliestLaws.{earliest_both, earliest_same}

-- blocks are changed one after another: those before i are, and the others are as they were
pub record Stepping (R : BlockValues → BlockValues → Type 0) (start now : List BlockValues) (i : ℕ) : Type 0 where
  pub rest : (j : ℕ) → i ≤ j → block_in now j ≡ block_in start j
  pub done : (j : ℕ) → j < i → R (block_in start j) (block_in now j)

pub stepping_none : (R : BlockValues → BlockValues → Type 0) (start : List BlockValues) → Stepping R start start 0
stepping_none R start = record { rest = λ j from. refl; done = λ j before. absurd (omega (arith, before)) }

pub stepping_more : (R : BlockValues → BlockValues → Type 0) (start now : List BlockValues) (i : ℕ) (u : BlockValues)
    → i < length now → Stepping R start now i → R (block_in now i) u → Stepping R start (set now i u) (i + 1)
stepping_more R start now i u below s one = record {
  rest = λ j from. get_or-set_other now i j u no_block (λ e. absurd (omega (arith, e, from))) ∙ s.rest j (omega (arith, from));
  done = λ j before. elim (ℕ_discrete j i) [
    | yes same ↦ (
        subst (λ (k : ℕ). R (block_in start k) (block_in (set now i u) k)) (sym same)
        (subst (λ (b : BlockValues). R (block_in start i) b) (sym (get_or-set_same now i u no_block below))
        (subst (λ (b : BlockValues). R b u) (s.rest i (omega arith)) one))
        )
    | no apart ↦ (
        subst (λ (b : BlockValues). R (block_in start j) b) (sym (get_or-set_other now i j u no_block apart))
        (s.done j (let less : j < i = omega (arith, apart, before) in less))
        )
  ];
}

-- the blocks of two groups in a row
pub in_front : (xs ys : List BlockValues) (i : ℕ) → i < length xs → block_in xs i ≡ block_in (xs ++ ys) i
in_front xs ys i below = sym (get_or_append_left xs ys no_block i below)

pub in_back : (xs ys : List BlockValues) (i k : ℕ) → i ≡ length xs + k → block_in ys k ≡ block_in (xs ++ ys) i
in_back xs ys i k is =
    (let e : k ≡ i - length xs = omega (arith, is) in ap (block_in ys) e) ∙ sym (get_or-append_right xs ys i no_block (omega (arith, is)))

pub each_append : (R : BlockValues → BlockValues → Type 0) (xs ys us vs : List BlockValues) → EachBlock R xs us → EachBlock R ys vs
    → EachBlock R (xs ++ ys) (us ++ vs)
each_append R xs ys us vs p q =
    let all = length-append xs ys in
    let new = length-append us vs in
    record {
      long = omega (arith, all, new, p.long, q.long);
      each = λ i below. elim (cases_lt i (length xs)) [
        | inl front ↦ (
            let less : i < length us = omega (arith, front, p.long) in
            subst (λ (b : BlockValues). R b (block_in (us ++ vs) i)) (in_front xs ys i front)
            (subst (λ (b : BlockValues). R (block_in xs i) b) (in_front us vs i less) (p.each i front))
            )
        | inr back ↦ (
            let k : ℕ = i - length xs in
            subst (λ (b : BlockValues). R b (block_in (us ++ vs) i)) (in_back xs ys i k (omega (arith, back)))
            (subst (λ (b : BlockValues). R (block_in ys k) b) (in_back us vs i k (omega (arith, back, p.long)))
            (q.each k (omega (arith, back, below, all))))
            )
      ];
    }

-- the stop of the blocks of two groups is the earlier of theirs
pub stops_append : (s : BlockValues → Option Stop) (xs ys : List BlockValues) (one other : Option Stop)
    → one ≡ earliest (λ i. s (block_in xs i)) (length xs) → other ≡ earliest (λ i. s (block_in ys i)) (length ys)
    → earlier one other ≡ earliest (λ i. s (block_in (xs ++ ys) i)) (length (xs ++ ys))
stops_append s xs ys one other p q =
    let all : ℕ → Option Stop = λ i. s (block_in (xs ++ ys) i) in
    let front = p ∙ earliest_same (λ i. s (block_in xs i)) all (length xs) (λ i below. ap s (in_front xs ys i below)) in
    let back = q ∙ earliest_same (λ i. s (block_in ys i)) (λ i. all (length xs + i)) (length ys) (λ i below. ap s (in_back xs ys (length xs + i) i refl)) in
    (λ j. earlier (front j) (back j)) ∙ sym (ap (earliest all) (length-append xs ys) ∙ earliest_both all (length xs) (length ys))

-- what holds of all blocks holds of the blocks of each of two groups
pub all_front : (P : BlockValues → Type 0) (xs ys : List BlockValues) → All P (xs ++ ys) → All P xs
all_front P xs ys all = subst (All P) (take-append_seam xs ys) (All-take P (length xs) (xs ++ ys) all)

pub all_back : (P : BlockValues → Type 0) (xs ys : List BlockValues) → All P (xs ++ ys) → All P ys
all_back P xs ys all = subst (All P) (drop-append_seam xs ys) (All-drop P (length xs) (xs ++ ys) all)

-- an entry of a list of zeros, where it stands and past it
pub zero_there : (n i : ℕ) → slice_index_or (replicate n (pos 0)) i (pos 0) ≡ pos 0
zero_there n i = elim (cases_lt i n) [
  | inl less ↦ get_or-replicate n i (pos 0) (pos 0) less
  | inr more ↦ get_or_past (replicate n (pos 0)) i (pos 0) (let e : length (replicate n (pos 0)) ≡ n = length-replicate n (pos 0) in omega arith)
]
