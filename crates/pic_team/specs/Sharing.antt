-- Work that may be shared out: done on two groups of items it is done on both.
use Rattle.std.specs.Prelude.{◌≡◌, ℕ, ◌+◌, List, ◌++◌, length, min}

-- what stands beside xs of the items xs ++ ys: one for each, or nothing
abbrev pub IsBeside : {T U : Type 0} → List T → List U → List U → Type 0
IsBeside xs us vs = length us ≡ min (length xs) (length (us ++ vs))

-- items that can be worked on can be in two groups, and what becomes of the two becomes of all
pub record CanShare {T U A : Type 0} (can : ℕ → List T → List U → Type 0)
    (does : ℕ → List T → List U → List T → List U → A → Type 0) (both : A → A → A) : Type 0
  where
    pub front : (i : ℕ) (xs ys : List T) (us vs : List U) → IsBeside xs us vs
        → can i (xs ++ ys) (us ++ vs) → can i xs us
    pub back : (i : ℕ) (xs ys : List T) (us vs : List U) → IsBeside xs us vs
        → can i (xs ++ ys) (us ++ vs) → can (i + length xs) ys vs
    pub whole : (i : ℕ) (xs ys xs' ys' : List T) (us vs us' vs' : List U) (a b : A)
        → IsBeside xs us vs → does i xs us xs' us' a → does (i + length xs) ys vs ys' vs' b
        → does i (xs ++ ys) (us ++ vs) (xs' ++ ys') (us' ++ vs') (both a b)
