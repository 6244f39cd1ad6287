-- What holds of all elements of a list, and of one element more.
use Rattle.std.proofs.lemmas.Int.{to_z_pos}
use mir.Syntax.{w128}
use mir.Val.{to_z}
use Rattle.std.proofs.Common.{◌≡◌, ℕ, zero, suc, pos, ◌^◌, ◌<◌, ap, ◌∙◌, List, [], ◌∷◌, ◌++◌, length, get_or, arith}

pub all_more : {A : Type 0} (P : A → Type 0) (d : A) (xs : List A) (x : A) → ((k : ℕ) → k < length xs → P (get_or xs k d)) → P x
    → (k : ℕ) → k < length (xs ++ x ∷ []) → P (get_or (xs ++ x ∷ []) k d)
all_more P d [] x below here zero h = here
all_more P d [] x below here (suc k) h = absurd (omega (arith, h))
all_more P d (y ∷ ys) x below here zero h = below zero (omega arith)
all_more P d (y ∷ ys) x below here (suc k) h = all_more P d ys x (λ j below_j. below (suc j) (omega (arith, below_j))) here k (omega (arith, h))

-- a length, passed on in 128 bits
pub counted : (n m : ℕ) → n < 2 ^ 64 → n ≡ m → to_z w128 n ≡ pos m
counted n m small e = to_z_pos w128 n (omega (arith, small)) ∙ ap pos e
