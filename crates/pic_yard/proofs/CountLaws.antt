-- How many numbers pass a test, and functions that are changed at one number.
use Rattle.std.proofs.Common.{◌≡◌, ℕ, zero, suc, ◌+◌, ◌<◌, ◌≤◌, Bool, true, false, eqb, if◌then◌else◌, eq-eqb, ne_eqb, refl, sym, ap, ◌∙◌, subst, arith}
use Rattle.std.proofs.Math.Decide.{ℕ_discrete}
use Rattle.pic_yard.specs.Members.{count_below}

-- f, but a at k
abbrev pub at_else : {A : Type 0} → ℕ → A → (ℕ → A) → ℕ → A
at_else k a f x = if eqb x k then a else f x

pub at_here : {A : Type 0} (k x : ℕ) (a : A) (f : ℕ → A) → x ≡ k → at_else k a f x ≡ a
at_here k x a f is = ap (λ (b : Bool). if b then a else f x) (eq-eqb x k is)

pub at_other : {A : Type 0} (k x : ℕ) (a : A) (f : ℕ → A) → (x ≡ k → ⊥) → at_else k a f x ≡ f x
at_other k x a f apart = ap (λ (b : Bool). if b then a else f x) (ne_eqb x k apart)

-- what was true stays so, where the new value is true
pub stays_true : (k x : ℕ) (f : ℕ → Bool) → f x ≡ true → at_else k true f x ≡ true
stays_true k x f was = elim (ℕ_discrete x k) [ yes is ↦ at_here k x true f is | no apart ↦ at_other k x true f apart ∙ was ]

abbrev weight : Bool → ℕ
weight b = if b then 1 else 0

count_step : (p : ℕ → Bool) (n : ℕ) → count_below p (suc n) ≡ weight (p n) + count_below p n
unfolding count_below
count_step p n = refl

count_none : (p : ℕ → Bool) → count_below p zero ≡ 0
unfolding count_below
count_none p = refl

weight_le : (b : Bool) → weight b ≤ 1
weight_le true = omega arith
weight_le false = omega arith

weight_one : (b : Bool) → weight b ≡ 1 → b ≡ true
weight_one true is = refl
weight_one false is = absurd (omega (arith, is))

pub count_le : (p : ℕ → Bool) (n : ℕ) → count_below p n ≤ n
count_le p zero = subst (λ (c : ℕ). c ≤ 0) (sym (count_none p)) (omega arith)
count_le p (suc n) =
    let w : ℕ = weight (p n) in let m : ℕ = count_below p n in let a : w ≤ 1 = weight_le (p n) in let b : m ≤ n = count_le p n in
    subst (λ (c : ℕ). c ≤ suc n) (sym (count_step p n)) (omega arith)

pub count_same : (p q : ℕ → Bool) (n : ℕ) → ((k : ℕ) → k < n → p k ≡ q k) → count_below p n ≡ count_below q n
count_same p q zero same = count_none p ∙ sym (count_none q)
count_same p q (suc n) same =
    let rest : count_below p n ≡ count_below q n = count_same p q n (λ k below. same k (omega arith)) in
    let first : p n ≡ q n = same n (omega arith) in
    count_step p n ∙ ap (λ (b : Bool). weight b + count_below p n) first ∙ ap (λ (c : ℕ). weight (q n) + c) rest ∙ sym (count_step q n)

-- a test that becomes true at one number passes one more
pub count_more : (p : ℕ → Bool) (k n : ℕ) → k < n → p k ≡ false → count_below (at_else k true p) n ≡ suc (count_below p n)
count_more p k zero below was = absurd (omega (arith, below))
count_more p k (suc n) below was =
    let q : ℕ → Bool = at_else k true p in let c : ℕ = count_below p n in
    let split : Dec (n ≡ k) = ℕ_discrete n k in
    elim split [
      | yes is ↦
          let rest : count_below q n ≡ c = count_same q p n (λ i less. at_other k i true p (λ e. omega (arith, less, e, is))) in
          let first : q n ≡ true = at_here k n true p is in
          let gone : p n ≡ false = ap p is ∙ was in
          let none : 0 + c ≡ c = omega arith in
          let old : count_below p (suc n) ≡ c = count_step p n ∙ ap (λ (b : Bool). weight b + c) gone ∙ none in
          let more : 1 + c ≡ suc c = omega arith in
          count_step q n ∙ ap (λ (b : Bool). weight b + count_below q n) first ∙ ap (λ (i : ℕ). 1 + i) rest
          ∙ more ∙ sym (ap (λ (i : ℕ). suc i) old)
      | no apart ↦
          let rest : count_below q n ≡ suc c = count_more p k n (omega arith) was in
          let first : q n ≡ p n = at_other k n true p apart in
          let w : ℕ = weight (p n) in
          let move : w + suc c ≡ suc (w + c) = omega arith in
          count_step q n ∙ ap (λ (b : Bool). weight b + count_below q n) first ∙ ap (λ (i : ℕ). w + i) rest ∙ move
          ∙ sym (ap (λ (i : ℕ). suc i) (count_step p n))
    ]

-- it passes all exactly where it is true everywhere
pub all_counted : (p : ℕ → Bool) (n : ℕ) → ((k : ℕ) → k < n → p k ≡ true) → count_below p n ≡ n
all_counted p zero all = count_none p
all_counted p (suc n) all =
    let more : 1 + n ≡ suc n = omega arith in
    count_step p n ∙ ap (λ (b : Bool). weight b + count_below p n) (all n (omega arith))
    ∙ ap (λ (i : ℕ). 1 + i) (all_counted p n (λ k below. all k (omega arith))) ∙ more

pub count_all : (p : ℕ → Bool) (n k : ℕ) → count_below p n ≡ n → k < n → p k ≡ true
count_all p zero k full below = absurd (omega (arith, below))
count_all p (suc n) k full below =
    let w : ℕ = weight (p n) in let m : ℕ = count_below p n in let a : w ≤ 1 = weight_le (p n) in let b : m ≤ n = count_le p n in
    let sum : w + m ≡ suc n = sym (count_step p n) ∙ full in
    let rest : m ≡ n = omega arith in let one : w ≡ 1 = omega arith in
    let split : Dec (k ≡ n) = ℕ_discrete k n in
    elim split [
      | yes is ↦ ap p is ∙ weight_one (p n) one
      | no apart ↦ count_all p n k rest (omega arith)
    ]
