-- Totals of a list, by parts, of two numbers in either order, and over numbers in another order.
use Rattle.std.proofs.Common.{◌≡◌, ℕ, zero, suc, ◌+◌, ◌*◌, ◌<◌, List, [], ◌∷◌, length, get_or, nat_eq, cond, Bool, sum_by, eq-eqb, ne_eqb, refl, sym, ap, ◌∙◌}
use Rattle.std.proofs.Common.{arith}
use Rattle.std.proofs.lemmas.List.Sums.{sum_by-cons}
use mathlib.Core.Option.{Option, none, some}
use lib.ListN.{get_elem?}
use Rattle.pic_tile.specs.Totals.{total_below}
use Rattle.pic_tile.proofs.SumLaws.{total_same, total_plus, total_none, one_total}

-- the first number apart from the others
total_first : (n : ℕ) (f : ℕ → ℕ) → total_below (suc n) f ≡ f 0 + total_below n (λ i. f (suc i))
unfolding total_below
total_first zero f = omega arith
total_first (suc n) f = let h = total_first n f in omega (arith, h)

-- the weight of what is found
abbrev pub found_weight : {X : Type 0} → (X → ℕ) → Option X → ℕ
found_weight w none = 0
found_weight w (some x) = w x

-- what is found in a place of the list is the element there
pub found_at : {X : Type 0} (w : X → ℕ) (xs : List X) (i : ℕ) (other : X) → i < length xs
    → found_weight w (get_elem? xs i) ≡ w (get_or xs i other)
found_at w [] i other below = absurd (omega (arith, below))
found_at w (x ∷ xs) zero other below = refl
found_at w (x ∷ xs) (suc i) other below = found_at w xs i other (omega (arith, below))

-- a list weighs what is found in its places
pub list_total : {X : Type 0} (w : X → ℕ) (xs : List X) → sum_by w xs ≡ total_below (length xs) (λ i. found_weight w (get_elem? xs i))
list_total w [] = sym (total_none 0)
list_total w (x ∷ xs) =
    let first = total_first (length xs) (λ i. found_weight w (get_elem? (x ∷ xs) i)) in
    let rest = list_total w xs in
    let all = sum_by-cons w x xs in
    omega (arith, first, rest, all)

total_parts : (a b : ℕ) (f : ℕ → ℕ) → total_below (a + b) f ≡ total_below a f + total_below b (λ k. f (a + k))
unfolding total_below
total_parts a zero f = ap (λ (k : ℕ). total_below k f) (let e : a + 0 ≡ a = omega arith in e) ∙ omega arith
total_parts a (suc b) f =
    let h = total_parts a b f in
    ap (λ (k : ℕ). total_below k f) (let e : a + suc b ≡ suc (a + b) = omega arith in e) ∙ omega (arith, h)

-- n parts of m numbers each
pub total_blocks : (n m : ℕ) (f : ℕ → ℕ) → total_below (n * m) f ≡ total_below n (λ r. total_below m (λ k. f (r * m + k)))
unfolding total_below
total_blocks zero m f = ap (λ (k : ℕ). total_below k f) (let e : 0 * m ≡ 0 = omega arith in e)
total_blocks (suc n) m f =
    let h = total_blocks n m f in
    let parts = total_parts (n * m) m f in
    ap (λ (k : ℕ). total_below k f) (let e : suc n * m ≡ n * m + m = omega arith in e) ∙ omega (arith, h, parts)

-- two totals, the one inside the other
pub total_swap : (n m : ℕ) (f : ℕ → ℕ → ℕ) → total_below n (λ r. total_below m (λ d. f r d)) ≡ total_below m (λ d. total_below n (λ r. f r d))
unfolding total_below
total_swap zero m f = sym (total_none m)
total_swap (suc n) m f =
    let h = total_swap n m f in
    let both = total_plus m (λ d. total_below n (λ r. f r d)) (λ d. f n d) in
    omega (arith, h, both)

-- each number below n is from r for one r
pub total_moved : (n : ℕ) (to from : ℕ → ℕ) → ((r : ℕ) → r < n → from r < n) → ((t : ℕ) → t < n → to t < n)
    → ((t : ℕ) → t < n → from (to t) ≡ t) → ((r : ℕ) → r < n → to (from r) ≡ r) → (f : ℕ → ℕ)
    → total_below n (λ r. f (from r)) ≡ total_below n f
total_moved n to from from_in to_in back forth f =
    let one : ℕ → ℕ → ℕ = λ r t. cond (nat_eq t (from r)) (f t) 0 in
    let is_one : (r t : ℕ) → t ≡ from r → one r t ≡ f t = λ r t e. ap (λ (b : Bool). cond b (f t) 0) (eq-eqb t (from r) e) in
    let is_none : (r t : ℕ) → (t ≡ from r → ⊥) → one r t ≡ 0 = λ r t ne. ap (λ (b : Bool). cond b (f t) 0) (ne_eqb t (from r) ne) in
    total_same n (λ r. f (from r)) (λ r. total_below n (λ t. one r t))
    (λ r below. sym (one_total n (from r) (λ t. one r t) (from_in r below) (λ t inside apart. is_none r t apart) ∙ is_one r (from r) refl))
    ∙ total_swap n n one
    ∙ total_same n (λ t. total_below n (λ r. one r t)) f
    (λ t below. one_total n (to t) (λ r. one r t) (to_in t below)
    (λ r inside apart. is_none r t (λ e. apart (sym (forth r inside) ∙ ap to (sym e)))) ∙ is_one (to t) t (sym (back t below)))
