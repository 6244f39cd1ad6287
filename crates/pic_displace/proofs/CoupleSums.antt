-- Sums of numbers that cancel in couples.
use Rattle.std.proofs.Common.{◌≡◌, ℕ, zero, suc, ◌+◌, ◌<◌, ◌≤◌, Bool, true, false, cond, eqb, if◌then◌else◌, List, [], ◌∷◌, length, map, take, get_or, count_by}
use Rattle.std.proofs.Common.{inl, inr, refl, sym, ap, ◌∙◌, arith}
use Rattle.std.proofs.Math.IntN.{ℤ, pos, neg_ℤ, ◌+ℤ◌, ◌*ℤ◌}
use Rattle.std.specs.Prelude.{⊤}
use Rattle.std.proofs.lemmas.Bool.{cases_lt, eq-eqb, ne_eqb}
use Rattle.std.proofs.lemmas.Int.{ints}
use Rattle.std.proofs.lemmas.List.{take_all}
use Rattle.std.proofs.lemmas.List.Sums.{sum_by_more}
use Rattle.pic_num.proofs.ProductLaws.{+ℤ-*ℤ, one-*ℤ, zero-*ℤ, plus_zero}
use Rattle.pic_grid.specs.Sums.{sum_over, sum_below}
use Rattle.pic_grid.proofs.OverLaws.{sum_over_more}
use Rattle.pic_grid.proofs.SumLaws.{sum_same, sum_plus}
use Rattle.pic_deck.specs.declared.species.Fill.{Fill}
use Rattle.pic_deck.specs.declared.species.Fill.TheVariants.{Points, Lattice, Random, Pair, Displace}
use Rattle.pic_deck.specs.declared.species.Species.{Species}
use Rattle.pic_deck.specs.Species.{species_at, no_species}
use Rattle.pic_displace.specs.Displace.{is_displacement}
use Rattle.pic_displace.specs.Couples.{is_displaced_from, displaced_from, InCouples}

-- a number where a test passes, and else 0
abbrev pub pick : Bool → ℤ → ℤ
pick b v = cond b v (pos 0)

zero_plus : (a : ℤ) → pos 0 +ℤ a ≡ a
zero_plus a = omega (arith, ints)

minus_both : (a b : ℤ) → neg_ℤ a +ℤ neg_ℤ b ≡ neg_ℤ (a +ℤ b)
minus_both a b = omega (arith, ints)

minus_and : (a : ℤ) → neg_ℤ a +ℤ a ≡ pos 0
minus_and a = omega (arith, ints)

-- a sum of nothing but 0
pub sum_none : (n : ℕ) (f : ℕ → ℤ) → ((j : ℕ) → j < n → f j ≡ pos 0) → sum_below n f ≡ pos 0
unfolding sum_below
sum_none zero f none = refl
sum_none (suc n) f none = λ t. sum_none n f (λ j below. none j (omega (arith, below))) t +ℤ none n (omega arith) t

-- a sum in which one number alone counts
pub sum_one : (n s : ℕ) (f : ℕ → ℤ) → s < n → sum_below n (λ i. pick (eqb s i) (f i)) ≡ f s
unfolding sum_below
sum_one zero s f below = absurd (omega (arith, below))
sum_one (suc n) s f below = elim (cases_lt s n) [
  | inl less ↦
      let other : eqb s n ≡ false = ne_eqb s n (λ e. omega (arith, e, less)) in
      (λ t. sum_one n s f less t +ℤ pick (other t) (f n)) ∙ sym (plus_zero (f s))
  | inr least ↦
      let same : s ≡ n = omega (arith, below, least) in
      let before : sum_below n (λ i. pick (eqb s i) (f i)) ≡ pos 0 =
      sum_none n (λ i. pick (eqb s i) (f i)) (λ j under. ap (λ (b : Bool). pick b (f j)) (ne_eqb s j (λ e. omega (arith, e, under, least)))) in
      (λ t. before t +ℤ pick (eq-eqb s n same t) (f n)) ∙ zero_plus (f n) ∙ ap f (sym same)
]

-- the sum over the first numbers, and over so many more
pub sum_parts : (a b : ℕ) (f : ℕ → ℤ) → sum_below (a + b) f ≡ sum_below a f +ℤ sum_below b (λ j. f (a + j))
unfolding sum_below
sum_parts a zero f = ap (λ k. sum_below k f) (let e : a + 0 ≡ a = omega arith in e) ∙ plus_zero (sum_below a f)
sum_parts a (suc b) f =
    let e : a + suc b ≡ suc (a + b) = omega arith in
    let h = sum_parts a b f in
    ap (λ k. sum_below k f) e ∙ omega (arith, ints, h)

-- the sum of the opposite numbers
pub sum_minus : (n : ℕ) (f : ℕ → ℤ) → sum_below n (λ j. neg_ℤ (f j)) ≡ neg_ℤ (sum_below n f)
unfolding sum_below
sum_minus zero f = refl
sum_minus (suc n) f = let h = sum_minus n f in omega (arith, ints, h)

-- a sum over a list, by the indices of its elements
sum_front : {A : Type 0} (f : A → ℤ) (xs : List A) (d : A) (m : ℕ) → m ≤ length xs → sum_over f (take m xs) ≡ sum_below m (λ k. f (get_or xs k d))
unfolding sum_over sum_below
sum_front f xs d zero most = refl
sum_front f xs d (suc m) most =
    let more : suc m ≡ m + 1 = omega arith in
    ap (λ k. sum_over f (take k xs)) more
    ∙ sum_over_more f xs m d (omega (arith, most))
    ∙ ap (λ (t : ℤ). t +ℤ f (get_or xs m d)) (sum_front f xs d m (omega (arith, most)))

pub sum_by_index : {A : Type 0} (f : A → ℤ) (xs : List A) (d : A) → sum_over f xs ≡ sum_below (length xs) (λ k. f (get_or xs k d))
sum_by_index f xs d = ap (sum_over f) (sym (take_all (length xs) xs (omega arith))) ∙ sum_front f xs d (length xs) (omega arith)

-- the sum over the elements that are made of others
pub sum_over-map : {A B : Type 0} (f : B → ℤ) (g : A → B) (xs : List A) → sum_over f (map g xs) ≡ sum_over (λ x. f (g x)) xs
unfolding sum_over
sum_over-map f g [] = refl
sum_over-map f g (x ∷ xs) = ap (λ (t : ℤ). f (g x) +ℤ t) (sum_over-map f g xs)

-- so many times a number, with one element more to be counted
times_count : {A : Type 0} (p : A → Bool) (xs : List A) (m : ℕ) (d : A) (v : ℤ) → m < length xs
    → pos (count_by p (take (m + 1) xs)) *ℤ v ≡ pos (count_by p (take m xs)) *ℤ v +ℤ pick (p (get_or xs m d)) v
times_count p xs m d v below =
    ap (λ (k : ℕ). pos k *ℤ v) (sum_by_more (λ x. cond (p x) 1 0) xs m d below) ∙ go (count_by p (take m xs)) (p (get_or xs m d))
  where
    go : (k : ℕ) (b : Bool) → pos (k + cond b 1 0) *ℤ v ≡ pos k *ℤ v +ℤ pick b v
    go k true = +ℤ-*ℤ (pos k) (pos 1) v ∙ ap (λ (t : ℤ). pos k *ℤ v +ℤ t) (one-*ℤ v)
    go k false = ap (λ (j : ℕ). pos j *ℤ v) (let e : k + 0 ≡ k = omega arith in e) ∙ plus_zero (pos k *ℤ v)

-- a species that is filled so has minus the number of the one from which it is displaced, if it is
abbrev pub Cancels : ℕ → (ℕ → ℤ) → ℕ → Fill → Type 0
Cancels n c number (Points points) = ⊤
Cancels n c number (Lattice first gap count v) = ⊤
Cancels n c number (Random count seed stream drift spread) = ⊤
Cancels n c number (Pair named seed stream drift spread) = ⊤
Cancels n c number (Displace named by v) = (named < n) × (c named ≡ neg_ℤ (c number))

-- the number of the species from which it is displaced
of_named : (n : ℕ) (c : ℕ → ℤ) (number : ℕ) (f : Fill) → Cancels n c number f
    → sum_below n (λ i. pick (is_displaced_from i f) (c i)) ≡ neg_ℤ (pick (is_displacement f) (c number))
of_named n c number (Points points) cancels = sum_none n (λ i. pos 0) (λ j below. refl)
of_named n c number (Lattice first gap count v) cancels = sum_none n (λ i. pos 0) (λ j below. refl)
of_named n c number (Random count seed stream drift spread) cancels = sum_none n (λ i. pos 0) (λ j below. refl)
of_named n c number (Pair named seed stream drift spread) cancels = sum_none n (λ i. pos 0) (λ j below. refl)
of_named n c number (Displace named by v) cancels = sum_one n named c cancels.0 ∙ cancels.1

-- Each species has a number, and those of a couple cancel.
module _ (ss : List Species) (c : ℕ → ℤ) (cancels : (number : ℕ) → number < length ss → Cancels (length ss) c number (species_at ss number).fill) where
  -- the number of a species, as often as one of the first m is displaced from it
  abbrev counted : ℕ → ℕ → ℤ
  counted m i = pos (displaced_from (take m ss) i) *ℤ c i

  -- the number of a species, if it is displaced
  abbrev away : ℕ → ℤ
  away i = pick (is_displacement (species_at ss i).fill) (c i)

  counted_more : (m i : ℕ) → m < length ss → counted (suc m) i ≡ counted m i +ℤ pick (is_displaced_from i (species_at ss m).fill) (c i)
  counted_more m i below =
      let more : suc m ≡ m + 1 = omega arith in
      ap (λ (k : ℕ). counted k i) more ∙ times_count (λ (s : Species). is_displaced_from i s.fill) ss m no_species (c i) below

  -- the first m species
  so_far : (m : ℕ) → m ≤ length ss → sum_below (length ss) (counted m) ≡ neg_ℤ (sum_below m away)
  unfolding sum_below
  so_far zero most = sum_none (length ss) (counted 0) (λ j below. zero-*ℤ (c j))
  so_far (suc m) most =
      let below : m < length ss = omega (arith, most) in
      let next : ℕ → ℤ = λ i. pick (is_displaced_from i (species_at ss m).fill) (c i) in
      sum_same (length ss) (counted (suc m)) (λ i. counted m i +ℤ next i) (λ i under. counted_more m i below)
      ∙ sum_plus (length ss) (counted m) next
      ∙ (λ t. so_far m (omega (arith, most)) t +ℤ of_named (length ss) c m (species_at ss m).fill (cancels m below) t)
      ∙ minus_both (sum_below m away) (away m)

  -- a species is displaced, or one is displaced from it
  either : InCouples ss → (i : ℕ) → i < length ss → c i ≡ counted (length ss) i +ℤ away i
  either couples i below =
      let count = ap (λ (ts : List Species). displaced_from ts i) (take_all (length ss) ss (omega arith)) ∙ couples.each i below in
      go (is_displacement (species_at ss i).fill) (c i) ∙ ap (λ (k : ℕ). pos k *ℤ c i +ℤ away i) (sym count)
    where
      go : (b : Bool) (v : ℤ) → v ≡ pos (if b then 0 else 1) *ℤ v +ℤ pick b v
      go true v = omega (arith, ints)
      go false v = omega (arith, ints)

  -- all species
  pub couples_cancel : InCouples ss → sum_below (length ss) c ≡ pos 0
  couples_cancel couples =
      sum_same (length ss) c (λ i. counted (length ss) i +ℤ away i) (either couples)
      ∙ sum_plus (length ss) (counted (length ss)) away
      ∙ ap (λ (t : ℤ). t +ℤ sum_below (length ss) away) (so_far (length ss) (omega arith))
      ∙ minus_and (sum_below (length ss) away)
