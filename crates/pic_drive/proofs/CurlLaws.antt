-- The curl of a sum, of small values, and of a value that stands alone.
use Rattle.std.proofs.Common.{◌≡◌, ℕ, ◌+◌, ◌-◌, ◌*◌, ◌%◌, ◌<◌, ◌≤◌, Bool, true, false, cond, eqb, inl, inr, refl, sym, ◌∙◌, ap, unsigned_abs, arith}
use Rattle.std.proofs.Math.IntN.{ℤ, pos, ◌+ℤ◌, ◌-ℤ◌, neg_ℤ}
use Rattle.std.proofs.Math.Nat.{mod-eq_of_lt, add-mod_right, mod-add-mod}
use Rattle.std.specs.Prelude.{◌&&◌}
use Rattle.std.proofs.lemmas.Bool.{cases_Bool, eq-eqb, eqb-true, eqb-false}
use Rattle.std.proofs.lemmas.Int.{ints}
use Rattle.pic_num.specs.declared.axis.Axis.{Axis}
use Rattle.pic_num.specs.declared.axis.Axis.TheVariants.{X, Y, Z}
use Rattle.pic_num.specs.Space.{Triple, next_axis}
use Rattle.pic_block.specs.Cells.{IsWithin}
use Rattle.pic_grid.specs.Differences.{up, down, curl_b}
use Rattle.pic_drive.specs.Drive.{is_cell, only_there}

-- equal fields have one curl
pub curl_same : (n : Triple) (f g : Axis → Triple → ℤ) → ((a : Axis) (p : Triple) → f a p ≡ g a p) → (a : Axis) (p : Triple) → curl_b n f a p ≡ curl_b n g a p
curl_same n f g same a p = λ i. curl_b n (λ b q. same b q i) a p

-- the curl of a sum is that of both
pub curl_plus : (n : Triple) (f g : Axis → Triple → ℤ) (a : Axis) (p : Triple) → curl_b n (λ b q. f b q +ℤ g b q) a p ≡ curl_b n f a p +ℤ curl_b n g a p
curl_plus n f g a p = omega (arith, ints)

-- and at most four times as large as its values
pub curl_size : (n : Triple) (f : Axis → Triple → ℤ) (most : ℕ) → ((a : Axis) (p : Triple) → unsigned_abs (f a p) ≤ most) → (a : Axis) (p : Triple)
    → unsigned_abs (curl_b n f a p) ≤ 4 * most
curl_size n f most small a p =
    let second = next_axis a in
    let third = next_axis second in
    let one = small third p in
    let two = small third (down n second p) in
    let three = small second p in
    let four = small second (down n third p) in
    omega (arith, ints, one, two, three, four)

-- two tests are one where what they test is
same_test : (a b c d : ℕ) → (a ≡ b → c ≡ d) → (c ≡ d → a ≡ b) → eqb a b ≡ eqb c d
same_test a b c d there back =
    elim (cases_Bool (eqb a b)) [
      | inl is ↦ is ∙ sym (eq-eqb c d (there (eqb-true a b is)))
      | inr isnt ↦ isnt ∙ sym (other (λ e. eqb-false a b isnt (back e)))
    ]
  where
    other : (c ≡ d → ⊥) → eqb c d ≡ false
    other apart = elim (cases_Bool (eqb c d)) [ inl is ↦ absurd (apart (eqb-true c d is)) | inr isnt ↦ isnt ]

-- on a periodic axis the layer below one is another exactly where the one is that above the other
layer_turned : (n x y : ℕ) → x < n → y < n → eqb ((x + (n - 1)) % n) y ≡ eqb x ((y + 1) % n)
layer_turned n x y below low =
    same_test _ _ _ _
    (λ at.
    let sum : x + (n - 1) + 1 ≡ x + n = omega (arith, below) in
    sym (ap (λ (k : ℕ). (k + 1) % n) (sym at) ∙ mod-add-mod (x + (n - 1)) n 1 ∙ ap (λ (k : ℕ). k % n) sum ∙ add-mod_right x n ∙ mod-eq_of_lt below))
    (λ at.
    let sum : y + 1 + (n - 1) ≡ y + n = omega (arith, low) in
    ap (λ (k : ℕ). (k + (n - 1)) % n) at ∙ mod-add-mod (y + 1) n (n - 1) ∙ ap (λ (k : ℕ). k % n) sum ∙ add-mod_right y n ∙ mod-eq_of_lt low)

-- so it is of cells
cell_turned : (n : Triple) (a : Axis) (p q : Triple) → IsWithin p n → IsWithin q n → is_cell (down n a q) p ≡ is_cell q (up n a p)
cell_turned n X p q at on = ap (λ (t : Bool). t && (eqb q.y p.y && eqb q.z p.z)) (layer_turned n.x q.x p.x on.x at.x)
cell_turned n Y p q at on = ap (λ (t : Bool). eqb q.x p.x && (t && eqb q.z p.z)) (layer_turned n.y q.y p.y on.y at.y)
cell_turned n Z p q at on = ap (λ (t : Bool). eqb q.x p.x && (eqb q.y p.y && t)) (layer_turned n.z q.z p.z on.z at.z)

-- the value at four edges
abbrev pub edges : Triple → Axis → Triple → ℤ → Axis → Triple → ℤ
edges n a p v b q =
    let second = next_axis a in
    let third = next_axis second in
    only_there second p v b q +ℤ (only_there second (up n third p) (neg_ℤ v) b q
    +ℤ (only_there third p (neg_ℤ v) b q +ℤ only_there third (up n second p) v b q))

along_second : (t u : Bool) (v : ℤ) → cond t v (pos 0) -ℤ cond u v (pos 0) -ℤ pos 0 +ℤ pos 0 ≡ cond t v (pos 0) +ℤ
    (cond u (neg_ℤ v) (pos 0) +ℤ (pos 0 +ℤ pos 0))
along_second t true v = omega (arith, ints)
along_second t false v = omega (arith, ints)

along_third : (t u : Bool) (v : ℤ) → pos 0 -ℤ pos 0 -ℤ cond t v (pos 0) +ℤ cond u v (pos 0) ≡ pos 0 +ℤ (pos 0 +ℤ (cond t (neg_ℤ v) (pos 0) +ℤ cond u v (pos 0)))
along_third true u v = omega (arith, ints)
along_third false u v = omega (arith, ints)

-- the curl of a value that stands alone
pub curl_only : (n : Triple) (a : Axis) (p : Triple) (v : ℤ) (b : Axis) (q : Triple) → IsWithin p n → IsWithin q n
    → curl_b n (only_there a p v) b q ≡ edges n a p v b q
unfolding only_there
curl_only n X p v X q at on = refl
curl_only n Y p v Y q at on = refl
curl_only n Z p v Z q at on = refl
curl_only n X p v Y q at on =
    ap (λ (t : Bool). cond (is_cell q p) v (pos 0) -ℤ cond t v (pos 0) -ℤ pos 0 +ℤ pos 0) (cell_turned n Z p q at on) ∙ along_second (is_cell q p)
    (is_cell q (up n Z p)) v
curl_only n Y p v Z q at on =
    ap (λ (t : Bool). cond (is_cell q p) v (pos 0) -ℤ cond t v (pos 0) -ℤ pos 0 +ℤ pos 0) (cell_turned n X p q at on) ∙ along_second (is_cell q p)
    (is_cell q (up n X p)) v
curl_only n Z p v X q at on =
    ap (λ (t : Bool). cond (is_cell q p) v (pos 0) -ℤ cond t v (pos 0) -ℤ pos 0 +ℤ pos 0) (cell_turned n Y p q at on) ∙ along_second (is_cell q p)
    (is_cell q (up n Y p)) v
curl_only n X p v Z q at on =
    ap (λ (t : Bool). pos 0 -ℤ pos 0 -ℤ cond (is_cell q p) v (pos 0) +ℤ cond t v (pos 0)) (cell_turned n Y p q at on) ∙ along_third (is_cell q p)
    (is_cell q (up n Y p)) v
curl_only n Y p v X q at on =
    ap (λ (t : Bool). pos 0 -ℤ pos 0 -ℤ cond (is_cell q p) v (pos 0) +ℤ cond t v (pos 0)) (cell_turned n Z p q at on) ∙ along_third (is_cell q p)
    (is_cell q (up n Z p)) v
curl_only n Z p v Y q at on =
    ap (λ (t : Bool). pos 0 -ℤ pos 0 -ℤ cond (is_cell q p) v (pos 0) +ℤ cond t v (pos 0)) (cell_turned n X p q at on) ∙ along_third (is_cell q p)
    (is_cell q (up n X p)) v

-- the curl of nothing
pub curl_none : (n : Triple) (f : Axis → Triple → ℤ) → ((a : Axis) (p : Triple) → f a p ≡ pos 0) → (a : Axis) (p : Triple) → curl_b n f a p ≡ pos 0
curl_none n f none a p = curl_same n f (λ b q. pos 0) none a p
