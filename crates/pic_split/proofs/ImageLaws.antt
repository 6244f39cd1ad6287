-- Laws of sums over the images of an edge, and of the divergence.
use Rattle.std.proofs.Common.{◌≡◌, ℕ, ◌+◌, ◌-◌, ◌∙◌, List, [], ◌∷◌, arith}
use Rattle.std.proofs.Math.IntN.{ℤ, pos, ◌+ℤ◌, ◌-ℤ◌, ◌*ℤ◌}
use Rattle.std.proofs.lemmas.Int.{ints}
use Rattle.std.proofs.lemmas.Nat.{mod_below}
use Rattle.pic_num.specs.declared.axis.Axis.{Axis}
use Rattle.pic_num.specs.declared.axis.Axis.TheVariants.{X, Y, Z}
use Rattle.pic_num.specs.Flux.{simpson}
use Rattle.pic_num.specs.Space.{Triple, Spot}
use Rattle.pic_num.proofs.Ring.{ring, reads}
use Rattle.pic_block.specs.Cells.{IsWithin}
use Rattle.pic_grid.specs.Current.{sum_images, wrapped}
use Rattle.pic_grid.specs.Differences.{down, div_e}
use Rattle.pic_grid.specs.Sums.{sum_over}

-- The sum over the images of an index.

-- of a sum, a difference, and 0
pub images_plus : (n : ℕ) (f g : ℤ → ℤ) (i : ℕ) → sum_images n (λ j. f j +ℤ g j) i ≡ sum_images n f i +ℤ sum_images n g i
unfolding sum_images
images_plus n f g i = omega (arith, ints)

pub images_zero : (n i : ℕ) → sum_images n (λ j. pos 0) i ≡ pos 0
unfolding sum_images
images_zero n i = omega (arith, ints)

-- The flux of a segment is linear in its way, in the first pair of weights and in the second.

pub images_way : (n : ℕ) (f : ℤ → ℤ) (i : ℕ) (q d a0 a1 b0 b1 : ℤ)
    → sum_images n (λ j. simpson q (f j *ℤ d) a0 a1 b0 b1) i ≡ simpson q (sum_images n f i *ℤ d) a0 a1 b0 b1
unfolding sum_images simpson
images_way n f i q d a0 a1 b0 b1 =
    ring (q ∷ d ∷ a0 ∷ a1 ∷ b0 ∷ b1 ∷ f (pos i -ℤ pos n) ∷ f (pos i) ∷ f (pos i +ℤ pos n) ∷ []) (search reads depth 40 fits 9000) tt

pub images_first : (n : ℕ) (f g : ℤ → ℤ) (i : ℕ) (q way b0 b1 : ℤ)
    → sum_images n (λ j. simpson q way (f j) (g j) b0 b1) i ≡ simpson q way (sum_images n f i) (sum_images n g i) b0 b1
unfolding sum_images simpson
images_first n f g i q way b0 b1 =
    ring (q ∷ way ∷ b0 ∷ b1 ∷ f (pos i -ℤ pos n) ∷ f (pos i) ∷ f (pos i +ℤ pos n)
    ∷ g (pos i -ℤ pos n) ∷ g (pos i) ∷ g (pos i +ℤ pos n) ∷ [])
    (search reads depth 40 fits 9000) tt

pub images_second : (n : ℕ) (f g : ℤ → ℤ) (i : ℕ) (q way a0 a1 : ℤ)
    → sum_images n (λ j. simpson q way a0 a1 (f j) (g j)) i ≡ simpson q way a0 a1 (sum_images n f i) (sum_images n g i)
unfolding sum_images simpson
images_second n f g i q way a0 a1 =
    ring (q ∷ way ∷ a0 ∷ a1 ∷ f (pos i -ℤ pos n) ∷ f (pos i) ∷ f (pos i +ℤ pos n)
    ∷ g (pos i -ℤ pos n) ∷ g (pos i) ∷ g (pos i +ℤ pos n) ∷ [])
    (search reads depth 40 fits 9000) tt

-- The sum over the images of an edge.

-- of a sum
pub wrapped-add : (n : Triple) (f g : Spot → ℤ) (p : Triple) → wrapped n (λ c. f c +ℤ g c) p ≡ wrapped n f p +ℤ wrapped n g p
unfolding wrapped
wrapped-add n f g p =
    let row_f = λ (y z : ℤ). sum_images n.x (λ x. f (record { x = x; y = y; z = z })) p.x in
    let row_g = λ (y z : ℤ). sum_images n.x (λ x. g (record { x = x; y = y; z = z })) p.x in
    let layer_f = λ (z : ℤ). sum_images n.y (λ y. row_f y z) p.y in
    let layer_g = λ (z : ℤ). sum_images n.y (λ y. row_g y z) p.y in
    (λ t. sum_images n.z (λ z. sum_images n.y (λ y.
    images_plus n.x (λ x. f (record { x = x; y = y; z = z })) (λ x. g (record { x = x; y = y; z = z })) p.x t) p.y) p.z)
    ∙ (λ t. sum_images n.z (λ z. images_plus n.y (λ y. row_f y z) (λ y. row_g y z) p.y t) p.z)
    ∙ images_plus n.z layer_f layer_g p.z

-- of nothing
pub wrapped-zero : (n p : Triple) → wrapped n (λ c. pos 0) p ≡ pos 0
unfolding wrapped
wrapped-zero n p =
    (λ t. sum_images n.z (λ z. sum_images n.y (λ y. images_zero n.x p.x t) p.y) p.z)
    ∙ (λ t. sum_images n.z (λ z. images_zero n.y p.y t) p.z)
    ∙ images_zero n.z p.z

-- of a sum over a list
pub wrapped-over : {A : Type 0} (n : Triple) (f : A → Spot → ℤ) (xs : List A) (p : Triple)
    → wrapped n (λ c. sum_over (λ x. f x c) xs) p ≡ sum_over (λ x. wrapped n (f x) p) xs
unfolding sum_over
wrapped-over n f [] p = wrapped-zero n p
wrapped-over n f (x ∷ xs) p =
    wrapped-add n (f x) (λ c. sum_over (λ y. f y c) xs) p
    ∙ (λ t. wrapped n (f x) p +ℤ wrapped-over n f xs p t)

-- The divergence.

-- the next cell down is one of the grid's
pub down_within : (n : Triple) (a : Axis) (p : Triple) → IsWithin p n → IsWithin (down n a p) n
down_within n X p h = record { x = mod_below (p.x + (n.x - 1)) n.x (omega (arith, h.x)); y = h.y; z = h.z }
down_within n Y p h = record { x = h.x; y = mod_below (p.y + (n.y - 1)) n.y (omega (arith, h.y)); z = h.z }
down_within n Z p h = record { x = h.x; y = h.y; z = mod_below (p.z + (n.z - 1)) n.z (omega (arith, h.z)) }

-- fields that agree at every cell of the grid have one divergence at its nodes
pub div_e_same : (n : Triple) (e f : Axis → Triple → ℤ) (node : Triple) → IsWithin node n
    → ((a : Axis) (p : Triple) → IsWithin p n → e a p ≡ f a p) → div_e n e node ≡ div_e n f node
div_e_same n e f node h same =
    let here : (a : Axis) → e a node ≡ f a node = λ a. same a node h in
    let below : (a : Axis) → e a (down n a node) ≡ f a (down n a node) = λ a. same a (down n a node) (down_within n a node h) in
    λ t. here X t -ℤ below X t +ℤ here Y t -ℤ below Y t +ℤ here Z t -ℤ below Z t

-- of a sum and of a difference of two fields
pub div_e-add : (n : Triple) (e f : Axis → Triple → ℤ) (node : Triple)
    → div_e n (λ a p. e a p +ℤ f a p) node ≡ div_e n e node +ℤ div_e n f node
div_e-add n e f node = omega (arith, ints)

pub div_e-less : (n : Triple) (e f : Axis → Triple → ℤ) (node : Triple)
    → div_e n (λ a p. e a p -ℤ f a p) node ≡ div_e n e node -ℤ div_e n f node
div_e-less n e f node = omega (arith, ints)

-- of a field that is 0 everywhere
pub div_e-zero : (n node : Triple) → div_e n (λ a p. pos 0) node ≡ pos 0
div_e-zero n node = omega (arith, ints)
