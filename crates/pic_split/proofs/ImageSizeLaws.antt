-- How large the flux of a path is at all images of an edge together: on each axis the images of a node
-- lie two sides apart or more, so a point has the weight of a side at most for all of them.
use Rattle.std.proofs.Common.{◌≡◌, ℕ, ◌+◌, ◌-◌, ◌*◌, ◌≤◌, Bool, true, false, unsigned_abs, List, [], ◌∷◌, refl, sym, ◌∙◌, ap, subst, arith}
use Rattle.std.proofs.Math.IntN.{ℤ, pos, negsuc, ◌+ℤ◌, ◌-ℤ◌, ◌*ℤ◌}
use Rattle.std.proofs.Math.Nat.{mul-le-mul_right, mul-le-mul_left}
use Rattle.std.specs.Prelude.{◌≤ℤ◌, ◌<ℤ◌, if◌then◌else◌}
use Rattle.std.proofs.lemmas.Int.{ints, unsigned_abs-mul, by_lt_z}
use Rattle.pic_num.proofs.Ring.{ring, reads}
use Rattle.pic_num.specs.declared.axis.Axis.{Axis}
use Rattle.pic_num.specs.declared.axis.Axis.TheVariants.{X, Y, Z}
use Rattle.pic_num.specs.Flux.{simpson}
use Rattle.pic_num.specs.Space.{Triple, Spot, along, next_axis}
use Rattle.pic_grid.specs.Current.{sum_images, wrapped}
use Rattle.pic_grid.specs.Flux.{flux, path_flux}
use Rattle.pic_grid.specs.Hat.{hat, HasTwo}
use Rattle.pic_grid.specs.Path.{same_int}
use Rattle.pic_grid.specs.Segment.{Piece}
use Rattle.pic_grid.specs.Sums.{sum_over}
use Rattle.pic_grid.specs.Ways.{ways}
use Rattle.pic_grid.proofs.FluxLaws.{flux_of_naturals, simpson_size}
use Rattle.pic_grid.proofs.HatLaws.{two_sides}
use Rattle.pic_grid.proofs.TwoHatLaws.{only, only_same, only_below, only_above}
use Rattle.pic_split.proofs.ContinuityLaws.{through_x, through_y, through_z}
use Rattle.pic_split.proofs.ImageHatLaws.{onlys, shadow}
use Rattle.pic_split.proofs.ImageLaws.{wrapped-add, wrapped-zero}

-- a natural number as a whole number, at most most
record IsUpTo (z : ℤ) (most : ℕ) : Type 0 where
  number : ℕ
  is : z ≡ pos number
  below : number ≤ most

-- the weights of a point for the three images of a node
three_hats : (s l : ℕ) (p a : ℤ) → s + s ≤ l
    → (s - unsigned_abs (p -ℤ (a -ℤ pos l))) + (s - unsigned_abs (p -ℤ a)) + (s - unsigned_abs (p -ℤ (a +ℤ pos l))) ≤ s
three_hats s l p a two = omega (arith, ints, two)

sum_of_three : (x y z : ℕ) → pos x +ℤ pos y +ℤ pos z ≡ pos (x + y + z)
sum_of_three x y z = omega (arith, ints)

shadow_small : (s n : ℕ) (p : ℤ) (i : ℕ) → 2 ≤ n → IsUpTo (shadow s n p i) s
unfolding shadow sum_images hat
shadow_small s n p i two =
    let low : (pos i -ℤ pos n) *ℤ pos s ≡ pos (i * s) -ℤ pos (n * s) = ring (pos i ∷ pos n ∷ pos s ∷ []) (search reads depth 40 fits 9000) tt in
    let high : (pos i +ℤ pos n) *ℤ pos s ≡ pos (i * s) +ℤ pos (n * s) = ring (pos i ∷ pos n ∷ pos s ∷ []) (search reads depth 40 fits 9000) tt in
    let w = λ (g : ℤ). s - unsigned_abs (p -ℤ g) in
    record {
      number = w (pos (i * s) -ℤ pos (n * s)) + w (pos (i * s)) + w (pos (i * s) +ℤ pos (n * s));
      is = (λ t. pos (w (low t)) +ℤ pos (w (pos (i * s))) +ℤ pos (w (high t)))
          ∙ sum_of_three (w (pos (i * s) -ℤ pos (n * s))) (w (pos (i * s))) (w (pos (i * s) +ℤ pos (n * s)));
      below = three_hats s (n * s) p (pos (i * s)) (two_sides s n two);
    }

-- one image at most is at a cell
onlys_small : (n : ℕ) (c : ℤ) (i : ℕ) → 2 ≤ n → IsUpTo (onlys n c i) 1
unfolding onlys sum_images
onlys_small n c i two = by_lt_z c (pos i) under (λ h. by_lt_z (pos i) c over (λ k. here h k))
  where
    by : (x y z : ℕ) → only c (pos i -ℤ pos n) ≡ pos x → only c (pos i) ≡ pos y → only c (pos i +ℤ pos n) ≡ pos z → x + y + z ≤ 1
        → IsUpTo (only c (pos i -ℤ pos n) +ℤ only c (pos i) +ℤ only c (pos i +ℤ pos n)) 1
    by x y z h k l small = record { number = x + y + z; is = (λ t. h t +ℤ k t +ℤ l t) ∙ sum_of_three x y z; below = small }

    -- of one place
    either : {P : Type 0} → (j : ℤ) → (only c j ≡ pos 1 → P) → (only c j ≡ pos 0 → P) → P
    either j yes_is no_is = by_lt_z j c (λ h. no_is (only_below c j h))
        (λ h. by_lt_z c j (λ k. no_is (only_above c j k)) (λ k. yes_is (only_same c j (omega (arith, ints, h, k)))))

    under : c <ℤ pos i → IsUpTo (only c (pos i -ℤ pos n) +ℤ only c (pos i) +ℤ only c (pos i +ℤ pos n)) 1
    under h =
        let mid = only_above c (pos i) h in
        let high = only_above c (pos i +ℤ pos n) (omega (arith, ints, h)) in
        either (pos i -ℤ pos n) (λ e. by 1 0 0 e mid high (omega arith)) (λ e. by 0 0 0 e mid high (omega arith))

    over : pos i <ℤ c → IsUpTo (only c (pos i -ℤ pos n) +ℤ only c (pos i) +ℤ only c (pos i +ℤ pos n)) 1
    over h =
        let mid = only_below c (pos i) h in
        let low = only_below c (pos i -ℤ pos n) (omega (arith, ints, h)) in
        either (pos i +ℤ pos n) (λ e. by 0 0 1 low mid e (omega arith)) (λ e. by 0 0 0 low mid e (omega arith))

    here : pos i ≤ℤ c → c ≤ℤ pos i → IsUpTo (only c (pos i -ℤ pos n) +ℤ only c (pos i) +ℤ only c (pos i +ℤ pos n)) 1
    here h k =
        let low = only_below c (pos i -ℤ pos n) (omega (arith, ints, h, k, two)) in
        let mid = only_same c (pos i) (omega (arith, ints, h, k)) in
        let high = only_above c (pos i +ℤ pos n) (omega (arith, ints, h, k, two)) in
        by 0 1 0 low mid high (omega arith)

-- The flux of a piece through all images of an edge.

small_simpson : (side : ℕ) (q way o a0 a1 b0 b1 : ℤ) → IsUpTo o 1 → IsUpTo a0 side → IsUpTo a1 side → IsUpTo b0 side → IsUpTo b1 side
    → unsigned_abs (simpson q (o *ℤ way) a0 a1 b0 b1) ≤ unsigned_abs q * unsigned_abs way * (12 * (side * side))
small_simpson side q way o a0 a1 b0 b1 ho h0 h1 k0 k1 =
    let is : unsigned_abs (simpson q (o *ℤ way) a0 a1 b0 b1)
    ≡ unsigned_abs (simpson q (o *ℤ way) (pos h0.number) (pos h1.number) (pos k0.number) (pos k1.number)) =
    (λ t. unsigned_abs (simpson q (o *ℤ way) (h0.is t) (h1.is t) (k0.is t) (k1.is t))) in
    let all = simpson_size side q (o *ℤ way) h0.number h1.number k0.number k1.number h0.below h1.below k0.below k1.below in
    let once : unsigned_abs (o *ℤ way) ≡ ho.number * unsigned_abs way = unsigned_abs-mul o way ∙ ap (λ (z : ℤ). unsigned_abs z * unsigned_abs way) ho.is in
    let fewer : ho.number * unsigned_abs way ≤ 1 * unsigned_abs way = mul-le-mul_right (unsigned_abs way) ho.below in
    let less : unsigned_abs (o *ℤ way) ≤ unsigned_abs way = omega (arith, once, fewer) in
    let most : unsigned_abs q * unsigned_abs (o *ℤ way) * (12 * (side * side)) ≤ unsigned_abs q * unsigned_abs way * (12 * (side * side)) =
    mul-le-mul_right (12 * (side * side)) (mul-le-mul_left (unsigned_abs q) less) in
    omega (arith, is, all, most)

piece_images : (side : ℕ) (n : Triple) (q : ℤ) (s : Piece) (a : Axis) (p : Triple) → HasTwo n
    → unsigned_abs (wrapped n (flux side q s a) p) ≤ unsigned_abs q * unsigned_abs (along a s.to -ℤ along a s.from) * (12 * (side * side))
piece_images side n q s X p two =
    subst (λ (z : ℤ). unsigned_abs z ≤ unsigned_abs q * unsigned_abs (s.to.x -ℤ s.from.x) * (12 * (side * side))) (sym (through_x side n q s p))
    (small_simpson side q (s.to.x -ℤ s.from.x) (onlys n.x s.cell.x p.x) (shadow side n.y s.from.y p.y) (shadow side n.y s.to.y p.y)
    (shadow side n.z s.from.z p.z) (shadow side n.z s.to.z p.z) (onlys_small n.x s.cell.x p.x two.x)
    (shadow_small side n.y s.from.y p.y two.y) (shadow_small side n.y s.to.y p.y two.y)
    (shadow_small side n.z s.from.z p.z two.z) (shadow_small side n.z s.to.z p.z two.z))
piece_images side n q s Y p two =
    subst (λ (z : ℤ). unsigned_abs z ≤ unsigned_abs q * unsigned_abs (s.to.y -ℤ s.from.y) * (12 * (side * side))) (sym (through_y side n q s p))
    (small_simpson side q (s.to.y -ℤ s.from.y) (onlys n.y s.cell.y p.y) (shadow side n.z s.from.z p.z) (shadow side n.z s.to.z p.z)
    (shadow side n.x s.from.x p.x) (shadow side n.x s.to.x p.x) (onlys_small n.y s.cell.y p.y two.y)
    (shadow_small side n.z s.from.z p.z two.z) (shadow_small side n.z s.to.z p.z two.z)
    (shadow_small side n.x s.from.x p.x two.x) (shadow_small side n.x s.to.x p.x two.x))
piece_images side n q s Z p two =
    subst (λ (z : ℤ). unsigned_abs z ≤ unsigned_abs q * unsigned_abs (s.to.z -ℤ s.from.z) * (12 * (side * side))) (sym (through_z side n q s p))
    (small_simpson side q (s.to.z -ℤ s.from.z) (onlys n.z s.cell.z p.z) (shadow side n.x s.from.x p.x) (shadow side n.x s.to.x p.x)
    (shadow side n.y s.from.y p.y) (shadow side n.y s.to.y p.y) (onlys_small n.z s.cell.z p.z two.z)
    (shadow_small side n.x s.from.x p.x two.x) (shadow_small side n.x s.to.x p.x two.x)
    (shadow_small side n.y s.from.y p.y two.y) (shadow_small side n.y s.to.y p.y two.y))

-- The flux of a piece has one sign at all edges along an axis: its size is the flux of a charge of the
-- same size.

charge_for : ℤ → ℤ → ℤ
charge_for q (pos n) = pos (unsigned_abs q)
charge_for q (negsuc n) = pos 0 -ℤ pos (unsigned_abs q)

charge_size : (q way : ℤ) → unsigned_abs (charge_for q way) ≡ unsigned_abs q
unfolding charge_for
charge_size q (pos n) = omega (arith, ints)
charge_size q (negsuc n) = omega (arith, ints)

two_less : (k l : ℕ) → pos (k * l) ≡ (pos 0 -ℤ pos k) *ℤ (pos 0 -ℤ pos l)
two_less k l = ring (pos k ∷ pos l ∷ []) (search reads depth 40 fits 9000) tt

less_than_none : (z : ℤ) → z <ℤ pos 0 → pos 0 -ℤ pos (unsigned_abs z) ≡ z
less_than_none z h = omega (arith, ints, h)

charge_way : (q way : ℤ) → pos (unsigned_abs (q *ℤ way)) ≡ charge_for q way *ℤ way
unfolding charge_for
charge_way q (pos n) = ap pos (unsigned_abs-mul q (pos n))
charge_way q (negsuc n) =
    let below : negsuc n <ℤ pos 0 = omega (arith, ints) in
    ap pos (unsigned_abs-mul q (negsuc n)) ∙ two_less (unsigned_abs q) (unsigned_abs (negsuc n))
    ∙ ap (λ (z : ℤ). (pos 0 -ℤ pos (unsigned_abs q)) *ℤ z) (less_than_none (negsuc n) below)

simpson_abs : (q way : ℤ) (a0 a1 b0 b1 : ℕ)
    → pos (unsigned_abs (simpson q way (pos a0) (pos a1) (pos b0) (pos b1))) ≡ simpson (charge_for q way) way (pos a0) (pos a1) (pos b0) (pos b1)
simpson_abs q way a0 a1 b0 b1 =
    let weights = 2 * (a0 * b0 + (a0 + a1) * (b0 + b1) + a1 * b1) in
    ap (λ (z : ℤ). pos (unsigned_abs z)) (flux_of_naturals q way a0 a1 b0 b1)
    ∙ ap pos (unsigned_abs-mul (q *ℤ way) (pos weights))
    ∙ ap (λ (z : ℤ). z *ℤ pos weights) (charge_way q way)
    ∙ sym (flux_of_naturals (charge_for q way) way a0 a1 b0 b1)

chosen_abs : (t : Bool) (x y : ℤ) → pos (unsigned_abs x) ≡ y → pos (unsigned_abs (if t then x else pos 0)) ≡ (if t then y else pos 0)
chosen_abs true x y h = h
chosen_abs false x y h = refl

piece_abs : (side : ℕ) (q : ℤ) (s : Piece) (a : Axis) (c : Spot)
    → pos (unsigned_abs (flux side q s a c)) ≡ flux side (charge_for q (along a s.to -ℤ along a s.from)) s a c
unfolding flux hat
piece_abs side q s a c =
    let second = next_axis a in
    let third = next_axis second in
    let weight = λ (axis : Axis) (p : Spot). side - unsigned_abs (along axis p -ℤ along axis c *ℤ pos side) in
    chosen_abs (same_int (along a c) (along a s.cell)) _ _
    (simpson_abs q (along a s.to -ℤ along a s.from) (weight second s.from) (weight second s.to) (weight third s.from) (weight third s.to))

-- The flux of a path.

images_under : (n : ℕ) (f g : ℤ → ℤ) (i : ℕ) → ((j : ℤ) → f j ≤ℤ g j) → sum_images n f i ≤ℤ sum_images n g i
unfolding sum_images
images_under n f g i under =
    let low = under (pos i -ℤ pos n) in
    let mid = under (pos i) in
    let high = under (pos i +ℤ pos n) in
    omega (arith, ints, low, mid, high)

-- what is smaller everywhere has smaller sums
pub wrapped_under : (n : Triple) (f g : Spot → ℤ) (p : Triple) → ((c : Spot) → f c ≤ℤ g c) → wrapped n f p ≤ℤ wrapped n g p
unfolding wrapped
wrapped_under n f g p under =
    let row_f = λ (y z : ℤ). sum_images n.x (λ x. f (record { x = x; y = y; z = z })) p.x in
    let row_g = λ (y z : ℤ). sum_images n.x (λ x. g (record { x = x; y = y; z = z })) p.x in
    images_under n.z (λ z. sum_images n.y (λ y. row_f y z) p.y) (λ z. sum_images n.y (λ y. row_g y z) p.y) p.z
    (λ z. images_under n.y (λ y. row_f y z) (λ y. row_g y z) p.y
    (λ y. images_under n.x (λ x. f (record { x = x; y = y; z = z })) (λ x. g (record { x = x; y = y; z = z })) p.x
    (λ x. under (record { x = x; y = y; z = z }))))

abs_plus : (x y : ℤ) → pos (unsigned_abs (x +ℤ y)) ≤ℤ (pos (unsigned_abs x) +ℤ pos (unsigned_abs y))
abs_plus x y = omega (arith, ints)

-- at all images of an edge together it is no larger than it can be at one
pub path_images : (side : ℕ) (n : Triple) (q : ℤ) (ss : List Piece) (a : Axis) (p : Triple) → HasTwo n
    → wrapped n (λ c. pos (unsigned_abs (path_flux side q ss a c))) p ≤ℤ pos (unsigned_abs q * ways a ss * (12 * (side * side)))
unfolding path_flux sum_over ways
path_images side n q [] a p two = let none = wrapped-zero n p in omega (arith, ints, none)
path_images side n q (s ∷ ss) a p two =
    let way = along a s.to -ℤ along a s.from in
    let first = λ (c : Spot). pos (unsigned_abs (flux side q s a c)) in
    let others = λ (c : Spot). pos (unsigned_abs (path_flux side q ss a c)) in
    let parts = wrapped_under n (λ c. pos (unsigned_abs (flux side q s a c +ℤ path_flux side q ss a c))) (λ c. first c +ℤ others c) p
    (λ c. abs_plus (flux side q s a c) (path_flux side q ss a c)) in
    let sum = wrapped-add n first others p in
    let here : wrapped n first p ≡ wrapped n (flux side (charge_for q way) s a) p = (λ t. wrapped n (λ c. piece_abs side q s a c t) p) in
    let size = piece_images side n (charge_for q way) s a p two in
    let charge : unsigned_abs (charge_for q way) * unsigned_abs way * (12 * (side * side)) ≡ unsigned_abs q * unsigned_abs way * (12 * (side * side)) =
    ap (λ (k : ℕ). k * unsigned_abs way * (12 * (side * side))) (charge_size q way) in
    let rest = path_images side n q ss a p two in
    let all : unsigned_abs q * (unsigned_abs way + ways a ss) * (12 * (side * side))
    ≡ unsigned_abs q * unsigned_abs way * (12 * (side * side)) + unsigned_abs q * ways a ss * (12 * (side * side)) = omega arith in
    omega (arith, ints, parts, sum, here, size, charge, rest, all)
