-- The weights of a point for the images of a node, on one axis: what they change by from one end of
-- a piece to the other, and what they are at the ends of a path.
use Rattle.std.proofs.Common.{◌≡◌, ℕ, ◌+◌, ◌-◌, ◌*◌, ◌%◌, ◌<◌, ◌≤◌, ◌⊎◌, ◌∙◌, [], ◌∷◌, ap, sym, inl, inr, arith}
use Rattle.std.proofs.Math.IntN.{ℤ, pos, negsuc, ◌+ℤ◌, ◌-ℤ◌, ◌*ℤ◌}
use Rattle.std.proofs.Math.Nat.{mul-le-mul_right, add-mod_right, mod-eq_of_lt}
use Rattle.std.proofs.lemmas.Bool.{cases_lt}
use Rattle.std.proofs.lemmas.Int.{ints, by_lt_z}
use Rattle.std.specs.Prelude.{◌<ℤ◌, ◌≤ℤ◌, ◌==◌, unsigned_abs, if◌then◌else◌}
use Rattle.pic_grid.proofs.PathLaws.{floor_low, floor_high}
use Rattle.pic_num.specs.Rounding.{IsResidue, residue}
use Rattle.pic_num.proofs.Ring.{ring, reads}
use Rattle.pic_num.proofs.RoundingLaws.{residue-unique}
use Rattle.pic_grid.specs.Current.{sum_images}
use Rattle.pic_grid.specs.Hat.{hat, periodic_hat}
use Rattle.pic_grid.specs.Path.{same_int, floor_of}
use Rattle.pic_grid.specs.Segment.{IsInside}
use Rattle.pic_grid.proofs.HatLaws.{times_one}
use Rattle.pic_grid.proofs.TwoHatLaws.{only, only_below, only_above, further_times, two_hats}

-- how often the images of the index i are c: once where i is c modulo the cells, else never
unfoldable pub onlys : ℕ → ℤ → ℕ → ℤ
onlys n c i = sum_images n (only c) i

-- the weights of a point for all images of a node
unfoldable pub shadow : ℕ → ℕ → ℤ → ℕ → ℤ
shadow s n p i = sum_images n (λ j. hat s p (j *ℤ pos s)) i

-- the cells of a path, which begins in the box: at most one out of it
pub record IsNear (n : ℕ) (c : ℤ) : Type 0 where
  pub low : negsuc 0 ≤ℤ c
  pub high : c ≤ℤ pos n

two_linear : (a b c d e f u v : ℤ) → a *ℤ u +ℤ b *ℤ v +ℤ (c *ℤ u +ℤ d *ℤ v) +ℤ (e *ℤ u +ℤ f *ℤ v) ≡ (a +ℤ c +ℤ e) *ℤ u +ℤ (b +ℤ d +ℤ f) *ℤ v
two_linear a b c d e f u v = ring (a ∷ b ∷ c ∷ d ∷ e ∷ f ∷ u ∷ v ∷ []) (search reads depth 40 fits 9000) tt

-- the weights for the images by how often they are the two nodes of the cell
pub shadow_is : (s n : ℕ) (c p : ℤ) (i : ℕ) → IsInside s c p
    → shadow s n p i ≡ onlys n c i *ℤ (c *ℤ pos s +ℤ pos s -ℤ p) +ℤ onlys n (c +ℤ pos 1) i *ℤ (p -ℤ c *ℤ pos s)
unfolding shadow onlys sum_images
shadow_is s n c p i h =
    let low : ℤ = pos i -ℤ pos n in
    let high : ℤ = pos i +ℤ pos n in
    (λ t. two_hats s c p low h t +ℤ two_hats s c p (pos i) h t +ℤ two_hats s c p high h t)
    ∙ two_linear (only c low) (only (c +ℤ pos 1) low) (only c (pos i)) (only (c +ℤ pos 1) (pos i)) (only c high) (only (c +ℤ pos 1) high)
    (c *ℤ pos s +ℤ pos s -ℤ p) (p -ℤ c *ℤ pos s)

-- an index is c + 1 where the index before it is c
only_moved : (c j k : ℤ) → j ≡ k +ℤ pos 1 → only c k ≡ only (c +ℤ pos 1) j
unfolding same_int
only_moved c j k is =
    let e : k -ℤ c ≡ j -ℤ (c +ℤ pos 1) = omega (arith, ints, is) in
    ap (λ (z : ℤ). if unsigned_abs z == 0 then pos 1 else pos 0) e

-- the images of the node below are at c as often as those of the node are at c + 1
pub onlys_down : (n : ℕ) (c : ℤ) (i : ℕ) → 2 ≤ n → i < n → IsNear n c → onlys n c ((i + (n - 1)) % n) ≡ onlys n (c +ℤ pos 1) i
unfolding onlys sum_images
onlys_down n c i two below near = go (cases_lt 0 i)
  where
    go : (0 < i) ⊎ (i ≤ 0) → onlys n c ((i + (n - 1)) % n) ≡ onlys n (c +ℤ pos 1) i
    go (inl some) =
        let e : i + (n - 1) ≡ (i - 1) + n = omega (arith, some, two) in
        let m : (i + (n - 1)) % n ≡ i - 1 = ap (λ k. k % n) e ∙ add-mod_right (i - 1) n ∙ mod-eq_of_lt (omega (arith, below)) in
        ap (λ k. sum_images n (only c) k) m
        ∙ (λ t. only_moved c (pos i -ℤ pos n) (pos (i - 1) -ℤ pos n) (omega (arith, ints, some)) t
        +ℤ only_moved c (pos i) (pos (i - 1)) (omega (arith, ints, some)) t
        +ℤ only_moved c (pos i +ℤ pos n) (pos (i - 1) +ℤ pos n) (omega (arith, ints, some)) t)
    go (inr none) =
        let e : i + (n - 1) ≡ n - 1 = omega (arith, none) in
        let m : (i + (n - 1)) % n ≡ n - 1 = ap (λ k. k % n) e ∙ mod-eq_of_lt (omega (arith, two)) in
        let mid = only_moved c (pos i) (pos (n - 1) -ℤ pos n) (omega (arith, ints, none, two)) in
        let high = only_moved c (pos i +ℤ pos n) (pos (n - 1)) (omega (arith, ints, none, two)) in
        let near_low = near.low in
        let near_high = near.high in
        let past = only_above c (pos (n - 1) +ℤ pos n) (omega (arith, ints, near_high, two)) in
        let before = only_below (c +ℤ pos 1) (pos i -ℤ pos n) (omega (arith, ints, near_low, none, two)) in
        ap (λ k. sum_images n (only c) k) m
        ∙ (λ t. mid t +ℤ high t +ℤ past t)
        ∙ turned (only (c +ℤ pos 1) (pos i)) (only (c +ℤ pos 1) (pos i +ℤ pos n))
        ∙ (λ t. sym before t +ℤ only (c +ℤ pos 1) (pos i) +ℤ only (c +ℤ pos 1) (pos i +ℤ pos n))
      where
        turned : (a b : ℤ) → a +ℤ b +ℤ pos 0 ≡ pos 0 +ℤ a +ℤ b
        turned a b = omega (arith, ints)

-- the weights at a piece's start less those at its end: the way through the edge that leaves the
-- node, less the way through the edge that comes to it
pub shadows_change : (s n : ℕ) (c p r : ℤ) (i : ℕ) → 2 ≤ n → i < n → IsNear n c → IsInside s c p → IsInside s c r
    → shadow s n p i -ℤ shadow s n r i ≡ onlys n c i *ℤ (r -ℤ p) -ℤ onlys n c ((i + (n - 1)) % n) *ℤ (r -ℤ p)
shadows_change s n c p r i two below near at_p at_r =
    let o : ℤ = onlys n c i in
    let u : ℤ = onlys n (c +ℤ pos 1) i in
    (λ t. shadow_is s n c p i at_p t -ℤ shadow_is s n c r i at_r t)
    ∙ change o u (c *ℤ pos s) (pos s) p r
    ∙ (λ t. o *ℤ (r -ℤ p) -ℤ sym (onlys_down n c i two below near) t *ℤ (r -ℤ p))
  where
    change : (o u a s p r : ℤ)
        → (o *ℤ (a +ℤ s -ℤ p) +ℤ u *ℤ (p -ℤ a)) -ℤ (o *ℤ (a +ℤ s -ℤ r) +ℤ u *ℤ (r -ℤ a)) ≡ o *ℤ (r -ℤ p) -ℤ u *ℤ (r -ℤ p)
    change o u a s p r = ring (o ∷ u ∷ a ∷ s ∷ p ∷ r ∷ []) (search reads depth 40 fits 9000) tt

-- an axis of at least two cells is at least two sides long
two_sides : (s n : ℕ) → 2 ≤ n → s + s ≤ n * s
two_sides s n two = let h = mul-le-mul_right s two in omega (arith, h)

-- The weights at the ends of a path are those of the wrapped position. Here a is the node's
-- coordinate, l the length of the axis, and p the point.

box_hats : (s l a r : ℕ) → s + s ≤ l → a + s ≤ l → r < l
    → hat s (pos r) (pos a -ℤ pos l) +ℤ hat s (pos r) (pos a) +ℤ hat s (pos r) (pos a +ℤ pos l) ≡ pos (periodic_hat s l r a)
unfolding hat periodic_hat
box_hats s l a r two inside within = omega (arith, ints, two, inside, within)

over_hats : (s l a r : ℕ) → s + s ≤ l → a + s ≤ l → r < s
    → hat s (pos l +ℤ pos r) (pos a -ℤ pos l) +ℤ hat s (pos l +ℤ pos r) (pos a) +ℤ hat s (pos l +ℤ pos r) (pos a +ℤ pos l) ≡ pos (periodic_hat s l r a)
unfolding hat periodic_hat
over_hats s l a r two inside within = omega (arith, ints, two, inside, within)

under_hats : (s l a r : ℕ) → s + s ≤ l → a + s ≤ l → r < l → l ≤ r + s
    → hat s (pos r -ℤ pos l) (pos a -ℤ pos l) +ℤ hat s (pos r -ℤ pos l) (pos a) +ℤ hat s (pos r -ℤ pos l) (pos a +ℤ pos l) ≡ pos (periodic_hat s l r a)
unfolding hat periodic_hat
under_hats s l a r two inside within near = omega (arith, ints, two, inside, within, near)

-- the weights for the images by the coordinates of the node and the axis
shadow_at : (s n : ℕ) (p : ℤ) (i : ℕ)
    → shadow s n p i ≡ hat s p (pos (i * s) -ℤ pos (n * s)) +ℤ hat s p (pos (i * s)) +ℤ hat s p (pos (i * s) +ℤ pos (n * s))
unfolding shadow sum_images
shadow_at s n p i =
    let low : (pos i -ℤ pos n) *ℤ pos s ≡ pos (i * s) -ℤ pos (n * s) = ring (pos i ∷ pos n ∷ pos s ∷ []) (search reads depth 40 fits 9000) tt in
    let high : (pos i +ℤ pos n) *ℤ pos s ≡ pos (i * s) +ℤ pos (n * s) = ring (pos i ∷ pos n ∷ pos s ∷ []) (search reads depth 40 fits 9000) tt in
    λ t. hat s p (low t) +ℤ hat s p (pos (i * s)) +ℤ hat s p (high t)

-- a point at most one cell out of the box, by whole lengths of the axis
turns_of : {P : Type 0} (s l : ℕ) (p : ℤ) → s + s ≤ l → (pos 0 -ℤ pos s) ≤ℤ p → p <ℤ (pos l +ℤ pos s)
    → ((r : ℕ) → r < l → p ≡ pos r → P)
    → ((r : ℕ) → r < s → p ≡ pos l +ℤ pos r → P)
    → ((r : ℕ) → r < l → l ≤ r + s → p ≡ pos r -ℤ pos l → P) → P
turns_of s l p two low high inside over under =
    by_lt_z p (pos 0)
    (λ k. under (unsigned_abs (p +ℤ pos l)) (omega (arith, ints, k, low, two)) (omega (arith, ints, k, low, two)) (omega (arith, ints, k, low, two)))
    (λ k. by_lt_z p (pos l)
    (λ m. inside (unsigned_abs p) (omega (arith, ints, k, m)) (omega (arith, ints, k, m)))
    (λ m. over (unsigned_abs (p -ℤ pos l)) (omega (arith, ints, m, high)) (omega (arith, ints, m, high))))

-- its weights for the images of a node are the weight of its wrapped position
pub shadow_wrapped : (s n : ℕ) (p : ℤ) (i : ℕ) → 0 < s → 2 ≤ n → i < n → (pos 0 -ℤ pos s) ≤ℤ p → p <ℤ (pos (n * s) +ℤ pos s)
    → shadow s n p i ≡ pos (periodic_hat s (n * s) (residue p (n * s)) (i * s))
shadow_wrapped s n p i some two below low high =
    let l : ℕ = n * s in
    let a : ℕ = i * s in
    let long : s + s ≤ l = two_sides s n two in
    let node : a + s ≤ l = times_one s i n (omega (arith, below)) in
    let above : 0 < l = omega (arith, long, some) in
    let all = λ (z : ℤ). hat s z (pos a -ℤ pos l) +ℤ hat s z (pos a) +ℤ hat s z (pos a +ℤ pos l) in
    let by_residue = λ (r : ℕ) (is : IsResidue p l r) (e : all p ≡ pos (periodic_hat s l r a)).
    e ∙ ap (λ (t : ℕ). pos (periodic_hat s l t a)) (residue-unique p l r above is) in
    shadow_at s n p i
    ∙ turns_of s l p long low high
    (λ r small is. by_residue r (record { below = small; turns = (pos 0, omega (arith, ints, is)) }) (ap all is ∙ box_hats s l a r long node small))
    (λ r small is. by_residue r (record { below = omega (arith, small, long); turns = (pos 1, omega (arith, ints, is)) })
    (ap all is ∙ over_hats s l a r long node small))
    (λ r small near is. by_residue r (record { below = small; turns = (negsuc 0, omega (arith, ints, is)) })
    (ap all is ∙ under_hats s l a r long node small near))

-- the weights of a position of the box for the images of a node are its weight
pub shadow_inside : (s n r i : ℕ) → 2 ≤ n → i < n → r < n * s → shadow s n (pos r) i ≡ pos (periodic_hat s (n * s) r (i * s))
shadow_inside s n r i two below small =
    let long : s + s ≤ n * s = two_sides s n two in
    let node : i * s + s ≤ n * s = times_one s i n (omega (arith, below)) in
    shadow_at s n (pos r) i ∙ box_hats s (n * s) (i * s) r long node small

-- a point at most one cell out of the box has its cell at most one out of the grid
pub floor_near : (s n : ℕ) (p : ℤ) → 0 < s → (pos 0 -ℤ pos s) ≤ℤ p → p <ℤ (pos (n * s) +ℤ pos s) → IsNear n (floor_of s p)
floor_near s n p some low high = record { low = not_under; high = not_over }
  where
    not_under : negsuc 0 ≤ℤ floor_of s p
    not_under =
        by_lt_z (floor_of s p) (negsuc 0)
        (λ k.
        let t = further_times s (floor_of s p) (negsuc 0) k in
        let h = floor_high s p some in absurd (omega (arith, ints, t, h, low)))
        (λ k. k)

    not_over : floor_of s p ≤ℤ pos n
    not_over =
        by_lt_z (pos n) (floor_of s p)
        (λ k.
        let t = further_times s (pos n) (floor_of s p) k in
        let h = floor_low s p some in absurd (omega (arith, ints, t, h, high)))
        (λ k. k)

-- a move from the box by at most the side of a cell ends at most one cell out of it
pub moved_low : (s r : ℕ) (d : ℤ) → unsigned_abs d ≤ s → (pos 0 -ℤ pos s) ≤ℤ (pos r +ℤ d)
moved_low s r d small = omega (arith, ints, small)

pub moved_high : (s l r : ℕ) (d : ℤ) → r < l → unsigned_abs d ≤ s → (pos r +ℤ d) <ℤ (pos l +ℤ pos s)
moved_high s l r d inside small = omega (arith, ints, inside, small)
