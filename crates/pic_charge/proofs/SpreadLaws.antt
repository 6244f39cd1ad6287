-- What the layers of the sharing of a charge add.
use Rattle.std.proofs.Common.{◌≡◌, ℕ, ◌+◌, ◌*◌, ◌^◌, ◌≤◌, cond, eqb, true, false, [], ◌∷◌, sym, ◌∙◌, ap, subst, unsigned_abs, arith}
use Rattle.std.proofs.Math.IntN.{ℤ, pos, ◌+ℤ◌, ◌*ℤ◌}
use Rattle.std.proofs.lemmas.Int.{ints, to_z-of_z, unsigned_abs-mul, fits_signed_from_abs}
use mir.Syntax.{w64}
use mir.Val.{to_z, of_z}
use Rattle.pic_num.proofs.Ring.{ring, reads}
use Rattle.pic_num.proofs.SizeLaws.{times_at_most}
use Rattle.pic_num.specs.Limits.{most_side}
use Rattle.pic_num.specs.Sizes.{IsAtMost}
use Rattle.pic_num.specs.Space.{Triple}
use Rattle.pic_block.specs.Cells.{IsWithin}
use Rattle.pic_grid.specs.Lattice.{NodeValues, node_at}
use Rattle.pic_grid.specs.declared.pair.Pair.{Pair}
use Rattle.pic_grid.specs.Hat.{only_at}
use Rattle.pic_grid.specs.Pair.{weight_in}
use Rattle.pic_charge.specs.Spread.{spread, CanSpread, NodesAtMost, Adds}

-- a lone value is a multiple of a lone 1
only_is : (i v j : ℕ) → only_at i v j ≡ v * only_at i 1 j
only_is i v j = elim (eqb j i) as (λ t. cond t v 0 ≡ v * cond t 1 0) [ true ↦ omega arith | false ↦ omega arith ]

pub only_most : (i v j : ℕ) → only_at i v j ≤ v
only_most i v j = elim (eqb j i) as (λ t. cond t v 0 ≤ v) [ true ↦ omega arith | false ↦ omega arith ]

pub weight_in_most : (n : ℕ) (s : Pair) (j : ℕ) → CanSpread n s → weight_in s j ≤ most_side
weight_in_most n s j pair =
    let low = only_most s.low s.low_weight j in
    let high = only_most s.high s.high_weight j in
    let most = pair.most in omega (arith, low, high, most)

weight_in_is : (s : Pair) (j : ℕ) → s.low_weight * only_at s.low 1 j + s.high_weight * only_at s.high 1 j ≡ weight_in s j
weight_in_is s j = λ i. sym (only_is s.low s.low_weight j) i + sym (only_is s.high s.high_weight j) i

two_x : (a : ℤ) (v w i j g h : ℕ) → (a *ℤ pos v) *ℤ pos (i * g * h) +ℤ (a *ℤ pos w) *ℤ pos (j * g * h) ≡ a *ℤ pos ((v * i + w * j) * g * h)
two_x a v w i j g h = ring (a ∷ pos v ∷ pos w ∷ pos i ∷ pos j ∷ pos g ∷ pos h ∷ []) (search reads depth 40 fits 9000) tt

two_y : (a : ℤ) (v w i j f h : ℕ) → (a *ℤ pos v) *ℤ pos (f * i * h) +ℤ (a *ℤ pos w) *ℤ pos (f * j * h) ≡ a *ℤ pos (f * (v * i + w * j) * h)
two_y a v w i j f h = ring (a ∷ pos v ∷ pos w ∷ pos i ∷ pos j ∷ pos f ∷ pos h ∷ []) (search reads depth 40 fits 9000) tt

two_z : (a : ℤ) (v w i j f g : ℕ) → (a *ℤ pos v) *ℤ pos (f * g * i) +ℤ (a *ℤ pos w) *ℤ pos (f * g * j) ≡ a *ℤ pos (f * g * (v * i + w * j))
two_z a v w i j f g = ring (a ∷ pos v ∷ pos w ∷ pos i ∷ pos j ∷ pos f ∷ pos g ∷ []) (search reads depth 40 fits 9000) tt

-- two nodes make a line
pub line_sum : (a : ℤ) (s : Pair) (g h : ℕ → ℕ) (p : Triple)
    → spread (a *ℤ pos s.low_weight) (only_at s.low 1) g h p +ℤ spread (a *ℤ pos s.high_weight) (only_at s.high 1) g h p ≡ spread a (weight_in s) g h p
unfolding spread
line_sum a s g h p =
    two_x a s.low_weight s.high_weight (only_at s.low 1 p.x) (only_at s.high 1 p.x) (g p.y) (h p.z)
    ∙ ap (λ (t : ℕ). a *ℤ pos (t * g p.y * h p.z)) (weight_in_is s p.x)

-- two lines make a plane
pub plane_sum : (a : ℤ) (s : Pair) (f h : ℕ → ℕ) (p : Triple)
    → spread (a *ℤ pos s.low_weight) f (only_at s.low 1) h p +ℤ spread (a *ℤ pos s.high_weight) f (only_at s.high 1) h p ≡ spread a f (weight_in s) h p
unfolding spread
plane_sum a s f h p =
    two_y a s.low_weight s.high_weight (only_at s.low 1 p.y) (only_at s.high 1 p.y) (f p.x) (h p.z)
    ∙ ap (λ (t : ℕ). a *ℤ pos (f p.x * t * h p.z)) (weight_in_is s p.y)

-- two planes make a box
pub box_sum : (a : ℤ) (s : Pair) (f g : ℕ → ℕ) (p : Triple)
    → spread (a *ℤ pos s.low_weight) f g (only_at s.low 1) p +ℤ spread (a *ℤ pos s.high_weight) f g (only_at s.high 1) p ≡ spread a f g (weight_in s) p
unfolding spread
box_sum a s f g p =
    two_z a s.low_weight s.high_weight (only_at s.low 1 p.z) (only_at s.high 1 p.z) (f p.x) (g p.y)
    ∙ ap (λ (t : ℕ). a *ℤ pos (f p.x * g p.y * t)) (weight_in_is s p.z)

-- how much is added at most to a node
pub spread_size : (a : ℤ) (f g h : ℕ → ℕ) (p : Triple) (m u v w : ℕ) → IsAtMost a m → f p.x ≤ u → g p.y ≤ v → h p.z ≤ w
    → unsigned_abs (spread a f g h p) ≤ m * (u * v * w)
unfolding spread
spread_size a f g h p m u v w size x y z =
    rw (unsigned_abs-mul a (pos (f p.x * g p.y * h p.z)))
    (times_at_most (unsigned_abs a) (f p.x * g p.y * h p.z) m (u * v * w) size.size
    (times_at_most (f p.x * g p.y) (h p.z) (u * v) w (times_at_most (f p.x) (g p.y) u v x y) z))

-- two additions in a row
pub adds_both : (a b c : NodeValues) (f g h : Triple → ℤ) → Adds a b f → Adds b c g → ((p : Triple) → f p +ℤ g p ≡ h p) → Adds a c h
adds_both a b c f g h first second sum = record {
  cells = second.cells ∙ first.cells;
  values = λ p within.
      let inside : IsWithin p b.cells = subst (λ (n : Triple). IsWithin p n) (sym first.cells) within in
      let one = first.values p within in
      let two = second.values p inside in
      let both = sum p in omega (arith, ints, one, two, both);
}

-- the same addition, said otherwise
pub adds_same : (a b : NodeValues) (f g : Triple → ℤ) → Adds a b f → ((p : Triple) → IsWithin p a.cells → f p ≡ g p) → Adds a b g
adds_same a b f g first same = record {
  cells = first.cells;
  values = λ p within. first.values p within ∙ ap (λ (t : ℤ). node_at a p +ℤ t) (same p within);
}

-- the room after an addition
pub room_after : (a b : NodeValues) (f : Triple → ℤ) (m k big : ℕ) → NodesAtMost a m → Adds a b f → ((p : Triple) → unsigned_abs (f p) ≤ k) → m + k ≤ big
    → NodesAtMost b big
room_after a b f m k big small first added room = record {
  at_node = λ p within.
      let inside : IsWithin p a.cells = subst (λ (n : Triple). IsWithin p n) first.cells within in
      let old = (small.at_node p inside).size in
      let is = first.values p inside in
      let new = added p in record { size = omega (arith, ints, old, is, new, room) };
}

-- nodes that are small are at most anything larger
pub still_at_most : (nodes : NodeValues) (m k : ℕ) → NodesAtMost nodes m → m ≤ k → NodesAtMost nodes k
still_at_most nodes m k small more = record {
  at_node = λ p within. let size = (small.at_node p within).size in record { size = omega (arith, size, more) };
}

-- what the code passes on of a number that is small
pub kept_is : (r : ℤ) → IsAtMost r (2 ^ 61) → to_z w64 (of_z w64 r) ≡ r
kept_is r small = let size = small.size in to_z-of_z w64 r (fits_signed_from_abs w64 r (omega (arith, size)))

-- a part of an amount, as the code passes it on
pub record IsShare (amount r : ℤ) (weight most : ℕ) : Type 0 where
  pub is : to_z w64 (of_z w64 r) ≡ amount *ℤ pos weight
  pub size : IsAtMost (to_z w64 (of_z w64 r)) (most * most_side)

share_of : (amount r : ℤ) (weight most : ℕ) → weight ≤ most_side → IsAtMost amount most → most ≤ 2 ^ 47
    → r ≡ to_z w64 (of_z w64 amount) *ℤ pos weight → IsShare amount r weight most
share_of amount r weight most light small low is =
    let size = small.size in
    let plain : r ≡ amount *ℤ pos weight
    = is ∙ ap (λ (t : ℤ). t *ℤ pos weight) (kept_is amount (record { size = omega (arith, size, low) })) in
    let product : unsigned_abs (amount *ℤ pos weight) ≤ most * most_side
    = rw (unsigned_abs-mul amount (pos weight)) (times_at_most (unsigned_abs amount) weight most most_side size light) in
    let sized : unsigned_abs r ≤ most * most_side = subst (λ (z : ℤ). unsigned_abs z ≤ most * most_side) (sym plain) product in
    let kept : to_z w64 (of_z w64 r) ≡ r = kept_is r (record { size = omega (arith, sized, low) }) in
    record { is = kept ∙ plain; size = subst (λ (z : ℤ). IsAtMost z (most * most_side)) (sym kept) (record { size = sized }) }

pub low_share : (n most : ℕ) (amount r : ℤ) (s : Pair) → CanSpread n s → IsAtMost amount most → most ≤ 2 ^ 47
    → r ≡ to_z w64 (of_z w64 amount) *ℤ pos s.low_weight → IsShare amount r s.low_weight most
low_share n most amount r s pair = let least = pair.most in share_of amount r s.low_weight most (omega (arith, least))

pub high_share : (n most : ℕ) (amount r : ℤ) (s : Pair) → CanSpread n s → IsAtMost amount most → most ≤ 2 ^ 47
    → r ≡ to_z w64 (of_z w64 amount) *ℤ pos s.high_weight → IsShare amount r s.high_weight most
high_share n most amount r s pair = let least = pair.most in share_of amount r s.high_weight most (omega (arith, least))

-- two parts that are added one after the other, on each axis
module _ (a b c : NodeValues) (amount r t : ℤ) (s : Pair) (most : ℕ) (low : IsShare amount r s.low_weight most) (high : IsShare amount t s.high_weight most)
  where
    abbrev first : ℤ
    first = to_z w64 (of_z w64 r)

    abbrev second : ℤ
    second = to_z w64 (of_z w64 t)

    pub line_added : (g h : ℕ → ℕ) → Adds a b (spread first (only_at s.low 1) g h) → Adds b c (spread second (only_at s.high 1) g h)
        → Adds a c (spread amount (weight_in s) g h)
    line_added g h one two =
        adds_both a b c _ _ (spread amount (weight_in s) g h) one two
        (λ p. (λ i. spread (low.is i) (only_at s.low 1) g h p +ℤ spread (high.is i) (only_at s.high 1) g h p) ∙ line_sum amount s g h p)

    pub plane_added : (f h : ℕ → ℕ) → Adds a b (spread first f (only_at s.low 1) h) → Adds b c (spread second f (only_at s.high 1) h)
        → Adds a c (spread amount f (weight_in s) h)
    plane_added f h one two =
        adds_both a b c _ _ (spread amount f (weight_in s) h) one two
        (λ p. (λ i. spread (low.is i) f (only_at s.low 1) h p +ℤ spread (high.is i) f (only_at s.high 1) h p) ∙ plane_sum amount s f h p)

    pub box_added : (f g : ℕ → ℕ) → Adds a b (spread first f g (only_at s.low 1)) → Adds b c (spread second f g (only_at s.high 1))
        → Adds a c (spread amount f g (weight_in s))
    box_added f g one two =
        adds_both a b c _ _ (spread amount f g (weight_in s)) one two
        (λ p. (λ i. spread (low.is i) f g (only_at s.low 1) p +ℤ spread (high.is i) f g (only_at s.high 1) p) ∙ box_sum amount s f g p)
