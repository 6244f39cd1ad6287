-- The tiles round a tile, by what lies beside it on each axis.
use Rattle.std.proofs.Common.{◌≡◌, ℕ, zero, suc, ◌+◌, ◌*◌, ◌/◌, ◌%◌, ◌<◌, ◌≤◌, List, [], ◌∷◌, get_or}
use Rattle.std.proofs.Common.{slice_set, length, refl, sym, ap, ◌∙◌, arith}
use Rattle.std.proofs.Math.Decide.{ℕ_discrete}
use Rattle.std.proofs.lemmas.List.{get_or-set_same, get_or-set_other, length-set}
use Rattle.pic_num.specs.Space.{Triple}
use Rattle.pic_block.specs.Cells.{index_of, cell_of, count_of}
use Rattle.pic_block.proofs.CellLaws.{index_of-cell_of, cell_of_within}
use Rattle.pic_grid.specs.Tiles.{most_tiles}
use Rattle.pic_tile.specs.Directions.{ring_step}
use Rattle.pic_tile.specs.Tiling.{neighbour_of}
use Rattle.pic_tile.proofs.AllTilesLaws.{neighbour_below}
use Rattle.pic_tile.proofs.RingLaws.{ring_stays}

-- three numbers, by their places
pub three : (f : ℕ → ℕ) (a b c : ℕ) → a ≡ f 0 → b ≡ f 1 → c ≡ f 2 → (e : ℕ) → e < 3 → get_or (a ∷ b ∷ c ∷ []) e 0 ≡ f e
three f a b c first second third zero among = first
three f a b c first second third (suc zero) among = second
three f a b c first second third (suc (suc zero)) among = third
three f a b c first second third (suc (suc (suc e))) among = absurd (omega (arith, among))

split : (u b c m : ℕ) → (u + b) * m + c ≡ u * m + b * m + c
split u b c m = grind arith

module _ (n : Triple) (t : ℕ) (below : t < count_of n) where
  abbrev p : Triple
  p = cell_of n t

  -- the neighbour by its steps
  value : (d x y z : ℕ) → d % 3 ≡ x → d / 3 % 3 ≡ y → d / 9 ≡ z
      → neighbour_of n t d ≡ (ring_step n.z z p.z * n.y + ring_step n.y y p.y) * n.x + ring_step n.x x p.x
  unfolding index_of
  value d x y z ex ey ez = λ i. (ring_step n.z (ez i) p.z * n.y + ring_step n.y (ey i) p.y) * n.x + ring_step n.x (ex i) p.x

  itself : t ≡ (p.z * n.y + p.y) * n.x + p.x
  unfolding index_of
  itself = sym (index_of-cell_of n t)

  on_x : (e : ℕ) → e < 3 → neighbour_of n t (12 + e) ≡ (p.z * n.y + p.y) * n.x + ring_step n.x e p.x
  on_x e among =
      let w = cell_of_within n t below in
      value (12 + e) e 1 1 (omega arith) (omega arith) (omega arith)
      ∙ (λ i. (ring_stays n.z 1 p.z refl w.z i * n.y + ring_stays n.y 1 p.y refl w.y i) * n.x + ring_step n.x e p.x)

  on_y : (e : ℕ) → e < 3 → neighbour_of n t (10 + e * 3) ≡ (p.z * n.y + ring_step n.y e p.y) * n.x + p.x
  on_y e among =
      let w = cell_of_within n t below in
      value (10 + e * 3) 1 e 1 (omega arith) (omega arith) (omega arith)
      ∙ (λ i. (ring_stays n.z 1 p.z refl w.z i * n.y + ring_step n.y e p.y) * n.x + ring_stays n.x 1 p.x refl w.x i)

  on_z : (e : ℕ) → e < 3 → neighbour_of n t (4 + e * 9) ≡ (ring_step n.z e p.z * n.y + p.y) * n.x + p.x
  on_z e among =
      let w = cell_of_within n t below in
      value (4 + e * 9) 1 1 e (omega arith) (omega arith) (omega arith)
      ∙ (λ i. (ring_step n.z e p.z * n.y + ring_stays n.y 1 p.y refl w.y i) * n.x + ring_stays n.x 1 p.x refl w.x i)

  on_yz : (k : ℕ) → k < 9 → neighbour_of n t (1 + k * 3) ≡ (ring_step n.z (k / 3) p.z * n.y + ring_step n.y (k % 3) p.y) * n.x + p.x
  on_yz k among =
      let w = cell_of_within n t below in
      value (1 + k * 3) 1 (k % 3) (k / 3) (omega arith) (omega arith) (omega arith)
      ∙ (λ i. (ring_step n.z (k / 3) p.z * n.y + ring_step n.y (k % 3) p.y) * n.x + ring_stays n.x 1 p.x refl w.x i)

  -- the middle of a row
  pub middle_is : (k y z : ℕ) → k < 9 → y ≡ neighbour_of n t (10 + k % 3 * 3) → z ≡ neighbour_of n t (4 + k / 3 * 9)
      → y + z ≡ neighbour_of n t (1 + k * 3) + t
  middle_is k y z among y_is z_is =
      let ey = ring_step n.y (k % 3) p.y in
      let ez = ring_step n.z (k / 3) p.z in
      let one : y ≡ p.z * n.y * n.x + ey * n.x + p.x = y_is ∙ on_y (k % 3) (omega arith) ∙ split (p.z * n.y) ey p.x n.x in
      let two : z ≡ ez * n.y * n.x + p.y * n.x + p.x = z_is ∙ on_z (k / 3) (omega (arith, among)) ∙ split (ez * n.y) p.y p.x n.x in
      let both : neighbour_of n t (1 + k * 3) ≡ ez * n.y * n.x + ey * n.x + p.x = on_yz k among ∙ split (ez * n.y) ey p.x n.x in
      let own : t ≡ p.z * n.y * n.x + p.y * n.x + p.x = itself ∙ split (p.z * n.y) p.y p.x n.x in
      omega (arith, one, two, both, own)

  -- a tile of a row is found of that beside the tile on x, and the middle of the row
  module _ (xs ms : List ℕ) (x_are : (e : ℕ) → e < 3 → get_or xs e 0 ≡ neighbour_of n t (12 + e * 1))
      (m_are : (k : ℕ) → k < 9 → get_or ms k 0 ≡ neighbour_of n t (1 + k * 3)) (k e : ℕ) (among : k < 9) (inside : e < 3)
    where
      pub in_row : get_or xs e 0 + get_or ms k 0 ≡ neighbour_of n t (k * 3 + e) + t
      in_row =
          let ey = ring_step n.y (k % 3) p.y in
          let ez = ring_step n.z (k / 3) p.z in
          let same : 12 + e * 1 ≡ 12 + e = omega arith in
          let one : get_or xs e 0 ≡ (p.z * n.y + p.y) * n.x + ring_step n.x e p.x = x_are e inside ∙ ap (neighbour_of n t) same ∙ on_x e inside in
          let two : get_or ms k 0 ≡ (ez * n.y + ey) * n.x + p.x = m_are k among ∙ on_yz k among in
          let both : neighbour_of n t (k * 3 + e) ≡ (ez * n.y + ey) * n.x + ring_step n.x e p.x =
          value (k * 3 + e) e (k % 3) (k / 3) (omega (arith, inside)) (omega (arith, inside)) (omega (arith, inside)) in
          let own = itself in
          omega (arith, one, two, both, own)

      -- the sum fits, and the tile can be taken from it
      pub row_fits : (count : ℕ) → count ≡ count_of n → count ≤ most_tiles → (get_or xs e 0 + get_or ms k 0 < 1024) × (t ≤ get_or xs e 0 + get_or ms k 0)
      row_fits count is few =
          let sum = in_row in
          let less = neighbour_below n t (k * 3 + e) below in
          (omega (arith, sum, less, is, few, below), omega (arith, sum))

-- numbers found one after another
pub found_more : (f : ℕ → ℕ) (xs : List ℕ) (i v : ℕ) → i < length xs → ((d : ℕ) → d < i → get_or xs d 0 ≡ f d) → v ≡ f i
    → (d : ℕ) → d < i + 1 → get_or (slice_set xs i v) d 0 ≡ f d
found_more f xs i v inside done is d below = elim (ℕ_discrete d i) [
  | yes same ↦ ap (λ (j : ℕ). get_or (slice_set xs i v) j 0) same ∙ get_or-set_same {A = ℕ} xs i v 0 inside ∙ is ∙ sym (ap f same)
  | no apart ↦ get_or-set_other {A = ℕ} xs i d v 0 apart ∙ done d (omega (arith, below, apart))
]

-- and three more
pub found_three : (f : ℕ → ℕ) (xs : List ℕ) (k a b c : ℕ) → k * 3 + 2 < length xs → ((d : ℕ) → d < k * 3 → get_or xs d 0 ≡ f d)
    → a ≡ f (k * 3) → b ≡ f (k * 3 + 1) → c ≡ f (k * 3 + 2)
    → (d : ℕ) → d < (k + 1) * 3 → get_or (slice_set (slice_set (slice_set xs (k * 3) a) (k * 3 + 1) b) (k * 3 + 2) c) d 0 ≡ f d
found_three f xs k a b c inside done a_is b_is c_is d below =
    let one = slice_set xs (k * 3) a in
    let two = slice_set one (k * 3 + 1) b in
    let one_long : length one ≡ length xs = length-set {A = ℕ} xs (k * 3) a in
    let two_long : length two ≡ length one = length-set {A = ℕ} one (k * 3 + 1) b in
    found_more f two (k * 3 + 2) c (omega (arith, inside, one_long, two_long))
    (λ e less. found_more f one (k * 3 + 1) b (omega (arith, inside, one_long))
    (λ g lower. found_more f xs (k * 3) a (omega (arith, inside)) done a_is g lower) b_is e (omega (arith, less))) c_is d (omega (arith, below))
