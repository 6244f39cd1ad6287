-- Reads of a block after a write, and blocks of one zone.
use Rattle.std.proofs.Common.{◌≡◌, ◌≢◌, ℕ, ℤ, pos, ◌*◌, ◌<◌, ◌+ℤ◌, ◌-ℤ◌, ◌≤ℤ◌, ◌<ℤ◌, length, unsigned_abs, ◌≤◌, ◌∙◌, subst, ap, arith}
use Rattle.std.proofs.lemmas.Int.{ints}
use Rattle.std.proofs.lemmas.List.{get_or-set_same, get_or-set_other}
use Rattle.pic_num.specs.declared.axis.Axis.{Axis}
use Rattle.pic_num.specs.Space.{Triple, Spot}
use Rattle.pic_block.specs.Cells.{IsWithin, count_of, place_of}
use Rattle.pic_block.specs.Block.{BlockValues, InZone, inner_of, edge_at, with_edge, IsShaped, AllAtMost}
use Rattle.pic_num.proofs.SizeLaws.{at_most_more}
use Rattle.pic_block.proofs.CellLaws.{place_of_below, place_of_same}

above_below : (low c : ℤ) (size : ℕ) → low ≤ℤ c → c <ℤ (low +ℤ pos size) → unsigned_abs (c -ℤ low) < size
above_below low c size h k = omega (arith, ints)

above_same : (low c d : ℤ) → low ≤ℤ c → low ≤ℤ d → unsigned_abs (c -ℤ low) ≡ unsigned_abs (d -ℤ low) → c ≡ d
above_same low c d h k e = omega (arith, ints)

-- a zone's cell lies among its layers
pub inner_within : (low : Spot) (size : Triple) (c : Spot) → InZone low size c → IsWithin (inner_of low c) size
inner_within low size c h = record {
  x = above_below low.x c.x size.x h.x_low h.x_high;
  y = above_below low.y c.y size.y h.y_low h.y_high;
  z = above_below low.z c.z size.z h.z_low h.z_high;
}

-- two cells of a zone that lie equally far from its lowest are one
pub inner_same : (low : Spot) (size : Triple) (c d : Spot) → InZone low size c → InZone low size d → inner_of low c ≡ inner_of low d → c ≡ d
inner_same low size c d h k e =
    let x : c.x ≡ d.x = above_same low.x c.x d.x h.x_low k.x_low (ap (λ (p : Triple). p.x) e) in
    let y : c.y ≡ d.y = above_same low.y c.y d.y h.y_low k.y_low (ap (λ (p : Triple). p.y) e) in
    let z : c.z ≡ d.z = above_same low.z c.z d.z h.z_low k.z_low (ap (λ (p : Triple). p.z) e) in
    λ i. record { x = x i; y = y i; z = z i }

-- equal numbers in a block have one axis and one cell
pub edge_same : (b : BlockValues) (a : Axis) (c : Spot) (f : Axis) (d : Spot) → InZone b.low b.size c → InZone b.low b.size d
    → place_of b.size a (inner_of b.low c) ≡ place_of b.size f (inner_of b.low d) → (a ≡ f) × (c ≡ d)
edge_same b a c f d h k e =
    let both = place_of_same b.size a (inner_of b.low c) f (inner_of b.low d) (inner_within b.low b.size c h) (inner_within b.low b.size d k) e in
    (both.0, inner_same b.low b.size c d h k both.1)

-- a value written is read back
pub edge_at-same : (b : BlockValues) (a : Axis) (c : Spot) (v : ℤ) → InZone b.low b.size c → length b.values ≡ 3 * count_of b.size
    → edge_at (with_edge b a c v) a c ≡ v
edge_at-same b a c v h size =
    let below : place_of b.size a (inner_of b.low c) < 3 * count_of b.size = place_of_below b.size a (inner_of b.low c) (inner_within b.low b.size c h) in
    get_or-set_same b.values (place_of b.size a (inner_of b.low c)) v (pos 0) (omega arith)

-- every other value stays
pub edge_at-other : (b : BlockValues) (a : Axis) (c : Spot) (v : ℤ) (f : Axis) (d : Spot)
    → place_of b.size f (inner_of b.low d) ≢ place_of b.size a (inner_of b.low c) → edge_at (with_edge b a c v) f d ≡ edge_at b f d
edge_at-other b a c v f d other =
    get_or-set_other b.values (place_of b.size a (inner_of b.low c)) (place_of b.size f (inner_of b.low d)) v (pos 0) other

-- blocks of one zone have the same cells,
pub in_zone_shaped : (b c : BlockValues) (p : Spot) → IsShaped b c → InZone b.low b.size p → InZone c.low c.size p
in_zone_shaped b c p shaped inside =
    subst (λ (n : Triple). InZone c.low n p) shaped.size (subst (λ (l : Spot). InZone l b.size p) shaped.low inside)

-- and so has a block of the second's zone
pub shaped_twice : (a b c : BlockValues) → IsShaped a b → IsShaped b c → IsShaped a c
shaped_twice a b c first second = record { low = first.low ∙ second.low; size = first.size ∙ second.size }

-- a bound of a block's values, made wider
pub all_at_most_more : (b : BlockValues) (m n : ℕ) → m ≤ n → AllAtMost m b → AllAtMost n b
all_at_most_more b m n more small = record { at_most = λ a c inside. at_most_more (edge_at b a c) m n more (small.at_most a c inside) }
