-- A value at one edge: what it is, and what a write of it does to a block.
use Rattle.std.proofs.Common.{◌≡◌, ◌≢◌, ℕ, ◌⊎◌, ◌+◌, ◌*◌, ◌≤◌, length, Bool, true, false, ◌&&◌, unsigned_abs, inl, inr, refl, ap, sym, subst, ◌∙◌, arith}
use Rattle.std.proofs.Math.IntN.{ℤ, pos, ◌+ℤ◌, ◌*ℤ◌}
use Rattle.std.specs.Prelude.{if◌then◌else◌, ◌≤ℤ◌, ◌<ℤ◌, ◌↔◌, IsTrue}
use Rattle.std.proofs.lemmas.Bool.{cases_Bool, and_parts, and_from, both_ways, false≢true}
use Rattle.std.proofs.lemmas.Int.{ints}
use Rattle.pic_num.specs.declared.axis.Axis.{Axis}
use Rattle.pic_num.specs.declared.axis.Axis.TheVariants.{X, Y, Z}
use Rattle.pic_num.specs.Sizes.{IsAtMost}
use Rattle.pic_num.specs.Space.{Triple, Spot, next_axis}
use Rattle.pic_num.proofs.ProductLaws.{plus_none}
use Rattle.pic_block.specs.Cells.{count_of, place_of}
use Rattle.pic_block.specs.Fours.{AreFound, added_in, added_where, four_added}
use Rattle.pic_block.specs.Rows.{lifted}
use Rattle.pic_block.specs.declared.fours.Four.{Four}
use Rattle.pic_block.specs.declared.fours.Found.{Found}
use Rattle.pic_block.proofs.FourLaws.{length-added_in}
use Rattle.pic_block.specs.Block.{BlockValues, InZone, inner_of, edge_at, with_edge}
use Rattle.pic_block.proofs.BlockLaws.{edge_same, edge_at-same, edge_at-other}
use Rattle.pic_grid.specs.Path.{same_int}
use Rattle.pic_flux.proofs.AddsLaws.{adds_twice}
use Rattle.pic_flux.specs.Adds.{Adds}
use Rattle.pic_flux.specs.CellFlux.{at_four, all_four}
use Rattle.pic_flux.specs.Corners.{HasEdges, same_axis, same_spot, at_edge, at_corners, both}
use Rattle.pic_grid.proofs.PathLaws.{same_int-same, same_int-true}

same_axis-true : (a b : Axis) → same_axis a b ≡ true → a ≡ b
same_axis-true X X e = refl
same_axis-true Y Y e = refl
same_axis-true Z Z e = refl
same_axis-true X Y e = cc
same_axis-true X Z e = cc
same_axis-true Y X e = cc
same_axis-true Y Z e = cc
same_axis-true Z X e = cc
same_axis-true Z Y e = cc

same_axis-same : (a : Axis) → same_axis a a ≡ true
same_axis-same X = refl
same_axis-same Y = refl
same_axis-same Z = refl

same_spot-true : (p q : Spot) → same_spot p q ≡ true → p ≡ q
same_spot-true p q e =
    let outer = and_parts (same_int p.x q.x) (same_int p.y q.y && same_int p.z q.z) e in
    let inner = and_parts (same_int p.y q.y) (same_int p.z q.z) outer.1 in
    let x = same_int-true p.x q.x outer.0 in
    let y = same_int-true p.y q.y inner.0 in
    let z = same_int-true p.z q.z inner.1 in
    λ i. record { x = x i; y = y i; z = z i }

same_spot-same : (p : Spot) → same_spot p p ≡ true
same_spot-same p =
    and_from (same_int p.x p.x) (same_int p.y p.y && same_int p.z p.z) (same_int-same p.x p.x refl)
    (and_from (same_int p.y p.y) (same_int p.z p.z) (same_int-same p.y p.y refl) (same_int-same p.z p.z refl))

-- whether an edge is the one
abbrev is_there : Axis → Spot → Axis → Spot → Bool
is_there axis there a c = same_axis axis a && same_spot c there

is_there-true : (axis : Axis) (there : Spot) (a : Axis) (c : Spot) → is_there axis there a c ≡ true → (axis ≡ a) × (c ≡ there)
is_there-true axis there a c e =
    let parts = and_parts (same_axis axis a) (same_spot c there) e in
    (same_axis-true axis a parts.0, same_spot-true c there parts.1)

is_there-same : (axis : Axis) (there : Spot) → is_there axis there axis there ≡ true
is_there-same axis there =
    and_from (same_axis axis axis) (same_spot there there) (same_axis-same axis) (same_spot-same there)

at_edge-there : (axis : Axis) (there : Spot) (v : ℤ) (a : Axis) (c : Spot) → is_there axis there a c ≡ true → at_edge axis there v a c ≡ v
unfolding at_edge
at_edge-there axis there v a c e = ap (λ (b : Bool). if b then v else pos 0) e

at_edge-elsewhere : (axis : Axis) (there : Spot) (v : ℤ) (a : Axis) (c : Spot) → is_there axis there a c ≡ false → at_edge axis there v a c ≡ pos 0
unfolding at_edge
at_edge-elsewhere axis there v a c e = ap (λ (b : Bool). if b then v else pos 0) e

-- it is nowhere larger than the value
at_edge-size : (axis : Axis) (there : Spot) (v : ℤ) (a : Axis) (c : Spot) → unsigned_abs (at_edge axis there v a c) ≤ unsigned_abs v
at_edge-size axis there v a c = elim (cases_Bool (is_there axis there a c)) [
  | inl e ↦ (let h = ap unsigned_abs (at_edge-there axis there v a c e) in omega (arith, h))
  | inr e ↦ (let h = ap unsigned_abs (at_edge-elsewhere axis there v a c e) in omega (arith, h))
]

pub at_edge_most : (axis : Axis) (there : Spot) (v : ℤ) (n : ℕ) → IsAtMost v n → (a : Axis) (c : Spot) → unsigned_abs (at_edge axis there v a c) ≤ n
at_edge_most axis there v n h a c =
    let k = at_edge-size axis there v a c in
    let m = h.size in omega (arith, k, m)

pair_size : (x y : ℤ) (n m : ℕ) → unsigned_abs x ≤ n → unsigned_abs y ≤ m → unsigned_abs (x +ℤ y) ≤ n + m
pair_size x y n m h k = omega (arith, ints)

-- nor are two of them larger than both values
pub pair_most : (axis : Axis) (p : Spot) (v : ℤ) (r : Spot) (w : ℤ) (n m : ℕ) → IsAtMost v n → IsAtMost w m
    → (a : Axis) (c : Spot) → unsigned_abs (both (at_edge axis p v) (at_edge axis r w) a c) ≤ n + m
unfolding both
pair_most axis p v r w n m h k a c =
    pair_size (at_edge axis p v a c) (at_edge axis r w a c) n m (at_edge_most axis p v n h a c) (at_edge_most axis r w m k a c)

-- nor four of them
pub corners_most : (axis : Axis) (p : Spot) (v w x y : ℤ) (n : ℕ) → IsAtMost v n → IsAtMost w n → IsAtMost x n → IsAtMost y n
    → (a : Axis) (c : Spot) → unsigned_abs (at_corners axis p v w x y a c) ≤ (n + n) + (n + n)
unfolding both
corners_most axis p v w x y n h k l m a c =
    let second = next_axis axis in
    let high = lifted (next_axis second) p in
    pair_size (both (at_edge axis p v) (at_edge axis (lifted second p) w) a c)
    (both (at_edge axis high x) (at_edge axis (lifted second high) y) a c) (n + n) (n + n)
    (pair_most axis p v (lifted second p) w n n h k a c) (pair_most axis high x (lifted second high) y n n l m a c)

-- a write of the old value plus v adds v at that edge
pub added_at : (old now : BlockValues) (axis : Axis) (there : Spot) (v w : ℤ) → InZone old.low old.size there
    → now ≡ with_edge old axis there w
    → edge_at now axis there ≡ edge_at old axis there +ℤ v
    → Adds old now (at_edge axis there v)
added_at old now axis there v w inside after stored = record { at = λ a c z. go a c z (cases_Bool (is_there axis there a c)) }
  where
    go : (a : Axis) (c : Spot) → InZone old.low old.size c → (is_there axis there a c ≡ true) ⊎ (is_there axis there a c ≡ false)
        → edge_at now a c ≡ edge_at old a c +ℤ at_edge axis there v a c
    go a c z (inl e) =
        let same = is_there-true axis there a c e in
        let moved : edge_at now a there ≡ edge_at old a there +ℤ v =
        subst (λ (b : Axis). edge_at now b there ≡ edge_at old b there +ℤ v) same.0 stored
        in
        let here : edge_at now a c ≡ edge_at old a c +ℤ v =
        subst (λ (d : Spot). edge_at now a d ≡ edge_at old a d +ℤ v) (sym same.1) moved
        in here ∙ ap (λ (t : ℤ). edge_at old a c +ℤ t) (sym (at_edge-there axis there v a c e))
    go a c z (inr e) =
        let other : place_of old.size a (inner_of old.low c) ≢ place_of old.size axis (inner_of old.low there) =
        λ f. let same = edge_same old a c axis there z inside f in
        let t : is_there axis there axis there ≡ true = is_there-same axis there in
        let u : is_there axis there a there ≡ true = subst (λ (b : Axis). is_there axis there b there ≡ true) (sym same.0) t in
        both_ways (is_there axis there a c) e (subst (λ (d : Spot). is_there axis there a d ≡ true) (sym same.1) u)
        in
        ap (λ (b : BlockValues). edge_at b a c) after
        ∙ edge_at-other old axis there w a c other
        ∙ plus_none (edge_at old a c) (at_edge axis there v a c) (at_edge-elsewhere axis there v a c e)

-- a block that doesn't have the edge has nothing to add
pub missed : (b : BlockValues) (axis : Axis) (there : Spot) (v : ℤ) → (InZone b.low b.size there → ⊥) → Adds b b (at_edge axis there v)
missed b axis there v outside = record { at = λ a c z. go a c z (cases_Bool (is_there axis there a c)) }
  where
    go : (a : Axis) (c : Spot) → InZone b.low b.size c → (is_there axis there a c ≡ true) ⊎ (is_there axis there a c ≡ false)
        → edge_at b a c ≡ edge_at b a c +ℤ at_edge axis there v a c
    go a c z (inl e) =
        let same = is_there-true axis there a c e in
        absurd (outside (subst (λ (d : Spot). InZone b.low b.size d) same.1 z))
    go a c z (inr e) =
        plus_none (edge_at b a c) (at_edge axis there v a c) (at_edge-elsewhere axis there v a c e)

-- a value added where a test holds, which tells whether the zone has the edge
added_true : (b : BlockValues) (a : Axis) (c : Spot) (v : ℤ) → added_where true b a c v ≡ with_edge b a c (edge_at b a c +ℤ v)
unfolding added_in
added_true b a c v = refl

added_false : (b : BlockValues) (a : Axis) (c : Spot) (v : ℤ) → added_where false b a c v ≡ b
unfolding added_in
added_false b a c v = refl

where_adds : (found : Bool) (b : BlockValues) (a : Axis) (c : Spot) (v : ℤ) → length b.values ≡ 3 * count_of b.size → IsTrue found ↔ InZone b.low b.size c
    → Adds b (added_where found b a c v) (at_edge a c v)
where_adds true b a c v long has =
    let inside = has.0 refl in
    let stored = edge_at-same b a c (edge_at b a c +ℤ v) inside long in
    added_at b (added_where true b a c v) a c v (edge_at b a c +ℤ v) inside (added_true b a c v)
    (ap (λ (d : BlockValues). edge_at d a c) (added_true b a c v) ∙ stored)
where_adds false b a c v long has =
    subst (λ (d : BlockValues). Adds b d (at_edge a c v)) (sym (added_false b a c v)) (missed b a c v (λ z. false≢true (has.1 z)))

-- what is carried times a weight added to each of the four edges along an axis round a cell, of those
-- that are found
pub four_adds : (b : BlockValues) (a : Axis) (c : Spot) (found : Found) (f : Four) → length b.values ≡ 3 * count_of b.size
    → AreFound b.low b.size a c found → Adds b (four_added b a c found f) (at_four a c f)
four_adds b a c found f long has =
    let second = next_axis a in
    let third = next_axis second in
    let up = lifted second c in
    let high = lifted third c in
    let far = lifted second high in
    let one = added_where found.low_low b a c (f.by *ℤ f.low_low) in
    let two = added_where found.high_low one a up (f.by *ℤ f.high_low) in
    let three = added_where found.low_high two a high (f.by *ℤ f.low_high) in
    let four = added_where found.high_high three a far (f.by *ℤ f.high_high) in
    let one_long = length-added_in found.low_low b.values (place_of b.size a (inner_of b.low c)) (f.by *ℤ f.low_low) ∙ long in
    let two_long = length-added_in found.high_low one.values (place_of b.size a (inner_of b.low up)) (f.by *ℤ f.high_low) ∙ one_long in
    let three_long = length-added_in found.low_high two.values (place_of b.size a (inner_of b.low high)) (f.by *ℤ f.low_high) ∙ two_long in
    adds_twice b two four (both (at_edge a c (f.by *ℤ f.low_low)) (at_edge a up (f.by *ℤ f.high_low)))
    (both (at_edge a high (f.by *ℤ f.low_high)) (at_edge a far (f.by *ℤ f.high_high))) (record { low = refl; size = refl })
    (adds_twice b one two (at_edge a c (f.by *ℤ f.low_low)) (at_edge a up (f.by *ℤ f.high_low)) (record { low = refl; size = refl })
    (where_adds found.low_low b a c (f.by *ℤ f.low_low) long has.low_low)
    (where_adds found.high_low one a up (f.by *ℤ f.high_low) one_long has.high_low))
    (adds_twice two three four (at_edge a high (f.by *ℤ f.low_high)) (at_edge a far (f.by *ℤ f.high_high)) (record { low = refl; size = refl })
    (where_adds found.low_high two a high (f.by *ℤ f.low_high) two_long has.low_high)
    (where_adds found.high_high three a far (f.by *ℤ f.high_high) three_long has.high_high))

-- two layers are among n from low on
record HasTwo (low : ℤ) (n : ℕ) (c : ℤ) : Type 0 where
  near_low : low ≤ℤ c
  near_high : c <ℤ (low +ℤ pos n)
  far_low : low ≤ℤ (c +ℤ pos 1)
  far_high : (c +ℤ pos 1) <ℤ (low +ℤ pos n)

has_two : (low : ℤ) (n : ℕ) (c : ℤ) → low ≤ℤ c → (c +ℤ pos 1) <ℤ (low +ℤ pos n) → HasTwo low n c
has_two low n c h k = record {
  near_low = h;
  near_high = omega (arith, ints, k);
  far_low = omega (arith, ints, h);
  far_high = k;
}

-- a zone has all edges of a cell by its layers
pub edges_of : (low : Spot) (n : Triple) (c : Spot) → low.x ≤ℤ c.x → (c.x +ℤ pos 1) <ℤ (low.x +ℤ pos n.x)
    → low.y ≤ℤ c.y → (c.y +ℤ pos 1) <ℤ (low.y +ℤ pos n.y) → low.z ≤ℤ c.z → (c.z +ℤ pos 1) <ℤ (low.z +ℤ pos n.z) → HasEdges low n c
edges_of low n c x_low x_high y_low y_high z_low z_high =
    let x = has_two low.x n.x c.x x_low x_high in
    let y = has_two low.y n.y c.y y_low y_high in
    let z = has_two low.z n.z c.z z_low z_high in
    record {
      near = record {
        x_low = x.near_low;
        x_high = x.near_high;
        y_low = y.near_low;
        y_high = y.near_high;
        z_low = z.near_low;
        z_high = z.near_high;
      };
      far = record {
        x_low = x.far_low;
        x_high = x.far_high;
        y_low = y.far_low;
        y_high = y.far_high;
        z_low = z.far_low;
        z_high = z.far_high;
      };
    }

-- it has then the four along each axis
far_edge : (low : Spot) (n : Triple) (a : Axis) (c : Spot) → HasEdges low n c → InZone low n (lifted (next_axis a) (lifted (next_axis (next_axis a)) c))
far_edge low n X c h = record {
  x_low = h.near.x_low;
  x_high = h.near.x_high;
  y_low = h.far.y_low;
  y_high = h.far.y_high;
  z_low = h.far.z_low;
  z_high = h.far.z_high;
}
far_edge low n Y c h = record {
  x_low = h.far.x_low;
  x_high = h.far.x_high;
  y_low = h.near.y_low;
  y_high = h.near.y_high;
  z_low = h.far.z_low;
  z_high = h.far.z_high;
}
far_edge low n Z c h = record {
  x_low = h.far.x_low;
  x_high = h.far.x_high;
  y_low = h.far.y_low;
  y_high = h.far.y_high;
  z_low = h.near.z_low;
  z_high = h.near.z_high;
}

up_edge : (low : Spot) (n : Triple) (a : Axis) (c : Spot) → HasEdges low n c → InZone low n (lifted a c)
up_edge low n X c h = record {
  x_low = h.far.x_low;
  x_high = h.far.x_high;
  y_low = h.near.y_low;
  y_high = h.near.y_high;
  z_low = h.near.z_low;
  z_high = h.near.z_high;
}
up_edge low n Y c h = record {
  x_low = h.near.x_low;
  x_high = h.near.x_high;
  y_low = h.far.y_low;
  y_high = h.far.y_high;
  z_low = h.near.z_low;
  z_high = h.near.z_high;
}
up_edge low n Z c h = record {
  x_low = h.near.x_low;
  x_high = h.near.x_high;
  y_low = h.near.y_low;
  y_high = h.near.y_high;
  z_low = h.far.z_low;
  z_high = h.far.z_high;
}

pub all_found : (low : Spot) (n : Triple) (a : Axis) (c : Spot) → HasEdges low n c → AreFound low n a c all_four
all_found low n a c h = record {
  low_low = (λ t. h.near, λ z. refl);
  high_low = (λ t. up_edge low n (next_axis a) c h, λ z. refl);
  low_high = (λ t. up_edge low n (next_axis (next_axis a)) c h, λ z. refl);
  high_high = (λ t. far_edge low n a c h, λ z. refl);
}
