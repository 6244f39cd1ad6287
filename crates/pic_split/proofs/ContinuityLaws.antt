-- The law of continuity: of one piece in its cell, of a path, of a move and its wrapped end.
use Rattle.std.proofs.Common.{◌≡◌, ℕ, ◌+◌, ◌-◌, ◌*◌, ◌%◌, ◌<◌, Bool, true, false, ◌⊎◌, ◌∙◌, List, [], ◌∷◌, ap, sym, subst, inl, inr, arith}
use Rattle.std.proofs.Math.IntN.{ℤ, pos, ◌+ℤ◌, ◌-ℤ◌, ◌*ℤ◌}
use Rattle.std.proofs.lemmas.Int.{ints}
use Rattle.std.specs.Prelude.{if◌then◌else◌}
use Rattle.pic_num.specs.declared.axis.Axis.{Axis}
use Rattle.pic_num.specs.declared.axis.Axis.TheVariants.{X, Y, Z}
use Rattle.pic_num.specs.Flux.{simpson}
use Rattle.pic_num.specs.Push.{plus}
use Rattle.pic_num.specs.Space.{Triple, Spot, along, next_axis, unwrapped, AreAtMost}
use Rattle.pic_num.proofs.Ring.{ring, reads}
use Rattle.pic_num.proofs.Simpson.{continuity}
use Rattle.pic_block.specs.Cells.{IsWithin}
use Rattle.pic_grid.specs.Current.{sum_images, wrapped}
use Rattle.pic_grid.specs.Differences.{down, div_e}
use Rattle.pic_grid.specs.Flux.{edge_weight, flux, path_flux}
use Rattle.pic_grid.specs.Hat.{hat, weight, HasTwo, IsInBox}
use Rattle.pic_grid.specs.Path.{floor_cell, path, same_int}
use Rattle.pic_grid.specs.Segment.{Piece, IsInCell, IsOfCells, Leads, arrived, onward}
use Rattle.pic_grid.specs.Sums.{sum_over}
use Rattle.pic_split.specs.Continuity.{Continuity}
use Rattle.pic_split.specs.Move.{wrapped_point}
use Rattle.pic_grid.proofs.TwoHatLaws.{only}
use Rattle.pic_split.proofs.ImageHatLaws.{onlys, shadow, IsNear, shadows_change, shadow_wrapped, shadow_inside, floor_near, moved_low, moved_high}
use Rattle.pic_split.proofs.ImageLaws.{images_way, images_first, images_second, wrapped-add, wrapped-zero, div_e-add, div_e-zero}
use Rattle.pic_split.proofs.LeadLaws.{path_leads}

-- a flux that is there in one case only is a flux by a way that is
case_way : (b : Bool) (q d a0 a1 b0 b1 : ℤ)
    → (if b then simpson q d a0 a1 b0 b1 else pos 0) ≡ simpson q ((if b then pos 1 else pos 0) *ℤ d) a0 a1 b0 b1
unfolding simpson
case_way true q d a0 a1 b0 b1 = ring (q ∷ d ∷ a0 ∷ a1 ∷ b0 ∷ b1 ∷ []) (search reads depth 40 fits 9000) tt
case_way false q d a0 a1 b0 b1 = ring (q ∷ d ∷ a0 ∷ a1 ∷ b0 ∷ b1 ∷ []) (search reads depth 40 fits 9000) tt

-- the way of a piece along an axis
abbrev way_of : Axis → Piece → ℤ
way_of a s = along a s.to -ℤ along a s.from

-- the flux of a piece without its case
flux_is : (side : ℕ) (q : ℤ) (s : Piece) (a : Axis) (edge : Spot)
    → flux side q s a edge
    ≡ simpson q (only (along a s.cell) (along a edge) *ℤ way_of a s)
    (edge_weight side (next_axis a) s.from edge) (edge_weight side (next_axis a) s.to edge)
    (edge_weight side (next_axis (next_axis a)) s.from edge) (edge_weight side (next_axis (next_axis a)) s.to edge)
unfolding flux
flux_is side q s a edge =
    case_way (same_int (along a edge) (along a s.cell)) q (way_of a s)
    (edge_weight side (next_axis a) s.from edge) (edge_weight side (next_axis a) s.to edge)
    (edge_weight side (next_axis (next_axis a)) s.from edge) (edge_weight side (next_axis (next_axis a)) s.to edge)

-- The flux of a piece through all images of an edge: one Simpson form of the sums over the images.

pub through_x : (side : ℕ) (n : Triple) (q : ℤ) (s : Piece) (p : Triple)
    → wrapped n (flux side q s X) p
    ≡ simpson q (onlys n.x s.cell.x p.x *ℤ (s.to.x -ℤ s.from.x))
    (shadow side n.y s.from.y p.y) (shadow side n.y s.to.y p.y) (shadow side n.z s.from.z p.z) (shadow side n.z s.to.z p.z)
unfolding wrapped onlys shadow
through_x side n q s p =
    let d : ℤ = s.to.x -ℤ s.from.x in
    let w = λ (x : ℤ) (j : ℤ). hat side x (j *ℤ pos side) in
    (λ t. wrapped n (λ c. flux_is side q s X c t) p)
    ∙ (λ t. sum_images n.z (λ z. sum_images n.y (λ y.
    images_way n.x (only s.cell.x) p.x q d (w s.from.y y) (w s.to.y y) (w s.from.z z) (w s.to.z z) t) p.y) p.z)
    ∙ (λ t. sum_images n.z (λ z.
    images_first n.y (w s.from.y) (w s.to.y) p.y q (sum_images n.x (only s.cell.x) p.x *ℤ d) (w s.from.z z) (w s.to.z z) t) p.z)
    ∙ images_second n.z (w s.from.z) (w s.to.z) p.z q (sum_images n.x (only s.cell.x) p.x *ℤ d)
    (sum_images n.y (w s.from.y) p.y) (sum_images n.y (w s.to.y) p.y)

pub through_y : (side : ℕ) (n : Triple) (q : ℤ) (s : Piece) (p : Triple)
    → wrapped n (flux side q s Y) p
    ≡ simpson q (onlys n.y s.cell.y p.y *ℤ (s.to.y -ℤ s.from.y))
    (shadow side n.z s.from.z p.z) (shadow side n.z s.to.z p.z) (shadow side n.x s.from.x p.x) (shadow side n.x s.to.x p.x)
unfolding wrapped onlys shadow
through_y side n q s p =
    let d : ℤ = s.to.y -ℤ s.from.y in
    let w = λ (x : ℤ) (j : ℤ). hat side x (j *ℤ pos side) in
    (λ t. wrapped n (λ c. flux_is side q s Y c t) p)
    ∙ (λ t. sum_images n.z (λ z. sum_images n.y (λ y.
    images_second n.x (w s.from.x) (w s.to.x) p.x q (only s.cell.y y *ℤ d) (w s.from.z z) (w s.to.z z) t) p.y) p.z)
    ∙ (λ t. sum_images n.z (λ z.
    images_way n.y (only s.cell.y) p.y q d (w s.from.z z) (w s.to.z z) (sum_images n.x (w s.from.x) p.x) (sum_images n.x (w s.to.x) p.x) t) p.z)
    ∙ images_first n.z (w s.from.z) (w s.to.z) p.z q (sum_images n.y (only s.cell.y) p.y *ℤ d)
    (sum_images n.x (w s.from.x) p.x) (sum_images n.x (w s.to.x) p.x)

pub through_z : (side : ℕ) (n : Triple) (q : ℤ) (s : Piece) (p : Triple)
    → wrapped n (flux side q s Z) p
    ≡ simpson q (onlys n.z s.cell.z p.z *ℤ (s.to.z -ℤ s.from.z))
    (shadow side n.x s.from.x p.x) (shadow side n.x s.to.x p.x) (shadow side n.y s.from.y p.y) (shadow side n.y s.to.y p.y)
unfolding wrapped onlys shadow
through_z side n q s p =
    let d : ℤ = s.to.z -ℤ s.from.z in
    let w = λ (x : ℤ) (j : ℤ). hat side x (j *ℤ pos side) in
    (λ t. wrapped n (λ c. flux_is side q s Z c t) p)
    ∙ (λ t. sum_images n.z (λ z. sum_images n.y (λ y.
    images_first n.x (w s.from.x) (w s.to.x) p.x q (only s.cell.z z *ℤ d) (w s.from.y y) (w s.to.y y) t) p.y) p.z)
    ∙ (λ t. sum_images n.z (λ z.
    images_second n.y (w s.from.y) (w s.to.y) p.y q (only s.cell.z z *ℤ d) (sum_images n.x (w s.from.x) p.x) (sum_images n.x (w s.to.x) p.x) t) p.z)
    ∙ images_way n.z (only s.cell.z) p.z q d
    (sum_images n.x (w s.from.x) p.x) (sum_images n.x (w s.to.x) p.x) (sum_images n.y (w s.from.y) p.y) (sum_images n.y (w s.to.y) p.y)

-- the flux by a difference of ways is the difference of the fluxes
less_way : (q u v f g a0 a1 b0 b1 : ℤ) → f -ℤ g ≡ u -ℤ v
    → simpson q u a0 a1 b0 b1 -ℤ simpson q v a0 a1 b0 b1 ≡ simpson q (f -ℤ g) a0 a1 b0 b1
unfolding simpson
less_way q u v f g a0 a1 b0 b1 e = linear ∙ ap (λ (t : ℤ). simpson q t a0 a1 b0 b1) (sym e)
  where
    linear : simpson q u a0 a1 b0 b1 -ℤ simpson q v a0 a1 b0 b1 ≡ simpson q (u -ℤ v) a0 a1 b0 b1
    linear = ring (q ∷ u ∷ v ∷ a0 ∷ a1 ∷ b0 ∷ b1 ∷ []) (search reads depth 40 fits 9000) tt

-- the weight of a point for all images of a node
unfoldable pub image_weight : ℕ → Triple → Spot → Triple → ℤ
image_weight side n p node = shadow side n.x p.x node.x *ℤ shadow side n.y p.y node.y *ℤ shadow side n.z p.z node.z

-- a cell at most one out of the grid on each axis
pub record IsNearGrid (n : Triple) (c : Spot) : Type 0 where
  pub x : IsNear n.x c.x
  pub y : IsNear n.y c.y
  pub z : IsNear n.z c.z

-- What leaves a node through its two edges on an axis: the flux by the fall of the node's weight there.

out_x : (side : ℕ) (n : Triple) (q : ℤ) (s : Piece) (node : Triple) → HasTwo n → IsWithin node n → IsNearGrid n s.cell → IsInCell side s
    → wrapped n (flux side q s X) node -ℤ wrapped n (flux side q s X) (down n X node)
    ≡ simpson q (shadow side n.x s.from.x node.x -ℤ shadow side n.x s.to.x node.x)
    (shadow side n.y s.from.y node.y) (shadow side n.y s.to.y node.y) (shadow side n.z s.from.z node.z) (shadow side n.z s.to.z node.z)
out_x side n q s node two within near at =
    (λ t. through_x side n q s node t -ℤ through_x side n q s (down n X node) t)
    ∙ less_way q (onlys n.x s.cell.x node.x *ℤ (s.to.x -ℤ s.from.x)) (onlys n.x s.cell.x ((node.x + (n.x - 1)) % n.x) *ℤ (s.to.x -ℤ s.from.x))
    (shadow side n.x s.from.x node.x) (shadow side n.x s.to.x node.x)
    (shadow side n.y s.from.y node.y) (shadow side n.y s.to.y node.y) (shadow side n.z s.from.z node.z) (shadow side n.z s.to.z node.z)
    (shadows_change side n.x s.cell.x s.from.x s.to.x node.x two.x within.x near.x (at.from X) (at.to X))

out_y : (side : ℕ) (n : Triple) (q : ℤ) (s : Piece) (node : Triple) → HasTwo n → IsWithin node n → IsNearGrid n s.cell → IsInCell side s
    → wrapped n (flux side q s Y) node -ℤ wrapped n (flux side q s Y) (down n Y node)
    ≡ simpson q (shadow side n.y s.from.y node.y -ℤ shadow side n.y s.to.y node.y)
    (shadow side n.z s.from.z node.z) (shadow side n.z s.to.z node.z) (shadow side n.x s.from.x node.x) (shadow side n.x s.to.x node.x)
out_y side n q s node two within near at =
    (λ t. through_y side n q s node t -ℤ through_y side n q s (down n Y node) t)
    ∙ less_way q (onlys n.y s.cell.y node.y *ℤ (s.to.y -ℤ s.from.y)) (onlys n.y s.cell.y ((node.y + (n.y - 1)) % n.y) *ℤ (s.to.y -ℤ s.from.y))
    (shadow side n.y s.from.y node.y) (shadow side n.y s.to.y node.y)
    (shadow side n.z s.from.z node.z) (shadow side n.z s.to.z node.z) (shadow side n.x s.from.x node.x) (shadow side n.x s.to.x node.x)
    (shadows_change side n.y s.cell.y s.from.y s.to.y node.y two.y within.y near.y (at.from Y) (at.to Y))

out_z : (side : ℕ) (n : Triple) (q : ℤ) (s : Piece) (node : Triple) → HasTwo n → IsWithin node n → IsNearGrid n s.cell → IsInCell side s
    → wrapped n (flux side q s Z) node -ℤ wrapped n (flux side q s Z) (down n Z node)
    ≡ simpson q (shadow side n.z s.from.z node.z -ℤ shadow side n.z s.to.z node.z)
    (shadow side n.x s.from.x node.x) (shadow side n.x s.to.x node.x) (shadow side n.y s.from.y node.y) (shadow side n.y s.to.y node.y)
out_z side n q s node two within near at =
    (λ t. through_z side n q s node t -ℤ through_z side n q s (down n Z node) t)
    ∙ less_way q (onlys n.z s.cell.z node.z *ℤ (s.to.z -ℤ s.from.z)) (onlys n.z s.cell.z ((node.z + (n.z - 1)) % n.z) *ℤ (s.to.z -ℤ s.from.z))
    (shadow side n.z s.from.z node.z) (shadow side n.z s.to.z node.z)
    (shadow side n.x s.from.x node.x) (shadow side n.x s.to.x node.x) (shadow side n.y s.from.y node.y) (shadow side n.y s.to.y node.y)
    (shadows_change side n.z s.cell.z s.from.z s.to.z node.z two.z within.z near.z (at.from Z) (at.to Z))

by_axes : (a b c d e f : ℤ) → a -ℤ b +ℤ c -ℤ d +ℤ e -ℤ f ≡ (a -ℤ b) +ℤ (c -ℤ d) +ℤ (e -ℤ f)
by_axes a b c d e f = omega (arith, ints)

-- the law of one piece in its cell
pub segment_law : (side : ℕ) (n : Triple) (q : ℤ) (s : Piece) (node : Triple) → HasTwo n → IsWithin node n → IsNearGrid n s.cell → IsInCell side s
    → div_e n (λ a p. wrapped n (flux side q s a) p) node
    ≡ pos 12 *ℤ q *ℤ image_weight side n s.from node -ℤ pos 12 *ℤ q *ℤ image_weight side n s.to node
unfolding image_weight
segment_law side n q s node two within near at =
    by_axes (wrapped n (flux side q s X) node) (wrapped n (flux side q s X) (down n X node))
    (wrapped n (flux side q s Y) node) (wrapped n (flux side q s Y) (down n Y node))
    (wrapped n (flux side q s Z) node) (wrapped n (flux side q s Z) (down n Z node))
    ∙ (λ t. out_x side n q s node two within near at t +ℤ out_y side n q s node two within near at t +ℤ out_z side n q s node two within near at t)
    ∙ continuity q (shadow side n.x s.from.x node.x) (shadow side n.x s.to.x node.x)
    (shadow side n.y s.from.y node.y) (shadow side n.y s.to.y node.y) (shadow side n.z s.from.z node.z) (shadow side n.z s.to.z node.z)

near_either : (n : ℕ) (i c e : ℤ) → IsNear n c → IsNear n e → (i ≡ c) ⊎ (i ≡ e) → IsNear n i
near_either n i c e of_c of_e (inl is) = subst (IsNear n) (sym is) of_c
near_either n i c e of_c of_e (inr is) = subst (IsNear n) (sym is) of_e

-- the cell of a piece is near the grid where those of the path's ends are
pub near_cell : (n : Triple) (c e : Spot) (s : Piece) → IsNearGrid n c → IsNearGrid n e → IsOfCells c e s → IsNearGrid n s.cell
near_cell n c e s of_c of_e of = record {
  x = near_either n.x s.cell.x c.x e.x of_c.x of_e.x (of.either X);
  y = near_either n.y s.cell.y c.y e.y of_c.y of_e.y (of.either Y);
  z = near_either n.z s.cell.z c.z e.z of_c.z of_e.z (of.either Z);
}

telescope : (a b c : ℤ) → (a -ℤ b) +ℤ (b -ℤ c) ≡ a -ℤ c
telescope a b c = omega (arith, ints)

nothing : (a : ℤ) → pos 0 ≡ a -ℤ a
nothing a = omega (arith, ints)

-- the law of pieces that lead from a point to a point
pub path_law : (side : ℕ) (n : Triple) (q : ℤ) (node : Triple) (c e : Spot)
    → HasTwo n → IsWithin node n → IsNearGrid n c → IsNearGrid n e
    → {p : Spot} {ss : List Piece} {r : Spot} → Leads side c e p ss r
    → div_e n (λ a p. wrapped n (path_flux side q ss a) p) node
    ≡ pos 12 *ℤ q *ℤ image_weight side n p node -ℤ pos 12 *ℤ q *ℤ image_weight side n r node
unfolding path_flux sum_over
path_law side n q node c e two within of_c of_e (arrived {p}) =
    (λ t. div_e n (λ a p. wrapped-zero n p t) node) ∙ div_e-zero n node ∙ nothing (pos 12 *ℤ q *ℤ image_weight side n p node)
path_law side n q node c e two within of_c of_e (onward {r} {ss} s at of rest) =
    (λ t. div_e n (λ a p. wrapped-add n (flux side q s a) (path_flux side q ss a) p t) node)
    ∙ div_e-add n (λ a p. wrapped n (flux side q s a) p) (λ a p. wrapped n (path_flux side q ss a) p) node
    ∙ (λ t. segment_law side n q s node two within (near_cell n c e s of_c of_e of) at t
    +ℤ path_law side n q node c e two within of_c of_e rest t)
    ∙ telescope (pos 12 *ℤ q *ℤ image_weight side n s.from node) (pos 12 *ℤ q *ℤ image_weight side n s.to node) (pos 12 *ℤ q *ℤ image_weight side n r node)

-- a position of the box
image_weight-inside : (side : ℕ) (n from node : Triple) → HasTwo n → IsWithin node n → IsInBox side n from
    → image_weight side n (unwrapped from) node ≡ pos (weight side n from node)
unfolding image_weight weight
image_weight-inside side n from node two within inside =
    λ t. shadow_inside side n.x from.x node.x two.x within.x inside.x t
    *ℤ shadow_inside side n.y from.y node.y two.y within.y inside.y t
    *ℤ shadow_inside side n.z from.z node.z two.z within.z inside.z t

-- the end of a move from a position of the box
image_weight-wrapped : (side : ℕ) (n from : Triple) (d : Spot) (node : Triple)
    → 0 < side → HasTwo n → IsWithin node n → IsInBox side n from → AreAtMost d side
    → image_weight side n (plus (unwrapped from) d) node ≡ pos (weight side n (wrapped_point side n (plus (unwrapped from) d)) node)
unfolding image_weight weight
image_weight-wrapped side n from d node some two within inside move =
    λ t. shadow_wrapped side n.x (pos from.x +ℤ d.x) node.x some two.x within.x
    (moved_low side from.x d.x move.x.size) (moved_high side (n.x * side) from.x d.x inside.x move.x.size) t
    *ℤ shadow_wrapped side n.y (pos from.y +ℤ d.y) node.y some two.y within.y
    (moved_low side from.y d.y move.y.size) (moved_high side (n.y * side) from.y d.y inside.y move.y.size) t
    *ℤ shadow_wrapped side n.z (pos from.z +ℤ d.z) node.z some two.z within.z
    (moved_low side from.z d.z move.z.size) (moved_high side (n.z * side) from.z d.z inside.z move.z.size) t

-- the cell of a position of the box
pub near_start : (side : ℕ) (n from : Triple) → 0 < side → IsInBox side n from → IsNearGrid n (floor_cell side (unwrapped from))
near_start side n from some inside = record {
  x = floor_near side n.x (pos from.x) some (omega (arith, ints)) (omega (arith, ints, inside));
  y = floor_near side n.y (pos from.y) some (omega (arith, ints)) (omega (arith, ints, inside));
  z = floor_near side n.z (pos from.z) some (omega (arith, ints)) (omega (arith, ints, inside));
}

-- the cell of the end of a move from there
pub near_end : (side : ℕ) (n from : Triple) (d : Spot) → 0 < side → IsInBox side n from → AreAtMost d side
    → IsNearGrid n (floor_cell side (plus (unwrapped from) d))
near_end side n from d some inside move = record {
  x = floor_near side n.x (pos from.x +ℤ d.x) some (moved_low side from.x d.x move.x.size) (moved_high side (n.x * side) from.x d.x inside.x move.x.size);
  y = floor_near side n.y (pos from.y +ℤ d.y) some (moved_low side from.y d.y move.y.size) (moved_high side (n.y * side) from.y d.y inside.y move.y.size);
  z = floor_near side n.z (pos from.z +ℤ d.z) some (moved_low side from.z d.z move.z.size) (moved_high side (n.z * side) from.z d.z inside.z move.z.size);
}

-- the law of pieces that lead from a position of the box to the end of a move
pub continuity_of_path : (side : ℕ) (n : Triple) (q : ℤ) (from : Triple) (d : Spot) (node : Triple) (pieces : List Piece)
    → 0 < side → HasTwo n → IsWithin node n → IsInBox side n from → AreAtMost d side
    → Leads side (floor_cell side (unwrapped from)) (floor_cell side (plus (unwrapped from) d)) (unwrapped from) pieces (plus (unwrapped from) d)
    → div_e n (λ a p. wrapped n (path_flux side q pieces a) p) node
    ≡ pos 12 *ℤ q *ℤ pos (weight side n from node)
    -ℤ pos 12 *ℤ q *ℤ pos (weight side n (wrapped_point side n (plus (unwrapped from) d)) node)
continuity_of_path side n q from d node pieces some two within inside move leads =
    path_law side n q node (floor_cell side (unwrapped from)) (floor_cell side (plus (unwrapped from) d))
    two within (near_start side n from some inside) (near_end side n from d some inside move) leads
    ∙ (λ t. pos 12 *ℤ q *ℤ image_weight-inside side n from node two within inside t
    -ℤ pos 12 *ℤ q *ℤ image_weight-wrapped side n from d node some two within inside move t)

-- the law of continuity
pub continuity_of_move : Continuity
continuity_of_move side n q from d node some two within inside move =
    continuity_of_path side n q from d node (path side (unwrapped from) d) some two within inside move (path_leads side (unwrapped from) d some move)
