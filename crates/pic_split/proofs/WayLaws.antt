-- The ways of a path's pieces add up to the move; and so a path's flux through an edge is bounded.
use Rattle.std.proofs.Common.{◌≡◌, ℕ, ◌+◌, ◌*◌, ◌<◌, ◌≤◌, unsigned_abs, List, [], ◌∷◌, sym, ◌∙◌, subst, arith}
use Rattle.std.proofs.Math.IntN.{ℤ, pos, negsuc, ◌-ℤ◌}
use Rattle.std.proofs.lemmas.Int.{ints}
use Rattle.std.specs.List.{AllByRecursion as Each}
use Rattle.pic_num.specs.declared.axis.Axis.{Axis}
use Rattle.pic_num.specs.Push.{plus}
use Rattle.pic_num.specs.Space.{Spot, along, AreAtMost}
use Rattle.pic_grid.specs.Flux.{path_flux}
use Rattle.pic_grid.specs.Path.{Crossing, crossings, floor_cell, break_at, cell_after, walk, path}
use Rattle.pic_grid.specs.Ways.{ways}
use Rattle.pic_grid.proofs.FluxLaws.{ways_flux_size}
use Rattle.pic_split.proofs.BreakLaws.{IsSound, point_at, part, break_is, part_within, at_start, at_end}
use Rattle.pic_split.proofs.OrderLaws.{Sorted, crossings_sound}
use Rattle.pic_split.proofs.RankLaws.{crossings_sorted}
use Rattle.pic_split.proofs.LeadLaws.{parts_late, all_late, break_along, plus_along}

-- the way between two points of the path
way_between : (p d : ℤ) (u v : ℕ) → u ≤ v → unsigned_abs (point_at p d v -ℤ point_at p d u) + u ≡ v
way_between p (pos n) u v upto = omega (arith, ints, upto)
way_between p (negsuc n) u v upto = omega (arith, ints, upto)

walk_ways : (side : ℕ) (a : Axis) (p d x cell : Spot) (u : ℕ) (ks : List Crossing)
    → along a x ≡ point_at (along a p) (along a d) u → u ≤ unsigned_abs (along a d)
    → Each (IsSound side) ks → Sorted ks → Each (λ k. u ≤ part k (along a d)) ks
    → ways a (walk p d x cell ks) + u ≡ unsigned_abs (along a d)
unfolding ways walk
walk_ways side a p d x cell u [] is upto sound sorted late =
    let n = unsigned_abs (along a d) in
    let there : along a (plus p d) ≡ point_at (along a p) (along a d) n = plus_along a p d ∙ sym (at_end (along a p) (along a d)) in
    let e : unsigned_abs (along a (plus p d) -ℤ along a x) ≡ unsigned_abs (point_at (along a p) (along a d) n -ℤ point_at (along a p) (along a d) u) =
    (λ i. unsigned_abs (there i -ℤ is i)) in
    let way = way_between (along a p) (along a d) u n upto in omega (arith, e, way)
walk_ways side a p d x cell u (k ∷ ks) is upto sound sorted late =
    let v = part k (along a d) in
    let there : along a (break_at p d k) ≡ point_at (along a p) (along a d) v = break_along a p d k ∙ break_is side k (along a p) (along a d) sound.0 in
    let e : unsigned_abs (along a (break_at p d k) -ℤ along a x) ≡ unsigned_abs (point_at (along a p) (along a d) v -ℤ point_at (along a p) (along a d) u) =
    (λ i. unsigned_abs (there i -ℤ is i)) in
    let way = way_between (along a p) (along a d) u v late.0 in
    let rest = walk_ways side a p d (break_at p d k) (cell_after k cell) v ks there (part_within side k (along a d) sound.0) sound.1 sorted.1
    (parts_late side k (along a d) ks sound.0 sound.1 sorted.0) in
    omega (arith, e, way, rest)

-- on each axis the sizes of the ways of a path's pieces add up to the size of the move
pub path_ways : (side : ℕ) (p d : Spot) (a : Axis) → 0 < side → AreAtMost d side → ways a (path side p d) ≡ unsigned_abs (along a d)
unfolding path
path_ways side p d a some small =
    let e = walk_ways side a p d p (floor_cell side p) 0 (crossings side p d) (sym (at_start (along a p) (along a d))) (omega arith)
    (crossings_sound side p d some small) (crossings_sorted side p d some small) (all_late (along a d) (crossings side p d)) in
    omega (arith, e)

-- the flux of a path through an edge that isn't wrapped is at most |q| times the size of the move along
-- the edge, times 12 side^2
pub path_flux_size : (side : ℕ) (q : ℤ) (p d : Spot) (a : Axis) (edge : Spot) → 0 < side → AreAtMost d side
    → unsigned_abs (path_flux side q (path side p d) a edge) ≤ unsigned_abs q * unsigned_abs (along a d) * (12 * (side * side))
path_flux_size side q p d a edge some small =
    subst (λ (n : ℕ). unsigned_abs (path_flux side q (path side p d) a edge) ≤ unsigned_abs q * n * (12 * (side * side)))
    (path_ways side p d a some small) (ways_flux_size side q (path side p d) a edge)
