-- Paths of one piece: those that stay in a cell.
use Rattle.std.proofs.Common.{◌≡◌, ℕ, suc, ◌<◌, ◌≤◌, Bool, true, false, if◌then◌else◌, List, [], ◌∷◌}
use Rattle.std.proofs.Common.{length, unsigned_abs, Option, Some, None, refl, sym, ap, ◌∙◌, subst, arith}
use Rattle.std.proofs.Math.IntN.{ℤ, ◌+ℤ◌}
use Rattle.pic_num.specs.declared.axis.Axis.{Axis}
use Rattle.pic_num.specs.declared.axis.Axis.TheVariants.{X, Y, Z}
use Rattle.pic_num.specs.Push.{plus}
use Rattle.pic_num.specs.Space.{Spot, AreAtMost}
use Rattle.pic_grid.specs.Path.{Crossing, crossing, crossings, is_before, put, put_some, floor_of, floor_cell, walk, path}
use Rattle.pic_grid.specs.Segment.{Piece, IsInCell, Leads, onward}
use Rattle.pic_split.specs.Move.{lone_piece}
use Rattle.pic_split.proofs.CrossingLaws.{crossing_none}
use Rattle.pic_split.proofs.OrderLaws.{Tells, crossing_tells}

put_length : (k : Crossing) (ks : List Crossing) → length (put k ks) ≡ suc (length ks)
unfolding put
put_length k [] = refl
put_length k (l ∷ ls) = go (is_before k l) (put_length k ls)
  where
    go : (b : Bool) → length (put k ls) ≡ suc (length ls) → length (if b then k ∷ l ∷ ls else l ∷ put k ls) ≡ suc (suc (length ls))
    go true h = refl
    go false h = ap suc h

-- a list with nothing put into it has nothing in it
none_put : (o : Option Crossing) (ks : List Crossing) → put_some o ks ≡ [] → (o ≡ None) × (ks ≡ [])
none_put None ks e = (refl, e)
none_put (Some k) ks e = let h = put_length k ks in let z = ap length e in absurd (omega (arith, h, z))

still : (side : ℕ) (a : Axis) (p d : ℤ) → 0 < side → unsigned_abs d ≤ side → crossing side a p d ≡ None → floor_of side p ≡ floor_of side (p +ℤ d)
still side a p d some small e = subst (Tells side a p d) e (crossing_tells side a p d some small)

-- where a path has no crossing, its start and its end are in one cell
pub none_crossed : (side : ℕ) (p d : Spot) → 0 < side → AreAtMost d side → crossings side p d ≡ [] → floor_cell side p ≡ floor_cell side (plus p d)
unfolding crossings
none_crossed side p d some small e =
    let x = none_put (crossing side X p.x d.x) (put_some (crossing side Y p.y d.y) (put_some (crossing side Z p.z d.z) [])) e in
    let y = none_put (crossing side Y p.y d.y) (put_some (crossing side Z p.z d.z) []) x.1 in
    let z = none_put (crossing side Z p.z d.z) [] y.1 in
    let at_x = still side X p.x d.x some small.x.size x.0 in
    let at_y = still side Y p.y d.y some small.y.size y.0 in
    let at_z = still side Z p.z d.z some small.z.size z.0 in
    λ i. record { x = at_x i; y = at_y i; z = at_z i }

-- and the other way round
pub all_still : (side : ℕ) (p d : Spot) → floor_cell side p ≡ floor_cell side (plus p d) → crossings side p d ≡ []
unfolding crossings
all_still side p d e =
    let x = sym (crossing_none side X p.x d.x (ap (λ (c : Spot). c.x) e)) in
    let y = sym (crossing_none side Y p.y d.y (ap (λ (c : Spot). c.y) e)) in
    let z = sym (crossing_none side Z p.z d.z (ap (λ (c : Spot). c.z) e)) in
    λ i. put_some (x i) (put_some (y i) (put_some (z i) []))

-- a path with a crossing has more pieces than one
two_pieces : (p d start cell : Spot) (k : Crossing) (ks : List Crossing) → lone_piece (walk p d start cell (k ∷ ks)) ≡ None
unfolding walk
two_pieces p d start cell k [] = refl
two_pieces p d start cell k (l ∷ ls) = refl

pub none_lone : (side : ℕ) (p d : Spot) → 0 < side → AreAtMost d side → (floor_cell side p ≡ floor_cell side (plus p d) → ⊥) → lone_piece (path side p d) ≡ None
unfolding path
none_lone side p d some small differ = go (crossings side p d) refl
  where
    go : (ks : List Crossing) → crossings side p d ≡ ks → lone_piece (walk p d p (floor_cell side p) (crossings side p d)) ≡ None
    go [] e = absurd (differ (none_crossed side p d some small e))
    go (k ∷ ks) e = ap (λ (ls : List Crossing). lone_piece (walk p d p (floor_cell side p) ls)) e ∙ two_pieces p d p (floor_cell side p) k ks

-- where start and end are in one cell, the path is the piece between them
pub path_is_lone : (side : ℕ) (p d : Spot) → floor_cell side p ≡ floor_cell side (plus p d)
    → path side p d ≡ record { from = p; to = plus p d; cell = floor_cell side p } ∷ []
unfolding path walk
path_is_lone side p d e = ap (λ (ks : List Crossing). walk p d p (floor_cell side p) ks) (all_still side p d e)

-- the one piece of a path lies in its cell
pub lead_inside : (side : ℕ) (c e p r : Spot) (s : Piece) → Leads side c e p (s ∷ []) r → IsInCell side s
lead_inside side c e p r s (onward t at of rest) = at
