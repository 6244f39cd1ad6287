-- A path leads from its start to its end, each piece in its closed cell.
use Rattle.std.proofs.Common.{◌≡◌, ℕ, ◌<◌, ◌≤◌, ◌⊎◌, Bool, unsigned_abs, if◌then◌else◌, List, [], ◌∷◌, Option, Some, None, refl, sym, ◌∙◌, ap, subst}
use Rattle.std.proofs.Common.{inl, inr, arith}
use Rattle.std.proofs.Math.IntN.{ℤ, pos, ◌+ℤ◌, ◌-ℤ◌}
use Rattle.std.specs.Prelude.{int_lt}
use Rattle.std.specs.List.{AllByRecursion as Each}
use Rattle.pic_num.specs.declared.axis.Axis.{Axis}
use Rattle.pic_num.specs.declared.axis.Axis.TheVariants.{X, Y, Z}
use Rattle.pic_num.specs.Push.{plus}
use Rattle.pic_num.specs.Space.{Spot, along, AreAtMost}
use Rattle.pic_grid.specs.Path.{Crossing, crossing, crossings, floor_of, floor_cell, break_on, break_at, step_on, cell_after, walk, path}
use Rattle.pic_grid.specs.Segment.{Piece, IsInside, Leads}
use Rattle.pic_split.proofs.BreakLaws.{IsSound, IsUpTo, Passing, point_at, part, break_is, part_within, part_upto, part_own, at_start, at_end}
use Rattle.pic_split.proofs.BreakLaws.{between, floor_inside}
use Rattle.pic_split.proofs.OrderLaws.{IsOther, HasOne, Holds, Sorted, Tells, crossing_tells, crossings_sound, crossings_hold}
use Rattle.pic_split.proofs.RankLaws.{crossings_sorted}

-- on one axis: the pieces that are left of the path from p by d, from x in the cell i on, have both
-- ends in their cells, and each cell is c or e
abbrev pub Fits : ℕ → Axis → ℤ → ℤ → ℤ → ℤ → ℤ → ℤ → List Crossing → Type 0
Fits side a c e p d x i [] = IsInside side i x × IsInside side i (p +ℤ d) × ((i ≡ c) ⊎ (i ≡ e))
Fits side a c e p d x i (k ∷ ks) =
    IsInside side i x × IsInside side i (break_on k p d) × ((i ≡ c) ⊎ (i ≡ e)) × Fits side a c e p d (break_on k p d) (step_on a k i) ks

step_other : (a : Axis) (k : Crossing) (i : ℤ) → IsOther a k → step_on a k i ≡ i
unfolding step_on
step_other a k i other =
    ap (λ (b : Bool). if b then (if int_lt k.whole (pos 0) then i -ℤ pos 1 else i +ℤ pos 1) else i) other.differs

-- where no face of the axis is left
fits_rest : (side : ℕ) (a : Axis) (c e p d i x : ℤ) (low u : ℕ) (ks : List Crossing)
    → ((i ≡ c) ⊎ (i ≡ e)) → IsInside side i (point_at p d low) → IsInside side i (point_at p d (unsigned_abs d))
    → x ≡ point_at p d u → low ≤ u → u ≤ unsigned_abs d
    → Each (IsSound side) ks → Each (IsOther a) ks → Each (λ k. low ≤ part k d) ks
    → Fits side a c e p d x i ks
fits_rest side a c e p d i x low u [] of_cells first last is from upto sound other late =
    let here = between side i p d low u (unsigned_abs d) from upto first last in
    (subst (IsInside side i) (sym is) here, subst (IsInside side i) (at_end p d) last, of_cells)
fits_rest side a c e p d i x low u (k ∷ ks) of_cells first last is from upto sound other late =
    let here = between side i p d low u (unsigned_abs d) from upto first last in
    let most = part_within side k d sound.0 in
    let there = between side i p d low (part k d) (unsigned_abs d) late.0 most first last in
    let broken = break_is side k p d sound.0 in
    let rest = fits_rest side a c e p d i (break_on k p d) low (part k d) ks of_cells first last broken late.0 most sound.1 other.1 late.1 in (
      subst (IsInside side i) (sym is) here,
      subst (IsInside side i) (sym broken) there,
      of_cells,
      subst (λ (j : ℤ). Fits side a c e p d (break_on k p d) j ks) (sym (step_other a k i other.0)) rest,
    )

-- a crossing that comes behind
each_at : (P : Crossing → Type 0) (a : Axis) (k : Crossing) (ls : List Crossing) → Each P ls → HasOne a k ls → P k
each_at P a k [] hs has = absurd has
each_at P a k (l ∷ ls) hs (inl here) = subst P here.0 hs.0
each_at P a k (l ∷ ls) hs (inr behind) = each_at P a k ls hs.1 behind.1

pub parts_late : (side : ℕ) (k : Crossing) (d : ℤ) (ks : List Crossing) → IsSound side k → Each (IsSound side) ks → Each (IsUpTo k) ks
    → Each (λ l. part k d ≤ part l d) ks
parts_late side k d [] sound_k sound upto = upto
parts_late side k d (l ∷ ks) sound_k sound upto = (part_upto side k l d sound_k sound.0 upto.0, parts_late side k d ks sound_k sound.1 upto.1)

-- up to the one face of the axis, and behind it
fits_before : (side : ℕ) (a : Axis) (c e p d x : ℤ) (m : Crossing) (u : ℕ) (ks : List Crossing)
    → Passing side a c e p d m → part m d ≡ unsigned_abs m.way → x ≡ point_at p d u → u ≤ part m d
    → Each (IsSound side) ks → Sorted ks → HasOne a m ks
    → Fits side a c e p d x c ks
fits_before side a c e p d x m u [] pass own is upto sound sorted has = absurd has
fits_before side a c e p d x m u (k ∷ ks) pass own is upto sound sorted (inl here) =
    let face = subst (λ (n : ℕ). IsInside side c (point_at p d n)) (sym own) pass.before in
    let behind = subst (λ (n : ℕ). IsInside side e (point_at p d n)) (sym own) pass.after in
    let inside = between side c p d 0 u (part m d) (omega arith) upto pass.start face in
    let broken = break_is side m p d pass.sound in
    let late = parts_late side m d ks pass.sound sound.1 (subst (λ (l : Crossing). Each (IsUpTo l) ks) here.0 sorted.0) in
    let rest = fits_rest side a c e p d e (break_on m p d) (part m d) (part m d) ks (inr refl) behind pass.end broken (omega arith)
    (part_within side m d pass.sound) sound.1 here.1 late in
    let whole : Fits side a c e p d x c (m ∷ ks) = (
      subst (IsInside side c) (sym is) inside,
      subst (IsInside side c) (sym broken) face,
      inl refl,
      subst (λ (j : ℤ). Fits side a c e p d (break_on m p d) j ks) (sym pass.step) rest,
    ) in
    subst (λ (l : Crossing). Fits side a c e p d x c (l ∷ ks)) (sym here.0) whole
fits_before side a c e p d x m u (k ∷ ks) pass own is upto sound sorted (inr behind) =
    let face = subst (λ (n : ℕ). IsInside side c (point_at p d n)) (sym own) pass.before in
    let inside = between side c p d 0 u (part m d) (omega arith) upto pass.start face in
    let before = each_at (IsUpTo k) a m ks sorted.0 behind.1 in
    let early = part_upto side k m d sound.0 pass.sound before in
    let there = between side c p d 0 (part k d) (part m d) (omega arith) early pass.start face in
    let broken = break_is side k p d sound.0 in
    let rest = fits_before side a c e p d (break_on k p d) m (part k d) ks pass own broken early sound.1 sorted.1 behind.1 in (
      subst (IsInside side c) (sym is) inside,
      subst (IsInside side c) (sym broken) there,
      inl refl,
      subst (λ (j : ℤ). Fits side a c e p d (break_on k p d) j ks) (sym (step_other a k c behind.0)) rest,
    )

pub all_late : (d : ℤ) (ks : List Crossing) → Each (λ k. 0 ≤ part k d) ks
all_late d [] = tt
all_late d (k ∷ ks) = (omega arith, all_late d ks)

-- the whole path on one axis
axis_fits : (side : ℕ) (a : Axis) (p d : ℤ) (o : Option Crossing) (ks : List Crossing) → 0 < side
    → Tells side a p d o → Holds a o ks → Each (IsSound side) ks → Sorted ks
    → Fits side a (floor_of side p) (floor_of side (p +ℤ d)) p d p (floor_of side p) ks
axis_fits side a p d None ks some same holds sound sorted =
    let c = floor_of side p in
    let start = subst (IsInside side c) (sym (at_start p d)) (floor_inside side p some) in
    let end = subst (IsInside side c) (sym (at_end p d)) (subst (λ (j : ℤ). IsInside side j (p +ℤ d)) (sym same) (floor_inside side (p +ℤ d) some)) in
    fits_rest side a c (floor_of side (p +ℤ d)) p d c p 0 0 ks (inl refl) start end (sym (at_start p d)) (omega arith) (omega arith) sound holds (all_late d ks)
axis_fits side a p d (Some k) ks some pass holds sound sorted =
    let own = ap (λ (n : ℤ). part k n) (sym pass.whole) ∙ part_own k pass.sound.some in
    fits_before side a (floor_of side p) (floor_of side (p +ℤ d)) p d p k 0 ks pass own (sym (at_start p d)) (omega arith) sound sorted holds

-- ---- all three axes

pub break_along : (a : Axis) (p d : Spot) (k : Crossing) → along a (break_at p d k) ≡ break_on k (along a p) (along a d)
break_along X p d k = refl
break_along Y p d k = refl
break_along Z p d k = refl

pub cell_along : (a : Axis) (k : Crossing) (cell : Spot) → along a (cell_after k cell) ≡ step_on a k (along a cell)
cell_along X k cell = refl
cell_along Y k cell = refl
cell_along Z k cell = refl

pub plus_along : (a : Axis) (p d : Spot) → along a (plus p d) ≡ along a p +ℤ along a d
plus_along X p d = refl
plus_along Y p d = refl
plus_along Z p d = refl

walk_leads : (side : ℕ) (c e p d x cell : Spot) (ks : List Crossing)
    → ((a : Axis) → Fits side a (along a c) (along a e) (along a p) (along a d) (along a x) (along a cell) ks)
    → Leads side c e x (walk p d x cell ks) (plus p d)
unfolding walk
walk_leads side c e p d x cell [] fits =
    let s : Piece = record { from = x; to = plus p d; cell = cell } in
    Leads.onward s
    (record { from = λ a. (fits a).0; to = λ a. subst (IsInside side (along a cell)) (sym (plus_along a p d)) (fits a).1 })
    (record { either = λ a. (fits a).2 }) Leads.arrived
walk_leads side c e p d x cell (k ∷ ks) fits =
    let s : Piece = record { from = x; to = break_at p d k; cell = cell } in
    Leads.onward s
    (record { from = λ a. (fits a).0; to = λ a. subst (IsInside side (along a cell)) (sym (break_along a p d k)) (fits a).1 })
    (record { either = λ a. (fits a).2 })
    (walk_leads side c e p d (break_at p d k) (cell_after k cell) ks
    (λ a.
    subst (λ (i : ℤ). Fits side a (along a c) (along a e) (along a p) (along a d) (along a (break_at p d k)) i ks) (sym (cell_along a k cell))
    (subst (λ (y : ℤ). Fits side a (along a c) (along a e) (along a p) (along a d) y (step_on a k (along a cell)) ks) (sym (break_along a p d k)) (fits a).3)))

pub move_along : (side : ℕ) (a : Axis) (d : Spot) → AreAtMost d side → unsigned_abs (along a d) ≤ side
move_along side X d small = small.x.size
move_along side Y d small = small.y.size
move_along side Z d small = small.z.size

-- the path leads from its start to its end without a gap, each piece in its closed cell
pub path_leads : (side : ℕ) (p d : Spot) → 0 < side → AreAtMost d side
    → Leads side (floor_cell side p) (floor_cell side (plus p d)) p (path side p d) (plus p d)
unfolding path
path_leads side p d above small =
    walk_leads side (floor_cell side p) (floor_cell side (plus p d)) p d p (floor_cell side p) (crossings side p d) fits
  where
    on_axis : (a : Axis)
        → Fits side a (floor_of side (along a p)) (floor_of side (along a p +ℤ along a d)) (along a p) (along a d) (along a p) (floor_of side (along a p))
        (crossings side p d)
    on_axis a =
        axis_fits side a (along a p) (along a d) (crossing side a (along a p) (along a d)) (crossings side p d) above
        (crossing_tells side a (along a p) (along a d) above (move_along side a d small))
        (crossings_hold side a p d above small) (crossings_sound side p d above small) (crossings_sorted side p d above small)

    fits : (a : Axis)
        → Fits side a (along a (floor_cell side p)) (along a (floor_cell side (plus p d))) (along a p) (along a d) (along a p) (along a (floor_cell side p))
        (crossings side p d)
    fits X = on_axis X
    fits Y = on_axis Y
    fits Z = on_axis Z
