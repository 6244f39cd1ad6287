-- A lattice on the cells of a map, as a state's fields are cut, seen whole: a field phase does the same to both.
use Rattle.std.proofs.Common.{◌≡◌, ℕ, ℤ, pos, List, [], ◌∷◌, Some, None, Result, Ok, Err, sym, ap, ◌∙◌, subst, ◌+ℤ◌, ◌-ℤ◌}
use Rattle.pic_num.specs.Limits.{most_value}
use Rattle.pic_num.specs.declared.axis.Axis.{Axis}
use Rattle.pic_num.specs.declared.mult.Scales.{Scales}
use Rattle.pic_num.specs.Multiplier.{Multiplier}
use Rattle.pic_num.specs.Space.{Triple}
use Rattle.pic_num.proofs.Ring.{ring, reads}
use Rattle.pic_block.specs.Cells.{IsWithin}
use Rattle.pic_grid.specs.declared.stop.Phase.{Phase}
use Rattle.pic_grid.specs.declared.stop.Phase.TheVariants.{Electric}
use Rattle.pic_grid.specs.declared.stop.Stop.{Stop}
use Rattle.pic_grid.specs.Differences.{curl_b}
use Rattle.pic_grid.specs.Lattice.{Field, EachAtMost, value_at, values_of, field_of}
use Rattle.pic_grid.specs.Parts.{one_part, origin}
use Rattle.pic_grid.proofs.LatticeLaws.{value_at-field_of}
use Rattle.pic_field.specs.FieldPhases.{half_of, full_of, least_fault, no_drive}
use Rattle.pic_drive.specs.Drive.{plus}
use Rattle.pic_field.proofs.CurlLaws.{full_of-raised, full_of-lessened}
use Rattle.pic_tile.specs.Tiling.{Tiling, cells_of}
use Rattle.pic_advance.specs.Phases.{Advances}
use Rattle.pic_advance.proofs.SamePhaseLaws.{values_same, fault_same}
use Rattle.pic_step.specs.Kept.{IsCut}
use Rattle.pic_step.specs.Sound.{IsSafe}

-- values as a lattice of one part, on the cells of a map
abbrev pub whole : Tiling → List ℤ → Field
whole m values = record { cells = cells_of m; side = m.side; parts = one_part; values = values }

-- a lattice as one of one part
abbrev pub as_one : Field → Field
as_one f = record f { parts = one_part }

pub whole_is : (m : Tiling) (f : Field) → IsCut m f → as_one f ≡ whole m f.values
whole_is m f cut = λ i. record { cells = cut.cells i; side = cut.side i; parts = one_part; values = f.values }

-- the values that a phase answers, or its stop
abbrev pub values_in : Result Field Stop → Result (List ℤ) Stop
values_in (Ok f) = Ok f.values
values_in (Err stop) = Err stop

-- what a phase makes of values, on so many cells
abbrev pub Advanced : Phase → Multiplier → Triple → (Axis → Triple → ℤ) → Result (List ℤ) Stop → Type 0
Advanced phase by n g (Ok values) = (values ≡ values_of n g) × (least_fault phase by origin n g ≡ None)
Advanced phase by n g (Err stop) = least_fault phase by origin n g ≡ Some stop

advanced : (phase : Phase) (by : Multiplier) (side : ℕ) (n parts : Triple) (g : Axis → Triple → ℤ) (r : Result Field Stop)
    → Advances phase by side n parts g r → Advanced phase by n g (values_in r)
advanced phase by side n parts g (Ok f) h = (ap (λ (k : Field). k.values) h.0, h.1)
advanced phase by side n parts g (Err stop) h = h

-- half a step of B
pub half_one : (phase : Phase) (m : Tiling) (scales : Scales) (e b : Field) (r : Result Field Stop) → IsCut m e → IsCut m b
    → Advances phase scales.b_force e.side e.cells b.parts (λ a p. half_of scales e a p (value_at b a p)) r
    → Advanced phase scales.b_force (cells_of m) (λ a p. half_of scales (whole m e.values) a p (value_at (whole m b.values) a p)) (values_in r)
unfolding half_of
half_one phase m scales e b r of_e of_b h =
    subst (λ (g : Field). Advanced phase scales.b_force (cells_of m) (λ a p. half_of scales (whole m e.values) a p (value_at g a p)) (values_in r))
    (whole_is m b of_b)
    (subst (λ (f : Field). Advanced phase scales.b_force f.cells (λ a p. half_of scales f a p (value_at b a p)) (values_in r)) (whole_is m e of_e)
    (advanced phase scales.b_force e.side e.cells b.parts (λ a p. half_of scales e a p (value_at b a p)) r h))

-- a step of E, whose answer is known
pub full_one : (phase : Phase) (m : Tiling) (scales : Scales) (b e : Field) (j : Axis → Triple → ℤ) (r s : Result Field Stop) → r ≡ s
    → IsCut m b → IsCut m e
    → Advances phase scales.e_force b.side b.cells e.parts (λ a p. full_of scales b no_drive a p (value_at e a p) (j a p)) r
    → Advanced phase scales.e_force (cells_of m) (λ a p. full_of scales (whole m b.values) no_drive a p (value_at (whole m e.values) a p) (j a p)) (values_in s)
unfolding full_of
full_one phase m scales b e j r s is of_b of_e h =
    subst (λ (t : Result Field Stop).
    Advanced phase scales.e_force (cells_of m) (λ a p. full_of scales (whole m b.values) no_drive a p (value_at (whole m e.values) a p) (j a p))
    (values_in t)) is
    (subst (λ (g : Field). Advanced phase scales.e_force (cells_of m) (λ a p. full_of scales (whole m b.values) no_drive a p (value_at g a p) (j a p))
    (values_in r))
    (whole_is m e of_e)
    (subst (λ (f : Field). Advanced phase scales.e_force f.cells (λ a p. full_of scales f no_drive a p (value_at e a p) (j a p)) (values_in r))
    (whole_is m b of_b)
    (advanced phase scales.e_force b.side b.cells e.parts (λ a p. full_of scales b no_drive a p (value_at e a p) (j a p)) r h)))

-- a lattice that a phase leaves, on the cells of one and with the parts of another, is cut as the other is
pub cut_after : (m : Tiling) (f g r : Field) (values : Axis → Triple → ℤ) → IsCut m f → IsCut m g
    → r ≡ field_of f.side f.cells g.parts values → IsCut m r
cut_after m f g r values of_f of_g is = record {
  cells = ap (λ (k : Field). k.cells) is ∙ of_f.cells;
  side = ap (λ (k : Field). k.side) is ∙ of_f.side;
  parts = ap (λ (k : Field). k.parts) is ∙ of_g.parts;
}

-- the lattice of a phase whose answer is known
pub advanced_is : (phase : Phase) (by : Multiplier) (side : ℕ) (n parts : Triple) (g : Axis → Triple → ℤ) (r : Result Field Stop) (f : Field) → r ≡ Ok f
    → Advances phase by side n parts g r → f ≡ field_of side n parts g
advanced_is phase by side n parts g r f is h = (subst (λ (t : Result Field Stop). Advances phase by side n parts g t) is h).0

-- a lattice whose values are safe is safe, and they are small
pub safe_parts : (m : Tiling) (by : Multiplier) (f : Field) → IsCut m f → IsSafe by (whole m f.values) → IsSafe by f
safe_parts m by f cut safe =
    let one : IsSafe by (as_one f) = subst (IsSafe by) (sym (whole_is m f cut)) safe in
    record { bounded = λ a p within. one.bounded a p within }

pub safe_small : (by : Multiplier) (f : Field) → IsSafe by f → EachAtMost most_value f
safe_small by f safe = record { at_most = λ a p within. (safe.bounded a p within).value }

-- and advance alike, values
pub advanced_same : (phase : Phase) (by : Multiplier) (n : Triple) (g h : Axis → Triple → ℤ) (r : Result (List ℤ) Stop)
    → ((a : Axis) (p : Triple) → IsWithin p n → g a p ≡ h a p) → Advanced phase by n g r → Advanced phase by n h r
advanced_same phase by n g h (Ok values) same done = (done.0 ∙ values_same n g h same, fault_same phase by n g h same ∙ done.1)
advanced_same phase by n g h (Err stop) same done = fault_same phase by n g h same ∙ done

-- a lattice that a curl was added to is cut as it was, and has the values with the curl
pub plus_cut : (m : Tiling) (e f : Field) (g : Axis → Triple → ℤ) → IsCut m e → f ≡ plus e g → IsCut m f
plus_cut m e f g of_e is = cut_after m e e f (λ a p. value_at e a p +ℤ g a p) of_e of_e is

plus_whole : (m : Tiling) (e f : Field) (g : Axis → Triple → ℤ) → IsCut m e → f ≡ plus e (curl_b e.cells g) → (a : Axis)
    (p : Triple) → IsWithin p (cells_of m) → value_at (whole m f.values) a p ≡ value_at (whole m e.values) a p +ℤ curl_b (cells_of m) g a p
plus_whole m e f g of_e is a p within =
    let of_f = plus_cut m e f (curl_b e.cells g) of_e is in
    let inside : IsWithin p e.cells = subst (λ (n : Triple). IsWithin p n) (sym of_e.cells) within in
    ap (λ (k : Field). value_at k a p) (sym (whole_is m f of_f)) ∙ ap (λ (k : Field). value_at k a p) is
    ∙ value_at-field_of e.side e.cells e.parts (λ b q. value_at e b q +ℤ curl_b e.cells g b q) a p inside
    ∙ (λ i. value_at (whole_is m e of_e i) a p +ℤ curl_b (of_e.cells i) g a p)

-- a value that the curl of g was added to comes out as by a g that drives,
sum_less : (v c j : ℤ) → v +ℤ c -ℤ j ≡ v +ℤ (c -ℤ j)
sum_less v c j = ring (v ∷ c ∷ j ∷ []) (search reads depth 8) tt

driven_value : (scales : Scales) (b : Field) (g : Axis → Triple → ℤ) (a : Axis) (p : Triple) (v j : ℤ)
    → full_of scales b no_drive a p (v +ℤ curl_b b.cells g a p) j ≡ full_of scales b g a p v j
driven_value scales b g a p v j =
    let c = curl_b b.cells g a p in
    sym (full_of-lessened scales b a p (v +ℤ c) j) ∙ ap (λ (u : ℤ). full_of scales b no_drive a p u (pos 0)) (sum_less v c j)
    ∙ full_of-raised scales b g a p v j

-- so a step of E that the curl was added to is one that g drives
pub driven_one : (m : Tiling) (scales : Scales) (b e f : Field) (g j : Axis → Triple → ℤ) (r s : Result Field Stop) → r ≡ s
    → IsCut m b → IsCut m e → f ≡ plus e (curl_b e.cells g)
    → Advances Electric scales.e_force b.side b.cells f.parts (λ a p. full_of scales b no_drive a p (value_at f a p) (j a p)) r
    → Advanced Electric scales.e_force (cells_of m) (λ a p. full_of scales (whole m b.values) g a p (value_at (whole m e.values) a p) (j a p)) (values_in s)
driven_one m scales b e f g j r s known of_b of_e is h =
    let w = whole m b.values in
    advanced_same Electric scales.e_force (cells_of m) (λ a p. full_of scales w no_drive a p (value_at (whole m f.values) a p) (j a p))
    (λ a p. full_of scales w g a p (value_at (whole m e.values) a p) (j a p)) (values_in s)
    (λ a p within. ap (λ (v : ℤ). full_of scales w no_drive a p v (j a p)) (plus_whole m e f g of_e is a p within)
    ∙ driven_value scales w g a p (value_at (whole m e.values) a p) (j a p))
    (full_one Electric m scales b f j r s known of_b (plus_cut m e f (curl_b e.cells g) of_e is) h)
