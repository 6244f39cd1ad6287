-- What stops a field phase, within the limits of a dump: a cell of the grid, and a value or force value
-- past its bound, of 128 bits.
use Rattle.std.proofs.Common.{◌≡◌, ℤ, ◌+◌, ◌-◌, ◌*◌, ◌^◌, ◌≤◌, Bool, true, false, [], ◌∷◌, if◌then◌else◌, ltb}
use Rattle.std.proofs.Common.{unsigned_abs, Some, None, refl, sym, ◌∙◌, subst, arith}
use Rattle.std.proofs.Math.IntN.{◌+ℤ◌, ◌-ℤ◌}
use Rattle.std.proofs.lemmas.Bool.{ltb-true, ltb-false}
use Rattle.std.proofs.lemmas.Int.{ints, fits_signed_from_abs}
use Rattle.std.proofs.lemmas.Nat.{mod_below}
use mir.Syntax.{w128}
use Rattle.pic_num.specs.declared.axis.Axis.{Axis}
use Rattle.pic_num.specs.declared.axis.Axis.TheVariants.{X, Y, Z}
use Rattle.pic_num.specs.Limits.{most_loops}
use Rattle.pic_num.specs.Multiplier.{Multiplier, IsMultiplier}
use Rattle.pic_num.specs.Rounding.{scaled}
use Rattle.pic_num.specs.Sizes.{IsAtMost}
use Rattle.pic_num.specs.Space.{Triple, next_axis}
use Rattle.pic_block.specs.Cells.{IsWithin}
use Rattle.pic_grid.specs.declared.stop.Bound.TheVariants.{Value, Force}
use Rattle.pic_grid.specs.declared.stop.Phase.{Phase}
use Rattle.pic_grid.specs.declared.stop.Stop.{Stop}
use Rattle.pic_grid.specs.declared.stop.Stop.TheVariants.{Field as FieldStop}
use Rattle.pic_grid.specs.Loops.{AreLoops}
use Rattle.pic_grid.specs.Differences.{up, down, curl_b}
use Rattle.pic_grid.specs.Lattice.{value_at}
use Rattle.pic_grid.specs.Parts.{origin}
use Rattle.pic_drive.proofs.DriveLaws.{driven_size}
use Rattle.pic_field.specs.FieldPhases.{half_of, full_of, driven_b, fault_of, least_fault}
use Rattle.pic_field.proofs.FaultLaws.{box_finds, above_origin}
use Rattle.pic_record.specs.Layout.{LayoutView}
use Rattle.pic_step.specs.SerialStep.{World, e_of, b_of, drive_of, half_at, full_at}
use Rattle.pic_step.specs.Sound.{IsSafe}
use Rattle.pic_record.specs.Readable.{IsReadableStop}
use Rattle.pic_run_laws.proofs.ScaledSizes.{scaled_size}

-- the next cell up or down is one of the grid's
up_within : (n : Triple) (a : Axis) (p : Triple) → IsWithin p n → IsWithin (up n a p) n
up_within n X p h = let x = h.x in record { x = mod_below (p.x + 1) n.x (omega (arith, x)); y = h.y; z = h.z }
up_within n Y p h = let y = h.y in record { x = h.x; y = mod_below (p.y + 1) n.y (omega (arith, y)); z = h.z }
up_within n Z p h = let z = h.z in record { x = h.x; y = h.y; z = mod_below (p.z + 1) n.z (omega (arith, z)) }

down_within : (n : Triple) (a : Axis) (p : Triple) → IsWithin p n → IsWithin (down n a p) n
down_within n X p h = let x = h.x in record { x = mod_below (p.x + (n.x - 1)) n.x (omega (arith, x)); y = h.y; z = h.z }
down_within n Y p h = let y = h.y in record { x = h.x; y = mod_below (p.y + (n.y - 1)) n.y (omega (arith, y)); z = h.z }
down_within n Z p h = let z = h.z in record { x = h.x; y = h.y; z = mod_below (p.z + (n.z - 1)) n.z (omega (arith, z)) }

-- a new value of B
pub half_size : (w : World) (a : Axis) (p : Triple) → IsMultiplier w.scales.e_to_b → IsSafe w.scales.e_force (e_of w) → IsSafe w.scales.b_force (b_of w)
    → IsWithin p w.cells → IsAtMost (half_at w a p) (2 ^ 124)
unfolding half_of
half_size w a p mult e_safe b_safe within =
    let n = w.cells in
    let old = (b_safe.bounded a p within).value.size in
    let second = next_axis a in
    let third = next_axis second in
    let one = (part third (up n second p) (up_within n second p within)).size in
    let two = (part third p within).size in
    let three = (part second (up n third p) (up_within n third p within)).size in
    let four = (part second p within).size in
    record { size = omega (arith, ints, old, one, two, three, four) }
  where
    part : (c : Axis) (q : Triple) → IsWithin q w.cells → IsAtMost (scaled (value_at (e_of w) c q) w.scales.e_to_b) (2 ^ 90 * (2 ^ 31 - 1))
    part c q inside = scaled_size (value_at (e_of w) c q) w.scales.e_to_b (2 ^ 90) mult (e_safe.bounded c q inside).value

-- a value and a curl of moderate values, less a current
curl_less : (n : Triple) (g : Axis → Triple → ℤ) (v j : ℤ) (a : Axis) (p : Triple)
    → ((c : Axis) (q : Triple) → IsWithin q n → IsAtMost (g c q) (2 ^ 90 * (2 ^ 31 - 1) + 2 ^ 64))
    → IsAtMost v (2 ^ 90) → IsAtMost j (2 ^ 96) → IsWithin p n → IsAtMost (v +ℤ curl_b n g a p -ℤ j) (2 ^ 124)
curl_less n g v j a p small value less within =
    let old = value.size in
    let current = less.size in
    let second = next_axis a in
    let third = next_axis second in
    let one = (small third p within).size in
    let two = (small third (down n second p) (down_within n second p within)).size in
    let three = (small second p within).size in
    let four = (small second (down n third p) (down_within n third p within)).size in
    record { size = omega (arith, ints, old, current, one, two, three, four) }

-- a new value of E, with the current j
pub full_size : (w : World) (j : Axis → Triple → ℤ) (a : Axis) (p : Triple) → IsMultiplier w.scales.b_to_e → IsSafe w.scales.e_force (e_of w)
    → IsSafe w.scales.b_force (b_of w) → AreLoops w.cells most_loops w.loops → IsAtMost (j a p) (2 ^ 96) → IsWithin p w.cells
    → IsAtMost (full_at j w a p) (2 ^ 124)
unfolding full_of
full_size w j a p mult e_safe b_safe loops small within =
    curl_less w.cells (driven_b w.scales (b_of w) (drive_of w)) (value_at (e_of w) a p) (j a p) a p part (e_safe.bounded a p within).value small within
  where
    part : (c : Axis) (q : Triple) → IsWithin q w.cells → IsAtMost (driven_b w.scales (b_of w) (drive_of w) c q) (2 ^ 90 * (2 ^ 31 - 1) + 2 ^ 64)
    part c q inside =
        let value = (scaled_size (value_at (b_of w) c q) w.scales.b_to_e (2 ^ 90) mult (b_safe.bounded c q inside).value).size in
        let drive = driven_size w.cells w.loops w.step loops c q in
        record { size = omega (arith, ints, value, drive) }

-- the stops that a place can have
abbrev value_stop : Phase → Axis → Triple → ℤ → Stop
value_stop phase a p v = FieldStop phase Value a (p.x ∷ p.y ∷ p.z ∷ []) v

abbrev force_stop : Phase → Multiplier → Axis → Triple → ℤ → Stop
force_stop phase by a p v = FieldStop phase Force a (p.x ∷ p.y ∷ p.z ∷ []) (scaled v by)

-- what stops a phase at a place
fault_fits : (l : LayoutView) (phase : Phase) (by : Multiplier) (a : Axis) (p : Triple) (v : ℤ) (stop : Stop) → IsMultiplier by → IsWithin p l.cells
    → IsAtMost v (2 ^ 124) → fault_of phase by a p v ≡ Some stop → IsReadableStop l stop
unfolding fault_of
fault_fits l phase by a p v stop mult within small is = go (ltb (2 ^ 90) (unsigned_abs v)) (ltb (2 ^ 44) (unsigned_abs (scaled v by))) refl refl is
  where
    go : (t u : Bool) → ltb (2 ^ 90) (unsigned_abs v) ≡ t → ltb (2 ^ 44) (unsigned_abs (scaled v by)) ≡ u
        → (if t then Some (value_stop phase a p v) else (if u then Some (force_stop phase by a p v) else None)) ≡ Some stop → IsReadableStop l stop
    go true u past other found =
        let same : value_stop phase a p v ≡ stop = cc in
        let most = small.size in
        subst (IsReadableStop l) same (record {
          axes = refl;
          place = within;
          number = record { past = ltb-true (2 ^ 90) (unsigned_abs v) past; fits = fits_signed_from_abs w128 v (omega (arith, most)) };
        })
    go false true within_bound past found =
        let same : force_stop phase by a p v ≡ stop = cc in
        let few : unsigned_abs v ≤ 2 ^ 90 = ltb-false (2 ^ 90) (unsigned_abs v) within_bound in
        let most = (scaled_size v by (2 ^ 90) mult (record { size = few })).size in
        subst (IsReadableStop l) same (record {
          axes = refl;
          place = within;
          number = record {
            past = ltb-true (2 ^ 44) (unsigned_abs (scaled v by)) past;
            fits = fits_signed_from_abs w128 (scaled v by) (omega (arith, most));
          };
        })
    go false false within_bound within_force found = absurd cc

-- what stops a phase
pub phase_stop_fits : (l : LayoutView) (phase : Phase) (by : Multiplier) (n : Triple) (g : Axis → Triple → ℤ) (stop : Stop) → n ≡ l.cells → IsMultiplier by
    → ((a : Axis) (p : Triple) → IsWithin p n → IsAtMost (g a p) (2 ^ 124)) → least_fault phase by origin n g ≡ Some stop → IsReadableStop l stop
phase_stop_fits l phase by n g stop cells mult small is =
    let found = (box_finds phase by origin n g).some stop is in
    let a = found.at.0 in
    let p = found.at.1 in
    let here = above_origin p in
    fault_fits l phase by a p (g a p) stop mult (subst (λ (m : Triple). IsWithin p m) cells found.within) (small a p found.within)
    ((λ k. fault_of phase by a (sym here k) (g a (sym here k))) ∙ found.found)
