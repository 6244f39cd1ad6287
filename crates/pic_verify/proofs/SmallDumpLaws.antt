-- The small dump meets the conditions of those that are verified.
use Rattle.std.proofs.Common.{◌≡◌, ℕ, zero, suc, pos, negsuc, ◌<◌, ◌≤◌, ◌*ℤ◌, ◌+ℤ◌, ◌-ℤ◌, ◌≤ℤ◌, ◌<ℤ◌}
use Rattle.std.proofs.Common.{List, [], ◌∷◌, length, get_or, replicate, All, refl, sym, ap, ◌∙◌, arith}
use Rattle.std.proofs.lemmas.Int.{ints}
use Rattle.std.proofs.lemmas.List.Elements.{All-replicate}
use Rattle.pic_num.specs.declared.axis.Axis.{Axis}
use Rattle.pic_num.specs.declared.axis.Axis.TheVariants.{X, Y, Z}
use Rattle.pic_num.specs.Multiplier.{IsMultiplier}
use Rattle.pic_num.specs.Rounding.{scaled, rounded}
use Rattle.pic_num.specs.Space.{Triple, triple, spot, along}
use Rattle.pic_num.specs.Velocity.{too_fast, IsKeptVelocity}
use Rattle.pic_num.proofs.VersionLaws.{side_of_bits}
use Rattle.pic_block.specs.Cells.{place_of}
use Rattle.pic_block.proofs.ShapeLaws.{zero_read}
use Rattle.pic_grid.specs.Differences.{div_e, down}
use Rattle.pic_grid.specs.Hat.{weight}
use Rattle.pic_grid.specs.Lattice.{value_at}
use Rattle.pic_grid.specs.Sums.{sum_over}
use Rattle.pic_grid.specs.Species.{HeadView, no_head, IsName, IsKind}
use Rattle.pic_filter.specs.Smoothing.{filtered}
use Rattle.pic_charge.specs.Charge.{share, charge_of, rho_of}
use Rattle.pic_energy.specs.Energies.{square_of, kinetic_of, kinetic_sum, square_sum, energies_of}
use Rattle.pic_header.specs.Header.{IsHeader, HasMultipliers}
use Rattle.pic_record.specs.FrameFields.{FrameView, IsModerate, field_with}
use Rattle.pic_record.specs.Layout.{LayoutView, layout_of}
use Rattle.pic_record.specs.Readable.{IsReadableField, IsReadableParticle, IsReadableFrame}
use Rattle.pic_dump.specs.Readable.{IsDueFrame}
use Rattle.pic_verify.specs.SmallDump.{one, small_header, resting_ion, small_frame, SmallDumpIsGood}
use Rattle.pic_verify.specs.Verified.{ObeysGauss}

abbrev small_layout : LayoutView
small_layout = layout_of small_header

-- the header
one_is : IsMultiplier one
one_is = record { n_in_range = record { size = omega arith }; k_in_range = omega arith }

names : (i : ℕ) → i < 2 → IsName (get_or small_header.species i no_head).name
names zero below = record { least = omega arith; most = omega arith; bytes = refl }
names (suc zero) below = record { least = omega arith; most = omega arith; bytes = refl }
names (suc (suc i)) below = absurd (omega (arith, below))

kinds : (i : ℕ) → i < 2 → IsKind (get_or small_header.species i no_head).kind
kinds zero below = record { charge_low = omega (arith, ints); charge_high = omega (arith, ints); mass_low = omega arith; mass_high = omega arith }
kinds (suc zero) below = record { charge_low = omega (arith, ints); charge_high = omega (arith, ints); mass_low = omega arith; mass_high = omega arith }
kinds (suc (suc i)) below = absurd (omega (arith, below))

differ : (i j : ℕ) → i < j → j < 2 → (get_or small_header.species i no_head).name ≡ (get_or small_header.species j no_head).name → ⊥
differ zero zero less below same = absurd (omega (arith, less))
differ zero (suc zero) less below same = (let size : 3 ≡ 8 = ap (λ (n : List ℕ). length n) same in omega (arith, size))
differ zero (suc (suc j)) less below same = absurd (omega (arith, below))
differ (suc i) j less below same = absurd (omega (arith, less, below))

mults : (i : ℕ) (d : HeadView) → i < 2 → HasMultipliers (get_or small_header.species i d).kind
mults zero d below = record { kick = one_is; turn = one_is }
mults (suc zero) d below = record { kick = one_is; turn = one_is }
mults (suc (suc i)) d below = absurd (omega (arith, below))

header_is : IsHeader small_header
header_is = record {
  limits = record {
    version = record { least = omega arith; most = omega arith };
    grid = record { x = omega arith; y = omega arith; z = omega arith; sides = side_of_bits 1 12 (omega arith) (omega arith) };
    steps_most = omega arith;
    every_least = omega arith;
    every_most = omega arith;
    filter = omega arith;
    heads = record { few = omega arith; names = names; kinds = kinds; differ = differ; total = omega arith };
    loops = record { few = omega arith; each = λ i d below. absurd (omega (arith, below)) };
  };
  cells = record { x_least = omega arith; x_most = omega arith; y_least = omega arith; y_most = omega arith; z_least = omega arith; z_most = omega arith };
  scales = record { e_to_b = one_is; b_to_e = one_is; e_force = one_is; b_force = one_is };
  kinds = mults;
  axes = λ i d below. absurd (omega (arith, below));
}

-- the frame
moderate : IsModerate one (pos 0)
unfolding scaled rounded
moderate = record { value = record { size = omega arith }; force = record { size = omega arith } }

field_is : IsReadableField small_layout.cells one (replicate 24 (pos 0))
field_is = record { count = refl; moderate = All-replicate (IsModerate one) 24 (pos 0) moderate }

slow : (v : ℕ) → v ≤ 5 → IsKeptVelocity 4096 (spot (pos v ∷ pos 0 ∷ pos 0 ∷ []))
slow v small = record { least = least; most = most }
  where
    least : (a : Axis) → (pos 0 -ℤ pos (too_fast 4096)) ≤ℤ along a (spot (pos v ∷ pos 0 ∷ pos 0 ∷ []))
    least X = omega (arith, ints)
    least Y = omega (arith, ints)
    least Z = omega (arith, ints)

    most : (a : Axis) → along a (spot (pos v ∷ pos 0 ∷ pos 0 ∷ [])) <ℤ pos (too_fast 4096)
    most X = omega (arith, ints, small)
    most Y = omega (arith, ints)
    most Z = omega (arith, ints)

particles_are : All (IsReadableParticle small_layout) small_frame.particles
particles_are zero d below =
    record { axes = refl; place = record { x = omega arith; y = omega arith; z = omega arith }; speeds = refl; velocity = slow 0 (omega arith); species = refl }
particles_are (suc zero) d below =
    record { axes = refl; place = record { x = omega arith; y = omega arith; z = omega arith }; speeds = refl; velocity = slow 5 (omega arith); species = refl }
particles_are (suc (suc i)) d below = absurd (omega (arith, below))

frame_is : IsReadableFrame small_layout small_frame
unfolding energies_of kinetic_sum kinetic_of square_sum square_of scaled rounded
frame_is = record { e = field_is; b = field_is; identities = refl; particles = particles_are; energies = refl }

-- there is no field, and the charges of the two cancel
no_divergence : (p : Triple) → div_e small_layout.cells (value_at (field_with small_layout small_frame.e)) p ≡ pos 0
no_divergence p =
    let n = small_layout.cells in
    let x = zero_read 24 (place_of n X p) in
    let y = zero_read 24 (place_of n Y p) in
    let z = zero_read 24 (place_of n Z p) in
    let x_down = zero_read 24 (place_of n X (down n X p)) in
    let y_down = zero_read 24 (place_of n Y (down n Y p)) in
    let z_down = zero_read 24 (place_of n Z (down n Z p)) in
    omega (arith, ints, x, y, z, x_down, y_down, z_down)

cancel : (w : ℕ) → pos 12 *ℤ pos 1 *ℤ pos w +ℤ (pos 12 *ℤ negsuc 0 *ℤ pos w +ℤ pos 0) ≡ pos 0
cancel w = omega (arith, ints)

no_charge : (p : Triple) → rho_of small_layout.side small_layout.filter small_layout.cells small_layout.kinds small_frame.particles p ≡ pos 0
unfolding rho_of filtered charge_of share sum_over
no_charge p = cancel (weight small_layout.side small_layout.cells (triple resting_ion.x) p)

neutral : ObeysGauss small_layout small_frame
neutral = record { at_node = λ p within. no_divergence p ∙ sym (no_charge p) }

pub small_dump_is_good : SmallDumpIsGood
small_dump_is_good = record {
  readable = record {
    header = header_is;
    last = 0;
    count = refl;
    in_turn = λ k d below. in_turn k d below;
    end = record {
      behind = omega arith;
      before = omega arith;
      fits = record { identity = omega arith; number = record { past = omega arith; fits = record { sfits = omega arith } } };
    };
  };
  gauss = λ k d below. gauss k d below;
}
  where
    in_turn : (k : ℕ) (d : FrameView) → k < 1 → IsDueFrame small_layout k (get_or (small_frame ∷ []) k d)
    in_turn zero d below = record { due = refl; fits = frame_is }
    in_turn (suc k) d below = absurd (omega (arith, below))

    gauss : (k : ℕ) (d : FrameView) → k < 1 → ObeysGauss small_layout (get_or (small_frame ∷ []) k d)
    gauss zero d below = neutral
    gauss (suc k) d below = absurd (omega (arith, below))
