-- The spelling of the driven loops in a header.
use Rattle.std.proofs.Common.{◌≡◌, ℕ, ℤ, zero, suc, ◌-◌, leb, true, List, [], ◌∷◌, ◌++◌, length, refl, ap, ◌∙◌, arith, length-append, append_assoc}
use Rattle.std.proofs.lemmas.Bool.{and_parts, leb-true}
use Rattle.pic_num.specs.declared.axis.Axis.{Axis}
use Rattle.pic_num.specs.declared.axis.Axis.TheVariants.{X, Y, Z}
use Rattle.pic_num.specs.Bytes.{u32_bytes}
use Rattle.pic_num.specs.Limits.{most_wave, most_drive}
use Rattle.pic_num.specs.Space.{Triple, triple, axis_number}
use Rattle.pic_block.specs.Cells.{axis_of}
use Rattle.pic_block.proofs.CellLaws.{axis_of-number}
use Rattle.pic_grid.specs.declared.loops.Loop.{Loop}
use Rattle.pic_fields.specs.Number.{is_from_to, is_at_most, i64_bytes}
use Rattle.pic_fields.proofs.Spells.{Spells}
use Rattle.pic_fields.proofs.SpellLaws.{FitsEach, spells_bind, spells_mapped, spells_last, spells_so, spells_each, right_4}
use Rattle.pic_fields.proofs.NumberLaws.{FitsU32, FitsI64, spells_within, spells_at_most}
use Rattle.pic_header.specs.HeaderText.{cells_bytes, wave_bytes, loop_bytes, loops_bytes}
use Rattle.pic_header.specs.HeaderFields.{out_of_limits, loop_axis_at, loop_cell_at, drive_at, numbers_at, wave_at, loop_of, loop_at, loops_at}

-- as many values as were asked for
pub fits_length : {A : Type 0} (G : List A → A → Type 0) (n : ℕ) (xs : List A) → FitsEach G n xs → length xs ≡ n
fits_length G zero xs fits = ap length fits
fits_length G (suc n) xs fits =
    let before = fits_length G n fits.before fits.so_far in
    let size = ap length fits.whole ∙ length-append fits.before (fits.last ∷ []) in
    omega (arith, before, size)

-- an axis and its number
pub axis_back : (n : ℕ) → is_from_to 0 2 n ≡ true → axis_number (axis_of n) ≡ n
axis_back zero is = refl
axis_back (suc zero) is = refl
axis_back (suc (suc zero)) is = refl
axis_back (suc (suc (suc n))) is =
    let most = leb-true (suc (suc (suc n))) 2 (and_parts (leb 0 (suc (suc (suc n)))) (leb (suc (suc (suc n))) 2) is).1 in
    absurd (omega (arith, most))

axis_fits : (a : Axis) → FitsU32 (is_from_to 0 2) (axis_number a)
axis_fits X = (omega arith, refl)
axis_fits Y = (omega arith, refl)
axis_fits Z = (omega arith, refl)

spells_axis : Spells loop_axis_at (λ a. u32_bytes (axis_number a)) (λ a. Unit {0})
unfolding loop_axis_at
spells_axis =
    spells_mapped axis_of axis_number (λ a. Unit {0}) (λ a u. axis_fits a) (λ a u. axis_of-number a) (λ n f. tt) (λ n f. axis_back n f.1)
    (spells_within out_of_limits 0 2)

-- a cell
abbrev three : ℕ → ℕ → ℕ → List ℕ
three x y z = x ∷ y ∷ z ∷ []

abbrev FitsBelow : ℕ → ℕ → Type 0
FitsBelow n k = FitsU32 (is_from_to 0 (n - 1)) k

abbrev FitsCell : Triple → List ℕ → Type 0
FitsCell n l =
    FitsBelow n.x (triple l).x
    × (FitsBelow n.y (triple l).y × (FitsBelow n.z (triple l).z × (l ≡ three (triple l).x (triple l).y (triple l).z)))

spells_cell : (n : Triple) → Spells (loop_cell_at n) (λ l. cells_bytes (triple l)) (FitsCell n)
unfolding loop_cell_at cells_bytes
spells_cell n =
    spells_so (λ l f. f) (λ l f. f) (λ l f. append_assoc (u32_bytes (triple l).x) (u32_bytes (triple l).y) (u32_bytes (triple l).z))
    (spells_bind (λ (l : List ℕ). (triple l).x) (λ a l f g. ap (λ (m : List ℕ). (triple m).x) g.1.1) (spells_within out_of_limits 0 (n.x - 1))
    (λ a. spells_bind (λ (l : List ℕ). (triple l).y) (λ b l f g. ap (λ (m : List ℕ). (triple m).y) g.1) (spells_within out_of_limits 0 (n.y - 1))
    (λ b. spells_last (λ c. three a b c) (λ (l : List ℕ). (triple l).z) (λ c. refl) (spells_within out_of_limits 0 (n.z - 1)))))

-- a wave
abbrev FitsDrive : ℤ → Type 0
FitsDrive v = FitsI64 (is_at_most most_drive) v

abbrev FitsNumbers : ℕ → List ℤ → Type 0
FitsNumbers count wave = FitsEach (λ before. FitsDrive) count wave

abbrev FitsWave : List ℤ → Type 0
FitsWave wave = FitsU32 (is_from_to 1 most_wave) (length wave) × FitsNumbers (length wave) wave

-- how many numbers there are, and the numbers
abbrev counted_wave : List ℤ → List ℕ
counted_wave wave = u32_bytes (length wave) ++ wave_bytes wave

spells_numbers : (count : ℕ) → Spells (numbers_at count) wave_bytes (FitsNumbers count)
unfolding numbers_at drive_at wave_bytes
spells_numbers count = spells_each (λ before. drive_at) i64_bytes (λ before. FitsDrive) count (λ before. spells_at_most out_of_limits most_drive)

spells_wave : Spells wave_at counted_wave FitsWave
unfolding wave_at
spells_wave =
    spells_bind (λ (wave : List ℤ). length wave) (λ count wave f g. fits_length (λ before. FitsDrive) count wave g) (spells_within out_of_limits 1 most_wave)
    spells_numbers

-- a loop
abbrev pub FitsLoop : Triple → Loop → Type 0
FitsLoop n l = Unit {0} × (FitsCell n l.cell × (FitsWave l.wave × (l ≡ loop_of l.axis l.cell l.wave)))

spells_loop : (n : Triple) → Spells (loop_at n) loop_bytes (FitsLoop n)
unfolding loop_at loop_bytes
spells_loop n =
    spells_so (λ l f. f) (λ l f. f)
    (λ l f. right_4 (u32_bytes (axis_number l.axis)) (cells_bytes (triple l.cell)) (u32_bytes (length l.wave)) (wave_bytes l.wave))
    (spells_bind (λ (l : Loop). l.axis) (λ a l f g. ap (λ (o : Loop). o.axis) g.1.1) spells_axis
    (λ axis. spells_bind (λ (l : Loop). l.cell) (λ b l f g. ap (λ (o : Loop). o.cell) g.1) (spells_cell n)
    (λ cell. spells_last (loop_of axis cell) (λ (l : Loop). l.wave) (λ wave. refl) spells_wave)))

abbrev pub FitsLoops : Triple → ℕ → List Loop → Type 0
FitsLoops n count loops = FitsEach (λ before. FitsLoop n) count loops

pub spells_loops : (n : Triple) (count : ℕ) → Spells (loops_at n count) loops_bytes (FitsLoops n count)
unfolding loops_at loops_bytes
spells_loops n count = spells_each (λ before. loop_at n) loop_bytes (λ before. FitsLoop n) count (λ before. spells_loop n)
