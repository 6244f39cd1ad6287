-- A part of a field's values, or of the particles, and how many bytes it has.
use Rattle.std.proofs.Common.{◌≡◌, ℕ, ℤ, ◌+◌, ◌-◌, ◌*◌, ◌<◌, ◌≤◌, List, [], ◌∷◌, ◌++◌, length, set, take, drop, inl, inr, sym, ap, subst, ◌∙◌, arith}
use Rattle.std.proofs.Common.{take-append-drop, length-append, append_assoc}
use Rattle.std.proofs.lemmas.List.{take_more_set, take-set-le, take-take, length-take, length-take-le, drop-append-le, drop_all}
use Rattle.std.proofs.lemmas.Bool.{cases_lt}
use Rattle.std.proofs.Math.Seq.{take-append_seam}
use Rattle.std.specs.Prelude.{nat_eq}
use Rattle.pic_block.specs.Block.{overwritten}
use Rattle.pic_block.proofs.WrittenLaws.{written_before, written_part}
use Rattle.pic_record.specs.Firsts.{FirstAre}
use Rattle.pic_num.specs.declared.motion.Particle.{Particle}
use Rattle.pic_num.specs.Multiplier.{Multiplier}
use Rattle.pic_num.specs.Space.{Triple}
use Rattle.pic_energy.specs.declared.amounts.Energies.{Energies}
use Rattle.pic_fields.specs.Number.{i128_of, i128_at, u128_of, u128_at, u32_of, u32_at, i32_of, i32_at, is_between, between}
use Rattle.pic_fields.specs.Parser.{each}
use Rattle.pic_fields.specs.Pieces.{each_behind}
use Rattle.pic_fields.proofs.LengthLaws.{IsOfLength, of_done, of_then, of_mapped, of_field, of_checked, of_each}
use Rattle.pic_record.specs.Fields.{strong_value, out_of_range, wrong_energy, is_below, below}
use Rattle.pic_record.specs.FrameFields.{is_moderate, value_at, energy_at, energies_at, coordinate_at}
use Rattle.pic_record.specs.FrameFields.{position_at, speed_at, velocity_at, particle_with, particle_at}
use Rattle.pic_record.specs.Layout.{LayoutView}

-- none so far
pub part_none : {A : Type 0} (first : ℕ) (xs : List A) → drop first (take (first + 0) xs) ≡ []
part_none first xs = drop_all first (take (first + 0) xs) (omega (arith, length-take (first + 0) xs))

-- one more
pub part_more : {A : Type 0} (first i : ℕ) (xs : List A) (x : A) → first + i < length xs
    → drop first (take (first + i) xs) ++ x ∷ [] ≡ drop first (take (first + (i + 1)) (set xs (first + i) x))
part_more first i xs x inside =
    let next : first + i + 1 ≡ first + (i + 1) = omega arith in
    let size = length-take-le (first + i) xs (omega (arith, inside)) in
    sym (drop-append-le first (take (first + i) xs) (x ∷ []) (omega (arith, size)))
    ∙ ap (drop first) (sym (take_more_set xs (first + i) x inside))
    ∙ ap (λ n. drop first (take n (set xs (first + i) x))) next

-- what stands before them stays
pub front_stays : {A : Type 0} (first i : ℕ) (xs : List A) (x : A) → take first (set xs (first + i) x) ≡ take first xs
front_stays first i xs x = take-set-le first xs (first + i) x (omega arith)

-- with what stands before them
pub part_whole : {A : Type 0} (first count : ℕ) (old new : List A) → take first new ≡ take first old
    → take first old ++ drop first (take (first + count) new) ≡ take (first + count) new
part_whole first count old new front =
    ap (λ l. l ++ drop first (take (first + count) new)) (sym front ∙ sym (take-take first (first + count) new (omega arith)))
    ∙ take-append-drop first (take (first + count) new)

-- the values so far with those of a piece are so too,
pub first_with_piece : (Is : ℤ → Type 0) (first : ℕ) (vs xs : List ℤ) → first ≤ length xs → FirstAre Is first xs → FirstAre Is (length vs) vs
    → FirstAre Is (first + length vs) (overwritten first vs xs)
first_with_piece Is first vs xs room before piece k d below =
    let rest = drop (first + length vs) xs in
    elim (cases_lt k first) [
      | inl less ↦ subst Is (sym (written_before xs vs rest first room k d less)) (before k d less)
      | inr least ↦ (let inside : k - first < length vs = omega (arith, below, least) in
          subst Is (sym (written_part xs vs rest first room k d least inside)) (piece (k - first) d inside))
    ]

-- and stand in front
pub taken_with_piece : (first : ℕ) (vs xs : List ℤ) → first ≤ length xs → take first xs ++ vs ≡ take (first + length vs) (overwritten first vs xs)
taken_with_piece first vs xs room =
    let rest = drop (first + length vs) xs in
    let front = length-take-le first xs room in
    let long : length (take first xs ++ vs) ≡ first + length vs = length-append (take first xs) vs ∙ ap (λ n. n + length vs) front in
    sym (ap (take (first + length vs)) (sym (append_assoc (take first xs) vs rest))
    ∙ ap (λ n. take n ((take first xs ++ vs) ++ rest)) (sym long)
    ∙ take-append_seam (take first xs ++ vs) rest)

-- the bytes of a value
of_value : (by : Multiplier) (before : List ℤ) → IsOfLength (value_at by before) 16
unfolding value_at i128_at
of_value by before = of_checked strong_value (is_moderate by) 16 (of_mapped i128_of 16 (of_field 16))

pub of_values : (by : Multiplier) (n : ℕ) → IsOfLength (each n (value_at by)) (n * 16)
of_values by n = of_each (value_at by) 16 n (of_value by)

-- the bytes of a particle
of_coordinate : (side cells : ℕ) → IsOfLength (coordinate_at side cells) 4
unfolding coordinate_at below u32_at
of_coordinate side cells = of_checked out_of_range (is_below (cells * side)) 4 (of_mapped u32_of 4 (of_field 4))

of_position : (side : ℕ) (n : Triple) → IsOfLength (position_at side n) 12
unfolding position_at
of_position side n =
    of_then _ 4 8 (of_coordinate side n.x) (λ x. of_then _ 4 4 (of_coordinate side n.y) (λ y. of_then _ 4 0 (of_coordinate side n.z) (λ z. of_done _)))

of_speed : (side : ℕ) → IsOfLength (speed_at side) 4
unfolding speed_at between i32_at
of_speed side = of_checked out_of_range (is_between _ _) 4 (of_mapped i32_of 4 (of_field 4))

of_velocity : (side : ℕ) → IsOfLength (velocity_at side) 12
unfolding velocity_at
of_velocity side = of_then _ 4 8 (of_speed side) (λ x. of_then _ 4 4 (of_speed side) (λ y. of_then _ 4 0 (of_speed side) (λ z. of_done _)))

of_particle : (l : LayoutView) (before : List Particle) → IsOfLength (particle_at l before) 24
unfolding particle_at particle_with
of_particle l before = of_then _ 12 12 (of_position l.side l.cells) (λ x. of_then _ 12 0 (of_velocity l.side) (λ v. of_done _))

pub of_particles : (l : LayoutView) (before : List Particle) (n : ℕ) → IsOfLength (each_behind before n (particle_at l)) (n * 24)
of_particles l before n = of_each (λ xs. particle_at l (before ++ xs)) 24 n (λ xs. of_particle l (before ++ xs))

-- the elements in front and those of a part
pub part_size : {A : Type 0} (first i : ℕ) (old new : List A) → take first new ≡ take first old → first + i ≤ length new
    → length (take first old ++ drop first (take (first + i) new)) ≡ first + i
part_size first i old new front inside = ap length (part_whole first i old new front) ∙ length-take-le (first + i) new inside

-- the bytes of the energies
of_energy : (want : ℕ) → IsOfLength (energy_at want) 16
unfolding energy_at u128_at
of_energy want = of_checked wrong_energy (nat_eq want) 16 (of_mapped u128_of 16 (of_field 16))

pub of_energies : (want : Energies) → IsOfLength (energies_at want) 48
unfolding energies_at
of_energies want =
    of_then _ 16 32 (of_energy want.kinetic) (λ k. of_then _ 16 16 (of_energy want.electric) (λ e. of_then _ 16 0 (of_energy want.magnetic) (λ m. of_done _)))
