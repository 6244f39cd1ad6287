-- Every header within its limits is read from its text.
use Rattle.std.proofs.Common.{◌≡◌, ℕ, zero, suc, ◌+◌, ◌-◌, ◌^◌, ◌<◌, ◌≤◌, Bool, true, false, not, ◌&&◌, eqb, leb, pos, negsuc, List, [], ◌∷◌, ◌++◌}
use Rattle.std.proofs.Common.{length, get_or, take, replicate, refl, sym, ap, subst, arith}
use Rattle.std.specs.List.{list_all, list_any}
use Rattle.std.specs.Str.{bytes_eq}
use Rattle.std.proofs.Math.Seq.{drop-append_seam}
use Rattle.std.proofs.Math.Nat.{le_trans}
use Rattle.std.proofs.lemmas.Bool.{and_parts, and_from, le-leb, ne_eqb, eqb-true}
use Rattle.std.proofs.lemmas.Bool.Decides.{nat_tests}
use Rattle.std.proofs.lemmas.Int.{ints}
use Rattle.std.proofs.lemmas.List.{length-append, length-replicate, length-take-le, get_or-take}
use Rattle.std.proofs.lemmas.List.Elements.{All-get_or, All-from_get_or}
use Rattle.std.proofs.lemmas.List.Folds.{list_any_none}
use Rattle.std.proofs.lemmas.List.Sums.{sum_by_more_le}
use Rattle.std.proofs.lemmas.Slice.Eq.{bytes_eq-Decides}
use Rattle.pic_num.specs.Multiplier.{Multiplier, IsMultiplier}
use Rattle.pic_num.specs.Limits.{most_version, allowance_of, fewest_cells_of_axis, fewest_bits, most_bits}
use Rattle.pic_num.specs.Limits.{most_filter, most_loops, most_wave, most_drive, most_mass, most_species}
use Rattle.pic_num.specs.Space.{Triple, triple}
use Rattle.pic_num.specs.Sub.{bits_of}
use Rattle.pic_num.specs.Versions.{IsSideOf}
use Rattle.pic_num.proofs.VersionLaws.{within_scheme, side_of_version_1}
use Rattle.pic_num.specs.declared.axis.Axis.TheVariants.{X}
use Rattle.pic_block.specs.Cells.{IsCells}
use Rattle.pic_grid.specs.declared.loops.Loop.{Loop}
use Rattle.pic_grid.specs.Loops.{IsLoop}
use Rattle.pic_grid.specs.Species.{HeadView, no_head, IsName, IsKind, is_name_byte}
use Rattle.pic_fields.specs.Parser.{input}
use Rattle.pic_fields.specs.Number.{is_from_to, is_between, is_at_most}
use Rattle.pic_fields.specs.Bytes.{IsBytes}
use Rattle.pic_fields.proofs.NumberLaws.{FitsU32, FitsI32, FitsI64}
use Rattle.pic_fields.proofs.SpellLaws.{fits_each}
use Rattle.pic_header.specs.HeaderText.{name_bytes, header_bytes}
use Rattle.pic_header.specs.Header.{HeaderView, IsHeader, HasMultipliers}
use Rattle.pic_header.specs.Limits.{most_steps}
use Rattle.pic_header.specs.HeaderFields.{Form, name_of, is_name_field, particles_of, header_length}
use Rattle.pic_header.proofs.LoopLaws.{loops_of_version}
use Rattle.pic_header.proofs.LoopSpells.{FitsLoop}
use Rattle.pic_header.proofs.HeaderSpells.{FitsName, FitsHead, FitsFormBy, form_in, FitsHeader, spells_header}
use Rattle.pic_header.proofs.RunLaws.{header_place}
use Rattle.pic_header.specs.Readable.{HeadersAreRead}
use Rattle.pic_fields.proofs.FitLaws.{fits_from_to, fits_between, fits_at_most, three_are}

-- a multiplier
mult_fits : (m : Multiplier) → IsMultiplier m
    → FitsI32 (is_between (negsuc 2147483646) (pos 2147483647)) m.n × (FitsU32 (is_from_to 0 62) m.k × (m ≡ record { n = m.n; k = m.k }))
mult_fits m is =
    let size = is.n_in_range.size in (
      fits_between (negsuc 2147483646) (pos 2147483647) m.n 2147483647 (omega arith) is.n_in_range (omega (arith, ints, size)) (omega (arith, ints, size)),
      (fits_from_to 0 62 m.k (omega arith) (omega arith) is.k_in_range, refl),
    )

-- a name and the zeros behind it
name_byte_small : (b : ℕ) → is_name_byte b ≡ true → (0 < b) × (b < 256)
name_byte_small b is = (grind (arith, nat_tests), grind (arith, nat_tests))

zeros_small : (n : ℕ) → IsBytes (replicate n 0)
zeros_small zero i = omega arith
zeros_small (suc n) zero = omega arith
zeros_small (suc n) (suc i) = zeros_small n i

zeros_pass : (n : ℕ) → list_all (eqb 0) (replicate n 0) ≡ true
zeros_pass zero = refl
zeros_pass (suc n) = zeros_pass n

name_small : (name : List ℕ) (n : ℕ) → list_all is_name_byte name ≡ true → IsBytes (name ++ replicate n 0)
name_small [] n all i = zeros_small n i
name_small (b ∷ name) n all zero = (name_byte_small b (and_parts (is_name_byte b) (list_all is_name_byte name) all).0).1
name_small (b ∷ name) n all (suc i) = name_small name n (and_parts (is_name_byte b) (list_all is_name_byte name) all).1 i

name_before_zeros : (name : List ℕ) (n : ℕ) → list_all is_name_byte name ≡ true → name_of (name ++ replicate n 0) ≡ name
name_before_zeros [] zero all = refl
name_before_zeros [] (suc n) all = refl
name_before_zeros (b ∷ name) n all =
    let (first, rest) = and_parts (is_name_byte b) (list_all is_name_byte name) all in
    let some = (name_byte_small b first).0 in
    rw (ne_eqb b 0 (λ none. omega (arith, some, none))) (ap (λ l. b ∷ l) (name_before_zeros name n rest))

-- the field of a name is a name's
field_passes : (name : List ℕ) → IsName name → is_name_field (name_bytes name) ≡ true
unfolding name_bytes
field_passes name is =
    let zeros = replicate (32 - length name) 0 in
    let back = name_before_zeros name (32 - length name) is.bytes in
    let behind = drop-append_seam name zeros in
    rw (back, behind)
    (and_from (leb 1 (length name) && list_all is_name_byte name) (list_all (eqb 0) zeros)
    (and_from (leb 1 (length name)) (list_all is_name_byte name) (le-leb 1 (length name) is.least) is.bytes) (zeros_pass (32 - length name)))

abbrev Differs : List HeadView → List ℕ → Type 0
Differs before name = (i : ℕ) → i < length before → (get_or before i no_head).name ≡ name → ⊥

others : (before : List HeadView) (name : List ℕ) → Differs before name → list_any (λ (h : HeadView). bytes_eq h.name name) before ≡ false
others before name differs =
    list_any_none (λ (h : HeadView). bytes_eq h.name name) before (All-from_get_or (λ (h : HeadView). bytes_eq h.name name ≡ false) before no_head
    (λ i below. go (get_or before i no_head).name (differs i below) (bytes_eq (get_or before i no_head).name name) refl))
  where
    go : (other : List ℕ) → (other ≡ name → ⊥) → (v : Bool) → bytes_eq other name ≡ v → bytes_eq other name ≡ false
    go other apart true is = absurd (apart ((bytes_eq-Decides other name).0 is))
    go other apart false is = is

name_fits : (before : List HeadView) (name : List ℕ) → IsName name → Differs before name → FitsName before name
unfolding name_bytes
name_fits before name is differs =
    let n = 32 - length name in
    let size = length-append name (replicate n 0) in
    let zeros = length-replicate {A = ℕ} n 0 in
    let most = is.most in
    let back = name_before_zeros name n is.bytes in
    record {
      size = record { size = omega (arith, size, zeros, most); small = name_small name n is.bytes };
      good = and_from (is_name_field (name_bytes name)) (not (list_any (λ (h : HeadView). bytes_eq h.name (name_of (name_bytes name))) before))
          (field_passes name is) (rw (back, others before name differs) refl);
      back = back;
    }

-- a species behind others
head_fits : (most : ℕ) (before : List HeadView) (h : HeadView) → IsName h.name → IsKind h.kind → HasMultipliers h.kind → Differs before h.name
    → most < 2 ^ 32 → particles_of before + h.count ≤ most → FitsHead most before h
head_fits most before h name kind mults differs small total =
    let low = kind.charge_low in
    let high = kind.charge_high in (
      name_fits before h.name name differs,
      (
        (
          fits_between (negsuc 32767) (pos 32767) h.kind.charge 32768 (omega arith) (record { size = omega (arith, ints, low, high) }) low high,
          (
            fits_from_to 1 most_mass h.kind.mass (omega arith) kind.mass_low kind.mass_high,
            (mult_fits h.kind.kick mults.kick, (mult_fits h.kind.turn mults.turn, refl)),
          ),
        ),
        (fits_from_to 0 (most - particles_of before) h.count (omega (arith, small)) (omega arith) (omega (arith, total)), refl),
      ),
    )

-- a digit
fits_from_to_byte : (low high n : ℕ) → high < 256 → low ≤ n → n ≤ high → (n < 256) × (is_from_to low high n ≡ true)
fits_from_to_byte low high n small least most = (omega (arith, small, most), and_from (leb low n) (leb n high) (le-leb low n least) (le-leb n high most))

-- a loop that isn't there
abbrev no_loop : Loop
no_loop = record { axis = X; cell = []; wave = [] }

-- a driven loop
loop_fits : (n : Triple) (l : Loop) → IsCells n → IsLoop n l → length l.cell ≡ 3 → FitsLoop n l
loop_fits n l c is three =
    let cell = triple l.cell in
    let x = c.x_most in
    let y = c.y_most in
    let z = c.z_most in
    let w = is.within in (
      tt,
      (
        (
          fits_from_to 0 (n.x - 1) cell.x (omega (arith, x)) (omega arith) (let less = w.x in omega (arith, less)),
          (
            fits_from_to 0 (n.y - 1) cell.y (omega (arith, y)) (omega arith) (let less = w.y in omega (arith, less)),
            (
              fits_from_to 0 (n.z - 1) cell.z (omega (arith, z)) (omega arith) (let less = w.z in omega (arith, less)),
              three_are 0 l.cell three,
            ),
          ),
        ),
        (
          (
            fits_from_to 1 most_wave (length l.wave) (omega arith) is.some is.most,
            fits_each (λ before v. FitsI64 (is_at_most most_drive) v) (pos 0) (length l.wave) l.wave refl
                (λ i below. fits_at_most most_drive (get_or l.wave i (pos 0)) (omega arith) (is.sizes i (pos 0) below)),
          ),
          refl,
        ),
      ),
    )

-- what version 2 says more
form_fits : (first : Bool) (version : ℕ) (f : Form) → eqb version 1 ≡ first → IsSideOf version f.side → f.filter ≤ (allowance_of version).filter
    → f.loops ≤ (allowance_of version).loops → FitsFormBy first version f
form_fits true version f is sides few some =
    let same = eqb-true version 1 is in
    let side = subst (λ v. f.side ≡ 2 ^ (allowance_of v).least_bits) (sym same) (side_of_version_1 f.side (subst (λ v. IsSideOf v f.side) same sides)) in
    let none : f.filter ≤ 0 = subst (λ v. f.filter ≤ (allowance_of v).filter) same few in
    let zero : f.filter ≡ 0 = omega (arith, none) in
    let no_loops : f.loops ≤ 0 = subst (λ v. f.loops ≤ (allowance_of v).loops) same some in
    let no_loop : f.loops ≡ 0 = omega (arith, no_loops) in
    λ i. record { side = side i; filter = zero i; loops = no_loop i }
form_fits false version f is sides few some =
    let scheme = within_scheme version in (
      fits_from_to fewest_bits most_bits (bits_of f.side) (omega arith) (le_trans scheme.least_bits sides.least) (le_trans sides.most scheme.greatest_bits),
      (
        fits_from_to 0 most_filter f.filter (omega arith) (omega arith) (le_trans few scheme.filter),
        (
          fits_from_to 0 most_loops f.loops (omega arith) (omega arith) (le_trans some (loops_of_version version)),
          (λ i. record { side = sides.power i; filter = f.filter; loops = f.loops }),
        ),
      ),
    )

-- all parts of a header
header_fits : (h : HeaderView) → IsHeader h → FitsHeader h
header_fits h is =
    let l = is.limits in
    let c = is.cells in
    let s = is.scales in
    let heads = l.heads in
    let scheme = within_scheme h.version in
    let few = scheme.cells in
    let count = length h.species in
    let most = (allowance_of h.version).cells in
    let least = l.version.least in
    let last = l.version.most in (
      (refl, fits_from_to_byte (48 + 1) (48 + most_version) (48 + h.version) (omega arith) (omega (arith, least)) (omega (arith, last))),
      (
        (
          (
            fits_from_to fewest_cells_of_axis most h.cells.x (omega (arith, few)) c.x_least l.grid.x,
            (
              fits_from_to fewest_cells_of_axis most h.cells.y (omega (arith, few)) c.y_least l.grid.y,
              (fits_from_to fewest_cells_of_axis most h.cells.z (omega (arith, few)) c.z_least l.grid.z, refl),
            ),
          ),
          (
            fits_from_to 0 most_steps h.steps (omega arith) (omega arith) l.steps_most,
            (
              fits_from_to 1 most_steps h.every (omega arith) l.every_least l.every_most,
              (
                (
                  mult_fits h.scales.e_to_b s.e_to_b,
                  (mult_fits h.scales.b_to_e s.b_to_e, (mult_fits h.scales.e_force s.e_force, (mult_fits h.scales.b_force s.b_force, refl))),
                ),
                refl,
              ),
            ),
          ),
        ),
        (
          form_fits (eqb h.version 1) h.version (form_in h) refl l.grid.sides l.filter l.loops.few,
          (
            (
              fits_from_to 0 most_species count (omega arith) (omega arith) heads.few,
              fits_each (FitsHead (allowance_of h.version).particles) no_head count h.species refl (λ i below. species_fits i below),
            ),
            (
              fits_each (λ before. FitsLoop h.cells) no_loop (length h.loops) h.loops refl
                  (λ i below. loop_fits h.cells (get_or h.loops i no_loop) c (l.loops.each i no_loop below) (is.axes i no_loop below)),
              refl,
            ),
          ),
        ),
      ),
    )
  where
    species_fits : (i : ℕ) → i < length h.species → FitsHead (allowance_of h.version).particles (take i h.species) (get_or h.species i no_head)
    species_fits i below =
        let heads = is.limits.heads in
        let xs = h.species in
        let some = (within_scheme h.version).particles in
        let size = length-take-le i xs (omega (arith, below)) in
        let sums = sum_by_more_le (λ (s : HeadView). s.count) xs i no_head below in
        head_fits (allowance_of h.version).particles (take i xs) (get_or xs i no_head) (heads.names i below) (heads.kinds i below)
        (All-get_or (λ (s : HeadView). HasMultipliers s.kind) xs i no_head below is.kinds)
        (λ k less. (let inside : k < i = omega (arith, less, size) in
        rw (get_or-take i xs k no_head inside) (heads.differ k i inside below)))
        (omega (arith, some))
        (omega (arith, sums, heads.total))

pub headers_are_read : HeadersAreRead
headers_are_read h is place rest = spells_header.again place rest h (header_fits h is)

-- how many bytes its text has
pub text_length : (h : HeaderView) → IsHeader h → length (header_bytes h) ≡ header_length h
text_length h is =
    let size = length (header_bytes h) in
    let end = header_place (input 0 (header_bytes h ++ [])) (input (0 + size) []) h (headers_are_read h is 0 []) in
    omega (arith, end)
