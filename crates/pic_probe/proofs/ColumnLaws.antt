-- The words of a line beside the columns that it was made of.
use Rattle.std.proofs.Common.{◌≡◌, ℤ, pos, negsuc, ℕ, zero, suc, ◌+◌, ◌-◌, ◌*◌, ◌/◌, ◌%◌, ◌<◌, ◌≤◌, ◌==◌, Bool, true, false, if◌then◌else◌}
use Rattle.std.proofs.Common.{List, [], ◌∷◌, ◌++◌, length, get_or, take, map, slice_index, refl, ap, ◌∙◌, append-nil, arith}
use Rattle.std.specs.Prelude.{flat_map, nat_lt}
use Rattle.std.specs.Fmt.{decimal, signed_decimal, digits, digits_onto, digit_glyph}
use Rattle.std.specs.List.{All, slice_split}
use Rattle.std.proofs.Math.Seq.{take-append_seam}
use Rattle.std.proofs.lemmas.Bool.Decides.{nat_tests}
use Rattle.std.proofs.lemmas.List.{get_or-map, length-append, length-map, get_or_append_left, get_or-append-add}
use Rattle.std.proofs.lemmas.List.Elements.{All-nil, All-cons, All-append, All-map, All-head, All-tail, All-from_recursion}
use Rattle.std.proofs.lemmas.List.Splits.{slice_split_none, slice_split_at}
use Rattle.pic_num.specs.declared.axis.Axis.{Axis}
use Rattle.pic_num.specs.declared.motion.Particle.{Particle}
use Rattle.pic_num.specs.Space.{Triple, triple, spot}
use Rattle.pic_devices.specs.declared.probes.Probes.{Probes}
use Rattle.pic_probe.specs.Columns.{no_place, words_of, AreColumns, LinesHaveColumns}
use Rattle.pic_probe.specs.ProbeLine.{value_of, particle_with, track_of, columns, probe_line}
use Rattle.pic_probe.proofs.LineLaws.{spaced}

-- a byte that isn't a space
abbrev IsSpaceless : List ℕ → Type 0
IsSpaceless bytes = All (λ b. (b == 32) ≡ false) bytes

no_space : (b : ℕ) → 33 ≤ b → (b == 32) ≡ false
no_space b above = grind (arith, nat_tests)

glyph_above : (t : Bool) (d : ℕ) → 33 ≤ (if t then 48 + d else 87 + d)
glyph_above true d = omega arith
glyph_above false d = omega arith

glyph_spaceless : (d : ℕ) → (digit_glyph false d == 32) ≡ false
glyph_spaceless d = no_space (digit_glyph false d) (glyph_above (nat_lt d 10) d)

either : (t : Bool) (xs ys : List ℕ) → IsSpaceless xs → IsSpaceless ys → IsSpaceless (if t then xs else ys)
either true xs ys one other = one
either false xs ys one other = other

onto_spaceless : (k n : ℕ) (acc : List ℕ) → IsSpaceless acc → IsSpaceless (digits_onto k 10 false n acc)
onto_spaceless zero n acc done = done
onto_spaceless (suc k) n acc done =
    let more = All-cons (λ b. (b == 32) ≡ false) (digit_glyph false (n % 10)) acc (glyph_spaceless (n % 10)) done in
    either (n / 10 == 0) (digit_glyph false (n % 10) ∷ acc) (digits_onto k 10 false (n / 10) (digit_glyph false (n % 10) ∷ acc)) more
    (onto_spaceless k (n / 10) (digit_glyph false (n % 10) ∷ acc) more)

decimal_spaceless : (n : ℕ) → IsSpaceless (decimal n)
unfolding digits
decimal_spaceless n = onto_spaceless 64 n [] (All-nil (λ b. (b == 32) ≡ false))

signed_spaceless : (z : ℤ) → IsSpaceless (signed_decimal z)
signed_spaceless (pos n) = decimal_spaceless n
signed_spaceless (negsuc n) = All-cons (λ b. (b == 32) ≡ false) 45 (decimal (suc n)) refl (decimal_spaceless (suc n))

track_spaceless : (p : Particle) → All IsSpaceless (track_of p)
track_spaceless p =
    All-from_recursion IsSpaceless (track_of p) (
      decimal_spaceless (triple p.x).x,
      (
        decimal_spaceless (triple p.x).y,
        (
          decimal_spaceless (triple p.x).z,
          (signed_spaceless (spot p.v).x, (signed_spaceless (spot p.v).y, (signed_spaceless (spot p.v).z, tt))),
        ),
      ),
    )

tracks_spaceless : (f : ℕ → Particle) (ids : List ℕ) → All IsSpaceless (flat_map (λ id. track_of (f id)) ids)
tracks_spaceless f [] = All-nil IsSpaceless
tracks_spaceless f (id ∷ ids) =
    All-append IsSpaceless (track_of (f id)) (flat_map (λ id. track_of (f id)) ids) (track_spaceless (f id)) (tracks_spaceless f ids)

-- words with a space between, cut at the spaces
splits_back : (x : List ℕ) (xs : List (List ℕ)) → IsSpaceless x → All IsSpaceless xs → slice_split (λ b. b == 32) (x ++ flat_map spaced xs) ≡ x ∷ xs
splits_back x [] one rest =
    ap (slice_split (λ b. b == 32)) (append-nil x) ∙ slice_split_none (λ b. b == 32) x one
splits_back x (y ∷ ys) one rest =
    slice_split_at (λ b. b == 32) x 32 (y ++ flat_map spaced ys) one refl
    ∙ ap (λ l. x ∷ l) (splits_back y ys (All-head IsSpaceless y ys rest) (All-tail IsSpaceless y ys rest))

-- a text with a byte behind it, that byte left out
all_but_last : (xs : List ℕ) (b : ℕ) → take (length (xs ++ b ∷ []) - 1) (xs ++ b ∷ []) ≡ xs
all_but_last xs b =
    let size : length (xs ++ b ∷ []) ≡ length xs + 1 = length-append xs (b ∷ []) in
    let less : length (xs ++ b ∷ []) - 1 ≡ length xs = omega (arith, size) in
    ap (λ n. take n (xs ++ b ∷ [])) less ∙ take-append_seam xs (b ∷ [])

-- what stands behind the first column
behind : (x : List ℕ) (xs : List (List ℕ)) (k : ℕ) → get_or (x ∷ xs) (1 + k) [] ≡ get_or xs k []
behind x xs k = let next : 1 + k ≡ suc k = omega arith in ap (λ n. get_or (x ∷ xs) n []) next

length-tracks : (f : ℕ → Particle) (ids : List ℕ) → length (flat_map (λ id. track_of (f id)) ids) ≡ 6 * length ids
length-tracks f [] = refl
length-tracks f (id ∷ ids) =
    let more = length-append (track_of (f id)) (flat_map (λ id. track_of (f id)) ids) in
    let rest = length-tracks f ids in
    omega (arith, more, rest)

tracks_at : (f : ℕ → Particle) (ids : List ℕ) (k j : ℕ) → k < length ids → j < 6
    → get_or (flat_map (λ id. track_of (f id)) ids) (6 * k + j) [] ≡ get_or (track_of (f (slice_index ids k))) j []
tracks_at f [] k j below column = absurd (omega (arith, below))
tracks_at f (id ∷ ids) zero j below column =
    let here : 6 * 0 + j ≡ j = omega arith in
    ap (λ n. get_or (flat_map (λ id. track_of (f id)) (id ∷ ids)) n []) here
    ∙ get_or_append_left (track_of (f id)) (flat_map (λ id. track_of (f id)) ids) [] j column
tracks_at f (id ∷ ids) (suc k) j below column =
    let later : 6 * suc k + j ≡ length (track_of (f id)) + (6 * k + j) = omega arith in
    ap (λ n. get_or (flat_map (λ id. track_of (f id)) (id ∷ ids)) n []) later
    ∙ get_or-append-add (track_of (f id)) (flat_map (λ id. track_of (f id)) ids) (6 * k + j) []
    ∙ tracks_at f ids k j (omega (arith, below)) column

columns_are : (probes : Probes) (step : ℕ) (e b : Axis → Triple → ℤ) (particles : List Particle)
    → AreColumns probes step e b particles (columns probes step e b particles)
unfolding columns
columns_are probes step e b particles =
    let values = map (λ p. signed_decimal (value_of e b p)) probes.places in
    let tracks = flat_map (λ id. track_of (particle_with particles id)) probes.ids in
    let values_size : length values ≡ length probes.places = length-map _ _ in
    record {
      count =
          let both = length-append values tracks in
          let behind_values = length-tracks (particle_with particles) probes.ids in
          omega (arith, both, behind_values, values_size);
      first = refl;
      values = λ k below.
          behind (decimal step) (values ++ tracks) k
          ∙ get_or_append_left values tracks [] k (omega (arith, below, values_size))
          ∙ get_or-map (λ p. signed_decimal (value_of e b p)) probes.places k no_place [] below;
      tracks = λ k j below column.
          let place : length probes.places + (6 * k + j) ≡ length values + (6 * k + j) = omega (arith, values_size) in
          behind (decimal step) (values ++ tracks) (length probes.places + (6 * k + j))
          ∙ ap (λ n. get_or (values ++ tracks) n []) place
          ∙ get_or-append-add values tracks (6 * k + j) []
          ∙ tracks_at (particle_with particles) probes.ids k j below column;
    }

words_are : (probes : Probes) (step : ℕ) (e b : Axis → Triple → ℤ) (particles : List Particle)
    → words_of (probe_line probes step e b particles) ≡ columns probes step e b particles
unfolding probe_line columns
words_are probes step e b particles =
    let values = map (λ p. signed_decimal (value_of e b p)) probes.places in
    let tracks = flat_map (λ id. track_of (particle_with particles id)) probes.ids in
    let spaceless = All-append IsSpaceless values tracks
    (All-map IsSpaceless (λ p. signed_decimal (value_of e b p)) probes.places (λ k d below. signed_spaceless (value_of e b (get_or probes.places k d))))
    (tracks_spaceless (particle_with particles) probes.ids) in
    ap (slice_split (λ b. b == 32)) (all_but_last (decimal step ++ flat_map spaced (values ++ tracks)) 10)
    ∙ splits_back (decimal step) (values ++ tracks) (decimal_spaceless step) spaceless

pub lines_have_columns : LinesHaveColumns
lines_have_columns probes step e b particles = rw (words_are probes step e b particles) (columns_are probes step e b particles)
