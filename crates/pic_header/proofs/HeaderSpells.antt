-- The spelling of a header.
use Rattle.std.proofs.Common.{◌≡◌, ℕ, ℤ, zero, add-zero, suc, ◌+◌, ◌-◌, ◌^◌, ◌<◌, Ok, Bool, true, false, not, ◌&&◌, eqb, leb, pos, negsuc, List, [], ◌∷◌, ◌++◌}
use Rattle.std.proofs.Common.{length, drop, replicate, refl, sym, ap, subst, ◌∙◌, arith, append_assoc, if◌then◌else◌}
use Rattle.std.specs.Prelude.{codes}
use Rattle.std.specs.List.{list_all, list_any}
use Rattle.std.specs.Str.{bytes_eq}
use Rattle.std.proofs.lemmas.Bool.{and_parts, eqb-true, leb-true}
use Rattle.std.proofs.lemmas.List.{length-drop}
use Rattle.pic_num.specs.declared.motion.Kind.{Kind}
use Rattle.pic_num.specs.declared.mult.Scales.{Scales}
use Rattle.pic_num.specs.Bytes.{u32_bytes, i32_bytes}
use Rattle.pic_num.specs.Limits.{most_version, allowance_of, fewest_cells_of_axis, fewest_bits, most_bits, most_filter, most_loops, most_species, most_mass}
use Rattle.pic_num.specs.Multiplier.{Multiplier}
use Rattle.pic_num.specs.Space.{Triple}
use Rattle.pic_num.specs.Sub.{bits_of, bits_of-side}
use Rattle.pic_grid.specs.Species.{HeadView, is_name_byte}
use Rattle.pic_fields.specs.Parser.{Input, input, Parser, done, ◌>>=◌}
use Rattle.pic_fields.specs.Number.{is_from_to, is_between}
use Rattle.pic_fields.specs.Bytes.{IsBytes}
use Rattle.pic_fields.proofs.Spells.{Spells}
use Rattle.pic_fields.proofs.SpellLaws.{IsField, FitsEach, spells_bind, spells_mapped, spells_last, spells_checked}
use Rattle.pic_fields.proofs.SpellLaws.{same_read, spells_field, spells_each, spells_so, right_4, right_5, right_7}
use Rattle.pic_fields.proofs.NumberLaws.{FitsU32, FitsI32, one_byte, spells_byte, spells_between, spells_within, spells_exactly}
use Rattle.pic_header.specs.HeaderText.{zero_digit, mult_bytes, scales_bytes, cells_bytes, mark_bytes, form_bytes, front_bytes, name_bytes, kind_bytes}
use Rattle.pic_header.specs.HeaderText.{head_bytes, heads_bytes, loops_bytes, header_bytes}
use Rattle.pic_header.specs.Header.{HeaderView}
use Rattle.pic_header.specs.Limits.{most_steps}
use Rattle.pic_header.specs.HeaderFields.{out_of_limits, wrong_letter, version_at, mark_at, axis_at}
use Rattle.pic_header.specs.HeaderFields.{cells_at, mult_at, scales_at, kind_at, name_of, is_name_field}
use Rattle.pic_header.specs.HeaderFields.{is_new_name_field, name_at, particles_of, head_at, heads_at, Front}
use Rattle.pic_header.specs.HeaderFields.{front_at, Form, form_of_1, form_of_2, form_at, loops_at, header_of}
use Rattle.pic_header.specs.HeaderFields.{header_at}
use Rattle.pic_header.proofs.LoopSpells.{fits_length, FitsLoop, FitsLoops, spells_loops}

abbrev FitsMult : Multiplier → Type 0
FitsMult m = FitsI32 (is_between (negsuc 2147483646) (pos 2147483647)) m.n × (FitsU32 (is_from_to 0 62) m.k × (m ≡ record { n = m.n; k = m.k }))

spells_mult : Spells mult_at mult_bytes FitsMult
unfolding mult_at mult_bytes
spells_mult =
    spells_bind (λ (m : Multiplier). m.n) (λ n m f g. ap (λ (o : Multiplier). o.n) g.1) (spells_between out_of_limits (negsuc 2147483646) (pos 2147483647))
    (λ n. spells_last (λ k. record { n = n; k = k }) (λ (m : Multiplier). m.k) (λ k. refl) (spells_within out_of_limits 0 62))

abbrev scales_of : Multiplier → Multiplier → Multiplier → Multiplier → Scales
scales_of a b c d = record { e_to_b = a; b_to_e = b; e_force = c; b_force = d }

abbrev FitsScales : Scales → Type 0
FitsScales s = FitsMult s.e_to_b × (FitsMult s.b_to_e × (FitsMult s.e_force × (FitsMult s.b_force × (s ≡ scales_of s.e_to_b s.b_to_e s.e_force s.b_force))))

spells_scales : Spells scales_at scales_bytes FitsScales
unfolding scales_at scales_bytes
spells_scales =
    spells_so (λ b f. f) (λ b f. f) (λ b f. right_4 (mult_bytes b.e_to_b) (mult_bytes b.b_to_e) (mult_bytes b.e_force) (mult_bytes b.b_force))
    (spells_bind (λ (s : Scales). s.e_to_b) (λ a s f g. ap (λ (o : Scales). o.e_to_b) g.1.1.1) spells_mult
    (λ a. spells_bind (λ (s : Scales). s.b_to_e) (λ b s f g. ap (λ (o : Scales). o.b_to_e) g.1.1) spells_mult
    (λ b. spells_bind (λ (s : Scales). s.e_force) (λ c s f g. ap (λ (o : Scales). o.e_force) g.1) spells_mult
    (λ c. spells_last (scales_of a b c) (λ (s : Scales). s.b_force) (λ d. refl) spells_mult))))

abbrev cells_of : ℕ → ℕ → ℕ → Triple
cells_of x y z = record { x = x; y = y; z = z }

abbrev FitsAxis : ℕ → ℕ → Type 0
FitsAxis version n = FitsU32 (is_from_to fewest_cells_of_axis (allowance_of version).cells) n

spells_axis : (version : ℕ) → Spells (axis_at version) u32_bytes (FitsAxis version)
unfolding axis_at
spells_axis version = spells_within out_of_limits fewest_cells_of_axis (allowance_of version).cells

abbrev FitsCells : ℕ → Triple → Type 0
FitsCells version n = FitsAxis version n.x × (FitsAxis version n.y × (FitsAxis version n.z × (n ≡ cells_of n.x n.y n.z)))

spells_cells : (version : ℕ) → Spells (cells_at version) cells_bytes (FitsCells version)
unfolding cells_at cells_bytes
spells_cells version =
    spells_so (λ b f. f) (λ b f. f) (λ b f. append_assoc (u32_bytes b.x) (u32_bytes b.y) (u32_bytes b.z))
    (spells_bind (λ (n : Triple). n.x) (λ x n f g. ap (λ (o : Triple). o.x) g.1.1) (spells_axis version)
    (λ x. spells_bind (λ (n : Triple). n.y) (λ y n f g. ap (λ (o : Triple). o.y) g.1) (spells_axis version)
    (λ y. spells_last (cells_of x y) (λ (n : Triple). n.z) (λ z. refl) (spells_axis version))))

abbrev kind_of : ℤ → ℕ → Multiplier → Multiplier → Kind
kind_of charge mass kick turn = record { charge = charge; mass = mass; kick = kick; turn = turn }

abbrev FitsKind : Kind → Type 0
FitsKind k =
    FitsI32 (is_between (negsuc 32767) (pos 32767)) k.charge
    × (FitsU32 (is_from_to 1 most_mass) k.mass × (FitsMult k.kick × (FitsMult k.turn × (k ≡ kind_of k.charge k.mass k.kick k.turn))))

spells_kind : Spells kind_at kind_bytes FitsKind
unfolding kind_at kind_bytes
spells_kind =
    spells_so (λ b f. f) (λ b f. f) (λ b f. right_4 (i32_bytes b.charge) (u32_bytes b.mass) (mult_bytes b.kick) (mult_bytes b.turn))
    (spells_bind (λ (k : Kind). k.charge) (λ a k f g. ap (λ (o : Kind). o.charge) g.1.1.1) (spells_between out_of_limits (negsuc 32767) (pos 32767))
    (λ a. spells_bind (λ (k : Kind). k.mass) (λ b k f g. ap (λ (o : Kind). o.mass) g.1.1) (spells_within out_of_limits 1 most_mass)
    (λ b. spells_bind (λ (k : Kind). k.kick) (λ c k f g. ap (λ (o : Kind). o.kick) g.1) spells_mult
    (λ c. spells_last (kind_of a b c) (λ (k : Kind). k.turn) (λ d. refl) spells_mult))))

-- a name and the zeros behind it
name_before : (bytes : List ℕ) → name_of bytes ++ drop (length (name_of bytes)) bytes ≡ bytes
name_before [] = refl
name_before (b ∷ bytes) = go (eqb b 0) (name_before bytes)
  where
    go : (v : Bool) → name_of bytes ++ drop (length (name_of bytes)) bytes ≡ bytes → (if v then [] else b ∷ name_of bytes)
        ++ drop (length (if v then [] else b ∷ name_of bytes)) (b ∷ bytes) ≡ b ∷ bytes
    go true rest = refl
    go false rest = ap (λ l. b ∷ l) rest

zeros_are : (bytes : List ℕ) → list_all (eqb 0) bytes ≡ true → bytes ≡ replicate (length bytes) 0
zeros_are [] all = refl
zeros_are (b ∷ bytes) all =
    let (first, rest) = and_parts (eqb 0 b) (list_all (eqb 0) bytes) all in
    let zero : b ≡ 0 = sym (eqb-true 0 b first) in
    let more = zeros_are bytes rest in
    λ i. zero i ∷ more i

field_spelled : (bytes : List ℕ) → length bytes ≡ 32 → is_name_field bytes ≡ true → name_bytes (name_of bytes) ≡ bytes
unfolding name_bytes
field_spelled bytes size good =
    let name = name_of bytes in
    let (front, zeros) = and_parts (leb 1 (length name) && list_all is_name_byte name) (list_all (eqb 0) (drop (length name) bytes)) good in
    let long : length (drop (length name) bytes) ≡ 32 - length name = omega (arith, length-drop (length name) bytes, size) in
    ap (λ n. name ++ replicate n 0) (sym long) ∙ ap (λ l. name ++ l) (sym (zeros_are (drop (length name) bytes) zeros)) ∙ name_before bytes

pub record FitsName (before : List HeadView) (name : List ℕ) : Type 0 where
  pub size : IsField 32 (name_bytes name)
  pub good : is_new_name_field before (name_bytes name) ≡ true
  pub back : name_of (name_bytes name) ≡ name

name_fits : (before : List HeadView) (bytes : List ℕ) → IsField 32 bytes × (is_new_name_field before bytes ≡ true) → name_bytes (name_of bytes) ≡ bytes
name_fits before bytes fits =
    let (good, new) = and_parts (is_name_field bytes) (not (list_any (λ (h : HeadView). bytes_eq h.name (name_of bytes)) before)) fits.1 in
    field_spelled bytes fits.0.size good

spells_name : (before : List HeadView) → Spells (name_at before) name_bytes (FitsName before)
unfolding name_at
spells_name before =
    spells_mapped name_of name_bytes (FitsName before) (λ name fits. (fits.size, fits.good)) (λ name fits. fits.back)
    (λ bytes fits. (let same = name_fits before bytes fits in record {
      size = subst (IsField 32) (sym same) fits.0;
      good = subst (λ l. is_new_name_field before l ≡ true) (sym same) fits.1;
      back = ap name_of same;
    }))
    (λ bytes fits. name_fits before bytes fits)
    (spells_checked out_of_limits (is_new_name_field before) (spells_field 32))

abbrev head_of : List ℕ → Kind → ℕ → HeadView
head_of name kind count = record { name = name; kind = kind; count = count }

abbrev pub FitsHead : ℕ → List HeadView → HeadView → Type 0
FitsHead most before h =
    FitsName before h.name × (FitsKind h.kind × (FitsU32 (is_from_to 0 (most - particles_of before)) h.count × (h ≡ head_of h.name h.kind h.count)))

spells_head : (most : ℕ) (before : List HeadView) → Spells (head_at most before) head_bytes (FitsHead most before)
unfolding head_at head_bytes
spells_head most before =
    spells_so (λ b f. f) (λ b f. f) (λ b f. append_assoc (name_bytes b.name) (kind_bytes b.kind) (u32_bytes b.count))
    (spells_bind (λ (h : HeadView). h.name) (λ a h f g. ap (λ (o : HeadView). o.name) g.1.1) (spells_name before)
    (λ a. spells_bind (λ (h : HeadView). h.kind) (λ b h f g. ap (λ (o : HeadView). o.kind) g.1) spells_kind
    (λ b. spells_last (head_of a b) (λ (h : HeadView). h.count) (λ d. refl) (spells_within out_of_limits 0 (most - particles_of before)))))

abbrev FitsHeads : ℕ → List HeadView → Type 0
FitsHeads most heads = FitsU32 (is_from_to 0 most_species) (length heads) × FitsEach (FitsHead most) (length heads) heads

-- how many species there are, and the species
unfoldable pub counted_bytes : List HeadView → List ℕ
counted_bytes heads = u32_bytes (length heads) ++ heads_bytes heads

spells_heads : (most : ℕ) → Spells (heads_at most) counted_bytes (FitsHeads most)
unfolding heads_at heads_bytes counted_bytes
spells_heads most =
    spells_bind (λ (heads : List HeadView). length heads) (λ n heads f g. fits_length (FitsHead most) n heads g) (spells_within out_of_limits 0 most_species)
    (λ n. spells_each (head_at most) head_bytes (FitsHead most) n (spells_head most))

-- the mark
mark_small : IsBytes (codes "PICDUMP")
mark_small zero = omega arith
mark_small (suc zero) = omega arith
mark_small (suc (suc zero)) = omega arith
mark_small (suc (suc (suc zero))) = omega arith
mark_small (suc (suc (suc (suc zero)))) = omega arith
mark_small (suc (suc (suc (suc (suc zero))))) = omega arith
mark_small (suc (suc (suc (suc (suc (suc zero)))))) = omega arith
mark_small (suc (suc (suc (suc (suc (suc (suc i))))))) = omega arith

abbrev is_digit : ℕ → Bool
is_digit n = is_from_to (zero_digit + 1) (zero_digit + most_version) n

abbrev FitsVersion : ℕ → Type 0
FitsVersion version = (zero_digit + version < 256) × (is_digit (zero_digit + version) ≡ true)

digit_back : (n : ℕ) → is_digit n ≡ true → zero_digit + (n - zero_digit) ≡ n
digit_back n is =
    let least = leb-true (zero_digit + 1) n (and_parts (leb (zero_digit + 1) n) (leb n (zero_digit + most_version)) is).0 in
    omega (arith, least)

spells_version : Spells version_at (λ version. one_byte (zero_digit + version)) FitsVersion
unfolding version_at
spells_version =
    spells_mapped (λ digit. digit - zero_digit) (λ version. zero_digit + version) FitsVersion (λ version fits. fits) (λ version fits. omega arith)
    (λ digit fits. subst (λ n. (n < 256) × (is_digit n ≡ true)) (sym (digit_back digit fits.1)) fits) (λ digit fits. digit_back digit fits.1)
    (spells_checked wrong_letter is_digit spells_byte)

abbrev FitsMark : ℕ → Type 0
FitsMark version = (codes "PICDUMP" ≡ codes "PICDUMP") × FitsVersion version

spells_mark : Spells mark_at mark_bytes FitsMark
unfolding mark_at mark_bytes
spells_mark =
    spells_bind (λ (version : ℕ). codes "PICDUMP") (λ a version f g. sym f) (spells_exactly wrong_letter (codes "PICDUMP") mark_small)
    (λ letters. spells_version)

-- what both versions say
abbrev front_of : Triple → ℕ → ℕ → Scales → Front
front_of cells steps every scales = record { cells = cells; steps = steps; every = every; scales = scales }

unfoldable front_text : Front → List ℕ
front_text f = cells_bytes f.cells ++ u32_bytes f.steps ++ u32_bytes f.every ++ scales_bytes f.scales

abbrev FitsFront : ℕ → Front → Type 0
FitsFront version f =
    FitsCells version f.cells
    × (FitsU32 (is_from_to 0 most_steps) f.steps
    × (FitsU32 (is_from_to 1 most_steps) f.every × (FitsScales f.scales × (f ≡ front_of f.cells f.steps f.every f.scales))))

spells_front : (version : ℕ) → Spells (front_at version) front_text (FitsFront version)
unfolding front_at front_text
spells_front version =
    spells_so (λ b f. f) (λ b f. f) (λ b f. right_4 (cells_bytes b.cells) (u32_bytes b.steps) (u32_bytes b.every) (scales_bytes b.scales))
    (spells_bind (λ (f : Front). f.cells) (λ a f g h. ap (λ (o : Front). o.cells) h.1.1.1) (spells_cells version)
    (λ a. spells_bind (λ (f : Front). f.steps) (λ b f g h. ap (λ (o : Front). o.steps) h.1.1) (spells_within out_of_limits 0 most_steps)
    (λ b. spells_bind (λ (f : Front). f.every) (λ c f g h. ap (λ (o : Front). o.every) h.1) (spells_within out_of_limits 1 most_steps)
    (λ c. spells_last (front_of a b c) (λ (f : Front). f.scales) (λ d. refl) spells_scales))))

-- what version 2 says more
bits_back : (bits side : ℕ) → FitsU32 (is_from_to fewest_bits most_bits) bits → side ≡ 2 ^ bits → bits_of side ≡ bits
bits_back bits side fits is =
    let (least, most) = and_parts (leb fewest_bits bits) (leb bits most_bits) fits.1 in
    ap bits_of is ∙ bits_of-side bits (leb-true fewest_bits bits least) (leb-true bits most_bits most)

abbrev form_text_2 : Form → List ℕ
form_text_2 f = u32_bytes (bits_of f.side) ++ u32_bytes f.filter ++ u32_bytes f.loops

abbrev FitsForm_2 : Form → Type 0
FitsForm_2 f =
    FitsU32 (is_from_to fewest_bits most_bits) (bits_of f.side)
    × (FitsU32 (is_from_to 0 most_filter) f.filter
    × (FitsU32 (is_from_to 0 most_loops) f.loops × (f ≡ record { side = 2 ^ bits_of f.side; filter = f.filter; loops = f.loops })))

spells_form_2 : Spells form_of_2 form_text_2 FitsForm_2
unfolding form_of_2
spells_form_2 =
    spells_so (λ f fits. fits) (λ f fits. fits) (λ f fits. append_assoc (u32_bytes (bits_of f.side)) (u32_bytes f.filter) (u32_bytes f.loops))
    (spells_bind (λ (f : Form). bits_of f.side) (λ bits f g h. bits_back bits f.side g (ap (λ (o : Form). o.side) h.1.1))
    (spells_within out_of_limits fewest_bits most_bits)
    (λ bits. spells_bind (λ (f : Form). f.filter) (λ filter f g h. ap (λ (o : Form). o.filter) h.1) (spells_within out_of_limits 0 most_filter)
    (λ filter. spells_last (λ loops. record { side = 2 ^ bits; filter = filter; loops = loops }) (λ (f : Form). f.loops) (λ loops. refl)
    (spells_within out_of_limits 0 most_loops))))

-- nothing
spells_nothing : {A : Type 0} (a : A) → Spells (done a) (λ b. []) (λ b. b ≡ a)
unfolding done
spells_nothing a = record {
  again = λ place rest b is. rw is (ap (λ m. Ok (a, input m rest)) (sym (add-zero place)));
  takes = λ place bytes b k small is. (let (value, input_is) = same_read a b (input place bytes) k is in
      record {
        fits = sym value;
        parts = ap (λ (i : Input). i.bytes) input_is;
        small = subst (λ (i : Input). IsBytes i.bytes) input_is small;
        place_is = sym (ap (λ (i : Input). i.place) input_is) ∙ sym (add-zero place);
      });
}

abbrev form_text_by : Bool → Form → List ℕ
form_text_by true f = []
form_text_by false f = form_text_2 f

abbrev pub FitsFormBy : Bool → ℕ → Form → Type 0
FitsFormBy true version f = f ≡ form_of_1 version
FitsFormBy false version f = FitsForm_2 f

spells_form_by : (first : Bool) (version : ℕ)
    → Spells (if first then done (form_of_1 version) else form_of_2) (form_text_by first) (FitsFormBy first version)
spells_form_by true version = spells_nothing (form_of_1 version)
spells_form_by false version = spells_form_2

spells_form : (version : ℕ) → Spells (form_at version) (form_text_by (eqb version 1)) (FitsFormBy (eqb version 1) version)
unfolding form_at
spells_form version = spells_form_by (eqb version 1) version

form_is : (first : Bool) (f : Form) → (if first then [] else form_text_2 f) ≡ form_text_by first f
form_is true f = refl
form_is false f = refl

-- the whole header
abbrev pub front_in : HeaderView → Front
front_in h = front_of h.cells h.steps h.every h.scales

abbrev pub form_in : HeaderView → Form
form_in h = record { side = h.side; filter = h.filter; loops = length h.loops }

grouped : (a b c d e f g h l : List ℕ) → a ++ b ++ c ++ d ++ e ++ f ++ g ++ h ++ l ≡ a ++ ((b ++ c ++ d ++ e) ++ (f ++ ((g ++ h) ++ l)))
grouped a b c d e f g h l =
    append_assoc (a ++ b ++ c ++ d ++ e ++ f ++ g) h l
    ∙ append_assoc (a ++ b ++ c ++ d ++ e ++ f) g (h ++ l)
    ∙ right_7 a b c d e f (g ++ (h ++ l))
    ∙ ap (λ t. a ++ t) (sym (right_5 b c d e (f ++ (g ++ (h ++ l)))))
    ∙ ap (λ t. a ++ ((b ++ c ++ d ++ e) ++ (f ++ t))) (sym (append_assoc g h l))

-- behind the mark
abbrev parts_text : ℕ → HeaderView → List ℕ
parts_text version h =
    front_text (front_in h) ++ (form_text_by (eqb version 1) (form_in h) ++ (counted_bytes h.species ++ loops_bytes h.loops))

in_parts : (h : HeaderView) → header_bytes h ≡ mark_bytes h.version ++ parts_text h.version h
unfolding header_bytes front_bytes form_bytes front_text counted_bytes
in_parts h =
    let form = form_is (eqb h.version 1) (form_in h) in
    grouped (mark_bytes h.version) (cells_bytes h.cells) (u32_bytes h.steps) (u32_bytes h.every) (scales_bytes h.scales) (form_bytes h)
    (u32_bytes (length h.species)) (heads_bytes h.species) (loops_bytes h.loops)
    ∙ ap (λ l. mark_bytes h.version ++ (front_text (front_in h) ++ (l ++ (counted_bytes h.species ++ loops_bytes h.loops)))) form

abbrev parts_at : ℕ → Parser HeaderView
parts_at version =
    front_at version
    >>= (λ front. form_at version
    >>= (λ form. heads_at (allowance_of version).particles
    >>= (λ heads. loops_at front.cells form.loops >>= (λ loops. done (header_of version front form heads loops)))))

-- the loops, behind the other parts
abbrev FitsRest : ℕ → Front → Form → HeaderView → Type 0
FitsRest version front form h =
    FitsHeads (allowance_of version).particles h.species
    × (FitsLoops front.cells form.loops h.loops × (h ≡ header_of version front form h.species h.loops))

abbrev FitsParts : ℕ → HeaderView → Type 0
FitsParts version h =
    FitsFront version (front_in h) × (FitsFormBy (eqb version 1) version (form_in h) × FitsRest version (front_in h) (form_in h) h)

abbrev pub FitsHeader : HeaderView → Type 0
FitsHeader h = FitsMark h.version × FitsParts h.version h

-- a header of these parts has as many loops as its form says
form_back : (version : ℕ) (front : Front) (form : Form) (h : HeaderView) → FitsRest version front form h → form_in h ≡ form
form_back version front form h fits =
    let count = fits_length (λ before. FitsLoop front.cells) form.loops h.loops fits.1.0 in
    ap form_in fits.1.1 ∙ ap (λ n. record { side = form.side; filter = form.filter; loops = n }) count

spells_rest : (version : ℕ) (front : Front) (form : Form)
    → Spells (heads_at (allowance_of version).particles
    >>= (λ heads. loops_at front.cells form.loops >>= (λ loops. done (header_of version front form heads loops))))
    (λ h. counted_bytes h.species ++ loops_bytes h.loops) (FitsRest version front form)
spells_rest version front form =
    spells_bind (λ (h : HeaderView). h.species) (λ heads h f g. ap (λ (o : HeaderView). o.species) g.1) (spells_heads (allowance_of version).particles)
    (λ heads. spells_last (header_of version front form heads) (λ (h : HeaderView). h.loops) (λ loops. refl) (spells_loops front.cells form.loops))

spells_parts : (version : ℕ) → Spells (parts_at version) (λ h. parts_text h.version h) (FitsParts version)
spells_parts version =
    spells_so (λ h fits. fits) (λ h fits. fits) (λ h fits. ap (λ v. parts_text v h) (ap (λ (o : HeaderView). o.version) fits.1.1.1.1))
    (spells_bind front_in (λ a h f g. ap front_in g.1.1.1) (spells_front version)
    (λ front. spells_bind form_in (λ b h f g. form_back version front b h g) (spells_form version) (λ form. spells_rest version front form)))

pub spells_header : Spells header_at header_bytes FitsHeader
unfolding header_at
spells_header =
    spells_so (λ h fits. fits) (λ h fits. fits) (λ h fits. in_parts h)
    (spells_bind (λ (h : HeaderView). h.version) (λ a h f g. ap (λ (o : HeaderView). o.version) g.1.1.1.1) spells_mark spells_parts)
