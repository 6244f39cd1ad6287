-- The header of a dump, field by field: this project's profile.
use Rattle.std.specs.Prelude.{◌≡◌, pos, negsuc, ℤ, ℕ, ◌-◌, ◌+◌, ◌*◌, ◌^◌, ◌<◌, ◌≤◌, Bool, not, ◌&&◌, ◌==◌, nat_eq, nat_le, if◌then◌else◌}
use Rattle.std.specs.Prelude.{bytes_eq, List, [], ◌∷◌, length, drop, sum_by, slice_index_or, codes}
use Rattle.std.specs.List.{list_all, list_any}
use Rattle.pic_num.specs.declared.axis.Axis.{Axis}
use Rattle.pic_num.specs.declared.motion.Kind.{Kind}
use Rattle.pic_num.specs.declared.mult.Scales.{Scales}
use Rattle.pic_num.specs.Limits.{most_version, allowance_of, fewest_cells_of_axis, fewest_bits, most_bits, most_filter, most_species, most_mass}
use Rattle.pic_num.specs.Limits.{most_loops, most_wave, most_drive}
use Rattle.pic_num.specs.Multiplier.{Multiplier}
use Rattle.pic_num.specs.Space.{Triple}
use Rattle.pic_block.specs.Cells.{axis_of}
use Rattle.pic_grid.specs.declared.loops.Loop.{Loop}
use Rattle.pic_grid.specs.Species.{HeadView, no_head, IsName, IsKind, is_name_byte}
use Rattle.pic_fields.specs.Causes.{cause_number}
use Rattle.pic_fields.specs.declared.cause.Cause.TheVariants.{WrongLetter, OutOfLimits}
use Rattle.pic_fields.specs.Parser.{Parser, field, done, ◌>>=◌, checked, mapped, each}
use Rattle.pic_fields.specs.Number.{byte_at, is_from_to, within, exactly, between, at_most}
use Rattle.pic_header.specs.Header.{HeaderView}
use Rattle.pic_header.specs.HeaderText.{zero_digit, form_length}
use Rattle.pic_header.specs.Limits.{most_steps, most_letters}

-- the causes of a fault in the header, but for a field that the end of the input cuts
abbrev pub wrong_letter : ℕ
wrong_letter = cause_number WrongLetter

abbrev pub out_of_limits : ℕ
out_of_limits = cause_number OutOfLimits

-- the version, of which the mark has the digit
unfoldable pub version_at : Parser ℕ
version_at = mapped (λ digit. digit - zero_digit) (checked wrong_letter (is_from_to (zero_digit + 1) (zero_digit + most_version)) byte_at)

-- the mark: seven letters, and the version
unfoldable pub mark_at : Parser ℕ
mark_at = exactly wrong_letter (codes "PICDUMP") >>= (λ letters. version_at)

-- a number of cells, and the three of them
unfoldable pub axis_at : ℕ → Parser ℕ
axis_at version = within out_of_limits fewest_cells_of_axis (allowance_of version).cells

unfoldable pub cells_at : ℕ → Parser Triple
cells_at version =
    axis_at version
    >>= (λ x. axis_at version
    >>= (λ y. axis_at version >>= (λ z. done (record { x = x; y = y; z = z }))))

-- a multiplier
unfoldable pub mult_at : Parser Multiplier
mult_at = between out_of_limits (negsuc 2147483646) (pos 2147483647) >>= (λ n. within out_of_limits 0 62 >>= (λ k. done (record { n = n; k = k })))

-- the four multipliers
unfoldable pub scales_at : Parser Scales
scales_at =
    mult_at
    >>= (λ e_to_b. mult_at
    >>= (λ b_to_e. mult_at
    >>= (λ e_force. mult_at
    >>= (λ b_force. done (record { e_to_b = e_to_b; b_to_e = b_to_e; e_force = e_force; b_force = b_force })))))

-- what both versions say before what version 2 says more
pub record Front : Type 0 where
  pub cells : Triple
  pub steps : ℕ
  pub every : ℕ
  pub scales : Scales

unfoldable pub front_at : ℕ → Parser Front
front_at version =
    cells_at version
    >>= (λ cells. within out_of_limits 0 most_steps
    >>= (λ steps. within out_of_limits 1 most_steps
    >>= (λ every. scales_at
    >>= (λ scales. done (record { cells = cells; steps = steps; every = every; scales = scales })))))

-- what version 2 says more: the side of a cell, the filter of the current, and how many loops there are
pub record Form : Type 0 where
  pub side : ℕ
  pub filter : ℕ
  pub loops : ℕ

-- a cell of version 1 has the one side, and there is no filter and no loop
abbrev pub form_of_1 : ℕ → Form
form_of_1 version = record { side = 2 ^ (allowance_of version).least_bits; filter = 0; loops = 0 }

-- the side is a power of two
unfoldable pub form_of_2 : Parser Form
form_of_2 =
    within out_of_limits fewest_bits most_bits
    >>= (λ bits. within out_of_limits 0 most_filter
    >>= (λ filter. within out_of_limits 0 most_loops >>= (λ loops. done (record { side = 2 ^ bits; filter = filter; loops = loops }))))

unfoldable pub form_at : ℕ → Parser Form
form_at version =
    if version == 1 then done (form_of_1 version) else form_of_2

-- charge, mass and the two multipliers of a species
unfoldable pub kind_at : Parser Kind
kind_at =
    between out_of_limits (negsuc 32767) (pos 32767)
    >>= (λ charge. within out_of_limits 1 most_mass
    >>= (λ mass. mult_at >>= (λ kick. mult_at >>= (λ turn. done (record { charge = charge; mass = mass; kick = kick; turn = turn })))))

-- the bytes before the first zero
abbrev pub name_of : List ℕ → List ℕ
name_of [] = []
name_of (b ∷ bytes) = if b == 0 then [] else b ∷ name_of bytes

-- 1 to 32 letters of a name, and then zeros
abbrev pub is_name_field : List ℕ → Bool
is_name_field bytes =
    nat_le 1 (length (name_of bytes)) && list_all is_name_byte (name_of bytes) && list_all (nat_eq 0) (drop (length (name_of bytes)) bytes)

-- a name that no earlier species has
abbrev pub is_new_name_field : List HeadView → List ℕ → Bool
is_new_name_field before bytes = is_name_field bytes && not (list_any (λ (h : HeadView). bytes_eq h.name (name_of bytes)) before)

unfoldable pub name_at : List HeadView → Parser (List ℕ)
name_at before = mapped name_of (checked out_of_limits (is_new_name_field before) (field most_letters))

-- how many particles the species have
abbrev pub particles_of : List HeadView → ℕ
particles_of heads = sum_by (λ h. h.count) heads

-- a species after others, where so many particles are allowed
unfoldable pub head_at : ℕ → List HeadView → Parser HeadView
head_at most before =
    name_at before
    >>= (λ name. kind_at
    >>= (λ kind. within out_of_limits 0 (most - particles_of before)
    >>= (λ count. done (record { name = name; kind = kind; count = count }))))

-- the species
unfoldable pub heads_at : ℕ → Parser (List HeadView)
heads_at most = within out_of_limits 0 most_species >>= (λ count. each count (head_at most))

-- the axis of a loop
unfoldable pub loop_axis_at : Parser Axis
loop_axis_at = mapped axis_of (within out_of_limits 0 2)

-- the cell of a loop: one of so many on each axis
unfoldable pub loop_cell_at : Triple → Parser (List ℕ)
loop_cell_at n =
    within out_of_limits 0 (n.x - 1)
    >>= (λ x. within out_of_limits 0 (n.y - 1) >>= (λ y. within out_of_limits 0 (n.z - 1) >>= (λ z. done (x ∷ y ∷ z ∷ []))))

-- a number of a wave, and so many of them
unfoldable pub drive_at : Parser ℤ
drive_at = at_most out_of_limits most_drive

unfoldable pub numbers_at : ℕ → Parser (List ℤ)
numbers_at count = each count (λ before. drive_at)

-- the wave of a loop: how many numbers it has, and these
unfoldable pub wave_at : Parser (List ℤ)
wave_at = within out_of_limits 1 most_wave >>= numbers_at

-- a loop of a grid of n cells
abbrev pub loop_of : Axis → List ℕ → List ℤ → Loop
loop_of axis cell wave = record { axis = axis; cell = cell; wave = wave }

unfoldable pub loop_at : Triple → Parser Loop
loop_at n = loop_axis_at >>= (λ axis. loop_cell_at n >>= (λ cell. wave_at >>= (λ wave. done (loop_of axis cell wave))))

-- so many loops
unfoldable pub loops_at : Triple → ℕ → Parser (List Loop)
loops_at n count = each count (λ before. loop_at n)

-- the header of these parts
abbrev pub header_of : ℕ → Front → Form → List HeadView → List Loop → HeaderView
header_of version front form heads loops = record {
  version = version;
  cells = front.cells;
  side = form.side;
  steps = front.steps;
  every = front.every;
  filter = form.filter;
  scales = front.scales;
  species = heads;
  loops = loops;
}

-- the header
unfoldable pub header_at : Parser HeaderView
header_at =
    mark_at
    >>= (λ version. front_at version
    >>= (λ front. form_at version
    >>= (λ form. heads_at (allowance_of version).particles
    >>= (λ heads. loops_at front.cells form.loops
    >>= (λ loops. done (header_of version front form heads loops))))))

-- how many bytes a loop has, and how many some have
abbrev pub loop_length : Loop → ℕ
loop_length l = 20 + 8 * length l.wave

abbrev pub loops_length : List Loop → ℕ
loops_length loops = sum_by loop_length loops

-- how many bytes a header has
abbrev pub header_length : HeaderView → ℕ
header_length h = 64 + form_length h.version + 60 * length h.species + loops_length h.loops

-- the bytes of the longest loop, and of the longest header
abbrev pub loop_most : ℕ
loop_most = 532

abbrev pub header_most : ℕ
header_most = 9548

-- a species within the limits, with a name that none of these has, and few enough particles beside theirs
pub record IsNewHead (most : ℕ) (heads : List HeadView) (h : HeadView) : Type 0 where
  pub name : IsName h.name
  pub kind : IsKind h.kind
  pub differs : (i : ℕ) → i < length heads → (slice_index_or heads i no_head).name ≡ h.name → ⊥
  pub total : sum_by (λ s. s.count) heads + h.count ≤ most
