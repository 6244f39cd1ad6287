-- The text of a header of a dump: this project's profile. All numbers are big-endian.
use Rattle.std.specs.Prelude.{ℤ, ℕ, ◌+◌, ◌-◌, ◌==◌, if◌then◌else◌, List, [], ◌∷◌, ◌++◌, length, replicate, codes}
use Rattle.std.specs.List.{flat_map}
use Rattle.pic_num.specs.Limits.{most_letters}
use Rattle.pic_num.specs.declared.motion.Kind.{Kind}
use Rattle.pic_num.specs.declared.mult.Scales.{Scales}
use Rattle.pic_num.specs.Bytes.{u32_bytes, i32_bytes}
use Rattle.pic_num.specs.Multiplier.{Multiplier}
use Rattle.pic_num.specs.Space.{Triple, triple, axis_number}
use Rattle.pic_num.specs.Sub.{bits_of}
use Rattle.pic_grid.specs.declared.loops.Loop.{Loop}
use Rattle.pic_grid.specs.Species.{HeadView}
use Rattle.pic_fields.specs.Number.{i64_bytes}
use Rattle.pic_header.specs.Header.{HeaderView}

-- the byte of the digit 0; that of another is so much more
abbrev pub zero_digit : ℕ
zero_digit = 48

-- a multiplier n / 2^k
unfoldable pub mult_bytes : Multiplier → List ℕ
mult_bytes m = i32_bytes m.n ++ u32_bytes m.k

-- the four multipliers
unfoldable pub scales_bytes : Scales → List ℕ
scales_bytes s = mult_bytes s.e_to_b ++ mult_bytes s.b_to_e ++ mult_bytes s.e_force ++ mult_bytes s.b_force

-- the numbers of cells, or those of a cell
unfoldable pub cells_bytes : Triple → List ℕ
cells_bytes n = u32_bytes n.x ++ u32_bytes n.y ++ u32_bytes n.z

-- the mark: seven letters, and the digit of the version
unfoldable pub mark_bytes : ℕ → List ℕ
mark_bytes version = codes "PICDUMP" ++ (zero_digit + version) ∷ []

-- what version 2 says more: which power of two the side of a cell is, the filter of the current, and how
-- many loops there are
unfoldable pub form_bytes : HeaderView → List ℕ
form_bytes h = if h.version == 1 then [] else u32_bytes (bits_of h.side) ++ u32_bytes h.filter ++ u32_bytes (length h.loops)

-- how many bytes that has
abbrev pub form_length : ℕ → ℕ
form_length version = if version == 1 then 0 else 12

-- the bytes before the species: the mark, the cells, the steps, after how many of them a frame is
-- due, the multipliers, what version 2 says more, and how many species there are
unfoldable pub front_bytes : HeaderView → List ℕ
front_bytes h =
    mark_bytes h.version
    ++ cells_bytes h.cells
    ++ u32_bytes h.steps
    ++ u32_bytes h.every
    ++ scales_bytes h.scales
    ++ form_bytes h
    ++ u32_bytes (length h.species)

-- a name, filled with zeros
unfoldable pub name_bytes : List ℕ → List ℕ
name_bytes name = name ++ replicate (most_letters - length name) 0

-- what the particles of a species have in common
unfoldable pub kind_bytes : Kind → List ℕ
kind_bytes k = i32_bytes k.charge ++ u32_bytes k.mass ++ mult_bytes k.kick ++ mult_bytes k.turn

-- a species: its name, its kind, and the number of its particles
unfoldable pub head_bytes : HeadView → List ℕ
head_bytes h = name_bytes h.name ++ kind_bytes h.kind ++ u32_bytes h.count

-- the species in their order
unfoldable pub heads_bytes : List HeadView → List ℕ
heads_bytes heads = flat_map head_bytes heads

-- the numbers of a wave in their order
unfoldable pub wave_bytes : List ℤ → List ℕ
wave_bytes wave = flat_map i64_bytes wave

-- a driven loop: its axis, its cell, how many numbers its wave has, and these
unfoldable pub loop_bytes : Loop → List ℕ
loop_bytes l = u32_bytes (axis_number l.axis) ++ cells_bytes (triple l.cell) ++ u32_bytes (length l.wave) ++ wave_bytes l.wave

-- the loops in their order
unfoldable pub loops_bytes : List Loop → List ℕ
loops_bytes loops = flat_map loop_bytes loops

-- the header
unfoldable pub header_bytes : HeaderView → List ℕ
header_bytes h = front_bytes h ++ heads_bytes h.species ++ loops_bytes h.loops
