-- The spelling of an end record.
use Rattle.std.proofs.Common.{◌≡◌, ℕ, ℤ, zero, suc, ◌≤◌, ◌<◌, ◌⊎◌, Bool, true, false, ◌||◌, eqb, leb, List, [], ◌++◌, refl, ap, arith, inl, inr}
use Rattle.std.specs.Prelude.{sum}
use Rattle.std.proofs.lemmas.Bool.{and_parts, eqb-true, leb-true}
use mir.Syntax.{w128}
use mir.Val.{SFits}
use Rattle.pic_num.specs.declared.motion.What.{What}
use Rattle.pic_num.specs.declared.motion.What.TheVariants.{Speed, Turn, Far}
use Rattle.pic_num.specs.declared.axis.Axis.{Axis}
use Rattle.pic_num.specs.declared.axis.Axis.TheVariants.{X, Y, Z}
use Rattle.pic_num.specs.Bytes.{u32_bytes, i128_bytes}
use Rattle.pic_num.specs.Space.{Triple, triple, axis_number}
use Rattle.pic_block.specs.Cells.{axis_of}
use Rattle.pic_block.proofs.CellLaws.{axis_of-number}
use Rattle.pic_grid.specs.declared.stop.Phase.{Phase}
use Rattle.pic_grid.specs.declared.stop.Phase.TheVariants.{Half1, Half2, Electric}
use Rattle.pic_grid.specs.declared.stop.Bound.{Bound}
use Rattle.pic_grid.specs.declared.stop.Bound.TheVariants.{Value, Force}
use Rattle.pic_grid.specs.declared.stop.Stop.{Stop}
use Rattle.pic_grid.specs.declared.stop.Stop.TheVariants.{Field, Push}
use Rattle.pic_fields.specs.Number.{is_from_to}
use Rattle.pic_fields.proofs.Spells.{Spells}
use Rattle.pic_fields.proofs.SpellLaws.{spells_bind, spells_mapped, spells_last, spells_checked}
use Rattle.pic_fields.proofs.NumberLaws.{FitsU32, one_byte, spells_byte, spells_i128}
use Rattle.pic_header.proofs.LoopSpells.{axis_back}
use Rattle.pic_record.specs.RecordText.{phase_code, bound_code, what_code}
use Rattle.pic_record.specs.Fields.{wrong_end, is_below}
use Rattle.pic_record.specs.EndFields.{code_at, below_at, is_phase, phase_of, bound_of, what_of, phase_at, bound_at, what_at, axis_at}
use Rattle.pic_record.specs.EndFields.{stop_cell_at, bound_limit, what_limit, is_past, past_at, field_stop_at, push_stop_at}
use Rattle.pic_record.specs.Layout.{LayoutView}
use Rattle.pic_record.proofs.FrameSpells.{three, spells_below}

-- a byte that passes a test
abbrev pub FitsByte : (ℕ → Bool) → ℕ → Type 0
FitsByte test n = (n < 256) × (test n ≡ true)

pub spells_code : (test : ℕ → Bool) → Spells (code_at test) one_byte (FitsByte test)
unfolding code_at
spells_code test = spells_checked wrong_end test spells_byte

-- what each code says
pub or_true : (a b : Bool) → (a || b) ≡ true → (a ≡ true) ⊎ (b ≡ true)
or_true true b is = inl refl
or_true false b is = inr is

phase_back : (n : ℕ) → is_phase n ≡ true → phase_code (phase_of n) ≡ n
phase_back n is = elim (or_true (eqb n 1 || eqb n 3) (eqb n 4) is) [
  | inl front ↦ elim (or_true (eqb n 1) (eqb n 3) front) [
    | inl one ↦ (let e = eqb-true n 1 one in rw e refl)
    | inr three_is ↦ (let e = eqb-true n 3 three_is in rw e refl)
  ]
  | inr four ↦ (let e = eqb-true n 4 four in rw e refl)
]

phase_fits : (p : Phase) → FitsByte is_phase (phase_code p)
phase_fits Half1 = (omega arith, refl)
phase_fits Half2 = (omega arith, refl)
phase_fits Electric = (omega arith, refl)

phase_forth : (p : Phase) → phase_of (phase_code p) ≡ p
phase_forth Half1 = refl
phase_forth Half2 = refl
phase_forth Electric = refl

spells_phase : Spells phase_at (λ p. one_byte (phase_code p)) (λ p. Unit {0})
unfolding phase_at
spells_phase =
    spells_mapped phase_of phase_code (λ p. Unit {0}) (λ p u. phase_fits p) (λ p u. phase_forth p) (λ n f. tt) (λ n f. phase_back n f.1) (spells_code is_phase)

-- a number between two others
pub from_to : (low high n : ℕ) → is_from_to low high n ≡ true → (low ≤ n) × (n ≤ high)
from_to low high n is = let (l, h) = and_parts (leb low n) (leb n high) is in (leb-true low n l, leb-true n high h)

bound_back : (n : ℕ) → is_from_to 1 2 n ≡ true → bound_code (bound_of n) ≡ n
bound_back zero is = (let h = from_to 1 2 0 is in absurd (omega (arith, h.0)))
bound_back (suc zero) is = refl
bound_back (suc (suc zero)) is = refl
bound_back (suc (suc (suc n))) is = (let h = from_to 1 2 (suc (suc (suc n))) is in absurd (omega (arith, h.1)))

bound_fits : (b : Bound) → FitsByte (is_from_to 1 2) (bound_code b)
bound_fits Value = (omega arith, refl)
bound_fits Force = (omega arith, refl)

bound_forth : (b : Bound) → bound_of (bound_code b) ≡ b
bound_forth Value = refl
bound_forth Force = refl

spells_bound : Spells bound_at (λ b. one_byte (bound_code b)) (λ b. Unit {0})
unfolding bound_at
spells_bound =
    spells_mapped bound_of bound_code (λ b. Unit {0}) (λ b u. bound_fits b) (λ b u. bound_forth b) (λ n f. tt) (λ n f. bound_back n f.1)
    (spells_code (is_from_to 1 2))

what_back : (n : ℕ) → is_from_to 1 3 n ≡ true → what_code (what_of n) ≡ n
what_back zero is = (let h = from_to 1 3 0 is in absurd (omega (arith, h.0)))
what_back (suc zero) is = refl
what_back (suc (suc zero)) is = refl
what_back (suc (suc (suc zero))) is = refl
what_back (suc (suc (suc (suc n)))) is = (let h = from_to 1 3 (suc (suc (suc (suc n)))) is in absurd (omega (arith, h.1)))

what_fits : (w : What) → FitsByte (is_from_to 1 3) (what_code w)
what_fits Speed = (omega arith, refl)
what_fits Turn = (omega arith, refl)
what_fits Far = (omega arith, refl)

what_forth : (w : What) → what_of (what_code w) ≡ w
what_forth Speed = refl
what_forth Turn = refl
what_forth Far = refl

spells_what : Spells what_at (λ w. one_byte (what_code w)) (λ w. Unit {0})
unfolding what_at
spells_what =
    spells_mapped what_of what_code (λ w. Unit {0}) (λ w u. what_fits w) (λ w u. what_forth w) (λ n f. tt) (λ n f. what_back n f.1)
    (spells_code (is_from_to 1 3))

axis_fits : (a : Axis) → FitsByte (is_from_to 0 2) (axis_number a)
axis_fits X = (omega arith, refl)
axis_fits Y = (omega arith, refl)
axis_fits Z = (omega arith, refl)

spells_axis : Spells axis_at (λ a. one_byte (axis_number a)) (λ a. Unit {0})
unfolding axis_at
spells_axis =
    spells_mapped axis_of axis_number (λ a. Unit {0}) (λ a u. axis_fits a) (λ a u. axis_of-number a) (λ n f. tt) (λ n f. axis_back n f.1)
    (spells_code (is_from_to 0 2))

-- a cell
abbrev FitsCell : Triple → List ℕ → Type 0
FitsCell n l =
    FitsU32 (is_below n.x) (triple l).x × (FitsU32 (is_below n.y) (triple l).y × (FitsU32 (is_below n.z) (triple l).z × (l ≡ three (triple l).x (triple l).y
    (triple l).z)))

abbrev pub cell_text : List ℕ → List ℕ
cell_text l = u32_bytes (triple l).x ++ (u32_bytes (triple l).y ++ u32_bytes (triple l).z)

spells_cell : (n : Triple) → Spells (stop_cell_at n) cell_text (FitsCell n)
unfolding stop_cell_at below_at
spells_cell n =
    spells_bind (λ (l : List ℕ). (triple l).x) (λ a l f g. ap (λ (m : List ℕ). (triple m).x) g.1.1) (spells_below wrong_end n.x)
    (λ a. spells_bind (λ (l : List ℕ). (triple l).y) (λ b l f g. ap (λ (m : List ℕ). (triple m).y) g.1) (spells_below wrong_end n.y)
    (λ b. spells_last (λ c. three a b c) (λ (l : List ℕ). (triple l).z) (λ c. refl) (spells_below wrong_end n.z)))

abbrev FitsPast : ℕ → ℤ → Type 0
FitsPast limit v = SFits w128 v × (is_past limit v ≡ true)

spells_past : (limit : ℕ) → Spells (past_at limit) i128_bytes (FitsPast limit)
unfolding past_at
spells_past limit = spells_checked wrong_end (is_past limit) spells_i128

-- the parts of a stop; those of the other kind are of no use
abbrev pub phase_in : Stop → Phase
phase_in (Field phase bound axis cell value) = phase
phase_in (Push id what axis value) = Half1

abbrev pub bound_in : Stop → Bound
bound_in (Field phase bound axis cell value) = bound
bound_in (Push id what axis value) = Value

abbrev pub axis_in : Stop → Axis
axis_in (Field phase bound axis cell value) = axis
axis_in (Push id what axis value) = axis

abbrev pub cell_in : Stop → List ℕ
cell_in (Field phase bound axis cell value) = cell
cell_in (Push id what axis value) = []

abbrev pub value_in : Stop → ℤ
value_in (Field phase bound axis cell value) = value
value_in (Push id what axis value) = value

abbrev pub id_in : Stop → ℕ
id_in (Field phase bound axis cell value) = 0
id_in (Push id what axis value) = id

abbrev pub what_in : Stop → What
what_in (Field phase bound axis cell value) = Speed
what_in (Push id what axis value) = what

abbrev pub FitsFieldStop : LayoutView → Stop → Type 0
FitsFieldStop l s =
    Unit {0}
    × (Unit {0}
    × (Unit {0}
    × (FitsCell l.cells (cell_in s)
    × (FitsPast (bound_limit (bound_in s)) (value_in s) × (s ≡ Field (phase_in s) (bound_in s) (axis_in s) (cell_in s) (value_in s))))))

unfoldable pub field_stop_text : Stop → List ℕ
field_stop_text s =
    one_byte (phase_code (phase_in s)) ++ (one_byte (bound_code (bound_in s)) ++ (one_byte (axis_number (axis_in s)) ++ (cell_text (cell_in s)
    ++ i128_bytes (value_in s))))

pub spells_field_stop : (l : LayoutView) → Spells (field_stop_at l) field_stop_text (FitsFieldStop l)
unfolding field_stop_at field_stop_text
spells_field_stop l =
    spells_bind phase_in (λ a s f g. ap phase_in g.1.1.1.1) spells_phase
    (λ a. spells_bind bound_in (λ b s f g. ap bound_in g.1.1.1) spells_bound
    (λ b. spells_bind axis_in (λ c s f g. ap axis_in g.1.1) spells_axis
    (λ c. spells_bind cell_in (λ d s f g. ap cell_in g.1) (spells_cell l.cells)
    (λ d. spells_last (λ v. Field a b c d v) value_in (λ v. refl) (spells_past (bound_limit b))))))

abbrev pub FitsPushStop : LayoutView → Stop → Type 0
FitsPushStop l s =
    FitsU32 (is_below (sum l.counts)) (id_in s)
    × (Unit {0} × (Unit {0} × (FitsPast (what_limit l.side (what_in s)) (value_in s) × (s ≡ Push (id_in s) (what_in s) (axis_in s) (value_in s)))))

unfoldable pub push_stop_text : Stop → List ℕ
push_stop_text s = u32_bytes (id_in s) ++ (one_byte (what_code (what_in s)) ++ (one_byte (axis_number (axis_in s)) ++ i128_bytes (value_in s)))

pub spells_push_stop : (l : LayoutView) → Spells (push_stop_at l) push_stop_text (FitsPushStop l)
unfolding push_stop_at push_stop_text below_at
spells_push_stop l =
    spells_bind id_in (λ a s f g. ap id_in g.1.1.1) (spells_below wrong_end (sum l.counts))
    (λ a. spells_bind what_in (λ b s f g. ap what_in g.1.1) spells_what
    (λ b. spells_bind axis_in (λ c s f g. ap axis_in g.1) spells_axis
    (λ c. spells_last (λ v. Push a b c v) value_in (λ v. refl) (spells_past (what_limit l.side b)))))
