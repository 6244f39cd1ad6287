-- Every frame within its limits is read from its text, where it is due.
use Rattle.std.proofs.Common.{◌≡◌, ℕ, ℤ, pos, ◌+◌, ◌-◌, ◌*◌, ◌^◌, ◌<◌, ◌≤◌, ◌-ℤ◌, ◌≤ℤ◌, ◌<ℤ◌, true, leb, unsigned_abs}
use Rattle.std.proofs.Common.{List, [], ◌∷◌, ◌++◌, length, get_or, take, sum, min, Option, Some, None, Ok, inl, inr, refl, sym, ap, ◌∙◌, arith, append_assoc}
use Rattle.std.specs.Prelude.{nat_eq}
use Rattle.std.proofs.lemmas.Bool.{and_from, le-leb, lt-ltb, le-ltb, cases_lt, eqb-true, eq-eqb}
use Rattle.std.proofs.lemmas.Int.{ints, fits_signed_from_abs}
use Rattle.std.proofs.lemmas.List.{length-map, length-take-le, get_or-map}
use Rattle.std.proofs.lemmas.List.FromFn.{get_or-range_with_len, length-range_with_len}
use mir.Syntax.{w128}
use mir.Val.{SFits}
use Rattle.pic_num.specs.declared.axis.Axis.TheVariants.{X, Y, Z}
use Rattle.pic_num.specs.declared.motion.Particle.{Particle}
use Rattle.pic_num.specs.Bytes.{u32_bytes}
use Rattle.pic_num.specs.Limits.{most_value, most_force, most_side, most_cells_of_axis}
use Rattle.pic_num.specs.Multiplier.{Multiplier}
use Rattle.pic_num.specs.Rounding.{scaled}
use Rattle.pic_num.specs.Space.{Triple, triple, spot}
use Rattle.pic_num.specs.Velocity.{too_fast}
use Rattle.pic_num.proofs.SizeLaws.{times_at_most}
use Rattle.pic_block.specs.Cells.{count_of}
use Rattle.pic_energy.specs.Energies.{energies_of}
use Rattle.pic_energy.specs.declared.amounts.Energies.{Energies}
use Rattle.pic_fields.specs.Parser.{input, done, ◌>>=◌, mapped, checked}
use Rattle.pic_fields.specs.Number.{byte_at, is_between}
use Rattle.pic_fields.proofs.Spells.{Spells}
use Rattle.pic_fields.proofs.NumberLaws.{FitsU32, spells_byte, spells_u32, FitsI32}
use Rattle.pic_fields.proofs.ReadLaws.{then_ok}
use Rattle.pic_fields.proofs.SpellLaws.{FitsEach, fits_each, spells_bind, spells_checked}
use Rattle.pic_record.specs.Due.{due_after}
use Rattle.pic_record.specs.RecordText.{frame_tag, start_bytes, state_bytes, frame_bytes, values_bytes, particles_bytes, energies_bytes}
use Rattle.pic_record.specs.Fields.{is_below, the_step, wrong_step, wrong_tag}
use Rattle.pic_record.specs.FrameFields.{FrameView, is_moderate, IsModerate, field_with, frame_at}
use Rattle.pic_record.specs.Layout.{LayoutView, IsLayout, species_of}
use Rattle.pic_record.specs.Records.{AFrame, is_tag, behind_tag, record_at}
use Rattle.pic_record.specs.Spelling.{record_bytes}
use Rattle.pic_record.proofs.FrameSpells.{FitsState, state_text, spells_state}
use Rattle.pic_record.specs.Readable.{IsReadableField, IsReadableFrame, FramesAreRead}
use Rattle.pic_record.proofs.EnergyLaws.{most_kept, kept_size, kinetic_fits, squares_fit}
use Rattle.pic_record.proofs.FitLaws.{fits_below}
use Rattle.pic_fields.proofs.FitLaws.{fits_between, three_are}

-- the values of a field
abbrev FitsValue : Multiplier → List ℤ → ℤ → Type 0
FitsValue by before v = SFits w128 v × (is_moderate by v ≡ true)

value_fits : (by : Multiplier) (before : List ℤ) (v : ℤ) → IsModerate by v → FitsValue by before v
value_fits by before v is =
    let size = is.value.size in (
      fits_signed_from_abs w128 v (omega (arith, size)),
      and_from (leb (unsigned_abs v) most_value) (leb (unsigned_abs (scaled v by)) most_force) (le-leb _ _ size) (le-leb _ _ is.force.size),
    )

field_fits : (n : Triple) (by : Multiplier) (values : List ℤ) → IsReadableField n by values → FitsEach (FitsValue by) (3 * count_of n) values
field_fits n by values is =
    fits_each (FitsValue by) (pos 0) (3 * count_of n) values is.count
    (λ i below. value_fits by (take i values) (get_or values i (pos 0)) (is.moderate i (pos 0) (let count = is.count in omega (arith, below, count))))

-- the particles
coordinate_fits : (side cells x : ℕ) → side ≤ most_side → cells ≤ most_cells_of_axis → x < cells * side → FitsU32 (is_below (cells * side)) x
coordinate_fits side cells x small few below =
    let most = times_at_most cells side most_cells_of_axis most_side few small in
    fits_below (cells * side) x (omega (arith, most)) below

speed_fits : (side : ℕ) (v : ℤ) → side ≤ most_side → (pos 0 -ℤ pos (too_fast side)) ≤ℤ v → v <ℤ pos (too_fast side)
    → FitsI32 (is_between (pos 0 -ℤ pos (too_fast side)) (pos (too_fast side - 1))) v
speed_fits side v small least most =
    fits_between (pos 0 -ℤ pos (too_fast side)) (pos (too_fast side - 1)) v most_kept (omega arith) (kept_size side v small least most) least
    (omega (arith, ints, most))

-- an energy
energy_fits : (want n : ℕ) → n ≡ want → want < 2 ^ 128 → (n < 2 ^ 128) × (nat_eq want n ≡ true)
energy_fits want n is small = (omega (arith, is, small), eq-eqb want n (sym is))

-- what stands for a particle past the end
pub no_particle : Particle
no_particle = record { id = 0; species = 0; x = []; v = [] }

pub how_many : (l : LayoutView) (f : FrameView) → IsReadableFrame l f → length f.particles ≡ sum l.counts
how_many l f is =
    sym (length-map f.particles (λ (p : Particle). p.id)) ∙ ap (λ (ids : List ℕ). length ids) is.identities ∙ length-range_with_len 0 (sum l.counts)

pub identity_is : (l : LayoutView) (f : FrameView) (i : ℕ) → IsReadableFrame l f → i < sum l.counts → (get_or f.particles i no_particle).id ≡ i
identity_is l f i is below =
    let count = how_many l f is in
    let here = sym (get_or-map (λ (p : Particle). p.id) f.particles i no_particle 0 (omega (arith, count, below)))
    ∙ ap (λ (ids : List ℕ). get_or ids i 0) is.identities
    ∙ get_or-range_with_len 0 (sum l.counts) i 0 below in
    omega (arith, here)

-- all parts of a frame
frame_fits : (l : LayoutView) (f : FrameView) → IsLayout l → IsReadableFrame l f → FitsState l f.step f
unfolding energies_of
frame_fits l f layout is =
    let want = energies_of l.scales l.kinds (field_with l f.e) (field_with l f.b) f.particles in
    let count = how_many l f is in
    let total = layout.total in
    let c = layout.cells in
    let side = l.side in
    let small = layout.side_most in (
      field_fits l.cells l.scales.e_force f.e is.e,
      (
        field_fits l.cells l.scales.b_force f.b is.b,
        (
          fits_each _ no_particle (sum l.counts) f.particles count (λ i below. (
              let p = get_or f.particles i no_particle in
              let good = is.particles i no_particle (omega (arith, count, below)) in
              let x = triple p.x in
              let v = spot p.v in
              let id = identity_is l f i is below ∙ sym (length-take-le i f.particles (omega (arith, count, below))) in
              let species = good.species ∙ ap (λ (n : ℕ). species_of l.counts n) id in (
                (
                  coordinate_fits side l.cells.x x.x small c.x_most good.place.x,
                  (
                    coordinate_fits side l.cells.y x.y small c.y_most good.place.y,
                    (coordinate_fits side l.cells.z x.z small c.z_most good.place.z, three_are 0 p.x good.axes),
                  ),
                ),
                (
                  (
                    speed_fits side v.x small (good.velocity.least X) (good.velocity.most X),
                    (
                      speed_fits side v.y small (good.velocity.least Y) (good.velocity.most Y),
                      (speed_fits side v.z small (good.velocity.least Z) (good.velocity.most Z), three_are (pos 0) p.v good.speeds),
                    ),
                  ),
                  λ j. record { id = id j; species = species j; x = p.x; v = p.v },
                ),
              )
              )),
          (
            (
              energy_fits want.kinetic f.energies.kinetic (ap (λ (e : Energies). e.kinetic) is.energies)
                  (kinetic_fits l.kinds side f.particles layout.masses small (omega (arith, count, total))
                  (λ i d below. (is.particles i d below).velocity)),
              (
                energy_fits want.electric f.energies.electric (ap (λ (e : Energies). e.electric) is.energies) (squares_fit l.cells l.scales.e_force f.e c is.e),
                (
                  energy_fits want.magnetic f.energies.magnetic (ap (λ (e : Energies). e.magnetic) is.energies)
                      (squares_fit l.cells l.scales.b_force f.b c is.b),
                  refl,
                ),
              ),
            ),
            refl,
          ),
        ),
      ),
    )

-- the frame that is due, behind its mark
abbrev FitsDue : LayoutView → ℕ → FrameView → Type 0
FitsDue l due f = ((f.step < 2 ^ 32) × (nat_eq due f.step ≡ true)) × FitsState l due f

spells_due : (l : LayoutView) (due : ℕ) → Spells (frame_at l due) (λ f. u32_bytes f.step ++ state_text f) (FitsDue l due)
unfolding frame_at the_step
spells_due l due =
    spells_bind (λ (f : FrameView). f.step) (λ step f is g. ap (λ (o : FrameView). o.step) g.1.1.1.1 ∙ eqb-true due step is.1)
    (spells_checked wrong_step (nat_eq due) spells_u32) (λ step. spells_state l due)

frame_text : (l : LayoutView) (f : FrameView) → record_bytes l (AFrame f) ≡ frame_tag ∷ (u32_bytes f.step ++ state_text f)
unfolding frame_bytes start_bytes state_bytes state_text
frame_text l f =
    ap (λ t. frame_tag ∷ t) (append_assoc (u32_bytes f.step) (values_bytes f.e ++ values_bytes f.b ++ particles_bytes f.particles) (energies_bytes f.energies))

-- the mark of a record
pub marked : (l : LayoutView) (last due : Option ℕ) (mark place : ℕ) (rest : List ℕ) → due_after l.steps l.every last ≡ due → mark < 256
    → is_tag due last mark ≡ true → record_at l last (input place (mark ∷ rest)) ≡ behind_tag l last due mark (input (place + 1) rest)
unfolding record_at
marked l last due mark place rest is small passes =
    ap (λ (d : Option ℕ). (checked wrong_tag (is_tag d last) byte_at >>= behind_tag l last d) (input place (mark ∷ rest))) is
    ∙ then_ok (checked wrong_tag (is_tag due last) byte_at) (behind_tag l last due) _ _ mark
    ((spells_checked wrong_tag (is_tag due last) spells_byte).again place rest mark (small, passes))

due_read : (l : LayoutView) (last : Option ℕ) (f : FrameView) (place : ℕ) (rest : List ℕ) → FitsDue l f.step f
    → behind_tag l last (Some f.step) frame_tag (input place ((u32_bytes f.step ++ state_text f) ++ rest))
    ≡ Ok (AFrame f, input (place + length (u32_bytes f.step ++ state_text f)) rest)
unfolding behind_tag mapped done
due_read l last f place rest fits = then_ok (frame_at l f.step) (λ g. done (AFrame g)) _ _ f ((spells_due l f.step).again place rest f fits)

-- a frame is due after no more steps than there are
pub due_most : (l : LayoutView) (last : Option ℕ) (step : ℕ) → due_after l.steps l.every last ≡ Some step → step ≤ l.steps
due_most l None step due = let same : 0 ≡ step = cc in omega (arith, same)
due_most l (Some s) step due = elim (cases_lt s l.steps) [
  | inl less ↦ (let next = rw (lt-ltb s l.steps less) at due in
      let is : min (s + l.every) l.steps ≡ step = cc in
      omega (arith, is))
  | inr over ↦ (let none = rw (le-ltb s l.steps over) at due in absurd cc)
]

pub frames_are_read : FramesAreRead
frames_are_read l last f layout due is place rest =
    let text = u32_bytes f.step ++ state_text f in
    let same = frame_text l f in
    let size = ap (λ (t : List ℕ). length t) same in
    let steps = layout.steps in
    let most = due_most l last f.step due in
    let small : f.step < 2 ^ 32 = omega (arith, most, steps) in
    let fits : FitsDue l f.step f = ((small, eq-eqb f.step f.step refl), frame_fits l f layout is) in
    let end : place + 1 + length text ≡ place + length (record_bytes l (AFrame f)) = omega (arith, size) in
    ap (λ t. record_at l last (input place (t ++ rest))) same
    ∙ marked l last (Some f.step) frame_tag place (text ++ rest) due (omega arith) refl
    ∙ due_read l last f (place + 1) rest fits
    ∙ ap (λ n. Ok (AFrame f, input n rest)) end
