use Rattle.std.proofs.Common.{◌≡◌, ◌+◌, ◌*◌, ◌++◌, length, take, drop, Result, Ok, Err, refl, ap, ◌∙◌, subst, arith}
use Rattle.std.proofs.lemmas.Result.{IfOk-from_err}
use Rattle.std.specs.Prelude.{sum, OnOk}
use Rattle.pic_block.specs.Cells.{count_of}
use Rattle.pic_energy.specs.Energies.{energies_of}
use Rattle.pic_fields.specs.Reads.{HasRead, Reads, as_it_is}
use Rattle.pic_fields.proofs.ReadLaws.{read_up_to, reads_up_to, reads_as, goes_on, exits}
use Rattle.pic_record.specs.FrameFields.{field_with, field_at, particles_at, energies_at, frame_of, state_at, frame_at}
use Rattle.pic_record.proofs.FrameLaws.{same_energies, written_over}
use Rattle.pic_record.proofs.frame_reader.read_frame.Goals as goal

-- a fact that holds whatever the result is
on_ok : {T E P : Type 0} (r : Result T E) → P → OnOk r P
on_ok (Ok x) p = p
on_ok (Err e) p = tt

pub returns-in_err-read_step-clause-reads : goal.returns-in_err-read_step-clause-reads
unfolding frame_at
returns-in_err-read_step-clause-reads g c = exits _ (omega arith) c.from_residual.ensures.1 c.in_err-read_step.ensures

pub returns-in_err-read_field-clause-reads : goal.returns-in_err-read_field-clause-reads
unfolding frame_at state_at
returns-in_err-read_field-clause-reads g c =
    let e = rw (c.requires.e, c.scales.ensures.value) at c.in_err-read_field.ensures.reads in
    goes_on _ c.in_ok-read_step.ensures.answer (exits _ (omega arith) c.from_residual-in_err-read_field.ensures.1 e)

pub returns-in_err-read_field-2-clause-reads : goal.returns-in_err-read_field-2-clause-reads
unfolding frame_at state_at
returns-in_err-read_field-2-clause-reads g c =
    let l = c.args.layout.now in
    let count : c.from-values.result ≡ count_of l.cells = c.from-values.ensures ∙ c.count.ensures.value ∙ ap count_of c.cells.ensures.value in
    let e_place = c.args.place + 4 in
    let b_place = e_place + 16 * (3 * c.from-values.result) in
    let at_step = g.S.Source.told c.read_step.new.source in
    let e_read = rw (c.requires.e, c.scales.ensures.value) at c.in_ok-read_field.ensures.reads in
    let at_e = g.S.Source.told c.read_field.new.source in
    let e : HasRead (field_at l.cells l.scales.e_force) e_place at_step c.read_field.new.field.values b_place at_e =
    read_up_to (omega (arith, count)) e_read.answer in
    let b = rw (c.requires.b, c.scales-2.ensures.value) at c.in_err-read_field-2.ensures.reads in
    goes_on _ c.in_ok-read_step.ensures.answer (goes_on _ e (exits _ (omega arith) c.from_residual-in_err-read_field-2.ensures.1 b))

pub returns-in_err-read_particles-clause-reads : goal.returns-in_err-read_particles-clause-reads
unfolding frame_at state_at
returns-in_err-read_particles-clause-reads g c =
    let l = c.args.layout.now in
    let count : c.from-values.result ≡ count_of l.cells = c.from-values.ensures ∙ c.count.ensures.value ∙ ap count_of c.cells.ensures.value in
    let e_place = c.args.place + 4 in
    let b_place = e_place + 16 * (3 * c.from-values.result) in
    let at_step = g.S.Source.told c.read_step.new.source in
    let e_read = rw (c.requires.e, c.scales.ensures.value) at c.in_ok-read_field.ensures.reads in
    let at_e = g.S.Source.told c.read_field.new.source in
    let e : HasRead (field_at l.cells l.scales.e_force) e_place at_step c.read_field.new.field.values b_place at_e =
    read_up_to (omega (arith, count)) e_read.answer in
    let particles_place = b_place + 16 * (3 * c.from-values.result) in
    let b_read = rw (c.requires.b, c.scales-2.ensures.value) at c.in_ok-read_field-2.ensures.reads in
    let at_b = g.S.Source.told c.read_field-2.new.source in
    let b : HasRead (field_at l.cells l.scales.b_force) b_place at_e c.read_field-2.new.field.values particles_place at_b =
    read_up_to (omega (arith, count)) b_read.answer in
    goes_on _ c.in_ok-read_step.ensures.answer (goes_on _ e (goes_on _ b (exits _ (omega arith) c.from_residual-in_err-read_particles.ensures.1
    c.in_err-read_particles.ensures.reads)))

pub returns-clause-reads : goal.returns-clause-reads
unfolding frame_at state_at
returns-clause-reads g c =
    let l = c.args.layout.now in
    let count : c.from-values.result ≡ count_of l.cells = c.from-values.ensures ∙ c.count.ensures.value ∙ ap count_of c.cells.ensures.value in
    let e_place = c.args.place + 4 in
    let b_place = e_place + 16 * (3 * c.from-values.result) in
    let at_step = g.S.Source.told c.read_step.new.source in
    let e_read = rw (c.requires.e, c.scales.ensures.value) at c.in_ok-read_field.ensures.reads in
    let at_e = g.S.Source.told c.read_field.new.source in
    let e : HasRead (field_at l.cells l.scales.e_force) e_place at_step c.read_field.new.field.values b_place at_e =
    read_up_to (omega (arith, count)) e_read.answer in
    let particles_place = b_place + 16 * (3 * c.from-values.result) in
    let b_read = rw (c.requires.b, c.scales-2.ensures.value) at c.in_ok-read_field-2.ensures.reads in
    let at_b = g.S.Source.told c.read_field-2.new.source in
    let b : HasRead (field_at l.cells l.scales.b_force) b_place at_e c.read_field-2.new.field.values particles_place at_b =
    read_up_to (omega (arith, count)) b_read.answer in
    let energies_place = particles_place + 24 * c.from.result in
    let at_p = g.S.Source.told c.read_particles.new.source in
    let number : c.from.result ≡ sum l.counts = c.from.ensures ∙ c.particles.ensures.value in
    let new = c.read_particles.new.particles in
    let p : HasRead (particles_at l) particles_place at_b new energies_place at_p =
    read_up_to (omega (arith, number)) c.in_ok-read_particles.ensures.reads.answer in
    let e_is = c.read_field.new.field in
    let b_is = c.read_field-2.new.field in
    let rest = drop (length new) c.args.state.now.particles.items in
    let items = ap length c.as_mut_slice.ensures.value in
    let size : length new ≡ c.args.state.now.particles.len = omega (arith, c.in_ok-read_particles.ensures.length, c.as_mut_slice.ensures.len, items) in
    let whole : take c.args.state.now.particles.len (new ++ rest) ≡ new = written_over c.args.state.now.particles.len new rest size in
    let want : c.energies-want.result ≡ energies_of l.scales l.kinds (field_with l e_is.values) (field_with l b_is.values) new =
    c.energies-want.ensures
    ∙ ap (λ s. energies_of s c.kinds.result.now e_is b_is (take c.args.state.now.particles.len (new ++ rest))) c.scales-3.ensures.value
    ∙ ap (λ k. energies_of l.scales k e_is b_is (take c.args.state.now.particles.len (new ++ rest))) c.kinds.ensures.value
    ∙ ap (λ q. energies_of l.scales l.kinds e_is b_is q) whole
    ∙ same_energies l.scales l.kinds e_is b_is l new in
    let end = g.S.Source.told c.read_piece_of_energies.new.source in
    let energies = subst (λ w. Reads as_it_is (energies_at w) energies_place (energies_place + 48) at_p end c.read_piece_of_energies.result) want
    c.read_piece_of_energies.ensures in
    let last = reads_as (frame_of c.args.due e_is.values b_is.values new) energies in
    rw whole (reads_up_to {d = energies_place + 48} (omega (arith, count, number)) (goes_on _ c.in_ok-read_step.ensures.answer
    (goes_on _ e (goes_on _ b (goes_on _ p last)))))

pub returns-in_err-read_step-clause-held : goal.returns-in_err-read_step-clause-held
returns-in_err-read_step-clause-held g c = IfOk-from_err _ _ c.from_residual.ensures.0

pub returns-in_err-read_field-clause-held : goal.returns-in_err-read_field-clause-held
returns-in_err-read_field-clause-held g c = IfOk-from_err _ _ c.from_residual-in_err-read_field.ensures.0

pub returns-in_err-read_field-2-clause-held : goal.returns-in_err-read_field-2-clause-held
returns-in_err-read_field-2-clause-held g c = IfOk-from_err _ _ c.from_residual-in_err-read_field-2.ensures.0

pub returns-in_err-read_particles-clause-held : goal.returns-in_err-read_particles-clause-held
returns-in_err-read_particles-clause-held g c = IfOk-from_err _ _ c.from_residual-in_err-read_particles.ensures.0

pub returns-in_err-read_step-clause-e : goal.returns-in_err-read_step-clause-e
returns-in_err-read_step-clause-e g c = record { cells = refl; side = refl; parts = refl }

pub returns-in_err-read_step-clause-b : goal.returns-in_err-read_step-clause-b
returns-in_err-read_step-clause-b g c = record { cells = refl; side = refl; parts = refl }

pub returns-in_err-read_step-clause-particles : goal.returns-in_err-read_step-clause-particles
returns-in_err-read_step-clause-particles g c = refl

pub returns-in_err-read_field-clause-e : goal.returns-in_err-read_field-clause-e
returns-in_err-read_field-clause-e g c = c.read_field.ensures.shape

pub returns-in_err-read_field-clause-b : goal.returns-in_err-read_field-clause-b
returns-in_err-read_field-clause-b g c = record { cells = refl; side = refl; parts = refl }

pub returns-in_err-read_field-clause-particles : goal.returns-in_err-read_field-clause-particles
returns-in_err-read_field-clause-particles g c = refl

pub returns-in_err-read_field-2-clause-e : goal.returns-in_err-read_field-2-clause-e
returns-in_err-read_field-2-clause-e g c = c.read_field.ensures.shape

pub returns-in_err-read_field-2-clause-b : goal.returns-in_err-read_field-2-clause-b
returns-in_err-read_field-2-clause-b g c = c.read_field-2.ensures.shape

pub returns-in_err-read_field-2-clause-particles : goal.returns-in_err-read_field-2-clause-particles
returns-in_err-read_field-2-clause-particles g c = refl

pub returns-in_err-read_particles-clause-e : goal.returns-in_err-read_particles-clause-e
returns-in_err-read_particles-clause-e g c = c.read_field.ensures.shape

pub returns-in_err-read_particles-clause-b : goal.returns-in_err-read_particles-clause-b
returns-in_err-read_particles-clause-b g c = c.read_field-2.ensures.shape

pub returns-in_err-read_particles-clause-particles : goal.returns-in_err-read_particles-clause-particles
returns-in_err-read_particles-clause-particles g c =
    let new = c.read_particles.new.particles in
    let n = c.args.state.now.particles.len in
    let same : length new ≡ length c.args.state.now.particles.items = c.in_err-read_particles.ensures.length ∙ ap length c.as_mut_slice.ensures.value in
    let size : length new ≡ n = omega (arith, same, c.as_mut_slice.ensures.len, ap length c.as_mut_slice.ensures.value) in
    ap length (written_over n new (drop (length new) c.args.state.now.particles.items) size) ∙ same

pub returns-clause-e : goal.returns-clause-e
returns-clause-e g c = c.read_field.ensures.shape

pub returns-clause-b : goal.returns-clause-b
returns-clause-b g c = c.read_field-2.ensures.shape

pub returns-clause-particles : goal.returns-clause-particles
returns-clause-particles g c =
    let new = c.read_particles.new.particles in
    let n = c.args.state.now.particles.len in
    let same : length new ≡ length c.args.state.now.particles.items = c.in_ok-read_particles.ensures.length ∙ ap length c.as_mut_slice.ensures.value in
    let size : length new ≡ n = omega (arith, same, c.as_mut_slice.ensures.len, ap length c.as_mut_slice.ensures.value) in
    ap length (written_over n new (drop (length new) c.args.state.now.particles.items) size) ∙ same

pub returns-clause-held : goal.returns-clause-held
returns-clause-held g c =
    let new = c.read_particles.new.particles in
    let n = c.args.state.now.particles.len in
    let items = ap length c.as_mut_slice.ensures.value in
    let size : length new ≡ n = omega (arith, c.in_ok-read_particles.ensures.length, c.as_mut_slice.ensures.len, items) in
    let whole = written_over n new (drop (length new) c.args.state.now.particles.items) size in
    on_ok c.read_piece_of_energies.result (rw whole (record {
      electric = rw c.scales.ensures.value at c.in_ok-read_field.ensures.bounds;
      magnetic = rw c.scales-2.ensures.value at c.in_ok-read_field-2.ensures.bounds;
      species = c.in_ok-read_particles.ensures.species;
      places = c.in_ok-read_particles.ensures.places;
    }))
