use Rattle.std.proofs.Common.{◌≡◌, ℕ, ℤ, List, sym, ap, ◌∙◌, arith}
use Rattle.std.proofs.lemmas.Result.{IfOk-from_err}
use Rattle.pic_num.specs.declared.motion.Particle.{Particle}
use Rattle.pic_fields.proofs.ReadLaws.{read_then, read_done, read_same, read_up_to, goes_on, exits}
use Rattle.pic_record.specs.FrameFields.{particle_with}
use Rattle.pic_record.specs.Layout.{species_of}
use Rattle.pic_record.proofs.frame_reader.read_particle.Goals as goal

-- a particle of these parts
abbrev particle : ℕ → ℕ → List ℕ → List ℤ → Particle
particle id species x v = record { id = id; species = species; x = x; v = v }

pub returns-in_err-x-clause-reads : goal.returns-in_err-x-clause-reads
unfolding particle_with
returns-in_err-x-clause-reads g c =
    let x = rw (c.cells.ensures.value, c.cells.ensures.side) at c.in_err-x.ensures.reads in
    exits _ (omega arith) c.from_residual.ensures.1 x

pub returns-in_err-v-clause-reads : goal.returns-in_err-v-clause-reads
unfolding particle_with
returns-in_err-v-clause-reads g c =
    let x = rw (c.cells.ensures.value, c.cells.ensures.side) at c.in_ok-x.ensures.reads in
    let v = rw c.side.ensures.value at c.in_err-v.ensures in
    goes_on _ x.answer (exits _ (omega arith) c.from_residual-in_err-v.ensures.1 v)

pub returns-clause-reads : goal.returns-clause-reads
unfolding particle_with
returns-clause-reads g c =
    let x = rw (c.cells.ensures.value, c.cells.ensures.side) at c.in_ok-x.ensures.reads in
    let v = rw c.side.ensures.value at c.in_ok-v.ensures in
    let id = c.args.id in
    let species : c.species_at-species.result ≡ species_of c.args.layout.now.counts id = c.species_at-species.ensures.value
    ∙ ap (λ counts. species_of counts id) c.counts.ensures.value in
    record {
      answer = read_same (ap (λ s. particle id s c.in_ok-x.x c.in_ok-v.v) (sym species)) (read_up_to (omega arith) (read_then _ x.answer
          (read_then _ v.answer (read_done _ _ _))));
    }

pub returns-clause-place : goal.returns-clause-place
returns-clause-place g c = record { place = rw (c.cells.ensures.value, c.cells.ensures.side) at c.in_ok-x.ensures.inside }

pub returns-in_err-x-clause-species : goal.returns-in_err-x-clause-species
returns-in_err-x-clause-species g c = IfOk-from_err _ _ c.from_residual.ensures.0

pub returns-in_err-x-clause-place : goal.returns-in_err-x-clause-place
returns-in_err-x-clause-place g c = IfOk-from_err _ _ c.from_residual.ensures.0

pub returns-in_err-v-clause-species : goal.returns-in_err-v-clause-species
returns-in_err-v-clause-species g c = IfOk-from_err _ _ c.from_residual-in_err-v.ensures.0

pub returns-in_err-v-clause-place : goal.returns-in_err-v-clause-place
returns-in_err-v-clause-place g c = IfOk-from_err _ _ c.from_residual-in_err-v.ensures.0
