use Rattle.std.proofs.Common.{◌≡◌, length, [], take, ap, subst, ◌∙◌, arith}
use Rattle.std.proofs.Math.Seq.{take-length}
use Rattle.std.proofs.lemmas.Result.{err_from_is_err_and}
use Rattle.std.specs.Prelude.{flat_map}
use Rattle.pic_num.specs.declared.motion.Particle.{Particle}
use Rattle.pic_record.specs.RecordText.{particle_bytes, particles_bytes}
use Rattle.pic_record.specs.Queues.{Queued}
use Rattle.pic_record.proofs.Waits.{queued_more, cut_of_pieces}
use Rattle.pic_record.proofs.framing.put_particles.Goals as goal

-- what stands for a particle past the end
abbrev no_particle : Particle
no_particle = record { id = 0; species = 0; x = []; v = [] }

pub returns-in_err-put_particle-clause-bytes : goal.returns-in_err-put_particle-clause-bytes
unfolding particles_bytes
returns-in_err-put_particle-clause-bytes g c =
    let exit = err_from_is_err_and c.from_residual.result c.from_residual.ensures.1 in
    let before = g.O.Sink.told c.args.out.now in
    let mid = g.O.Sink.told c.loop-particle.out in
    let now = g.O.Sink.told c.put_particle.new.out in
    let cut = c.in_err-put_particle.ensures.bytes.answer in
    rw (exit.1) (record {
      answer = cut_of_pieces particle_bytes c.args.particles.now c.loop-particle.particle-index no_particle before mid now c.args.room.now c.loop-particle.room
          c.loop-particle-test.true c.loop-particle.invariant.queued cut;
    })

pub loop-particle-preserved : goal.loop-particle-preserved
loop-particle-preserved g c =
    let before = g.O.Sink.told c.args.out.now in
    let mid = g.O.Sink.told c.loop-particle.out in
    let now = g.O.Sink.told c.put_particle.new.out in
    let next = c.in_ok-put_particle.ensures in
    record {
      queued = queued_more particle_bytes c.args.particles.now c.loop-particle.particle-index no_particle before mid now c.args.room.now c.loop-particle.room
          c.put_particle.new.room c.loop-particle-test.true c.loop-particle.invariant.queued next.bytes.answer;
      calm = next.cause.ok ∙ c.loop-particle.invariant.calm;
    }

pub returns-clause-bytes : goal.returns-clause-bytes
unfolding particles_bytes
returns-clause-bytes g c =
    let particles = c.args.particles.now in
    let all : c.loop-particle.particle-index ≡ length particles = omega (arith, c.loop-particle-test.false, c.loop-particle.auto.particle-index-end) in
    let whole = ap (λ i. take i particles) all ∙ take-length particles in
    record {
      answer = subst (λ xs. Queued (g.O.Sink.told c.args.out.now) (g.O.Sink.told c.loop-particle.out) c.args.room.now c.loop-particle.room
          (flat_map particle_bytes xs)) whole c.loop-particle.invariant.queued;
    }
