use Rattle.std.proofs.Common.{◌≡◌, ◌+◌, ◌*◌, ◌<◌, ◌++◌, Err, length, take, drop, refl, sym, ◌∙◌, subst, arith, length-set}
use Rattle.std.proofs.lemmas.Result.{IfOk-from_err}
use Rattle.pic_energy.specs.Energies.{IsOfKinds}
use Rattle.pic_fields.specs.Pieces.{each_behind}
use Rattle.pic_fields.specs.Reads.{HasRead, Reads, as_it_is}
use Rattle.pic_fields.proofs.ReadLaws.{read_same, read_up_to}
use Rattle.pic_fields.proofs.EachLaws.{read_none, read_more, exits_among}
use Rattle.pic_record.specs.FrameFields.{particle_at, IsBoxed}
use Rattle.pic_record.proofs.FrameLaws.{each_set}
use Rattle.pic_record.proofs.PartLaws.{part_none, part_more, part_size, front_stays}
use Rattle.pic_record.proofs.frame_reader.read_some_particles.Goals as goal

pub loop-index-init : goal.loop-index-init
loop-index-init g c =
    let xs = c.args.particles.now in
    let first = c.args.part.first in
    let l = c.args.layout.now in
    let none = read_none (λ ys. particle_at l (take first xs ++ ys)) c.args.place _ in
    record {
      read = read_same {p = each_behind (take first xs) 0 (particle_at l)} (sym (part_none first xs)) (read_up_to (omega arith) none);
      length = refl;
      front = refl;
      species = λ k d below. c.requires.held.species k d (omega (arith, below));
      places = λ k d below. c.requires.held.places k d (omega (arith, below));
    }

pub returns-in_err-particle-clause-part : goal.returns-in_err-particle-clause-part
unfolding particle_at
returns-in_err-particle-clause-part g c =
    let so_far = c.loop-index.invariant in
    let i = c.loop-index.index in
    let l = c.args.layout.now in
    let first = c.args.part.first in
    let front = take first c.args.particles.now in
    let part = drop first (take (first + i) c.loop-index.particles) in
    let size : length (front ++ part) ≡ first + i = part_size first i c.args.particles.now c.loop-index.particles so_far.front
    (omega (arith, so_far.length, c.requires.length, c.requires.count, c.loop-index-test.true)) in
    let at = c.args.place + 24 * i in
    let stopped : Reads as_it_is (particle_at l (front ++ part)) at (at + 24) (g.S.Source.told c.loop-index.source)
    (g.S.Source.told c.read_particle.new.source)
    (Err c.in_err-particle.field-0.0) = rw size c.in_err-particle.ensures.reads in
    record {
      reads = exits_among c.args.part.count i (λ ys. particle_at l (front ++ ys)) c.from_residual.ensures.1 c.loop-index-test.true
          (omega (arith, c.loop-index-test.true)) so_far.read stopped;
      whole = so_far.length;
      front = so_far.front;
    }

pub loop-index-preserved : goal.loop-index-preserved
unfolding particle_at
loop-index-preserved g c =
    let so_far = c.loop-index.invariant in
    let i = c.loop-index.index in
    let l = c.args.layout.now in
    let first = c.args.part.first in
    let m = first + i in
    let ps = c.loop-index.particles in
    let p = c.in_ok-particle.particle in
    let front = take first c.args.particles.now in
    let part = drop first (take m ps) in
    let inside : m < length ps = omega (arith, so_far.length, c.requires.length, c.requires.count, c.loop-index-test.true) in
    let size : length (front ++ part) ≡ m = part_size first i c.args.particles.now ps so_far.front (omega (arith, inside)) in
    let at = c.args.place + 24 * i in
    let next : HasRead (particle_at l (front ++ part)) at (g.S.Source.told c.loop-index.source) p (at + 24) (g.S.Source.told c.read_particle.new.source) =
    rw size c.in_ok-particle.ensures.reads.answer in
    let assoc : m + 1 ≡ first + (i + 1) = omega arith in
    record {
      read = read_up_to (omega arith) (read_same (part_more first i ps p inside) (read_more i (λ ys. particle_at l (front ++ ys)) so_far.read next));
      length = length-set _ _ _ ∙ so_far.length;
      front = front_stays first i ps p ∙ so_far.front;
      species = λ k d below. each_set (IsOfKinds l.kinds) ps m p inside so_far.species c.in_ok-particle.ensures.species k d (omega (arith, below, assoc));
      places = λ k d below. each_set (IsBoxed l.side l.cells) ps m p inside so_far.places c.in_ok-particle.ensures.place k d (omega (arith, below, assoc));
    }

pub returns-clause-part : goal.returns-clause-part
returns-clause-part g c =
    let so_far = c.loop-index.invariant in
    let xs = c.args.particles.now in
    let new = c.loop-index.particles in
    let l = c.args.layout.now in
    let first = c.args.part.first in
    let before = g.S.Source.told c.args.source.now in
    let now = g.S.Source.told c.loop-index.source in
    let all : c.loop-index.index ≡ c.args.part.count = omega (arith, c.loop-index-test.false, c.loop-index.auto.index-end) in
    record {
      reads = record {
        answer = subst (λ n. HasRead (each_behind (take first xs) n (particle_at l)) c.args.place before (drop first (take (first + n) new))
            (c.args.place + 24 * n) now) all so_far.read;
      };
      whole = so_far.length;
      front = so_far.front;
    }

pub returns-clause-held : goal.returns-clause-held
returns-clause-held g c =
    let so_far = c.loop-index.invariant in
    let all : c.loop-index.index ≡ c.args.part.count = omega (arith, c.loop-index-test.false, c.loop-index.auto.index-end) in
    record {
      species = λ k d below. so_far.species k d (omega (arith, below, all));
      places = λ k d below. so_far.places k d (omega (arith, below, all));
    }

pub returns-in_err-particle-clause-held : goal.returns-in_err-particle-clause-held
returns-in_err-particle-clause-held g c = IfOk-from_err _ _ c.from_residual.ensures.0
