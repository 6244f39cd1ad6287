use Rattle.std.proofs.Common.{◌≡◌, ◌+◌, ◌*◌, ◌≤◌, take, refl, sym, ap, ◌∙◌, subst, arith, drop}
use Rattle.std.proofs.lemmas.Result.{IfOk-from_err}
use Rattle.std.specs.Prelude.{sum}
use Rattle.std.proofs.Math.Seq.{take-length}
use Rattle.pic_fields.specs.Parser.{each}
use Rattle.pic_fields.specs.Reads.{always, HasRead}
use Rattle.pic_fields.proofs.ReadLaws.{read_same, read_up_to}
use Rattle.pic_fields.proofs.EachLaws.{read_none}
use Rattle.pic_fields.proofs.BehindLaws.{read_behind, exits_behind}
use Rattle.pic_record.specs.FrameFields.{particle_at, particles_at}
use Rattle.pic_record.proofs.PartLaws.{part_whole}
use Rattle.pic_record.proofs.frame_reader.read_particles.Goals as goal

pub loop-first-init : goal.loop-first-init
loop-first-init g c = record {
  read = read_up_to (omega arith) (read_none (particle_at c.args.layout.now) c.args.place _);
  all = c.particles-all.ensures.value;
  most = omega arith;
  length = refl;
  species = λ k d below. absurd (omega (arith, below));
  places = λ k d below. absurd (omega (arith, below));
}

pub returns-in_err-read_piece_of_particles-clause-reads : goal.returns-in_err-read_piece_of_particles-clause-reads
unfolding particles_at
returns-in_err-read_piece_of_particles-clause-reads g c =
    let so_far = c.loop-first.invariant in
    let first = c.loop-first.first in
    let count = c.min-count.result in
    let n = sum c.args.layout.now.counts in
    let fits : first + count ≤ n = omega (arith, so_far.all, so_far.most, c.min-count.ensures) in
    let new = c.read_piece_of_particles.new.particles in
    exits_behind (particle_at c.args.layout.now) first count n {view = always (drop first (take (first + count) new))} c.from_residual.ensures.1
    fits (omega (arith, fits)) so_far.read
    c.in_err-read_piece_of_particles.ensures.part.reads

pub loop-first-preserved : goal.loop-first-preserved
loop-first-preserved g c =
    let so_far = c.loop-first.invariant in
    let first = c.loop-first.first in
    let count = c.min-count.result in
    let old = c.loop-first.particles in
    let new = c.read_piece_of_particles.new.particles in
    let piece = c.in_ok-read_piece_of_particles.ensures in
    record {
      read = read_up_to {a = take (first + count) new} (omega arith) (read_same (part_whole first count old new piece.part.front)
          (read_behind (particle_at c.args.layout.now) first count so_far.read piece.part.reads.answer));
      all = so_far.all;
      most = omega (arith, so_far.most, c.min-count.ensures);
      length = piece.part.whole ∙ so_far.length;
      species = piece.held.species;
      places = piece.held.places;
    }

pub returns-clause-reads : goal.returns-clause-reads
unfolding particles_at
returns-clause-reads g c =
    let so_far = c.loop-first.invariant in
    let i = c.loop-first.first in
    let l = c.args.layout.now in
    let ps = c.loop-first.particles in
    let all : i ≡ sum l.counts = omega (arith, so_far.all, so_far.most, c.loop-first-test.false) in
    let whole : take i ps ≡ ps = ap (λ n. take n ps) (all ∙ sym (so_far.length ∙ c.requires.count)) ∙ take-length ps in
    let before = g.S.Source.told c.args.source.now in
    let now = g.S.Source.told c.loop-first.source in
    record {
      answer = read_same whole (subst (λ n. HasRead (each n (particle_at l)) c.args.place before (take i ps) (c.args.place + 24 * n) now) all
          so_far.read);
    }

pub returns-clause-species : goal.returns-clause-species
returns-clause-species g c =
    let so_far = c.loop-first.invariant in
    λ k d below. so_far.species k d (omega (arith, below, so_far.length, c.requires.count, so_far.all, so_far.most, c.loop-first-test.false))

pub returns-clause-places : goal.returns-clause-places
returns-clause-places g c =
    let so_far = c.loop-first.invariant in
    λ k d below. so_far.places k d (omega (arith, below, so_far.length, c.requires.count, so_far.all, so_far.most, c.loop-first-test.false))

pub returns-in_err-read_piece_of_particles-clause-species : goal.returns-in_err-read_piece_of_particles-clause-species
returns-in_err-read_piece_of_particles-clause-species g c = IfOk-from_err _ _ c.from_residual.ensures.0

pub returns-in_err-read_piece_of_particles-clause-places : goal.returns-in_err-read_piece_of_particles-clause-places
returns-in_err-read_piece_of_particles-clause-places g c = IfOk-from_err _ _ c.from_residual.ensures.0
