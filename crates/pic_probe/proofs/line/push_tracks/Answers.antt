use Rattle.std.proofs.Common.{◌≡◌, ℕ, ◌++◌, ◌<◌, length, get_or, sym, ap, ◌∙◌, arith}
use Rattle.std.specs.Prelude.{flat_map}
use Rattle.pic_num.specs.NoParticle.{no_particle}
use Rattle.pic_probe.specs.ProbeLine.{particle_with, track_of}
use Rattle.pic_probe.proofs.LineLaws.{spaced, pieces_more, particle_stands}
use Rattle.pic_probe.proofs.line.push_tracks.Goals as goal

pub loop-id-preserved : goal.loop-id-preserved
loop-id-preserved c =
    let ids = c.args.ids.now in
    let ps = c.args.particles.now in
    let i = c.loop-id.id-index in
    let id = get_or ids i 0 in
    let piece = λ (n : ℕ). flat_map spaced (track_of (particle_with ps n)) in
    let below : id < length ps = c.requires.ids i 0 c.loop-id-test.true in
    let stands : particle_with ps id ≡ get_or ps id no_particle = particle_stands ps id c.requires.identities below in
    let pushed : c.push_track.new.text ≡ c.loop-id.text ++ piece id =
    c.push_track.ensures.bytes ∙ ap (λ p. c.loop-id.text ++ flat_map spaced (track_of p)) (sym stands) in
    record {
      bytes = pushed ∙ ap (λ l. l ++ piece id) c.loop-id.invariant.bytes ∙ pieces_more piece c.args.text.now ids i 0 c.loop-id-test.true;
      len = omega (arith, c.push_track.ensures.len, c.loop-id.invariant.len);
    }
