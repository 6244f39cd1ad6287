use Rattle.std.proofs.Common.{ℕ, ◌<◌, get_or, set, sym, ap, ◌∙◌, subst, arith}
use Rattle.std.proofs.lemmas.List.{get_or_default}
use Rattle.std.proofs.lemmas.List.Edits.{map_over_more}
use Rattle.pic_num.specs.declared.motion.Particle.{Particle}
use Rattle.pic_num.specs.NoParticle.{no_particle}
use Rattle.pic_grid.specs.PushPhase.{CanShare}
use Rattle.pic_tile.specs.Frame.{felt_in}
use Rattle.pic_tile.specs.Leaving.{after_its_push}
use Rattle.pic_tile.specs.Tiling.{cells_of}
use Rattle.pic_step.proofs.TracerLaws.{still_long, not_yet, all_done}
use Rattle.pic_step.proofs.tracers.push_tracers.Goals as goal

pub push_alone-requires : goal.push_alone-requires
push_alone-requires c =
    let m = c.args.frame.now.map in
    let xs = c.args.tracers.now in
    let i = c.loop-i.i in
    let same = not_yet (after_its_push (felt_in c.args.frame.now)) xs c.loop-i.tracers i no_particle c.loop-i-test.true c.loop-i.invariant in
    subst (CanShare m.side (cells_of m) c.args.frame.now.kinds) (sym same) (c.requires i no_particle c.loop-i-test.true)

pub loop-i-preserved : goal.loop-i-preserved
loop-i-preserved c =
    let f = after_its_push (felt_in c.args.frame.now) in
    let x = get_or c.loop-i.tracers c.loop-i.i no_particle in
    let long = still_long f c.args.tracers.now c.loop-i.tracers c.loop-i.i c.loop-i-test.true c.loop-i.invariant in
    ap (λ (x : Particle). set c.loop-i.tracers c.loop-i.i x) c.push_alone.ensures
    ∙ map_over_more f c.args.tracers.now c.loop-i.tracers c.loop-i.i x c.loop-i-test.true c.loop-i.invariant
    (get_or_default c.loop-i.tracers c.loop-i.i no_particle x (subst (λ (n : ℕ). c.loop-i.i < n) (sym long) c.loop-i-test.true))

pub returns : goal.returns
returns c =
    all_done (felt_in c.args.frame.now) c.args.tracers.now c.loop-i.tracers c.loop-i.i (omega (arith, c.loop-i-test.false)) c.loop-i.invariant
