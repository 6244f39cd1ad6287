use Rattle.std.proofs.Common.{◌+◌, sym, ◌∙◌, subst}
use Rattle.pic_block.specs.Block.{BlockValues}
use Rattle.pic_displace.specs.Displace.{way_of}
use Rattle.pic_displace.proofs.AddedLaws.{HasAdded, none_added, one_added, still_added}
use Rattle.pic_displace.proofs.displacing.add_ways.Goals.{in-None, in-Some}
use Rattle.pic_displace.proofs.displacing.add_ways.Goals as goal

pub loop-particle-init : goal.loop-particle-init
loop-particle-init c = none_added c.args.cells.side (way_of c.args.species.now c.args.particles.now) c.args.particles.now c.args.to.now c.requires.zeros

pub loop-particle-preserved : goal.loop-particle-preserved
loop-particle-preserved c =
    let way = way_of c.args.species.now c.args.particles.now in
    let ps = c.args.particles.now in
    let i = c.loop-particle.particle-index in
    let mid = c.loop-particle.to in
    elim c.match-way_of.branch [
      | in-None w ↦ subst (λ (b : BlockValues). HasAdded c.args.cells.side way ps (i + 1) c.args.to.now b) (sym w.to-is)
          (still_added c.args.cells.side way ps i _ c.args.to.now mid c.loop-particle-test.true (sym w.in-None.is ∙ c.way_of.ensures) c.loop-particle.invariant)
      | in-Some w ↦ subst (λ (b : BlockValues). HasAdded c.args.cells.side way ps (i + 1) c.args.to.now b) (sym w.to-is)
          (one_added c.args.cells.side way ps i _ _ c.args.to.now mid w.add_way.new.to c.loop-particle-test.true (sym w.in-Some.is ∙ c.way_of.ensures)
          c.loop-particle.invariant w.add_way.ensures.shape w.add_way.ensures.values w.add_way.ensures.grows)
    ]
