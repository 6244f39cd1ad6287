use Rattle.std.proofs.Common.{ap, ◌∙◌, arith}
use Rattle.pic_num.specs.Space.{Triple, triple}
use Rattle.pic_load.specs.Loading.{site, at_site}
use Rattle.pic_load.proofs.LoadLaws.{so_far, one_more, placed_more}
use Rattle.pic_load.proofs.loading.load_lattice.Goals as goal

pub add-requires : goal.add-requires
add-requires c =
    let sites = c.args.sites in
    let size = so_far _ _ c.args.species c.loop-i.i (at_site c.args.cells sites.first sites.gap sites.count sites.v) c.loop-i.invariant.filled in
    omega (arith, size, c.requires.few)

pub loop-i-preserved : goal.loop-i-preserved
loop-i-preserved c =
    let inv = c.loop-i.invariant in
    let sites = c.args.sites in
    let x = c.site.ensures.value ∙ ap (λ (t : Triple). site c.args.cells (triple sites.first) (triple sites.gap) t) c.number_in-at.ensures in
    record {
      filled = one_more c.args.particles.now.items _ _ c.args.species c.loop-i.i
          (at_site c.args.cells sites.first sites.gap sites.count sites.v) _ inv.filled c.in_ok-add.ensures
          (λ j. record { x = x j; v = sites.v });
      placed = λ m kinds speed placed.
          placed_more c.args.cells m _ _ _ c.args.species (record { x = c.site.result; v = sites.v }) kinds c.site.ensures.within speed c.in_ok-add.ensures
          (inv.placed m kinds speed placed);
    }
