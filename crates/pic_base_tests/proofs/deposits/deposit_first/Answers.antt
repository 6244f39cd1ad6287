use Rattle.std.proofs.Common.{unsigned_abs, ℤ, sym, subst, arith}
use mir.Syntax.{w32}
use Rattle.std.proofs.lemmas.Int.{to_z-of_z}
use Rattle.pic_grid.specs.Flux.{flux}
use Rattle.pic_flux.specs.Adds.{SumsBelow}
use Rattle.pic_flux.proofs.FluxSizeLaws.{piece_below, flux_few}
use Rattle.pic_base_tests.proofs.deposits.deposit_first.Goals as goal

pub deposit-requires-clause-room : goal.deposit-requires-clause-room
deposit-requires-clause-room c =
    let charge = c.requires.charge.size in
    let few = flux_few c.args.sub (unsigned_abs c.args.q) c.side-side.ensures.most (omega (arith, charge)) in
    subst (λ (q : ℤ). SumsBelow c.args.to.now (flux c.args.sub q c.args.seg.now)) (sym (to_z-of_z w32 c.args.q c.ranges.q))
    (piece_below c.args.sub c.args.to.now c.args.q c.args.seg.now 0 c.requires.zeros c.requires.inside (omega (arith, few)))
