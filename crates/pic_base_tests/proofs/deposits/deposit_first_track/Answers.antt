use Rattle.std.proofs.Common.{unsigned_abs, ◌*◌, ℤ, length, take, ap, sym, subst, arith}
use Rattle.std.proofs.Math.Nat.{mul-le-mul_left}
use mir.Syntax.{w32}
use Rattle.std.proofs.lemmas.Int.{to_z-of_z}
use Rattle.pic_grid.specs.Flux.{path_flux}
use Rattle.pic_flux.specs.Adds.{SumsBelow}
use Rattle.pic_grid.proofs.FluxLaws.{ways_most}
use Rattle.pic_flux.proofs.FluxSizeLaws.{fronts_below, four_few}
use Rattle.pic_base_tests.proofs.deposits.deposit_first_track.Goals as goal

pub deposit_track-requires-clause-room : goal.deposit_track-requires-clause-room
deposit_track-requires-clause-room c =
    let charge = c.requires.charge.size in
    let count = ap length c.segments-segments.ensures.value in
    let few = c.segments-segments.ensures.most in
    let most = four_few c.args.sub (unsigned_abs c.args.q) c.side-side.ensures.most charge in
    let held = to_z-of_z w32 c.args.q c.ranges.q in
    λ k. subst (λ (q : ℤ). SumsBelow c.args.to.now (path_flux c.args.sub q (take k c.args.track.now))) (sym held)
    (fronts_below c.args.sub c.args.to.now c.args.q c.args.track.now 0 (4 * c.args.sub) c.requires.zeros
    (λ a. let h = ways_most c.args.sub c.args.track.now c.requires.inside a in
    let more = mul-le-mul_left c.args.sub few in omega (arith, h, count, more)) (omega (arith, most)) k)
