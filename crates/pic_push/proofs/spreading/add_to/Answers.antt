use Rattle.std.proofs.Common.{rules}
use Rattle.pic_block.specs.Block.{IsShaped}
use Rattle.pic_flux.specs.Adds.{Adds}
use Rattle.pic_flux.specs.CellFlux.{edge_flux}
use Rattle.pic_push.proofs.GainLaws.{gains_changed, called_flux}
use Rattle.pic_push.proofs.spreading.add_to.Goals as goal

pub returns : goal.returns
returns c =
    let f = edge_flux c.args.flux.now in
    gains_changed f c.args.dir c.args.tile.now c.change_flux.new.self c.change_flux.ensures.none
    (λ p is.
    let found = c.change_flux.ensures.changed p is in
    let call = found.1 in
    let shape : IsShaped call.shown.now call.left.now = search (rules, call.met) in
    let adds : Adds call.shown.now call.left.now f = search (rules, call.met) in
    called_flux f c.args.dir p found.0 call.shown.now call.left.now c.args.tile.now c.change_flux.new.self call.shows call.leaves shape adds found.2)
