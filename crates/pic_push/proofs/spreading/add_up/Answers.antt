use Rattle.std.proofs.Common.{ℕ, rules, ap, sym, subst, ◌∙◌}
use Rattle.pic_block.specs.Block.{BlockValues, IsShaped}
use Rattle.pic_flux.specs.Adds.{Adds}
use Rattle.pic_flux.specs.CellFlux.{edge_flux}
use Rattle.pic_tile.specs.Tile.{parcel_at}
use Rattle.pic_push.specs.Gains.{GainsAt}
use Rattle.pic_push.specs.Region.{CanGain}
use Rattle.pic_push.proofs.GainLaws.{gains_changed, called_flux}
use Rattle.pic_push.proofs.spreading.add_up.Goals as goal

pub change_flux-requires : goal.change_flux-requires
change_flux-requires g c = λ p is block shows.
    let there = ap (parcel_at c.args.tile.now) (sym c.of.ensures) ∙ is in
    subst (λ (b : BlockValues). CanGain g.row.LAST g.row.UP c.args.flux.now b) (sym shows) (c.requires.can p there)

pub returns : goal.returns
returns g c =
    let f = edge_flux c.args.flux.now in
    let d = c.of.result in
    subst (λ (k : ℕ). GainsAt f k c.args.tile.now c.change_flux.new.self) c.of.ensures
    (gains_changed f d c.args.tile.now c.change_flux.new.self c.change_flux.ensures.none
    (λ p is.
    let found = c.change_flux.ensures.changed p is in
    let call = found.1 in
    let shape : IsShaped call.shown.now call.left.now = search (rules, call.met) in
    let adds : Adds call.shown.now call.left.now f = search (rules, call.met) in
    called_flux f d p found.0 call.shown.now call.left.now c.args.tile.now c.change_flux.new.self call.shows call.leaves shape adds found.2))
