use Rattle.std.proofs.Common.{◌≡◌, Err, ap, ◌∙◌, subst, sym}
use Rattle.pic_chain.specs.Links.{particle_of}
use Rattle.pic_boris.specs.Pushes.{halting_of}
use Rattle.pic_grid.specs.PushPhase.{push_of}
use Rattle.pic_tile.specs.declared.parcel.Parcel.{Parcel}
use Rattle.pic_tile.specs.Directions.{here}
use Rattle.pic_tile.specs.Frame.{felt_in}
use Rattle.pic_push.specs.Sends.{Sends}
use Rattle.pic_push.proofs.SendLaws.{sends_halted, out_halted}
use Rattle.pic_push.proofs.ZoneLaws.{same_parcels}
use Rattle.pic_push.proofs.node_push.push_node_wide.Goals as goal

pub follow-requires-clause-open : goal.follow-requires-clause-open
follow-requires-clause-open c =
    let zone = c.zone-zone.ensures in
    let room = c.requires.room in
    same_parcels _ _ _ _ (sym (zone.low ∙ room.low_is)) (sym (zone.size ∙ room.size_is)) c.args.tile.now c.requires.open

pub returns-in-Err-clause-own : goal.returns-in-Err-clause-own
returns-in-Err-clause-own c =
    let w = felt_in c.args.frame.now in
    let m = c.args.frame.now.map in
    let x = particle_of c.args.node.value in
    let h = halting_of c.in-Err.halt in
    let same : x ≡ c.particle.result = sym (c.particle.ensures ∙ ap particle_of c.deref.ensures) in
    let halts : push_of w x ≡ Err h = ap (push_of w) same ∙ c.in-Err.ensures.pushed in
    subst (λ (q : Parcel). Sends w m x here c.args.own.now q) (sym c.stay.ensures) (sends_halted w m x h c.args.own.now halts)

pub returns-in-Err-clause-others : goal.returns-in-Err-clause-others
returns-in-Err-clause-others c =
    let w = felt_in c.args.frame.now in
    let x = particle_of c.args.node.value in
    let h = halting_of c.in-Err.halt in
    let same : x ≡ c.particle.result = sym (c.particle.ensures ∙ ap particle_of c.deref.ensures) in
    let halts : push_of w x ≡ Err h = ap (push_of w) same ∙ c.in-Err.ensures.pushed in
    out_halted w c.args.frame.now.map x h c.args.tile.now halts
