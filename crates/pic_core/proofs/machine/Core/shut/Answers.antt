use Rattle.std.proofs.Common.{sym, subst, ◌∙◌}
use Rattle.pic_tile.specs.CoreEvents.{CanShut}
use Rattle.pic_tile.specs.CoreState.{CoreState}
use Rattle.pic_core.specs.Inside.{state_of}
use Rattle.pic_core.proofs.MadeLaws.{received_read}
use Rattle.pic_core.proofs.StandLaws.{shut_made}
use Rattle.pic_core.proofs.machine.Core.shut.Goals as goal

pub invariant_of-self : goal.invariant_of-self
invariant_of-self c =
    let s = state_of c.self.inside in
    let can : CanShut s c.args.tile = subst (λ (z : CoreState). CanShut z c.args.tile) (sym c.self.view_is) c.requires in
    shut_made s c.args.tile c.shut.new.tile c.self.invariant can
    (c.shut.ensures.same ∙ received_read s c.args.tile c.index_mut.result.now c.self.invariant can.tile c.index_mut.ensures.value)
