use Rattle.std.proofs.Common.{sym, subst}
use Rattle.pic_tile.specs.CoreEvents.{CanClaim, Claims, after_claim}
use Rattle.pic_tile.specs.CoreState.{CoreState}
use Rattle.pic_core.specs.Inside.{state_of}
use Rattle.pic_core.proofs.MadeLaws.{claim_few, claim_own, claim_made, claimed}
use Rattle.pic_core.proofs.machine.Core.claim.Goals as goal

pub push_tile-requires-clause-few : goal.push_tile-requires-clause-few
push_tile-requires-clause-few c =
    claim_few (state_of c.self.inside) c.args.tile c.index_mut.result.now c.self.invariant
    (subst (λ (z : CoreState). CanClaim z c.args.tile) (sym c.self.view_is) c.requires) c.index_mut.ensures.value

pub push_tile-requires-clause-particles : goal.push_tile-requires-clause-particles
push_tile-requires-clause-particles c =
    claim_own (state_of c.self.inside) c.args.tile c.index_mut.result.now c.self.invariant
    (subst (λ (z : CoreState). CanClaim z c.args.tile) (sym c.self.view_is) c.requires) c.index_mut.ensures.value

pub invariant_of-self : goal.invariant_of-self
invariant_of-self c =
    claim_made (state_of c.self.inside) c.args.tile c.index_mut.result.now c.self.invariant
    (subst (λ (z : CoreState). CanClaim z c.args.tile) (sym c.self.view_is) c.requires) c.index_mut.ensures.value
    c.push_tile.new.tile c.push_tile.ensures.number c.push_tile.ensures.pushed

pub returns : goal.returns
returns c =
    let s = state_of c.self.inside in
    subst (λ (z : CoreState). Claims z c.args.tile (after_claim s c.args.tile c.push_tile.new.tile)) c.self.view_is
    (claimed s c.args.tile c.index_mut.result.now c.self.invariant
    (subst (λ (z : CoreState). CanClaim z c.args.tile) (sym c.self.view_is) c.requires) c.index_mut.ensures.value
    c.push_tile.new.tile c.push_tile.ensures.number c.push_tile.ensures.pushed)
