use Rattle.std.proofs.Common.{sym, subst, ◌∙◌}
use Rattle.pic_tile.specs.CoreEvents.{CanMerge}
use Rattle.pic_tile.specs.CoreState.{CoreState}
use Rattle.pic_tile.proofs.ReceivedLaws.{MayMerge}
use Rattle.pic_core.specs.Inside.{state_of}
use Rattle.pic_core.proofs.MadeLaws.{merge_some, merge_may, merge_made}
use Rattle.pic_core.proofs.machine.Core.merge.Goals as goal
use Rattle.pic_core.proofs.machine.Core.merge.Goals.{After-index_mut-in-Some}

may : (c : After-index_mut-in-Some) → MayMerge c.in-Some.parcel c.index_mut-in-Some.result.now
may c =
    merge_may (state_of c.self.inside) c.args.tile c.args.dir c.slot-slot.result c.self.invariant
    (subst (λ (z : CoreState). CanMerge z c.args.tile c.args.dir) (sym c.self.view_is) c.requires) c.slot-slot.ensures.value
    c.index_mut.result.now c.index_mut.ensures.value
    c.in-Some.parcel (sym c.take.ensures.value ∙ c.in-Some.is) c.index_mut-in-Some.result.now c.index_mut-in-Some.ensures.value

pub merge-requires-clause-free : goal.merge-requires-clause-free
merge-requires-clause-free c = (may (goal.at.merge-requires-clause-free c).After-index_mut-in-Some).free

pub merge-requires-clause-order : goal.merge-requires-clause-order
merge-requires-clause-order c = (may (goal.at.merge-requires-clause-order c).After-index_mut-in-Some).order

pub merge-requires-clause-zone : goal.merge-requires-clause-zone
merge-requires-clause-zone c = (may (goal.at.merge-requires-clause-zone c).After-index_mut-in-Some).zone

pub merge-requires-clause-layers : goal.merge-requires-clause-layers
merge-requires-clause-layers c = (may (goal.at.merge-requires-clause-layers c).After-index_mut-in-Some).layers

pub merge-requires-clause-room : goal.merge-requires-clause-room
merge-requires-clause-room c = (may (goal.at.merge-requires-clause-room c).After-index_mut-in-Some).room

pub merge-requires-clause-small : goal.merge-requires-clause-small
merge-requires-clause-small c = (may (goal.at.merge-requires-clause-small c).After-index_mut-in-Some).small

pub unreachable-requires : goal.unreachable-requires
unreachable-requires c =
    merge_some (state_of c.self.inside) c.args.tile c.args.dir c.slot-slot.result c.self.invariant
    (subst (λ (z : CoreState). CanMerge z c.args.tile c.args.dir) (sym c.self.view_is) c.requires) c.slot-slot.ensures.value
    c.index_mut.result.now c.index_mut.ensures.value
    (sym c.take.ensures.value ∙ c.in-None.is)

pub invariant_of-self : goal.invariant_of-self
invariant_of-self c =
    merge_made (state_of c.self.inside) c.args.tile c.args.dir c.slot-slot.result c.self.invariant
    (subst (λ (z : CoreState). CanMerge z c.args.tile c.args.dir) (sym c.self.view_is) c.requires) c.slot-slot.ensures.value
    c.index_mut.result.now c.index_mut.ensures.value
    c.in-Some.parcel (sym c.take.ensures.value ∙ c.in-Some.is) c.index_mut-in-Some.result.now c.index_mut-in-Some.ensures.value
    c.merge.new.tile c.take.new.self c.merge.ensures c.take.ensures.after
