use Rattle.std.proofs.Common.{ℕ, ap, sym, subst, ◌∙◌}
use Rattle.pic_tile.specs.CoreEvents.{CanPost}
use Rattle.pic_tile.specs.CoreState.{CoreState, slot_of}
use Rattle.pic_tile.specs.Tiling.{neighbour_of}
use Rattle.pic_core.specs.Inside.{state_of}
use Rattle.pic_core.proofs.MadeLaws.{post_made}
use Rattle.pic_core.proofs.machine.Core.post.Goals as goal

pub invariant_of-self : goal.invariant_of-self
invariant_of-self c =
    post_made (state_of c.self.inside) c.args.tile c.args.dir c.slot-slot.result c.index_mut.result.now c.take_parcel-parcel.new.self
    c.take_parcel-parcel.result
    c.self.invariant (subst (λ (z : CoreState). CanPost z c.args.tile c.args.dir) (sym c.self.view_is) c.requires.can)
    (c.slot-slot.ensures.value
    ∙ ap (λ (k : ℕ). slot_of k c.args.dir)
    (c.requires.to ∙ ap (λ (z : CoreState). neighbour_of z.frame.map.tiles c.args.tile c.args.dir) (sym c.self.view_is)))
    c.index_mut.ensures.value c.take_parcel-parcel.ensures.after c.take_parcel-parcel.ensures.taken
