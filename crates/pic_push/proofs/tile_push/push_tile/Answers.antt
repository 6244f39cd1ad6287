use Rattle.std.proofs.Common.{List, Some, ap, subst, ◌∙◌}
use Rattle.pic_num.specs.declared.motion.Particle.{Particle}
use Rattle.pic_tile.specs.declared.parcel.Parcel.{Parcel}
use Rattle.pic_tile.specs.Frame.{felt_in}
use Rattle.pic_tile.specs.Tile.{chain_of}
use Rattle.pic_tile.specs.Pushed.{IsPushed}
use Rattle.pic_push.proofs.PushingLaws.{opened, closed}
use Rattle.pic_push.proofs.tile_push.push_tile.Goals as goal

pub push_chain-requires-clause-opened : goal.push_chain-requires-clause-opened
push_chain-requires-clause-opened c =
    opened c.args.frame.now.map c.args.tile.now c.take_parcel.new.self c.deref_mut.result.now c.requires.fresh c.in_place.ensures
    c.in-Some.ensures.after (ap (λ (p : Parcel). Some p) c.deref_mut.ensures.value ∙ c.in-Some.ensures.taken)

pub returns-clause-pushed : goal.returns-clause-pushed
returns-clause-pushed c =
    let f = c.args.frame.now in
    let out = closed (felt_in f) f.map c.deref_mut.result.now.chain _ c.push_chain.new.own c.push_chain.new.tile c.put_parcel.new.self
    c.push_chain.ensures c.put_parcel.ensures.after c.put_parcel.ensures.stored in
    subst (λ (ys : List Particle). IsPushed (felt_in f) f.map ys c.put_parcel.new.self)
    (ap (λ (p : Parcel). p.chain) c.deref_mut.ensures.value ∙ ap chain_of c.in-Some.ensures.taken) out
