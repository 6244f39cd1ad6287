use Rattle.std.proofs.Common.{refl, ◌∙◌}
use Rattle.pic_step.proofs.PlasmaLaws.{made_ready}
use Rattle.pic_step.proofs.plasma.Plasma.new.Goals as goal

pub cut-requires : goal.cut-requires
cut-requires c = c.requires.inside

pub returns : goal.returns
returns c = record {
  map = c.in_ok-frame.ensures.map;
  filter = c.in_ok-smooth.ensures.filter;
  kinds = c.in_ok-frame.ensures.kinds;
  plasma = made_ready c.args.map c.args.particles.now _ c.in_ok-frame.ensures.map c.in_ok-tiles.ensures c.in_ok-room.ensures c.in_ok-frame.ensures.parts
      (c.in_ok-spare.ensures ∙ c.len.ensures ∙ c.in_ok-tiles.tiles.ok.0) c.in_ok-smooth.ensures.lies refl;
  tracers = c.in_ok-tracers.ensures.tracers;
  followed = c.in_ok-tracers.ensures.followed;
}
