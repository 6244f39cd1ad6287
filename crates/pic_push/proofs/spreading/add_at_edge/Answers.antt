use Rattle.std.proofs.Common.{refl, sym, ◌∙◌}
use Rattle.pic_flux.specs.CellFlux.{edge_flux}
use Rattle.pic_push.proofs.GainLaws.{all_away, but, gains_none, gains_also, gains_but}
use Rattle.pic_push.proofs.TakeLaws.{can_gain, own_gains, edge_of, unreached_clear}
use Rattle.pic_push.proofs.spreading.add_at_edge.Goals as goal

pub add_layers-requires : goal.add_layers-requires
add_layers-requires g c =
    let h = edge_of g.row.SECOND g.row.THIRD g.row.FAR c.requires.ups in
    own_gains c.args.flux.now c.args.own.now c.args.tile.now g.row.FAR c.requires.can c.requires.edge h.far_few h.own

pub add_up-requires : goal.add_up-requires
add_up-requires g c =
    let far = g.row.FAR in
    let h = edge_of g.row.SECOND g.row.THIRD far c.requires.ups in
    record {
      up = h.second_few;
      can = λ p is.
          can_gain c.args.flux.now c.args.own.now c.args.tile.now g.row.SECOND far p c.requires.can c.requires.edge h.far_few h.second_to h.second_few is;
    }

pub add_up-requires-2 : goal.add_up-requires-2
add_up-requires-2 g c =
    let third = g.row.THIRD in
    let far = g.row.FAR in
    let h = edge_of g.row.SECOND third far c.requires.ups in
    record {
      up = h.third_few;
      can = λ p is.
          can_gain c.args.flux.now c.args.own.now c.args.tile.now third far p c.requires.can c.requires.edge h.far_few h.third_to h.third_few
          (sym (c.add_up.ensures.others third h.third_apart) ∙ is);
    }

pub add_up-requires-3 : goal.add_up-requires-3
add_up-requires-3 g c =
    let far = g.row.FAR in
    let h = edge_of g.row.SECOND g.row.THIRD far c.requires.ups in
    record {
      up = h.far_few;
      can = λ p is.
          can_gain c.args.flux.now c.args.own.now c.args.tile.now far far p c.requires.can c.requires.edge h.far_few h.self h.far_few
          (sym (c.add_up.ensures.others far h.far_apart) ∙ sym (c.add_up-2.ensures.others far h.far_apart_third) ∙ is);
    }

pub returns-clause-own : goal.returns-clause-own
returns-clause-own g c = record {
  dir_is = refl;
  chain_is = refl;
  stop_is = refl;
  shape = c.add_layers.ensures.shape;
  adds = c.add_layers.ensures.values;
}

pub returns-clause-others : goal.returns-clause-others
returns-clause-others g c =
    let f = edge_flux c.args.flux.now in
    let second = g.row.SECOND in
    let third = g.row.THIRD in
    let far = g.row.FAR in
    let h = edge_of second third far c.requires.ups in
    let old = c.args.tile.now in
    let one = c.add_up.new.tile in
    let two = c.add_up-2.new.tile in
    let new = c.add_up-3.new.tile in
    gains_but f (but far (but third (but second all_away))) old new
    (λ d p few away is.
    unreached_clear c.args.flux.now c.args.own.now old far d p c.requires.can c.requires.edge h.own few
    (λ own. h.alone d few own away.1.1.0 away.1.0 away.0) is)
    (gains_also f (but third (but second all_away)) far old two new (h.far_apart_third, (h.far_apart, refl))
    (gains_also f (but second all_away) third old one two (h.third_apart, refl)
    (gains_also f all_away second old old one refl (gains_none f old) c.add_up.ensures) c.add_up-2.ensures) c.add_up-3.ensures)
