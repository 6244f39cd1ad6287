use Rattle.std.proofs.Common.{refl}
use Rattle.pic_flux.specs.CellFlux.{edge_flux}
use Rattle.pic_push.proofs.GainLaws.{all_away, but, gains_none, gains_also, gains_but}
use Rattle.pic_push.proofs.TakeLaws.{can_gain, own_gains, face_of, unreached_clear}
use Rattle.pic_push.proofs.spreading.add_at_face.Goals as goal

pub add_layers-requires : goal.add_layers-requires
add_layers-requires g c =
    let h = face_of g.row.UP c.requires.up in
    own_gains c.args.flux.now c.args.own.now c.args.tile.now g.row.UP c.requires.can c.requires.face h.few h.own

pub add_up-requires : goal.add_up-requires
add_up-requires g c =
    let up = g.row.UP in
    let h = face_of up c.requires.up in
    record {
      up = h.few;
      can = λ p is. can_gain c.args.flux.now c.args.own.now c.args.tile.now up up p c.requires.can c.requires.face h.few h.self h.few is;
    }

pub returns-clause-own : goal.returns-clause-own
returns-clause-own g c = record {
  dir_is = refl;
  chain_is = refl;
  stop_is = refl;
  shape = c.add_layers.ensures.shape;
  adds = c.add_layers.ensures.values;
}

pub returns-clause-others : goal.returns-clause-others
returns-clause-others g c =
    let f = edge_flux c.args.flux.now in
    let up = g.row.UP in
    let h = face_of up c.requires.up in
    let old = c.args.tile.now in
    let new = c.add_up.new.tile in
    gains_but f (but up all_away) old new
    (λ d p few away is.
    unreached_clear c.args.flux.now c.args.own.now old up d p c.requires.can c.requires.face h.own few (λ own. h.alone d few own away.0) is)
    (gains_also f all_away up old old new refl (gains_none f old) c.add_up.ensures)
