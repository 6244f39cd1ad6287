use Rattle.std.proofs.Common.{◌≡◌, pos, slice_index, slice_index_or, rules}
use Rattle.std.proofs.lemmas.Int.{to_z-of_z}
use mir.Syntax.{w128}
use mir.Val.{SFits}
use Rattle.pic_probe.proofs.LineLaws.{six_pieces}
use Rattle.pic_probe.proofs.line.push_track.Goals as goal

pub returns-clause-bytes : goal.returns-clause-bytes
returns-clause-bytes c =
    let p = c.args.particle.now in
    let x : c.from.result ≡ pos (slice_index p.x 0) = search rules in
    let y : c.from-2.result ≡ pos (slice_index p.x 1) = search rules in
    let z : c.from-3.result ≡ pos (slice_index p.x 2) = search rules in
    let vx : c.from-4.result ≡ slice_index_or p.v 0 (pos 0) = search rules in
    let vy : c.from-5.result ≡ slice_index_or p.v 1 (pos 0) = search rules in
    let vz : c.from-6.result ≡ slice_index_or p.v 2 (pos 0) = search rules in
    let fits_x : SFits w128 (pos (slice_index p.x 0)) = search rules in
    let fits_y : SFits w128 (pos (slice_index p.x 1)) = search rules in
    let fits_z : SFits w128 (pos (slice_index p.x 2)) = search rules in
    let fits_vx : SFits w128 (slice_index_or p.v 0 (pos 0)) = search rules in
    let fits_vy : SFits w128 (slice_index_or p.v 1 (pos 0)) = search rules in
    let fits_vz : SFits w128 (slice_index_or p.v 2 (pos 0)) = search rules in
    rw (
      c.push_column-6.ensures.bytes,
      c.push_column-5.ensures.bytes,
      c.push_column-4.ensures.bytes,
      c.push_column-3.ensures.bytes,
      c.push_column-2.ensures.bytes,
      c.push_column.ensures.bytes,
      x,
      y,
      z,
      vx,
      vy,
      vz,
      to_z-of_z w128 _ fits_x,
      to_z-of_z w128 _ fits_y,
      to_z-of_z w128 _ fits_z,
      to_z-of_z w128 _ fits_vx,
      to_z-of_z w128 _ fits_vy,
      to_z-of_z w128 _ fits_vz,
    ) (six_pieces c.args.text.now _ _ _ _ _ _)
