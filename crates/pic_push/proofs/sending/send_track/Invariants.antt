use Rattle.std.proofs.Common.{take}
use Rattle.pic_grid.specs.Flux.{path_flux}
use Rattle.pic_push.proofs.TrackLaws.{Sent}
use Rattle.pic_push.proofs.sending.send_track.Given as goal

-- the flux of the pieces so far has been sent
abbrev pub invariant-loop-piece : goal.invariant-loop-piece
invariant-loop-piece l = Sent (path_flux l.sub l.q (take l.piece-index l.segments)) l.initial.own l.initial.tile l.own l.tile
