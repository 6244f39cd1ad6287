use Rattle.pic_push.proofs.TrackLaws.{wide_room}
use Rattle.pic_push.proofs.spreading.add_anywhere.Goals as goal

pub spread-requires-clause-room : goal.spread-requires-clause-room
spread-requires-clause-room c = λ d p few is. wide_room p.flux (c.requires.can.opened.room d p few is).most
