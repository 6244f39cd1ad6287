use Rattle.std.proofs.Common.{refl}
use Rattle.pic_step.proofs.exchanging.at_board.Goals as goal

pub returns : goal.returns
returns g c =
    let done = c.in_ok-done.ensures in
    record {
      frame = done.frame;
      tiles = done.exchanged;
      small = done.bound;
      room = c.requires.room;
      spare = refl;
      smooth = refl;
      tracers = refl;
      count = refl;
    }
