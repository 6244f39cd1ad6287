use Rattle.std.proofs.Common.{refl}
use Rattle.pic_core.specs.InTurn.{in_turn}
use Rattle.pic_step.proofs.RoomLaws.{core_exchanges}
use Rattle.pic_step.proofs.exchanging.in_turn.Goals as goal

pub returns : goal.returns
returns g c =
    let s = c.begin-core.result in
    let t = c.run_in_turn.new.self in
    let p = c.args.plasma in
    core_exchanges p (record {
      frame = c.close_with_scratch-frame.result.0;
      tiles = c.close_with_scratch-frame.result.1;
      room = c.close_with_scratch-frame.result.2;
      spare = p.spare;
      smooth = p.smooth;
      tracers = p.tracers;
      shelves = p.shelves;
      count = p.count;
    }) s t (in_turn s.frame.map) c.begin-core.ensures.opened c.run_in_turn.ensures.ran c.close_with_scratch-frame.ensures.frame
    c.close_with_scratch-frame.ensures.exchanged c.close_with_scratch-frame.ensures.bound c.close_with_scratch-frame.ensures.scratch refl refl refl refl
