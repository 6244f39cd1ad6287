use Rattle.std.proofs.Common.{◌≡◌, Ok}
use Rattle.pic_io.specs.Sinks.{sinks}
use Rattle.pic_step.specs.SerialRun.{after}
use Rattle.pic_states.specs.Frames.{due_states}
use Rattle.pic_states.specs.Rooms.{CanLook, CanPut, HasShape}
use Rattle.pic_states.proofs.FrameLaws.{WroteStates}
use Rattle.pic_states.proofs.states.write_frames.Given as goal

-- the state is that after the steps done, and the frames up to it were written
abbrev pub invariant-loop-done : goal.invariant-loop-done
invariant-loop-done g l =
    record {
      reached : after l.fn.stage.state.world l.done ≡ Ok l.state.world;
      wrote : WroteStates l.fn.plan.output (sinks (g.O.Sink.told l.fn.out) (g.R.Sink.told l.fn.report)) (sinks (g.O.Sink.told l.out) (g.R.Sink.told l.report))
          (due_states l.fn.plan.steps l.fn.plan.every l.fn.stage.state.world 1 l.done);
      room : HasShape l.room l.state.world;
      probes : CanPut l.fn.plan.output l.state.world;
      look : CanLook l.fn.plan.output l.room l.state.followed;
    }
