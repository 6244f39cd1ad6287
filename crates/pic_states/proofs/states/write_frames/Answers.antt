use Rattle.std.proofs.Common.{◌≡◌, ℕ, ◌+◌, ◌-◌, Ok, Err, refl, ap, sym, ◌∙◌, subst, arith}
use Rattle.std.proofs.lemmas.Result.{err_from_is_err_and}
use Rattle.pic_io.specs.Sinks.{sinks}
use Rattle.pic_io.proofs.Puts.{wrote_none}
use Rattle.pic_step.specs.SerialRun.{after}
use Rattle.pic_step.specs.StateView.{StateView}
use Rattle.pic_step.proofs.AfterLaws.{step_after}
use Rattle.pic_grid.specs.declared.stop.EndMark.TheVariants.{Done, Stopped}
use Rattle.pic_grid.specs.declared.stop.Stop.{Stop}
use Rattle.pic_states.specs.Frames.{due_states, frames_behind, end_of_run}
use Rattle.pic_states.specs.Rooms.{CanLook, CanPut, HasShape}
use Rattle.pic_states.specs.Runs.{WroteFrames}
use Rattle.pic_states.proofs.FrameLaws.{WroteStates, after_none, after_step, none_written, more_written, more_cut, some_written, stopped_written, done_written}
use Rattle.pic_states.proofs.RoomLaws.{room_kept, put_kept}
use Rattle.pic_states.proofs.states.write_frames.Goals as goal

pub loop-done-init : goal.loop-done-init
loop-done-init g c =
    let w = c.args.stage.state.world in
    let a = sinks (g.O.Sink.told c.args.out.now) (g.R.Sink.told c.args.report.now) in
    record {
      reached = after_none w;
      wrote = none_written c.args.plan.now.output c.args.plan.now.steps c.args.plan.now.every w a (wrote_none a);
      room = c.requires.room;
      probes = c.requires.probes;
      look = c.requires.look;
    }

pub step-requires-clause-early : goal.step-requires-clause-early
step-requires-clause-early g c =
    let came = step_after c.args.stage.state.world c.loop-done.state.world c.loop-done.done c.loop-done.invariant.reached in
    let first = c.step_number-first.ensures.value in
    let most = c.requires.steps in
    omega (arith, came, first, most)

pub returns-in-Err-Stop : goal.returns-in-Err-Stop
returns-in-Err-Stop g c =
    let w = c.args.stage.state.world in
    let v = c.loop-done.state.world in
    let a = sinks (g.O.Sink.told c.args.out.now) (g.R.Sink.told c.args.report.now) in
    let b = sinks (g.O.Sink.told c.loop-done.out) (g.R.Sink.told c.loop-done.report) in
    let stops = rw c.in-Err-Stop.field-0-is at c.in-Err-Stop.ensures.steps in
    let first = c.step_number-first.ensures.value in
    let frames = frames_behind c.args.plan.now.output c.args.plan.now.steps c.args.plan.now.every w in
    let last = end_of_run (c.args.plan.now.steps - w.step) w in
    let came = step_after w v c.loop-done.done c.loop-done.invariant.reached in
    let number : v.step + 1 ≡ c.step_number-first.result + c.loop-done.done + 1 = omega (arith, came, first) in
    subst (λ (stop : Stop). WroteFrames frames last (Stopped (c.step_number-first.result + c.loop-done.done + 1) stop) a b) (sym c.in-Err-Stop.stop-is)
    (subst (λ (n : ℕ). WroteFrames frames last (Stopped n c.in-Err-Stop.stop) a b) number
    (stopped_written c.args.plan.now.output c.args.plan.now.steps c.args.plan.now.every w v c.in-Err-Stop.stop
    c.loop-done.done a b (omega (arith, first)) c.loop-done.invariant.reached stops c.loop-done.invariant.wrote))

pub returns-in-Err-NoMemory : goal.returns-in-Err-NoMemory
returns-in-Err-NoMemory g c =
    let a = sinks (g.O.Sink.told c.args.out.now) (g.R.Sink.told c.args.report.now) in
    let b = sinks (g.O.Sink.told c.loop-done.out) (g.R.Sink.told c.loop-done.report) in
    let memory = rw c.in-Err-NoMemory.field-0-is at c.in-Err-NoMemory.ensures.memory in
    let many = (memory refl).0 in
    let first = c.step_number-first.ensures.value in
    some_written c.args.plan.now.workers c.args.plan.now.output c.args.plan.now.steps c.args.plan.now.every c.args.stage.state.world c.loop-done.done a b
    (omega (arith, many))
    (omega (arith, first)) c.loop-done.invariant.wrote

pub write_due-requires-clause-room : goal.write_due-requires-clause-room
write_due-requires-clause-room g c =
    room_kept c.loop-done.room c.loop-done.state.world c.in-Ok.next.world c.in-Ok.ensures.steps c.loop-done.invariant.room

pub write_due-requires-clause-probes : goal.write_due-requires-clause-probes
write_due-requires-clause-probes g c =
    put_kept c.args.plan.now.output c.loop-done.state.world c.in-Ok.next.world c.in-Ok.ensures.steps c.loop-done.invariant.probes

pub write_due-requires-clause-look : goal.write_due-requires-clause-look
write_due-requires-clause-look g c =
    subst (CanLook c.args.plan.now.output c.loop-done.room) (sym c.in-Ok.ensures.followed) c.loop-done.invariant.look

pub returns-in_err-write_due : goal.returns-in_err-write_due
returns-in_err-write_due g c =
    let exit = err_from_is_err_and c.from_residual.result c.from_residual.ensures.1 in
    let w = c.args.stage.state.world in
    let v = c.in-Ok.next.world in
    let n = c.loop-done.done in
    let a = sinks (g.O.Sink.told c.args.out.now) (g.R.Sink.told c.args.report.now) in
    let b = sinks (g.O.Sink.told c.loop-done.out) (g.R.Sink.told c.loop-done.report) in
    let e = sinks (g.O.Sink.told c.write_due.new.out) (g.R.Sink.told c.write_due.new.report) in
    let side = c.in_err-write_due.field-0.0 in
    let reached = after_step w c.loop-done.state.world v n c.loop-done.invariant.reached c.in-Ok.ensures.steps in
    let cut = c.in_err-write_due.ensures.writes in
    let first = c.step_number-first.ensures.value in
    rw (exit.1 ∙ ap Err exit.2)
    (more_cut side c.args.plan.now.output c.args.plan.now.steps c.args.plan.now.every w v n a b e
    (omega (arith, first)) reached c.loop-done.invariant.wrote cut)

pub loop-done-preserved : goal.loop-done-preserved
loop-done-preserved g c =
    let w = c.args.stage.state.world in
    let v = c.in-Ok.next.world in
    let n = c.loop-done.done in
    let a = sinks (g.O.Sink.told c.args.out.now) (g.R.Sink.told c.args.report.now) in
    let b = sinks (g.O.Sink.told c.loop-done.out) (g.R.Sink.told c.loop-done.report) in
    let e = sinks (g.O.Sink.told c.write_due.new.out) (g.R.Sink.told c.write_due.new.report) in
    let reached = after_step w c.loop-done.state.world v n c.loop-done.invariant.reached c.in-Ok.ensures.steps in
    let next = c.in_ok-write_due.ensures.writes in
    let output = c.args.plan.now.output in
    let room = c.sort_due.new.room in
    let sorted = sym c.sort_due.ensures.state in
    record {
      reached = subst (λ (s : StateView). after w (n + 1) ≡ Ok s.world) sorted reached;
      wrote = more_written output c.args.plan.now.steps c.args.plan.now.every w v n a b e reached c.loop-done.invariant.wrote next;
      room = subst (λ (s : StateView). HasShape room s.world) sorted c.sort_due.ensures.room;
      probes = subst (λ (s : StateView). CanPut output s.world) sorted
          (put_kept output c.loop-done.state.world v c.in-Ok.ensures.steps c.loop-done.invariant.probes);
      look = subst (λ (s : StateView). CanLook output room s.followed) sorted c.sort_due.ensures.look;
    }

pub returns : goal.returns
returns g c =
    let w = c.args.stage.state.world in
    let v = c.loop-done.state.world in
    let steps = c.args.plan.now.steps in
    let every = c.args.plan.now.every in
    let output = c.args.plan.now.output in
    let a = sinks (g.O.Sink.told c.args.out.now) (g.R.Sink.told c.args.report.now) in
    let b = sinks (g.O.Sink.told c.loop-done.out) (g.R.Sink.told c.loop-done.report) in
    let first = c.step_number-first.ensures.value in
    let all : c.loop-done.done ≡ steps - w.step = omega (arith, first) in
    let reached = subst (λ (k : ℕ). after w k ≡ Ok v) all c.loop-done.invariant.reached in
    let wrote = subst (λ (k : ℕ). WroteStates output a b (due_states steps every w 1 k)) all c.loop-done.invariant.wrote in
    let came = step_after w v (steps - w.step) reached in
    let behind = c.requires.behind in
    let last : v.step ≡ steps = omega (arith, came, behind) in
    subst (λ (n : ℕ). WroteFrames (frames_behind output steps every w) (end_of_run (steps - w.step) w) (Done n) a b) last
    (done_written output steps every w v a b reached wrote)
