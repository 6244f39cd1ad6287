use Rattle.std.proofs.Common.{◌≡◌, ℕ, [], ◌∷◌, ◌++◌, ◌-◌, List, Err, ◌∙◌, ap, sym, subst, arith}
use Rattle.std.proofs.lemmas.Result.{err_from_is_err_and}
use Rattle.pic_io.specs.Sinks.{sinks, Piece, CutAt}
use Rattle.pic_io.proofs.Puts.{cut_more}
use Rattle.pic_states.specs.Frames.{frame_piece, frames_behind, end_of_run, end_piece}
use Rattle.pic_states.specs.StatesOutcome.{states_outcome}
use Rattle.pic_states.specs.Runs.{WritesStates}
use Rattle.pic_states.proofs.FrameLaws.{frames_first}
use Rattle.pic_states.proofs.RunLaws.{framed}
use Rattle.pic_states.proofs.states.write_states.Goals as goal

pub returns-in_err-write_frame : goal.returns-in_err-write_frame
returns-in_err-write_frame g c =
    let exit = err_from_is_err_and c.from_residual.result c.from_residual.ensures.1 in
    let a = sinks (g.O.Sink.told c.args.out.now) (g.R.Sink.told c.args.report.now) in
    let b = sinks (g.O.Sink.told c.write_frame.new.out) (g.R.Sink.told c.write_frame.new.report) in
    let plan = c.args.plan.now in
    let w = c.args.stage.state.world in
    let side = c.in_err-write_frame.field-0.0 in
    let last = end_piece plan.output (end_of_run plan.steps w) in
    let cut = cut_more side a b (frame_piece plan.output w ∷ []) (frames_behind plan.output plan.steps plan.every w ++ last ∷ [])
    c.in_err-write_frame.ensures.writes in
    rw (exit.1 ∙ ap Err exit.2)
    (subst (λ (ps : List Piece). CutAt side a b (ps ++ last ∷ []))
    (sym (frames_first plan.output plan.steps plan.every w c.requires.every c.requires.begins)) cut)

pub returns : goal.returns
returns g c =
    let a = sinks (g.O.Sink.told c.args.out.now) (g.R.Sink.told c.args.report.now) in
    let b = sinks (g.O.Sink.told c.write_frame.new.out) (g.R.Sink.told c.write_frame.new.report) in
    let e = sinks (g.O.Sink.told c.write_further.new.out) (g.R.Sink.told c.write_further.new.report) in
    let plan = c.args.plan.now in
    let w = c.args.stage.state.world in
    let begins = c.requires.begins in
    let all : plan.steps - w.step ≡ plan.steps = omega (arith, begins) in
    let behind = frames_behind plan.output plan.steps plan.every w in
    let whole = framed plan.workers plan.output (frame_piece plan.output w) behind (end_of_run (plan.steps - w.step) w) a b e c.write_further.result
    c.in_ok-write_frame.ensures.writes c.write_further.ensures in
    subst (λ (ps : List Piece). WritesStates 1 plan.workers (states_outcome plan.output [] ps (end_of_run plan.steps w)) a e c.write_further.result)
    (sym (frames_first plan.output plan.steps plan.every w c.requires.every c.requires.begins))
    (subst (λ (n : ℕ). WritesStates 1 plan.workers (states_outcome plan.output [] (frame_piece plan.output w ∷ behind) (end_of_run n w)) a e
    c.write_further.result) all whole)
