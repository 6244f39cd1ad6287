use Rattle.std.proofs.Common.{ℕ, Err, ap, sym, subst, ◌∙◌, inl}
use Rattle.std.proofs.lemmas.Result.{err_from_is_err_and}
use Rattle.pic_devices.specs.declared.probes.Probes.{Probes}
use Rattle.pic_io.specs.Sinks.{sinks}
use Rattle.pic_io.proofs.Puts.{wrote_none}
use Rattle.pic_step.specs.Start.{begun}
use Rattle.pic_states.specs.declared.output.Output.TheVariants.{Probe}
use Rattle.pic_states.specs.StatesOutcome.{shown_outcome}
use Rattle.pic_report.specs.Leaves.{LeavesWhole}
use Rattle.pic_report.specs.Finishes.{Finishes}
use Rattle.pic_states.specs.Rooms.{CanPut}
use Rattle.pic_run.proofs.probing.watch_deck.Goals as goal

pub returns-in_err-copy_of : goal.returns-in_err-copy_of
returns-in_err-copy_of g c =
    let exit = err_from_is_err_and c.from_residual.result c.from_residual.ensures.1 in
    rw (exit.1 ∙ ap Err exit.2) (inl (wrote_none (sinks (g.O.Sink.told c.args.out.now) (g.R.Sink.told c.args.report.now))))

pub show-requires-clause-probes : goal.show-requires-clause-probes
show-requires-clause-probes g c κs within =
    subst (λ (p : Probes). CanPut (Probe p) (begun c.args.opened.start)) (sym (c.in_ok-copy_of.ensures ∙ c.probes.ensures.value)) c.requires.probes

pub returns : goal.returns
returns g c =
    let a = sinks (g.O.Sink.told c.args.out.now) (g.R.Sink.told c.args.report.now) in
    let b = sinks (g.O.Sink.told c.show.new.out) (g.R.Sink.told c.show.new.report) in
    let d = c.args.opened.deck in
    let w = begun c.args.opened.start in
    let leaves = LeavesWhole c.args.workers in
    let probes = c.in_ok-copy_of.ensures ∙ c.probes.ensures.value in
    subst (λ (steps : ℕ). Finishes leaves (shown_outcome (Probe d.probes) steps 1 w) a b c.show.result) c.steps.ensures.value
    (subst (λ (p : Probes). Finishes leaves (shown_outcome (Probe p) c.steps.result 1 w) a b c.show.result) probes c.show.ensures)
