use Rattle.std.proofs.Common.{ℕ, subst}
use Rattle.pic_io.specs.Sinks.{sinks}
use Rattle.pic_step.specs.Start.{begun}
use Rattle.pic_states.specs.declared.output.Output.TheVariants.{Lines}
use Rattle.pic_states.specs.StatesOutcome.{shown_outcome}
use Rattle.pic_report.specs.Leaves.{LeavesWhole}
use Rattle.pic_report.specs.Finishes.{Finishes}
use Rattle.pic_run.proofs.showing.show_deck.Goals as goal

pub returns : goal.returns
returns g c =
    let a = sinks (g.O.Sink.told c.args.out.now) (g.R.Sink.told c.args.report.now) in
    let b = sinks (g.O.Sink.told c.show.new.out) (g.R.Sink.told c.show.new.report) in
    let d = c.args.opened.deck in
    let w = begun c.args.opened.start in
    let leaves = LeavesWhole c.args.workers in
    subst (λ (every : ℕ). Finishes leaves (shown_outcome Lines d.steps every w) a b c.show.result) c.every.ensures.value
    (subst (λ (steps : ℕ). Finishes leaves (shown_outcome Lines steps c.every.result w) a b c.show.result) c.steps.ensures.value c.show.ensures)
