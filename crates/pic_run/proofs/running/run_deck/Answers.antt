use Rattle.std.proofs.Common.{Err, ap, ◌∙◌, inl}
use Rattle.std.proofs.lemmas.Result.{err_from_is_err_and}
use Rattle.pic_io.specs.Sinks.{sinks}
use Rattle.pic_io.proofs.Puts.{wrote_none}
use Rattle.pic_run.proofs.running.run_deck.Goals as goal

pub returns-in_err-ready : goal.returns-in_err-ready
returns-in_err-ready g c =
    let exit = err_from_is_err_and c.from_residual.result c.from_residual.ensures.1 in
    rw (exit.1 ∙ ap Err exit.2) (inl (wrote_none (sinks (g.O.Sink.told c.args.out.now) (g.R.Sink.told c.args.report.now))))
