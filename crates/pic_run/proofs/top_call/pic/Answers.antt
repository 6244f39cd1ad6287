use Rattle.std.proofs.Common.{map, string_bytes, sym, subst}
use Rattle.pic_io.specs.Sinks.{sinks}
use Rattle.pic_report.specs.Manner.{call}
use Rattle.pic_run.specs.Ends.{Ends}
use Rattle.pic_run.proofs.MeaningLaws.{complete, means}
use Rattle.pic_run.proofs.top_call.pic.Goals as goal

pub returns-clause-ends : goal.returns-clause-ends
returns-clause-ends g c =
    let it = call (map string_bytes c.args.words.now) (g.S.Source.told c.args.source.now) (g.S.Source.told c.perform.new.source)
    (sinks (g.O.Sink.told c.args.out.now) (g.R.Sink.told c.args.report.now))
    (sinks (g.O.Sink.told c.perform.new.out) (g.R.Sink.told c.perform.new.report)) in
    subst (Ends it) (sym c.ended_of.ensures) c.perform.ensures

pub returns-clause-complete : goal.returns-clause-complete
returns-clause-complete g c = complete _ c.ended_of.result (returns-clause-ends g c)

pub returns-clause-taken : goal.returns-clause-taken
returns-clause-taken g c = let ends = returns-clause-ends g c in ends.read

pub returns-clause-means : goal.returns-clause-means
returns-clause-means g c = means _ c.ended_of.result (returns-clause-ends g c)
