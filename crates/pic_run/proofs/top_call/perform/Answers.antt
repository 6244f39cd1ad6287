use Rattle.std.proofs.Common.{map, string_bytes, Some, None, refl}
use Rattle.pic_io.specs.Sinks.{sinks}
use Rattle.pic_line.specs.declared.asked.Command.TheVariants.{Check, Run, Verify, Demo, Upgrade, Resume, Probe}
use Rattle.pic_line.specs.CommandLine.{command_of}
use Rattle.pic_report.specs.declared.ended.Ended.TheVariants.{Usage}
use Rattle.pic_report.specs.Ended.{ended_of}
use Rattle.pic_report.specs.Outcome.{early_outcome}
use Rattle.pic_report.specs.Leaves.{LeavesNothing}
use Rattle.pic_report.proofs.EndLaws.{announced}
use Rattle.pic_run.proofs.UntakenLaws.{untouched}
use Rattle.pic_run.proofs.CommandLaws.{by_name, starved_words}
use Rattle.pic_run.proofs.top_call.perform.Goals as goal

pub returns-in-Ok-Check : goal.returns-in-Ok-Check
returns-in-Ok-Check g c =
    by_name (command_of (map string_bytes c.args.words.now)) (Some Check) _ _ _ _ (ended_of c.check.result)
    (rw c.in-Ok-Check.field-0-is at c.in-Ok-Check.ensures.ok) c.check.ensures

pub returns-in-Ok-Run : goal.returns-in-Ok-Run
returns-in-Ok-Run g c =
    by_name (command_of (map string_bytes c.args.words.now)) (Some (Run c.in-Ok-Run.workers)) _ _ _ _ (ended_of c.run.result)
    (rw c.in-Ok-Run.field-0-is at c.in-Ok-Run.ensures.ok) c.run.ensures

pub returns-in-Ok-Verify : goal.returns-in-Ok-Verify
returns-in-Ok-Verify g c =
    by_name (command_of (map string_bytes c.args.words.now)) (Some Verify) _ _ _ _ (ended_of c.verify.result)
    (rw c.in-Ok-Verify.field-0-is at c.in-Ok-Verify.ensures.ok) c.verify.ensures

pub returns-in-Ok-Demo : goal.returns-in-Ok-Demo
returns-in-Ok-Demo g c =
    by_name (command_of (map string_bytes c.args.words.now)) (Some (Demo c.in-Ok-Demo.seed c.in-Ok-Demo.workers)) _ _ _ _ (ended_of c.demo.result)
    (rw c.in-Ok-Demo.field-0-is at c.in-Ok-Demo.ensures.ok) (c.demo.ensures (g.S.Source.told c.args.source.now))

pub returns-in-Ok-Upgrade : goal.returns-in-Ok-Upgrade
returns-in-Ok-Upgrade g c =
    by_name (command_of (map string_bytes c.args.words.now)) (Some Upgrade) _ _ _ _ (ended_of c.upgrade.result)
    (rw c.in-Ok-Upgrade.field-0-is at c.in-Ok-Upgrade.ensures.ok) c.upgrade.ensures

pub returns-in-Ok-Resume : goal.returns-in-Ok-Resume
returns-in-Ok-Resume g c =
    by_name (command_of (map string_bytes c.args.words.now)) (Some (Resume c.in-Ok-Resume.steps c.in-Ok-Resume.workers c.in-Ok-Resume.tiles)) _ _ _ _
    (ended_of c.resume.result) (rw c.in-Ok-Resume.field-0-is at c.in-Ok-Resume.ensures.ok) c.resume.ensures

pub returns-in-Ok-Probe : goal.returns-in-Ok-Probe
returns-in-Ok-Probe g c =
    by_name (command_of (map string_bytes c.args.words.now)) (Some (Probe c.in-Ok-Probe.workers)) _ _ _ _ (ended_of c.probe.result)
    (rw c.in-Ok-Probe.field-0-is at c.in-Ok-Probe.ensures.ok) c.probe.ensures

pub returns-in-Err-Usage : goal.returns-in-Err-Usage
returns-in-Err-Usage g c =
    let source = g.S.Source.told c.args.source.now in
    let o = g.O.Sink.told c.args.out.now in
    let before = sinks o (g.R.Sink.told c.args.report.now) in
    let now = sinks o (g.R.Sink.told c.end_early.new.report) in
    by_name (command_of (map string_bytes c.args.words.now)) None source source before now (ended_of c.end_early.result)
    ((rw c.in-Err-Usage.field-0-is at c.in-Err-Usage.ensures.usage) refl) (record {
      read = untouched source refl;
      calm = λ _. refl;
      reads = tt;
      comes = announced LeavesNothing (early_outcome Usage) before now c.end_early.result (c.end_early.ensures o);
    })

pub returns-in-Err-NoMemory : goal.returns-in-Err-NoMemory
returns-in-Err-NoMemory g c =
    starved_words (command_of (map string_bytes c.args.words.now)) (g.S.Source.told c.args.source.now)
    (sinks (g.O.Sink.told c.args.out.now) (g.R.Sink.told c.args.report.now))

pub run-requires-clause-some : goal.run-requires-clause-some
run-requires-clause-some g c κs within = let has = rw c.in-Ok-Run.field-0-is at c.in-Ok-Run.ensures.workers in has.some

pub run-requires-clause-most : goal.run-requires-clause-most
run-requires-clause-most g c κs within = let has = rw c.in-Ok-Run.field-0-is at c.in-Ok-Run.ensures.workers in has.most

pub demo-requires-clause-some : goal.demo-requires-clause-some
demo-requires-clause-some g c κs within = let has = rw c.in-Ok-Demo.field-0-is at c.in-Ok-Demo.ensures.workers in has.some

pub demo-requires-clause-most : goal.demo-requires-clause-most
demo-requires-clause-most g c κs within = let has = rw c.in-Ok-Demo.field-0-is at c.in-Ok-Demo.ensures.workers in has.most

pub resume-requires-clause-some : goal.resume-requires-clause-some
resume-requires-clause-some g c κs within = let has = rw c.in-Ok-Resume.field-0-is at c.in-Ok-Resume.ensures.workers in has.some

pub resume-requires-clause-most : goal.resume-requires-clause-most
resume-requires-clause-most g c κs within = let has = rw c.in-Ok-Resume.field-0-is at c.in-Ok-Resume.ensures.workers in has.most

pub probe-requires-clause-some : goal.probe-requires-clause-some
probe-requires-clause-some g c κs within = let has = rw c.in-Ok-Probe.field-0-is at c.in-Ok-Probe.ensures.workers in has.some

pub probe-requires-clause-most : goal.probe-requires-clause-most
probe-requires-clause-most g c κs within = let has = rw c.in-Ok-Probe.field-0-is at c.in-Ok-Probe.ensures.workers in has.most
