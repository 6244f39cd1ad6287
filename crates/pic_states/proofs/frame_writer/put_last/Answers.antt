use Rattle.std.proofs.Common.{◌≡◌, List, ℕ, [], ◌∷◌, ◌∙◌, subst, sym}
use Rattle.pic_io.specs.Sinks.{sinks, CutAt, Writes}
use Rattle.pic_io.specs.declared.side.Side.TheVariants.{Out}
use Rattle.pic_io.proofs.Puts.{cut_out}
use Rattle.pic_energy.specs.Line.{end_line}
use Rattle.pic_states.specs.declared.output.Output.{Output}
use Rattle.pic_states.specs.declared.output.Output.TheVariants.{Dump}
use Rattle.pic_states.specs.Frames.{end_piece}
use Rattle.pic_dump.proofs.TextLaws.{end_some}
use Rattle.pic_states.proofs.frame_writer.put_last.Goals as goal

pub returns-in-Err : goal.returns-in-Err
returns-in-Err g c =
    let o = g.O.Sink.told c.args.out.now in
    let p = g.O.Sink.told c.put_end.new.out in
    let r = g.R.Sink.told c.args.report.now in
    subst (λ (output : Output). CutAt Out (sinks o r) (sinks p r) (end_piece output c.args.end ∷ [])) (sym c.in-Dump.is)
    (cut_out o p r (end_piece Dump c.args.end) [] (end_some c.args.end) c.in-Err.ensures.bytes c.in-Err.ensures.cause.err)

pub returns-in-Lines : goal.returns-in-Lines
returns-in-Lines g c =
    let r = g.R.Sink.told c.args.report.now in
    let a = sinks (g.O.Sink.told c.args.out.now) r in
    let b = sinks (g.O.Sink.told c.put_out.new.out) r in
    let text : c.bytes-text.result.now ≡ end_line c.args.end = c.bytes-text.ensures ∙ c.end_line-line.ensures in
    subst (λ (output : Output). Writes a b (end_piece output c.args.end ∷ []) c.put_out.result) (sym c.in-Lines.is)
    (subst (λ (t : List ℕ). Writes a b (record { out = t; line = [] } ∷ []) c.put_out.result) text (c.put_out.ensures r))

pub returns-in-Probe : goal.returns-in-Probe
returns-in-Probe g c =
    let r = g.R.Sink.told c.args.report.now in
    let a = sinks (g.O.Sink.told c.args.out.now) r in
    let b = sinks (g.O.Sink.told c.put_out-in-Probe.new.out) r in
    let text : c.bytes-text.result.now ≡ end_line c.args.end = c.bytes-text.ensures ∙ c.end_line-line.ensures in
    subst (λ (output : Output). Writes a b (end_piece output c.args.end ∷ []) c.put_out-in-Probe.result) (sym c.in-Probe.is)
    (subst (λ (t : List ℕ). Writes a b (record { out = t; line = [] } ∷ []) c.put_out-in-Probe.result) text (c.put_out-in-Probe.ensures r))
