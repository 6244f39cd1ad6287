use Rattle.std.proofs.Common.{◌≡◌, List, ℕ, [], length, sym, ap, subst, ◌∙◌}
use Rattle.pic_io.specs.Sinks.{sinks, Wrote}
use Rattle.pic_load.specs.Loading.{loaded}
use Rattle.pic_report.specs.declared.ended.Ended.TheVariants.{Checked}
use Rattle.pic_report.specs.Lines.{check_line}
use Rattle.pic_report.proofs.PieceLaws.{wrote_one}
use Rattle.pic_run.proofs.check.put_count.Goals as goal

pub returns : goal.returns
returns g c = λ d r count.
    let a = sinks (g.O.Sink.told c.args.out.now) r in
    let b = sinks (g.O.Sink.told c.put_out.new.out) r in
    let text : c.bytes.result.now ≡ check_line (length (loaded d)) = c.bytes.ensures ∙ c.line_of_check.ensures ∙ ap check_line (sym count) in
    record {
      answers = ap (λ n. Checked n) count;
      wrote = subst (λ (t : List ℕ). Wrote a b t []) text (wrote_one a b (record { out = c.bytes.result.now; line = [] }) (c.in_ok-put_out.ensures r));
    }
