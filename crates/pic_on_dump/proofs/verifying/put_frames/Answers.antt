use Rattle.std.proofs.Common.{◌≡◌, List, ℕ, [], subst, ◌∙◌, refl}
use Rattle.pic_io.specs.Sinks.{sinks, Wrote}
use Rattle.pic_report.specs.Lines.{verified_line}
use Rattle.pic_report.proofs.PieceLaws.{wrote_one}
use Rattle.pic_on_dump.proofs.verifying.put_frames.Goals as goal

pub returns : goal.returns
returns g c = λ r.
    let a = sinks (g.O.Sink.told c.args.out.now) r in
    let b = sinks (g.O.Sink.told c.put_out.new.out) r in
    let text : c.bytes.result.now ≡ verified_line c.args.frames = c.bytes.ensures ∙ c.line_of_verified.ensures in
    record {
      answers = refl;
      wrote = subst (λ (t : List ℕ). Wrote a b t []) text (wrote_one a b (record { out = c.bytes.result.now; line = [] }) (c.in_ok-put_out.ensures r));
    }
