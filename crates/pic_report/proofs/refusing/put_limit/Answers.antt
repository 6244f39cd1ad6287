use Rattle.std.proofs.Common.{◌≡◌, List, ℕ, codes, ◌∙◌, subst}
use Rattle.std.proofs.lemmas.Int.{to_z-of_z}
use mir.Syntax.{w128}
use Rattle.pic_io.specs.Sinks.{WritesLine}
use Rattle.pic_report.specs.Lines.{limit_tail, path_line, refused_line}
use Rattle.pic_report.proofs.refusing.put_limit.Goals as goal

pub returns : goal.returns
unfolding refused_line
returns g c =
    let value = to_z-of_z w128 c.args.value c.ranges.value in
    let low = to_z-of_z w128 c.args.low c.ranges.low in
    let high = to_z-of_z w128 c.args.high c.ranges.high in
    let tail : c.bytes.result.now ≡ limit_tail c.args.value c.args.low c.args.high =
    c.bytes.ensures ∙ c.tail_of_limit-tail.ensures ∙ (λ i. limit_tail (value i) (low i) (high i)) in
    subst
    (λ (tail : List ℕ). WritesLine (g.R.Sink.told c.args.report.now) (g.R.Sink.told c.put_path_line.new.report) (path_line
    (codes "refused 5 limit ") c.args.path.now tail) c.put_path_line.result)
    tail c.put_path_line.ensures
