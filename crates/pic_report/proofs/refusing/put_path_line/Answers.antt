use Rattle.std.proofs.Common.{◌++◌, Err, ◌∙◌, ap, subst}
use Rattle.std.proofs.lemmas.Result.{err_from_is_err_and}
use Rattle.pic_io.specs.Told.{Calm}
use Rattle.pic_io.specs.Sink.{Appended}
use Rattle.pic_io.specs.Sinks.{LineCut}
use Rattle.pic_io.proofs.Puts.{lines_after, line_cut_more}
use Rattle.pic_report.specs.Lines.{printed_path, path_line}
use Rattle.pic_report.proofs.refusing.put_path_line.Goals as goal

pub returns-in_err-put_path : goal.returns-in_err-put_path
unfolding path_line
returns-in_err-put_path g c =
    let exit = err_from_is_err_and c.from_residual.result c.from_residual.ensures.1 in
    let front = c.args.head.now ++ printed_path c.args.path.now in
    let a = g.R.Sink.told c.args.report.now in
    let b = g.R.Sink.told c.put_path.new.report in
    let cut = subst (λ text. LineCut c.in_err-put_path.field-0.0 a b (c.args.head.now ++ printed_path text)) c.as_str.ensures c.in_err-put_path.ensures in
    rw (exit.1 ∙ ap Err exit.2) (line_cut_more _ a b front c.args.tail.now cut)

pub returns : goal.returns
unfolding path_line
returns g c =
    let front = c.args.head.now ++ printed_path c.args.path.now in
    let a = g.R.Sink.told c.args.report.now in
    let b = g.R.Sink.told c.put_path.new.report in
    let e = g.R.Sink.told c.put_line.new.report in
    let wrote = subst (λ text. Appended a b (c.args.head.now ++ printed_path text) × Calm a b) c.as_str.ensures c.in_ok-put_path.ensures in
    lines_after a b e front c.args.tail.now c.put_line.result wrote c.put_line.ensures
