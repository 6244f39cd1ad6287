use Rattle.std.proofs.Common.{◌≡◌, [], ◌∷◌, ◌++◌, Err, List, ℕ, map, ◌∙◌, ap, subst, refl, sym, append-nil}
use Rattle.std.specs.Str.{chars}
use Rattle.std.proofs.lemmas.Iterator.{YieldsList-from_chars}
use Rattle.std.proofs.lemmas.Iterator.Consumers.{YieldsList-turn, YieldsList-end}
use Rattle.std.proofs.lemmas.Result.{err_from_is_err_and}
use Rattle.pic_io.specs.Sinks.{WritesLine}
use Rattle.pic_report.specs.Lines.{printed_char, printed_path}
use Rattle.pic_report.specs.Piece.{HasPut}
use Rattle.pic_report.proofs.PrintedLaws.{map_same, more_prefix, none_put, put_twice, put_later, printed_more, put_rest, put_cut}
use Rattle.pic_report.proofs.refusing.put_path.Goals as goal

pub loop-c-init : goal.loop-c-init
loop-c-init g c =
    let a = g.R.Sink.told c.args.report.now in
    let pushed : c.push.new.self ≡ c.args.head.now ++ [] = c.push.ensures.bytes ∙ ap (λ (t : List ℕ). t ++ c.args.head.now) c.new-piece.ensures
    ∙ sym (append-nil c.args.head.now) in
    (refl, subst (HasPut a a c.push.new.self) pushed (none_put a c.push.new.self))

pub loop-c-preserved : goal.loop-c-preserved
loop-c-preserved g c =
    let cs = chars c.args.path.now in
    let t = YieldsList-turn
    (YieldsList-from_chars c.args.path.now c.utf8.path cc) c.loop-c.yielded _ c.loop-c.yielded_by _ _ c.in-Some.c c.in-Some.is c.next.ensures.steps in
    let a = g.R.Sink.told c.args.report.now in
    let b = g.R.Sink.told c.loop-c.report in
    let e = g.R.Sink.told c.put_full.new.report in
    let head = c.args.head.now in
    let ys = c.loop-c.yielded in
    let has = put_twice a b e c.loop-c.piece c.put_full.new.piece (head ++ map printed_char ys) c.loop-c.invariant.1 c.in_ok-put_full.ensures.puts in
    let more = put_later a e c.put_full.new.piece (head ++ map printed_char ys) (printed_char c.in-Some.c ∷ []) has in
    let piece : c.push_byte.new.self ≡ c.put_full.new.piece ++ printed_char c.in-Some.c ∷ [] =
    c.push_byte.ensures.bytes ∙ ap (λ (x : ℕ). c.put_full.new.piece ++ x ∷ []) c.printed_char.ensures in (
      more_prefix cs ys c.in-Some.c c.loop-c.invariant.0 t,
      subst (λ (p : List ℕ). HasPut a e p (head ++ map printed_char (ys ++ c.in-Some.c ∷ []))) (sym piece)
          (subst (HasPut a e (c.put_full.new.piece ++ printed_char c.in-Some.c ∷ [])) (printed_more head ys c.in-Some.c) more),
    )

pub returns-in_err-put_full : goal.returns-in_err-put_full
unfolding printed_path
returns-in_err-put_full g c =
    let exit = err_from_is_err_and c.from_residual.result c.from_residual.ensures.1 in
    let a = g.R.Sink.told c.args.report.now in
    let b = g.R.Sink.told c.loop-c.report in
    let e = g.R.Sink.told c.put_full.new.report in
    rw (exit.1 ∙ ap Err exit.2)
    (put_cut c.in_err-put_full.field-0.0 a b e c.loop-c.piece c.args.head.now (chars c.args.path.now) c.loop-c.yielded c.loop-c.invariant.0 c.loop-c.invariant.1
    c.in_err-put_full.ensures.puts)

pub returns : goal.returns
unfolding printed_path
returns g c =
    let end = YieldsList-end
    (YieldsList-from_chars c.args.path.now c.utf8.path cc) c.loop-c.yielded _ c.loop-c.yielded_by _ _ c.in-None.is c.next.ensures.steps in
    let a = g.R.Sink.told c.args.report.now in
    let b = g.R.Sink.told c.loop-c.report in
    let e = g.R.Sink.told c.put_line.new.report in
    let all : c.loop-c.yielded ≡ chars c.args.path.now = sym (map_same c.loop-c.yielded) ∙ end.0 in
    let last = subst (λ (t : List ℕ). WritesLine b e t c.put_line.result) c.bytes.ensures c.put_line.ensures in
    subst (λ (ys : List ℕ). WritesLine a e (c.args.head.now ++ map printed_char ys) c.put_line.result) all
    (put_rest a b e c.loop-c.piece (c.args.head.now ++ map printed_char c.loop-c.yielded) c.put_line.result c.loop-c.invariant.1 last)
