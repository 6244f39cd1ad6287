use Rattle.std.proofs.Common.{◌∙◌, arith}
use Rattle.std.specs.Str.Parse.{ParsesUnsigned, ExplainsUnsignedError, HasUnsignedDigitsIfOk}
use Rattle.clap.specs.Words.{found_of, rows_of, one_of}
use Rattle.clap.proofs.WalkLemmas.{one_text-rows}
use Rattle.pic_line.proofs.LineLaws.{number_named}
use Rattle.pic_line.proofs.line.number_in.Goals as goal

pub returns : goal.returns
returns c =
    let rows = one_text-rows (found_of c.args.found.now) c.args.name.now in
    c.kept.ensures
    ∙ number_named (λ bs r. ParsesUnsigned 32 10 bs r × ExplainsUnsignedError 10 bs r × HasUnsignedDigitsIfOk bs r) (λ t x g. g.0) c.args.low c.args.high
    (omega arith)
    (one_of c.args.name.now (rows_of (found_of c.args.found.now))) c.get_one.result
    (λ is. c.get_one.ensures.none (rows ∙ is)) (λ text is. c.get_one.ensures.value text (rows ∙ is))
