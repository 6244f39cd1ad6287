use Rattle.std.proofs.Common.{unsigned_abs, ap, ◌∙◌, arith}
use Rattle.std.proofs.lemmas.Int.{ints, to_z-of_z}
use mir.Syntax.{w64}
use Rattle.pic_push.proofs.StayLaws.{as_it_was}
use Rattle.pic_push.proofs.moves.as_it_is.Goals as goal

pub returns : goal.returns
returns c =
    let low = c.requires.low in
    ap unsigned_abs (to_z-of_z w64 c.args.to c.ranges.to)
    ∙ as_it_was c.args.to c.args.len (unsigned_abs c.args.to) (omega (arith, ints, low)) c.requires.high
