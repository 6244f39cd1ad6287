use Rattle.std.proofs.Common.{◌<◌, ◌^◌, arith}
use Rattle.std.proofs.lemmas.Int.{to_z_pos}
use mir.Syntax.{w128}
use Rattle.pic_walk.proofs.TableLaws.{key_at-top}
use Rattle.pic_deck.proofs.ReadingLaws.{as_refusal}
use Rattle.pic_deck.proofs.reading.size_fault.Goals as goal

pub returns : goal.returns
returns c =
    let small : c.args.size < 2 ^ 64 = omega arith in
    let size = to_z_pos w128 c.args.size (omega (arith, small)) in
    as_refusal _ _ _ (rw (c.new-limits.ensures, c.new.ensures.path, key_at-top, size) at c.limit_fault.ensures) c.from.ensures
