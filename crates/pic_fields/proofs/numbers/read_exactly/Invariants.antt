-- The letters so far were read.
use Rattle.std.proofs.Common.{◌+◌, take}
use Rattle.pic_fields.specs.Causes.{cause_number}
use Rattle.pic_fields.specs.Parser.{each}
use Rattle.pic_fields.specs.Number.{letter}
use Rattle.pic_fields.specs.Reads.{HasRead}
use Rattle.pic_fields.proofs.numbers.read_exactly.Given as goal

abbrev pub invariant-loop-index : goal.invariant-loop-index
invariant-loop-index g l =
    HasRead (each l.index (letter (cause_number l.cause) l.text)) l.place (g.S.Source.told l.initial.source) (take l.index l.text) (l.place + l.index)
    (g.S.Source.told l.source)
