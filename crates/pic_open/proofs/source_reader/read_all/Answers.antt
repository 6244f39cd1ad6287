use Rattle.std.proofs.Common.{◌≡◌, length, arith}
use Rattle.pic_open.proofs.TakenLaws.{taken_more, took_full}
use Rattle.pic_open.proofs.source_reader.read_all.Goals as goal

pub returns-in_err-extend_from_slice-in-Ok-clause-taken : goal.returns-in_err-extend_from_slice-in-Ok-clause-taken
returns-in_err-extend_from_slice-in-Ok-clause-taken g c =
    let took = c.in-Ok.ensures in
    taken_more (g.S.Source.told c.args.source.now) (g.S.Source.told c.pieces.source) (g.S.Source.told c.take_some.new.source) c.pieces.bytes.items
    c.take_some.new.room c.in-Ok.count c.min-most.result c.args.limit c.pieces.invariant.taken took.bytes took.most (omega (arith, c.min-most.ensures))

pub returns-clause-reads : goal.returns-clause-reads
returns-clause-reads g c =
    let full : length c.pieces.bytes.items ≡ c.args.limit = omega arith in
    took_full (g.S.Source.told c.args.source.now) (g.S.Source.told c.pieces.source) c.args.limit c.pieces.bytes.items
    (g.S.Source.told c.pieces.source).bytes c.pieces.invariant.taken c.pieces.invariant.calm full
