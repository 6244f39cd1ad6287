use Rattle.std.proofs.Common.{◌<◌, ◌≤◌, length, rules}
use Rattle.pic_walk.specs.Bounds.{most_bytes}
use Rattle.pic_deck.proofs.ReadingLaws.{refuses, walk_long, walk_is, no_text, stops, reads}
use Rattle.pic_deck.proofs.reading.read_deck.Goals as goal

pub returns-then-bytes-gt-MAX_BYTES-clause-walks : goal.returns-then-bytes-gt-MAX_BYTES-clause-walks
returns-then-bytes-gt-MAX_BYTES-clause-walks c =
    let large : most_bytes < length c.args.bytes.now = search rules in
    refuses _ _ _ c.size_fault.ensures (walk_long _ large)

pub returns-in_err-table-clause-walks : goal.returns-in_err-table-clause-walks
returns-in_err-table-clause-walks c =
    let small : length c.args.bytes.now ≤ most_bytes = search rules in
    no_text _ _ small c.from_residual.ensures.1 c.in_err-table.ensures.refused

pub returns-in_err-deck_of-clause-walks : goal.returns-in_err-deck_of-clause-walks
returns-in_err-deck_of-clause-walks c =
    let small : length c.args.bytes.now ≤ most_bytes = search rules in
    rw (walk_is _ _ small c.in_ok-table.ensures.ok) (stops _ _ c.from_residual-in_err-deck_of.ensures.1 c.in_err-deck_of.ensures)

pub returns-clause-walks : goal.returns-clause-walks
returns-clause-walks c =
    let small : length c.args.bytes.now ≤ most_bytes = search rules in
    rw (walk_is _ _ small c.in_ok-table.ensures.ok) (reads _ _ c.in_ok-deck_of.ensures.answer)
