use Rattle.std.proofs.Common.{◌≡◌, ◌++◌, length, take, map}
use Rattle.std.specs.Str.{chars}
use Rattle.pic_report.specs.Lines.{printed_char}
use Rattle.pic_report.specs.Piece.{HasPut}
use Rattle.pic_report.proofs.refusing.put_path.Given as goal

-- the characters so far are the path's, and they were put or stand in the piece
abbrev pub invariant-loop-c : goal.invariant-loop-c
invariant-loop-c g l =
    (l.yielded ≡ take (length l.yielded) (chars l.fn.path))
    × HasPut (g.R.Sink.told l.fn.report) (g.R.Sink.told l.report) l.piece (l.fn.head ++ map printed_char l.yielded)
