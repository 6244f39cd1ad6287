use Rattle.std.proofs.Common.{◌≡◌, take}
use Rattle.pic_header.specs.HeaderFields.{loops_length}
use Rattle.pic_header.proofs.header.loops_length.Given as goal

-- the bytes of the loops so far
abbrev pub invariant-loop-one : goal.invariant-loop-one
invariant-loop-one l = l.bytes ≡ loops_length (take l.one-index l.loops)
