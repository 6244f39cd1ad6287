use Rattle.std.proofs.Common.{◌≡◌, ◌++◌, take, drop}
use Rattle.pic_header.specs.HeaderFields.{name_of}
use Rattle.pic_header.proofs.name_reader.name_of.Given as goal

-- the bytes so far are of the name
abbrev pub invariant-loop-index : goal.invariant-loop-index
invariant-loop-index l = name_of l.bytes ≡ take l.index l.bytes ++ name_of (drop l.index l.bytes)
