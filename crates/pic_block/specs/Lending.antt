-- What a block is once its values, which were lent, are given back.
use Rattle.std.specs.Prelude.{ℤ, List, length}
use Rattle.std.specs.Borrow.{Lends, MutBor, Fml, Array, i128}
use Rattle.std.specs.List.{refill}
use Rattle.pic_block.specs.Block.{BlockValues}
use Rattle.pic_block.specs.contracts.block.Block.{the_row}

-- the block with as many values as it has, those of the list first
abbrev pub with_values : BlockValues → List ℤ → BlockValues
with_values b values = record b { values = refill (length b.values) b.values values }

-- r lends the values of b, which has what was last written through r
abbrev pub LendsValues : MutBor BlockValues → MutBor (List ℤ) → Fml
LendsValues b r = Lends the_row (Array i128 0) b r (with_values b.now)
