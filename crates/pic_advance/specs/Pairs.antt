-- Blocks in two rows, each beside the one of its place in the other row: they are worked on in
-- pairs.
use Rattle.std.specs.Prelude.{◌≡◌, ℕ, ◌<◌, List, length}
use Rattle.pic_block.specs.Block.{BlockValues}
use Rattle.pic_advance.specs.Blocks.{block_in}

-- each pair is as C says
pub record AllPairs (C : BlockValues → BlockValues → Type 0) (es js : List BlockValues) : Type 0
  where
    pub long : length js ≡ length es
    pub each : (i : ℕ) → i < length es → C (block_in es i) (block_in js i)

-- each pair is, as R says, what became of the one of its place
pub record EachPair (R : BlockValues → BlockValues → BlockValues → BlockValues → Type 0)
    (es js fs ks : List BlockValues) : Type 0
  where
    pub count : length js ≡ length es
    pub long : length fs ≡ length es
    pub beside : length ks ≡ length js
    pub each : (i : ℕ) → i < length es
        → R (block_in es i) (block_in js i) (block_in fs i) (block_in ks i)
