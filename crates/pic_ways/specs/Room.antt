-- The memory for the current of ways.
use Rattle.std.specs.Prelude.{◌≡◌, ⊤, ℕ, pos, ◌*◌, replicate, Option, Some, None}
use Rattle.pic_num.specs.Space.{Triple}
use Rattle.pic_block.specs.Block.{BlockValues}
use Rattle.pic_block.specs.Cells.{count_of}
use Rattle.pic_filter.specs.Smoothing.{filter_in}
use Rattle.pic_ways.specs.declared.room.WayRoom.{WayRoom}
use Rattle.pic_ways.specs.declared.room.Smoothing.{Smoothing}
use Rattle.pic_ways.specs.Margin.{margin_low, margin_size}

-- a block of zeros over the box and its margin
abbrev pub IsEmptyMargin : Triple → BlockValues → Type 0
IsEmptyMargin n b =
    b ≡ record { low = margin_low; size = margin_size n; values = replicate (3 * count_of (margin_size n)) (pos 0) }

-- room for a current of n cells, and for its filtered values
pub record HasSmoothing (n : Triple) (s : Smoothing) : Type 0 where
  pub current : s.current.cells ≡ n
  pub low : s.filtered.low ≡ record { x = pos 0; y = pos 0; z = pos 0 }
  pub size : s.filtered.size ≡ n

-- that room, if it is there
abbrev pub HasSome : Triple → Option Smoothing → Type 0
HasSome n None = ⊤
HasSome n (Some s) = HasSmoothing n s

-- all room for a grid and a filter: 0 for none, 1 for the binomial one
pub record HasRoom (n : Triple) (filter : ℕ) (r : WayRoom) : Type 0 where
  pub flux : IsEmptyMargin n r.flux
  pub smoothing : HasSome n r.smoothing
  pub filter_is : filter_in r.smoothing ≡ filter
