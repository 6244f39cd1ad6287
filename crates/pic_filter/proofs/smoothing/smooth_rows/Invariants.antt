use Rattle.std.proofs.Common.{◌≡◌, ◌+◌, ◌*◌, length}
use Rattle.pic_num.specs.Space.{triple}
use Rattle.pic_block.proofs.BlockRowLaws.{rows_of}
use Rattle.pic_block.proofs.PlaceLaws.{IsPlace}
use Rattle.pic_grid.specs.Lattice.{value_at}
use Rattle.pic_grid.proofs.CopyLaws.{RowsCopied}
use Rattle.pic_filter.specs.Kept.{AreSmall}
use Rattle.pic_filter.specs.Smoothing.{smoothed_field}
use Rattle.pic_filter.proofs.PlaceLaws.{IsReady}
use Rattle.pic_filter.proofs.smoothing.smooth_rows.Given as goal

-- the walk stands at the row of its number, which begins at `start` and for which the last lines are kept, and the rows so far are
-- filtered
abbrev pub invariant-loop-row : goal.invariant-loop-row
invariant-loop-row l = record {
  place : IsPlace (rows_of (triple l.fn.size)) l._row l.place.axis (triple l.place.inner);
  begin : l.start ≡ l._row * (triple l.fn.size).x;
  long : length l.kept ≡ (triple l.fn.size).x + 2;
  small : AreSmall l.kept;
  ready : IsReady l.from.cells (value_at l.from) (triple l.fn.low) (triple l.fn.size) l._row l.place.axis (triple l.place.inner) l.kept;
  done : RowsCopied (smoothed_field l.from) (triple l.fn.low) (triple l.fn.size) l._row l.to;
}
