use Rattle.pic_num.specs.Space.{triple}
use Rattle.pic_block.proofs.BlockRowLaws.{rows_of}
use Rattle.pic_block.proofs.PlaceLaws.{IsPlace}
use Rattle.pic_grid.proofs.CopyLaws.{RowsCopied}
use Rattle.pic_grid.proofs.copying.copy_rows.Given as goal

-- the walk stands at the row of its number, and the rows so far are copied
abbrev pub invariant-loop-row : goal.invariant-loop-row
invariant-loop-row l = record {
  place : IsPlace (rows_of (triple l.size)) l._row l.place.axis (triple l.place.inner);
  copied : RowsCopied l.from (triple l.fn.low) (triple l.size) l._row l.to;
}
