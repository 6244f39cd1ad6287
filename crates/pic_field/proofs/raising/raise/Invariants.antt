use Rattle.std.proofs.Common.{◌≡◌, ◌*◌, length}
use Rattle.pic_num.specs.Space.{triple}
use Rattle.pic_block.specs.Cells.{count_of}
use Rattle.pic_block.proofs.PlaceLaws.{IsPlace}
use Rattle.pic_grid.specs.Lattice.{value_at}
use Rattle.pic_field.specs.Lines.{Changed}
use Rattle.pic_field.proofs.RaisedLaws.{BelowNumber, raised}
use Rattle.pic_field.proofs.raising.raise.Given as goal

-- the walk stands at the place of its number, and every place before that has the curl, less what the block has
abbrev pub invariant-loop-number : goal.invariant-loop-number
invariant-loop-number l = record {
  place : IsPlace (triple l.zone.size) l._number l.place.axis (triple l.place.inner);
  changed : Changed (raised l.m.cells (value_at l.m) l.j l.fn.e.low) (BelowNumber l.fn.e.size l._number) l.fn.e l.e;
  long : length l.e.values ≡ 3 * count_of l.e.size;
}
