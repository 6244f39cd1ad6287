use Rattle.std.proofs.Common.{◌≡◌, ◌+◌, ◌*◌}
use Rattle.pic_block.proofs.BlockRowLaws.{RowsAdded}
use Rattle.pic_block.proofs.layers.add_layer.Given as goal

-- the walk stands at the row of its number, and the rows so far are added
abbrev pub invariant-loop-y : goal.invariant-loop-y
invariant-loop-y l = record {
  at : l.here ≡ l.fn.at + l._y * l.step;
  from : l.there ≡ l.fn.start + l._y * l.count;
  added : RowsAdded l.from l.initial.to l.fn.at l.apart l.step l.fn.start l.from_apart l.count l._y l.to;
}
