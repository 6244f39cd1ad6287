use Rattle.std.proofs.Common.{◌≡◌, ◌+◌}
use Rattle.pic_num.specs.declared.axis.Axis.TheVariants.{X}
use Rattle.pic_num.specs.Space.{triple}
use Rattle.pic_block.specs.Rows.{row_of}
use Rattle.pic_block.proofs.LayerLaws.{LayersAdded}
use Rattle.pic_block.proofs.layers.add_values.Given as goal

-- the walk stands at the layer of its number, and the layers so far are added
abbrev pub invariant-loop-z : goal.invariant-loop-z
invariant-loop-z l = record {
  at : l.at ≡ row_of (triple l.fn.size) X (triple l.fn.offset).y ((triple l.fn.offset).z + l._z) + (triple l.fn.offset).x;
  from : l.start ≡ row_of (triple l.fn.n) X 0 l._z;
  added : LayersAdded (triple l.fn.size) (triple l.fn.n) (triple l.fn.offset) l.from l.initial.to l._z l.to;
}
