-- The species so far.
use Rattle.std.proofs.Common.{◌≡◌, ◌+◌, ◌*◌, length}
use Rattle.pic_grid.specs.Species.{AreHeads}
use Rattle.pic_fields.specs.Parser.{each}
use Rattle.pic_fields.specs.Reads.{HasRead}
use Rattle.pic_header.specs.HeaderFields.{particles_of, head_at}
use Rattle.pic_header.proofs.head_reader.read_each_head.Given as goal

abbrev pub invariant-loop-index : goal.invariant-loop-index
invariant-loop-index g l = record {
  read : HasRead (each l.index (head_at l.most)) l.place (g.S.Source.told l.initial.source) l.heads.items (l.place + 60 * l.index) (g.S.Source.told l.source);
  are : AreHeads l.most l.heads.items;
  size : length l.heads.items ≡ l.index;
  count : l.particles ≡ particles_of l.heads.items;
}
