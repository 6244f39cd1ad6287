use Rattle.pic_num.specs.Space.{triple}
use Rattle.pic_block.proofs.PlaceLaws.{IsPlace}
use Rattle.pic_drive.proofs.PlusLaws.{IsLike, AreNone}
use Rattle.pic_drive.proofs.driving.clear.Given as goal

-- the walk stands at the place of its number, and every place before that is 0
abbrev pub invariant-loop-number : goal.invariant-loop-number
invariant-loop-number l = record {
  like : IsLike l.fn.m l.m;
  place : IsPlace l.fn.m.cells l._number l.place.axis (triple l.place.inner);
  none : AreNone l.m l._number;
}
