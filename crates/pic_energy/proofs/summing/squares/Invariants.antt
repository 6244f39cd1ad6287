use Rattle.std.proofs.Common.{◌≡◌, ◌-◌, ◌*◌, ◌^◌, ◌≤◌, length, take}
use Rattle.pic_num.specs.Space.{triple}
use Rattle.pic_block.proofs.PlaceLaws.{IsPlace}
use Rattle.pic_energy.specs.Energies.{square_sum}
use Rattle.pic_energy.proofs.summing.squares.Given as goal

-- the walk stands at the place of the number `done`, with the sum over the places so far
abbrev pub invariant-loop-done : goal.invariant-loop-done
invariant-loop-done l = record {
  place : IsPlace l.field.cells l.done l.place.axis (triple l.place.inner);
  inside : l.done ≤ length l.field.values;
  value : l.total ≡ square_sum l.by (take l.done l.field.values);
  most : l.total ≤ l.done * 2 ^ 88;
}

abbrev pub decreases-loop-done : goal.decreases-loop-done
decreases-loop-done l = l.all - l.done
