use Rattle.std.proofs.Common.{◌≡◌, ◌*◌, ◌^◌, ◌≤◌, take}
use Rattle.pic_energy.specs.Energies.{square_sum}
use Rattle.pic_energy.proofs.summing.squares_of.Given as goal

-- the sum over the values so far
abbrev pub invariant-loop-value : goal.invariant-loop-value
invariant-loop-value l =
    record { value : l.total ≡ square_sum l.by (take l.value-index l.run); most : l.total ≤ l.value-index * 2 ^ 88 }
