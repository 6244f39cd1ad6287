-- The particles left lie in the species left.
use Rattle.std.proofs.Common.{◌≡◌, ◌+◌, ◌<◌, drop}
use Rattle.std.specs.Prelude.{sum}
use Rattle.pic_record.specs.Layout.{species_of}
use Rattle.pic_record.proofs.layout.species_at.Given as goal

abbrev pub invariant-loop-species : goal.invariant-loop-species
invariant-loop-species l = record {
  value : species_of l.counts l.initial.left ≡ l.species + species_of (drop l.species l.counts) l.left;
  below : l.left < sum (drop l.species l.counts);
}
