use Rattle.std.proofs.Common.{◌≡◌, replicate, None}
use Rattle.pic_core.proofs.scratch.no_parcels.Given as goal

abbrev pub invariant-loop : goal.invariant-loop
invariant-loop l = l.places.items ≡ replicate l.counter None
