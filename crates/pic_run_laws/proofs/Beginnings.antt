-- What a run begins with, from the laws of the crates below.
use Rattle.std.proofs.Common.{ℕ, ◌+◌, ◌<◌, ◌≤◌, Some, inl, inr, arith}
use Rattle.std.proofs.Math.IntN.{ℤ, pos, negsuc, ◌+ℤ◌}
use Rattle.std.specs.Prelude.{◌≤ℤ◌, ◌<ℤ◌}
use Rattle.std.proofs.lemmas.Int.{ints}
use Rattle.pic_grid.specs.Lattice.{values_of}
use Rattle.pic_grid.specs.Traces.{IsBeyond}
use Rattle.pic_load.specs.Loading.{loaded}
use Rattle.pic_ways.proofs.WaySizeLaws.{some_beyond}
use Rattle.pic_displace.proofs.NoneLaws.{stays}
use Rattle.pic_step.specs.SerialRun.{start_of}
use Rattle.pic_run_laws.specs.Beginnings.{PlainDecksBeginAsSaid, DecksAreLoaded, WaysStayNear}
use Rattle.pic_run_laws.proofs.LoadedLaws.{are_loaded}

pub plain_decks : PlainDecksBeginAsSaid
plain_decks d none = λ t. record (start_of d (loaded d)) { e = values_of d.cells (λ a p. stays d (loaded d) none a p t) }

pub decks_loaded : DecksAreLoaded
decks_loaded d kept = are_loaded d kept

-- an index beyond the grid's is in no margin of the box
out_of_margin : (n : ℕ) (j : ℤ) → IsBeyond n j → negsuc 0 ≤ℤ j → j <ℤ (negsuc 0 +ℤ pos (n + 3)) → ⊥
out_of_margin n j (inl low) least most = omega (arith, ints, low, least)
out_of_margin n j (inr high) least most = omega (arith, ints, high, most)

pub ways_near : WaysStayNear
ways_near side n w above most is = record {
  x = λ a c beyond. some_beyond side n above most (Some w) is a c (λ zone. out_of_margin n.x c.x beyond zone.x_low zone.x_high);
  y = λ a c beyond. some_beyond side n above most (Some w) is a c (λ zone. out_of_margin n.y c.y beyond zone.y_low zone.y_high);
  z = λ a c beyond. some_beyond side n above most (Some w) is a c (λ zone. out_of_margin n.z c.z beyond zone.z_low zone.z_high);
}
