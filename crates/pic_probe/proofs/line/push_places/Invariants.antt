use Rattle.std.proofs.Common.{◌≡◌, ◌+◌, ◌*◌, ◌≤◌, ◌++◌, length, take}
use Rattle.std.specs.Prelude.{flat_map}
use Rattle.std.specs.Fmt.{signed_decimal}
use Rattle.pic_grid.specs.Lattice.{value_at}
use Rattle.pic_probe.specs.ProbeLine.{value_of}
use Rattle.pic_probe.proofs.LineLaws.{spaced}
use Rattle.pic_probe.proofs.line.push_places.Given as goal

-- the places so far
abbrev pub invariant-loop-place : goal.invariant-loop-place
invariant-loop-place l = record {
  bytes : l.text ≡ l.initial.text
      ++ flat_map (λ p. spaced (signed_decimal (value_of (value_at l.state.e) (value_at l.state.b) p))) (take l.place-index l.places);
  len : length l.text ≤ length l.initial.text + 41 * l.place-index;
}
