use Rattle.std.proofs.Common.{◌≡◌, ◌+◌, ◌*◌, ◌≤◌, ◌++◌, length, take}
use Rattle.std.specs.Prelude.{flat_map}
use Rattle.pic_probe.specs.ProbeLine.{particle_with, track_of}
use Rattle.pic_probe.proofs.LineLaws.{spaced}
use Rattle.pic_probe.proofs.line.push_tracks.Given as goal

-- the identities so far
abbrev pub invariant-loop-id : goal.invariant-loop-id
invariant-loop-id l = record {
  bytes : l.text ≡ l.initial.text ++ flat_map (λ id. flat_map spaced (track_of (particle_with l.particles id))) (take l.id-index l.ids);
  len : length l.text ≤ length l.initial.text + 246 * l.id-index;
}
