use Rattle.std.proofs.Common.{◌≡◌, ◌+◌, ◌*◌, ◌≤◌, ◌++◌, length, take}
use Rattle.std.specs.Prelude.{flat_map}
use Rattle.pic_header.specs.HeaderText.{loop_bytes}
use Rattle.pic_header.proofs.heading.push_loops.Given as goal

-- the loops so far stand behind the species
abbrev pub invariant-loop-one : goal.invariant-loop-one
invariant-loop-one l =
    record {
      bytes : l.text ≡ l.initial.text ++ flat_map loop_bytes (take l.one-index l.loops);
      len : length l.text ≤ length l.initial.text + 532 * l.one-index;
    }
