use Rattle.std.proofs.Common.{◌≡◌, ◌+◌, ◌*◌, ◌++◌, length, take}
use Rattle.std.specs.Prelude.{flat_map}
use Rattle.pic_header.specs.HeaderText.{head_bytes}
use Rattle.pic_header.proofs.heading.push_heads.Given as goal

-- the species so far stand behind the front
abbrev pub invariant-loop-head : goal.invariant-loop-head
invariant-loop-head l =
    record {
      bytes : l.text ≡ l.initial.text ++ flat_map head_bytes (take l.head-index l.heads);
      len : length l.text ≡ length l.initial.text + 60 * l.head-index;
    }
