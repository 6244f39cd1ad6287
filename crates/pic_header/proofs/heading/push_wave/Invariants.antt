use Rattle.std.proofs.Common.{◌≡◌, ◌+◌, ◌*◌, ◌++◌, length, take}
use Rattle.std.specs.Prelude.{flat_map}
use Rattle.pic_fields.specs.Number.{i64_bytes}
use Rattle.pic_header.proofs.heading.push_wave.Given as goal

-- the numbers so far stand behind the text
abbrev pub invariant-loop-number : goal.invariant-loop-number
invariant-loop-number l =
    record {
      bytes : l.text ≡ l.initial.text ++ flat_map i64_bytes (take l.number-index l.wave);
      len : length l.text ≡ length l.initial.text + 8 * l.number-index;
    }
