use Rattle.std.proofs.Common.{◌≡◌, ◌+◌, ◌*◌, ◌++◌, length, take}
use Rattle.std.specs.Prelude.{flat_map}
use Rattle.pic_num.specs.Bytes.{i128_bytes}
use Rattle.pic_record.proofs.framing.push_values.Given as goal

-- the values so far were appended
abbrev pub invariant-loop-value : goal.invariant-loop-value
invariant-loop-value l =
    record {
      bytes : l.room ≡ l.initial.room ++ flat_map i128_bytes (take l.value-index l.run);
      len : length l.room ≡ length l.initial.room + 16 * l.value-index;
    }
