-- Numbers as bytes, big-endian, signed ones in two's complement: this project's profile of a dump.
use Rattle.std.specs.Prelude.{ℤ, ℕ, List}
use Rattle.std.specs.Int.{w32, w128, to_be_bytes, cast_unsigned}

unfoldable pub u32_bytes : ℕ → List ℕ
u32_bytes n = to_be_bytes w32 n

unfoldable pub i32_bytes : ℤ → List ℕ
i32_bytes z = to_be_bytes w32 (cast_unsigned w32 z)

unfoldable pub u128_bytes : ℕ → List ℕ
u128_bytes n = to_be_bytes w128 n

unfoldable pub i128_bytes : ℤ → List ℕ
i128_bytes z = to_be_bytes w128 (cast_unsigned w128 z)
