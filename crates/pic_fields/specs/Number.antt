-- Fields that are numbers, big-endian, signed ones in two's complement.
use Rattle.std.specs.Prelude.{ℤ, ℕ, Bool, ◌&&◌, nat_eq, nat_le, int_le, unsigned_abs, List, length, get_or}
use Rattle.std.specs.Int.{w32, w64, w128, to_be_bytes, from_be_bytes, cast_signed, cast_unsigned}
use Rattle.pic_fields.specs.Parser.{Parser, field, mapped, checked, each}

unfoldable pub byte_of : List ℕ → ℕ
byte_of bytes = get_or bytes 0 0

unfoldable pub u32_of : List ℕ → ℕ
u32_of bytes = from_be_bytes w32 bytes

unfoldable pub i32_of : List ℕ → ℤ
i32_of bytes = cast_signed w32 (from_be_bytes w32 bytes)

unfoldable pub i64_of : List ℕ → ℤ
i64_of bytes = cast_signed w64 (from_be_bytes w64 bytes)

unfoldable pub u128_of : List ℕ → ℕ
u128_of bytes = from_be_bytes w128 bytes

unfoldable pub i128_of : List ℕ → ℤ
i128_of bytes = cast_signed w128 (from_be_bytes w128 bytes)

unfoldable pub byte_at : Parser ℕ
byte_at = mapped byte_of (field 1)

unfoldable pub u32_at : Parser ℕ
u32_at = mapped u32_of (field 4)

unfoldable pub i32_at : Parser ℤ
i32_at = mapped i32_of (field 4)

unfoldable pub i64_at : Parser ℤ
i64_at = mapped i64_of (field 8)

-- the bytes of such a number
unfoldable pub i64_bytes : ℤ → List ℕ
i64_bytes z = to_be_bytes w64 (cast_unsigned w64 z)

unfoldable pub u128_at : Parser ℕ
u128_at = mapped u128_of (field 16)

unfoldable pub i128_at : Parser ℤ
i128_at = mapped i128_of (field 16)

-- a number from low to high
abbrev pub is_from_to : ℕ → ℕ → ℕ → Bool
is_from_to low high n = nat_le low n && nat_le n high

unfoldable pub within : ℕ → ℕ → ℕ → Parser ℕ
within cause low high = checked cause (is_from_to low high) u32_at

-- a signed number from low to high
abbrev pub is_between : ℤ → ℤ → ℤ → Bool
is_between low high z = int_le low z && int_le z high

unfoldable pub between : ℕ → ℤ → ℤ → Parser ℤ
between cause low high = checked cause (is_between low high) i32_at

-- a number at most so large in size
abbrev pub is_at_most : ℕ → ℤ → Bool
is_at_most most z = nat_le (unsigned_abs z) most

unfoldable pub at_most : ℕ → ℕ → Parser ℤ
at_most cause most = checked cause (is_at_most most) i64_at

-- the next byte of a text
unfoldable pub letter : ℕ → List ℕ → List ℕ → Parser ℕ
letter cause text before = checked cause (nat_eq (get_or text (length before) 0)) byte_at

-- a text, byte by byte
unfoldable pub exactly : ℕ → List ℕ → Parser (List ℕ)
exactly cause text = each (length text) (letter cause text)
