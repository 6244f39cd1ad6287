-- A law of a dump's format: a dump has one spelling.
use Rattle.std.specs.Prelude.{◌≡◌, ℕ, List, Ok}
use Rattle.pic_grid.specs.declared.stop.EndMark.{EndMark}
use Rattle.pic_fields.specs.Bytes.{IsBytes}
use Rattle.pic_dump.specs.DumpRead.{DumpRead, read_dump}
use Rattle.pic_dump.specs.Readable.{dump_bytes}

-- bytes that are read as a whole dump are its text
abbrev pub DumpsAreSpelled : Type 0
DumpsAreSpelled =
    (bytes : List ℕ) (d : DumpRead) (mark : EndMark) → IsBytes bytes → read_dump bytes ≡ Ok d → d.end ≡ Ok mark
    → bytes ≡ dump_bytes d.header d.frames mark
