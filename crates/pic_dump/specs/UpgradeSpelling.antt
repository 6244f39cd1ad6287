-- Laws of an upgrade: what is put of a whole dump is the text of its header in version 2 and of the same
-- records, and a dump of version 2 is put as it is.
use Rattle.std.specs.Prelude.{◌≡◌, ℕ, List, Ok}
use Rattle.pic_io.specs.Sinks.{outs}
use Rattle.pic_grid.specs.declared.stop.EndMark.{EndMark}
use Rattle.pic_fields.specs.Bytes.{IsBytes}
use Rattle.pic_header.specs.Header.{upgraded}
use Rattle.pic_dump.specs.DumpRead.{DumpRead, read_dump}
use Rattle.pic_dump.specs.Readable.{dump_bytes}
use Rattle.pic_dump.specs.Upgrade.{upgrade_of}

abbrev pub UpgradesAreSpelled : Type 0
UpgradesAreSpelled =
    (bytes : List ℕ) (d : DumpRead) (mark : EndMark) → read_dump bytes ≡ Ok d → d.end ≡ Ok mark
    → outs (upgrade_of bytes).pieces ≡ dump_bytes (upgraded d.header) d.frames mark

abbrev pub VersionTwoStays : Type 0
VersionTwoStays =
    (bytes : List ℕ) (d : DumpRead) (mark : EndMark) → IsBytes bytes → read_dump bytes ≡ Ok d → d.end ≡ Ok mark → d.header.version ≡ 2
    → outs (upgrade_of bytes).pieces ≡ bytes
