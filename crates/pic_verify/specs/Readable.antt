-- A dump that is put is verified.
use Rattle.std.specs.Prelude.{◌≡◌, List, length, All, Ok}
use Rattle.pic_grid.specs.declared.stop.EndMark.{EndMark}
use Rattle.pic_header.specs.Header.{HeaderView}
use Rattle.pic_record.specs.FrameFields.{FrameView}
use Rattle.pic_record.specs.Layout.{layout_of}
use Rattle.pic_dump.specs.Readable.{dump_bytes, IsReadableDump}
use Rattle.pic_verify.specs.Verified.{ObeysGauss, verified}

-- every readable dump whose frames meet Gauss's law, with its number of frames
abbrev pub DumpsAreVerified : Type 0
DumpsAreVerified =
    (h : HeaderView) (frames : List FrameView) (mark : EndMark) → IsReadableDump h frames mark → All (ObeysGauss (layout_of h)) frames
    → verified (dump_bytes h frames mark) ≡ Ok (length frames)
