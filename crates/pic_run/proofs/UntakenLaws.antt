-- A source of which nothing was taken.
use Rattle.std.proofs.Common.{List, [], ℕ, refl}
use Rattle.std.specs.Prelude.{unwrap_or}
use Rattle.pic_io.specs.Told.{Told}
use Rattle.pic_dump.proofs.UntakenLaws.{with_front_nil}
use Rattle.pic_report.specs.Reading.{Held, Reading}
use Rattle.pic_report.proofs.EndLaws.{gave_known}

-- a source of which nothing was taken
abbrev pub untouched : {Taken : List ℕ → Type 0} (source : Told) → Taken [] → Reading Taken source source
untouched source most = record {
  front = [];
  most = most;
  taken = with_front_nil source.bytes;
  given = Held (unwrap_or source.bytes []);
  gave = gave_known source source [] refl;
}
