-- The standard streams: what is told of them, and what they stand over.
use Rattle.std.specs.Prelude.{ℕ, List, take, Option, Result, Ok, Err}
use Rattle.std.specs.Io.KnownBytes.{Appends}
use Rattle.pic_io.specs.declared.std_source.StdSource.{StdSource}
use Rattle.pic_io.specs.declared.std_sink.StdSink.{StdSink}
use Rattle.pic_io.specs.Told.{Told, untold}

-- the reader behind a source
abbrev pub reader_of : {R : Type 0} → StdSource R → R
reader_of s = s.inner

-- a source over a reader tells its count of faults, and no bytes
abbrev pub source_told : {R : Type 0} → StdSource R → Told
source_told s = untold s.faults

-- the writer behind a sink
abbrev pub writer_of : {W : Type 0} → StdSink W → W
writer_of s = s.inner

-- a sink over a writer tells its count of faults, and no bytes
abbrev pub sink_told : {W : Type 0} → StdSink W → Told
sink_told s = untold s.faults

-- what a put appends to the known bytes of a writer: all of the piece at Ok, and a front of it at Err
abbrev pub WritesOn : {T E : Type 0} → Option (List ℕ) → Option (List ℕ) → List ℕ → Result T E
    → Type 0
WritesOn old new piece (Ok _) = Appends old new piece
WritesOn old new piece (Err _) = (k : ℕ) × Appends old new (take k piece)
