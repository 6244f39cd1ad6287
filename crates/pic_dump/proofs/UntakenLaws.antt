-- A dump of which nothing was taken.
use Rattle.std.proofs.Common.{◌≡◌, ℕ, List, [], Option, Err, refl, arith}
use Rattle.pic_io.specs.Told.{Told}
use Rattle.pic_io.specs.Source.{with_front}
use Rattle.pic_fields.specs.Reads.{Moves}
use Rattle.pic_fields.proofs.ReadLaws.{same_front, moves_none, moves_up}
use Rattle.pic_header.specs.Header.{HeaderView}
use Rattle.pic_header.specs.HeaderFields.{header_length, header_at, header_most}
use Rattle.pic_header.specs.declared.head_stop.HeadStop.TheVariants.{NoMemory}
use Rattle.pic_header.specs.HeadReads.{HeadReads, TakesWithin}
use Rattle.pic_dump.specs.Allowed.{TakesHeader, TakesAllowed}
use Rattle.pic_dump.proofs.TakenLaws.{stops_taken}

-- no byte before the rest
pub with_front_nil : (known : Option (List ℕ)) → known ≡ with_front [] known
with_front_nil known = same_front known

-- whatever may be taken
none_moves : (source : Told) (most : ℕ) → Moves 0 most source source
none_moves source most = moves_up (omega arith) (moves_none 0 source)

pub none_within : (source : Told) → TakesWithin header_at 0 source source
none_within source = record { moves = λ bytes told. none_moves source _ }

pub no_head : (source : Told) → HeadReads (λ (h : HeaderView). h) header_at 0 header_length header_most source source (Err NoMemory)
no_head source = record { answer = record { calm = refl; moves = none_moves source header_most } }

-- so none of the bounds is passed
pub none_allowed : (source : Told) → TakesAllowed source source
none_allowed source = stops_taken (λ (h : HeaderView). h) header_length source source NoMemory (no_head source) (none_within source)

pub none_header : (source : Told) → TakesHeader source source
none_header source = record { longest = none_moves source header_most; own = none_within source }
