-- How many parts of a dump were taken whole before a read that failed.
use Rattle.std.proofs.Common.{◌≡◌, ℕ, suc, ◌+◌, ◌≤◌, List, [], length, Option, Some, None, Result, Ok, Err, refl, arith}
use Rattle.pic_io.specs.Told.{Told}
use Rattle.pic_fields.specs.Parser.{input, Fault, Parsed}
use Rattle.pic_fields.specs.Reads.{Left, Moves, MovesLess, HasRead, Stops}
use Rattle.pic_fields.specs.declared.read_stop.ReadStop.TheVariants.{ReadFault}
use Rattle.pic_fields.proofs.ReadLaws.{moves_then, then_size}
use Rattle.pic_header.specs.Header.{HeaderView}
use Rattle.pic_header.specs.HeaderFields.{header_length, header_at, header_most}
use Rattle.pic_header.specs.HeadReads.{reach_of, TakesLess}
use Rattle.pic_header.proofs.RunLaws.{header_place}
use Rattle.pic_record.specs.Layout.{layout_of}
use Rattle.pic_dump.specs.DumpRead.{DumpRead, of_header, read_dump}
use Rattle.pic_dump.specs.Whole.{frame_parts, parts_of, dump_parts, parts_in, AreWhole, TakesWhole}

-- a header was taken whole, and so many of the frames behind it
pub whole_behind : (h : HeaderView) (n whole : ℕ) (x y z : Told) → HasRead header_at 0 x h (header_length h) y
    → TakesWhole (frame_parts (layout_of h) (header_length h) n) (header_length h) whole y z → TakesWhole (parts_of h n) 0 (suc whole) x z
whole_behind h n whole x y z first second =
    let most : header_length h + length second.front ≤ header_length h + length second.front = omega arith in
    let behind : Moves (header_length h) (header_length h + length second.front) y z = record { front = second.front; moved = second.moved; most = most } in
    let all = moves_then first.moves behind in
    let size = then_size first.moves behind in
    let exact = second.exact in
    record {
      front = all.front;
      moved = all.moved;
      exact = record {
        few = omega (arith, exact.few);
        ended = omega (arith, exact.ended, first.whole, size);
        next = omega (arith, exact.next, first.whole, size);
      };
    }

-- a part of the header was taken: where the source's bytes begin with one, less than it has
none_of : (bytes : List ℕ) (x z : Told) (r : Parsed HeaderView) → header_at (input 0 bytes) ≡ r → Stops header_at 0 header_most x z ReadFault
    → MovesLess 0 (reach_of r) x z → TakesWhole (dump_parts (of_header r)) 0 0 x z
none_of bytes x z (Ok (h, rest)) is stops less =
    let place = header_place (input 0 bytes) rest h is in
    let part = less.less in
    record {
      front = less.front;
      moved = less.moved;
      exact = record { few = omega arith; ended = omega arith; next = omega (arith, part, place) };
    }
none_of bytes x z (Err f) is stops less =
    let part = stops.less refl in
    record {
      front = stops.moves.front;
      moved = stops.moves.moved;
      exact = record { few = omega arith; ended = omega arith; next = omega (arith, part) };
    }

-- a source that tells no bytes may have had none
none_told : (r : Result DumpRead Fault) → AreWhole (dump_parts r) 0 0
none_told (Ok d) = record { few = omega arith; ended = omega arith; next = omega arith }
none_told (Err f) = record { few = omega arith; ended = omega arith; next = omega arith }

none_known : (x z : Told) (known now : Option (List ℕ)) → x.bytes ≡ known → z.bytes ≡ now → Stops header_at 0 header_most x z ReadFault
    → TakesLess header_at 0 x z → (held : List ℕ) × Left x held × TakesWhole (parts_in held) 0 0 x z
unfolding read_dump
none_known x z (Some bytes) now told left stops less = (
  bytes,
  rw told refl,
  none_of bytes x z (header_at (input 0 bytes)) refl stops (less.moves bytes told),
)
none_known x z None (Some rest) told left stops less =
    let moved = stops.moves.moved in
    absurd cc
none_known x z None None told left stops less = (
  [],
  rw told refl,
  record { front = []; moved = rw (told, left) refl; exact = none_told (read_dump []) },
)

-- a read of the header failed: none is whole
pub whole_none : (x z : Told) → Stops header_at 0 header_most x z ReadFault → TakesLess header_at 0 x z
    → (held : List ℕ) × Left x held × TakesWhole (parts_in held) 0 0 x z
whole_none x z stops less = none_known x z x.bytes z.bytes refl refl stops less
