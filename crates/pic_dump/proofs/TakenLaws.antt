-- How much of a source is taken: by its header, and by the records behind it.
use Rattle.std.proofs.Common.{◌≡◌, ℕ, ◌+◌, ◌≤◌, ◌⊎◌, List, ◌++◌, length, length-append, Option, Some, None, Ok, Err, inl, inr, refl, ap, arith}
use Rattle.pic_io.specs.Told.{Told}
use Rattle.pic_io.specs.Source.{with_front}
use Rattle.pic_fields.specs.Parser.{input, Parsed}
use Rattle.pic_fields.specs.Reads.{Moves, HasRead}
use Rattle.pic_fields.proofs.ReadLaws.{moves_then}
use Rattle.pic_header.specs.Header.{HeaderView}
use Rattle.pic_header.specs.HeaderFields.{header_length, header_at, header_most}
use Rattle.pic_header.specs.HeadReads.{HeadReads, reach_of, TakesWithin}
use Rattle.pic_header.specs.declared.head_stop.HeadStop.{HeadStop}
use Rattle.pic_header.specs.declared.head_stop.HeadStop.TheVariants as head
use Rattle.pic_header.proofs.RunLaws.{header_place}
use Rattle.pic_header.proofs.WithinLaws.{read_told}
use Rattle.pic_record.specs.Layout.{layout_of}
use Rattle.pic_dump.specs.Allowed.{records_length, bytes_allowed, IsAllowed, IsInHeader, TakesAllowed}
use Rattle.pic_dump.specs.Standing.{Standing}

-- where a reader stands behind a header
abbrev pub stands : HeaderView → Standing
stands h = record { layout = layout_of h; place = header_length h; last = None }

-- what was taken where there is no header
pub takes_head : {B : Type 0} (view : B → HeaderView) (end : HeaderView → ℕ) (x z : Told) (stop : HeadStop)
    → HeadReads view header_at 0 end header_most x z (Err stop) → Moves 0 header_most x z
takes_head view end x z (head.Read stop) first = first.answer.moves
takes_head view end x z head.NoMemory first = first.answer.moves

-- two fronts of the same bytes are of one length
same_size : (known now : Option (List ℕ)) (front other bytes : List ℕ) → known ≡ Some bytes → known ≡ with_front front now → known ≡ with_front other now
    → length front ≡ length other
same_size known None front other bytes told one two = absurd cc
same_size known (Some rest) front other bytes told one two =
    let both : front ++ rest ≡ other ++ rest = cc in
    let size : length (front ++ rest) ≡ length (other ++ rest) = ap (λ l. length l) both in
    omega (arith, size, length-append front rest, length-append other rest)

-- so many bytes were taken at most, by the header with which the source's bytes begin
pub taken_size : (x z : Told) (moves : Moves 0 header_most x z) (bytes : List ℕ) → TakesWithin header_at 0 x z → x.bytes ≡ Some bytes
    → length moves.front ≤ reach_of (header_at (input 0 bytes))
taken_size x z moves bytes within told =
    let other = within.moves bytes told in
    let most = other.most in
    let same = same_size x.bytes z.bytes moves.front other.front bytes told moves.moved other.moved in
    omega (arith, most, same)

by_header : (bytes : List ℕ) (n : ℕ) (r : Parsed HeaderView) → header_at (input 0 bytes) ≡ r → n ≤ header_most → n ≤ reach_of r
    → IsInHeader bytes n ⊎ IsAllowed bytes n
by_header bytes n (Ok x) is most near =
    let place = header_place (input 0 bytes) x.1 x.0 is in
    inr (record { header = x.0; rest = x.1; reads = is; most = omega (arith, near, place) })
by_header bytes n (Err f) is most near = inl (record { fault = f; fails = is; most = most; near = near })

pub stops_taken : {B : Type 0} (view : B → HeaderView) (end : HeaderView → ℕ) (x z : Told) (stop : HeadStop)
    → HeadReads view header_at 0 end header_most x z (Err stop) → TakesWithin header_at 0 x z → TakesAllowed x z
stops_taken view end x z stop first within =
    let moves = takes_head view end x z stop first in
    let most = moves.most in
    record {
      front = moves.front;
      taken = moves.moved;
      most = λ bytes told. by_header bytes (length moves.front) (header_at (input 0 bytes)) refl (omega (arith, most))
          (taken_size x z moves bytes within told);
    }

-- behind a header
behind_taken : (h : HeaderView) (x y z : Told) (n : ℕ) → HasRead header_at 0 x h (header_length h) y → Moves 0 n x z → n ≤ bytes_allowed h + 1
    → TakesAllowed x z
behind_taken h x y z n first moves fits =
    let most = moves.most in
    record {
      front = moves.front;
      taken = moves.moved;
      most = λ bytes told. inr (let (rest, left, reads) = read_told bytes first told in
          record { header = h; rest = input (header_length h) rest; reads = reads; most = omega (arith, most, fits) });
    }

pub head_taken : (h : HeaderView) (x y : Told) → HasRead header_at 0 x h (header_length h) y → TakesAllowed x y
head_taken h x y first = behind_taken h x y y (header_length h) first first.moves (omega arith)

-- behind records
pub records_taken : (h : HeaderView) (r : Standing) (x y z : Told)
    → HasRead header_at 0 x h (header_length h) y → r ≡ stands h → Moves r.place (r.place + (records_length r.layout + 1)) y z → TakesAllowed x z
records_taken h r x y z first is moves =
    let there = rw is at moves in
    behind_taken h x y z (header_length h + (records_length (layout_of h) + 1)) first (moves_then first.moves there) (omega arith)
