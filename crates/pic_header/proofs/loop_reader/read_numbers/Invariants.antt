-- The numbers so far.
use Rattle.std.proofs.Common.{◌≡◌, ◌+◌, ◌*◌, All, length}
use Rattle.pic_num.specs.Limits.{most_drive}
use Rattle.pic_num.specs.Sizes.{IsAtMost}
use Rattle.pic_fields.specs.Parser.{each}
use Rattle.pic_fields.specs.Reads.{HasRead}
use Rattle.pic_header.specs.HeaderFields.{drive_at}
use Rattle.pic_header.proofs.loop_reader.read_numbers.Given as goal

abbrev pub invariant-loop-index : goal.invariant-loop-index
invariant-loop-index g l = record {
  read : HasRead (each l.index (λ before. drive_at)) l.place (g.S.Source.told l.initial.source) l.numbers.items (l.place + 8 * l.index)
      (g.S.Source.told l.source);
  sizes : All (λ v. IsAtMost v most_drive) l.numbers.items;
  size : length l.numbers.items ≡ l.index;
}
