use Rattle.std.proofs.Common.{◌≡◌, ◌+◌, ◌*◌, refl, ap, ◌∙◌, subst, arith, rules, length-append}
use Rattle.std.proofs.lemmas.Int.{to_z-of_z}
use mir.Syntax.{w64}
use mir.Val.{SFits}
use Rattle.std.proofs.lemmas.List.Elements.{All-nil, All-push}
use Rattle.pic_num.specs.Limits.{most_drive}
use Rattle.pic_num.specs.Sizes.{IsAtMost}
use Rattle.pic_fields.specs.Parser.{each}
use Rattle.pic_fields.specs.Reads.{HasRead}
use Rattle.pic_fields.proofs.ReadLaws.{moves_then, moves_up, read_up_to}
use Rattle.pic_fields.proofs.EachLaws.{read_none, read_more}
use Rattle.pic_header.specs.HeaderFields.{drive_at, numbers_at}
use Rattle.pic_header.specs.HeadReads.{TakesWithin}
use Rattle.pic_header.proofs.HeadReadLaws.{read_among, head_starves}
use Rattle.pic_header.proofs.RunLaws.{goes_on_by, runs_drive}
use Rattle.pic_header.proofs.WithinLaws.{within_short, within_among, within_read}
use Rattle.pic_header.proofs.LessLaws.{same_read_stop, was_fed, less_short, less_among}
use Rattle.pic_header.proofs.loop_reader.read_numbers.Goals as goal

pub loop-index-init : goal.loop-index-init
loop-index-init g c =
    rw c.new-numbers.ensures.items (record {
      read = read_up_to (omega arith) (read_none (λ before. drive_at) c.args.place _);
      sizes = All-nil (λ v. IsAtMost v most_drive);
      size = refl;
    })

pub returns-in_err-number-clause-reads : goal.returns-in_err-number-clause-reads
unfolding numbers_at drive_at
returns-in_err-number-clause-reads g c =
    read_among c.args.count c.loop-index.index (λ before. drive_at) c.from_residual.ensures.1 c.loop-index-test.true (omega (arith, c.loop-index-test.true))
    c.loop-index.invariant.read c.in_err-number.ensures.reads

pub returns-in_err-push-clause-reads : goal.returns-in_err-push-clause-reads
returns-in_err-push-clause-reads g c =
    head_starves _ c.from_residual-in_err-push.ensures.1 (c.in_ok-number.ensures.reads.answer.calm ∙ c.loop-index.invariant.read.calm)
    (moves_up (omega (arith, c.loop-index-test.true)) (moves_then c.loop-index.invariant.read.moves c.in_ok-number.ensures.reads.answer.moves))

pub loop-index-preserved : goal.loop-index-preserved
unfolding drive_at
loop-index-preserved g c =
    let so_far = c.loop-index.invariant in
    let fits : SFits w64 c.in_ok-number.number = search rules in
    rw (c.in_ok-push.ensures.items, to_z-of_z w64 c.in_ok-number.number fits) (record {
      read = read_up_to (omega arith) (read_more c.loop-index.index (λ before. drive_at) so_far.read c.in_ok-number.ensures.reads.answer);
      sizes = All-push (λ v. IsAtMost v most_drive) _ _ so_far.sizes (record { size = c.in_ok-number.ensures.most });
      size = length-append _ _ ∙ ap (λ n. n + 1) so_far.size;
    })

pub returns-clause-reads : goal.returns-clause-reads
unfolding numbers_at
returns-clause-reads g c =
    let so_far = c.loop-index.invariant in
    let all : c.loop-index.index ≡ c.args.count = omega (arith, c.loop-index-test.false, c.loop-index.auto.index-end) in
    let before = g.S.Source.told c.args.source.now in
    let now = g.S.Source.told c.loop-index.source in
    let numbers = c.loop-index.numbers.items in
    record {
      answer = read_up_to (omega (arith, so_far.size)) (subst (λ n. HasRead (each n (λ before. drive_at)) c.args.place before numbers
          (c.args.place + 8 * c.loop-index.index) now) all so_far.read);
    }

pub returns-in_err-number-clause-within : goal.returns-in_err-number-clause-within
unfolding numbers_at drive_at
returns-in_err-number-clause-within g c =
    within_among c.args.count c.loop-index.index (λ before. drive_at) (λ before. goes_on_by 8 runs_drive) c.loop-index-test.true c.loop-index.invariant.read
    (within_short 8 runs_drive (omega arith) c.in_err-number.ensures.reads.answer.moves)

pub returns-in_err-push-clause-within : goal.returns-in_err-push-clause-within
unfolding numbers_at drive_at
returns-in_err-push-clause-within g c =
    within_among c.args.count c.loop-index.index (λ before. drive_at) (λ before. goes_on_by 8 runs_drive) c.loop-index-test.true c.loop-index.invariant.read
    (within_read c.in_ok-number.ensures.reads.answer)

pub returns-clause-within : goal.returns-clause-within
unfolding numbers_at
returns-clause-within g c =
    let so_far = c.loop-index.invariant in
    let all : c.loop-index.index ≡ c.args.count = omega (arith, c.loop-index-test.false, c.loop-index.auto.index-end) in
    let before = g.S.Source.told c.args.source.now in
    let now = g.S.Source.told c.loop-index.source in
    subst (λ n. TakesWithin (each n (λ before. drive_at)) c.args.place before now) all (within_read so_far.read)

pub returns-in_err-number-clause-less : goal.returns-in_err-number-clause-less
unfolding numbers_at drive_at
returns-in_err-number-clause-less g c = λ same.
    less_among c.args.count c.loop-index.index (λ before. drive_at) (λ before. goes_on_by 8 runs_drive) c.loop-index-test.true c.loop-index.invariant.read
    (less_short 8 runs_drive (omega arith) (same_read_stop c.from_residual.ensures.1 same) c.in_err-number.ensures.reads.answer)

pub returns-in_err-push-clause-less : goal.returns-in_err-push-clause-less
returns-in_err-push-clause-less g c = λ same. absurd (was_fed c.from_residual-in_err-push.ensures.1 same)
