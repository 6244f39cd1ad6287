use Rattle.std.proofs.Common.{Err, ◌≡◌, ◌+◌, refl, ap, ◌∙◌, subst, arith, length-append}
use Rattle.std.proofs.lemmas.List.Elements.{All-nil, All-push}
use Rattle.std.proofs.lemmas.List.Sums.{sum_by_push}
use Rattle.pic_grid.specs.Loops.{IsLoop}
use Rattle.pic_fields.specs.Parser.{each}
use Rattle.pic_fields.specs.Reads.{HasRead}
use Rattle.pic_fields.proofs.ReadLaws.{moves_then, moves_up, read_up_to}
use Rattle.pic_fields.proofs.EachLaws.{read_none, read_more}
use Rattle.pic_header.specs.HeaderFields.{loop_at, loops_at, loop_length}
use Rattle.pic_header.specs.HeadReads.{TakesWithin}
use Rattle.pic_header.proofs.HeadReadLaws.{head_among, head_starves}
use Rattle.pic_header.proofs.RunLaws.{goes_loop}
use Rattle.pic_header.proofs.WithinLaws.{within_among, within_read}
use Rattle.pic_header.proofs.LessLaws.{same_head_stop, was_fed, less_among}
use Rattle.pic_header.proofs.loop_reader.read_loops.Goals as goal

pub loop-index-init : goal.loop-index-init
loop-index-init g c =
    rw c.new-loops.ensures.items (record {
      read = read_none (λ before. loop_at c.args.cells.n) c.args.place _;
      here = omega arith;
      most = omega arith;
      limits = All-nil (IsLoop c.args.cells.n);
      size = refl;
    })

pub returns-in_err-one-clause-reads : goal.returns-in_err-one-clause-reads
unfolding loops_at
returns-in_err-one-clause-reads g c =
    let so_far = c.loop-index.invariant in
    head_among c.args.count c.loop-index._index (λ before. loop_at c.args.cells.n) c.from_residual.ensures.1 c.loop-index-test.true
    (omega (arith, c.loop-index-test.true, so_far.here, so_far.most)) so_far.read c.in_err-one.ensures.reads

pub returns-in_err-push-clause-reads : goal.returns-in_err-push-clause-reads
returns-in_err-push-clause-reads g c =
    let so_far = c.loop-index.invariant in
    head_starves _ c.from_residual-in_err-push.ensures.1 (c.in_ok-one.ensures.reads.answer.calm ∙ so_far.read.calm)
    (moves_up (omega (arith, c.loop-index-test.true, so_far.here, so_far.most, c.in_ok-one.ensures.limits.most))
    (moves_then so_far.read.moves c.in_ok-one.ensures.reads.answer.moves))

pub loop-index-preserved : goal.loop-index-preserved
loop-index-preserved g c =
    let so_far = c.loop-index.invariant in
    let here = so_far.here in
    let most = so_far.most in
    let all = sum_by_push loop_length c.loop-index.loops.items c.in_ok-one.one in
    let few = c.in_ok-one.ensures.limits.most in
    let size = c.loop_length-at.ensures.value in
    rw c.in_ok-push.ensures.items (record {
      read = read_up_to (omega (arith, size)) (read_more c.loop-index._index (λ before. loop_at c.args.cells.n) so_far.read c.in_ok-one.ensures.reads.answer);
      here = omega (arith, here, all, size);
      most = omega (arith, most, all, few);
      limits = All-push (IsLoop c.args.cells.n) _ _ so_far.limits c.in_ok-one.ensures.limits;
      size = length-append _ _ ∙ ap (λ n. n + 1) so_far.size;
    })

pub returns-clause-reads : goal.returns-clause-reads
unfolding loops_at
returns-clause-reads g c =
    let so_far = c.loop-index.invariant in
    let all : c.loop-index._index ≡ c.args.count = omega (arith, c.loop-index-test.false, c.loop-index.auto._index-end) in
    let before = g.S.Source.told c.args.source.now in
    let now = g.S.Source.told c.loop-index.source in
    let loops = c.loop-index.loops.items in
    record {
      answer = read_up_to so_far.here (subst (λ n. HasRead (each n (λ before. loop_at c.args.cells.n)) c.args.place before loops c.loop-index.at now) all
          so_far.read);
    }

pub returns-in_err-one-clause-within : goal.returns-in_err-one-clause-within
unfolding loops_at
returns-in_err-one-clause-within g c =
    within_among c.args.count c.loop-index._index (λ before. loop_at c.args.cells.n) (λ before. goes_loop c.args.cells.n) c.loop-index-test.true
    c.loop-index.invariant.read c.in_err-one.ensures.within

pub returns-in_err-push-clause-within : goal.returns-in_err-push-clause-within
unfolding loops_at
returns-in_err-push-clause-within g c =
    within_among c.args.count c.loop-index._index (λ before. loop_at c.args.cells.n) (λ before. goes_loop c.args.cells.n) c.loop-index-test.true
    c.loop-index.invariant.read c.in_ok-one.ensures.within

pub returns-clause-within : goal.returns-clause-within
unfolding loops_at
returns-clause-within g c =
    let so_far = c.loop-index.invariant in
    let all : c.loop-index._index ≡ c.args.count = omega (arith, c.loop-index-test.false, c.loop-index.auto._index-end) in
    let before = g.S.Source.told c.args.source.now in
    let now = g.S.Source.told c.loop-index.source in
    subst (λ n. TakesWithin (each n (λ before. loop_at c.args.cells.n)) c.args.place before now) all (within_read so_far.read)

pub returns-in_err-one-clause-less : goal.returns-in_err-one-clause-less
unfolding loops_at
returns-in_err-one-clause-less g c = λ same.
    less_among c.args.count c.loop-index._index (λ before. loop_at c.args.cells.n) (λ before. goes_loop c.args.cells.n) c.loop-index-test.true
    c.loop-index.invariant.read (c.in_err-one.ensures.less (ap Err (same_head_stop c.from_residual.ensures.1 same)))

pub returns-in_err-push-clause-less : goal.returns-in_err-push-clause-less
returns-in_err-push-clause-less g c = λ same. absurd (was_fed c.from_residual-in_err-push.ensures.1 same)

pub read_loop-requires : goal.read_loop-requires
read_loop-requires g c =
    let so_far = c.loop-index.invariant in
    omega (arith, so_far.here, so_far.most, c.loop-index-test.true, c.requires.few, c.requires.place)

pub overflow_add-at : goal.overflow_add-at
overflow_add-at g c =
    let so_far = c.loop-index.invariant in
    omega (arith, so_far.here, so_far.most, c.loop-index-test.true, c.requires.few, c.requires.place, c.loop_length-at.ensures.most)

pub returns-clause-limits : goal.returns-clause-limits
returns-clause-limits g c = c.loop-index.invariant.limits

pub returns-clause-count : goal.returns-clause-count
returns-clause-count g c = omega (arith, c.loop-index.invariant.size, c.loop-index-test.false, c.loop-index.auto._index-end)
