use Rattle.std.proofs.Common.{Err, ◌≡◌, ◌<◌, ◌+◌, ◌*◌, ◌++◌, ◌∷◌, [], length, refl, ap, ◌∙◌, subst, arith}
use Rattle.std.proofs.lemmas.List.{length-append}
use Rattle.std.proofs.lemmas.List.Sums.{sum_by-append}
use Rattle.pic_grid.specs.Species.{HeadView}
use Rattle.pic_fields.specs.Parser.{each}
use Rattle.pic_fields.specs.Reads.{HasRead}
use Rattle.pic_fields.proofs.ReadLaws.{moves_then, moves_up, read_up_to}
use Rattle.pic_fields.proofs.EachLaws.{read_none, read_more}
use Rattle.pic_header.specs.HeaderFields.{particles_of, head_at}
use Rattle.pic_header.proofs.HeadLaws.{heads_none, heads_more}
use Rattle.pic_header.proofs.HeadReadLaws.{head_among, head_starves}
use Rattle.pic_header.proofs.RunLaws.{goes_on_by, runs_head}
use Rattle.pic_header.proofs.WithinLaws.{within_among, within_read}
use Rattle.pic_header.specs.HeadReads.{TakesWithin}
use Rattle.pic_header.proofs.LessLaws.{same_head_stop, was_fed, less_among}
use Rattle.pic_header.proofs.head_reader.read_each_head.Goals as goal

pub loop-index-init : goal.loop-index-init
loop-index-init g c =
    rw c.new-heads.ensures.items (record {
      read = read_up_to (omega arith) (read_none (head_at c.args.most) c.args.place _);
      are = heads_none c.args.most;
      size = refl;
      count = refl;
    })

pub returns-in_err-head-clause-reads : goal.returns-in_err-head-clause-reads
returns-in_err-head-clause-reads g c =
    let stopped = rw c.as_slice.ensures.value at c.in_err-head.ensures.reads in
    head_among c.args.count c.loop-index.index (head_at c.args.most) c.from_residual.ensures.1 c.loop-index-test.true (omega (arith, c.loop-index-test.true))
    c.loop-index.invariant.read stopped

pub returns-in_err-push-clause-reads : goal.returns-in_err-push-clause-reads
returns-in_err-push-clause-reads g c =
    head_starves _ c.from_residual-in_err-push.ensures.1 (c.in_ok-head.ensures.reads.answer.calm ∙ c.loop-index.invariant.read.calm)
    (moves_up (omega (arith, c.loop-index-test.true)) (moves_then c.loop-index.invariant.read.moves c.in_ok-head.ensures.reads.answer.moves))

pub loop-index-preserved : goal.loop-index-preserved
loop-index-preserved g c =
    let so_far = c.loop-index.invariant in
    let few : length c.loop-index.heads.items < 16 = omega (arith, c.requires.few, c.loop-index-test.true, so_far.size) in
    let read = rw c.as_slice.ensures.value at c.in_ok-head.ensures.reads in
    let new = rw c.as_slice.ensures.value at c.in_ok-head.ensures.new in
    let all = sum_by-append (λ (h : HeadView). h.count) c.loop-index.heads.items (c.in_ok-head.head ∷ []) in
    let count : c.loop-index.particles + c.in_ok-head.head.count ≡ particles_of (c.loop-index.heads.items ++ c.in_ok-head.head ∷ []) =
    omega (arith, all, so_far.count) in
    rw c.in_ok-push.ensures.items (record {
      read = read_up_to (omega arith) (read_more c.loop-index.index (head_at c.args.most) so_far.read read.answer);
      are = heads_more _ _ _ so_far.are few new;
      size = length-append _ _ ∙ ap (λ n. n + 1) so_far.size;
      count = ap (λ (h : HeadView). c.loop-index.particles + h.count) c.head.view_is ∙ count;
    })

pub returns-clause-reads : goal.returns-clause-reads
returns-clause-reads g c =
    let so_far = c.loop-index.invariant in
    let all : c.loop-index.index ≡ c.args.count = omega (arith, c.loop-index-test.false, c.loop-index.auto.index-end) in
    let before = g.S.Source.told c.args.source.now in
    let now = g.S.Source.told c.loop-index.source in
    let heads = c.loop-index.heads.items in
    record {
      answer = read_up_to (omega (arith, so_far.size)) (subst (λ n. HasRead (each n (head_at c.args.most)) c.args.place before heads
          (c.args.place + 60 * c.loop-index.index) now) all so_far.read);
    }

pub returns-in_err-head-clause-within : goal.returns-in_err-head-clause-within
returns-in_err-head-clause-within g c =
    let stopped = rw c.as_slice.ensures.value at c.in_err-head.ensures.within in
    within_among c.args.count c.loop-index.index (head_at c.args.most) (λ hs. goes_on_by 60 (runs_head c.args.most hs)) c.loop-index-test.true
    c.loop-index.invariant.read stopped

pub returns-in_err-push-clause-within : goal.returns-in_err-push-clause-within
returns-in_err-push-clause-within g c =
    let read = rw c.as_slice.ensures.value at c.in_ok-head.ensures.within in
    within_among c.args.count c.loop-index.index (head_at c.args.most) (λ hs. goes_on_by 60 (runs_head c.args.most hs)) c.loop-index-test.true
    c.loop-index.invariant.read read

pub returns-clause-within : goal.returns-clause-within
returns-clause-within g c =
    let so_far = c.loop-index.invariant in
    let all : c.loop-index.index ≡ c.args.count = omega (arith, c.loop-index-test.false, c.loop-index.auto.index-end) in
    let before = g.S.Source.told c.args.source.now in
    let now = g.S.Source.told c.loop-index.source in
    subst (λ n. TakesWithin (each n (head_at c.args.most)) c.args.place before now) all (within_read so_far.read)

pub returns-in_err-head-clause-less : goal.returns-in_err-head-clause-less
returns-in_err-head-clause-less g c = λ same.
    (let stopped = rw c.as_slice.ensures.value at c.in_err-head.ensures.less in
    less_among c.args.count c.loop-index.index (head_at c.args.most) (λ hs. goes_on_by 60 (runs_head c.args.most hs)) c.loop-index-test.true
    c.loop-index.invariant.read (stopped (ap Err (same_head_stop c.from_residual.ensures.1 same))))

pub returns-in_err-push-clause-less : goal.returns-in_err-push-clause-less
returns-in_err-push-clause-less g c = λ same. absurd (was_fed c.from_residual-in_err-push.ensures.1 same)
