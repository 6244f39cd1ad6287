use Rattle.pic_header.specs.HeaderFields.{head_at, heads_at}
use Rattle.pic_header.proofs.HeadReadLaws.{head_goes_on, head_exits, head_up}
use Rattle.std.proofs.Common.{arith}
use Rattle.pic_header.proofs.RunLaws.{goes_on_by, goes_each, runs_within, runs_head}
use Rattle.pic_header.proofs.WithinLaws.{within_short, within_first, within_then}
use Rattle.pic_header.proofs.LessLaws.{same_read_stop, less_short, less_first, less_then}
use Rattle.pic_header.proofs.head_reader.read_heads.Goals as goal

pub returns-in_err-count-clause-reads : goal.returns-in_err-count-clause-reads
unfolding heads_at
returns-in_err-count-clause-reads g c = head_exits _ (omega arith) c.from_residual.ensures.1 c.in_err-count.ensures.reads

pub returns-clause-reads : goal.returns-clause-reads
unfolding heads_at
returns-clause-reads g c =
    head_goes_on _ c.in_ok-count.ensures.reads.answer (head_up (omega (arith, c.in_ok-count.ensures.high)) c.read_each_head.ensures.reads)

pub returns-in_err-count-clause-within : goal.returns-in_err-count-clause-within
unfolding heads_at
returns-in_err-count-clause-within g c =
    within_first _ (λ count. goes_each (head_at c.args.most) count (λ hs. goes_on_by 60 (runs_head c.args.most hs)))
    (within_short 4 (runs_within _ _ _) (omega arith) c.in_err-count.ensures.reads.answer.moves)

pub returns-clause-within : goal.returns-clause-within
unfolding heads_at
returns-clause-within g c = within_then _ c.in_ok-count.ensures.reads.answer c.read_each_head.ensures.within

pub returns-in_err-count-clause-less : goal.returns-in_err-count-clause-less
unfolding heads_at
returns-in_err-count-clause-less g c = λ same.
    less_first _ (λ count. goes_each (head_at c.args.most) count (λ hs. goes_on_by 60 (runs_head c.args.most hs)))
    (less_short 4 (runs_within _ _ _) (omega arith) (same_read_stop c.from_residual.ensures.1 same) c.in_err-count.ensures.reads.answer)

pub returns-clause-less : goal.returns-clause-less
unfolding heads_at
returns-clause-less g c = λ same. less_then _ c.in_ok-count.ensures.reads.answer (c.read_each_head.ensures.less same)
