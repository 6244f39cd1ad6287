use Rattle.pic_filter.specs.Runs.{three_at}
use Rattle.pic_filter.proofs.KeptLaws.{TakenTo}
use Rattle.pic_filter.proofs.kept.take_run.Given as goal

-- what three runs make is taken in so far
abbrev pub invariant-loop-i : goal.invariant-loop-i
invariant-loop-i l = TakenTo (three_at l.three) l.i l.initial.kept l.kept
