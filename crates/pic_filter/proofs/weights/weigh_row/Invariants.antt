use Rattle.std.proofs.Common.{◌+◌}
use Rattle.pic_filter.specs.Kept.{kept_at}
use Rattle.pic_filter.specs.Smoothing.{weighted}
use Rattle.pic_filter.proofs.FillLaws.{IsFilled}
use Rattle.pic_filter.proofs.weights.weigh_row.Given as goal

-- the row so far has sums of three by their weights
abbrev pub invariant-loop-i : goal.invariant-loop-i
invariant-loop-i l = IsFilled (λ k. weighted (kept_at l.kept k).three (kept_at l.kept (k + 1)).three (kept_at l.kept (k + 2)).three) l.i l.to
