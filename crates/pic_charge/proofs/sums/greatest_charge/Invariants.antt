use Rattle.std.proofs.Common.{ℕ, ◌<◌, get_or}
use Rattle.pic_num.specs.Sizes.{IsAtMost}
use Rattle.pic_num.specs.declared.motion.Kind.{Kind}
use Rattle.pic_charge.proofs.sums.greatest_charge.Given as goal

-- the charges so far are at most this
abbrev pub invariant-loop-kind : goal.invariant-loop-kind
invariant-loop-kind l = (j : ℕ) (d : Kind) → j < l.kind-index → IsAtMost (get_or l.kinds j d).charge l.greatest
