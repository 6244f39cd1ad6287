use Rattle.std.proofs.Common.{pos, slice_index_or, ap, sym, Ok, rules}
use Rattle.std.proofs.lemmas.Int.{to_z-of_z}
use mir.Syntax.{w64}
use mir.Val.{SFits}
use Rattle.pic_walk.specs.Walk.{multiplier}
use Rattle.pic_walk.proofs.WalkLaws.{goes_on, exits}
use Rattle.pic_walk.proofs.numbers.read_multiplier.Goals as goal

pub returns-in_err-numbers : goal.returns-in_err-numbers
unfolding multiplier
returns-in_err-numbers c = exits _ _ c.from_residual.ensures.1 (rw c.multiplier_limits.ensures at c.in_err-numbers.ensures.walks)

pub returns : goal.returns
unfolding multiplier
returns c =
    let n : SFits w64 (slice_index_or c.in_ok-numbers.numbers 0 (pos 0)) = search rules in
    let k : SFits w64 (slice_index_or c.in_ok-numbers.numbers 1 (pos 0)) = search rules in
    goes_on _ _ _ (rw c.multiplier_limits.ensures at c.in_ok-numbers.ensures.walks.answer)
    (record { answer = ap Ok (sym (rw (to_z-of_z w64 _ n, to_z-of_z w64 _ k) at c.multiplier_of.ensures)) })
