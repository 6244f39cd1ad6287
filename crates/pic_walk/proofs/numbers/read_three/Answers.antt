use Rattle.std.proofs.Common.{◌≡◌, pos, slice_index_or, length, ap, sym, Ok, rules}
use Rattle.std.proofs.lemmas.Int.{to_z-of_z}
use mir.Syntax.{w64}
use mir.Val.{SFits}
use Rattle.pic_walk.specs.Walk.{three}
use Rattle.pic_walk.proofs.ArrayLaws.{three_items}
use Rattle.pic_walk.proofs.WalkLaws.{goes_on, exits}
use Rattle.pic_walk.proofs.numbers.read_three.Goals as goal

pub returns-in_err-numbers-clause-walks : goal.returns-in_err-numbers-clause-walks
unfolding three
returns-in_err-numbers-clause-walks c = exits _ _ c.from_residual.ensures.1 c.in_err-numbers.ensures.walks

pub returns-clause-walks : goal.returns-clause-walks
unfolding three
returns-clause-walks c =
    let size : length c.in_ok-numbers.numbers ≡ 3 = search rules in
    let x : SFits w64 (slice_index_or c.in_ok-numbers.numbers 0 (pos 0)) = search rules in
    let y : SFits w64 (slice_index_or c.in_ok-numbers.numbers 1 (pos 0)) = search rules in
    let z : SFits w64 (slice_index_or c.in_ok-numbers.numbers 2 (pos 0)) = search rules in
    goes_on _ _ _ c.in_ok-numbers.ensures.walks.answer
    (record { answer = rw (to_z-of_z w64 _ x, to_z-of_z w64 _ y, to_z-of_z w64 _ z) (ap Ok (sym (three_items _ size))) })
