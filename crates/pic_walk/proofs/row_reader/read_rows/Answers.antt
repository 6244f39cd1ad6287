use Rattle.std.proofs.Common.{◌≡◌, ◌<◌, ◌^◌, length, Ok, ap, sym, arith, rules}
use Rattle.std.proofs.lemmas.Int.{ints}
use Rattle.pic_walk.specs.Rows.{row_list}
use Rattle.pic_walk.proofs.WalkLaws.{goes_on, exits}
use Rattle.pic_walk.proofs.ListLaws.{counted}
use Rattle.pic_walk.proofs.row_reader.read_rows.Goals as goal

pub returns-in_err-rows-clause-walks : goal.returns-in_err-rows-clause-walks
unfolding row_list
returns-in_err-rows-clause-walks c = exits _ _ c.from_residual.ensures.1 c.in_err-rows.ensures.walks

pub returns-in_err-check_within-clause-walks : goal.returns-in_err-check_within-clause-walks
unfolding row_list
returns-in_err-check_within-clause-walks c =
    let is : c.len.result ≡ length c.in_ok-rows.rows.items = search rules in
    let few : c.len.result < 2 ^ 64 = search rules in
    let size = counted c.len.result _ few is in
    goes_on _ _ _ c.in_ok-rows.ensures.walks.answer
    (exits _ _ c.from_residual-in_err-check_within.ensures.1 (rw (c.new.ensures, size) at c.in_err-check_within.ensures.walks))

pub returns-clause-walks : goal.returns-clause-walks
unfolding row_list
returns-clause-walks c =
    let is : c.len.result ≡ length c.in_ok-rows.rows.items = search rules in
    let few : c.len.result < 2 ^ 64 = search rules in
    let size = counted c.len.result _ few is in
    goes_on _ _ _ c.in_ok-rows.ensures.walks.answer
    (goes_on _ _ _ (rw (c.new.ensures, size) at c.in_ok-check_within.ensures.walks.answer) (record { answer = ap Ok (sym c.from_vec.ensures) }))

pub returns-clause-limits : goal.returns-clause-limits
returns-clause-limits c =
    let is : c.len.result ≡ length c.in_ok-rows.rows.items = search rules in
    let few : c.len.result < 2 ^ 64 = search rules in
    let size = counted c.len.result _ few is in
    let inside = rw (c.new.ensures, size) at c.in_ok-check_within.ensures.bounds in
    rw c.from_vec.ensures (record { few = omega (arith, ints, inside.high); each = c.in_ok-rows.ensures.limits })
