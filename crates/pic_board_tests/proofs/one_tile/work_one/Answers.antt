use Rattle.std.proofs.Common.{ℕ, sym, subst}
use Rattle.pic_yard.specs.Yards.{opening_of, view_of}
use Rattle.pic_crew.specs.Posting.{OwesAll}
use Rattle.pic_crew.proofs.SendLaws.{owes_claim}
use Rattle.pic_board_tests.proofs.one_tile.work_one.Goals as goal

pub send_all-posts-requires-clause-owes : goal.send_all-posts-requires-clause-owes
send_all-posts-requires-clause-owes c =
    let o = opening_of c.args.yard.now in
    let has = c.in_ok-claim.ensures.drawn in
    subst (λ (k : ℕ). OwesAll o k (view_of c.claim.new.seat)) (sym c.work.ensures.number)
    (owes_claim o c.in_ok-claim.claim.number (view_of c.args.seat.now) (view_of c.claim.new.seat) has.claim_is.tile c.requires.idle has.view)
