use Rattle.std.proofs.Common.{ℕ, sym, subst}
use Rattle.pic_yard.specs.Yards.{opening_of, view_of}
use Rattle.pic_crew.specs.Posting.{OwesAll}
use Rattle.pic_crew.proofs.SendLaws.{owes_claim}
use Rattle.pic_crew.proofs.working.work_through.Goals as goal

pub send_all-requires-clause-owes : goal.send_all-requires-clause-owes
send_all-requires-clause-owes g c =
    let o = opening_of c.args.yard.now in
    let v = view_of c.claim.new.seat in
    let n = c.in-Some.claim.number in
    let has = c.in-Some.ensures.drawn in
    subst (λ (k : ℕ). OwesAll o k v) (sym c.work.ensures.number)
    (owes_claim o n (view_of c.loop-claim.seat) v has.claim_is.tile c.loop-claim.invariant.can.idle has.view)
