use Rattle.std.proofs.Common.{refl, arith}
use Rattle.pic_num.specs.Limits.{allowance_of}
use Rattle.pic_num.proofs.VersionLaws.{within_scheme}
use Rattle.pic_walk.specs.Bounds.{fastest, widest_gap}
use Rattle.pic_walk.specs.Sites.{sites}
use Rattle.pic_walk.proofs.FillLaws.{along_most, at_most, at_least, three_fit, signed_fit, places_fit, place_in}
use Rattle.pic_walk.proofs.WalkLaws.{goes_on, exits}
use Rattle.pic_walk.proofs.sites.read_sites.Goals as goal

pub returns-in_err-first-clause-walks : goal.returns-in_err-first-clause-walks
unfolding sites
returns-in_err-first-clause-walks c =
    exits _ _ c.from_residual.ensures.1 (rw c.place_limits.ensures.value at c.in_err-first.ensures.walks)

pub returns-in_err-gap-clause-walks : goal.returns-in_err-gap-clause-walks
unfolding sites
returns-in_err-gap-clause-walks c =
    goes_on _ _ _ (rw c.place_limits.ensures.value at c.in_ok-first.ensures.walks.answer)
    (exits _ _ c.from_residual-in_err-gap.ensures.1 (rw c.gap_limits.ensures.value at c.in_err-gap.ensures.walks))

pub returns-in_err-count-clause-walks : goal.returns-in_err-count-clause-walks
unfolding sites
returns-in_err-count-clause-walks c =
    goes_on _ _ _ (rw c.place_limits.ensures.value at c.in_ok-first.ensures.walks.answer)
    (goes_on _ _ _ (rw c.gap_limits.ensures.value at c.in_ok-gap.ensures.walks.answer)
    (exits _ _ c.from_residual-in_err-count.ensures.1 (rw c.count_limits.ensures at c.in_err-count.ensures.walks)))

pub returns-in_err-v-clause-walks : goal.returns-in_err-v-clause-walks
unfolding sites
returns-in_err-v-clause-walks c =
    goes_on _ _ _ (rw c.place_limits.ensures.value at c.in_ok-first.ensures.walks.answer)
    (goes_on _ _ _ (rw c.gap_limits.ensures.value at c.in_ok-gap.ensures.walks.answer)
    (goes_on _ _ _ (rw c.count_limits.ensures at c.in_ok-count.ensures.walks.answer)
    (exits _ _ c.from_residual-in_err-v.ensures.1 (rw (c.velocity_limits.ensures.value, c.cells.ensures) at c.in_err-v.ensures.walks))))

pub returns-clause-walks : goal.returns-clause-walks
unfolding sites
returns-clause-walks c =
    goes_on _ _ _ (rw c.place_limits.ensures.value at c.in_ok-first.ensures.walks.answer)
    (goes_on _ _ _ (rw c.gap_limits.ensures.value at c.in_ok-gap.ensures.walks.answer)
    (goes_on _ _ _ (rw c.count_limits.ensures at c.in_ok-count.ensures.walks.answer)
    (goes_on _ _ _ (rw (c.velocity_limits.ensures.value, c.cells.ensures) at c.in_ok-v.ensures.walks.answer)
    (record { answer = refl }))))

pub need_three-requires : goal.need_three-requires
need_three-requires c =
    rw c.place_limits.ensures.value (places_fit c.args.terms.grid c.place_limits.ensures.extent)

pub need_three-requires-2 : goal.need_three-requires-2
need_three-requires-2 c = rw c.gap_limits.ensures.value
    (three_fit 0 (widest_gap c.args.terms.version c.args.terms.grid.side) (omega (arith, c.gap_limits.ensures.most)))

pub need_three-requires-3 : goal.need_three-requires-3
need_three-requires-3 c = rw c.count_limits.ensures
    (three_fit 1 (allowance_of c.args.terms.version).particles (omega (arith, (within_scheme c.args.terms.version).particles)))

pub need_signed_three-requires : goal.need_signed_three-requires
need_signed_three-requires c =
    let most = rw c.cells.ensures at c.velocity_limits.ensures.most in
    rw (c.velocity_limits.ensures.value, c.cells.ensures) (signed_fit (fastest c.args.terms.grid.side) (omega (arith, most)))

pub returns-clause-limits : goal.returns-clause-limits
returns-clause-limits c =
    let terms = c.args.terms in
    let count = rw c.count_limits.ensures at c.in_ok-count.ensures.bounds in
    record {
      first = place_in terms.grid _ c.place_limits.ensures.extent (rw c.place_limits.ensures.value at c.in_ok-first.ensures.bounds);
      gap = at_most 0 (widest_gap terms.version terms.grid.side) _ (rw c.gap_limits.ensures.value at c.in_ok-gap.ensures.bounds);
      some = at_least 1 (allowance_of terms.version).particles _ count;
      few = at_most 1 (allowance_of terms.version).particles _ count;
      speed = along_most (fastest terms.grid.side) _ (rw (c.velocity_limits.ensures.value, c.cells.ensures) at c.in_ok-v.ensures.bounds);
    }
