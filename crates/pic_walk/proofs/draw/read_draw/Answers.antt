use Rattle.std.proofs.Common.{refl, arith}
use Rattle.std.proofs.lemmas.Int.{ints}
use Rattle.pic_walk.specs.Bounds.{fastest_drift, widest_spread}
use Rattle.pic_walk.specs.Draw.{draw}
use Rattle.pic_walk.proofs.FillLaws.{along_most, at_most, three_fit, signed_fit}
use Rattle.pic_walk.proofs.WalkLaws.{goes_on, exits}
use Rattle.pic_walk.proofs.draw.read_draw.Goals as goal

pub returns-in_err-seed-clause-walks : goal.returns-in_err-seed-clause-walks
unfolding draw
returns-in_err-seed-clause-walks c =
    exits _ _ c.from_residual.ensures.1 (rw c.seed_limits.ensures at c.in_err-seed.ensures.walks)

pub returns-in_err-stream-clause-walks : goal.returns-in_err-stream-clause-walks
unfolding draw
returns-in_err-stream-clause-walks c =
    goes_on _ _ _ (rw c.seed_limits.ensures at c.in_ok-seed.ensures.walks.answer)
    (exits _ _ c.from_residual-in_err-stream.ensures.1 (rw c.seed_limits-2.ensures at c.in_err-stream.ensures.walks))

pub returns-in_err-drift-clause-walks : goal.returns-in_err-drift-clause-walks
unfolding draw
returns-in_err-drift-clause-walks c =
    goes_on _ _ _ (rw c.seed_limits.ensures at c.in_ok-seed.ensures.walks.answer)
    (goes_on _ _ _ (rw c.seed_limits-2.ensures at c.in_ok-stream.ensures.walks.answer)
    (exits _ _ c.from_residual-in_err-drift.ensures.1 (rw c.drift_limits.ensures.value at c.in_err-drift.ensures.walks)))

pub returns-in_err-spread-clause-walks : goal.returns-in_err-spread-clause-walks
unfolding draw
returns-in_err-spread-clause-walks c =
    goes_on _ _ _ (rw c.seed_limits.ensures at c.in_ok-seed.ensures.walks.answer)
    (goes_on _ _ _ (rw c.seed_limits-2.ensures at c.in_ok-stream.ensures.walks.answer)
    (goes_on _ _ _ (rw c.drift_limits.ensures.value at c.in_ok-drift.ensures.walks.answer)
    (exits _ _ c.from_residual-in_err-spread.ensures.1 (rw c.spread_limits.ensures.value at c.in_err-spread.ensures.walks))))

pub returns-clause-walks : goal.returns-clause-walks
unfolding draw
returns-clause-walks c =
    goes_on _ _ _ (rw c.seed_limits.ensures at c.in_ok-seed.ensures.walks.answer)
    (goes_on _ _ _ (rw c.seed_limits-2.ensures at c.in_ok-stream.ensures.walks.answer)
    (goes_on _ _ _ (rw c.drift_limits.ensures.value at c.in_ok-drift.ensures.walks.answer)
    (goes_on _ _ _ (rw c.spread_limits.ensures.value at c.in_ok-spread.ensures.walks.answer)
    (record { answer = refl }))))

pub need_signed_three-requires : goal.need_signed_three-requires
need_signed_three-requires c = rw c.drift_limits.ensures.value (signed_fit (fastest_drift c.args.cells.side) (omega (arith, c.drift_limits.ensures.most)))

pub need_three-requires : goal.need_three-requires
need_three-requires c = rw c.spread_limits.ensures.value (three_fit 0 (widest_spread c.args.cells.side) (omega (arith, c.spread_limits.ensures.most)))

pub returns-clause-limits : goal.returns-clause-limits
returns-clause-limits c =
    let seed = rw c.seed_limits.ensures at c.in_ok-seed.ensures.bounds in
    let stream = rw c.seed_limits-2.ensures at c.in_ok-stream.ensures.bounds in
    record {
      seed = omega (arith, ints, seed.high);
      stream = omega (arith, ints, stream.high);
      drift = along_most (fastest_drift c.args.cells.side) _ (rw c.drift_limits.ensures.value at c.in_ok-drift.ensures.bounds);
      spread = at_most 0 (widest_spread c.args.cells.side) _ (rw c.spread_limits.ensures.value at c.in_ok-spread.ensures.bounds);
    }
