use Rattle.std.proofs.Common.{ℕ, subst, sym, ◌∙◌}
use Rattle.pic_num.specs.Space.{Spot, AreAtMost}
use Rattle.pic_num.specs.Velocity.{IsKeptVelocity}
use Rattle.pic_boris.specs.Vector.{spot_of}
use Rattle.pic_boris.proofs.MoveLaws.{kept_velocity, kept_sizes}
use Rattle.pic_boris.proofs.pushing.arrived.Goals as goal
use Rattle.pic_boris.proofs.pushing.arrived.Goals.{In_ok-halt_above}

-- the move is at most a side
near : (c : In_ok-halt_above) → AreAtMost (spot_of c.move_of-d.result) c.args.sub
near c = subst (λ (n : ℕ). AreAtMost (spot_of c.move_of-d.result) n) (c.from.ensures ∙ c.side-side.ensures.value) c.in_ok-halt_above.ensures.size

velocity : (c : In_ok-halt_above) → IsKeptVelocity c.args.sub (spot_of c.args.v)
velocity c = kept_velocity c.args.sub (spot_of c.args.v) (subst (λ (p : Spot). AreAtMost p c.args.sub) c.move_of-d.ensures (near c))

pub narrowed-requires : goal.narrowed-requires
narrowed-requires c = kept_sizes c.args.sub (spot_of c.args.v) c.side-side.ensures.most (velocity c)

pub returns-clause-bounds : goal.returns-clause-bounds
returns-clause-bounds c =
    let here = (goal.at.returns-clause-bounds c).In_ok-halt_above in
    record {
      v = subst (IsKeptVelocity c.args.sub) (sym c.narrowed.ensures) (velocity here);
      d = subst (λ (p : Spot). AreAtMost p c.args.sub) (sym c.narrowed-2.ensures) (near here);
    }
