use Rattle.std.proofs.Common.{ℕ, pos, Ok, refl, ap, subst, sym, ◌∙◌}
use Rattle.std.specs.Prelude.{is_ok}
use Rattle.pic_num.specs.Push.{each}
use Rattle.pic_num.specs.Rounding.{rounded}
use Rattle.pic_num.specs.Limits.{velocity_unit}
use Rattle.pic_num.specs.Space.{Spot, AreAtMost}
use Rattle.pic_num.specs.Velocity.{IsKeptVelocity}
use Rattle.pic_boris.specs.Narrow.{narrow_spot}
use Rattle.pic_boris.proofs.MoveLaws.{kept_velocity, kept_sizes, near_arrives, arrives_near}
use Rattle.pic_boris.proofs.narrow_pushing.arrive_narrow.Goals as goal
use Rattle.pic_boris.proofs.narrow_pushing.arrive_narrow.Goals.{Else-not-is_small}

-- the move is at most a side
near : (c : Else-not-is_small) → AreAtMost (narrow_spot c.narrow_move-d.result) c.args.sub
near c = subst (λ (n : ℕ). AreAtMost (narrow_spot c.narrow_move-d.result) n) (c.from.ensures ∙ c.side-side.ensures.value) (c.if-not-is_small.ensures.0 refl)

near_move : (c : Else-not-is_small) → AreAtMost (each (λ n. rounded n (pos velocity_unit)) (narrow_spot c.args.v)) c.args.sub
near_move c = subst (λ (p : Spot). AreAtMost p c.args.sub) c.narrow_move-d.ensures (near c)

pub kept-requires : goal.kept-requires
kept-requires c = kept_sizes c.args.sub (narrow_spot c.args.v) c.side-side.ensures.most (kept_velocity c.args.sub (narrow_spot c.args.v) (near_move c))

pub returns-clause-pushed : goal.returns-clause-pushed
returns-clause-pushed c =
    let here = (goal.at.returns-clause-pushed c).Else-not-is_small in
    near_arrives c.args.sub (narrow_spot c.args.v) (near_move here)
    ∙ sym (λ i. Ok (record { v = c.kept.ensures i; d = (c.kept-2.ensures ∙ c.narrow_move-d.ensures) i }))

pub returns-clause-bounds : goal.returns-clause-bounds
returns-clause-bounds c =
    let here = (goal.at.returns-clause-bounds c).Else-not-is_small in
    record {
      v = subst (IsKeptVelocity c.args.sub) (sym c.kept.ensures) (kept_velocity c.args.sub (narrow_spot c.args.v) (near_move here));
      d = subst (λ (p : Spot). AreAtMost p c.args.sub) (sym c.kept-2.ensures) (near here);
    }

pub returns-then-not-is_small-clause-some : goal.returns-then-not-is_small-clause-some
returns-then-not-is_small-clause-some c =
    let side = c.from.ensures ∙ c.side-side.ensures.value in (
      λ none. absurd (cc),
      λ there.
          let small = subst (λ (p : Spot). AreAtMost p c.args.sub) (sym c.narrow_move-d.ensures) (arrives_near c.args.sub (narrow_spot c.args.v) there) in
          absurd (let yes = c.if-not-is_small.ensures.1 (subst (λ (n : ℕ). AreAtMost (narrow_spot c.narrow_move-d.result) n) (sym side) small) in cc),
    )

pub returns-clause-some : goal.returns-clause-some
returns-clause-some c =
    let here = (goal.at.returns-clause-some c).Else-not-is_small in
    (λ some. ap is_ok (near_arrives c.args.sub (narrow_spot c.args.v) (near_move here)), λ there. refl)
