use Rattle.std.proofs.Common.{◌≡◌, ℕ, ◌<◌, ◌+◌, inl, inr, subst, arith}
use Rattle.std.proofs.lemmas.Bool.{cases_lt}
use Rattle.pic_grid.specs.Lattice.{Field}
use Rattle.pic_grid.specs.Parts.{IsWeakLayer}
use Rattle.pic_gather.proofs.weak.is_weak.Goals as goal

-- one layer more
layers_more : (f : Field) (k : ℕ) → ((z : ℕ) → z < k → IsWeakLayer f z) → IsWeakLayer f k → (z : ℕ) → z < k + 1 → IsWeakLayer f z
layers_more f k before here z below = elim (cases_lt z k) [
  | inl under ↦ before z under
  | inr above ↦ (let same : k ≡ z = omega (arith, below, above) in subst (IsWeakLayer f) same here)
]

pub loop-z-preserved : goal.loop-z-preserved
loop-z-preserved c = layers_more c.args.force.now c.loop-z.z c.loop-z.invariant (c.is_weak.ensures c.if-not-is_weak.false)
