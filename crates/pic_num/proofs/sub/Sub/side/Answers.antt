use Rattle.std.proofs.Common.{ℕ, ◌≤◌, subst}
use Rattle.std.proofs.Math.Pow.{pow_mono}
use Rattle.pic_num.proofs.sub.Sub.side.Goals as goal

pub returns-clause-least : goal.returns-clause-least
returns-clause-least c = subst (λ (s : ℕ). 256 ≤ s) c.self.view_is (pow_mono c.self.invariant.0)

pub returns-clause-most : goal.returns-clause-most
returns-clause-most c = subst (λ (s : ℕ). s ≤ 16384) c.self.view_is (pow_mono c.self.invariant.1)
