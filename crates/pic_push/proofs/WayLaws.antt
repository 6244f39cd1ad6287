-- The direction in which a push leads a particle leads to the tile of its new place.
use Rattle.std.proofs.Common.{◌≡◌, ℕ, Ok, subst}
use Rattle.pic_num.specs.declared.motion.Particle.{Particle}
use Rattle.pic_num.specs.Push.{Shift}
use Rattle.pic_num.specs.Space.{AreAtMost}
use Rattle.pic_grid.specs.PushPhase.{Surroundings, push_of}
use Rattle.pic_tile.specs.Leaving.{WayLeads}
use Rattle.pic_tile.specs.Tiling.{Tiling}
use Rattle.pic_tile.proofs.LeavingLaws.{way_leads}
use Rattle.pic_push.proofs.PushLaws.{push_move}

-- a push that doesn't halt moves by at most a side
most_moved : (w : Surroundings) (m : Tiling) (x : Particle) (s : Shift) → w.side ≡ m.side → push_of w x ≡ Ok s → AreAtMost s.d m.side
most_moved w m x s side is = subst (λ (n : ℕ). AreAtMost s.d n) side (push_move w x s is)

pub leads : WayLeads
leads w m x side cells some thick inside = way_leads w m x side cells some thick inside (λ s is. most_moved w m x s side is)
