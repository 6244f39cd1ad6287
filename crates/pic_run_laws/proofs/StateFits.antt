-- What the states of a run have in common with the layout of its dump: the first has it, and each step
-- keeps it.
use Rattle.std.proofs.Common.{◌≡◌, ℕ, ◌+◌, ◌*◌, ◌≤◌, List, length, sum, All, Result, Ok, Err, refl, sym, ◌∙◌, subst}
use Rattle.pic_num.specs.declared.motion.Particle.{Particle}
use Rattle.pic_num.specs.Limits.{most_steps}
use Rattle.pic_num.specs.Push.{Shift, Halting}
use Rattle.pic_num.specs.Space.{Triple}
use Rattle.pic_block.specs.Cells.{count_of}
use Rattle.pic_grid.specs.declared.stop.Stop.{Stop}
use Rattle.pic_grid.specs.PushPhase.{push_of, after_push, moved}
use Rattle.pic_grid.proofs.LatticeLaws.{length-values_of}
use Rattle.pic_push.proofs.PushLaws.{length-moved_all, all_kept}
use Rattle.pic_header.specs.Header.{HeaderView}
use Rattle.pic_record.specs.Layout.{LayoutView, layout_of}
use Rattle.pic_step.specs.SerialStep.{World, around, half_at, full_at, half_on, push_on, current_of, before_electric, next_world, stepped}
use Rattle.pic_step.specs.SerialRun.{after}
use Rattle.pic_step.specs.Sound.{IsSound}
use Rattle.pic_step.proofs.AfterLaws.{after_keeps, after_sound_within}
use Rattle.pic_record.specs.Readable.{IsReadableStop}
use Rattle.pic_states.specs.FrameStates.{frame_in, world_in}
use Rattle.pic_run_laws.proofs.Listed.{IsListed}

-- a state of a dump: the numbers that its header says, as many values and particles, and such particles
pub record IsOfLayout (l : LayoutView) (w : World) : Type 0 where
  pub side : w.side ≡ l.side
  pub cells : w.cells ≡ l.cells
  pub filter : w.filter ≡ l.filter
  pub scales : w.scales ≡ l.scales
  pub kinds : w.kinds ≡ l.kinds
  pub e_count : length w.e ≡ 3 * count_of w.cells
  pub b_count : length w.b ≡ 3 * count_of w.cells
  pub count : length w.particles ≡ sum l.counts
  pub listed : All (IsListed l.counts) w.particles

-- a sound state of a dump
pub record IsGoodState (l : LayoutView) (w : World) : Type 0 where
  pub sound : IsSound w
  pub of : IsOfLayout l w

-- what stops a step of such a state is a stop that its dump can say
abbrev pub StopsFit : LayoutView → Type 0
StopsFit l = (w : World) (stop : Stop) → IsGoodState l w → stepped w ≡ Err stop → IsReadableStop l stop

-- a push leaves three numbers each, and the identity and the species as they were
listed_after : (counts : List ℕ) (side : ℕ) (n : Triple) (particle : Particle) (r : Result Shift Halting) → IsListed counts particle
    → IsListed counts (after_push side n particle r)
unfolding after_push moved
listed_after counts side n particle (Ok s) is = record { axes = refl; speeds = refl; species = is.species }
listed_after counts side n particle (Err h) is = is

-- so a step keeps all
next_of_layout : (l : LayoutView) (w : World) → IsOfLayout l w → IsOfLayout l (next_world w)
unfolding next_world
next_of_layout l w of =
    let h = half_on w in
    record {
      side = of.side;
      cells = of.cells;
      filter = of.filter;
      scales = of.scales;
      kinds = of.kinds;
      e_count = length-values_of w.cells (full_at (current_of h) (before_electric w));
      b_count = length-values_of w.cells (half_at (push_on h));
      count = length-moved_all (around h) w.particles ∙ of.count;
      listed = all_kept (around h) (IsListed l.counts) w.particles
          (λ particle is. listed_after l.counts w.side w.cells particle (push_of (around h) particle) is) of.listed;
    }

-- every state of a run that begins in such a state has them too
pub of_after : (l : LayoutView) (w : World) → IsOfLayout l w → (n : ℕ) (v : World) → after w n ≡ Ok v → IsOfLayout l v
of_after l w of = after_keeps (λ n u. IsOfLayout l u) w of (λ n u v to of'. subst (IsOfLayout l) to.is (next_of_layout l u of'))

-- and each of them is good, up to the greatest number of steps
pub good_after : (l : LayoutView) (w : World) → IsGoodState l w → (n : ℕ) (v : World) → w.step + n ≤ most_steps → after w n ≡ Ok v → IsGoodState l v
good_after l w good n v most reached = record { sound = after_sound_within w good.sound n v most reached; of = of_after l w good.of n v reached }

-- its loops stay
next_loops : (w : World) → (next_world w).loops ≡ w.loops
unfolding next_world
next_loops w = refl

pub loops_after : (w : World) (n : ℕ) (v : World) → after w n ≡ Ok v → v.loops ≡ w.loops
loops_after w = after_keeps (λ n u. u.loops ≡ w.loops) w refl (λ n u v to is. subst (λ (x : World). x.loops ≡ w.loops) to.is (next_loops u ∙ is))

-- such a state stands in its frame, under a header of its loops
pub stands : (h : HeaderView) (w : World) → IsOfLayout (layout_of h) w → w.loops ≡ h.loops → world_in h (frame_in w) ≡ w
stands h w of loops =
    λ i. record w {
      side = sym of.side i;
      cells = sym of.cells i;
      filter = sym of.filter i;
      loops = sym loops i;
      scales = sym of.scales i;
      kinds = sym of.kinds i;
    }
