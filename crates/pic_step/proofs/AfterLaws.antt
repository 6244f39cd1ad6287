-- Where a run stands after so many steps: they add up, each is counted, and a state stays sound.
use Rattle.std.proofs.Common.{◌≡◌, ℕ, zero, suc, ◌+◌, ◌≤◌, None, Result, Ok, Err, refl, sym, ap, ◌∙◌, subst, arith}
use Rattle.pic_num.specs.Limits.{most_steps}
use Rattle.pic_grid.specs.declared.stop.EndMark.{EndMark}
use Rattle.pic_grid.specs.declared.stop.Stop.{Stop}
use Rattle.pic_push.proofs.PushLaws.{unless_ok}
use Rattle.pic_step.specs.SerialRun.{after, step_from, stopped_in, StepsAddUp, StepsAreCounted, EndsStay}
use Rattle.pic_step.specs.SerialStep.{World, next_world, stop_of_step, stepped}
use Rattle.pic_step.specs.Sound.{IsSound}
use Rattle.pic_step.proofs.SoundLaws.{at_step, sound_at, step_sound_at}

plus_none : (m : ℕ) → m + 0 ≡ m
plus_none m = omega arith

plus_one_more : (m n : ℕ) → m + suc n ≡ suc (m + n)
plus_one_more m n = omega arith

pub after_plus : StepsAddUp
unfolding after
after_plus w v m zero reached = ap (after w) (plus_none m) ∙ reached
after_plus w v m (suc n) reached = ap (after w) (plus_one_more m n) ∙ ap step_from (after_plus w v m n reached)

pub after_stays : EndsStay
unfolding after
after_stays w end m zero stopped = ap (after w) (plus_none m) ∙ stopped
after_stays w end m (suc n) stopped = ap (after w) (plus_one_more m n) ∙ ap step_from (after_stays w end m n stopped)

-- a step that isn't stopped
pub record IsStepTo (w v : World) : Type 0 where
  pub none : stop_of_step w ≡ None
  pub is : next_world w ≡ v

pub step_to : (w v : World) → stepped w ≡ Ok v → IsStepTo w v
unfolding stepped
step_to w v steps = let both = unless_ok (stop_of_step w) (next_world w) v steps in record { none = both.0; is = both.1 }

-- what holds of a state, and after each step where it held before, holds after all
pub after_keeps : (P : ℕ → World → Type 0) (w : World) → P 0 w → ((n : ℕ) (u v : World) → IsStepTo u v → P n u → P (suc n) v)
    → (n : ℕ) (v : World) → after w n ≡ Ok v → P n v
unfolding after
after_keeps P w first more zero v reached = let same : w ≡ v = cc in subst (P 0) same first
after_keeps P w first more (suc n) v reached = go (after w n) (λ u is. after_keeps P w first more n u is) reached
  where
    last : (u : World) → P n u → (r : Result World Stop) → stepped u ≡ r → stopped_in (suc u.step) r ≡ Ok v → P (suc n) v
    last u holds (Ok next) is e = let same : next ≡ v = cc in subst (P (suc n)) same (more n u next (step_to u next is) holds)
    last u holds (Err stop) is e = cc

    go : (r : Result World EndMark) → ((u : World) → r ≡ Ok u → P n u) → step_from r ≡ Ok v → P (suc n) v
    go (Ok u) before e = last u (before u refl) (stepped u) refl e
    go (Err end) before e = cc

-- one step counts as one
next_step : (u v : World) → IsStepTo u v → v.step ≡ suc u.step
unfolding next_world
next_step u v to = ap (λ (w : World). w.step) (sym to.is)

pub step_after : StepsAreCounted
step_after w v n = after_keeps (λ k u. u.step ≡ w.step + k) w (sym (plus_none w.step))
    (λ k u next to at. next_step u next to ∙ ap suc at ∙ sym (plus_one_more w.step k)) n v

-- a step from a state that is sound but for its number of steps
next_sound : (k : ℕ) (u v : World) → IsStepTo u v → IsSound (at_step k u) → IsSound (at_step k v)
next_sound k u v to sound = subst (λ (w : World). IsSound (at_step k w)) to.is (step_sound_at u k k sound.reached sound to.none)

-- every state of a run that begins in a sound one is sound, but for the limit of its number of steps,
pub after_sound : (w : World) → IsSound w → (n : ℕ) (v : World) → after w n ≡ Ok v → IsSound (at_step w.step v)
after_sound w sound = after_keeps (λ k u. IsSound (at_step w.step u)) w (sound_at w w.step sound.reached sound) (λ k u v. next_sound w.step u v)

-- and wholly, within that limit
pub after_sound_within : (w : World) → IsSound w → (n : ℕ) (v : World) → w.step + n ≤ most_steps → after w n ≡ Ok v → IsSound v
after_sound_within w sound n v few reached =
    let within : v.step ≤ most_steps = subst (λ (k : ℕ). k ≤ most_steps) (sym (step_after w v n reached)) few in
    sound_at (at_step w.step v) v.step within (after_sound w sound n v reached)
