-- Gauss's law through a step: what a node's charge loses in the push is the divergence of the current.
use Rattle.std.proofs.Common.{◌≡◌, ◌<◌, List, [], ◌∷◌, Result, Ok, Err, refl, sym, ap, ◌∙◌, arith}
use Rattle.std.proofs.Math.IntN.{ℤ, ◌+ℤ◌, ◌-ℤ◌}
use Rattle.std.specs.Prelude.{All}
use Rattle.std.proofs.lemmas.List.Elements.{All-head, All-tail}
use Rattle.std.proofs.lemmas.Int.{ints}
use Rattle.pic_num.proofs.ProductLaws.{plus_zero, minus_itself}
use Rattle.pic_num.specs.declared.motion.Particle.{Particle}
use Rattle.pic_num.specs.declared.axis.Axis.{Axis}
use Rattle.pic_num.specs.Push.{Shift, Halting}
use Rattle.pic_num.specs.Space.{Triple, triple}
use Rattle.pic_block.specs.Cells.{IsWithin}
use Rattle.pic_grid.specs.Current.{flux_after, current}
use Rattle.pic_grid.specs.Differences.{div_e, curl_b}
use Rattle.pic_grid.specs.Hat.{HasTwo, IsInBox}
use Rattle.pic_grid.specs.PushPhase.{Surroundings, kind_of, push_of, after_push, moved, moved_all, CanShare}
use Rattle.pic_grid.specs.Sums.{sum_over}
use Rattle.pic_grid.proofs.DifferenceLaws.{div_e-curl_b}
use Rattle.pic_filter.proofs.FilteredLaws.{filtered_same, filtered_minus, div_e-filtered}
use Rattle.pic_charge.specs.Charge.{share, charge_of, rho_of}
use Rattle.pic_split.proofs.ContinuityLaws.{continuity_of_move}
use Rattle.pic_split.proofs.ImageLaws.{div_e-zero, div_e-add, div_e-less}
use Rattle.pic_push.proofs.PushLaws.{push_move}
use Rattle.pic_step.specs.SerialStep.{World, around, half_on, current_of}

-- one particle: the divergence of its current is what its share loses
pub div_flux : (w : Surroundings) (particle : Particle) (node : Triple) (r : Result Shift Halting) → push_of w particle ≡ r
    → 0 < w.side → HasTwo w.cells → IsWithin node w.cells → IsInBox w.side w.cells (triple particle.x)
    → div_e w.cells (λ a p. flux_after w.side w.cells w.kinds particle a p r) node
    ≡ share w.side w.cells w.kinds particle node -ℤ share w.side w.cells w.kinds (after_push w.side w.cells particle r) node
unfolding flux_after after_push share moved
div_flux w particle node (Ok s) is above two within inside =
    continuity_of_move w.side w.cells (kind_of w.kinds particle).charge (triple particle.x) s.d node above two within inside (push_move w particle s is)
div_flux w particle node (Err h) is above two within inside =
    div_e-zero w.cells node ∙ minus_itself (share w.side w.cells w.kinds particle node)

-- all particles
pub div_current : (w : Surroundings) (particles : List Particle) (node : Triple) → 0 < w.side → HasTwo w.cells → IsWithin node w.cells
    → All (CanShare w.side w.cells w.kinds) particles
    → div_e w.cells (current w particles) node
    ≡ charge_of w.side w.cells w.kinds particles node -ℤ charge_of w.side w.cells w.kinds (moved_all w particles) node
unfolding current charge_of moved_all sum_over
div_current w [] node above two within inside = div_e-zero w.cells node
div_current w (particle ∷ particles) node above two within inside =
    let first = div_flux w particle node (push_of w particle) refl above two within
    (All-head (CanShare w.side w.cells w.kinds) particle particles inside).place in
    let rest = div_current w particles node above two within (All-tail (CanShare w.side w.cells w.kinds) particle particles inside) in
    div_e-add w.cells (λ a p. flux_after w.side w.cells w.kinds particle a p (push_of w particle)) (current w particles) node
    ∙ (λ i. first i +ℤ rest i)
    ∙ regroup (share w.side w.cells w.kinds particle node) (share w.side w.cells w.kinds (after_push w.side w.cells particle (push_of w particle)) node)
    (charge_of w.side w.cells w.kinds particles node) (charge_of w.side w.cells w.kinds (moved_all w particles) node)
  where
    regroup : (a b c d : ℤ) → (a -ℤ b) +ℤ (c -ℤ d) ≡ (a +ℤ c) -ℤ (b +ℤ d)
    regroup a b c d = omega (arith, ints)

-- that of the filtered current is what the charge loses that E is held against
pub div_current_of : (w : World) (node : Triple) → 0 < w.side → HasTwo w.cells → IsWithin node w.cells
    → All (CanShare w.side w.cells w.kinds) w.particles
    → div_e w.cells (current_of (half_on w)) node
    ≡ rho_of w.side w.filter w.cells w.kinds w.particles node
    -ℤ rho_of w.side w.filter w.cells w.kinds (moved_all (around (half_on w)) w.particles) node
unfolding rho_of
div_current_of w node above two within inside =
    let h = around (half_on w) in
    let before = charge_of w.side w.cells w.kinds w.particles in
    let after = charge_of w.side w.cells w.kinds (moved_all h w.particles) in
    div_e-filtered w.filter w.cells (current h w.particles) node
    ∙ filtered_same w.filter w.cells (div_e w.cells (current h w.particles)) (λ q. before q -ℤ after q)
    (λ q inner. div_current h w.particles q above two inner inside) node within
    ∙ filtered_minus w.filter w.cells before after node

-- E and the curl of a field, less a current: the divergence falls by that of the current
pub div_full : (n : Triple) (e b j : Axis → Triple → ℤ) (node : Triple)
    → div_e n (λ a p. e a p +ℤ curl_b n b a p -ℤ j a p) node ≡ div_e n e node -ℤ div_e n j node
div_full n e b j node =
    div_e-less n (λ a p. e a p +ℤ curl_b n b a p) j node
    ∙ ap (λ (t : ℤ). t -ℤ div_e n j node)
    (div_e-add n e (curl_b n b) node ∙ ap (λ (t : ℤ). div_e n e node +ℤ t) (div_e-curl_b n b node) ∙ sym (plus_zero (div_e n e node)))
