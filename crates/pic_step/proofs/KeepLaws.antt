-- The divergence of B through a step: a curl of E has none.
use Rattle.std.proofs.Common.{◌≡◌, ◌+◌, refl, ap, ◌∙◌, arith}
use Rattle.std.proofs.Math.IntN.{ℤ, pos, ◌+ℤ◌, ◌-ℤ◌}
use Rattle.std.proofs.lemmas.Int.{ints}
use Rattle.std.proofs.lemmas.Nat.{mod_below}
use Rattle.pic_num.specs.declared.axis.Axis.{Axis}
use Rattle.pic_num.specs.declared.axis.Axis.TheVariants.{X, Y, Z}
use Rattle.pic_num.specs.Rounding.{scaled}
use Rattle.pic_num.specs.Space.{Triple}
use Rattle.pic_block.specs.Cells.{IsWithin}
use Rattle.pic_grid.specs.Differences.{up, curl_e, div_b}
use Rattle.pic_grid.specs.Lattice.{value_at}
use Rattle.pic_grid.specs.Parts.{one_part}
use Rattle.pic_grid.proofs.DifferenceLaws.{div_b-curl_e}
use Rattle.pic_grid.proofs.LatticeLaws.{value_at-field_of}
use Rattle.pic_field.specs.FieldPhases.{half_of}
use Rattle.pic_step.specs.Keeps.{Keeps}
use Rattle.pic_step.specs.SerialStep.{World, e_of, b_of, half_at, half_on, push_on, next_world}
use Rattle.pic_step.specs.Sound.{IsSound}
use Rattle.pic_step.proofs.SoundLaws.{gauss_kept}

-- the next cell up is one of the grid's
up_within : (n : Triple) (a : Axis) (p : Triple) → IsWithin p n → IsWithin (up n a p) n
up_within n X p h = record { x = mod_below (p.x + 1) n.x (omega (arith, h.x)); y = h.y; z = h.z }
up_within n Y p h = record { x = h.x; y = mod_below (p.y + 1) n.y (omega (arith, h.y)); z = h.z }
up_within n Z p h = record { x = h.x; y = h.y; z = mod_below (p.z + 1) n.z (omega (arith, h.z)) }

-- fields that agree at every cell of the grid have one divergence in its cells
div_b_same : (n : Triple) (e f : Axis → Triple → ℤ) (p : Triple) → IsWithin p n
    → ((a : Axis) (q : Triple) → IsWithin q n → e a q ≡ f a q) → div_b n e p ≡ div_b n f p
div_b_same n e f p h same =
    let here : (a : Axis) → e a p ≡ f a p = λ a. same a p h in
    let above : (a : Axis) → e a (up n a p) ≡ f a (up n a p) = λ a. same a (up n a p) (up_within n a p h) in
    λ t. above X t -ℤ here X t +ℤ above Y t -ℤ here Y t +ℤ above Z t -ℤ here Z t

div_b-less : (n : Triple) (e f : Axis → Triple → ℤ) (p : Triple) → div_b n (λ a q. e a q -ℤ f a q) p ≡ div_b n e p -ℤ div_b n f p
div_b-less n e f p = omega (arith, ints)

-- half a step of B
half_keeps : (w : World) (p : Triple) → IsWithin p w.cells → div_b w.cells (value_at (b_of (half_on w))) p ≡ div_b w.cells (value_at (b_of w)) p
unfolding half_of
half_keeps w p within =
    let n = w.cells in
    let curl : Axis → Triple → ℤ = curl_e n (λ c q. scaled (value_at (e_of w) c q) w.scales.e_to_b) in
    div_b_same n (value_at (b_of (half_on w))) (λ a q. value_at (b_of w) a q -ℤ curl a q) p within
    (λ a q inside. value_at-field_of w.side n one_part (half_at w) a q inside)
    ∙ div_b-less n (value_at (b_of w)) curl p
    ∙ ap (λ (k : ℤ). div_b n (value_at (b_of w)) p -ℤ k) (div_b-curl_e n (λ c q. scaled (value_at (e_of w) c q) w.scales.e_to_b) p)
    ∙ none (div_b n (value_at (b_of w)) p)
  where
    none : (k : ℤ) → k -ℤ pos 0 ≡ k
    none k = omega (arith, ints)

pub step_keeps : (w : World) → IsSound w → Keeps w (next_world w)
unfolding next_world
step_keeps w sound = record {
  step = refl;
  side = refl;
  cells = refl;
  filter = refl;
  loops = refl;
  scales = refl;
  kinds = refl;
  gauss = gauss_kept w w.step sound;
  magnetic = λ p within. half_keeps (push_on (half_on w)) p within ∙ half_keeps w p within;
}
