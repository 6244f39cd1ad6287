-- What room for the charge holds: the charge of the nodes, or its filtered sum.
use Rattle.std.proofs.Common.{◌≡◌, ℕ, ℤ, List, sym, ap, ◌∙◌}
use Rattle.pic_num.specs.declared.motion.Particle.{Particle}
use Rattle.pic_num.specs.declared.motion.Kind.{Kind}
use Rattle.pic_num.specs.Space.{Triple}
use Rattle.pic_block.specs.Cells.{IsWithin}
use Rattle.pic_filter.specs.Smoothing.{smoothed, filtered}
use Rattle.pic_filter.proofs.SameLaws.{smoothed_same}
use Rattle.pic_charge.specs.Charge.{charge_of, rho_of}

-- without a filter
pub plain_charge : (side filter : ℕ) (n : Triple) (kinds : List Kind) (particles : List Particle) (rho : Triple → ℤ) → filter ≡ 0
    → ((p : Triple) → IsWithin p n → rho p ≡ charge_of side n kinds particles p)
    → (p : Triple) → IsWithin p n → rho p ≡ rho_of side filter n kinds particles p
unfolding rho_of filtered
plain_charge side filter n kinds particles rho none charges p within =
    charges p within ∙ sym (ap (λ f. filtered f n (charge_of side n kinds particles) p) none)

-- with the binomial one
pub smooth_charge : (side filter : ℕ) (n : Triple) (kinds : List Kind) (particles : List Particle) (rho smooth : Triple → ℤ) → filter ≡ 1
    → ((p : Triple) → IsWithin p n → rho p ≡ charge_of side n kinds particles p)
    → ((p : Triple) → IsWithin p n → smooth p ≡ smoothed n rho p)
    → (p : Triple) → IsWithin p n → smooth p ≡ rho_of side filter n kinds particles p
unfolding rho_of filtered
smooth_charge side filter n kinds particles rho smooth one charges smooths p within =
    smooths p within ∙ smoothed_same n rho (charge_of side n kinds particles) charges p within
    ∙ sym (ap (λ f. filtered f n (charge_of side n kinds particles) p) one)
