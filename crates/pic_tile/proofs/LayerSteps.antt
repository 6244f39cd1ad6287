-- The layers of a step on one axis, for a step that isn't known as 0, 1 or 2.
use Rattle.std.proofs.Common.{◌≡◌, ℕ, zero, suc, ℤ, pos, ◌+ℤ◌, refl}
use Rattle.pic_tile.specs.Layers.{layer_begin, layer_count, layer_low}

-- a step up
pub count_up : (n e : ℕ) → (e ≡ 0 → ⊥) → (e ≡ 1 → ⊥) → layer_count n e ≡ 2
count_up n zero a b = absurd (a refl)
count_up n (suc zero) a b = absurd (b refl)
count_up n (suc (suc e)) a b = refl

pub low_up : (n : ℕ) (low : ℤ) (e : ℕ) → (e ≡ 0 → ⊥) → (e ≡ 1 → ⊥) → layer_low n low e ≡ low +ℤ pos n
low_up n low zero a b = absurd (a refl)
low_up n low (suc zero) a b = absurd (b refl)
low_up n low (suc (suc e)) a b = refl

-- a step that isn't down
pub begin_on : (n e : ℕ) → (e ≡ 0 → ⊥) → layer_begin n e ≡ 0
begin_on n zero a = absurd (a refl)
begin_on n (suc e) a = refl
