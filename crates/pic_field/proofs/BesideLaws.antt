-- Where a row or a plane stands in its room, and what is read beside it.
use Rattle.std.proofs.Common.{◌≡◌, ℕ, ◌+◌, ◌-◌, ◌%◌, ◌<◌, ◌≤◌, Bool, true, false, refl, ◌∙◌, ap, arith}
use Rattle.std.proofs.Math.Nat.{mod-eq_of_lt, add-mod_right}
use Rattle.pic_num.specs.declared.axis.Axis.{Axis}
use Rattle.pic_num.specs.declared.axis.Axis.TheVariants.{X, Y, Z}
use Rattle.pic_num.specs.Space.{Triple}
use Rattle.pic_grid.specs.Differences.{up, down}
use Rattle.pic_field.specs.Beside.{layer_beside, next_to, first_index, room_layer, swept_layer}
use Rattle.pic_field.specs.Planes.{edge_index}
use Rattle.pic_field.proofs.RowLaws.{round_on}

pub beside_up : (n : Triple) (a : Axis) (p : Triple) → next_to true n a p ≡ up n a p
beside_up n X p = refl
beside_up n Y p = refl
beside_up n Z p = refl

pub beside_down : (n : Triple) (a : Axis) (p : Triple) → next_to false n a p ≡ down n a p
beside_down n X p = refl
beside_down n Y p = refl
beside_down n Z p = refl

pub first_most : (d : Bool) → first_index d ≤ 1
first_most true = omega arith
first_most false = omega arith

-- the layers from s on stand in their room from the first index on,
pub own_layer : (d : Bool) (m s k : ℕ) → s + k < m → (room_layer d m s + (first_index d + k)) % m ≡ s + k
own_layer true m s k below = let same : s + (0 + k) ≡ s + k = omega arith in ap (λ (x : ℕ). x % m) same ∙ mod-eq_of_lt below
own_layer false m s k below =
    let sum : s + (m - 1 + (1 + k)) ≡ s + k + m = omega (arith, below) in
    round_on m s (m - 1) ((s + (m - 1)) % m) (1 + k) refl ∙ ap (λ (x : ℕ). x % m) sum ∙ add-mod_right (s + k) m ∙ mod-eq_of_lt below

-- and those beside them from the other one on
pub side_layer : (d : Bool) (m s k : ℕ) → (room_layer d m s + (1 - first_index d + k)) % m ≡ layer_beside d m (s + k)
side_layer true m s k = let same : s + (1 - 0 + k) ≡ s + k + 1 = omega arith in ap (λ (x : ℕ). x % m) same
side_layer false m s k =
    let sum : s + (m - 1 + (1 - 1 + k)) ≡ s + k + (m - 1) = omega arith in
    round_on m s (m - 1) ((s + (m - 1)) % m) (1 - 1 + k) refl ∙ ap (λ (x : ℕ). x % m) sum

-- what stands beside a row fits the room
pub edge_fits : (d : Bool) (m s x c : ℕ) → c ≡ room_layer d m x → c < m → x + s ≤ m → c + edge_index d s ≤ m
edge_fits true m s x c is below fits = omega (arith, is, fits)
edge_fits false m s x c is below fits = omega (arith, below)

-- the order in which a sweep comes to layers is its own inverse
pub layer_below : (d : Bool) (m k : ℕ) → k < m → swept_layer d m k < m
layer_below true m k below = omega (arith, below)
layer_below false m k below = below

pub layer_back : (d : Bool) (m k : ℕ) → k < m → swept_layer d m (swept_layer d m k) ≡ k
layer_back true m k below = omega (arith, below)
layer_back false m k below = refl

-- the layer beside one is that before it
pub layer_before : (d : Bool) (n low m k : ℕ) → low + m ≤ n → k + 1 < m → layer_beside d n (low + swept_layer d m (k + 1)) ≡ low + swept_layer d m k
layer_before true n low m k fits below =
    let sum : low + (m - 1 - (k + 1)) + 1 ≡ low + (m - 1 - k) = omega (arith, below) in
    ap (λ (x : ℕ). x % n) sum ∙ mod-eq_of_lt (omega (arith, fits, below))
layer_before false n low m k fits below =
    let sum : low + (k + 1) + (n - 1) ≡ low + k + n = omega (arith, fits, below) in
    ap (λ (x : ℕ). x % n) sum ∙ add-mod_right (low + k) n ∙ mod-eq_of_lt (omega (arith, fits, below))
