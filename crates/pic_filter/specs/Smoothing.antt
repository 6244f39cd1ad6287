-- The binomial filter on a periodic grid of n cells: of every three numbers side by side on an axis the
-- middle one becomes their sum by the weights 1, 2, 1, along x, then along y, then along z. The weights
-- of all 27 add up to 64, and nothing is divided (C. K. Birdsall and A. B. Langdon, "Plasma Physics via
-- Computer Simulation", appendix C).
use Rattle.std.specs.Prelude.{◌≡◌, ℕ, ℤ, pos, ◌^◌, ◌==◌, ◌+ℤ◌, ◌*ℤ◌, if◌then◌else◌, Option, Some, None}
use Rattle.pic_num.specs.declared.axis.Axis.{Axis}
use Rattle.pic_num.specs.declared.axis.Axis.TheVariants.{X, Y, Z}
use Rattle.pic_num.specs.Space.{Triple}
use Rattle.pic_grid.specs.Differences.{up, down, div_e}
use Rattle.pic_grid.specs.Lattice.{Field, value_at, field_of}
use Rattle.pic_grid.specs.Sums.{sum_cells}

-- three numbers side by side, by their weights
abbrev pub weighted : ℤ → ℤ → ℤ → ℤ
weighted last own next = last +ℤ pos 2 *ℤ own +ℤ next

-- what the filter along an axis makes of g
unfoldable pub smoothed_along : Axis → Triple → (Triple → ℤ) → Triple → ℤ
smoothed_along a n g p = weighted (g (down n a p)) (g p) (g (up n a p))

-- and what the whole filter makes of it
unfoldable pub smoothed : Triple → (Triple → ℤ) → Triple → ℤ
smoothed n g = smoothed_along Z n (smoothed_along Y n (smoothed_along X n g))

-- each component of a lattice is filtered by itself
abbrev pub smoothed_each : Triple → (Axis → Triple → ℤ) → Axis → Triple → ℤ
smoothed_each n g a = smoothed n (g a)

-- what the filter of a number makes of g: 0 is none, 1 the binomial one
unfoldable pub filtered : ℕ → Triple → (Triple → ℤ) → Triple → ℤ
filtered filter n g = if filter == 0 then g else smoothed n g

-- the filter that there is room for: none, or the binomial one
abbrev pub filter_in : {A : Type 0} → Option A → ℕ
filter_in None = 0
filter_in (Some room) = 1

-- the lattice of those components
abbrev pub smoothed_field : Field → Field
smoothed_field f = field_of f.side f.cells f.parts (smoothed_each f.cells (value_at f))

-- a number that is filtered is at most 2^83 in size, as every current and every charge of a node is,
abbrev pub most_to_smooth : ℕ
most_to_smooth = 2 ^ 83

-- and what the filter makes of such is at most 64 times as large
abbrev pub most_smoothed : ℕ
most_smoothed = 2 ^ 89

-- the divergence of a filtered lattice is the filtered divergence, at every node
abbrev pub DivergenceOfSmoothed : Type 0
DivergenceOfSmoothed =
    (n : Triple) (g : Axis → Triple → ℤ) (p : Triple)
    → div_e n (smoothed_each n g) p ≡ smoothed n (div_e n g) p

-- a sum filtered is the sum of both filtered
abbrev pub SmoothedSum : Type 0
SmoothedSum =
    (n : Triple) (f g : Triple → ℤ) (p : Triple)
    → smoothed n (λ q. f q +ℤ g q) p ≡ smoothed n f p +ℤ smoothed n g p

-- over the whole grid the filter makes 64 times as much of everything
abbrev pub SmoothedTotal : Type 0
SmoothedTotal = (n : Triple) (g : Triple → ℤ) → sum_cells n (smoothed n g) ≡ pos 64 *ℤ sum_cells n g
