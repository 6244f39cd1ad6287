-- Gauss's law on the staggered grid (K. S. Yee, IEEE Trans. Antennas Propag. 14, 1966, 302; Birdsall
-- and Langdon, "Plasma Physics via Computer Simulation"): at each node what leaves it of E is its
-- charge. Which node is named where the law fails is this project's profile: the least, x fastest.
use Rattle.std.specs.Prelude.{◌≡◌, ◌↔◌, ℤ, ℕ, ◌<◌, List, Option, Some, None, if◌then◌else◌}
use Rattle.std.specs.List.{range_with_len}
use Rattle.std.specs.Ordering.{int_eq}
use Rattle.pic_num.specs.declared.motion.Particle.{Particle}
use Rattle.pic_num.specs.declared.motion.Kind.{Kind}
use Rattle.pic_num.specs.First.{first_of}
use Rattle.pic_num.specs.Space.{Triple, triple}
use Rattle.pic_block.specs.Cells.{IsWithin, count_of, index_of, cell_of}
use Rattle.pic_grid.specs.Arrays.{array_of_triple}
use Rattle.pic_grid.specs.Differences.{div_e}
use Rattle.pic_grid.specs.Lattice.{Field, value_at}
use Rattle.pic_charge.specs.declared.breaks.Break.{Break}
use Rattle.pic_charge.specs.Charge.{rho_of}

-- the break at a node, where the divergence and the charge differ there
unfoldable pub difference_at : (Triple → ℤ) → (Triple → ℤ) → Triple → Option Break
difference_at div rho p =
    if int_eq (div p) (rho p) then None else Some (record { node = array_of_triple p; div = div p; rho = rho p })

-- the break at the least node, x fastest, where the two differ
unfoldable pub first_break : Triple → (Triple → ℤ) → (Triple → ℤ) → Option Break
first_break n div rho = first_of (λ i. difference_at div rho (cell_of n i)) (range_with_len 0 (count_of n))

-- the two agree at every node
pub record Agree (n : Triple) (div rho : Triple → ℤ) : Type 0 where
  pub at_node : (p : Triple) → IsWithin p n → div p ≡ rho p

-- a break at the least node where the two differ, with both numbers
pub record IsLeastBreak (n : Triple) (div rho : Triple → ℤ) (b : Break) : Type 0 where
  pub within : IsWithin (triple b.node) n
  pub div_is : b.div ≡ div (triple b.node)
  pub rho_is : b.rho ≡ rho (triple b.node)
  pub differ : b.div ≡ b.rho → ⊥
  pub least : (p : Triple) → IsWithin p n → index_of n p < index_of n (triple b.node) → div p ≡ rho p

-- Gauss's law: at every node of the grid the divergence of E is the charge, filtered where the current is
pub record MeetsGauss (side filter : ℕ) (n : Triple) (kinds : List Kind) (particles : List Particle) (e : Field) : Type 0 where
  pub at_node : (p : Triple) → IsWithin p n → div_e n (value_at e) p ≡ rho_of side filter n kinds particles p

-- where the nodes hold the charge, no break is found exactly where E meets Gauss's law
abbrev pub NoBreakIsGauss : Type 0
NoBreakIsGauss =
    (side filter : ℕ) (n : Triple) (kinds : List Kind) (particles : List Particle) (e : Field) (rho : Triple → ℤ)
    → ((p : Triple) → IsWithin p n → rho p ≡ rho_of side filter n kinds particles p)
    → (first_break n (div_e n (value_at e)) rho ≡ None) ↔ MeetsGauss side filter n kinds particles e

-- where the nodes hold the charge, a break that is found is the least node where E doesn't meet Gauss's
-- law, with both numbers
abbrev pub BreakIsWhereGaussFails : Type 0
BreakIsWhereGaussFails =
    (side filter : ℕ) (n : Triple) (kinds : List Kind) (particles : List Particle) (e : Field) (rho : Triple → ℤ) (b : Break)
    → ((p : Triple) → IsWithin p n → rho p ≡ rho_of side filter n kinds particles p)
    → first_break n (div_e n (value_at e)) rho ≡ Some b
    → IsLeastBreak n (div_e n (value_at e)) (rho_of side filter n kinds particles) b
