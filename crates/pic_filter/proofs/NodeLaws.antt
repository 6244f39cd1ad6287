-- Nodes given new numbers in their order.
use Rattle.std.proofs.Common.{◌≡◌, ◌≢◌, ℕ, ℤ, pos, ◌+◌, ◌<◌, ◌∙◌, ap, arith}
use Rattle.std.proofs.lemmas.List.{get_or-set_other}
use Rattle.pic_num.specs.Space.{Triple}
use Rattle.pic_block.specs.Cells.{IsWithin, count_of, index_of}
use Rattle.pic_block.proofs.CellLaws.{index_of_below, cells_more}
use Rattle.pic_grid.specs.Lattice.{NodeValues, node_at, with_node}

-- every node below a number has the number of g
pub record AreGiven (n : Triple) (g : Triple → ℤ) (i : ℕ) (nodes : NodeValues) : Type 0 where
  pub cells : nodes.cells ≡ n
  pub values : (p : Triple) → IsWithin p n → index_of n p < i → node_at nodes p ≡ g p

pub given_none : (n : Triple) (g : Triple → ℤ) (nodes : NodeValues) → nodes.cells ≡ n → AreGiven n g 0 nodes
given_none n g nodes same = record { cells = same; values = λ p within below. absurd (omega (arith, below)) }

pub given_more : (n : Triple) (g : Triple → ℤ) (old new : NodeValues) (i : ℕ) (q : Triple) (v : ℤ) → AreGiven n g i old → new ≡ with_node old q v
    → node_at new q ≡ g q → index_of n q ≡ i → IsWithin q n → AreGiven n g (i + 1) new
given_more n g old new i q v before after here at inside = record {
  cells = ap (λ (f : NodeValues). f.cells) after ∙ before.cells;
  values = cells_more n (λ (p : Triple). node_at new p ≡ g p) i q at inside
      (λ p within below.
      let p_at = ap (λ (m : Triple). index_of m p) before.cells in
      let q_at = ap (λ (m : Triple). index_of m q) before.cells in
      let other : index_of old.cells p ≢ index_of old.cells q = λ e. absurd (omega (arith, e, p_at, q_at, at, below)) in
      ap (λ (f : NodeValues). node_at f p) after
      ∙ get_or-set_other old.values (index_of old.cells q) (index_of old.cells p) v (pos 0) other
      ∙ before.values p within below)
      here;
}

pub given_all : (n : Triple) (g : Triple → ℤ) (nodes : NodeValues) (i : ℕ) → AreGiven n g i nodes → i ≡ count_of n
    → (p : Triple) → IsWithin p n → node_at nodes p ≡ g p
given_all n g nodes i all end p within = let below = index_of_below n p within in all.values p within (omega (arith, end, below))
