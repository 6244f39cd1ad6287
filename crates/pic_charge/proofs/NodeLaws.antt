-- Nodes after a write, and nodes that are being written one after another.
use Rattle.std.proofs.Common.{◌≡◌, ◌≢◌, ℕ, ◌+◌, ◌*◌, ◌<◌, refl, sym, ◌∙◌, ap, subst, inl, inr, arith}
use Rattle.std.proofs.Math.IntN.{ℤ, pos, ◌+ℤ◌, ◌*ℤ◌}
use Rattle.std.proofs.lemmas.Bool.{cases_eq}
use Rattle.std.proofs.lemmas.Bool.Decides.{nat_tests}
use Rattle.std.proofs.lemmas.Int.{ints}
use Rattle.std.proofs.lemmas.List.{get_or-set_other}
use Rattle.pic_num.specs.Space.{Triple}
use Rattle.pic_num.proofs.ProductLaws.{*ℤ-one, *ℤ-zero}
use Rattle.pic_block.specs.Cells.{IsWithin, count_of, index_of}
use Rattle.pic_block.proofs.CellLaws.{index_of_below, index_of_same, cells_more}
use Rattle.pic_grid.specs.Lattice.{NodeValues, node_at, with_node}
use Rattle.pic_grid.specs.Hat.{only_at}
use Rattle.pic_charge.specs.Spread.{spread, Adds}

-- every other node stays
pub node_at-other : (f : NodeValues) (p : Triple) (v : ℤ) (q : Triple) → index_of f.cells q ≢ index_of f.cells p
    → node_at (with_node f p v) q ≡ node_at f q
node_at-other f p v q other = get_or-set_other f.values (index_of f.cells p) (index_of f.cells q) v (pos 0) other

only_here : (i j : ℕ) → j ≡ i → only_at i 1 j ≡ 1
only_here i j is = grind (arith, nat_tests)

only_elsewhere : (i j : ℕ) → (j ≡ i → ⊥) → only_at i 1 j ≡ 0
only_elsewhere i j differ = grind (arith, nat_tests)

-- what is added to one node alone
here_is : (q : Triple) (amount : ℤ) → spread amount (only_at q.x 1) (only_at q.y 1) (only_at q.z 1) q ≡ amount
unfolding spread
here_is q amount =
    (λ i. amount *ℤ pos (only_here q.x q.x refl i * only_here q.y q.y refl i * only_here q.z q.z refl i)) ∙ *ℤ-one amount

elsewhere_is : (q p : Triple) (amount : ℤ) → (p ≡ q → ⊥) → spread amount (only_at q.x 1) (only_at q.y 1) (only_at q.z 1) p ≡ pos 0
unfolding spread
elsewhere_is q p amount differ = elim (cases_eq p.x q.x) [
  | inr x ↦ none (only_at q.x 1 p.x) (only_at q.y 1 p.y) (only_at q.z 1 p.z)
      (zero_first (only_at q.x 1 p.x) (only_at q.y 1 p.y) (only_at q.z 1 p.z) (only_elsewhere q.x p.x x))
  | inl x ↦ elim (cases_eq p.y q.y) [
    | inr y ↦ none (only_at q.x 1 p.x) (only_at q.y 1 p.y) (only_at q.z 1 p.z)
        (zero_second (only_at q.x 1 p.x) (only_at q.y 1 p.y) (only_at q.z 1 p.z) (only_elsewhere q.y p.y y))
    | inl y ↦ elim (cases_eq p.z q.z) [
      | inr z ↦ none (only_at q.x 1 p.x) (only_at q.y 1 p.y) (only_at q.z 1 p.z)
          (zero_third (only_at q.x 1 p.x) (only_at q.y 1 p.y) (only_at q.z 1 p.z) (only_elsewhere q.z p.z z))
      | inl z ↦ absurd (differ (λ i. record { x = x i; y = y i; z = z i }))
    ]
  ]
]
  where
    none : (a b c : ℕ) → a * b * c ≡ 0 → amount *ℤ pos (a * b * c) ≡ pos 0
    none a b c is = ap (λ (t : ℕ). amount *ℤ pos t) is ∙ *ℤ-zero amount

    zero_first : (a b c : ℕ) → a ≡ 0 → a * b * c ≡ 0
    zero_first a b c is = ap (λ (t : ℕ). t * b * c) is ∙ omega arith

    zero_second : (a b c : ℕ) → b ≡ 0 → a * b * c ≡ 0
    zero_second a b c is = ap (λ (t : ℕ). a * t * c) is ∙ omega arith

    zero_third : (a b c : ℕ) → c ≡ 0 → a * b * c ≡ 0
    zero_third a b c is = ap (λ (t : ℕ). a * b * t) is ∙ omega arith

-- a node that is written anew
pub node_added : (old new : NodeValues) (q : Triple) (amount sum : ℤ)
    → new ≡ with_node old q sum
    → node_at new q ≡ node_at old q +ℤ amount
    → IsWithin q old.cells
    → Adds old new (spread amount (only_at q.x 1) (only_at q.y 1) (only_at q.z 1))
node_added old new q amount sum after here inside = record {
  cells = ap (λ (f : NodeValues). f.cells) after;
  values = λ p within. elim (cases_eq (index_of old.cells p) (index_of old.cells q)) [
    | inl same ↦
        (let is : q ≡ p = index_of_same old.cells q p inside within (sym same) in
        subst (λ (r : Triple). node_at new r ≡ node_at old r +ℤ spread amount (only_at q.x 1) (only_at q.y 1) (only_at q.z 1) r) is
        (here ∙ ap (λ (t : ℤ). node_at old q +ℤ t) (sym (here_is q amount))))
    | inr other ↦
        (let stays : node_at new p ≡ node_at old p = ap (λ (f : NodeValues). node_at f p) after ∙ node_at-other old q sum p other in
        let none = elsewhere_is q p amount (λ e. other (ap (index_of old.cells) e)) in
        omega (arith, ints, stays, none))
  ];
}

-- every node below a number is what g gives
pub record IsWritten (n : Triple) (g : Triple → ℤ) (nodes : NodeValues) (i : ℕ) : Type 0 where
  pub cells : nodes.cells ≡ n
  pub values : (p : Triple) → IsWithin p n → index_of n p < i → node_at nodes p ≡ g p

pub written_none : (n : Triple) (g : Triple → ℤ) (nodes : NodeValues) → nodes.cells ≡ n → IsWritten n g nodes 0
written_none n g nodes same = record { cells = same; values = λ p within below. absurd (omega (arith, below)) }

pub written_more : (n : Triple) (g : Triple → ℤ) (old new : NodeValues) (i : ℕ) (q : Triple) (v : ℤ)
    → IsWritten n g old i
    → new ≡ with_node old q v
    → node_at new q ≡ g q
    → index_of n q ≡ i
    → IsWithin q n
    → IsWritten n g new (i + 1)
written_more n g old new i q v so_far after here at inside = record {
  cells = ap (λ (f : NodeValues). f.cells) after ∙ so_far.cells;
  values = cells_more n (λ (p : Triple). node_at new p ≡ g p) i q at inside
      (λ p within below.
      let p_at = ap (λ (m : Triple). index_of m p) so_far.cells in
      let q_at = ap (λ (m : Triple). index_of m q) so_far.cells in
      let other : index_of old.cells p ≢ index_of old.cells q = λ e. absurd (omega (arith, e, p_at, q_at, at, below)) in
      ap (λ (f : NodeValues). node_at f p) after ∙ node_at-other old q v p other ∙ so_far.values p within below)
      here;
}

pub written_all : (n : Triple) (g : Triple → ℤ) (nodes : NodeValues) (i : ℕ) → IsWritten n g nodes i → i ≡ count_of n
    → (p : Triple) → IsWithin p n → node_at nodes p ≡ g p
written_all n g nodes i all end p within = let below = index_of_below n p within in all.values p within (omega (arith, end, below))
