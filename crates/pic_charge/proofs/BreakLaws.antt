-- The least node where a divergence and a charge differ.
use Rattle.std.proofs.Common.{◌≡◌, ℕ, ◌<◌, Bool, true, false, cond, Option, Some, None, List, ◌↔◌, is_some, refl, sym, ◌∙◌, ap, subst, arith}
use Rattle.std.proofs.Math.IntN.{ℤ}
use Rattle.std.proofs.lemmas.Bool.{true≢false, false≢true}
use Rattle.std.proofs.lemmas.Bool.Decides.{Decides-int_eq}
use Rattle.std.specs.Option.{IfSome}
use Rattle.std.specs.Ordering.{int_eq}
use Rattle.pic_num.specs.declared.motion.Particle.{Particle}
use Rattle.pic_num.specs.declared.motion.Kind.{Kind}
use Rattle.pic_num.specs.Space.{Triple}
use Rattle.pic_num.proofs.FirstLaws.{first_of_at, none_first_of, first_of_same, first_finds, first_is, none_if, some_if}
use Rattle.pic_num.proofs.LeastLaws.{Finds, finds_none}
use Rattle.pic_block.specs.Cells.{IsWithin, count_of, index_of, cell_of}
use Rattle.pic_block.proofs.CellLaws.{cell_of_within}
use Rattle.pic_grid.specs.Arrays.{array_of_triple}
use Rattle.pic_grid.specs.Differences.{div_e}
use Rattle.pic_grid.specs.Lattice.{Field, value_at}
use Rattle.pic_grid.proofs.NumberedLaws.{cells_numbered}
use Rattle.pic_charge.specs.declared.breaks.Break.{Break}
use Rattle.pic_charge.specs.Charge.{rho_of}
use Rattle.pic_charge.specs.Gauss.{difference_at, first_break, Agree, IsLeastBreak, MeetsGauss}

-- the break that a node has where the two differ
abbrev pub break_at : (Triple → ℤ) → (Triple → ℤ) → Triple → Break
break_at div rho p = record { node = array_of_triple p; div = div p; rho = rho p }

-- a node with no break: the two agree there
agree_at : (div rho : Triple → ℤ) (p : Triple) → difference_at div rho p ≡ None → div p ≡ rho p
unfolding difference_at
agree_at div rho p none = (Decides-int_eq (div p) (rho p)).0 (none_if (int_eq (div p) (rho p)) (break_at div rho p) none)

pub none_at : (div rho : Triple → ℤ) (p : Triple) → div p ≡ rho p → difference_at div rho p ≡ None
unfolding difference_at
none_at div rho p same = ap (λ (t : Bool). cond t None (Some (break_at div rho p))) ((Decides-int_eq (div p) (rho p)).1 same)

-- a node with a break: the two differ there
differ_at : (div rho : Triple → ℤ) (p : Triple) (b : Break) → difference_at div rho p ≡ Some b → div p ≡ rho p → ⊥
differ_at div rho p b some same = let none = none_at div rho p same in cc

break_is : (div rho : Triple → ℤ) (p : Triple) (b : Break) → difference_at div rho p ≡ Some b → break_at div rho p ≡ b
unfolding difference_at
break_is div rho p b some = (some_if (int_eq (div p) (rho p)) (break_at div rho p) b some).1

-- the first break is found at the least node
abbrev BreakFinds : Triple → (Triple → ℤ) → (Triple → ℤ) → Option Break → Type 0
BreakFinds n div rho o = Finds (λ p. IsWithin p n) (index_of n) (difference_at div rho) o

break_finds : (n : Triple) (div rho : Triple → ℤ) → BreakFinds n div rho (first_break n div rho)
unfolding first_break
break_finds n div rho = first_finds (cells_numbered n) (difference_at div rho)

-- no break is found exactly where the two agree at every node
first_break_none : (n : Triple) (div rho : Triple → ℤ) → first_break n div rho ≡ None → Agree n div rho
first_break_none n div rho none = record { at_node = λ p within. agree_at div rho p ((break_finds n div rho).none none p within) }

none_first_break : (n : Triple) (div rho : Triple → ℤ) → Agree n div rho → first_break n div rho ≡ None
unfolding first_break
none_first_break n div rho agree =
    first_is (cells_numbered n) (difference_at div rho) None (finds_none (λ p within. none_at div rho p (agree.at_node p within)))

-- a break is found exactly where it is the least
pub first_break_some : (n : Triple) (div rho : Triple → ℤ) (b : Break) → first_break n div rho ≡ Some b → IsLeastBreak n div rho b
first_break_some n div rho b some =
    let l = (break_finds n div rho).some b some in
    subst (IsLeastBreak n div rho) (break_is div rho l.at b l.found) (record {
      within = l.within;
      div_is = refl;
      rho_is = refl;
      differ = differ_at div rho l.at b l.found;
      least = λ q within below. agree_at div rho q (l.before q within below);
    })

-- what is found at a number, with nothing before it, is the first break
pub first_break_at : (n : Triple) (div rho : Triple → ℤ) (o : Option Break) (i : ℕ) → is_some o ≡ true → o ≡ difference_at div rho (cell_of n i)
    → i < count_of n
    → ((j : ℕ) → j < i → difference_at div rho (cell_of n j) ≡ None)
    → o ≡ first_break n div rho
unfolding first_break
first_break_at n div rho None i test is inside before = absurd (false≢true test)
first_break_at n div rho (Some b) i test is inside before =
    sym (first_of_at (λ k. difference_at div rho (cell_of n k)) 0 (count_of n) i b (omega arith) (omega (arith, inside)) (sym is)
    (λ j low below. before j below))

-- the same, where nothing is found at any number
pub first_break_nowhere : (n : Triple) (div rho : Triple → ℤ) (i : ℕ) → i ≡ count_of n
    → ((j : ℕ) → j < i → difference_at div rho (cell_of n j) ≡ None)
    → None ≡ first_break n div rho
unfolding first_break
first_break_nowhere n div rho i end none =
    sym (none_first_of (λ k. difference_at div rho (cell_of n k)) 0 (count_of n) (λ j low below. none j (omega (arith, below, end))))

-- the two clauses of an answer that is the first break
pub none_exactly : (n : Triple) (div rho : Triple → ℤ) (o : Option Break) → o ≡ first_break n div rho → (o ≡ None) ↔ Agree n div rho
none_exactly n div rho o is = (λ none. first_break_none n div rho (sym is ∙ none), λ agree. is ∙ none_first_break n div rho agree)

pub least_where : (n : Triple) (div rho : Triple → ℤ) (o : Option Break) → o ≡ first_break n div rho → IfSome o (IsLeastBreak n div rho)
least_where n div rho None is = tt
least_where n div rho (Some b) is = first_break_some n div rho b (sym is)

-- the first break depends on the values at the nodes alone
pub first_break_same : (n : Triple) (div rho div' rho' : Triple → ℤ)
    → ((p : Triple) → IsWithin p n → div p ≡ div' p)
    → ((p : Triple) → IsWithin p n → rho p ≡ rho' p)
    → first_break n div rho ≡ first_break n div' rho'
unfolding first_break difference_at
first_break_same n div rho div' rho' same_div same_rho =
    first_of_same (λ i. difference_at div rho (cell_of n i)) (λ i. difference_at div' rho' (cell_of n i)) 0 (count_of n)
    (λ i low high.
    let within : IsWithin (cell_of n i) n = cell_of_within n i (omega (arith, high)) in
    λ t. (let d : ℤ = same_div (cell_of n i) within t in
    let r : ℤ = same_rho (cell_of n i) within t in cond (int_eq d r) None (Some (record { node = array_of_triple (cell_of n i); div = d; rho = r }))))

-- where the nodes hold the charge, no break is Gauss's law
pub meets_gauss : (side filter : ℕ) (n : Triple) (kinds : List Kind) (particles : List Particle) (e : Field) (rho : Triple → ℤ)
    → ((p : Triple) → IsWithin p n → rho p ≡ rho_of side filter n kinds particles p)
    → first_break n (div_e n (value_at e)) rho ≡ None
    → MeetsGauss side filter n kinds particles e
meets_gauss side filter n kinds particles e rho charges none =
    let agree = first_break_none n (div_e n (value_at e)) rho none in
    record { at_node = λ p within. agree.at_node p within ∙ charges p within }

-- and Gauss's law is no break
pub gauss_none : (side filter : ℕ) (n : Triple) (kinds : List Kind) (particles : List Particle) (e : Field) (rho : Triple → ℤ)
    → ((p : Triple) → IsWithin p n → rho p ≡ rho_of side filter n kinds particles p)
    → MeetsGauss side filter n kinds particles e
    → first_break n (div_e n (value_at e)) rho ≡ None
gauss_none side filter n kinds particles e rho charges law =
    none_first_break n (div_e n (value_at e)) rho (record { at_node = λ p within. law.at_node p within ∙ sym (charges p within) })

-- where the nodes hold the charge, the break found is that of the charge
pub first_break-charge : (side filter : ℕ) (n : Triple) (kinds : List Kind) (particles : List Particle) (div rho : Triple → ℤ)
    → ((p : Triple) → IsWithin p n → rho p ≡ rho_of side filter n kinds particles p)
    → first_break n div rho ≡ first_break n div (rho_of side filter n kinds particles)
first_break-charge side filter n kinds particles div rho charges =
    first_break_same n div rho div (rho_of side filter n kinds particles) (λ p within. refl) charges

-- what isn't there
pub none_unless : {A : Type 0} (o : Option A) → is_some o ≡ false → o ≡ None
none_unless None test = refl
none_unless (Some a) test = absurd (true≢false test)
