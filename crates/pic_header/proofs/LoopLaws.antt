-- How many bytes the loops of a header have.
use Rattle.std.proofs.Common.{ℕ, ◌*◌, ◌≤◌, ◌==◌, List, All, length, take, inl, inr, arith}
use Rattle.std.proofs.lemmas.Bool.{cases_Bool}
use Rattle.std.proofs.lemmas.List.Elements.{All-weaker}
use Rattle.std.proofs.lemmas.List.Sums.{sum_by-le, sum_by-take-le}
use Rattle.pic_num.specs.Limits.{allowance_of, most_loops, most_wave}
use Rattle.pic_num.specs.Space.{Triple}
use Rattle.pic_grid.specs.declared.loops.Loop.{Loop}
use Rattle.pic_grid.specs.Loops.{IsLoop, AreLoops}
use Rattle.pic_header.specs.HeaderFields.{loop_length, loops_length}

-- no version allows more loops than the scheme
pub loops_of_version : (version : ℕ) → (allowance_of version).loops ≤ most_loops
loops_of_version version = elim (cases_Bool (version == 1)) [
  | inl is ↦ rw is (omega arith)
  | inr other ↦ rw other (omega arith)
]

-- the waves of loops within their limits
pub waves_few : (n : Triple) (most : ℕ) (loops : List Loop) → AreLoops n most loops → All (λ l. length l.wave ≤ most_wave) loops
waves_few n most loops are = All-weaker (IsLoop n) (λ l. length l.wave ≤ most_wave) (λ l is. is.most) loops are.each

-- so many loops have no more bytes than as many of the longest
pub loops_most : (loops : List Loop) → All (λ l. length l.wave ≤ most_wave) loops → loops_length loops ≤ 532 * length loops
loops_most loops waves =
    let each = All-weaker (λ l. length l.wave ≤ most_wave) (λ l. loop_length l ≤ 532) (λ l few. omega (arith, few)) loops waves in
    let all = sum_by-le loop_length 532 loops each in
    omega (arith, all)

pub loops_so_far : (loops : List Loop) (i : ℕ) → All (λ l. length l.wave ≤ most_wave) loops → loops_length (take i loops) ≤ 532 * length loops
loops_so_far loops i waves =
    let some = sum_by-take-le loop_length loops i in
    let all = loops_most loops waves in
    omega (arith, some, all)
