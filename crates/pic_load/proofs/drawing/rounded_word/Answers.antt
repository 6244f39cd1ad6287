use Rattle.std.proofs.Common.{◌≡◌, ℤ, pos, ◌≤◌, ◌^◌, ◌*◌, ◌+ℤ◌, ◌*ℤ◌, ◌≤ℤ◌, to_z, of_z, subst, sym, ◌∙◌, ap, lit<, arith}
use Rattle.std.proofs.lemmas.Int.{ints}
use Rattle.std.specs.Prelude.{unsigned_abs}
use lib.Signed.{shr_z}
use mir.Syntax.{w64}
use Rattle.pic_num.specs.Limits.{most_side}
use Rattle.pic_num.specs.Rounding.{rounded}
use Rattle.pic_num.specs.Sizes.{IsAtMost}
use Rattle.pic_num.proofs.RoundingLaws.{rounded-size, rounded-shr}
use Rattle.pic_num.proofs.SizeLaws.{codes, code_is}
use Rattle.pic_deck.specs.Species.{widest_spread}
use Rattle.pic_load.proofs.drawing.rounded_word.Goals as goal

pub returns : goal.returns
returns c =
    let n = c.args.n in
    let n_size : IsAtMost n (2 ^ 57) = record { size = omega (arith, c.requires.size) } in
    let least : pos (2 ^ 32) ≤ℤ pos (2 ^ 32) = omega (arith, ints) in
    let most : unsigned_abs n ≤ 6 * widest_spread most_side * 2 ^ 32 = omega (arith, c.requires.size) in
    let r_size : unsigned_abs (rounded n (pos (2 ^ 32))) ≤ 6 * widest_spread most_side = rounded-size n (pos (2 ^ 32)) (6 * widest_spread most_side) (2 ^ 32)
    (lit< tt) least most in
    let size : IsAtMost (rounded n (pos (2 ^ 32))) (6 * widest_spread most_side) = record { size = r_size } in
    let twice : to_z w64 (of_z w64 (pos 2 *ℤ to_z w64 (of_z w64 n))) ≡ pos 2 *ℤ n = code_is (search codes depth 12) tt in
    let sum : to_z w64 (of_z w64 (pos 2 *ℤ n +ℤ pos (2 ^ 32))) ≡ pos 2 *ℤ n +ℤ pos (2 ^ 32) = code_is (search codes depth 12) tt in
    let held : to_z w64 (of_z w64 (rounded n (pos (2 ^ 32)))) ≡ rounded n (pos (2 ^ 32)) = code_is (search codes depth 4) tt in
    let is =
    ap (λ (z : ℤ). to_z w64 (of_z w64 z))
    (ap (λ (z : ℤ). shr_z z (2 ^ 33)) ((λ i. to_z w64 (of_z w64 (twice i +ℤ pos (2 ^ 32)))) ∙ sum)
    ∙ rounded-shr n 32)
    ∙ held
    in
    record { value = is; size = subst (λ (z : ℤ). IsAtMost z (6 * widest_spread most_side)) (sym is) size }
