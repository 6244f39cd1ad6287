-- A number of a wave as the code passes it on, and with the other sign.
use Rattle.std.proofs.Common.{◌≡◌, ℤ, pos, neg_ℤ, ◌-ℤ◌, ◌^◌, ◌≤◌, to_z, of_z, unsigned_abs, ◌∙◌, subst, sym, arith}
use mir.Syntax.{w128}
use Rattle.std.proofs.lemmas.Int.{ints}
use Rattle.pic_num.specs.Sizes.{IsAtMost}
use Rattle.pic_num.proofs.SizeLaws.{codes, code_is}

abbrev pub word : ℤ → ℤ
word z = to_z w128 (of_z w128 z)

pub record Number (v z : ℤ) : Type 0 where
  pub same : word z ≡ v
  pub turned : word (pos 0 -ℤ word z) ≡ neg_ℤ v
  pub own_size : unsigned_abs (word z) ≤ 2 ^ 60
  pub turned_size : unsigned_abs (word (pos 0 -ℤ word z)) ≤ 2 ^ 60

pub number : (v z : ℤ) → IsAtMost v (2 ^ 60) → z ≡ v → Number v z
number v z size is =
    let known : IsAtMost z (2 ^ 60) = subst (λ (t : ℤ). IsAtMost t (2 ^ 60)) (sym is) size in
    let own : word z ≡ z = code_is (search codes depth 20) tt in
    let less : word (pos 0 -ℤ word z) ≡ pos 0 -ℤ z = code_is (search codes depth 20) tt in
    let small = known.size in
    record {
      same = own ∙ is;
      turned = less ∙ omega (arith, ints, is);
      own_size = subst (λ (t : ℤ). unsigned_abs t ≤ 2 ^ 60) (sym own) small;
      turned_size = subst (λ (t : ℤ). unsigned_abs t ≤ 2 ^ 60) (sym less) (omega (arith, ints, small));
    }
