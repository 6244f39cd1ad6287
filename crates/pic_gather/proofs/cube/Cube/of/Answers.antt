use Rattle.std.proofs.Common.{◌≡◌, ℕ, pos, ◌+◌, ◌-◌, ◌*◌, ◌%◌, ◌^◌, ◌≤◌, to_z, sym, ◌∙◌, ap, arith}
use Rattle.std.proofs.Math.Pow.{pow_mono}
use Rattle.std.proofs.lemmas.Int.{to_z_pos}
use Rattle.std.proofs.lemmas.Nat.{pow-add}
use mir.Syntax.{w64}
use Rattle.pic_grid.proofs.SumLaws.{cube_is}
use Rattle.pic_gather.proofs.cube.Cube.of.Goals as goal

half_is : (k : ℕ) → k ≤ 60 → to_z w64 (1 * 2 ^ k % 2 ^ 64) ≡ pos (2 ^ k)
half_is k h =
    let most : 2 ^ k ≤ 2 ^ 60 = pow_mono h in
    let e : 1 * 2 ^ k % 2 ^ 64 ≡ 2 ^ k = omega (arith, most) in
    ap (to_z w64) e ∙ to_z_pos w64 (2 ^ k) (omega (arith, most))

-- the cube of a power of two
cube_power : (b : ℕ) → 2 ^ (3 * b) ≡ 2 ^ b * 2 ^ b * 2 ^ b
cube_power b =
    let three : 3 * b ≡ b + b + b = omega arith in
    ap (λ m. 2 ^ m) three ∙ pow-add 2 (b + b) b ∙ ap (λ m. m * 2 ^ b) (pow-add 2 b b)

pub returns : goal.returns
returns c =
    let b = c.bits.result in
    let h = c.bits.ensures in
    let k : 3 * b % 64 ≡ 3 * b = omega (arith, h.most) in
    record {
      shape = record {
        least = omega (arith, k, h.least);
        most = omega (arith, k, h.most);
        half = half_is (3 * b % 64 - 1) (omega (arith, k, h.most));
      };
      cube = ap (λ m. 2 ^ m) k ∙ cube_power b ∙ (λ i. sym h.power i * sym h.power i * sym h.power i) ∙ cube_is c.args.sub;
    }
