-- The factor of a part's layers finds the part of an index.
use Rattle.std.proofs.Common.{◌≡◌, ℕ, ◌+◌, ◌*◌, ◌/◌, ◌%◌, ◌^◌, ◌<◌, ◌≤◌, inl, inr, mul-le-mul, arith}
use Rattle.std.proofs.Math.Nat.{mul-le-mul_left, mul-le-mul_right, div-mul-le_self, mod-lt}
use Rattle.std.proofs.lemmas.Bool.{cases_lt}
use Rattle.std.proofs.lemmas.Nat.{div-add-mod', div_below, le-div}
use Rattle.pic_num.specs.Limits.{most_cells_of_axis}
use Rattle.pic_grid.specs.Parts.{IsFactor}

-- 2^15 over so many layers, and one
pub factor_is : (layers : ℕ) → 1 ≤ layers → IsFactor layers (2 ^ 15 / layers + 1)
factor_is layers some =
    let whole = div-add-mod' (2 ^ 15) layers in
    let rest : 2 ^ 15 % layers < layers = mod-lt (2 ^ 15) some in
    let product : (2 ^ 15 / layers + 1) * layers ≡ 2 ^ 15 / layers * layers + layers = omega arith in
    record { least = omega (arith, whole, rest, product); most = omega (arith, whole, product) }

-- an index among those of a grid
module _ (layers factor index : ℕ) (some : 1 ≤ layers) (most : layers ≤ most_cells_of_axis) (few : index < most_cells_of_axis) (h : IsFactor layers factor)
  where
    abbrev part : ℕ
    part = index / layers

    least : part * 2 ^ 15 ≤ index * factor
    least =
        let start = div-mul-le_self index layers in
        let by_layers : part * 2 ^ 15 ≤ part * (factor * layers) = mul-le-mul_left part h.least in
        let by_index : part * layers * factor ≤ index * factor = mul-le-mul_right factor start in
        let turned : part * (factor * layers) ≡ part * layers * factor = omega arith in
        omega (arith, by_layers, by_index, turned)

    below : index * factor < (part + 1) * 2 ^ 15
    below = elim (cases_lt (index * factor) ((part + 1) * 2 ^ 15)) [
      | inl under ↦ under
      | inr past ↦
          (let more : (part + 1) * 2 ^ 15 * layers ≤ index * factor * layers = mul-le-mul_right layers past in
          let turned : index * factor * layers ≡ index * (factor * layers) = omega arith in
          let upto : index * (factor * layers) ≤ index * (2 ^ 15 + layers) = mul-le-mul_left index h.most in
          let last : index ≤ 127 = omega (arith, few) in
          let room : index * layers ≤ 127 * 128 = mul-le-mul last most in
          let whole = div-add-mod' index layers in
          let rest : index % layers < layers = mod-lt index some in
          absurd (omega (arith, more, turned, upto, room, whole, rest)))
    ]

    -- its part is the quotient,
    pub part_is : index * factor / 2 ^ 15 ≡ part
    part_is =
        let low : part ≤ index * factor / 2 ^ 15 = le-div part (index * factor) (2 ^ 15) (omega arith) least in
        let high : index * factor / 2 ^ 15 < part + 1 = div_below (index * factor) (2 ^ 15) (part + 1) (omega arith) below in
        omega (arith, low, high)
