-- The side of a cell: a power of two of sub-cells, which is this project's profile.
use Rattle.std.specs.Prelude.{◌≡◌, ℕ, ◌^◌, ◌≤◌, ◌==◌, if◌then◌else◌}
use Rattle.std.proofs.Common.{inl, inr, ap, sym, ◌∙◌, arith}
use Rattle.std.proofs.lemmas.Bool.{cases_eq}
use Rattle.pic_num.specs.Limits.{fewest_bits, most_bits}

-- which of them a side is
unfoldable pub bits_of : ℕ → ℕ
bits_of side =
    if side == 256 then 8 else if side == 512 then 9 else if side == 1024 then 10 else if side == 2048 then 11
    else if side == 4096 then 12 else if side == 8192 then 13 else 14

pub bits_of-side : (k : ℕ) → fewest_bits ≤ k → k ≤ most_bits → bits_of (2 ^ k) ≡ k
unfolding bits_of
bits_of-side k least most = elim (cases_eq k 8) [
  | inl e ↦ ap (λ j. bits_of (2 ^ j)) e ∙ sym e
  | inr not8 ↦ elim (cases_eq k 9) [
    | inl e ↦ ap (λ j. bits_of (2 ^ j)) e ∙ sym e
    | inr not9 ↦ elim (cases_eq k 10) [
      | inl e ↦ ap (λ j. bits_of (2 ^ j)) e ∙ sym e
      | inr not10 ↦ elim (cases_eq k 11) [
        | inl e ↦ ap (λ j. bits_of (2 ^ j)) e ∙ sym e
        | inr not11 ↦ elim (cases_eq k 12) [
          | inl e ↦ ap (λ j. bits_of (2 ^ j)) e ∙ sym e
          | inr not12 ↦ elim (cases_eq k 13) [
            | inl e ↦ ap (λ j. bits_of (2 ^ j)) e ∙ sym e
            | inr not13 ↦ (let e : k ≡ 14 = omega (arith, least, most, not8, not9, not10, not11, not12, not13) in ap (λ j. bits_of (2 ^ j)) e ∙ sym e)
          ]
        ]
      ]
    ]
  ]
]
