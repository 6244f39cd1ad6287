use Rattle.std.proofs.Common.{◌≡◌, ◌+◌, ◌-◌, ◌/◌, ◌%◌, ℕ, sym, ◌∙◌, ap, arith}
use Rattle.std.proofs.lemmas.Nat.{and_mask}
use lib.Bits.{bit_and}
use Rattle.pic_grid.proofs.PairLaws.{pair_of}
use Rattle.pic_grid.proofs.pair.Pair.of_nodes.Goals as goal

pub returns : goal.returns
returns c =
    let s = c.args.sub in
    let n = c.args.cells in
    let p = c.args.point in
    let side = c.side-side.ensures.value in
    let power = c.bits.ensures.power in
    let low = ap (λ (m : ℕ). p / m) (sym power) in
    let high = c.after.ensures.value ∙ ap (λ (i : ℕ). (i + 1) % n) low in
    let inner : bit_and p (c.side-side.result - 1) ≡ p % s =
    ap (λ (m : ℕ). bit_and p (m - 1)) (side ∙ power) ∙ and_mask p c.bits.result ∙ ap (λ (m : ℕ). p % m) (sym power) in
    pair_of s n p _ (omega (arith, c.side-side.ensures.least)) c.requires.two c.requires.inside low high (λ i. side i - inner i) inner
