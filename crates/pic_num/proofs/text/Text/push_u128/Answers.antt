use Rattle.std.proofs.Common.{◌-◌, ◌/◌, ◌^◌, ◌++◌, ◌∙◌, ap, append_assoc}
use Rattle.std.proofs.lemmas.Nat.{and_mask}
use Rattle.std.specs.Int.{w64, to_be_bytes}
use Rattle.std.specs.Prelude.{bit_and}
use Rattle.pic_num.specs.Bytes.{u128_bytes}
use Rattle.pic_num.proofs.WordLaws.{bytes-in_two}
use Rattle.pic_num.proofs.text.Text.push_u128.Goals as goal

pub returns-clause-bytes : goal.returns-clause-bytes
unfolding u128_bytes
returns-clause-bytes g c =
    let before = c.args.self.now in
    let n = c.args.n in
    let high = to_be_bytes w64 (n / 2 ^ 64) in
    let low = to_be_bytes w64 (bit_and n (2 ^ 64 - 1)) in
    c.push_word-2.ensures.bytes
    ∙ ap (λ b. b ++ low) c.push_word.ensures.bytes
    ∙ append_assoc before high low
    ∙ ap (λ m. before ++ (high ++ to_be_bytes w64 m)) (and_mask n 64)
    ∙ ap (λ b. before ++ b) (bytes-in_two 8 8 n)
