use Rattle.std.proofs.Common.{ℕ, List, ◌-◌, ◌++◌, length, take, replicate, ap, ◌∙◌, append_assoc, arith}
use Rattle.std.proofs.lemmas.List.{take-replicate}
use Rattle.pic_header.specs.HeaderText.{name_bytes}
use Rattle.pic_header.proofs.heading.push_name.Goals as goal

pub returns-clause-bytes : goal.returns-clause-bytes
unfolding name_bytes
returns-clause-bytes c =
    let before = c.args.text.now in
    let name = c.args.name.now in
    let count = 32 - length name in
    let zeros : List ℕ = take count (replicate 32 0) in
    c.push-2.ensures.bytes
    ∙ ap (λ l. l ++ zeros) c.push.ensures.bytes
    ∙ append_assoc before name zeros
    ∙ ap (λ z. before ++ (name ++ z)) (take-replicate count 32 0 (omega arith))
