use Rattle.std.proofs.Common.{◌≡◌, ◌∷◌, codes, map, string_bytes, take}
use Rattle.pic_line.proofs.line.named.Given as goal

-- the name, and the words so far
abbrev pub invariant-loop-word : goal.invariant-loop-word
invariant-loop-word l = map (λ word. word.now) l.line.items ≡ codes "pic" ∷ map string_bytes (take l.word-index l.words)
