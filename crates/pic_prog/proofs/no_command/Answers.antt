use Rattle.std.proofs.Common.{◌≡◌, ◌∷◌, [], List, ℕ, None, map, drop, string_bytes, rules, subst, sym}
use Rattle.pic_line.specs.CommandLine.{command_of}
use Rattle.pic_line.proofs.LineLaws.{no_text}
use Rattle.pic_prog.proofs.no_command.Goals as goal

pub returns : goal.returns
returns c =
    let word : List (List ℕ) = (239 ∷ 191 ∷ 189 ∷ []) ∷ [] in
    let is : map string_bytes (drop 1 c.push-2.new.self.items) ≡ word = search rules in
    subst (λ (words : List (List ℕ)). command_of words ≡ None) (sym is) no_text
