-- Takes, one after another.
use Rattle.std.proofs.Common.{◌≡◌, ℕ, List, ◌++◌, Option, Some, None, refl, ap, sym, ◌∙◌, append_assoc}
use Rattle.pic_io.specs.Told.{Told}
use Rattle.pic_io.specs.Source.{with_front}

pub with_front_twice : (xs ys : List ℕ) (known : Option (List ℕ)) → with_front xs (with_front ys known) ≡ with_front (xs ++ ys) known
with_front_twice xs ys None = refl
with_front_twice xs ys (Some bytes) = ap (λ b. Some b) (sym (append_assoc xs ys bytes))

-- what two takes gave, one after the other, is what was left before them
pub given_twice : (a b c : Told) (xs ys : List ℕ) → a.bytes ≡ with_front xs b.bytes → b.bytes ≡ with_front ys c.bytes
    → a.bytes ≡ with_front (xs ++ ys) c.bytes
given_twice a b c xs ys first second =
    first ∙ ap (λ k. with_front xs k) second ∙ with_front_twice xs ys c.bytes
