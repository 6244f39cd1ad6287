-- The loops of the dumps of these tests: none.
use Rattle.std.proofs.Common.{◌≡◌, ℕ, List, [], sym, subst, arith}
use Rattle.std.proofs.lemmas.List.Elements.{All-nil}
use Rattle.pic_num.specs.Space.{Triple}
use Rattle.pic_grid.specs.declared.loops.Loop.{Loop}
use Rattle.pic_grid.specs.Loops.{AreLoops, IsLoop}

pub no_loops : (n : Triple) (most : ℕ) (loops : List Loop) → loops ≡ [] → AreLoops n most loops
no_loops n most loops is = subst (AreLoops n most) (sym is) (record { few = omega arith; each = All-nil (IsLoop n) })
