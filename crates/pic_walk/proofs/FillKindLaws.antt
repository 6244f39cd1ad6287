-- The sources of a species, one after another.
use Rattle.std.proofs.Common.{◌≡◌, ℕ, suc, ◌+◌, ◌-◌, ◌<◌, ◌≤◌, true, false, find, List, length, get_or, take, drop, Err, ap, ◌∙◌, arith}
use Rattle.std.proofs.Math.Seq.{drop-cons}
use Rattle.std.proofs.lemmas.List.{drop_all, length-drop, take_all}
use Rattle.toml.specs.Data.{Members}
use Rattle.pic_walk.specs.declared.fault.Fault.TheVariants.{Missing}
use Rattle.pic_walk.specs.Path.{key_at}
use Rattle.std.specs.Prelude.{codes}
use Rattle.pic_walk.specs.declared.fill_kind.FillKind.{FillKind}
use Rattle.pic_walk.specs.FillKind.{has, alone, only}

-- the source at an index is there
pub only_here : (path : List ℕ) (t : Members) (ss : List FillKind) (i : ℕ) (d : FillKind) → i < length ss → has t (get_or ss i d) ≡ true
    → only path t (drop i ss) ≡ alone path (get_or ss i d) (find (has t) (drop (i + 1) ss))
unfolding only
only_here path t ss i d below is = ap (only path t) (drop-cons ss i d below) ∙ (let next : suc i ≡ i + 1 = omega arith in rw (is, next))

-- it isn't there
pub only_next : (path : List ℕ) (t : Members) (ss : List FillKind) (i : ℕ) (d : FillKind) → i < length ss → has t (get_or ss i d) ≡ false
    → only path t (drop i ss) ≡ only path t (drop (i + 1) ss)
unfolding only
only_next path t ss i d below is = ap (only path t) (drop-cons ss i d below)
    ∙ (let next : suc i ≡ i + 1 = omega arith in rw is (ap (λ k. only path t (drop k ss)) next))

-- none is left
pub only_none : (path : List ℕ) (t : Members) (ss : List FillKind) (i : ℕ) → length ss ≤ i → only path t (drop i ss)
    ≡ Err (Missing (key_at path (codes "points")))
unfolding only
only_none path t ss i h = ap (only path t) (drop_all i ss h)

-- those after an index
pub rest : (n : ℕ) (ss : List FillKind) (i : ℕ) → length ss ≡ n → take (n - (i + 1)) (drop (i + 1) ss) ≡ drop (i + 1) ss
rest n ss i e = take_all (n - (i + 1)) (drop (i + 1) ss) (let size = length-drop (i + 1) ss in omega (arith, size, e))
