-- The particles that are followed: each is that of the list with its identity, before and after a push.
use Rattle.std.proofs.Common.{◌≡◌, ℕ, ◌+◌, ◌-◌, ◌<◌, ◌≤◌, List, [], ◌∷◌, ◌++◌, length, get_or, take, drop, map, All, refl, sym, ap, ◌∙◌, subst}
use Rattle.std.proofs.Common.{append-nil, arith}
use Rattle.std.proofs.lemmas.List.{
  get_or-map,
  get_or_default,
  get_or-append_right,
  get_or-drop,
  length-append,
  length-drop,
  length-map,
  length-take-le,
  map-append,
  take_all,
  drop_all,
  take_more,
}
use Rattle.std.proofs.lemmas.List.Elements.{All-map, All-push, All-weaker}
use Rattle.std.proofs.lemmas.List.FromFn.{get_or-range_with_len}
use Rattle.pic_num.specs.declared.motion.Particle.{Particle}
use Rattle.pic_num.specs.NoParticle.{no_particle}
use Rattle.pic_grid.specs.PushPhase.{Surroundings, push_of, after_push, moved_all}
use Rattle.pic_push.proofs.PushLaws.{id_kept, ids_kept, length-moved_all}
use Rattle.pic_tile.specs.InOrder.{AreOrdered}
use Rattle.pic_tile.specs.Leaving.{after_its_push}
use Rattle.pic_step.specs.Tracers.{IsOf, identities}

-- in a list in order each particle has the identity of its place
pub identity_at : (ps : List Particle) (i : ℕ) (d : Particle) → AreOrdered ps → i < length ps → (get_or ps i d).id ≡ i
identity_at ps i d o below =
    sym (get_or-map (λ (p : Particle). p.id) ps i d 0 below) ∙ ap (λ (ids : List ℕ). get_or ids i 0) o.identities
    ∙ get_or-range_with_len 0 (length ps) i 0 below ∙ (let e : 0 + i ≡ i = omega arith in e)

-- and is of the list
pub is_of : (ps : List Particle) (i : ℕ) (d : Particle) → AreOrdered ps → i < length ps → IsOf ps (get_or ps i d)
is_of ps i d o below =
    let same = identity_at ps i d o below in
    record {
      below = subst (λ (n : ℕ). n < length ps) (sym same) below;
      is = ap (λ (n : ℕ). get_or ps n no_particle) same ∙ get_or_default ps i no_particle d below;
    }

-- one more of the identities
one_more : (ids : List ℕ) (ts us : List Particle) (i d : ℕ) (x : Particle) → i < length ids → identities ts ≡ take i ids → x.id ≡ get_or ids i d
    → us ≡ ts ++ x ∷ [] → identities us ≡ take (i + 1) ids
one_more ids ts us i d x below so_far is more =
    ap identities more ∙ map-append (λ (p : Particle). p.id) ts (x ∷ []) ∙ (λ k. so_far k ++ is k ∷ []) ∙ sym (take_more ids i d below)

-- what holds of all particles holds of those of them
pub hold_too : (P : Particle → Type 0) (ps xs : List Particle) → All P ps → All (IsOf ps) xs → All P xs
hold_too P ps xs all of = All-weaker (IsOf ps) P (λ x one. subst P one.is (all x.id no_particle one.below)) xs of

-- pushed, a particle of the list is of the list as it is pushed
moved_too : (w : Surroundings) (ps : List Particle) (x : Particle) → IsOf ps x → IsOf (moved_all w ps) (after_push w.side w.cells x (push_of w x))
unfolding moved_all
moved_too w ps x of =
    let f : Particle → Particle = λ p. after_push w.side w.cells p (push_of w p) in
    let same : (f x).id ≡ x.id = id_kept w.side w.cells x (push_of w x) in
    record {
      below = subst (λ (n : ℕ). n < length (moved_all w ps)) (sym same)
          (subst (λ (n : ℕ). x.id < n) (sym (length-moved_all w ps)) of.below);
      is = ap (λ (n : ℕ). get_or (moved_all w ps) n no_particle) same ∙ get_or-map f ps x.id no_particle no_particle of.below ∙ ap f of.is;
    }

pub all_moved : (w : Surroundings) (ps xs : List Particle) → All (IsOf ps) xs → All (IsOf (moved_all w ps)) (moved_all w xs)
unfolding moved_all
all_moved w ps xs of =
    let f : Particle → Particle = λ p. after_push w.side w.cells p (push_of w p) in
    All-map (IsOf (moved_all w ps)) f xs (λ i d below. moved_too w ps (get_or xs i d) (of i d below))

-- each is pushed as in the list of all
pub each_moved : (w : Surroundings) (xs : List Particle) → map (after_its_push w) xs ≡ moved_all w xs
unfolding moved_all after_its_push
each_moved w xs = refl

-- so those that are followed stay of the list,
pub still_of : (w : Surroundings) (ps qs xs ys : List Particle) → qs ≡ moved_all w ps → ys ≡ moved_all w xs → All (IsOf ps) xs → All (IsOf qs) ys
still_of w ps qs xs ys all each of =
    subst (All (IsOf qs)) (sym each)
    (subst (λ (zs : List Particle). All (IsOf zs) (moved_all w xs)) (sym all) (all_moved w ps xs of))

-- with their identities
pub same_identities : (w : Surroundings) (xs ys : List Particle) → ys ≡ moved_all w xs → identities ys ≡ identities xs
same_identities w xs ys each = ap identities each ∙ ids_kept w xs

-- of no particles none is followed
pub none_followed : (w : Surroundings) (ps xs : List Particle) → length ps ≡ 0 → All (IsOf ps) xs → xs ≡ moved_all w xs
unfolding moved_all
none_followed w ps [] none of = refl
none_followed w ps (x ∷ xs) none of = absurd (let below = (of 0 x (omega arith)).below in omega (arith, none, below))

-- a loop that pushes one after another keeps their number,
pub still_long : (f : Particle → Particle) (xs ys : List Particle) (i : ℕ) → i < length xs → ys ≡ map f (take i xs) ++ drop i xs → length ys ≡ length xs
still_long f xs ys i below so_far =
    ap length so_far ∙ length-append (map f (take i xs)) (drop i xs)
    ∙ (let front = length-map (take i xs) f ∙ length-take-le i xs (omega (arith, below)) in
    let back = length-drop i xs in
    omega (arith, front, back, below))

-- finds the next as it was,
pub not_yet : (f : Particle → Particle) (xs ys : List Particle) (i : ℕ) (x : Particle) → i < length xs → ys ≡ map f (take i xs) ++ drop i xs
    → get_or ys i x ≡ get_or xs i x
not_yet f xs ys i x below so_far =
    let long : length (map f (take i xs)) ≡ i = length-map (take i xs) f ∙ length-take-le i xs (omega (arith, below)) in
    let back : i + (i - i) ≡ i = omega arith in
    ap (λ (l : List Particle). get_or l i x) so_far ∙ get_or-append_right (map f (take i xs)) (drop i xs) i i x long (omega arith)
    ∙ get_or-drop i xs (i - i) x ∙ ap (λ (n : ℕ). get_or xs n x) back

-- and has pushed all at last
pub all_done : (w : Surroundings) (xs ys : List Particle) (i : ℕ) → length xs ≤ i → ys ≡ map (after_its_push w) (take i xs) ++ drop i xs → ys ≡ moved_all w xs
all_done w xs ys i above so_far =
    so_far ∙ (λ k. map (after_its_push w) (take_all i xs above k) ++ drop_all i xs above k) ∙ append-nil (map (after_its_push w) xs) ∙ each_moved w xs

-- those of the identities so far, and of one more
pub record AreFollowed (ps ts : List Particle) (ids : List ℕ) : Type 0 where
  pub tracers : All (IsOf ps) ts
  pub followed : identities ts ≡ ids

pub followed_more : (ps ts us : List Particle) (ids : List ℕ) (i d : ℕ) (e : Particle) → AreOrdered ps → All (λ id. id < length ps) ids → i < length ids
    → AreFollowed ps ts (take i ids) → us ≡ ts ++ get_or ps (get_or ids i d) e ∷ [] → AreFollowed ps us (take (i + 1) ids)
followed_more ps ts us ids i d e o all below so_far more =
    let id = get_or ids i d in
    let x = get_or ps id e in
    let inside = all i d below in
    record {
      tracers = subst (All (IsOf ps)) (sym more) (All-push (IsOf ps) ts x so_far.tracers (is_of ps id e o inside));
      followed = one_more ids ts us i d x below so_far.followed (identity_at ps id e o inside) more;
    }
