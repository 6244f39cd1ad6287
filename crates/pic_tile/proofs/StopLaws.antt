-- What stops the push of particles in any order: what is found of them at the least identity.
use Rattle.std.proofs.Common.{◌≡◌, ℕ, zero, suc, ◌<◌, Bool, List, [], ◌∷◌, ◌++◌, length, get_or, filter}
use Rattle.std.proofs.Common.{All, Option, None, Some, IsOk, refl, sym, ap, subst, arith}
use Rattle.std.specs.List.{Contains}
use Rattle.std.proofs.lemmas.List.Elements.{All-filter, All-contains, Contains-get_or}
use Rattle.std.proofs.lemmas.List.Elements.{Contains-append_left, Contains-append_right, Contains-append_cases}
use Rattle.pic_num.specs.declared.motion.Particle.{Particle}
use Rattle.pic_num.proofs.LeastLaws.{Finds, finds_at, finds_along, finds_both, keys_named, lesser_by}
use Rattle.pic_grid.specs.declared.stop.Stop.{Stop}
use Rattle.pic_grid.specs.PushPhase.{Surroundings, push_of, push_stop}
use Rattle.pic_grid.proofs.LeastHaltLaws.{stop_of, goes_on, none_on, halts_at, least_is_halt, halt_is_least, stop_is_found, least_halt}
use Rattle.pic_tile.specs.Same.{Same}
use Rattle.pic_tile.specs.InOrder.{AreOrdered}
use Rattle.pic_tile.specs.StopOf.{IsStopOf, identity_of, lesser, LeastStopInAnyOrder}
use Rattle.pic_tile.proofs.SameLaws.{same_sym}
use Rattle.pic_tile.proofs.DiscreteLaws.{particle_discrete, contains_same, all_same}

abbrev GoesOn : Surroundings → Particle → Type 0
GoesOn w x = IsOk (push_of w x)

-- the stop is what is found at the least identity
abbrev FindsStop : Surroundings → List Particle → Option Stop → Type 0
FindsStop w xs o = Finds (Contains xs) (λ x. x.id) (stop_of w) o

finds_stop : (w : Surroundings) (xs : List Particle) (o : Option Stop) → IsStopOf w xs o → FindsStop w xs o
finds_stop w xs o is = record {
  none = λ e x there. none_on w x (All-contains (GoesOn w) xs x (is.none e) there);
  some = λ s e. halt_is_least w xs s (is.some s e);
}

stop_finds : (w : Surroundings) (xs : List Particle) (o : Option Stop) → FindsStop w xs o → IsStopOf w xs o
stop_finds w xs o f = record {
  none = λ e i d below. goes_on w (get_or xs i d) (f.none e (get_or xs i d) (Contains-get_or xs i d below));
  some = λ s e. least_is_halt w xs s (f.some s e);
}

pub stop_none : (w : Surroundings) (xs : List Particle) → All (λ x. IsOk (push_of w x)) xs → IsStopOf w xs None
stop_none w xs all = record { none = λ e. all; some = λ s e. absurd (cc) }

pub lesser_is : (a b : Option Stop) → lesser_by identity_of a b ≡ lesser a b
unfolding lesser_by lesser
lesser_is None b = refl
lesser_is (Some a) None = refl
lesser_is (Some a) (Some b) = refl

-- a stop names the identity of its particle
named : (w : Surroundings) (x : Particle) (s : Stop) → stop_of w x ≡ Some s → identity_of s ≡ x.id
unfolding identity_of
named w x s some = ap identity_of (halts_at w x s some).named

-- the stop of two parts is the lesser of theirs
pub stop_append : (w : Surroundings) (xs ys : List Particle) (a b : Option Stop) → IsStopOf w xs a → IsStopOf w ys b → IsStopOf w (xs ++ ys) (lesser a b)
stop_append w xs ys a b p q = stop_finds w (xs ++ ys) (lesser a b) (subst (FindsStop w (xs ++ ys)) (lesser_is a b)
    (finds_both identity_of (keys_named (Contains xs) (Contains ys) identity_of (named w)) (Contains-append_left xs ys) (Contains-append_right xs ys)
    (Contains-append_cases xs ys) a b
    (finds_stop w xs a p) (finds_stop w ys b q)))

-- and in any order
pub stop_same : (w : Surroundings) (xs ys : List Particle) (stop : Option Stop) → Same xs ys → IsStopOf w xs stop → IsStopOf w ys stop
stop_same w xs ys stop s is = stop_finds w ys stop (finds_along stop (finds_stop w xs stop is) (Contains ys) (λ x. x.id) (stop_of w) (λ (x : Particle). x)
    (λ x there. contains_same particle_discrete xs ys x s there)
    (λ x there. (x, contains_same particle_discrete ys xs x (same_sym xs ys s) there, refl)) (λ x there. refl) (λ x y there other less. less))

-- of particles in the order of their identities it is the stop of the push phase
pub stop_is : (w : Surroundings) (xs : List Particle) (stop : Option Stop) → AreOrdered xs → IsStopOf w xs stop → stop ≡ push_stop w xs
stop_is w xs stop o is = sym (stop_is_found w xs o.identities stop (finds_stop w xs stop is))

pub stop_of_any : LeastStopInAnyOrder
stop_of_any w xs ys stop s o is = stop_is w ys stop o (stop_same w xs ys stop s is)

-- where a push phase has no stop none of its parts has one
pub quiet_part : (w : Surroundings) (ys part : List Particle) (p : Particle → Bool) (stop : Option Stop)
    → AreOrdered ys → push_stop w ys ≡ None → Same part (filter p ys) → IsStopOf w part stop → stop ≡ None
quiet_part w ys part p stop o quiet s is = go stop (finds_stop w part stop is)
  where
    all : All (GoesOn w) part
    all = all_same particle_discrete (GoesOn w) (filter p ys) part (same_sym part (filter p ys) s)
        (All-filter p (GoesOn w) ys ((least_halt w ys o.identities).none.0 quiet))

    go : (t : Option Stop) → FindsStop w part t → t ≡ None
    go None f = refl
    go (Some t) f =
        let l = f.some t refl in
        let some = l.found in
        let none = none_on w l.at (All-contains (GoesOn w) part l.at all l.within) in absurd (cc)

-- the stop of one particle
pub stop_one : (w : Surroundings) (x : Particle) → IsStopOf w (x ∷ []) (stop_of w x)
stop_one w x = stop_finds w (x ∷ []) (stop_of w x) (finds_along (stop_of w x) (finds_at (λ (y : Particle). y.id) (stop_of w) x)
    (Contains (x ∷ [])) (λ y. y.id) (stop_of w) (λ (y : Particle). y)
    (λ y same. (0, omega arith, same)) (λ y there. (y, only y there.0 there.1 there.2, refl)) (λ y same. refl) (λ y z same other less. less))
  where
    only : (y : Particle) (k : ℕ) → k < length (x ∷ []) → get_or (x ∷ []) k y ≡ y → x ≡ y
    only y zero below is = is
    only y (suc k) below is = absurd (omega (arith, below))
