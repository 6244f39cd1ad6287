-- How the exits of a reader answer a walk.
use Rattle.std.proofs.Common.{◌≡◌, List, ℕ, Option, Some, None, Result, Ok, Err, IsErrAnd, ap, refl, sym, ◌∙◌}
use Rattle.std.proofs.lemmas.Result.{err_from_is_err_and}
use Rattle.pic_walk.specs.declared.fault.Fault.{Fault}
use Rattle.pic_walk.specs.declared.fault.WalkStop.{WalkStop}
use Rattle.pic_walk.specs.declared.fault.WalkStop.TheVariants.{Found, NoMemory}
use Rattle.toml.specs.Data.{Data}
use Rattle.pic_walk.specs.Walk.{Walked, ◌>>=◌, some_or, given, IsFault, WalksAs}

-- a walk that went well goes on with its value
pub then_ok : {A B : Type 0} (w : Walked A) (a : A) (f : A → Walked B) → w ≡ Ok a → w >>= f ≡ f a
unfolding ◌>>=◌
then_ok w a f e = rw e

-- a refusal stays
pub then_err : {A B : Type 0} (w : Walked A) (q : Fault) (f : A → Walked B) → w ≡ Err q → w >>= f ≡ Err q
unfolding ◌>>=◌
then_err w q f e = rw e

-- a walk of two parts that went well: what the first one gave, and the second from there
pub record Went {A B : Type 0} (w : Walked A) (f : A → Walked B) (b : B) : Type 0 where
  pub value : A
  pub first : w ≡ Ok value
  pub then : f value ≡ Ok b

pub went : {A B : Type 0} (w : Walked A) (f : A → Walked B) (b : B) → w >>= f ≡ Ok b → Went w f b
unfolding ◌>>=◌
went (Ok a) f b e = record { value = a; first = refl; then = e }
went (Err q) f b e = absurd (cc e)

pub goes_on : {A B C : Type 0} (w : Walked A) (a : A) (f : A → Walked B) {t : C → B} {r : Result C WalkStop} → w ≡ Ok a → WalksAs t (f a) r
    → WalksAs t (w >>= f) r
goes_on w a f e h = rw (then_ok w a f e) h

-- a fault before answers the whole walk
pub stays : {A B C D : Type 0} (w : Walked A) (f : A → Walked B) (e : WalkStop) {s : D → A} {t : C → B} → WalksAs s w (Err e) → WalksAs t (w >>= f) (Err e)
stays w f (Found q) h = record { answer = then_err w q f h.answer }
stays w f NoMemory h = record { answer = tt }

-- the exit of a `?`
pub exits : {A B C D : Type 0} (w : Walked A) (f : A → Walked B) {e : WalkStop} {s : D → A} {t : C → B} {r : Result C WalkStop}
    → IsErrAnd r (λ y. y ≡ e) → WalksAs s w (Err e) → WalksAs t (w >>= f) r
exits w f {e} {s} {t} {r} h fault =
    let p = err_from_is_err_and r h in
    rw (p.1, p.2) (stays w f e fault)

-- a fault answers the walk whatever the value is seen as
same_fault : {A C D : Type 0} (w : Walked A) (e : WalkStop) {s : D → A} {t : C → A} → WalksAs s w (Err e) → WalksAs t w (Err e)
same_fault w (Found q) h = record { answer = h.answer }
same_fault w NoMemory h = record { answer = tt }

-- the exit of a `?` whose walk is the whole walk
pub exits_as : {A C D : Type 0} (w : Walked A) {e : WalkStop} {s : D → A} {t : C → A} {r : Result C WalkStop} → IsErrAnd r (λ y. y ≡ e)
    → WalksAs s w (Err e) → WalksAs t w r
exits_as w {e} {s} {t} {r} h fault =
    let p = err_from_is_err_and r h in
    rw (p.1, p.2) (same_fault w e fault)

-- a fault that is this refusal, or want of memory, answers a walk that refuses so
pub refuses : {A C : Type 0} (w : Walked A) (q : Fault) (e : WalkStop) {t : C → A} → IsFault q e → w ≡ Err q → WalksAs t w (Err e)
refuses w q (Found p) is h = record { answer = h ∙ ap Err (sym is) }
refuses w q NoMemory is h = record { answer = tt }

-- there is a value, or there is none
pub there : {A : Type 0} (q : Fault) (o : Option A) (a : A) → o ≡ Some a → some_or q o ≡ Ok a
unfolding some_or
there q o a e = rw e

pub lacks : {A : Type 0} (q : Fault) (o : Option A) → o ≡ None → some_or q o ≡ Err q
unfolding some_or
lacks q o e = rw e

-- a key that is there is walked, one that is absent gives its default
pub given_some : {A C : Type 0} (a : A) (f : List ℕ → Data → Walked A) (path : List ℕ) (o : Option Data) (d : Data) {t : C → A}
    {r : Result C WalkStop} → o ≡ Some d → WalksAs t (f path d) r → WalksAs t (given a f path o) r
unfolding given
given_some a f path o d e h = rw e h

pub given_none : {A C : Type 0} (a : A) (f : List ℕ → Data → Walked A) (path : List ℕ) (o : Option Data) {t : C → A} {r : Result C WalkStop} → o
    ≡ None → WalksAs t (Ok a) r → WalksAs t (given a f path o) r
unfolding given
given_none a f path o e h = rw e h
