-- The first particle of a list that halts has the least identity, where the identities are 0, 1, .. in order.
use Rattle.std.proofs.Common.{◌≡◌, ◌<◌, List, length, get_or, map, Option, None, Some, Result, Ok, Err, IsOk, refl, sym, ap, ◌∙◌, subst}
use Rattle.std.specs.List.{Contains, range_with_len}
use Rattle.std.proofs.lemmas.List.Elements.{All-contains, Contains-get_or}
use Rattle.pic_num.specs.declared.motion.Particle.{Particle}
use Rattle.pic_num.specs.NoParticle.{no_particle}
use Rattle.pic_num.specs.Push.{Shift, Halting}
use Rattle.pic_num.proofs.FirstLaws.{list_finds, list_is}
use Rattle.pic_num.proofs.LeastLaws.{IsLeast, Finds, finds_none, finds_some}
use Rattle.pic_grid.specs.declared.stop.Stop.{Stop}
use Rattle.pic_grid.specs.declared.stop.Stop.TheVariants.{Push}
use Rattle.pic_grid.specs.PushPhase.{Surroundings, push_of, halt_of, push_stop}
use Rattle.pic_grid.specs.LeastHalt.{LeastHalt, IsLeastHalt}

-- the stop of a particle's push
abbrev pub stop_of : Surroundings → Particle → Option Stop
stop_of w x = halt_of x (push_of w x)

-- one that goes on has none,
pub goes_on : (w : Surroundings) (x : Particle) → stop_of w x ≡ None → IsOk (push_of w x)
unfolding halt_of
goes_on w x none = go (push_of w x) refl none
  where
    go : (r : Result Shift Halting) → push_of w x ≡ r → halt_of x r ≡ None → IsOk (push_of w x)
    go (Ok m) is none = subst IsOk (sym is) refl
    go (Err h) is none = absurd (cc)

pub none_on : (w : Surroundings) (x : Particle) → IsOk (push_of w x) → stop_of w x ≡ None
unfolding halt_of
none_on w x ok = go (push_of w x) refl ok
  where
    go : (r : Result Shift Halting) → push_of w x ≡ r → IsOk r → stop_of w x ≡ None
    go (Ok m) is ok = ap (halt_of x) is
    go (Err h) is ok = absurd (cc)

-- and one that halts that of its halt
pub record Halts (w : Surroundings) (x : Particle) (stop : Stop) : Type 0 where
  pub halting : Halting
  pub halts : push_of w x ≡ Err halting
  pub named : stop ≡ Push x.id halting.what halting.axis halting.value

pub halts_at : (w : Surroundings) (x : Particle) (stop : Stop) → stop_of w x ≡ Some stop → Halts w x stop
unfolding halt_of
halts_at w x stop some = go (push_of w x) refl some
  where
    go : (r : Result Shift Halting) → push_of w x ≡ r → halt_of x r ≡ Some stop → Halts w x stop
    go (Ok m) is some = absurd (cc)
    go (Err h) is some = record { halting = h; halts = is; named = let same : Push x.id h.what h.axis h.value ≡ stop = cc in sym same }

-- a stop that is found at the least identity is that of the least halt
pub least_is_halt : (w : Surroundings) (xs : List Particle) (stop : Stop) → IsLeast (Contains xs) (λ x. x.id) (stop_of w) stop → IsLeastHalt w xs stop
least_is_halt w xs stop l =
    let h = halts_at w l.at stop l.found in
    record {
      particle = l.at;
      halting = h.halting;
      among = l.within;
      halts = h.halts;
      named = h.named;
      least = λ i d below less. goes_on w (get_or xs i d) (l.before (get_or xs i d) (Contains-get_or xs i d below) less);
    }

pub halt_is_least : (w : Surroundings) (xs : List Particle) (stop : Stop) → IsLeastHalt w xs stop → IsLeast (Contains xs) (λ x. x.id) (stop_of w) stop
unfolding halt_of
halt_is_least w xs stop h = record {
  at = h.particle;
  within = h.among;
  found = ap (halt_of h.particle) h.halts ∙ ap (λ (s : Stop). Some s) (sym h.named);
  before = λ x there less. none_on w x (All-contains (λ y. y.id < h.particle.id → IsOk (push_of w y)) xs x h.least there less);
}

-- of particles in the order of their identities it is the stop of their push
module _ (w : Surroundings) (xs : List Particle) (ids : map (λ x. x.id) xs ≡ range_with_len 0 (length xs))
  where
    stop_found : Finds (Contains xs) (λ x. x.id) (stop_of w) (push_stop w xs)
    unfolding push_stop
    stop_found = list_finds (λ (x : Particle). x.id) (stop_of w) xs no_particle ids

    pub stop_is_found : (o : Option Stop) → Finds (Contains xs) (λ x. x.id) (stop_of w) o → push_stop w xs ≡ o
    unfolding push_stop
    stop_is_found o f = list_is (λ (x : Particle). x.id) (stop_of w) xs no_particle ids o f

pub least_halt : LeastHalt
least_halt w xs ids = record {
  none = (
    (λ e i d below. goes_on w (get_or xs i d) ((stop_found w xs ids).none e (get_or xs i d) (Contains-get_or xs i d below))),
    (λ all. stop_is_found w xs ids None (finds_none (λ x there. none_on w x (All-contains (λ y. IsOk (push_of w y)) xs x all there)))),
  );
  some = λ stop. (
    (λ e. least_is_halt w xs stop ((stop_found w xs ids).some stop e)),
    (λ h. stop_is_found w xs ids (Some stop) (finds_some stop (halt_is_least w xs stop h))),
  );
}
