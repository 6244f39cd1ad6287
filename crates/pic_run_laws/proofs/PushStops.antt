-- What stops a push, within the limits of a dump: a particle of it, and a number past its limit, of 128
-- bits.
use Rattle.std.proofs.Common.{◌≡◌, ◌⊎◌, ℕ, pos, ◌-◌, ◌^◌, ◌<◌, ◌≤◌, Bool, true, false, List, length, get_or, map, sum, All, ltb, if◌then◌else◌}
use Rattle.std.proofs.Common.{unsigned_abs, Option, Some, None, Err, inl, inr, refl, sym, ap, ◌∙◌, subst, arith}
use Rattle.std.specs.Option.{option_or}
use Rattle.std.specs.List.{range_with_len}
use Rattle.std.proofs.lemmas.Bool.{ltb-true}
use Rattle.std.proofs.lemmas.Int.{fits_signed_from_abs}
use mir.Syntax.{w128}
use Rattle.pic_num.specs.declared.axis.Axis.{Axis}
use Rattle.pic_num.specs.declared.axis.Axis.TheVariants.{X, Y, Z}
use Rattle.pic_num.specs.declared.motion.Particle.{Particle}
use Rattle.pic_num.specs.declared.motion.What.{What}
use Rattle.pic_num.specs.declared.motion.What.TheVariants.{Speed, Turn, Far}
use Rattle.pic_num.specs.First.{first_of}
use Rattle.pic_num.specs.Limits.{most_side, most_speed, most_turn, velocity_unit}
use Rattle.pic_num.specs.Multiplier.{Multiplier, IsMultiplier}
use Rattle.pic_num.specs.Push.{Halting, each, plus, turned, first_above, pushed}
use Rattle.pic_num.specs.Rounding.{rounded, scaled}
use Rattle.pic_num.specs.Sizes.{IsAtMost}
use Rattle.pic_num.specs.Space.{Triple, Spot, triple, spot, along, AreAtMost}
use Rattle.pic_num.specs.Velocity.{IsKeptVelocity}
pub use Rattle.pic_num.proofs.FirstLaws.{unless_err}
use Rattle.pic_num.proofs.FirstLaws.{number_is}
use Rattle.pic_block.specs.Cells.{IsCells, IsWithin}
use Rattle.pic_grid.specs.declared.stop.Stop.{Stop}
use Rattle.pic_grid.specs.Gather.{gathered_e, gathered_b}
use Rattle.pic_grid.specs.PushPhase.{Surroundings, CanShare, kind_of, no_kind, push_of, push_stop}
use Rattle.pic_grid.proofs.LeastHaltLaws.{least_halt}
use Rattle.pic_load.specs.Loading.{no_particle}
use Rattle.pic_boris.proofs.MoveLaws.{kept_sizes}
use Rattle.pic_boris.proofs.TurnLaws.{more_at_most}
use Rattle.pic_push.proofs.PushLaws.{none_above}
use Rattle.pic_header.specs.Header.{HasMultipliers}
use Rattle.pic_record.specs.EndFields.{what_limit}
use Rattle.pic_record.specs.Layout.{LayoutView}
use Rattle.pic_record.specs.Readable.{IsPast, IsReadableStop}
use Rattle.pic_run_laws.proofs.PushSizes.{gathered_e_size, gathered_b_size, kick_size, plus_size, turned_size, move_size}

-- the first of two, or the second where there is no first
abbrev pub IsEither : {A : Type 0} → Option A → Option A → A → Type 0
IsEither o p s = (o ≡ Some s) ⊎ ((o ≡ None) × (p ≡ Some s))

pub either : {A : Type 0} (o p : Option A) (s : A) → option_or o p ≡ Some s → IsEither o p s
either None p s is = inr (refl, is)
either (Some a) p s is = inl is

-- a number that is too large on an axis
record IsAbove (what : What) (most : ℕ) (p : Spot) (h : Halting) : Type 0 where
  axis : Axis
  is : h ≡ record { what = what; axis = axis; value = along axis p }
  above : most < unsigned_abs (along axis p)

-- what a test tells of an axis
abbrev tells : What → Spot → Axis → Bool → Option Halting
tells what p axis b = if b then Some (record { what = what; axis = axis; value = along axis p }) else None

told : (what : What) (most : ℕ) (p : Spot) (axis : Axis) (b : Bool) (h : Halting) → ltb most (unsigned_abs (along axis p)) ≡ b → tells what p axis b ≡ Some h
    → IsAbove what most p h
told what most p axis true h above is = record {
  axis = axis;
  is = let same : record { what = what; axis = axis; value = along axis p } ≡ h = cc in sym same;
  above = ltb-true most (unsigned_abs (along axis p)) above;
}
told what most p axis false h above is = absurd cc

above_of : (what : What) (most : ℕ) (p : Spot) (h : Halting) → first_above what most p ≡ Some h → IsAbove what most p h
unfolding first_above first_of
above_of what most p h is = go (either _ _ h is)
  where
    third : IsEither (tells what p Z (ltb most (unsigned_abs p.z))) None h → IsAbove what most p h
    third (inl is) = told what most p Z _ h refl is
    third (inr (none, is)) = absurd cc

    second : IsEither (tells what p Y (ltb most (unsigned_abs p.y))) (option_or (tells what p Z (ltb most (unsigned_abs p.z))) None) h → IsAbove what most p h
    second (inl is) = told what most p Y _ h refl is
    second (inr (none, is)) = third (either _ _ h is)

    go : IsEither (tells what p X (ltb most (unsigned_abs p.x)))
        (option_or (tells what p Y (ltb most (unsigned_abs p.y))) (option_or (tells what p Z (ltb most (unsigned_abs p.z))) None)) h → IsAbove what most p h
    go (inl is) = told what most p X _ h refl is
    go (inr (none, is)) = second (either _ _ h is)

along_size : (a : Axis) (p : Spot) (m : ℕ) → AreAtMost p m → unsigned_abs (along a p) ≤ m
along_size X p m small = small.x.size
along_size Y p m small = small.y.size
along_size Z p m small = small.z.size

-- a number that halts a push, past its limit
abbrev IsHalt : ℕ → Halting → Type 0
IsHalt side h = IsPast (what_limit side h.what) h.value

halt_fits : (side : ℕ) (what : What) (p : Spot) (h : Halting) → AreAtMost p (2 ^ 97) → IsAbove what (what_limit side what) p h → IsHalt side h
halt_fits side what p h small is =
    let size = along_size is.axis p (2 ^ 97) small in
    subst (IsHalt side) (sym is.is) (record { past = is.above; fits = fits_signed_from_abs w128 (along is.axis p) (omega (arith, size)) })

at_most_from : (p : Spot) (m : ℕ) → ((a : Axis) → unsigned_abs (along a p) ≤ m) → AreAtMost p m
at_most_from p m small = record { x = record { size = small X }; y = record { size = small Y }; z = record { size = small Z } }

-- the parts of a push: the velocity after half of the kick, the turn, and the move
abbrev half_kick : Spot → Multiplier → Spot
half_kick e kick = each (λ c. scaled c kick) e

abbrev moved_by : Spot → Spot → Spot → Spot
moved_by kicked turn_by half = each (λ c. rounded c (pos velocity_unit)) (plus (turned kicked turn_by) half)

far_size : (kicked turn_by half : Spot) → AreAtMost half (2 ^ 96) → first_above Speed most_speed kicked ≡ None → first_above Turn most_turn turn_by ≡ None
    → AreAtMost (moved_by kicked turn_by half) (2 ^ 97)
far_size kicked turn_by half small no_speed no_turn =
    let speed = at_most_from kicked (2 ^ 40) (none_above Speed most_speed kicked no_speed) in
    let turns = at_most_from turn_by (2 ^ 24) (none_above Turn most_turn turn_by no_turn) in
    move_size (plus (turned kicked turn_by) half) (2 ^ 97)
    (plus_size (turned kicked turn_by) half (2 ^ 93) (2 ^ 96) (2 ^ 97) (omega arith) (turned_size kicked turn_by speed turns) small)

-- what halts it, where its parts are small
parts_halt : (side : ℕ) (kicked turn_by half : Spot) (h : Halting) → AreAtMost kicked (2 ^ 97) → AreAtMost turn_by (2 ^ 97) → AreAtMost half (2 ^ 96)
    → option_or (first_above Speed most_speed kicked)
    (option_or (first_above Turn most_turn turn_by) (first_above Far side (moved_by kicked turn_by half))) ≡ Some h
    → IsHalt side h
parts_halt side kicked turn_by half h small_speed small_turn small is = go (either _ _ h is)
  where
    second : first_above Speed most_speed kicked ≡ None
        → IsEither (first_above Turn most_turn turn_by) (first_above Far side (moved_by kicked turn_by half)) h → IsHalt side h
    second no_speed (inl at) = halt_fits side Turn turn_by h small_turn (above_of Turn most_turn turn_by h at)
    second no_speed (inr (no_turn, at)) =
        halt_fits side Far (moved_by kicked turn_by half) h (far_size kicked turn_by half small no_speed no_turn)
        (above_of Far side (moved_by kicked turn_by half) h at)

    go : IsEither (first_above Speed most_speed kicked)
        (option_or (first_above Turn most_turn turn_by) (first_above Far side (moved_by kicked turn_by half))) h → IsHalt side h
    go (inl at) = halt_fits side Speed kicked h small_speed (above_of Speed most_speed kicked h at)
    go (inr (no_speed, at)) = second no_speed (either _ _ h at)

-- what halts a push
pushed_halts : (side : ℕ) (v e b : Spot) (kick turn : Multiplier) (h : Halting) → AreAtMost v (2 ^ 31 - 1) → AreAtMost e (2 ^ 65) → AreAtMost b (2 ^ 65)
    → IsMultiplier kick → IsMultiplier turn → pushed side v e b kick turn ≡ Err h → IsHalt side h
unfolding pushed
pushed_halts side v e b kick turn h slow near_e near_b kick_is turn_is halts =
    let half = half_kick e kick in
    let small = kick_size e kick kick_is near_e in
    let turn_by = half_kick b turn in
    parts_halt side (plus v half) turn_by half h (plus_size v half (2 ^ 31 - 1) (2 ^ 96) (2 ^ 97) (omega arith) slow small)
    (more_at_most turn_by (2 ^ 96) (2 ^ 97) (omega arith) (kick_size b turn turn_is near_b)) small (unless_err _ _ h halts)

-- a push phase within the limits: its force values, its particles and its species
pub record IsSmallPush (w : Surroundings) (particles : List Particle) : Type 0 where
  pub some : 0 < w.side
  pub most : w.side ≤ most_side
  pub cells : IsCells w.cells
  pub e : (a : Axis) (p : Triple) → IsWithin p w.cells → IsAtMost (w.of_e a p) (2 ^ 44)
  pub b : (a : Axis) (p : Triple) → IsWithin p w.cells → IsAtMost (w.of_b a p) (2 ^ 44)
  pub mults : All HasMultipliers w.kinds
  pub shares : All (CanShare w.side w.cells w.kinds) particles
  pub velocities : All (λ particle. IsKeptVelocity w.side (spot particle.v)) particles
  pub identities : map (λ particle. particle.id) particles ≡ range_with_len 0 (length particles)

push_halts : (w : Surroundings) (particles : List Particle) (i : ℕ) (d : Particle) (h : Halting) → IsSmallPush w particles → i < length particles
    → push_of w (get_or particles i d) ≡ Err h → IsHalt w.side h
unfolding push_of
push_halts w particles i d h small below halts =
    let particle = get_or particles i d in
    let mult = small.mults particle.species no_kind (small.shares i d below).species in
    pushed_halts w.side (spot particle.v) (gathered_e w.side w.cells w.of_e (triple particle.x)) (gathered_b w.side w.cells w.of_b (triple particle.x))
    (kind_of w.kinds particle).kick (kind_of w.kinds particle).turn h
    (kept_sizes w.side (spot particle.v) small.most (small.velocities i d below))
    (gathered_e_size w.side w.cells w.of_e (triple particle.x) small.some small.cells small.e)
    (gathered_b_size w.side w.cells w.of_b (triple particle.x) small.some small.cells small.b)
    mult.kick mult.turn halts

-- what stops the push phase
pub push_stop_fits : (l : LayoutView) (w : Surroundings) (particles : List Particle) (stop : Stop) → IsSmallPush w particles → w.side ≡ l.side
    → length particles ≡ sum l.counts → push_stop w particles ≡ Some stop → IsReadableStop l stop
push_stop_fits l w particles stop small side count is =
    let halt = ((least_halt w particles small.identities).some stop).0 is in
    let i = halt.among.0 in
    let below = halt.among.1 in
    let at = halt.among.2 in
    let past = push_halts w particles i halt.particle halt.halting small below (ap (push_of w) at ∙ halt.halts) in
    let id = ap (λ (p : Particle). p.id) (sym at) ∙ number_is (λ (p : Particle). p.id) particles no_particle small.identities i halt.particle below in
    subst (IsReadableStop l) (sym halt.named) (record {
      identity = omega (arith, id, below, count);
      number = subst (λ (n : ℕ). IsPast (what_limit n halt.halting.what) halt.halting.value) side past;
    })
