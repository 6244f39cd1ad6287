-- What stops a step of a good state is a stop that its dump can say.
use Rattle.std.proofs.Common.{◌≡◌, ◌<◌, List, All, Some, None, inl, inr, sym, subst, arith}
use Rattle.std.specs.Option.{option_or}
use Rattle.pic_num.specs.declared.motion.Kind.{Kind}
use Rattle.pic_num.specs.declared.mult.Scales.{Scales}
use Rattle.pic_grid.specs.declared.stop.Phase.{Phase}
use Rattle.pic_grid.specs.declared.stop.Phase.TheVariants.{Half1, Half2, Electric}
use Rattle.pic_grid.specs.declared.stop.Stop.{Stop}
use Rattle.pic_grid.specs.Current.{current}
use Rattle.pic_grid.specs.PushPhase.{push_stop}
use Rattle.pic_header.specs.Header.{AreMultipliers, HasMultipliers}
use Rattle.pic_record.specs.Layout.{LayoutView}
use Rattle.pic_step.specs.SerialStep.{World, e_of, b_of, around, half_at, full_at, half_on, push_on}
use Rattle.pic_step.specs.SerialStep.{current_of, before_electric, half_stop, full_stop, stop_of_step, stepped}
use Rattle.pic_step.specs.Sound.{IsSafe}
use Rattle.pic_step.proofs.SoundLaws.{safe_after}
use Rattle.pic_record.specs.Readable.{IsReadableStop}
use Rattle.pic_run_laws.proofs.StateFits.{IsGoodState, StopsFit}
use Rattle.pic_run_laws.proofs.FieldStops.{half_size, full_size, phase_stop_fits}
use Rattle.pic_run_laws.proofs.CurrentSizes.{current_size, filtered_size}
use Rattle.pic_run_laws.proofs.PushStops.{IsEither, either, unless_err, push_stop_fits}

-- B after a half step without a stop
safe_half : (w : World) (phase : Phase) → half_stop phase w ≡ None → IsSafe w.scales.b_force (b_of (half_on w))
safe_half w phase none = safe_after phase w.scales.b_force w.side w.cells (half_at w) none

-- half a step of B
half_fits : (l : LayoutView) (w : World) (phase : Phase) (stop : Stop) → w.cells ≡ l.cells → AreMultipliers w.scales
    → IsSafe w.scales.e_force (e_of w) → IsSafe w.scales.b_force (b_of w) → half_stop phase w ≡ Some stop → IsReadableStop l stop
half_fits l w phase stop cells mults e b is =
    phase_stop_fits l phase w.scales.b_force w.cells (half_at w) stop cells mults.b_force (λ a p within. half_size w a p mults.e_to_b e b within) is

module _ (l : LayoutView) (scales : AreMultipliers l.scales) (kinds : All HasMultipliers l.kinds) (w : World) (good : IsGoodState l w)
  where
    mults : AreMultipliers w.scales
    mults = subst (λ (s : Scales). AreMultipliers s) (sym good.of.scales) scales

    kind_mults : All HasMultipliers w.kinds
    kind_mults = subst (λ (ks : List Kind). All HasMultipliers ks) (sym good.of.kinds) kinds

    above : 0 < w.side
    above = let least = good.sound.side_least in omega (arith, least)

    push_fits : (stop : Stop) → half_stop Half1 w ≡ None → push_stop (around (half_on w)) w.particles ≡ Some stop → IsReadableStop l stop
    push_fits stop none is =
        let sound = good.sound in
        let b = safe_half w Half1 none in
        push_stop_fits l (around (half_on w)) w.particles stop (record {
          some = above;
          most = sound.side_most;
          cells = sound.cells;
          e = λ a p within. (sound.e.bounded a p within).force;
          b = λ a p within. (b.bounded a p within).force;
          mults = kind_mults;
          shares = sound.places;
          velocities = sound.velocities;
          identities = sound.ordered.identities;
        }) good.of.side good.of.count is

    full_fits : (stop : Stop) → half_stop Half1 w ≡ None → half_stop Half2 (push_on (half_on w)) ≡ None
        → full_stop (current_of (half_on w)) (before_electric w) ≡ Some stop → IsReadableStop l stop
    full_fits stop first second is =
        let sound = good.sound in
        let b = safe_half (push_on (half_on w)) Half2 second in
        let j = current_of (half_on w) in
        phase_stop_fits l Electric w.scales.e_force w.cells (full_at j (before_electric w)) stop good.of.cells mults.e_force
        (λ a p within. full_size (before_electric w) j a p mults.b_to_e sound.e b sound.loops
        (filtered_size w.filter w.cells (current (around (half_on w)) w.particles a) p
        (λ q. current_size (around (half_on w)) w.particles a q above sound.side_most sound.kinds.limits sound.few) within) within) is

    behind_push : (stop : Stop) → half_stop Half1 w ≡ None
        → IsEither (half_stop Half2 (push_on (half_on w))) (full_stop (current_of (half_on w)) (before_electric w)) stop → IsReadableStop l stop
    behind_push stop first (inl found) =
        half_fits l (push_on (half_on w)) Half2 stop good.of.cells mults good.sound.e (safe_half w Half1 first) found
    behind_push stop first (inr (none, found)) = full_fits stop first none found

    behind_half : (stop : Stop) → half_stop Half1 w ≡ None
        → IsEither (push_stop (around (half_on w)) w.particles)
        (option_or (half_stop Half2 (push_on (half_on w))) (full_stop (current_of (half_on w)) (before_electric w))) stop → IsReadableStop l stop
    behind_half stop first (inl found) = push_fits stop first found
    behind_half stop first (inr (none, found)) = behind_push stop first (either _ _ stop found)

    stop_fits : (stop : Stop) → stop_of_step w ≡ Some stop → IsReadableStop l stop
    unfolding stop_of_step
    stop_fits stop is = go (either _ _ stop is)
      where
        go : IsEither (half_stop Half1 w) (option_or (push_stop (around (half_on w)) w.particles)
            (option_or (half_stop Half2 (push_on (half_on w))) (full_stop (current_of (half_on w)) (before_electric w)))) stop → IsReadableStop l stop
        go (inl found) = half_fits l w Half1 stop good.of.cells mults good.sound.e good.sound.b found
        go (inr (first, found)) = behind_half stop first (either _ _ stop found)

-- every stop of a good state
pub stops_fit : (l : LayoutView) → AreMultipliers l.scales → All HasMultipliers l.kinds → StopsFit l
unfolding stepped
stops_fit l scales kinds v stop good stops = stop_fits l scales kinds v good stop (unless_err _ _ stop stops)
