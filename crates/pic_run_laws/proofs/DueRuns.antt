-- The states of a run that are due are those whose frames a reader awaits, one after another, and where
-- it stops fits behind them.
use Rattle.std.proofs.Common.{◌≡◌, ℕ, zero, suc, ◌+◌, ◌<◌, ◌≤◌, true, false, if◌then◌else◌, [], ◌∷◌, ◌++◌, Result, Ok, Err}
use Rattle.std.proofs.Common.{refl, sym, ap, ◌∙◌, arith}
use Rattle.pic_num.specs.Limits.{most_steps}
use Rattle.pic_grid.specs.declared.stop.EndMark.{EndMark}
use Rattle.pic_grid.specs.declared.stop.EndMark.TheVariants.{Stopped}
use Rattle.pic_grid.specs.declared.stop.Stop.{Stop}
use Rattle.pic_record.specs.Due.{is_due}
use Rattle.pic_record.specs.Layout.{LayoutView}
use Rattle.pic_states.specs.Frames.{due_state, due_states}
use Rattle.pic_states.proofs.FrameLaws.{due_now}
use Rattle.pic_step.specs.SerialStep.{World, stepped}
use Rattle.pic_step.specs.SerialRun.{after, step_from, stopped_in}
use Rattle.pic_step.proofs.AfterLaws.{step_after}
use Rattle.pic_record.specs.Readable.{IsReadableStop}
use Rattle.pic_run_laws.proofs.StateFits.{IsGoodState, StopsFit, good_after}

module _ (steps every : ℕ) (w : World) (begins : w.step ≡ 0)
  where
    -- the number of a state that a run came to
    pub step_is : (n : ℕ) (v : World) → after w n ≡ Ok v → v.step ≡ n
    step_is n v reached = let came = step_after w v n reached in omega (arith, came, begins)

    -- no state is due at a step at which none is
    none_of : (n : ℕ) (r : Result World EndMark) → after w n ≡ r → is_due steps every n ≡ false → due_state steps every r ≡ []
    none_of n (Ok v) at not_due = ap (λ due. if due then v ∷ [] else []) (ap (is_due steps every) (step_is n v at) ∙ not_due)
    none_of n (Err end) at not_due = refl

    pub skipped : (first m n : ℕ) → ((step : ℕ) → first ≤ step → step < first + m → is_due steps every step ≡ false)
        → due_states steps every w first (m + n) ≡ due_states steps every w (first + m) n
    unfolding due_states
    skipped first zero n none =
        let here : first ≡ first + 0 = omega arith in
        let same : 0 + n ≡ n = omega arith in
        λ i. due_states steps every w (here i) (same i)
    skipped first (suc m) n none =
        let same : suc m + n ≡ suc (m + n) = omega arith in
        let on : first + 1 + m ≡ first + suc m = omega arith in
        ap (due_states steps every w first) same
        ∙ ap (λ t. t ++ due_states steps every w (first + 1) (m + n)) (none_of first (after w first) refl (none first (omega arith) (omega arith)))
        ∙ skipped (first + 1) m n (λ step low high. none step (omega (arith, low)) (omega (arith, high)))
        ∙ ap (λ k. due_states steps every w k n) on

    -- the state at a step at which one is
    pub due_at : (n count : ℕ) (v : World) → is_due steps every n ≡ true → after w n ≡ Ok v
        → due_states steps every w n (suc count) ≡ v ∷ due_states steps every w (n + 1) count
    unfolding due_states
    due_at n count v due reached =
        ap (λ r. due_state steps every r ++ due_states steps every w (n + 1) count) reached
        ∙ ap (λ t. t ++ due_states steps every w (n + 1) count) (due_now steps every v (ap (is_due steps every) (step_is n v reached) ∙ due))

-- where a run stopped between two steps
pub record StopsIn (l : LayoutView) (n m : ℕ) (end : EndMark) : Type 0 where
  pub step : ℕ
  pub stop : Stop
  pub is : end ≡ Stopped step stop
  pub behind : n < step
  pub most : step ≤ m
  pub fits : IsReadableStop l stop

module _ (l : LayoutView) (w : World) (few : l.steps ≤ most_steps) (begins : w.step ≡ 0) (fit : StopsFit l) (start : IsGoodState l w)
  where
    pub good_at : (n : ℕ) (v : World) → n ≤ l.steps → after w n ≡ Ok v → IsGoodState l v
    good_at n v most reached = good_after l w start n v (omega (arith, few, begins, most)) reached

    pub stops_in : (v : World) (n m k : ℕ) (end : EndMark) → n + k ≡ m → m ≤ l.steps → after w n ≡ Ok v → after w m ≡ Err end → StopsIn l n m end
    unfolding after
    stops_in v n m zero end is far reached stops =
        let same : n ≡ m = omega (arith, is) in
        let both : ◌≡◌ {A = Result World EndMark} (Ok v) (Err end) = sym reached ∙ ap (after w) same ∙ stops in
        absurd cc
    stops_in v n m (suc k) end is far reached stops =
        let last : m ≡ suc (n + k) = omega (arith, is) in
        go (λ other at. stops_in v n (n + k) k other refl (omega (arith, is, far)) reached at) (after w (n + k)) refl (ap (after w) (sym last) ∙ stops)
      where
        further : (s : StopsIn l n (n + k) end) → StopsIn l n m end
        further s =
            let most = s.most in
            record { step = s.step; stop = s.stop; is = s.is; behind = s.behind; most = omega (arith, most, is); fits = s.fits }

        here : (u : World) → u.step ≡ n + k → IsGoodState l u → (r : Result World Stop) → stepped u ≡ r → stopped_in (suc u.step) r ≡ Err end
            → StopsIn l n m end
        here u at good (Ok next) steps e = absurd cc
        here u at good (Err stop) steps e =
            let same : Stopped (suc u.step) stop ≡ end = cc in
            record { step = suc u.step; stop = stop; is = sym same; behind = omega (arith, at); most = omega (arith, is, at); fits = fit u stop good steps }

        go : ((other : EndMark) → after w (n + k) ≡ Err other → StopsIn l n (n + k) other)
            → (r : Result World EndMark) → after w (n + k) ≡ r → step_from r ≡ Err end → StopsIn l n m end
        go before (Ok u) at e =
            here u (step_is l.steps l.every w begins (n + k) u at) (good_at (n + k) u (omega (arith, is, far)) at) (stepped u) refl e
        go before (Err other) at e =
            let same : other ≡ end = cc in
            further (before end (at ∙ ap (λ (o : EndMark). Err o) same))
