-- From a state of a run on whose frame is due: the due states behind it, in turn, and the end of the run
-- behind the last of them.
use Rattle.std.proofs.Common.{◌≡◌, ℕ, zero, suc, ◌+◌, ◌-◌, ◌*◌, ◌<◌, ◌≤◌, List, [], ◌∷◌, length, get_or, min, IsTrue, Some, None, Result, Ok, Err}
use Rattle.std.proofs.Common.{IsSomeAnd, MatchOption, inl, inr, refl, sym, ap, ◌∙◌, subst, arith}
use Rattle.std.proofs.lemmas.Bool.{cases_lt, lt-ltb, le-ltb}
use Rattle.pic_num.specs.Limits.{most_steps}
use Rattle.pic_grid.specs.declared.stop.EndMark.{EndMark}
use Rattle.pic_grid.specs.declared.stop.EndMark.TheVariants.{Done, Stopped}
use Rattle.pic_grid.specs.declared.stop.Stop.{Stop}
use Rattle.pic_record.specs.Due.{is_due, due_after}
use Rattle.pic_record.specs.DueInTurn.{IsNextDue}
use Rattle.pic_record.proofs.DueLaws.{due_in_turn}
use Rattle.pic_record.specs.Layout.{LayoutView}
use Rattle.pic_states.specs.Frames.{due_states, end_where, end_of_run}
use Rattle.pic_states.proofs.FrameLaws.{none_due, end_stopped}
use Rattle.pic_step.specs.SerialStep.{World}
use Rattle.pic_step.specs.SerialRun.{after}
use Rattle.pic_dump.specs.InTurn.{due_step, step_before}
use Rattle.pic_record.specs.Readable.{IsReadableStop, IsReadableEnd}
use Rattle.pic_run_laws.proofs.StateFits.{IsGoodState, StopsFit}
use Rattle.pic_run_laws.proofs.DueRuns.{step_is, skipped, due_at, stops_in, good_at}

-- a good state whose frame is awaited as record k
pub record IsTurn (l : LayoutView) (k : ℕ) (v : World) : Type 0 where
  pub awaited : due_after l.steps l.every (step_before l k) ≡ Some v.step
  pub good : IsGoodState l v

-- such states in turn behind record k, and behind the last of them this end
pub record Goes (l : LayoutView) (k : ℕ) (vs : List World) (end : EndMark) : Type 0 where
  pub each : (j : ℕ) (d : World) → j < length vs → IsTurn l (suc k + j) (get_or vs j d)
  pub end_fits : IsReadableEnd l (due_step l (k + length vs)) end

-- no state behind the last one
last_goes : (l : LayoutView) (k : ℕ) (vs : List World) (end : EndMark) → vs ≡ [] → IsReadableEnd l (due_step l k) end → Goes l k vs end
last_goes l k vs end none fits =
    let here : k ≡ k + 0 = omega arith in
    subst (λ (ws : List World). Goes l k ws end) (sym none) (record {
      each = λ j d below. absurd (omega (arith, below));
      end_fits = subst (λ (n : ℕ). IsReadableEnd l (due_step l n) end) here fits;
    })

-- a state, and what goes on behind it
more_goes : (l : LayoutView) (k : ℕ) (v : World) (vs : List World) (end : EndMark) → IsTurn l (suc k) v → Goes l (suc k) vs end → Goes l k (v ∷ vs) end
more_goes l k v vs end turn rest =
    let far : suc k + length vs ≡ k + suc (length vs) = omega arith in
    record {
      each = each;
      end_fits = subst (λ (n : ℕ). IsReadableEnd l (due_step l n) end) far rest.end_fits;
    }
  where
    each : (j : ℕ) (d : World) → j < length (v ∷ vs) → IsTurn l (suc k + j) (get_or (v ∷ vs) j d)
    each zero d below = subst (λ (n : ℕ). IsTurn l n v) (let e : suc k ≡ suc k + 0 = omega arith in e) turn
    each (suc j) d below = subst (λ (n : ℕ). IsTurn l n (get_or vs j d)) (let e : suc (suc k) + j ≡ suc k + suc j = omega arith in e)
        (rest.each j d (omega (arith, below)))

-- the steps that are due
due_most : (l : LayoutView) (k : ℕ) → due_step l k ≤ l.steps
due_most l k = omega arith

next_step : (l : LayoutView) (k : ℕ) → due_step l k < l.steps → min (due_step l k + l.every) l.steps ≡ due_step l (suc k)
next_step l k below = let more : suc k * l.every ≡ k * l.every + l.every = omega arith in omega (arith, below, more)

due_then : (l : LayoutView) (k : ℕ) → due_step l k < l.steps → due_after l.steps l.every (Some (due_step l k)) ≡ Some (due_step l (suc k))
due_then l k below = rw (lt-ltb (due_step l k) l.steps below) (ap (λ n. Some n) (next_step l k below))

due_none : (l : LayoutView) (k : ℕ) → l.steps ≤ due_step l k → due_after l.steps l.every (Some (due_step l k)) ≡ None
due_none l k over = rw (le-ltb (due_step l k) l.steps over) refl

next_due : (l : LayoutView) (k : ℕ) → 0 < l.every → due_step l k < l.steps → IsTrue (is_due l.steps l.every (due_step l k))
    → IsNextDue l.steps l.every (due_step l k) (due_step l (suc k))
next_due l k some below due =
    let turn = (due_in_turn l.steps l.every some).then (due_step l k) (due_most l k) due in
    subst (λ o. MatchOption o (due_step l k ≡ l.steps) (IsNextDue l.steps l.every (due_step l k))) (due_then l k below) turn

module _ (l : LayoutView) (w : World) (some : 0 < l.every) (few : l.steps ≤ most_steps) (begins : w.step ≡ 0) (fit : StopsFit l) (start : IsGoodState l w)
  where
    -- the run came to its last step
    done_goes : (k : ℕ) (v : World) → l.steps ≤ due_step l k → after w (due_step l k) ≡ Ok v → IsReadableEnd l (due_step l k) (end_of_run l.steps w)
    unfolding end_of_run
    done_goes k v over reached =
        let last : due_step l k ≡ l.steps = let most = due_most l k in omega (arith, most, over) in
        let at : v.step ≡ l.steps = step_is l.steps l.every w begins (due_step l k) v reached ∙ last in
        let is : end_where (after w l.steps) ≡ Done l.steps = ap end_where (ap (after w) (sym last) ∙ reached) ∙ ap (λ (n : ℕ). Done n) at in
        subst (IsReadableEnd l (due_step l k)) (sym is) (record { all = refl; none = due_none l k over })

    -- it stopped on the way to the next frame
    stopped_end : (k step : ℕ) (stop : Stop) → due_step l k < l.steps → end_of_run l.steps w ≡ Stopped step stop → due_step l k < step
        → step ≤ due_step l (suc k) → IsReadableStop l stop → IsReadableEnd l (due_step l k) (end_of_run l.steps w)
    stopped_end k step stop below is behind most fits = subst (IsReadableEnd l (due_step l k)) {x = Stopped step stop} (sym is) (record {
      behind = behind;
      before = subst (λ o. IsSomeAnd o (λ due. step ≤ due)) {x = Some (due_step l (suc k))} (sym (due_then l k below)) most;
      fits = fits;
    })

    stop_goes : (k : ℕ) (v : World) (end : EndMark) → due_step l k < l.steps → due_step l k < due_step l (suc k) → after w (due_step l k) ≡ Ok v
        → after w (due_step l (suc k)) ≡ Err end → IsReadableEnd l (due_step l k) (end_of_run l.steps w)
    stop_goes k v end below more reached stops =
        let n = due_step l k in
        let m = due_step l (suc k) in
        let most = due_most l (suc k) in
        let s = stops_in l w few begins fit start v n m (m - n) end (omega (arith, more)) most reached stops in
        stopped_end k s.step s.stop below (sym (end_stopped l.steps w end m most stops) ∙ s.is) s.behind s.most s.fits

    nothing : (first count : ℕ) → count ≡ 0 → due_states l.steps l.every w first count ≡ []
    unfolding due_states
    nothing first count none = ap (due_states l.steps l.every w first) none

    -- the states behind that of a frame are those from the next one on
    states_on : (k : ℕ) → IsNextDue l.steps l.every (due_step l k) (due_step l (suc k))
        → due_states l.steps l.every w (due_step l k + 1) (l.steps - due_step l k)
        ≡ due_states l.steps l.every w (due_step l (suc k)) (suc (l.steps - due_step l (suc k)))
    states_on k next =
        let n = due_step l k in
        let m = due_step l (suc k) in
        let behind = next.behind in
        let most = next.most in
        let gap = m - (n + 1) in
        let all : l.steps - n ≡ gap + suc (l.steps - m) = omega (arith, behind, most) in
        let on : n + 1 + gap ≡ m = omega (arith, behind) in
        ap (due_states l.steps l.every w (n + 1)) all
        ∙ skipped l.steps l.every w begins (n + 1) gap (suc (l.steps - m))
        (λ step low high. next.none_between step (omega (arith, low)) (omega (arith, high, behind)))
        ∙ ap (λ j. due_states l.steps l.every w j (suc (l.steps - m))) on

    -- the due states behind that of record k
    abbrev pub GoesFrom : ℕ → Type 0
    GoesFrom k = Goes l k (due_states l.steps l.every w (due_step l k + 1) (l.steps - due_step l k)) (end_of_run l.steps w)

    from_last : (k : ℕ) (v : World) → l.steps ≤ due_step l k → after w (due_step l k) ≡ Ok v → GoesFrom k
    from_last k v over reached = last_goes l k _ _ (nothing (due_step l k + 1) _ (omega (arith, over))) (done_goes k v over reached)

    from_next : (k : ℕ) (v : World) → due_step l k < l.steps → IsNextDue l.steps l.every (due_step l k) (due_step l (suc k)) → after w (due_step l k) ≡ Ok v
        → (r : Result World EndMark) → after w (due_step l (suc k)) ≡ r → ((u : World) → r ≡ Ok u → GoesFrom (suc k)) → GoesFrom k
    from_next k v below next reached (Ok u) at rest =
        let m = due_step l (suc k) in
        let states = states_on k next ∙ due_at l.steps l.every w begins m (l.steps - m) u next.due at in
        subst (λ (vs : List World). Goes l k vs (end_of_run l.steps w)) (sym states)
        (more_goes l k u _ _ (record {
          awaited = due_then l k below ∙ ap (λ (n : ℕ). Some n) (sym (step_is l.steps l.every w begins m u at));
          good = good_at l w few begins fit start m u (due_most l (suc k)) at;
        }) (rest u refl))
    from_next k v below next reached (Err end) at rest =
        let m = due_step l (suc k) in
        let none = states_on k next ∙ none_due l.steps l.every w end m (suc (l.steps - m)) at in
        last_goes l k _ _ none (stop_goes k v end below next.behind reached at)

    pub goes : (fuel k : ℕ) (v : World) → l.steps ≤ due_step l k + fuel → IsTrue (is_due l.steps l.every (due_step l k)) → after w (due_step l k) ≡ Ok v
        → GoesFrom k
    goes zero k v enough due reached = from_last k v (omega (arith, enough)) reached
    goes (suc fuel) k v enough due reached = elim (cases_lt (due_step l k) l.steps) [
      | inl below ↦
          (let next = next_due l k some below due in
          let behind = next.behind in
          from_next k v below next reached (after w (due_step l (suc k))) refl
          (λ u at. goes fuel (suc k) u (omega (arith, enough, behind)) next.due at))
      | inr over ↦ from_last k v over reached
    ]
