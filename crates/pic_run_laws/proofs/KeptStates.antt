-- The due states of a run that are due in a longer one too, and those of the longer one behind them.
use Rattle.std.proofs.Common.{◌≡◌, ℕ, zero, suc, ◌+◌, ◌-◌, ◌<◌, ◌≤◌, Bool, true, false, if◌then◌else◌, List, [], ◌∷◌, ◌++◌, filter, Result, Ok, Err}
use Rattle.std.proofs.Common.{refl, sym, ap, ◌∙◌, subst, append-nil, arith}
use Rattle.std.proofs.lemmas.Bool.Decides.{nat_tests}
use Rattle.std.proofs.lemmas.List.Elements.{filter-append}
use Rattle.pic_grid.specs.declared.stop.EndMark.{EndMark}
use Rattle.pic_record.specs.Due.{is_due}
use Rattle.pic_states.specs.Frames.{due_state, due_states}
use Rattle.pic_states.proofs.FrameLaws.{states_split, states_one, states_first, states_joined, after_none}
use Rattle.pic_step.specs.SerialStep.{World}
use Rattle.pic_step.specs.SerialRun.{after}
use Rattle.pic_run_laws.proofs.DueRuns.{step_is}

-- up to the last step of the shorter run
not_due_later : (n m every step : ℕ) → step ≤ n → n ≤ m → is_due n every step ≡ false → is_due m every step ≡ false
not_due_later n m every step most longer none = grind (arith, nat_tests)

-- one state, where it is due
kept_where : (test : World → Bool) (v : World) (b : Bool) → (b ≡ false → test v ≡ false)
    → filter test (if b then v ∷ [] else []) ≡ (if test v then v ∷ [] else [])
kept_where test v true later = refl
kept_where test v false later = ap (λ c. if c then v ∷ [] else []) (sym (later refl))

-- a state that is due in a run of m steps
abbrev pub due_in : ℕ → ℕ → World → Bool
due_in m every v = is_due m every v.step

-- the last due state of the first so many, and those before it
pub record IsLast (steps every : ℕ) (w : World) (count : ℕ) : Type 0 where
  pub before : List World
  pub last : World
  pub states : due_states steps every w 0 count ≡ before ++ last ∷ []
  pub below : last.step < count
  pub reached : after w last.step ≡ Ok last
  pub none : due_states steps every w (last.step + 1) (count - (last.step + 1)) ≡ []

module _ (n m every : ℕ) (w : World) (begins : w.step ≡ 0) (longer : n ≤ m)
  where
    kept_one : (step : ℕ) (r : Result World EndMark) → step ≤ n → after w step ≡ r
        → filter (due_in m every) (due_state n every r) ≡ due_state m every r
    kept_one step (Ok v) most reached =
        let at = step_is n every w begins step v reached in
        kept_where (due_in m every) v (is_due n every v.step) (not_due_later n m every v.step (omega (arith, at, most)) longer)
    kept_one step (Err end) most reached = refl

    -- those that are due in both are those of the longer run
    kept_states : (first count : ℕ) → first + count ≤ n + 1 → filter (due_in m every) (due_states n every w first count) ≡ due_states m every w first count
    unfolding due_states
    kept_states first zero most = refl
    kept_states first (suc count) most =
        filter-append (due_in m every) (due_state n every (after w first)) (due_states n every w (first + 1) count)
        ∙ (λ i. kept_one first (after w first) (omega (arith, most)) refl i ++ kept_states (first + 1) count (omega (arith, most)) i)

    -- behind the last due state of the shorter run none is due up to its last step
    up_to_last : (is : IsLast n every w (n + 1)) → due_states m every w 0 (n + 1) ≡ due_states m every w 0 (is.last.step + 1)
    up_to_last is =
        let k = is.last.step in
        let below = is.below in
        let rest = n + 1 - (k + 1) in
        states_split m every w 0 (k + 1) rest (n + 1) (k + 1) (omega (arith, below)) (let e : 0 + (k + 1) ≡ k + 1 = omega arith in e)
        ∙ ap (λ t. due_states m every w 0 (k + 1) ++ t)
        (sym (kept_states (k + 1) rest (omega (arith, below))) ∙ ap (filter (due_in m every)) is.none)
        ∙ append-nil (due_states m every w 0 (k + 1))

    -- those that are kept, and those that lead on from the last state, are those of the longer run
    pub resumed_states : (is : IsLast n every w (n + 1))
        → filter (due_in m every) (due_states n every w 0 (n + 1)) ++ due_states m every is.last 1 (m - is.last.step)
        ≡ due_states m every w 0 (m + 1)
    resumed_states is =
        let k = is.last.step in
        let below = is.below in
        ap (λ t. t ++ due_states m every is.last 1 (m - k)) (kept_states 0 (n + 1) (omega arith) ∙ up_to_last is)
        ∙ states_joined m every k (m - k) w is.last (omega (arith, below, longer)) is.reached

module _ (steps every : ℕ) (w : World) (begins : w.step ≡ 0) (above : 1 ≤ every)
  where
    -- one state more: none is due, or that is the last one
    none_more : (count : ℕ) → IsLast steps every w count → due_states steps every w 0 (count + 1) ≡ due_states steps every w 0 count ++ []
        → due_states steps every w count 1 ≡ [] → IsLast steps every w (count + 1)
    none_more count is same none =
        let k = is.last.step in
        let below = is.below in
        record {
          before = is.before;
          last = is.last;
          states = same ∙ append-nil (due_states steps every w 0 count) ∙ is.states;
          below = omega (arith, below);
          reached = is.reached;
          none = states_split steps every w (k + 1) (count - (k + 1)) 1 (count + 1 - (k + 1)) count (omega (arith, below)) (omega (arith, below))
              ∙ (λ i. is.none i ++ none i);
        }

    one_more : (count : ℕ) (v : World) → after w count ≡ Ok v → due_states steps every w 0 (count + 1) ≡ due_states steps every w 0 count ++ v ∷ []
        → IsLast steps every w (count + 1)
    unfolding due_states
    one_more count v reached more =
        let at = step_is steps every w begins count v reached in
        let left : count + 1 - (v.step + 1) ≡ 0 = omega (arith, at) in
        record {
          before = due_states steps every w 0 count;
          last = v;
          states = more;
          below = omega (arith, at);
          reached = ap (after w) at ∙ reached;
          none = ap (due_states steps every w (v.step + 1)) left;
        }

    more : (count : ℕ) (r : Result World EndMark) → after w count ≡ r → IsLast steps every w count → IsLast steps every w (count + 1)
    more count (Err end) at is =
        let none : due_states steps every w count 1 ≡ [] = states_one steps every w count ∙ ap (due_state steps every) at in
        none_more count is (split ∙ ap (λ t. due_states steps every w 0 count ++ t) none) none
      where
        split : due_states steps every w 0 (count + 1) ≡ due_states steps every w 0 count ++ due_states steps every w count 1
        split = states_split steps every w 0 count 1 (count + 1) count refl (let e : 0 + count ≡ count = omega arith in e)
    more count (Ok v) at is = go (is_due steps every v.step) refl
      where
        split : due_states steps every w 0 (count + 1) ≡ due_states steps every w 0 count ++ due_states steps every w count 1
        split = states_split steps every w 0 count 1 (count + 1) count refl (let e : 0 + count ≡ count = omega arith in e)

        here : (b : Bool) → is_due steps every v.step ≡ b → due_states steps every w count 1 ≡ (if b then v ∷ [] else [])
        here b due = states_one steps every w count ∙ ap (due_state steps every) at ∙ ap (λ (c : Bool). if c then v ∷ [] else []) due

        go : (b : Bool) → is_due steps every v.step ≡ b → IsLast steps every w (count + 1)
        go true due = one_more count v at (split ∙ ap (λ t. due_states steps every w 0 count ++ t) (here true due))
        go false due = none_more count is (split ∙ ap (λ t. due_states steps every w 0 count ++ t) (here false due)) (here false due)

    -- the first state is due
    first_is : IsLast steps every w 1
    unfolding due_states
    first_is =
        let left : 1 - (w.step + 1) ≡ 0 = omega (arith, begins) in
        record {
          before = [];
          last = w;
          states = states_first steps every w 0 above begins;
          below = omega (arith, begins);
          reached = ap (after w) begins ∙ after_none w;
          none = ap (due_states steps every w (w.step + 1)) left;
        }

    -- so among the first states of a run there is a last due one
    pub last_of : (count : ℕ) → IsLast steps every w (count + 1)
    last_of zero = first_is
    last_of (suc count) = subst (IsLast steps every w) (let e : suc count + 1 ≡ suc (count + 1) = omega arith in sym e)
        (subst (IsLast steps every w) (let e : count + 1 + 1 ≡ suc (count + 1) = omega arith in e)
        (more (count + 1) (after w (count + 1)) refl (last_of count)))
